use Rattle.std.proofs.Common.{List, ℕ, Option, option_map, [], ◌++◌, codes, decimal, ap, sym, ◌∙◌, false}
use Rattle.std.proofs.lemmas.Result.{IfOk-weaker}
use Rattle.doc_tree.specs.Text.{elements_text}
use Rattle.protocol.specs.Changes.{transaction_objects}
use Rattle.protocol.specs.Written.{identity_text}
use Rattle.protocol.proofs.Texts.{joined_five}
use Rattle.protocol.proofs.Told.{line_of-changes_reply}
use Rattle.protocol.proofs.changes.whole_line.Goals as goal

pub returns : goal.returns
returns c = λ ts told.
    let id = option_map (λ id. id.now) c.args.identity in
    let listed = elements_text false (transaction_objects c.args.from ts) in
    let ending = identity_text id ++ (codes ",\"ok\":true,\"seq\":" ++ (decimal c.args.seq ++ codes "}\n")) in
    IfOk-weaker c.with_bytes-2.result _ _ (λ line is.
    joined_five c.in_ok-opened.opened.items listed (identity_text id) (codes ",\"ok\":true,\"seq\":") (decimal c.args.seq) (codes "}\n")
    c.in_ok-listed.listed.items c.in_ok-named.named.items c.in_ok-parted.parted.items c.in_ok-counted.counted.items line.items
    (c.in_ok-listed.ensures ts told) c.in_ok-named.ensures c.in_ok-parted.ensures c.in_ok-counted.ensures is
    ∙ ap (λ (t : List ℕ). t ++ (listed ++ ending)) c.in_ok-opened.ensures
    ∙ sym (line_of-changes_reply id c.args.seq c.args.from ts)) c.with_bytes-2.ensures
