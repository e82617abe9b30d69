use Rattle.std.proofs.Common.{◌≡◌, ℕ, List, [], ◌∷◌, suc, length, map, drop, Some, Bor, refl, ap, sym, subst, arith}
use Rattle.std.proofs.lemmas.List.{drop_all}
use Rattle.std.proofs.lemmas.Result.{on_ok_weaker}
use Rattle.serde.specs.Event.{Logs, seq_begins}
use Rattle.serde_json.specs.Events.{SendsItems, items_len}
use Rattle.doc_tree.specs.Text.{items_of}
use Rattle.protocol.specs.Reply.{texts}
use Rattle.protocol.proofs.text.send_texts.Goals as goal

counted : (ts : List (Bor (List ℕ))) → items_len (items_of (texts (map (λ t. t.now) ts))) ≡ length ts
counted [] = refl
counted (t ∷ ts) = ap suc (counted ts)

pub returns : goal.returns
returns g c =
    let ts = c.args.all.now in
    let first = g.S.Serializer.written c.begin_seq.new.self in
    let end = g.S.Serializer.written c.end_seq.new.self in
    let begun = subst (λ n. Logs (g.S.Serializer.written c.args.out.now) first (seq_begins (Some n))) (sym (counted ts)) c.in_ok-begin_seq.ensures in
    let none : drop c.loop-text.text-index ts ≡ [] = drop_all c.loop-text.text-index ts (omega arith) in
    on_ok_weaker c.end_seq.result (λ e. (
      first,
      begun,
      c.loop-text.invariant end (subst (λ ys. SendsItems (items_of (texts (map (λ t. t.now) ys))) (g.S.Serializer.written c.loop-text.out) end) (sym none) e),
    )) c.end_seq.ensures
