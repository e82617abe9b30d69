use Rattle.std.proofs.Common.{◌≡◌, ◌+◌, ◌<◌, ◌^◌, List, ℕ, Option, option_map, ◌++◌, codes, decimal, false, length, ap, sym, ◌∙◌, arith}
use Rattle.std.proofs.lemmas.Result.{IfOk-weaker}
use Rattle.change_history.specs.History.{Told}
use Rattle.record_text.specs.Change.{Change}
use Rattle.doc_tree.specs.Text.{elements_text}
use Rattle.doc_machine.specs.Transaction.{changes_of}
use Rattle.store_commits.specs.Folds.{mark_after}
use Rattle.protocol.specs.Request.{objects_of}
use Rattle.protocol.specs.Written.{mark_text}
use Rattle.protocol.proofs.Frames.{spells}
use Rattle.protocol.proofs.Texts.{joined_eight}
use Rattle.protocol.proofs.Told.{text_of-transaction_object}
use Rattle.protocol.proofs.changes.with_transaction.Goals as goal

pub with_mark-requires : goal.with_mark-requires
with_mark-requires c =
    let t = c.requires.0 in
    let told = c.requires.1 in
    let x = c.args.transaction.now in
    let last : c.transaction.inside.last ≡ x.last = ap (λ (t : Told). t.last) c.transaction.view_is in
    let s = spells c.args.before x t told (omega (arith, last)) in
    (mark_after c.args.before t, told.readable.1, (c.in_ok-changed.ensures s.spelled s.read (c.as_slice.ensures.value ∙ ap (λ (t : Told). t.frames) c.transaction.view_is ∙ s.are)).1 ∙ s.mark_is)

pub returns : goal.returns
returns c = λ t told.
    let before = c.args.before in
    let m = mark_after before t in
    let x = c.args.transaction.now in
    let last : c.transaction.inside.last ≡ x.last = ap (λ (t : Told). t.last) c.transaction.view_is in
    let s = spells before x t told (omega (arith, last)) in
    let w = c.in_ok-changed.ensures s.spelled s.read (c.as_slice.ensures.value ∙ ap (λ (t : Told). t.frames) c.transaction.view_is ∙ s.are) in
    let changes = elements_text false (objects_of (changes_of t)) in
    let count = before + length (changes_of t) in
    let opened = c.in_ok-opened.opened.items in
    let parted = c.in_ok-parted.parted.items in
    let line = c.args.line.items in
    IfOk-weaker c.with_bytes-4.result _ _ (λ longer is.
    joined_eight line (codes "{\"changes\":[") changes (codes ",\"first\":") (decimal (before + 1)) (codes ",\"last\":") (decimal count) (mark_text m) (codes "}")
    opened c.in_ok-changed.changed.items c.in_ok-named.named.items c.in_ok-first.first.items parted c.in_ok-ended.ended.items c.in_ok-marked.marked.items longer.items
    c.in_ok-opened.ensures
    (w.0 ∙ ap (λ (cs : List Change). opened ++ elements_text false (objects_of cs)) s.changes)
    c.in_ok-named.ensures
    c.in_ok-first.ensures
    c.in_ok-parted.ensures
    (c.in_ok-ended.ensures ∙ ap (λ (n : ℕ). parted ++ decimal n) (last ∙ s.last_is))
    (c.in_ok-marked.ensures m told.readable.1 (w.1 ∙ s.mark_is))
    is
    ∙ ap (λ (x : List ℕ). line ++ x) (sym (text_of-transaction_object before t))) c.with_bytes-4.ensures
