use Rattle.std.proofs.Common.{◌-◌, List, sym, ◌∙◌, ap, arith, map, take, insert, length, is_ok, if◌then◌else◌}
use Rattle.std.specs.Vec.{vec_len}
use Rattle.indexmap.proofs.SetLemmas.{map-insert}
use Rattle.doc_changes.specs.MarkView.{mark_in, marks_before}
use Rattle.doc_changes.specs.Marks.{Mark}
use Rattle.doc_changes.specs.declared.marks.Unset.{Unset}
use Rattle.doc_changes.proofs.Marked.{popped_seen}
use Rattle.doc_changes.proofs.marks.Marks.unset.Goals as goal

pub returns-in-Replaced : goal.returns-in-Replaced
returns-in-Replaced c =
    let es = c.self.inside.held.items in
    let left = c.pop-last.new.self.items in
    let i = c.in-Replaced.index in
    let gone = c.in-Replaced.gone in
    ap (map mark_in) (c.insert.ensures.items ∙ ap (λ r. if is_ok r then insert left i gone else left) c.unwrap.ensures)
    ∙ map-insert mark_in left i gone
    ∙ ap (λ (ms : List Mark). insert ms i (mark_in gone)) (popped_seen es left (vec_len c.self.inside.held) (omega arith) c.pop-last.ensures.rest)
    ∙ ap (λ (ms : List Mark). insert (take (length ms - 1) ms) i (mark_in gone)) c.self.view_is
    ∙ ap (λ (u : Unset). marks_before u c.args.self.now) (sym c.in-Replaced.is)
