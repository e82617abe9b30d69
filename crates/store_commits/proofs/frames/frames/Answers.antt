use Rattle.std.proofs.Common.{rules, ◌≡◌, ◌+◌, ◌++◌, ◌∙◌, ℕ, List, IfSome, ap, sym, subst, length, map}
use Rattle.record_text.specs.Change.{change_of}
use Rattle.record_text.specs.Frame.{entry}
use Rattle.log_frames.specs.Kinds.{frame_as, logged, note}
use Rattle.log_frames.specs.declared.kind.Kind.TheVariants.{Noted}
use Rattle.doc_machine.specs.Marking.{marking_of}
use Rattle.doc_machine.specs.Transaction.{all_of, pure_changes, transaction_of}
use Rattle.store_commits.specs.Folds.{frames_of}
use Rattle.store_commits.specs.Inside.{frames_before}
use Rattle.store_commits.proofs.Changes.{before_none, before_one, marked_frames}
use Rattle.store_commits.proofs.frames.frames.Goals as goal

pub returns-in-Several : goal.returns-in-Several
returns-in-Several c =
    let rides = c.args.rides in
    let seq = c.args.seq in
    let same : frames_before rides 0 seq (map change_of c.deref.result.now) ≡ frames_of rides seq (transaction_of c.args.transaction.now) =
    ap (λ x. frames_before rides 0 seq (map change_of x)) c.deref.ensures.value
    ∙ before_none c.last_frames_are_those_of_format_2.ensures.one rides seq (map change_of c.in-Several.commands.items)
    ∙ ap (λ t. frames_of rides seq (transaction_of t)) (sym c.in-Several.is) in
    subst (λ (l : List ℕ). IfSome c.frames_before.result (λ bytes. bytes.items ≡ l)) same c.frames_before.ensures

-- the frames of the changes, and that of the mark behind them
pub returns-in-Ok : goal.returns-in-Ok
returns-in-Ok c =
    let rides = c.args.rides in
    let seq = c.args.seq in
    let m = marking_of c.in-Marked.marking in
    let cs = all_of (pure_changes c.in-Marked.changes) in
    let front = c.in_ok-frames-in-Marked.frames.items in
    let last : c.in_ok-last-in-Marked.last ≡ seq + length cs = search rules in
    c.in-Ok.ensures.items ∙ ap (λ (l : List ℕ). front ++ l) (c.deref-in-Marked.ensures.value ∙ c.in_ok-mark-in-Marked.ensures)
    ∙ ap (λ (n : ℕ). front ++ frame_as (logged Noted (entry n (note m.key m.value)))) last
    ∙ ap (λ (l : List ℕ). l ++ frame_as (logged Noted (entry (seq + length cs) (note m.key m.value)))) (c.in_ok-frames-in-Marked.ensures ∙ before_one seq cs)
    ∙ sym (marked_frames seq cs (entry (seq + length cs) (note m.key m.value)))
    ∙ ap (λ t. frames_of rides seq (transaction_of t)) (sym c.in-Marked.is)
