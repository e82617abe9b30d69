use Rattle.std.proofs.Common.{◌≡◌, ◌∙◌, Bool, Result, [], ap, subst, sym, true}
use Rattle.command_line.specs.Call.{Asked, asked_of}
use Rattle.jpstore.specs.Calls.{Does, end_of, note_in}
use Rattle.jpstore.specs.Exits.{Exits}
use Rattle.file_programs.specs.declared.fault.Fault.{Fault}
use Rattle.jpstore.specs.declared.kept.Kept.{Kept}
use Rattle.jpstore.proofs.Fine.{not_none}
use Rattle.jpstore.proofs.Noting.{exits_after}
use Rattle.jpstore.proofs.perform.perform_where.Goals as goal

pub returns-in-Ok-clause-performs : goal.returns-in-Ok-clause-performs
returns-in-Ok-clause-performs g c =
    let kept : Kept = c.perform_call-kept.result in
    let exit = c.exit_of-exit.result in
    let order = c.in-Ok.order in
    let left = g.I.Read.remaining c.args.reader.now in
    let left_new = g.I.Read.remaining c.perform_call-kept.new.reader in
    let before = g.O.Write.contents c.args.writer.now in
    let after = g.O.Write.contents c.perform_call-kept.new.writer in
    let said = g.E.Write.contents c.args.errors.now in
    let said_new = g.E.Write.contents c.exit_of-exit.new.errors in
    let said_mid = g.E.Write.contents c.perform_call-kept.new.errors in
    let noted = λ (is : exit.said ≡ true). c.perform_call-kept.ensures.noted (sym c.is_noted-noted.ensures ∙ c.exit_of-exit.ensures.noted is) in
    let exits = exits_after (end_of kept) (note_in kept) (asked_of order.call) order.why exit said said_mid said_new noted (λ none. ap g.E.Write.contents (c.perform_call-kept.ensures.silent none))
    (subst (λ (r : Result (Unit {0}) Fault). Exits r [] (asked_of order.call) order.why exit said_mid said_new) c.ended.ensures c.exit_of-exit.ensures.exits) in
    record {
      call = λ asked why range row.
          let same = c.in-Ok.ensures.row asked why range row in (
            subst (λ (a : Asked). Does c.args.held a kept left left_new before after) same.0 c.perform_call-kept.ensures.does,
            subst (λ (a : Asked). Exits (end_of kept) (note_in kept) a why exit said said_new) same.0 (subst (λ (b : Bool). Exits (end_of kept) (note_in kept) (asked_of order.call) b exit said said_new) same.1 exits),
          );
      lacks = λ asked why range row contrary. absurd (not_none kept contrary);
      no_call = λ none. absurd (none.0 (asked_of order.call) c.in-Ok.ensures.sound);
      unread = λ contrary. absurd (not_none kept contrary);
    }
