use Rattle.std.proofs.Common.{ap, ◌∙◌, map, subst, sym}
use Rattle.clap.specs.Words.{FailsBy, fault_of, is_simple, is_simple_and_free, subcommand_of, takes}
use Rattle.command_line.specs.Options.{Means, MeansWhy}
use Rattle.command_line.proofs.Readings.{simple, simple_and_free}
use Rattle.command_line.proofs.Rows.{read_as_row, both_ways, of_err, of_ok}
use Rattle.command_line.proofs.call.matches_of.Goals as goal

pub returns : goal.returns
returns c =
    let words = map (λ w. w.now) c.args.words.now in
    let called = c.try_get_matches_from_mut.ensures in
    let built = c.in_ok-program.ensures.ok in
    record {
      meaning = of_ok c.try_get_matches_from_mut.result _ _ called.ok (λ m has.
          let found = has.2 (ap is_simple built ∙ simple) in
          found.1 ∙ ap (λ a. subcommand_of a words) built);
      row = λ asked why range row.
          both_ways c.try_get_matches_from_mut.result _ _ _ _
          called.ok (λ m has.
          let found = has.2 (ap is_simple built ∙ simple) in
          subst (λ met. Means met asked × MeansWhy met asked why) (sym (found.1 ∙ ap (λ a. subcommand_of a words) built)) (read_as_row asked why words range row).0)
          called.passes (λ e passes. passes (ap (λ a. takes a words) built ∙ (read_as_row asked why words range row).1));
      err = of_err c.try_get_matches_from_mut.result _ (subst (λ a. FailsBy (fault_of a words) c.try_get_matches_from_mut.result) built (called.kinds (ap is_simple_and_free built ∙ simple_and_free)));
    }
