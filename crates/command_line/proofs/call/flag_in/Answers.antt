use Rattle.std.proofs.Common.{◌∙◌}
use Rattle.std.specs.Str.Parse.{ParsesBool}
use Rattle.clap.specs.Words.{found_of, one_of, rows_of}
use Rattle.clap.proofs.WalkLemmas.{one_text-rows}
use Rattle.command_line.proofs.Meant.{flag_read, flag_told}
use Rattle.command_line.proofs.call.flag_in.Goals as goal

pub returns-clause-sound : goal.returns-clause-sound
returns-clause-sound c =
    let same = one_text-rows (found_of c.args.options.now) c.args.name.now in
    flag_told ParsesBool (λ t x g. g) (one_of c.args.name.now (rows_of (found_of c.args.options.now))) c.get_one.result
    (λ none. c.get_one.ensures.none (same ∙ none)) (λ t some. c.get_one.ensures.value t (same ∙ some))

pub returns-clause-held : goal.returns-clause-held
returns-clause-held c = λ set held.
    flag_read ParsesBool (λ t x g. g) set c.get_one.result (c.get_one.ensures.value _ (one_text-rows (found_of c.args.options.now) c.args.name.now ∙ held))
