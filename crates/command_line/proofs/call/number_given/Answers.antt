use Rattle.std.proofs.Common.{◌∙◌}
use Rattle.std.specs.Str.Parse.{ParsesUnsigned, ExplainsUnsignedError, HasUnsignedDigitsIfOk}
use Rattle.clap.specs.Words.{found_of, one_of, rows_of}
use Rattle.clap.proofs.WalkLemmas.{one_text-rows}
use Rattle.command_line.proofs.Meant.{reads, spells}
use Rattle.command_line.proofs.call.number_given.Goals as goal

pub returns-clause-sound : goal.returns-clause-sound
returns-clause-sound c =
    let same = one_text-rows (found_of c.args.options.now) c.args.name.now in
    spells (λ bs r. ParsesUnsigned 64 10 bs r × ExplainsUnsignedError 10 bs r × HasUnsignedDigitsIfOk bs r) (λ t x g. g.0) (one_of c.args.name.now (rows_of (found_of c.args.options.now))) c.get_one.result
    (λ none. c.get_one.ensures.none (same ∙ none)) (λ t some. c.get_one.ensures.value t (same ∙ some))

pub returns-clause-held : goal.returns-clause-held
returns-clause-held c = λ n h held.
    reads (λ bs r. ParsesUnsigned 64 10 bs r × ExplainsUnsignedError 10 bs r × HasUnsignedDigitsIfOk bs r) (λ t x g. g.0) n held.0 c.get_one.result h held.2
    (c.get_one.ensures.value held.0 (one_text-rows (found_of c.args.options.now) c.args.name.now ∙ held.1))
