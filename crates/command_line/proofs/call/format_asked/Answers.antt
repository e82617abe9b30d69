use Rattle.std.proofs.Common.{◌≡◌, ◌∙◌, ℕ, List, Option, Some, None, IfSome, codes, sym, ap, refl}
use Rattle.clap.specs.Words.{Row, first_of, found_of, rows_of}
use Rattle.clap.proofs.WalkLemmas.{first_value-rows}
use Rattle.command_line.specs.Call.{IsFormatNumber}
use Rattle.command_line.specs.Options.{HoldsFormat, HoldsNumber}
use Rattle.command_line.proofs.Meant.{holds_none}
use Rattle.command_line.proofs.call.format_asked.Goals as goal

-- what a text that was found says of the format that the options ask for
of_text : {A : Type 0} (found : List ℕ) (version : Option ℕ) (options : List Row) → Some found ≡ first_of (codes "format") options → IfSome version IsFormatNumber → HoldsFormat version options
    → ((n : ℕ) → version ≡ Some n → IsFormatNumber n → HoldsNumber (codes "format") n options → A) → A
of_text found None options is range held f = let bad : Some found ≡ None = is ∙ held in cc bad
of_text found (Some n) options is range held f = f n refl range held

pub returns-in_ok-number_in-in-Some-clause-held : goal.returns-in_ok-number_in-in-Some-clause-held
returns-in_ok-number_in-in-Some-clause-held c = λ version range held.
    of_text c.in-Some.field-0.now version (rows_of (found_of c.args.options.now)) (c.in-Some.ensures ∙ first_value-rows (found_of c.args.options.now) (codes "format")) range held
    (λ n is fits number. ap Some (c.in_ok-number_in-in-Some.ensures.held n fits.0 fits.1 number ∙ sym is))

pub returns-in_err-number_in-in-Some-clause-held : goal.returns-in_err-number_in-in-Some-clause-held
returns-in_err-number_in-in-Some-clause-held c = λ version range held.
    of_text c.in-Some.field-0.now version (rows_of (found_of c.args.options.now)) (c.in-Some.ensures ∙ first_value-rows (found_of c.args.options.now) (codes "format")) range held
    (λ n is fits number. cc (c.in_err-number_in-in-Some.ensures.held n fits.0 fits.1 number))

pub returns-in-None-clause-sound : goal.returns-in-None-clause-sound
returns-in-None-clause-sound c = sym (c.in-None.ensures ∙ first_value-rows (found_of c.args.options.now) (codes "format"))

pub returns-in-None-clause-held : goal.returns-in-None-clause-held
returns-in-None-clause-held c = go
  where
    go : (version : Option ℕ) → IfSome version IsFormatNumber → HoldsFormat version (rows_of (found_of c.args.options.now)) → Some None ≡ Some version
    go None range held = refl
    go (Some n) range held = absurd (holds_none (codes "format") n (rows_of (found_of c.args.options.now)) (sym (c.in-None.ensures ∙ first_value-rows (found_of c.args.options.now) (codes "format"))) held)
