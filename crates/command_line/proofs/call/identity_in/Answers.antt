use Rattle.std.proofs.Common.{◌≡◌, ◌∙◌, ℕ, List, Option, Some, None, codes, sym, ap, subst, unwrap_or, refl}
use Rattle.clap.specs.Words.{Row, first_of, found_of, rows_of}
use Rattle.clap.proofs.WalkLemmas.{first_value-rows}
use Rattle.command_line.specs.Call.{SpellsIdentity}
use Rattle.command_line.specs.Options.{HoldsIdentity}
use Rattle.command_line.proofs.call.identity_in.Goals as goal

pub returns-in_ok-identity_of-in-Some-clause-sound : goal.returns-in_ok-identity_of-in-Some-clause-sound
returns-in_ok-identity_of-in-Some-clause-sound c =
    (c.in-Some.text.now, sym (c.in-Some.ensures ∙ first_value-rows (found_of c.args.options.now) (codes "id")), c.in_ok-identity_of-in-Some.ensures.sound)

-- the text that was found is that of the options
text_is : (found : List ℕ) (told : Option (List ℕ)) (text : List ℕ) → Some found ≡ told → told ≡ Some text → found ≡ text
text_is found told text one other = let both : Some found ≡ Some text = one ∙ other in ap (λ (o : Option (List ℕ)). unwrap_or o text) both

-- what a text that was found says of the identity that the options hold
of_text : {A : Type 0} (found : List ℕ) (identity : Option ℕ) (options : List Row) → Some found ≡ first_of (codes "id") options → HoldsIdentity identity options
    → ((n : ℕ) → identity ≡ Some n → SpellsIdentity found n → A) → A
of_text found None options is held f = let bad : Some found ≡ None = is ∙ held in cc bad
of_text found (Some n) options is held f =
    f n refl (subst (λ t. SpellsIdentity t n) (sym (text_is found (first_of (codes "id") options) held.0 is held.1)) held.2)

pub returns-in_ok-identity_of-in-Some-clause-held : goal.returns-in_ok-identity_of-in-Some-clause-held
returns-in_ok-identity_of-in-Some-clause-held c = λ identity held.
    of_text c.in-Some.text.now identity (rows_of (found_of c.args.options.now)) (c.in-Some.ensures ∙ first_value-rows (found_of c.args.options.now) (codes "id")) held
    (λ n is spells. ap Some (c.in_ok-identity_of-in-Some.ensures.held n spells ∙ sym is))

pub returns-in_err-identity_of-in-Some-clause-held : goal.returns-in_err-identity_of-in-Some-clause-held
returns-in_err-identity_of-in-Some-clause-held c = λ identity held.
    of_text c.in-Some.text.now identity (rows_of (found_of c.args.options.now)) (c.in-Some.ensures ∙ first_value-rows (found_of c.args.options.now) (codes "id")) held
    (λ n is spells. cc (c.in_err-identity_of-in-Some.ensures.held n spells))

pub returns-in-None-clause-sound : goal.returns-in-None-clause-sound
returns-in-None-clause-sound c = sym (c.in-None.ensures ∙ first_value-rows (found_of c.args.options.now) (codes "id"))

pub returns-in-None-clause-held : goal.returns-in-None-clause-held
returns-in-None-clause-held c = go
  where
    go : (identity : Option ℕ) → HoldsIdentity identity (rows_of (found_of c.args.options.now)) → Some None ≡ Some identity
    go None held = refl
    go (Some n) held = let bad : None ≡ Some held.0 = c.in-None.ensures ∙ first_value-rows (found_of c.args.options.now) (codes "id") ∙ held.1 in cc bad
