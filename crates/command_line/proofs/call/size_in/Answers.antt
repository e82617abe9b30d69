use Rattle.std.proofs.Common.{◌≡◌, ◌∙◌, ℕ, List, Option, Some, None, IfSome, codes, sym, ap, subst, unwrap_or, inl, inr, refl}
use Rattle.clap.specs.Words.{found_of}
use Rattle.clap.proofs.WalkLemmas.{first_value-rows}
use Rattle.command_line.specs.Sizes.{SpellsSize}
use Rattle.command_line.proofs.call.size_in.Goals as goal

if_some : {P Q : ℕ → Type 0} (r : Option ℕ) → ((n : ℕ) → P n → Q n) → IfSome r P → IfSome r Q
if_some (Some n) f h = f n h
if_some None f h = tt

pub returns-in-Some-clause-sound : goal.returns-in-Some-clause-sound
returns-in-Some-clause-sound c =
    let found = sym (c.in-Some.ensures ∙ first_value-rows (found_of c.args.options.now) (codes "size")) in
    if_some c.sectors_of_size.result (λ n spells. inl (c.in-Some.text.now, found, spells)) c.sectors_of_size.ensures.sound

pub returns-in-Some-clause-held : goal.returns-in-Some-clause-held
returns-in-Some-clause-held c = λ n least most held. elim held [
  | inl some ↦
      let both : Some c.in-Some.text.now ≡ Some some.0 = c.in-Some.ensures ∙ first_value-rows (found_of c.args.options.now) (codes "size") ∙ some.1 in
      let same : c.in-Some.text.now ≡ some.0 = ap (λ (o : Option (List ℕ)). unwrap_or o some.0) both in
      c.sectors_of_size.ensures.held n least most (subst (λ t. SpellsSize t n) (sym same) some.2)
  | inr none ↦
      let bad : Some c.in-Some.text.now ≡ None = c.in-Some.ensures ∙ first_value-rows (found_of c.args.options.now) (codes "size") ∙ none.1 in
      cc bad
]

pub returns-in-None-clause-sound : goal.returns-in-None-clause-sound
returns-in-None-clause-sound c = inr (refl, sym (c.in-None.ensures ∙ first_value-rows (found_of c.args.options.now) (codes "size")))

pub returns-in-None-clause-held : goal.returns-in-None-clause-held
returns-in-None-clause-held c = λ n least most held. elim held [
  | inl some ↦
      let bad : None ≡ Some some.0 = c.in-None.ensures ∙ first_value-rows (found_of c.args.options.now) (codes "size") ∙ some.1 in
      cc bad
  | inr none ↦ ap Some (sym none.0)
]
