use Rattle.std.proofs.Common.{◌≡◌, ◌∙◌, codes, sym, ap, Some, None, inl, inr, refl}
use Rattle.clap.specs.Words.{found_of, rows_of}
use Rattle.clap.proofs.WalkLemmas.{first_value-rows}
use Rattle.command_line.proofs.Meant.{holds_none}
use Rattle.command_line.proofs.call.format_number.Goals as goal

pub returns-in-Some-clause-held : goal.returns-in-Some-clause-held
returns-in-Some-clause-held c = λ n least most held. elim held [
  | inl some ↦ c.number_in.ensures.held n least most some.1
  | inr none ↦
      let bad : Some c.in-Some.field-0.now ≡ None = c.in-Some.ensures ∙ first_value-rows (found_of c.args.options.now) (codes "format") ∙ none.1 in
      cc bad
]

pub returns-in-None-clause-sound : goal.returns-in-None-clause-sound
returns-in-None-clause-sound c = inr (refl, sym (c.in-None.ensures ∙ first_value-rows (found_of c.args.options.now) (codes "format")))

pub returns-in-None-clause-held : goal.returns-in-None-clause-held
returns-in-None-clause-held c = λ n least most held. elim held [
  | inl some ↦ absurd (holds_none (codes "format") n (rows_of (found_of c.args.options.now)) (sym (c.in-None.ensures ∙ first_value-rows (found_of c.args.options.now) (codes "format"))) some.1)
  | inr none ↦ ap Some (sym none.0)
]
