use Rattle.std.proofs.Common.{◌≡◌, ◌∙◌, codes, sym, ap, Some, None, inl, inr, refl, arith}
use Rattle.clap.specs.Words.{found_of, rows_of}
use Rattle.clap.proofs.WalkLemmas.{first_value-rows}
use Rattle.command_line.proofs.Meant.{holds_none}
use Rattle.command_line.proofs.call.history_in.Goals as goal

pub returns-in-Some-clause-held : goal.returns-in-Some-clause-held
returns-in-Some-clause-held c = λ n most held. elim held [
  | inl some ↦ c.number_in.ensures.held n (omega arith) most some
  | inr none ↦
      let bad : Some c.in-Some.field-0.now ≡ None = c.in-Some.ensures ∙ first_value-rows (found_of c.args.options.now) (codes "history") ∙ none.1 in
      cc bad
]

pub returns-in-None-clause-sound : goal.returns-in-None-clause-sound
returns-in-None-clause-sound c = inr (refl, sym (c.in-None.ensures ∙ first_value-rows (found_of c.args.options.now) (codes "history")))

pub returns-in-None-clause-held : goal.returns-in-None-clause-held
returns-in-None-clause-held c = λ n most held. elim held [
  | inl some ↦ absurd (holds_none (codes "history") n (rows_of (found_of c.args.options.now)) (sym (c.in-None.ensures ∙ first_value-rows (found_of c.args.options.now) (codes "history"))) some)
  | inr none ↦ ap Some (sym none.0)
]
