-- From what the characters spell to what the text is read as.
use Rattle.std.proofs.Common.{◌≡◌, ◌≤◌, ◌<◌, List, ℕ, length, Result, Ok, Err, IfOk, IfErr, inr, subst, sym, ⊎_elim, arith}
use Rattle.std.specs.Prelude.{chars, MatchResult}
use Rattle.path_grammar.specs.Answers.{SpellsOnly, SpellsLeftOut, SpellsNone}
use Rattle.path_grammar.specs.Grammar.{Spells}
use Rattle.path_grammar.specs.Profile.{InProfile}
use Rattle.path_grammar.specs.Syntax.{Segments}
use Rattle.path_grammar.specs.Characters.{Text}
use Rattle.path_parse.specs.Answer.{IsFaultOf, IsFaultOfCharacters, IsQueryOf}
use Rattle.path_parse.specs.SyntaxView.{query_view}
use Rattle.path_parse.specs.declared.fault.QueryFault.{QueryFault}
use Rattle.refusals.specs.declared.numbers.TheConstants.{PATH, PATH_LEFT_OUT, PATH_LONG, MEMORY}
use Rattle.path_parse.specs.declared.syntax.Query.{Query}

module _ (text : List ℕ) (short : length text ≤ 1024) (t : Text) (same : t ≡ chars text) where
  pub answered : (r : Result Query QueryFault) → IfOk r (λ q. SpellsOnly (query_view q) t) → IfOk r (IsQueryOf text)
  answered (Ok q) spelled = (short, subst (SpellsOnly (query_view q)) same spelled)
  answered (Err e) spelled = spelled

  pub refused : (r : Result Query QueryFault) → IfErr r (IsFaultOfCharacters t) → IfErr r (IsFaultOf text)
  refused (Ok q) fault = fault
  refused (Err e) fault = inr (short, subst (λ (u : Text). IsFaultOfCharacters u e) same fault)

-- where a query in profile is spelled, that query is read, unless memory was wanting
module _ (text : List ℕ) (w : Segments) (short : length text ≤ 1024) (spelled : Spells w (chars text)) (in_profile : InProfile w) where
  only_memory : (e : QueryFault) → IsFaultOf text e → e.number ≡ MEMORY
  only_memory e fault =
      ⊎_elim
      (λ (long : (e.number ≡ PATH_LONG) × (1024 < length text)). absurd (omega (arith, long.1)))
      (λ (judged : (length text ≤ 1024) × IsFaultOfCharacters (chars text) e). ⊎_elim
      (λ (left : (e.number ≡ PATH_LEFT_OUT) × SpellsLeftOut (chars text)). let is = left.1.1 w spelled in absurd cc)
      (λ more. ⊎_elim
      (λ (none : (e.number ≡ PATH) × SpellsNone (chars text)). absurd (none.1 w spelled))
      (λ (memory : e.number ≡ MEMORY). memory)
      more)
      judged.1)
      fault

  pub read_is_spelled : (r : Result Query QueryFault) → IfOk r (IsQueryOf text) → IfErr r (IsFaultOf text) → MatchResult r (λ q. query_view q ≡ w) (λ e. e.number ≡ MEMORY)
  read_is_spelled (Ok q) is fault = sym (is.1.2 w spelled)
  read_is_spelled (Err e) is fault = only_memory e fault
