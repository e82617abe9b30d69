-- In profile, what is kept is the whole query; and what the reader's answer says of all queries that are spelled.
use Rattle.std.proofs.Common.{◌≡◌, Bool, true, false, ◌||◌, Some, None, refl, sym, ap, subst, ◌∙◌}
use Rattle.path_grammar.specs.Syntax.{Literal, Selector, name_selector, wildcard_selector, index_selector, filter_selector, slice_selector, Selectors, no_selectors, selector, Segments, no_segments, segment, Expression, logical_or, logical_and, logical_not, existence, comparison, match_of, search_of, Expressions, no_expressions, expression, Operand, literal, singular_query, length_of, count_of, value_of}
use Rattle.path_grammar.specs.Profile.{InProfile, literal_left_out, selector_left_out, selectors_left_out, segments_left_out, expression_left_out, expressions_left_out, operand_left_out}
use Rattle.path_grammar.specs.Kept.{literal_kept, selector_kept, selectors_kept, segments_kept, expression_kept, expressions_kept, operand_kept}
use Rattle.path_grammar.specs.Characters.{Text}
use Rattle.path_grammar.specs.Grammar.{Spells}
use Rattle.path_grammar.specs.Answers.{SpellsOnly, SpellsLeftOut, SpellsNone}
use Rattle.path_grammar.specs.Reading.{read_whole}
use Rattle.path_grammar.proofs.Tools.{some_is, none_some}
use Rattle.path_grammar.proofs.Complete.{query_complete_whole}
use Rattle.path_grammar.proofs.Sound.{query_sound}

neither : (a b : Bool) → (a || b) ≡ false → (a ≡ false) × (b ≡ false)
neither false false e = (refl, refl)
neither true b e = absurd cc
neither false true e = absurd cc

literal_kept-in_profile : (l : Literal) → literal_left_out l ≡ false → literal_kept l ≡ l
literal_kept-in_profile l e = rw e refl

mutual
  selector_kept-in_profile : (s : Selector) → selector_left_out s ≡ false → selector_kept s ≡ s
  selector_kept-in_profile (name_selector n) e = refl
  selector_kept-in_profile wildcard_selector e = refl
  selector_kept-in_profile (index_selector z) e = refl
  selector_kept-in_profile (filter_selector x) e = ap filter_selector (expression_kept-in_profile x e)
  selector_kept-in_profile (slice_selector a b c) e = refl

  selectors_kept-in_profile : (ss : Selectors) → selectors_left_out ss ≡ false → selectors_kept ss ≡ ss
  selectors_kept-in_profile no_selectors e = refl
  selectors_kept-in_profile (selector s ss) e = let n = neither _ _ e in rw (selector_kept-in_profile s n.0, selectors_kept-in_profile ss n.1) refl

  pub segments_kept-in_profile : (q : Segments) → segments_left_out q ≡ false → segments_kept q ≡ q
  segments_kept-in_profile no_segments e = refl
  segments_kept-in_profile (segment d ss q) e = let n = neither _ _ e in rw (selectors_kept-in_profile ss n.0, segments_kept-in_profile q n.1) refl

  expression_kept-in_profile : (x : Expression) → expression_left_out x ≡ false → expression_kept x ≡ x
  expression_kept-in_profile (logical_or es) e = ap logical_or (expressions_kept-in_profile es e)
  expression_kept-in_profile (logical_and es) e = ap logical_and (expressions_kept-in_profile es e)
  expression_kept-in_profile (logical_not x) e = ap logical_not (expression_kept-in_profile x e)
  expression_kept-in_profile (existence root q) e = ap (existence root) (segments_kept-in_profile q e)
  expression_kept-in_profile (comparison op a b) e = let n = neither _ _ e in rw (operand_kept-in_profile a n.0, operand_kept-in_profile b n.1) refl
  expression_kept-in_profile (match_of a b) e = absurd cc
  expression_kept-in_profile (search_of a b) e = absurd cc

  expressions_kept-in_profile : (es : Expressions) → expressions_left_out es ≡ false → expressions_kept es ≡ es
  expressions_kept-in_profile no_expressions e = refl
  expressions_kept-in_profile (expression x es) e = let n = neither _ _ e in rw (expression_kept-in_profile x n.0, expressions_kept-in_profile es n.1) refl

  operand_kept-in_profile : (o : Operand) → operand_left_out o ≡ false → operand_kept o ≡ o
  operand_kept-in_profile (literal l) e = ap literal (literal_kept-in_profile l e)
  operand_kept-in_profile (singular_query root q) e = ap (singular_query root) (segments_kept-in_profile q e)
  operand_kept-in_profile (length_of o) e = ap length_of (operand_kept-in_profile o e)
  operand_kept-in_profile (count_of root q) e = ap (count_of root) (segments_kept-in_profile q e)
  operand_kept-in_profile (value_of root q) e = ap (value_of root) (segments_kept-in_profile q e)

-- what reading answers of a text

pub SpellsOnly-read : (q : Segments) (t : Text) → read_whole t ≡ Some (q, false) → SpellsOnly q t
SpellsOnly-read q t e =
    let s = query_sound t (q, false) e in
    let same : s.0 ≡ q = sym (segments_kept-in_profile s.0 s.3) ∙ s.2 in
    (subst (λ w. Spells w t) same s.1, ap segments_left_out (sym same) ∙ s.3, λ w x. one w x)
  where
    one : (w : Segments) → Spells w t → w ≡ q
    one w x =
        let p : (segments_kept w, segments_left_out w) ≡ (q, false) = some_is _ _ (sym (query_complete_whole w t x) ∙ e) in
        sym (segments_kept-in_profile w (ap (λ (y : Segments × Bool). y.1) p)) ∙ ap (λ (y : Segments × Bool). y.0) p

pub SpellsLeftOut-read : (q : Segments) (t : Text) → read_whole t ≡ Some (q, true) → SpellsLeftOut t
SpellsLeftOut-read q t e = let s = query_sound t (q, true) e in ((s.0, s.1), λ w x. one w x)
  where
    one : (w : Segments) → Spells w t → segments_left_out w ≡ true
    one w x =
        let p : (segments_kept w, segments_left_out w) ≡ (q, true) = some_is _ _ (sym (query_complete_whole w t x) ∙ e) in
        ap (λ (y : Segments × Bool). y.1) p

pub SpellsNone-read : (t : Text) → read_whole t ≡ None → SpellsNone t
SpellsNone-read t e w x = none_some (segments_kept w, segments_left_out w) (sym e ∙ query_complete_whole w t x)

-- a text that spells a query in profile spells no other query
pub no_other_query : (t : Text) (q w : Segments) → Spells q t → InProfile q → Spells w t → w ≡ q
no_other_query t q w s p x = (SpellsOnly-read q t (query_complete_whole q t s ∙ rw (segments_kept-in_profile q p, p) refl)).2 w x
