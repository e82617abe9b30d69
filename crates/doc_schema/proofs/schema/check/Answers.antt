use Rattle.std.proofs.Common.{◌≡◌, refl, inl, inr, ⊎_elim, map, true, false, not, ◌&&◌, Result, Ok, Err, IfErr, IsErrAnd, sym, ap, subst, ◌∙◌, length}
use Rattle.std.specs.Prelude.{◌↔◌}
use Rattle.std.proofs.lemmas.List.{length-map}
use Rattle.doc_tree.specs.TreeView.{view}
use Rattle.schema_pattern.specs.Tables.{are_patterns}
use Rattle.schema_rules.specs.Anchors.{are_different, offered_anchors}
use Rattle.schema_rules.specs.PatternTexts.{offered_texts}
use Rattle.doc_schema.specs.Checked.{IsEarlier}
use Rattle.doc_schema.specs.Faults.{IsFaultOf, IsMalformed, IsTooLarge, are_too_large, is_marred, texts_fit, too_large, malformed, left_out, dangling}
use Rattle.doc_schema.specs.declared.defects.Defect.TheVariants.{Form, LeftOut, Reference}
use Rattle.doc_schema.proofs.Anywhere.{told, untold}
use Rattle.doc_schema.proofs.Fitting.{all_fit, equal_found}
use Rattle.doc_schema.proofs.Rooms.{found_of}
use Rattle.doc_schema.proofs.schema.check.Goals as goal

pub returns-then-is_too_long-clause-err : goal.returns-then-is_too_long-clause-err
returns-then-is_too_long-clause-err c = inl (too_large refl (inl (c.if-is_too_long.ensures.0 refl)))

pub returns-then-are_too_large-clause-err : goal.returns-then-are_too_large-clause-err
returns-then-are_too_large-clause-err c =
    inl (too_large refl (inr (sym (c.if-are_too_large.ensures ∙ ap (λ l. are_too_large (map (λ s. s.now) l)) c.deref.ensures.value ∙ ap are_too_large c.in_ok-texts.ensures))))

pub returns-then-branch-clause-err : goal.returns-then-branch-clause-err
returns-then-branch-clause-err c =
    let p = c.args.profile in
    let s = view c.args.source.now in
    let few : are_too_large (offered_texts p s) ≡ false = sym (c.if-are_too_large.ensures ∙ ap (λ l. are_too_large (map (λ s. s.now) l)) c.deref.ensures.value ∙ ap are_too_large c.in_ok-texts.ensures) in
    let size : IsTooLarge p s → ⊥ = ⊎_elim (λ a. (let e = c.if-is_too_long.ensures.1 a in absurd cc)) (λ b. (let e : true ≡ false = sym b ∙ few in absurd cc)) in
    inl (malformed refl size (inl (told p Form s (sym c.if-branch.true ∙ c.in_ok-some_position_has.ensures ∙ ap (λ t. is_marred p Form (view t)) c.in_ok-whole.ensures))))

err_same : {A E : Type 0} (r : Result A E) (e : E) (P : E → Type 0) → P e → IsErrAnd r (λ d. d ≡ e) → IfErr r P
err_same (Ok a) e P p h = tt
err_same (Err d) e P p h = subst P (sym h) p

pub returns-in_err-patterns-clause-err : goal.returns-in_err-patterns-clause-err
returns-in_err-patterns-clause-err c =
    let p = c.args.profile in
    let s = view c.args.source.now in
    let few : are_too_large (offered_texts p s) ≡ false = sym (c.if-are_too_large.ensures ∙ ap (λ l. are_too_large (map (λ s. s.now) l)) c.deref.ensures.value ∙ ap are_too_large c.in_ok-texts.ensures) in
    let size : IsTooLarge p s → ⊥ = ⊎_elim (λ a. (let e = c.if-is_too_long.ensures.1 a in absurd cc)) (λ b. (let e : true ≡ false = sym b ∙ few in absurd cc)) in
    let same = ap (λ l. are_patterns (map (λ s. s.now) l)) c.deref-2.ensures.value ∙ ap are_patterns c.in_ok-texts.ensures in
    let e = c.in_err-patterns.field-0.0 in
    let fault : IsFaultOf p s e = ⊎_elim (λ f. inl (malformed f.0 size (inr (ap (λ b. b && are_different (offered_anchors p s)) (sym same ∙ f.1))))) (λ m. inr m) c.in_err-patterns.ensures.err in
    err_same c.from_residual-in_err-patterns.result e (IsFaultOf p s) fault c.from_residual-in_err-patterns.ensures.1

pub returns-then-has_equal_anchors-clause-err : goal.returns-then-has_equal_anchors-clause-err
returns-then-has_equal_anchors-clause-err c =
    let p = c.args.profile in
    let s = view c.args.source.now in
    let few : are_too_large (offered_texts p s) ≡ false = sym (c.if-are_too_large.ensures ∙ ap (λ l. are_too_large (map (λ s. s.now) l)) c.deref.ensures.value ∙ ap are_too_large c.in_ok-texts.ensures) in
    let size : IsTooLarge p s → ⊥ = ⊎_elim (λ a. (let e = c.if-is_too_long.ensures.1 a in absurd cc)) (λ b. (let e : true ≡ false = sym b ∙ few in absurd cc)) in
    inl (malformed refl size (inr (equal_found (are_patterns (offered_texts p s)) (are_different (offered_anchors p s)) (c.if-has_equal_anchors.ensures ∙ ap (λ t. not (are_different (offered_anchors p (view t)))) c.in_ok-whole.ensures))))

pub returns-then-branch-2-clause-err : goal.returns-then-branch-2-clause-err
returns-then-branch-2-clause-err c =
    let p = c.args.profile in
    let s = view c.args.source.now in
    let few : are_too_large (offered_texts p s) ≡ false = sym (c.if-are_too_large.ensures ∙ ap (λ l. are_too_large (map (λ s. s.now) l)) c.deref.ensures.value ∙ ap are_too_large c.in_ok-texts.ensures) in
    let size : IsTooLarge p s → ⊥ = ⊎_elim (λ a. (let e = c.if-is_too_long.ensures.1 a in absurd cc)) (λ b. (let e : true ≡ false = sym b ∙ few in absurd cc)) in
    let all : true ≡ are_patterns (offered_texts p s) = sym c.in_ok-patterns.ensures.ok ∙ ap (λ l. are_patterns (map (λ s. s.now) l)) c.deref-2.ensures.value ∙ ap are_patterns c.in_ok-texts.ensures in
    let fit : texts_fit p s ≡ true = all_fit (are_patterns (offered_texts p s)) (are_different (offered_anchors p s)) all (c.if-has_equal_anchors.ensures ∙ ap (λ t. not (are_different (offered_anchors p (view t)))) c.in_ok-whole.ensures) in
    let form : IsMalformed p s → ⊥ = ⊎_elim (untold p Form s (sym c.if-branch.false ∙ c.in_ok-some_position_has.ensures ∙ ap (λ t. is_marred p Form (view t)) c.in_ok-whole.ensures)) (λ b. (let e : true ≡ false = sym fit ∙ b in absurd cc)) in
    inl (left_out refl size form (told p LeftOut s (sym c.if-branch-2.true ∙ c.in_ok-some_position_has-2.ensures ∙ ap (λ t. is_marred p LeftOut (view t)) c.in_ok-whole.ensures)))

pub returns-then-branch-3-clause-err : goal.returns-then-branch-3-clause-err
returns-then-branch-3-clause-err c =
    let p = c.args.profile in
    let s = view c.args.source.now in
    let few : are_too_large (offered_texts p s) ≡ false = sym (c.if-are_too_large.ensures ∙ ap (λ l. are_too_large (map (λ s. s.now) l)) c.deref.ensures.value ∙ ap are_too_large c.in_ok-texts.ensures) in
    let size : IsTooLarge p s → ⊥ = ⊎_elim (λ a. (let e = c.if-is_too_long.ensures.1 a in absurd cc)) (λ b. (let e : true ≡ false = sym b ∙ few in absurd cc)) in
    let all : true ≡ are_patterns (offered_texts p s) = sym c.in_ok-patterns.ensures.ok ∙ ap (λ l. are_patterns (map (λ s. s.now) l)) c.deref-2.ensures.value ∙ ap are_patterns c.in_ok-texts.ensures in
    let fit : texts_fit p s ≡ true = all_fit (are_patterns (offered_texts p s)) (are_different (offered_anchors p s)) all (c.if-has_equal_anchors.ensures ∙ ap (λ t. not (are_different (offered_anchors p (view t)))) c.in_ok-whole.ensures) in
    let form : IsMalformed p s → ⊥ = ⊎_elim (untold p Form s (sym c.if-branch.false ∙ c.in_ok-some_position_has.ensures ∙ ap (λ t. is_marred p Form (view t)) c.in_ok-whole.ensures)) (λ b. (let e : true ≡ false = sym fit ∙ b in absurd cc)) in
    inl (dangling refl size form (untold p LeftOut s (sym c.if-branch-2.false ∙ c.in_ok-some_position_has-2.ensures ∙ ap (λ t. is_marred p LeftOut (view t)) c.in_ok-whole.ensures)) (told p Reference s (sym c.if-branch-3.true ∙ c.in_ok-some_position_has-3.ensures ∙ ap (λ t. is_marred p Reference (view t)) c.in_ok-whole.ensures)))

pub returns-clause-ok : goal.returns-clause-ok
returns-clause-ok c =
    let p = c.args.profile in
    let s = view c.args.source.now in
    let few : are_too_large (offered_texts p s) ≡ false = sym (c.if-are_too_large.ensures ∙ ap (λ l. are_too_large (map (λ s. s.now) l)) c.deref.ensures.value ∙ ap are_too_large c.in_ok-texts.ensures) in
    let all : true ≡ are_patterns (offered_texts p s) = sym c.in_ok-patterns.ensures.ok ∙ ap (λ l. are_patterns (map (λ s. s.now) l)) c.deref-2.ensures.value ∙ ap are_patterns c.in_ok-texts.ensures in
    let fit : texts_fit p s ≡ true = all_fit (are_patterns (offered_texts p s)) (are_different (offered_anchors p s)) all (c.if-has_equal_anchors.ensures ∙ ap (λ t. not (are_different (offered_anchors p (view t)))) c.in_ok-whole.ensures) in record {
      size = ⊎_elim (λ a. (let e = c.if-is_too_long.ensures.1 a in absurd cc)) (λ b. (let e : true ≡ false = sym b ∙ few in absurd cc));
      form = ⊎_elim (untold p Form s (sym c.if-branch.false ∙ c.in_ok-some_position_has.ensures ∙ ap (λ t. is_marred p Form (view t)) c.in_ok-whole.ensures)) (λ b. (let e : true ≡ false = sym fit ∙ b in absurd cc));
      keywords = untold p LeftOut s (sym c.if-branch-2.false ∙ c.in_ok-some_position_has-2.ensures ∙ ap (λ t. is_marred p LeftOut (view t)) c.in_ok-whole.ensures);
      references = untold p Reference s (sym c.if-branch-3.false ∙ c.in_ok-some_position_has-3.ensures ∙ ap (λ t. is_marred p Reference (view t)) c.in_ok-whole.ensures);
    }

pub returns-clause-patterns : goal.returns-clause-patterns
returns-clause-patterns c =
    let same = ap (map (λ s. s.now)) c.deref-2.ensures.value ∙ c.in_ok-texts.ensures in
    found_of c.in_ok-patterns.patterns _ _ _ _ (sym (length-map c.deref-2.result.now (λ s. s.now)) ∙ ap length same) same c.in_ok-patterns.ensures.found

pub returns-clause-earlier : goal.returns-clause-earlier
returns-clause-earlier c = subst (λ s. (c.in_ok-earlier.earlier ≡ true) ↔ IsEarlier (view s)) c.in_ok-whole.ensures c.in_ok-earlier.ensures
