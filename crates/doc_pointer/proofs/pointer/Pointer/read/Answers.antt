use Rattle.std.proofs.Common.{inl, refl, ◌≡◌, ◌<◌, ◌∷◌, [], ◌++◌, map, length, string_bytes, IsUtf8, None, sym, ap, ◌∙◌, subst, arith, rules}
use Rattle.std.proofs.lemmas.List.{map-append, nil_from_length}
use Rattle.std.proofs.lemmas.Str.Pattern.{strip_prefix_char}
use Rattle.doc_pointer.specs.Fault.{IsFaultOf}
use Rattle.doc_pointer.specs.Text.{pointer_text}
use Rattle.doc_pointer.proofs.Cuts.{err_same, pointer_text_injective, text_grows, text_ends, no_slash, fault_within, fault_at_end}
use Rattle.doc_pointer.proofs.pointer.Pointer.read.Goals as goal

pub returns-in_default-clause-err : goal.returns-in_default-clause-err
returns-in_default-clause-err c =
    let some : 0 < length c.args.text.now = search rules in
    inl (refl, no_slash c.args.text.now some (strip_prefix_char 47 c.args.text.now None c.in_default.ensures.cases (omega arith)))

pub returns-in_err-token_of-clause-err : goal.returns-in_err-token_of-clause-err
returns-in_err-token_of-clause-err c =
    let cut = c.in-Some-cut_at_slash.ensures in
    let e = c.in_err-token_of.field-0.0 in
    let fault = fault_within (map string_bytes c.parts.tokens.items) c.in-Some-cut_at_slash.part.now c.in-Some-cut_at_slash.more.now c.parts.rest.now c.args.text.now e cut.1 cut.0 c.parts.invariant.1 c.in_err-token_of.ensures.err in
    err_same c.from_residual.result e (IsFaultOf c.args.text.now) fault c.from_residual.ensures.1

pub parts-preserved : goal.parts-preserved
parts-preserved c =
    let utf8 : IsUtf8 c.in-Some-cut_at_slash.more.now = search rules in
    let cut = c.in-Some-cut_at_slash.ensures in
    let token = c.in_ok-token_of.ensures.ok in
    let tokens : map string_bytes c.push.new.self.items ≡ map string_bytes c.parts.tokens.items ++ string_bytes c.in_ok-token_of.field-0 ∷ [] = ap (map string_bytes) c.in_ok-push.ensures.items ∙ map-append string_bytes c.parts.tokens.items (c.in_ok-token_of.field-0 ∷ []) in (
      utf8,
      subst (λ ks. pointer_text ks ++ 47 ∷ c.in-Some-cut_at_slash.more.now ≡ c.args.text.now) (sym tokens)
          (text_grows (map string_bytes c.parts.tokens.items) (string_bytes c.in_ok-token_of.field-0) c.in-Some-cut_at_slash.part.now c.in-Some-cut_at_slash.more.now c.parts.rest.now c.args.text.now cut.0 token c.parts.invariant.1),
    )

pub returns-in_err-token_of-2-clause-err : goal.returns-in_err-token_of-2-clause-err
returns-in_err-token_of-2-clause-err c =
    let e = c.in_err-token_of-2.field-0.0 in
    let fault = fault_at_end (map string_bytes c.parts.tokens.items) c.parts.rest.now c.args.text.now e c.in_default-cut_at_slash.ensures c.parts.invariant.1 c.in_err-token_of-2.ensures.err in
    err_same c.from_residual-in_err-token_of-2.result e (IsFaultOf c.args.text.now) fault c.from_residual-in_err-token_of-2.ensures.1

pub returns-clause-ok : goal.returns-clause-ok
returns-clause-ok c =
    let token = c.in_ok-token_of-2.ensures.ok in
    let tokens : map string_bytes c.push-2.new.self.items ≡ map string_bytes c.parts.tokens.items ++ string_bytes c.in_ok-token_of-2.field-0 ∷ [] = ap (map string_bytes) c.in_ok-push-2.ensures.items ∙ map-append string_bytes c.parts.tokens.items (c.in_ok-token_of-2.field-0 ∷ []) in
    subst (λ ks. pointer_text ks ≡ c.args.text.now) (sym tokens)
    (text_ends (map string_bytes c.parts.tokens.items) (string_bytes c.in_ok-token_of-2.field-0) c.parts.rest.now c.args.text.now token c.parts.invariant.1)

pub returns-then-is_empty-clause-only : goal.returns-then-is_empty-clause-only
returns-then-is_empty-clause-only c = λ ks e.
    let none : map string_bytes c.new-tokens.result.items ≡ [] = ap (map string_bytes) c.new-tokens.ensures.items in
    let zero : length c.args.text.now ≡ 0 = search rules in
    pointer_text_injective ks [] (e ∙ nil_from_length c.args.text.now zero) ∙ sym none

pub returns-clause-only : goal.returns-clause-only
returns-clause-only c = λ ks e. pointer_text_injective ks _ (e ∙ sym (returns-clause-ok c))
