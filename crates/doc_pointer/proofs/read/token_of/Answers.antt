use Rattle.std.proofs.Common.{inl, refl, ◌∷◌, [], ◌++◌, string_bytes, IsUtf8, Some, None, ap, ◌∙◌, arith, rules}
use Rattle.std.proofs.lemmas.Str.Pattern.{strip_prefix_char}
use Rattle.doc_pointer.proofs.Escapes.{token_grows, token_spoilt, token_ends}
use Rattle.doc_pointer.proofs.read.token_of.Goals as goal

pub escapes-preserved-in-Some-strip_prefix : goal.escapes-preserved-in-Some-strip_prefix
escapes-preserved-in-Some-strip_prefix c =
    let after = c.in-Some-strip_prefix.after_zero in
    let utf8 : IsUtf8 after.now = search rules in
    let stripped = strip_prefix_char 48 c.in-Some.escape.now (Some after) c.in-Some-strip_prefix.ensures.cases (omega arith) in
    let cut = c.in-Some.ensures in
    let more = token_grows 126 (string_bytes c.escapes.token) c.in-Some.plain.now after.now c.escapes.rest.now c.args.part.now (string_bytes c.push.new.self) cut.1 c.escapes.invariant.1
    (cut.0 ∙ ap (λ l. c.in-Some.plain.now ++ 126 ∷ l) stripped) c.escapes.invariant.2 (c.in_ok-push.ensures.bytes ∙ ap (λ l. string_bytes c.push_str.new.self ++ l) (c.in_ok-push.ensures.ascii (omega arith)) ∙ ap (λ l. l ++ 126 ∷ []) c.in_ok-push_str.ensures.bytes) in
    (utf8, more.0, more.1)

pub escapes-preserved : goal.escapes-preserved
escapes-preserved c =
    let after = c.in-Some-strip_prefix-2.after_one in
    let utf8 : IsUtf8 after.now = search rules in
    let stripped = strip_prefix_char 49 c.in-Some.escape.now (Some after) c.in-Some-strip_prefix-2.ensures.cases (omega arith) in
    let cut = c.in-Some.ensures in
    let more = token_grows 47 (string_bytes c.escapes.token) c.in-Some.plain.now after.now c.escapes.rest.now c.args.part.now (string_bytes c.push-in-Some-strip_prefix-2.new.self) cut.1 c.escapes.invariant.1
    (cut.0 ∙ ap (λ l. c.in-Some.plain.now ++ 126 ∷ l) stripped) c.escapes.invariant.2 (c.in_ok-push-2.ensures.bytes ∙ ap (λ l. string_bytes c.push_str.new.self ++ l) (c.in_ok-push-2.ensures.ascii (omega arith)) ∙ ap (λ l. l ++ 47 ∷ []) c.in_ok-push_str.ensures.bytes) in
    (utf8, more.0, more.1)

pub returns-in_default-strip_prefix-2-clause-err : goal.returns-in_default-strip_prefix-2-clause-err
returns-in_default-strip_prefix-2-clause-err c =
    let cut = c.in-Some.ensures in
    let zero = strip_prefix_char 48 c.in-Some.escape.now None c.in_default-strip_prefix.ensures.cases (omega arith) in
    let one = strip_prefix_char 49 c.in-Some.escape.now None c.in_default-strip_prefix-2.ensures.cases (omega arith) in
    inl (refl, token_spoilt (string_bytes c.escapes.token) c.in-Some.plain.now c.in-Some.escape.now c.escapes.rest.now c.args.part.now cut.1 c.escapes.invariant.1 cut.0 zero one c.escapes.invariant.2)

pub returns-clause-ok : goal.returns-clause-ok
returns-clause-ok c =
    token_ends (string_bytes c.escapes.token) c.escapes.rest.now c.args.part.now (string_bytes c.push_str-2.new.self) c.in_default.ensures c.escapes.invariant.1 c.escapes.invariant.2 c.in_ok-push_str-2.ensures.bytes
