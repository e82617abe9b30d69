use Rattle.std.proofs.Common.{refl, ap, ◌∙◌}
use Rattle.schema_pattern.proofs.Reading.{alike, is_pattern, refused_in, utf8_kept}
use Rattle.schema_pattern.proofs.pattern.Pattern.read.Goals as goal

pub invariant_of-result : goal.invariant_of-result
invariant_of-result c =
    let made = c.in-Ok.ensures in
    let config = utf8_kept _ (ap (λ b. b.config) c.size_limit.ensures ∙ c.new.ensures.config) in
    record { alike = alike c.in-Ok.regex _ refl (made.config ∙ config) made.read }

pub returns-in-Ok-clause-ok : goal.returns-in-Ok-clause-ok
returns-in-Ok-clause-ok c =
    let made = c.in-Ok.ensures in
    let config = utf8_kept _ (ap (λ b. b.config) c.size_limit.ensures ∙ c.new.ensures.config) in
    let source = ap (λ b. b.source.now) c.size_limit.ensures ∙ c.new.ensures.source in
    is_pattern c.in-Ok.regex _ (made.source ∙ source) (made.config ∙ config) made.read

pub returns-in-Err-clause-err : goal.returns-in-Err-clause-err
returns-in-Err-clause-err c =
    let made = c.in-Err.ensures in
    let config = utf8_kept _ (ap (λ b. b.config) c.size_limit.ensures ∙ c.new.ensures.config) in
    let source = ap (λ b. b.source.now) c.size_limit.ensures ∙ c.new.ensures.source in
    refused_in _ _ _ c.in-Err.error _ config source made.by_grammar made.kind c.fault_of.ensures
