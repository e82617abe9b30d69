use Rattle.std.proofs.Common.{◌≡◌, ◌∙◌, ap, ap₂, codes, ◌||◌}
use Rattle.clap.specs.Words.{app_of, new_app, with_rule}
use Rattle.command_line.proofs.command.new_command.Goals as goal

pub returns-clause-shape : goal.returns-clause-shape
returns-clause-shape c =
    let base : app_of c.about.result ≡ new_app (codes "new") = rw c.about.ensures c.new.ensures.app in
    let file = c.in_ok-arg.ensures.shape c.file_argument.ensures.local ∙ ap₂ with_rule base c.file_argument.ensures.rule in
    let size = c.in_ok-arg-2.ensures.shape c.size_option.ensures.local ∙ ap₂ with_rule file c.size_option.ensures.rule in
    let identity = c.in_ok-arg-3.ensures.shape c.identity_option.ensures.local ∙ ap₂ with_rule size c.identity_option.ensures.rule in
    ap (λ a. a.top) (c.in_ok-new.ensures.shape c.why_flag.ensures.local ∙ ap₂ with_rule identity c.why_flag.ensures.rule)

pub returns-clause-local : goal.returns-clause-local
returns-clause-local c =
    let base = ap (λ f. f.has_globals) c.about.ensures ∙ c.new.ensures.local in
    let file = c.in_ok-arg.ensures.globals ∙ ap₂ (λ a b. a || b) base c.file_argument.ensures.local in
    let size = c.in_ok-arg-2.ensures.globals ∙ ap₂ (λ a b. a || b) file c.size_option.ensures.local in
    let identity = c.in_ok-arg-3.ensures.globals ∙ ap₂ (λ a b. a || b) size c.identity_option.ensures.local in
    c.in_ok-new.ensures.globals ∙ ap₂ (λ a b. a || b) identity c.why_flag.ensures.local
