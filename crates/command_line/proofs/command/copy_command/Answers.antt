use Rattle.std.proofs.Common.{◌≡◌, ◌∙◌, ap, ap₂, codes, ◌||◌}
use Rattle.clap.specs.Words.{app_of, new_app, with_rule}
use Rattle.command_line.proofs.command.copy_command.Goals as goal

pub returns-clause-shape : goal.returns-clause-shape
returns-clause-shape c =
    let base : app_of c.about.result ≡ new_app (codes "copy") = rw c.about.ensures c.new.ensures.app in
    let file = c.in_ok-arg.ensures.shape c.file_argument.ensures.local ∙ ap₂ with_rule base c.file_argument.ensures.rule in
    let new = c.in_ok-arg-2.ensures.shape c.new_argument.ensures.local ∙ ap₂ with_rule file c.new_argument.ensures.rule in
    let sectors = c.in_ok-arg-3.ensures.shape c.file_sectors.ensures.local ∙ ap₂ with_rule new c.file_sectors.ensures.rule in
    let format = c.in_ok-arg-4.ensures.shape c.format_option.ensures.local ∙ ap₂ with_rule sectors c.format_option.ensures.rule in
    let identity = c.in_ok-arg-5.ensures.shape c.identity_option.ensures.local ∙ ap₂ with_rule format c.identity_option.ensures.rule in
    let strict = c.in_ok-arg-6.ensures.shape c.strict_flag.ensures.local ∙ ap₂ with_rule identity c.strict_flag.ensures.rule in
    ap (λ a. a.top) (c.in_ok-copy.ensures.shape c.why_flag.ensures.local ∙ ap₂ with_rule strict c.why_flag.ensures.rule)

pub returns-clause-local : goal.returns-clause-local
returns-clause-local c =
    let base = ap (λ f. f.has_globals) c.about.ensures ∙ c.new.ensures.local in
    let file = c.in_ok-arg.ensures.globals ∙ ap₂ (λ a b. a || b) base c.file_argument.ensures.local in
    let new = c.in_ok-arg-2.ensures.globals ∙ ap₂ (λ a b. a || b) file c.new_argument.ensures.local in
    let sectors = c.in_ok-arg-3.ensures.globals ∙ ap₂ (λ a b. a || b) new c.file_sectors.ensures.local in
    let format = c.in_ok-arg-4.ensures.globals ∙ ap₂ (λ a b. a || b) sectors c.format_option.ensures.local in
    let identity = c.in_ok-arg-5.ensures.globals ∙ ap₂ (λ a b. a || b) format c.identity_option.ensures.local in
    let strict = c.in_ok-arg-6.ensures.globals ∙ ap₂ (λ a b. a || b) identity c.strict_flag.ensures.local in
    c.in_ok-copy.ensures.globals ∙ ap₂ (λ a b. a || b) strict c.why_flag.ensures.local
