use Rattle.std.proofs.Common.{◌≡◌, ◌∙◌, ap, ap₂, codes, ◌||◌}
use Rattle.clap.specs.Words.{app_of, new_app, with_rule}
use Rattle.command_line.proofs.command.dump_command.Goals as goal

pub returns-clause-shape : goal.returns-clause-shape
returns-clause-shape c =
    let base : app_of c.about.result ≡ new_app (codes "dump") = rw c.about.ensures c.new.ensures.app in
    let file = c.in_ok-arg.ensures.shape c.file_argument.ensures.local ∙ ap₂ with_rule base c.file_argument.ensures.rule in
    let flagged = c.in_ok-arg-2.ensures.shape c.read_only_flag.ensures.local ∙ ap₂ with_rule file c.read_only_flag.ensures.rule in
    let strict = c.in_ok-arg-3.ensures.shape c.strict_flag.ensures.local ∙ ap₂ with_rule flagged c.strict_flag.ensures.rule in
    ap (λ a. a.top) (c.in_ok-dump.ensures.shape c.why_flag.ensures.local ∙ ap₂ with_rule strict c.why_flag.ensures.rule)

pub returns-clause-local : goal.returns-clause-local
returns-clause-local c =
    let base = ap (λ f. f.has_globals) c.about.ensures ∙ c.new.ensures.local in
    let file = c.in_ok-arg.ensures.globals ∙ ap₂ (λ a b. a || b) base c.file_argument.ensures.local in
    let flagged = c.in_ok-arg-2.ensures.globals ∙ ap₂ (λ a b. a || b) file c.read_only_flag.ensures.local in
    let strict = c.in_ok-arg-3.ensures.globals ∙ ap₂ (λ a b. a || b) flagged c.strict_flag.ensures.local in
    c.in_ok-dump.ensures.globals ∙ ap₂ (λ a b. a || b) strict c.why_flag.ensures.local
