use Rattle.std.proofs.Common.{◌≡◌, ◌∙◌, ap, ap₂, codes, ◌||◌}
use Rattle.clap.specs.Words.{app_of, new_app, with_rule}
use Rattle.command_line.proofs.command.mem_command.Goals as goal

pub returns-clause-shape : goal.returns-clause-shape
returns-clause-shape c =
    let base : app_of c.about.result ≡ new_app (codes "mem") = rw c.about.ensures c.new.ensures.app in
    let sectors = c.in_ok-arg.ensures.shape c.memory_sectors.ensures.local ∙ ap₂ with_rule base c.memory_sectors.ensures.rule in
    let format = c.in_ok-arg-2.ensures.shape c.format_option.ensures.local ∙ ap₂ with_rule sectors c.format_option.ensures.rule in
    ap (λ a. a.top) (c.in_ok-mem.ensures.shape c.history_option.ensures.local ∙ ap₂ with_rule format c.history_option.ensures.rule)

pub returns-clause-local : goal.returns-clause-local
returns-clause-local c =
    let base = ap (λ f. f.has_globals) c.about.ensures ∙ c.new.ensures.local in
    let sectors = c.in_ok-arg.ensures.globals ∙ ap₂ (λ a b. a || b) base c.memory_sectors.ensures.local in
    let format = c.in_ok-arg-2.ensures.globals ∙ ap₂ (λ a b. a || b) sectors c.format_option.ensures.local in
    c.in_ok-mem.ensures.globals ∙ ap₂ (λ a b. a || b) format c.history_option.ensures.local
