use Rattle.std.proofs.Common.{◌≡◌, ap, ap₂, ◌∙◌, codes}
use Rattle.clap.specs.Words.{app_of, new_app, with_subcommand}
use Rattle.command_line.specs.Options.{as_program}
use Rattle.command_line.proofs.command.program.Goals as goal

pub returns-clause-ok : goal.returns-clause-ok
returns-clause-ok c =
    let base : app_of c.subcommand_required.result ≡ as_program (new_app (codes "jpstore")) = rw (c.subcommand_required.ensures, c.no_binary_name.ensures, c.version.ensures, c.about.ensures, c.in_ok-bin_name.ensures.0) (ap as_program c.new.ensures.app) in
    let news = c.in_ok-subcommand.ensures.shape c.in_ok-new_command.ensures.local ∙ ap₂ with_subcommand base c.in_ok-new_command.ensures.shape in
    let formats = c.in_ok-subcommand-2.ensures.shape c.in_ok-format_command.ensures.local ∙ ap₂ with_subcommand news c.in_ok-format_command.ensures.shape in
    let serves = c.in_ok-subcommand-3.ensures.shape c.in_ok-serve_command.ensures.local ∙ ap₂ with_subcommand formats c.in_ok-serve_command.ensures.shape in
    let checks = c.in_ok-subcommand-4.ensures.shape c.in_ok-check_command.ensures.local ∙ ap₂ with_subcommand serves c.in_ok-check_command.ensures.shape in
    let repairs = c.in_ok-subcommand-5.ensures.shape c.in_ok-repair_command.ensures.local ∙ ap₂ with_subcommand checks c.in_ok-repair_command.ensures.shape in
    let copies = c.in_ok-subcommand-6.ensures.shape c.in_ok-copy_command.ensures.local ∙ ap₂ with_subcommand repairs c.in_ok-copy_command.ensures.shape in
    let upgrades = c.in_ok-subcommand-7.ensures.shape c.in_ok-upgrade_command.ensures.local ∙ ap₂ with_subcommand copies c.in_ok-upgrade_command.ensures.shape in
    let mems = c.in_ok-subcommand-8.ensures.shape c.in_ok-mem_command.ensures.local ∙ ap₂ with_subcommand upgrades c.in_ok-mem_command.ensures.shape in
    let salvages = c.in_ok-subcommand-9.ensures.shape c.in_ok-salvage_command.ensures.local ∙ ap₂ with_subcommand mems c.in_ok-salvage_command.ensures.shape in
    c.in_ok-program.ensures.shape c.in_ok-dump_command.ensures.local ∙ ap₂ with_subcommand salvages c.in_ok-dump_command.ensures.shape
