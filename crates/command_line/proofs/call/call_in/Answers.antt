use Rattle.std.proofs.Common.{◌≡◌, ◌∙◌, Some, codes, option_map, refl, false}
use Rattle.std.specs.Str.{bytes_eq}
use Rattle.clap.specs.Words.{found_of, rows_of, subcommand_rows_of}
use Rattle.command_line.specs.Call.{Asked, InRange, asked_of, format, fresh, serve, check, repair, copy, upgrade, mem, deep, salvage, dump}
use Rattle.command_line.specs.Options.{IsMet, Means, name_of}
use Rattle.command_line.proofs.Meant.{differ, is_met}
use Rattle.command_line.proofs.call.call_in.Goals as goal

pub returns-in-new-clause-meant : goal.returns-in-new-clause-meant
returns-in-new-clause-meant c = go
  where
    met : (asked : Asked) → Means (subcommand_rows_of c.args.matches.now) asked → IsMet c.in_ok-name.name.now (rows_of (found_of c.in_ok-name.options.now)) asked
    met asked m = is_met _ _ _ c.in_ok-name.name.now (rows_of (found_of c.in_ok-name.options.now)) asked c.in_ok-name.ensures.name c.in_ok-name.ensures.rows m

    other : {A : Type 0} (asked : Asked) → Means (subcommand_rows_of c.args.matches.now) asked → bytes_eq (name_of asked) (codes "new") ≡ false → A
    other asked m apart = differ (name_of asked) (codes "new") apart ((met asked m).0 ∙ c.in-new.is)

    go : (asked : Asked) → InRange asked → Means (subcommand_rows_of c.args.matches.now) asked → option_map asked_of c.fresh_in.result ≡ Some asked
    go (format file n version mode sparse identity) range m = other (format file n version mode sparse identity) m refl
    go (fresh file n identity) range m = c.fresh_in.ensures.meant file n identity range (met (fresh file n identity) m).1
    go (serve file batch pump history strict) range m = other (serve file batch pump history strict) m refl
    go (check file strict) range m = other (check file strict) m refl
    go (repair file) range m = other (repair file) m refl
    go (copy file new n version identity strict) range m = other (copy file new n version identity strict) m refl
    go (upgrade file version identity strict) range m = other (upgrade file version identity strict) m refl
    go (mem n version history) range m = other (mem n version history) m refl
    go (deep file) range m = other (deep file) m refl
    go (salvage file frames) range m = other (salvage file frames) m refl
    go (dump file strict) range m = other (dump file strict) m refl

pub returns-in-format-clause-meant : goal.returns-in-format-clause-meant
returns-in-format-clause-meant c = go
  where
    met : (asked : Asked) → Means (subcommand_rows_of c.args.matches.now) asked → IsMet c.in_ok-name.name.now (rows_of (found_of c.in_ok-name.options.now)) asked
    met asked m = is_met _ _ _ c.in_ok-name.name.now (rows_of (found_of c.in_ok-name.options.now)) asked c.in_ok-name.ensures.name c.in_ok-name.ensures.rows m

    other : {A : Type 0} (asked : Asked) → Means (subcommand_rows_of c.args.matches.now) asked → bytes_eq (name_of asked) (codes "format") ≡ false → A
    other asked m apart = differ (name_of asked) (codes "format") apart ((met asked m).0 ∙ c.in-format.is)

    go : (asked : Asked) → InRange asked → Means (subcommand_rows_of c.args.matches.now) asked → option_map asked_of c.format_in.result ≡ Some asked
    go (format file n version mode sparse identity) range m = c.format_in.ensures.meant file n version mode sparse identity range (met (format file n version mode sparse identity) m).1
    go (fresh file n identity) range m = other (fresh file n identity) m refl
    go (serve file batch pump history strict) range m = other (serve file batch pump history strict) m refl
    go (check file strict) range m = other (check file strict) m refl
    go (repair file) range m = other (repair file) m refl
    go (copy file new n version identity strict) range m = other (copy file new n version identity strict) m refl
    go (upgrade file version identity strict) range m = other (upgrade file version identity strict) m refl
    go (mem n version history) range m = other (mem n version history) m refl
    go (deep file) range m = other (deep file) m refl
    go (salvage file frames) range m = other (salvage file frames) m refl
    go (dump file strict) range m = other (dump file strict) m refl

pub returns-in-serve-clause-meant : goal.returns-in-serve-clause-meant
returns-in-serve-clause-meant c = go
  where
    met : (asked : Asked) → Means (subcommand_rows_of c.args.matches.now) asked → IsMet c.in_ok-name.name.now (rows_of (found_of c.in_ok-name.options.now)) asked
    met asked m = is_met _ _ _ c.in_ok-name.name.now (rows_of (found_of c.in_ok-name.options.now)) asked c.in_ok-name.ensures.name c.in_ok-name.ensures.rows m

    other : {A : Type 0} (asked : Asked) → Means (subcommand_rows_of c.args.matches.now) asked → bytes_eq (name_of asked) (codes "serve") ≡ false → A
    other asked m apart = differ (name_of asked) (codes "serve") apart ((met asked m).0 ∙ c.in-serve.is)

    go : (asked : Asked) → InRange asked → Means (subcommand_rows_of c.args.matches.now) asked → option_map asked_of c.serve_in.result ≡ Some asked
    go (format file n version mode sparse identity) range m = other (format file n version mode sparse identity) m refl
    go (fresh file n identity) range m = other (fresh file n identity) m refl
    go (serve file batch pump history strict) range m = c.serve_in.ensures.meant file batch pump history strict range (met (serve file batch pump history strict) m).1
    go (check file strict) range m = other (check file strict) m refl
    go (repair file) range m = other (repair file) m refl
    go (copy file new n version identity strict) range m = other (copy file new n version identity strict) m refl
    go (upgrade file version identity strict) range m = other (upgrade file version identity strict) m refl
    go (mem n version history) range m = other (mem n version history) m refl
    go (deep file) range m = other (deep file) m refl
    go (salvage file frames) range m = other (salvage file frames) m refl
    go (dump file strict) range m = other (dump file strict) m refl

pub returns-in-copy-clause-meant : goal.returns-in-copy-clause-meant
returns-in-copy-clause-meant c = go
  where
    met : (asked : Asked) → Means (subcommand_rows_of c.args.matches.now) asked → IsMet c.in_ok-name.name.now (rows_of (found_of c.in_ok-name.options.now)) asked
    met asked m = is_met _ _ _ c.in_ok-name.name.now (rows_of (found_of c.in_ok-name.options.now)) asked c.in_ok-name.ensures.name c.in_ok-name.ensures.rows m

    other : {A : Type 0} (asked : Asked) → Means (subcommand_rows_of c.args.matches.now) asked → bytes_eq (name_of asked) (codes "copy") ≡ false → A
    other asked m apart = differ (name_of asked) (codes "copy") apart ((met asked m).0 ∙ c.in-copy.is)

    go : (asked : Asked) → InRange asked → Means (subcommand_rows_of c.args.matches.now) asked → option_map asked_of c.copy_in.result ≡ Some asked
    go (format file n version mode sparse identity) range m = other (format file n version mode sparse identity) m refl
    go (fresh file n identity) range m = other (fresh file n identity) m refl
    go (serve file batch pump history strict) range m = other (serve file batch pump history strict) m refl
    go (check file strict) range m = other (check file strict) m refl
    go (repair file) range m = other (repair file) m refl
    go (copy file new n version identity strict) range m = c.copy_in.ensures.meant file new n version identity strict range (met (copy file new n version identity strict) m).1
    go (upgrade file version identity strict) range m = other (upgrade file version identity strict) m refl
    go (mem n version history) range m = other (mem n version history) m refl
    go (deep file) range m = other (deep file) m refl
    go (salvage file frames) range m = other (salvage file frames) m refl
    go (dump file strict) range m = other (dump file strict) m refl

pub returns-in-upgrade-clause-meant : goal.returns-in-upgrade-clause-meant
returns-in-upgrade-clause-meant c = go
  where
    met : (asked : Asked) → Means (subcommand_rows_of c.args.matches.now) asked → IsMet c.in_ok-name.name.now (rows_of (found_of c.in_ok-name.options.now)) asked
    met asked m = is_met _ _ _ c.in_ok-name.name.now (rows_of (found_of c.in_ok-name.options.now)) asked c.in_ok-name.ensures.name c.in_ok-name.ensures.rows m

    other : {A : Type 0} (asked : Asked) → Means (subcommand_rows_of c.args.matches.now) asked → bytes_eq (name_of asked) (codes "upgrade") ≡ false → A
    other asked m apart = differ (name_of asked) (codes "upgrade") apart ((met asked m).0 ∙ c.in-upgrade.is)

    go : (asked : Asked) → InRange asked → Means (subcommand_rows_of c.args.matches.now) asked → option_map asked_of c.upgrade_in.result ≡ Some asked
    go (format file n version mode sparse identity) range m = other (format file n version mode sparse identity) m refl
    go (fresh file n identity) range m = other (fresh file n identity) m refl
    go (serve file batch pump history strict) range m = other (serve file batch pump history strict) m refl
    go (check file strict) range m = other (check file strict) m refl
    go (repair file) range m = other (repair file) m refl
    go (copy file new n version identity strict) range m = other (copy file new n version identity strict) m refl
    go (upgrade file version identity strict) range m = c.upgrade_in.ensures.meant file version identity strict range (met (upgrade file version identity strict) m).1
    go (mem n version history) range m = other (mem n version history) m refl
    go (deep file) range m = other (deep file) m refl
    go (salvage file frames) range m = other (salvage file frames) m refl
    go (dump file strict) range m = other (dump file strict) m refl

pub returns-in-mem-clause-meant : goal.returns-in-mem-clause-meant
returns-in-mem-clause-meant c = go
  where
    met : (asked : Asked) → Means (subcommand_rows_of c.args.matches.now) asked → IsMet c.in_ok-name.name.now (rows_of (found_of c.in_ok-name.options.now)) asked
    met asked m = is_met _ _ _ c.in_ok-name.name.now (rows_of (found_of c.in_ok-name.options.now)) asked c.in_ok-name.ensures.name c.in_ok-name.ensures.rows m

    other : {A : Type 0} (asked : Asked) → Means (subcommand_rows_of c.args.matches.now) asked → bytes_eq (name_of asked) (codes "mem") ≡ false → A
    other asked m apart = differ (name_of asked) (codes "mem") apart ((met asked m).0 ∙ c.in-mem.is)

    go : (asked : Asked) → InRange asked → Means (subcommand_rows_of c.args.matches.now) asked → option_map asked_of c.mem_in.result ≡ Some asked
    go (format file n version mode sparse identity) range m = other (format file n version mode sparse identity) m refl
    go (fresh file n identity) range m = other (fresh file n identity) m refl
    go (serve file batch pump history strict) range m = other (serve file batch pump history strict) m refl
    go (check file strict) range m = other (check file strict) m refl
    go (repair file) range m = other (repair file) m refl
    go (copy file new n version identity strict) range m = other (copy file new n version identity strict) m refl
    go (upgrade file version identity strict) range m = other (upgrade file version identity strict) m refl
    go (mem n version history) range m = c.mem_in.ensures.meant n version history range (met (mem n version history) m).1
    go (deep file) range m = other (deep file) m refl
    go (salvage file frames) range m = other (salvage file frames) m refl
    go (dump file strict) range m = other (dump file strict) m refl

pub returns-in-check-clause-meant : goal.returns-in-check-clause-meant
returns-in-check-clause-meant c = go
  where
    met : (asked : Asked) → Means (subcommand_rows_of c.args.matches.now) asked → IsMet c.in_ok-name.name.now (rows_of (found_of c.in_ok-name.options.now)) asked
    met asked m = is_met _ _ _ c.in_ok-name.name.now (rows_of (found_of c.in_ok-name.options.now)) asked c.in_ok-name.ensures.name c.in_ok-name.ensures.rows m

    other : {A : Type 0} (asked : Asked) → Means (subcommand_rows_of c.args.matches.now) asked → bytes_eq (name_of asked) (codes "check") ≡ false → A
    other asked m apart = differ (name_of asked) (codes "check") apart ((met asked m).0 ∙ c.in-check.is)

    go : (asked : Asked) → InRange asked → Means (subcommand_rows_of c.args.matches.now) asked → option_map asked_of c.check_in.result ≡ Some asked
    go (format file n version mode sparse identity) range m = other (format file n version mode sparse identity) m refl
    go (fresh file n identity) range m = other (fresh file n identity) m refl
    go (serve file batch pump history strict) range m = other (serve file batch pump history strict) m refl
    go (check file strict) range m = c.check_in.ensures.meant file strict (met (check file strict) m).1
    go (repair file) range m = other (repair file) m refl
    go (copy file new n version identity strict) range m = other (copy file new n version identity strict) m refl
    go (upgrade file version identity strict) range m = other (upgrade file version identity strict) m refl
    go (mem n version history) range m = other (mem n version history) m refl
    go (deep file) range m = c.check_in.ensures.meant_deep file (met (deep file) m).1
    go (salvage file frames) range m = other (salvage file frames) m refl
    go (dump file strict) range m = other (dump file strict) m refl

pub returns-in-salvage-clause-meant : goal.returns-in-salvage-clause-meant
returns-in-salvage-clause-meant c = go
  where
    met : (asked : Asked) → Means (subcommand_rows_of c.args.matches.now) asked → IsMet c.in_ok-name.name.now (rows_of (found_of c.in_ok-name.options.now)) asked
    met asked m = is_met _ _ _ c.in_ok-name.name.now (rows_of (found_of c.in_ok-name.options.now)) asked c.in_ok-name.ensures.name c.in_ok-name.ensures.rows m

    other : {A : Type 0} (asked : Asked) → Means (subcommand_rows_of c.args.matches.now) asked → bytes_eq (name_of asked) (codes "salvage") ≡ false → A
    other asked m apart = differ (name_of asked) (codes "salvage") apart ((met asked m).0 ∙ c.in-salvage.is)

    go : (asked : Asked) → InRange asked → Means (subcommand_rows_of c.args.matches.now) asked → option_map asked_of c.salvage_in.result ≡ Some asked
    go (format file n version mode sparse identity) range m = other (format file n version mode sparse identity) m refl
    go (fresh file n identity) range m = other (fresh file n identity) m refl
    go (serve file batch pump history strict) range m = other (serve file batch pump history strict) m refl
    go (check file strict) range m = other (check file strict) m refl
    go (repair file) range m = other (repair file) m refl
    go (copy file new n version identity strict) range m = other (copy file new n version identity strict) m refl
    go (upgrade file version identity strict) range m = other (upgrade file version identity strict) m refl
    go (mem n version history) range m = other (mem n version history) m refl
    go (deep file) range m = other (deep file) m refl
    go (salvage file frames) range m = c.salvage_in.ensures.meant file frames (met (salvage file frames) m).1
    go (dump file strict) range m = other (dump file strict) m refl

pub returns-in-dump-clause-meant : goal.returns-in-dump-clause-meant
returns-in-dump-clause-meant c = go
  where
    met : (asked : Asked) → Means (subcommand_rows_of c.args.matches.now) asked → IsMet c.in_ok-name.name.now (rows_of (found_of c.in_ok-name.options.now)) asked
    met asked m = is_met _ _ _ c.in_ok-name.name.now (rows_of (found_of c.in_ok-name.options.now)) asked c.in_ok-name.ensures.name c.in_ok-name.ensures.rows m

    other : {A : Type 0} (asked : Asked) → Means (subcommand_rows_of c.args.matches.now) asked → bytes_eq (name_of asked) (codes "dump") ≡ false → A
    other asked m apart = differ (name_of asked) (codes "dump") apart ((met asked m).0 ∙ c.in-dump.is)

    go : (asked : Asked) → InRange asked → Means (subcommand_rows_of c.args.matches.now) asked → option_map asked_of c.dump_in.result ≡ Some asked
    go (format file n version mode sparse identity) range m = other (format file n version mode sparse identity) m refl
    go (fresh file n identity) range m = other (fresh file n identity) m refl
    go (serve file batch pump history strict) range m = other (serve file batch pump history strict) m refl
    go (check file strict) range m = other (check file strict) m refl
    go (repair file) range m = other (repair file) m refl
    go (copy file new n version identity strict) range m = other (copy file new n version identity strict) m refl
    go (upgrade file version identity strict) range m = other (upgrade file version identity strict) m refl
    go (mem n version history) range m = other (mem n version history) m refl
    go (deep file) range m = other (deep file) m refl
    go (salvage file frames) range m = other (salvage file frames) m refl
    go (dump file strict) range m = c.dump_in.ensures.meant file strict (met (dump file strict) m).1
