-- The program's commands and options as `clap` sees them.
use Rattle.std.specs.Prelude.{◌≡◌, ◌⊎◌, ◌≤◌, ℕ, Bool, if◌then◌else◌, codes, Option, None, Some, false, true, List}
use Rattle.std.specs.Str.Parse.{IsNumeral, digits_value, without_leading_plus}
use Rattle.clap.specs.Words.{App, IsAmong, Rule, Shape, Row, Text, fault_of, first_of, one_of, new_app, new_rule, subcommand_of, with_rule, with_subcommand}
use Rattle.clap.specs.declared.error.kind.ErrorKind.TheVariants.{DisplayHelp, DisplayVersion}
use Rattle.clap.specs.declared.builder.action.ArgAction.TheVariants.{Set, SetTrue}
use Rattle.clap.specs.declared.builder.value_parser.ValueParser.TheVariants.{Unsigned}
use Rattle.command_line.specs.Call.{Asked, SpellsIdentity, SpellsMode, format, fresh, serve, check, repair, copy, upgrade, mem, deep, salvage, dump}
use Rattle.command_line.specs.Sizes.{SpellsSize}
use Rattle.command_line.specs.declared.limits.TheConstants.{MIN_SECTORS, MAX_SECTORS, MAX_MEMORY_SECTORS, MIN_FORMAT, MAX_FORMAT, MAX_BATCH, MAX_PUMP, MAX_HISTORY, HISTORY, NEW_SECTORS, OWNER_ALONE}

-- `FILE`, which must be there
abbrev pub file_rule : Rule
file_rule = record (new_rule (codes "file")) { action = Some Set; value_names = 1; required = true }

-- `NEW`, which must be there
abbrev pub target_rule : Rule
target_rule = record (new_rule (codes "new")) { action = Some Set; value_names = 1; required = true }

-- `--NAME N` with any text
abbrev pub option_rule : Text → Rule
option_rule name = record (new_rule name) { long = Some name; action = Some Set; value_names = 1 }

-- `--sectors N`, which must be there, with a number up to `most`
abbrev pub sectors_up_to : ℕ → Rule
sectors_up_to most = record (option_rule (codes "sectors")) { required = true; parser = Some (Unsigned MIN_SECTORS most) }

-- `--NAME N`, which may be absent, with a number from 1 up to `most`
abbrev pub number_up_to : Text → ℕ → Rule
number_up_to name most = record (option_rule name) { parser = Some (Unsigned 1 most) }

-- `--batch N`
abbrev pub batch_rule : Rule
batch_rule = number_up_to (codes "batch") MAX_BATCH

-- `--pump N`
abbrev pub pump_rule : Rule
pump_rule = number_up_to (codes "pump") MAX_PUMP

-- `--history N`, which may be absent, with a number from 0 on
abbrev pub history_rule : Rule
history_rule = record (option_rule (codes "history")) { parser = Some (Unsigned 0 MAX_HISTORY) }

-- `--format N`, which may be absent
abbrev pub format_rule : Rule
format_rule = record (option_rule (codes "format")) { parser = Some (Unsigned MIN_FORMAT MAX_FORMAT) }

-- `--size SIZE`, which may be absent, with any text
abbrev pub size_rule : Rule
size_rule = option_rule (codes "size")

-- `--mode MODE`, which may be absent, with any text
abbrev pub mode_rule : Rule
mode_rule = option_rule (codes "mode")

-- `--id HEX`, which may be absent, with any text
abbrev pub identity_rule : Rule
identity_rule = option_rule (codes "id")

-- `--NAME`, which takes no value
abbrev pub flag_rule : Text → Rule
flag_rule name = record (new_rule name) { long = Some name; action = Some SetTrue }

-- `--why`, of each command that takes a file
abbrev pub why_rule : Rule
why_rule = flag_rule (codes "why")

-- `--strict`
abbrev pub strict_rule : Rule
strict_rule = flag_rule (codes "strict")

abbrev pub fresh_shape : Shape
fresh_shape = (with_rule (with_rule (with_rule (with_rule (new_app (codes "new")) file_rule) size_rule) identity_rule) why_rule).top

abbrev pub format_shape : Shape
format_shape =
    let with_sectors = with_rule (with_rule (new_app (codes "format")) file_rule) (sectors_up_to MAX_SECTORS) in
    let with_mode = with_rule (with_rule with_sectors format_rule) mode_rule in
    (with_rule (with_rule (with_rule with_mode identity_rule) (flag_rule (codes "sparse"))) why_rule).top

abbrev pub serve_shape : Shape
serve_shape =
    let with_numbers = with_rule (with_rule (with_rule (new_app (codes "serve")) file_rule) batch_rule) pump_rule in
    (with_rule (with_rule (with_rule with_numbers history_rule) strict_rule) why_rule).top

abbrev pub check_shape : Shape
check_shape = (with_rule (with_rule (with_rule (with_rule (new_app (codes "check")) file_rule) strict_rule) (flag_rule (codes "deep"))) why_rule).top

abbrev pub repair_shape : Shape
repair_shape = (with_rule (with_rule (new_app (codes "repair")) file_rule) why_rule).top

abbrev pub copy_shape : Shape
copy_shape =
    let with_sectors = with_rule (with_rule (with_rule (new_app (codes "copy")) file_rule) target_rule) (sectors_up_to MAX_SECTORS) in
    (with_rule (with_rule (with_rule (with_rule with_sectors format_rule) identity_rule) strict_rule) why_rule).top

abbrev pub upgrade_shape : Shape
upgrade_shape = (with_rule (with_rule (with_rule (with_rule (with_rule (new_app (codes "upgrade")) file_rule) format_rule) identity_rule) strict_rule) why_rule).top

abbrev pub mem_shape : Shape
mem_shape = (with_rule (with_rule (with_rule (new_app (codes "mem")) (sectors_up_to MAX_MEMORY_SECTORS)) format_rule) history_rule).top

abbrev pub salvage_shape : Shape
salvage_shape = (with_rule (with_rule (with_rule (new_app (codes "salvage")) file_rule) (flag_rule (codes "frames"))) why_rule).top

abbrev pub dump_shape : Shape
dump_shape = (with_rule (with_rule (with_rule (with_rule (new_app (codes "dump")) file_rule) (flag_rule (codes "read-only"))) strict_rule) why_rule).top

-- all words are arguments, the first names a command, and there is a version to show
abbrev pub as_program : App → App
as_program app = record app { top = record app.top { has_version = true; no_binary_name = true; subcommand_required = true } }

abbrev pub app : App
app =
    let news = with_subcommand (as_program (new_app (codes "jpstore"))) fresh_shape in
    let formats = with_subcommand news format_shape in
    let serves = with_subcommand formats serve_shape in
    let checks = with_subcommand serves check_shape in
    let repairs = with_subcommand checks repair_shape in
    let copies = with_subcommand repairs copy_shape in
    let upgrades = with_subcommand copies upgrade_shape in
    let mems = with_subcommand upgrades mem_shape in
    let salvages = with_subcommand mems salvage_shape in
    with_subcommand salvages dump_shape

-- the options give this text to FILE
abbrev pub HoldsFile : Text → List Row → Type 0
HoldsFile file options = first_of (codes "file") options ≡ Some file

-- the options give this text to NEW
abbrev pub HoldsNew : Text → List Row → Type 0
HoldsNew new options = first_of (codes "new") options ≡ Some new

-- the text spells the number by decimal digits, with or without a plus in front
abbrev pub Spells : Text → ℕ → Type 0
Spells text n = IsNumeral 10 (without_leading_plus text) × (digits_value 10 (without_leading_plus text) ≡ n)

-- the options give a text to the option of that name that spells this number
abbrev pub HoldsNumber : Text → ℕ → List Row → Type 0
HoldsNumber option n options = (text : Text) × (one_of option options ≡ Some text) × Spells text n

-- the same with a number from 1 on, or they give it no text, and the number is its default
abbrev pub MayHold : Text → ℕ → ℕ → List Row → Type 0
MayHold option default n options = ((1 ≤ n) × HoldsNumber option n options) ⊎ ((n ≡ default) × (first_of option options ≡ None))

-- the options ask for the format by its number, or they ask for none
abbrev pub HoldsFormat : Option ℕ → List Row → Type 0
HoldsFormat None options = first_of (codes "format") options ≡ None
HoldsFormat (Some version) options = HoldsNumber (codes "format") version options

-- the options give the bytes of the newest transactions by their number, or they give none, and it is the default
abbrev pub HoldsHistory : ℕ → List Row → Type 0
HoldsHistory n options = HoldsNumber (codes "history") n options ⊎ ((n ≡ HISTORY) × (first_of (codes "history") options ≡ None))

-- what `clap` keeps of a flag: that it was met, or its default
abbrev pub flag_text : Bool → Text
flag_text set = if set then codes "true" else codes "false"

-- the options say whether the flag of that name is set
abbrev pub HoldsFlag : Text → Bool → List Row → Type 0
HoldsFlag flag set options = one_of flag options ≡ Some (flag_text set)

-- the options give the size of a file by a text, and it needs these sectors, or they give none, and it is 16 MiB
abbrev pub HoldsSize : ℕ → List Row → Type 0
HoldsSize sectors options =
    ((text : Text) × (first_of (codes "size") options ≡ Some text) × SpellsSize text sectors) ⊎ ((sectors ≡ NEW_SECTORS) × (first_of (codes "size") options ≡ None))

-- the options give the mode by a text in octal, or they give it none, and it is that of a file that its owner alone may read and write
abbrev pub HoldsMode : ℕ → List Row → Type 0
HoldsMode mode options =
    ((text : Text) × (first_of (codes "mode") options ≡ Some text) × SpellsMode text mode) ⊎ ((mode ≡ OWNER_ALONE) × (first_of (codes "mode") options ≡ None))

-- the options give the identity by its 32 hexadecimal digits, or they give none
abbrev pub HoldsIdentity : Option ℕ → List Row → Type 0
HoldsIdentity None options = first_of (codes "id") options ≡ None
HoldsIdentity (Some identity) options = (text : Text) × (first_of (codes "id") options ≡ Some text) × SpellsIdentity text identity

-- the options of a call hold its files, spell its numbers, or leave one out if it has a default, and say whether its
-- flag is set
abbrev pub Holds : Asked → List Row → Type 0
Holds (format file sectors version mode sparse identity) options =
    HoldsFile file options × HoldsNumber (codes "sectors") sectors options × MayHold (codes "format") 2 version options
    × HoldsMode mode options × HoldsFlag (codes "sparse") sparse options × HoldsIdentity identity options
Holds (fresh file sectors identity) options = HoldsFile file options × HoldsSize sectors options × HoldsIdentity identity options
Holds (serve file batch pump history strict) options =
    HoldsFile file options × MayHold (codes "batch") 1 batch options × MayHold (codes "pump") 0 pump options × HoldsHistory history options
    × HoldsFlag (codes "strict") strict options
Holds (check file strict) options = HoldsFile file options × HoldsFlag (codes "strict") strict options × HoldsFlag (codes "deep") false options
Holds (repair file) options = HoldsFile file options
Holds (copy file new sectors version identity strict) options =
    HoldsFile file options × HoldsNew new options × HoldsNumber (codes "sectors") sectors options × HoldsFormat version options × HoldsIdentity identity options
    × HoldsFlag (codes "strict") strict options
Holds (upgrade file version identity strict) options =
    HoldsFile file options × MayHold (codes "format") 3 version options × HoldsIdentity identity options × HoldsFlag (codes "strict") strict options
Holds (mem sectors version history) options = HoldsNumber (codes "sectors") sectors options × MayHold (codes "format") 2 version options × HoldsHistory history options
Holds (deep file) options = HoldsFile file options × HoldsFlag (codes "deep") true options
Holds (salvage file frames) options = HoldsFile file options × HoldsFlag (codes "frames") frames options
Holds (dump file strict) options = HoldsFile file options × HoldsFlag (codes "read-only") true options × HoldsFlag (codes "strict") strict options

-- the command of a call
abbrev pub name_of : Asked → Text
name_of (format file sectors version mode sparse identity) = codes "format"
name_of (fresh file sectors identity) = codes "new"
name_of (serve file batch pump history strict) = codes "serve"
name_of (check file strict) = codes "check"
name_of (repair file) = codes "repair"
name_of (copy file new sectors version identity strict) = codes "copy"
name_of (upgrade file version identity strict) = codes "upgrade"
name_of (mem sectors version history) = codes "mem"
name_of (deep file) = codes "check"
name_of (salvage file frames) = codes "salvage"
name_of (dump file strict) = codes "dump"

-- the command of that name, with these options, is the call
abbrev pub IsMet : Text → List Row → Asked → Type 0
IsMet name options asked = (name_of asked ≡ name) × Holds asked options

-- the command that was met, with its options, is the call
abbrev pub Means : Option (Text × List Row) → Asked → Type 0
Means met asked = (options : List Row) × (met ≡ Some (name_of asked, options)) × Holds asked options

-- the options of a call say whether it asks why a file isn't made or opened; that of a call without a file never does
abbrev pub HoldsWhy : Asked → Bool → List Row → Type 0
HoldsWhy (mem sectors version history) why options = why ≡ false
HoldsWhy (format file sectors version mode sparse identity) why options = HoldsFlag (codes "why") why options
HoldsWhy (fresh file sectors identity) why options = HoldsFlag (codes "why") why options
HoldsWhy (serve file batch pump history strict) why options = HoldsFlag (codes "why") why options
HoldsWhy (check file strict) why options = HoldsFlag (codes "why") why options
HoldsWhy (repair file) why options = HoldsFlag (codes "why") why options
HoldsWhy (copy file new sectors version identity strict) why options = HoldsFlag (codes "why") why options
HoldsWhy (upgrade file version identity strict) why options = HoldsFlag (codes "why") why options
HoldsWhy (deep file) why options = HoldsFlag (codes "why") why options
HoldsWhy (salvage file frames) why options = HoldsFlag (codes "why") why options
HoldsWhy (dump file strict) why options = HoldsFlag (codes "why") why options

-- the command that was met is that of the call, and its options say whether it asks why
abbrev pub MeansWhy : Option (Text × List Row) → Asked → Bool → Type 0
MeansWhy met asked why = (options : List Row) × (met ≡ Some (name_of asked, options)) × HoldsWhy asked why options

-- the words are no call, and ask for no help and no version
abbrev pub IsNoCall : List Text → Type 0
IsNoCall words =
    ((asked : Asked) → Means (subcommand_of app words) asked → ⊥) × (IsAmong DisplayHelp (fault_of app words) → ⊥) × (IsAmong DisplayVersion (fault_of app words) → ⊥)
