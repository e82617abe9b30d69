-- What a parse makes of the words that are a call's row.
use Rattle.std.proofs.Common.{◌≡◌, ℕ, List, [], ◌∷◌, ◌++◌, Option, Some, IfSome, codes, refl, true, false, ◌≤◌, ◌<◌, ◌^◌, Bool, Result, Ok, Err, decimal, arith, IfOk, IfErr, MatchResult, None, inl, inr}
use Rattle.clap.specs.Walk.{idle, nothing_held, walk_from}
use Rattle.clap.specs.Words.{FailsBy, HasKind, Kinds, Row, Shape, Text, first_of, one_of, subcommand_of, takes}
use Rattle.clap.specs.declared.error.Error.{Error}
use Rattle.clap.proofs.OnLiterals.{clap_on_literals}
use Rattle.command_line.proofs.Walks.{IsPlain, gone, goes, standing}
use Rattle.command_line.proofs.Readings.{IsChecked, Read, built_for, checked, flag_row, given, met, number, option_words, plain, plain_step, read_by, value_step}
use Rattle.command_line.proofs.Serves.{batch_first_read, pump_first_read}
use Rattle.command_line.specs.declared.limits.TheConstants.{MIN_SECTORS, MAX_SECTORS, MAX_MEMORY_SECTORS, MIN_FORMAT, MAX_FORMAT, MAX_BATCH, MAX_PUMP, MAX_HISTORY}
use Rattle.command_line.specs.Call.{Asked, format, fresh, serve, check, repair, copy, upgrade, mem, deep, salvage, dump, InRange, IsFormatAsked, IsFormatNumber, IsGiven, IsHistoryGiven, IsIdentityGiven, IsModeGiven, IsRowOf, IsSizeGiven, flag_words}
use Rattle.command_line.specs.Options.{app, HoldsFile, HoldsFlag, HoldsFormat, HoldsHistory, HoldsIdentity, HoldsMode, HoldsNew, HoldsSize, MayHold, Means, MeansWhy}

abbrev format_built : Shape
format_built = built_for (codes "format")

abbrev fresh_built : Shape
fresh_built = built_for (codes "new")

abbrev upgrade_built : Shape
upgrade_built = built_for (codes "upgrade")

abbrev check_built : Shape
check_built = built_for (codes "check")

abbrev repair_built : Shape
repair_built = built_for (codes "repair")

abbrev copy_built : Shape
copy_built = built_for (codes "copy")

abbrev salvage_built : Shape
salvage_built = built_for (codes "salvage")

abbrev dump_built : Shape
dump_built = built_for (codes "dump")

abbrev mem_built : Shape
mem_built = built_for (codes "mem")

-- what is found for the arguments of `mem`
abbrev FoundMem : Text → Option Text → Option Text → List Row → Type 0
FoundMem sectors version history rows =
    (one_of (codes "sectors") rows ≡ Some sectors) × (one_of (codes "format") rows ≡ version) × (first_of (codes "format") rows ≡ version)
    × (one_of (codes "history") rows ≡ history) × (first_of (codes "history") rows ≡ history)

mem_read : (sectors : Text) (version history : Option Text) → IsChecked MIN_SECTORS MAX_MEMORY_SECTORS sectors → IfSome version (IsChecked MIN_FORMAT MAX_FORMAT) → IfSome history (IsChecked 0 MAX_HISTORY)
    → Read (codes "mem" ∷ codes "--sectors" ∷ sectors ∷ option_words (codes "--format") version ++ option_words (codes "--history") history) (codes "mem") (FoundMem sectors version history)
unfolding clap_on_literals
mem_read sectors (Some version) (Some history) s v n =
    let walked = goes (met mem_built (walk_from nothing_held) (codes "--sectors") refl) (goes (value_step mem_built [] (codes "sectors") 1 sectors s.0) (goes (met mem_built (standing [] (Some (codes "sectors", sectors ∷ [])) idle 1) (codes "--format") (simp s.1)) (goes (value_step mem_built (given (codes "sectors") sectors ∷ []) (codes "format") 1 version v.0) (goes (met mem_built (standing (given (codes "sectors") sectors ∷ []) (Some (codes "format", version ∷ [])) idle 1) (codes "--history") (simp v.1)) (goes (value_step mem_built (given (codes "sectors") sectors ∷ given (codes "format") version ∷ []) (codes "history") 1 history n.0) (gone mem_built (standing (given (codes "sectors") sectors ∷ given (codes "format") version ∷ []) (Some (codes "history", history ∷ [])) idle 1))))))) in
    let read = read_by (codes "--sectors" ∷ sectors ∷ codes "--format" ∷ version ∷ codes "--history" ∷ history ∷ []) (codes "mem") mem_built (standing (given (codes "sectors") sectors ∷ given (codes "format") version ∷ []) (Some (codes "history", history ∷ [])) idle 1) refl refl refl walked (simp n.1) refl refl in
    record { rows = _; met = read.0; taken = read.1; holds = (refl, refl, refl, refl, refl) }
mem_read sectors (Some version) None s v n =
    let walked = goes (met mem_built (walk_from nothing_held) (codes "--sectors") refl) (goes (value_step mem_built [] (codes "sectors") 1 sectors s.0) (goes (met mem_built (standing [] (Some (codes "sectors", sectors ∷ [])) idle 1) (codes "--format") (simp s.1)) (goes (value_step mem_built (given (codes "sectors") sectors ∷ []) (codes "format") 1 version v.0) (gone mem_built (standing (given (codes "sectors") sectors ∷ []) (Some (codes "format", version ∷ [])) idle 1))))) in
    let read = read_by (codes "--sectors" ∷ sectors ∷ codes "--format" ∷ version ∷ []) (codes "mem") mem_built (standing (given (codes "sectors") sectors ∷ []) (Some (codes "format", version ∷ [])) idle 1) refl refl refl walked (simp v.1) refl refl in
    record { rows = _; met = read.0; taken = read.1; holds = (refl, refl, refl, refl, refl) }
mem_read sectors None (Some history) s v n =
    let walked = goes (met mem_built (walk_from nothing_held) (codes "--sectors") refl) (goes (value_step mem_built [] (codes "sectors") 1 sectors s.0) (goes (met mem_built (standing [] (Some (codes "sectors", sectors ∷ [])) idle 1) (codes "--history") (simp s.1)) (goes (value_step mem_built (given (codes "sectors") sectors ∷ []) (codes "history") 1 history n.0) (gone mem_built (standing (given (codes "sectors") sectors ∷ []) (Some (codes "history", history ∷ [])) idle 1))))) in
    let read = read_by (codes "--sectors" ∷ sectors ∷ codes "--history" ∷ history ∷ []) (codes "mem") mem_built (standing (given (codes "sectors") sectors ∷ []) (Some (codes "history", history ∷ [])) idle 1) refl refl refl walked (simp n.1) refl refl in
    record { rows = _; met = read.0; taken = read.1; holds = (refl, refl, refl, refl, refl) }
mem_read sectors None None s v n =
    let walked = goes (met mem_built (walk_from nothing_held) (codes "--sectors") refl) (goes (value_step mem_built [] (codes "sectors") 1 sectors s.0) (gone mem_built (standing [] (Some (codes "sectors", sectors ∷ [])) idle 1))) in
    let read = read_by (codes "--sectors" ∷ sectors ∷ []) (codes "mem") mem_built (standing [] (Some (codes "sectors", sectors ∷ [])) idle 1) refl refl refl walked (simp s.1) refl refl in
    record { rows = _; met = read.0; taken = read.1; holds = (refl, refl, refl, refl, refl) }

fresh_read : (file : Text) (size identity : Option Text) (why : Bool) → IsPlain file → IfSome size IsPlain → IfSome identity IsPlain
    → Read (codes "new" ∷ file ∷ option_words (codes "--size") size ++ option_words (codes "--id") identity ++ flag_words (codes "--why") why) (codes "new")
    (λ rows. HoldsFile file rows × (first_of (codes "size") rows ≡ size) × (first_of (codes "id") rows ≡ identity) × HoldsFlag (codes "why") why rows)
unfolding clap_on_literals
fresh_read file (Some size) (Some identity) true h s d =
    let walked = goes (plain_step fresh_built None 1 file h refl) (goes (met fresh_built (standing [] (Some (codes "file", file ∷ [])) idle 2) (codes "--size") refl) (goes (value_step fresh_built (given (codes "file") file ∷ []) (codes "size") 2 size s) (goes (met fresh_built (standing (given (codes "file") file ∷ []) (Some (codes "size", size ∷ [])) idle 2) (codes "--id") refl) (goes (value_step fresh_built (given (codes "file") file ∷ given (codes "size") size ∷ []) (codes "id") 2 identity d) (goes (met fresh_built (standing (given (codes "file") file ∷ given (codes "size") size ∷ []) (Some (codes "id", identity ∷ [])) idle 2) (codes "--why") refl) (gone fresh_built (standing (given (codes "file") file ∷ given (codes "size") size ∷ given (codes "id") identity ∷ flag_row (codes "why") true ∷ []) None idle 2))))))) in
    let read = read_by (file ∷ codes "--size" ∷ size ∷ codes "--id" ∷ identity ∷ codes "--why" ∷ []) (codes "new") fresh_built (standing (given (codes "file") file ∷ given (codes "size") size ∷ given (codes "id") identity ∷ flag_row (codes "why") true ∷ []) None idle 2) refl refl refl walked refl refl refl in
    record { rows = _; met = read.0; taken = read.1; holds = (refl, refl, refl, refl) }
fresh_read file (Some size) (Some identity) false h s d =
    let walked = goes (plain_step fresh_built None 1 file h refl) (goes (met fresh_built (standing [] (Some (codes "file", file ∷ [])) idle 2) (codes "--size") refl) (goes (value_step fresh_built (given (codes "file") file ∷ []) (codes "size") 2 size s) (goes (met fresh_built (standing (given (codes "file") file ∷ []) (Some (codes "size", size ∷ [])) idle 2) (codes "--id") refl) (goes (value_step fresh_built (given (codes "file") file ∷ given (codes "size") size ∷ []) (codes "id") 2 identity d) (gone fresh_built (standing (given (codes "file") file ∷ given (codes "size") size ∷ []) (Some (codes "id", identity ∷ [])) idle 2)))))) in
    let read = read_by (file ∷ codes "--size" ∷ size ∷ codes "--id" ∷ identity ∷ []) (codes "new") fresh_built (standing (given (codes "file") file ∷ given (codes "size") size ∷ []) (Some (codes "id", identity ∷ [])) idle 2) refl refl refl walked refl refl refl in
    record { rows = _; met = read.0; taken = read.1; holds = (refl, refl, refl, refl) }
fresh_read file (Some size) None true h s d =
    let walked = goes (plain_step fresh_built None 1 file h refl) (goes (met fresh_built (standing [] (Some (codes "file", file ∷ [])) idle 2) (codes "--size") refl) (goes (value_step fresh_built (given (codes "file") file ∷ []) (codes "size") 2 size s) (goes (met fresh_built (standing (given (codes "file") file ∷ []) (Some (codes "size", size ∷ [])) idle 2) (codes "--why") refl) (gone fresh_built (standing (given (codes "file") file ∷ given (codes "size") size ∷ flag_row (codes "why") true ∷ []) None idle 2))))) in
    let read = read_by (file ∷ codes "--size" ∷ size ∷ codes "--why" ∷ []) (codes "new") fresh_built (standing (given (codes "file") file ∷ given (codes "size") size ∷ flag_row (codes "why") true ∷ []) None idle 2) refl refl refl walked refl refl refl in
    record { rows = _; met = read.0; taken = read.1; holds = (refl, refl, refl, refl) }
fresh_read file (Some size) None false h s d =
    let walked = goes (plain_step fresh_built None 1 file h refl) (goes (met fresh_built (standing [] (Some (codes "file", file ∷ [])) idle 2) (codes "--size") refl) (goes (value_step fresh_built (given (codes "file") file ∷ []) (codes "size") 2 size s) (gone fresh_built (standing (given (codes "file") file ∷ []) (Some (codes "size", size ∷ [])) idle 2)))) in
    let read = read_by (file ∷ codes "--size" ∷ size ∷ []) (codes "new") fresh_built (standing (given (codes "file") file ∷ []) (Some (codes "size", size ∷ [])) idle 2) refl refl refl walked refl refl refl in
    record { rows = _; met = read.0; taken = read.1; holds = (refl, refl, refl, refl) }
fresh_read file None (Some identity) true h s d =
    let walked = goes (plain_step fresh_built None 1 file h refl) (goes (met fresh_built (standing [] (Some (codes "file", file ∷ [])) idle 2) (codes "--id") refl) (goes (value_step fresh_built (given (codes "file") file ∷ []) (codes "id") 2 identity d) (goes (met fresh_built (standing (given (codes "file") file ∷ []) (Some (codes "id", identity ∷ [])) idle 2) (codes "--why") refl) (gone fresh_built (standing (given (codes "file") file ∷ given (codes "id") identity ∷ flag_row (codes "why") true ∷ []) None idle 2))))) in
    let read = read_by (file ∷ codes "--id" ∷ identity ∷ codes "--why" ∷ []) (codes "new") fresh_built (standing (given (codes "file") file ∷ given (codes "id") identity ∷ flag_row (codes "why") true ∷ []) None idle 2) refl refl refl walked refl refl refl in
    record { rows = _; met = read.0; taken = read.1; holds = (refl, refl, refl, refl) }
fresh_read file None (Some identity) false h s d =
    let walked = goes (plain_step fresh_built None 1 file h refl) (goes (met fresh_built (standing [] (Some (codes "file", file ∷ [])) idle 2) (codes "--id") refl) (goes (value_step fresh_built (given (codes "file") file ∷ []) (codes "id") 2 identity d) (gone fresh_built (standing (given (codes "file") file ∷ []) (Some (codes "id", identity ∷ [])) idle 2)))) in
    let read = read_by (file ∷ codes "--id" ∷ identity ∷ []) (codes "new") fresh_built (standing (given (codes "file") file ∷ []) (Some (codes "id", identity ∷ [])) idle 2) refl refl refl walked refl refl refl in
    record { rows = _; met = read.0; taken = read.1; holds = (refl, refl, refl, refl) }
fresh_read file None None true h s d =
    let walked = goes (plain_step fresh_built None 1 file h refl) (goes (met fresh_built (standing [] (Some (codes "file", file ∷ [])) idle 2) (codes "--why") refl) (gone fresh_built (standing (given (codes "file") file ∷ flag_row (codes "why") true ∷ []) None idle 2))) in
    let read = read_by (file ∷ codes "--why" ∷ []) (codes "new") fresh_built (standing (given (codes "file") file ∷ flag_row (codes "why") true ∷ []) None idle 2) refl refl refl walked refl refl refl in
    record { rows = _; met = read.0; taken = read.1; holds = (refl, refl, refl, refl) }
fresh_read file None None false h s d =
    let walked = goes (plain_step fresh_built None 1 file h refl) (gone fresh_built (standing [] (Some (codes "file", file ∷ [])) idle 2)) in
    let read = read_by (file ∷ []) (codes "new") fresh_built (standing [] (Some (codes "file", file ∷ [])) idle 2) refl refl refl walked refl refl refl in
    record { rows = _; met = read.0; taken = read.1; holds = (refl, refl, refl, refl) }

check_read : (file : Text) (strict why : Bool) → IsPlain file
    → Read (codes "check" ∷ file ∷ flag_words (codes "--strict") strict ++ flag_words (codes "--why") why) (codes "check")
    (λ rows. HoldsFile file rows × HoldsFlag (codes "strict") strict rows × HoldsFlag (codes "deep") false rows × HoldsFlag (codes "why") why rows)
unfolding clap_on_literals
check_read file true true h =
    let walked = goes (plain_step check_built None 1 file h refl) (goes (met check_built (standing [] (Some (codes "file", file ∷ [])) idle 2) (codes "--strict") refl) (goes (met check_built (standing (given (codes "file") file ∷ flag_row (codes "strict") true ∷ []) None idle 2) (codes "--why") refl) (gone check_built (standing (given (codes "file") file ∷ flag_row (codes "strict") true ∷ flag_row (codes "why") true ∷ []) None idle 2)))) in
    let read = read_by (file ∷ codes "--strict" ∷ codes "--why" ∷ []) (codes "check") check_built (standing (given (codes "file") file ∷ flag_row (codes "strict") true ∷ flag_row (codes "why") true ∷ []) None idle 2) refl refl refl walked refl refl refl in
    record { rows = _; met = read.0; taken = read.1; holds = (refl, refl, refl, refl) }
check_read file true false h =
    let walked = goes (plain_step check_built None 1 file h refl) (goes (met check_built (standing [] (Some (codes "file", file ∷ [])) idle 2) (codes "--strict") refl) (gone check_built (standing (given (codes "file") file ∷ flag_row (codes "strict") true ∷ []) None idle 2))) in
    let read = read_by (file ∷ codes "--strict" ∷ []) (codes "check") check_built (standing (given (codes "file") file ∷ flag_row (codes "strict") true ∷ []) None idle 2) refl refl refl walked refl refl refl in
    record { rows = _; met = read.0; taken = read.1; holds = (refl, refl, refl, refl) }
check_read file false true h =
    let walked = goes (plain_step check_built None 1 file h refl) (goes (met check_built (standing [] (Some (codes "file", file ∷ [])) idle 2) (codes "--why") refl) (gone check_built (standing (given (codes "file") file ∷ flag_row (codes "why") true ∷ []) None idle 2))) in
    let read = read_by (file ∷ codes "--why" ∷ []) (codes "check") check_built (standing (given (codes "file") file ∷ flag_row (codes "why") true ∷ []) None idle 2) refl refl refl walked refl refl refl in
    record { rows = _; met = read.0; taken = read.1; holds = (refl, refl, refl, refl) }
check_read file false false h =
    let walked = goes (plain_step check_built None 1 file h refl) (gone check_built (standing [] (Some (codes "file", file ∷ [])) idle 2)) in
    let read = read_by (file ∷ []) (codes "check") check_built (standing [] (Some (codes "file", file ∷ [])) idle 2) refl refl refl walked refl refl refl in
    record { rows = _; met = read.0; taken = read.1; holds = (refl, refl, refl, refl) }

deep_read : (file : Text) (why : Bool) → IsPlain file
    → Read (codes "check" ∷ file ∷ codes "--deep" ∷ flag_words (codes "--why") why) (codes "check") (λ rows. HoldsFile file rows × HoldsFlag (codes "deep") true rows × HoldsFlag (codes "why") why rows)
unfolding clap_on_literals
deep_read file true h =
    let walked = goes (plain_step check_built None 1 file h refl) (goes (met check_built (standing [] (Some (codes "file", file ∷ [])) idle 2) (codes "--deep") refl) (goes (met check_built (standing (given (codes "file") file ∷ flag_row (codes "deep") true ∷ []) None idle 2) (codes "--why") refl) (gone check_built (standing (given (codes "file") file ∷ flag_row (codes "deep") true ∷ flag_row (codes "why") true ∷ []) None idle 2)))) in
    let read = read_by (file ∷ codes "--deep" ∷ codes "--why" ∷ []) (codes "check") check_built (standing (given (codes "file") file ∷ flag_row (codes "deep") true ∷ flag_row (codes "why") true ∷ []) None idle 2) refl refl refl walked refl refl refl in
    record { rows = _; met = read.0; taken = read.1; holds = (refl, refl, refl) }
deep_read file false h =
    let walked = goes (plain_step check_built None 1 file h refl) (goes (met check_built (standing [] (Some (codes "file", file ∷ [])) idle 2) (codes "--deep") refl) (gone check_built (standing (given (codes "file") file ∷ flag_row (codes "deep") true ∷ []) None idle 2))) in
    let read = read_by (file ∷ codes "--deep" ∷ []) (codes "check") check_built (standing (given (codes "file") file ∷ flag_row (codes "deep") true ∷ []) None idle 2) refl refl refl walked refl refl refl in
    record { rows = _; met = read.0; taken = read.1; holds = (refl, refl, refl) }

repair_read : (file : Text) (why : Bool) → IsPlain file
    → Read (codes "repair" ∷ file ∷ flag_words (codes "--why") why) (codes "repair") (λ rows. HoldsFile file rows × HoldsFlag (codes "why") why rows)
unfolding clap_on_literals
repair_read file true h =
    let walked = goes (plain_step repair_built None 1 file h refl) (goes (met repair_built (standing [] (Some (codes "file", file ∷ [])) idle 2) (codes "--why") refl) (gone repair_built (standing (given (codes "file") file ∷ flag_row (codes "why") true ∷ []) None idle 2))) in
    let read = read_by (file ∷ codes "--why" ∷ []) (codes "repair") repair_built (standing (given (codes "file") file ∷ flag_row (codes "why") true ∷ []) None idle 2) refl refl refl walked refl refl refl in
    record { rows = _; met = read.0; taken = read.1; holds = (refl, refl) }
repair_read file false h =
    let walked = goes (plain_step repair_built None 1 file h refl) (gone repair_built (standing [] (Some (codes "file", file ∷ [])) idle 2)) in
    let read = read_by (file ∷ []) (codes "repair") repair_built (standing [] (Some (codes "file", file ∷ [])) idle 2) refl refl refl walked refl refl refl in
    record { rows = _; met = read.0; taken = read.1; holds = (refl, refl) }

salvage_read : (file : Text) (set why : Bool) → IsPlain file
    → Read (codes "salvage" ∷ file ∷ flag_words (codes "--frames") set ++ flag_words (codes "--why") why) (codes "salvage") (λ rows. HoldsFile file rows × HoldsFlag (codes "frames") set rows × HoldsFlag (codes "why") why rows)
unfolding clap_on_literals
salvage_read file true true h =
    let walked = goes (plain_step salvage_built None 1 file h refl) (goes (met salvage_built (standing [] (Some (codes "file", file ∷ [])) idle 2) (codes "--frames") refl) (goes (met salvage_built (standing (given (codes "file") file ∷ flag_row (codes "frames") true ∷ []) None idle 2) (codes "--why") refl) (gone salvage_built (standing (given (codes "file") file ∷ flag_row (codes "frames") true ∷ flag_row (codes "why") true ∷ []) None idle 2)))) in
    let read = read_by (file ∷ codes "--frames" ∷ codes "--why" ∷ []) (codes "salvage") salvage_built (standing (given (codes "file") file ∷ flag_row (codes "frames") true ∷ flag_row (codes "why") true ∷ []) None idle 2) refl refl refl walked refl refl refl in
    record { rows = _; met = read.0; taken = read.1; holds = (refl, refl, refl) }
salvage_read file true false h =
    let walked = goes (plain_step salvage_built None 1 file h refl) (goes (met salvage_built (standing [] (Some (codes "file", file ∷ [])) idle 2) (codes "--frames") refl) (gone salvage_built (standing (given (codes "file") file ∷ flag_row (codes "frames") true ∷ []) None idle 2))) in
    let read = read_by (file ∷ codes "--frames" ∷ []) (codes "salvage") salvage_built (standing (given (codes "file") file ∷ flag_row (codes "frames") true ∷ []) None idle 2) refl refl refl walked refl refl refl in
    record { rows = _; met = read.0; taken = read.1; holds = (refl, refl, refl) }
salvage_read file false true h =
    let walked = goes (plain_step salvage_built None 1 file h refl) (goes (met salvage_built (standing [] (Some (codes "file", file ∷ [])) idle 2) (codes "--why") refl) (gone salvage_built (standing (given (codes "file") file ∷ flag_row (codes "why") true ∷ []) None idle 2))) in
    let read = read_by (file ∷ codes "--why" ∷ []) (codes "salvage") salvage_built (standing (given (codes "file") file ∷ flag_row (codes "why") true ∷ []) None idle 2) refl refl refl walked refl refl refl in
    record { rows = _; met = read.0; taken = read.1; holds = (refl, refl, refl) }
salvage_read file false false h =
    let walked = goes (plain_step salvage_built None 1 file h refl) (gone salvage_built (standing [] (Some (codes "file", file ∷ [])) idle 2)) in
    let read = read_by (file ∷ []) (codes "salvage") salvage_built (standing [] (Some (codes "file", file ∷ [])) idle 2) refl refl refl walked refl refl refl in
    record { rows = _; met = read.0; taken = read.1; holds = (refl, refl, refl) }

dump_read : (file : Text) (strict why : Bool) → IsPlain file
    → Read (codes "dump" ∷ file ∷ codes "--read-only" ∷ flag_words (codes "--strict") strict ++ flag_words (codes "--why") why) (codes "dump") (λ rows. HoldsFile file rows × HoldsFlag (codes "read-only") true rows × HoldsFlag (codes "strict") strict rows × HoldsFlag (codes "why") why rows)
unfolding clap_on_literals
dump_read file true true h =
    let walked = goes (plain_step dump_built None 1 file h refl) (goes (met dump_built (standing [] (Some (codes "file", file ∷ [])) idle 2) (codes "--read-only") refl) (goes (met dump_built (standing (given (codes "file") file ∷ flag_row (codes "read-only") true ∷ []) None idle 2) (codes "--strict") refl) (goes (met dump_built (standing (given (codes "file") file ∷ flag_row (codes "read-only") true ∷ flag_row (codes "strict") true ∷ []) None idle 2) (codes "--why") refl) (gone dump_built (standing (given (codes "file") file ∷ flag_row (codes "read-only") true ∷ flag_row (codes "strict") true ∷ flag_row (codes "why") true ∷ []) None idle 2))))) in
    let read = read_by (file ∷ codes "--read-only" ∷ codes "--strict" ∷ codes "--why" ∷ []) (codes "dump") dump_built (standing (given (codes "file") file ∷ flag_row (codes "read-only") true ∷ flag_row (codes "strict") true ∷ flag_row (codes "why") true ∷ []) None idle 2) refl refl refl walked refl refl refl in
    record { rows = _; met = read.0; taken = read.1; holds = (refl, refl, refl, refl) }
dump_read file true false h =
    let walked = goes (plain_step dump_built None 1 file h refl) (goes (met dump_built (standing [] (Some (codes "file", file ∷ [])) idle 2) (codes "--read-only") refl) (goes (met dump_built (standing (given (codes "file") file ∷ flag_row (codes "read-only") true ∷ []) None idle 2) (codes "--strict") refl) (gone dump_built (standing (given (codes "file") file ∷ flag_row (codes "read-only") true ∷ flag_row (codes "strict") true ∷ []) None idle 2)))) in
    let read = read_by (file ∷ codes "--read-only" ∷ codes "--strict" ∷ []) (codes "dump") dump_built (standing (given (codes "file") file ∷ flag_row (codes "read-only") true ∷ flag_row (codes "strict") true ∷ []) None idle 2) refl refl refl walked refl refl refl in
    record { rows = _; met = read.0; taken = read.1; holds = (refl, refl, refl, refl) }
dump_read file false true h =
    let walked = goes (plain_step dump_built None 1 file h refl) (goes (met dump_built (standing [] (Some (codes "file", file ∷ [])) idle 2) (codes "--read-only") refl) (goes (met dump_built (standing (given (codes "file") file ∷ flag_row (codes "read-only") true ∷ []) None idle 2) (codes "--why") refl) (gone dump_built (standing (given (codes "file") file ∷ flag_row (codes "read-only") true ∷ flag_row (codes "why") true ∷ []) None idle 2)))) in
    let read = read_by (file ∷ codes "--read-only" ∷ codes "--why" ∷ []) (codes "dump") dump_built (standing (given (codes "file") file ∷ flag_row (codes "read-only") true ∷ flag_row (codes "why") true ∷ []) None idle 2) refl refl refl walked refl refl refl in
    record { rows = _; met = read.0; taken = read.1; holds = (refl, refl, refl, refl) }
dump_read file false false h =
    let walked = goes (plain_step dump_built None 1 file h refl) (goes (met dump_built (standing [] (Some (codes "file", file ∷ [])) idle 2) (codes "--read-only") refl) (gone dump_built (standing (given (codes "file") file ∷ flag_row (codes "read-only") true ∷ []) None idle 2))) in
    let read = read_by (file ∷ codes "--read-only" ∷ []) (codes "dump") dump_built (standing (given (codes "file") file ∷ flag_row (codes "read-only") true ∷ []) None idle 2) refl refl refl walked refl refl refl in
    record { rows = _; met = read.0; taken = read.1; holds = (refl, refl, refl, refl) }

copy_read : (file new sectors : Text) (version identity : Option Text) (strict why : Bool) → IsPlain file → IsPlain new → IsChecked MIN_SECTORS MAX_SECTORS sectors → IfSome version (IsChecked MIN_FORMAT MAX_FORMAT) → IfSome identity IsPlain
    → Read (codes "copy" ∷ file ∷ new ∷ codes "--sectors" ∷ sectors ∷ option_words (codes "--format") version ++ option_words (codes "--id") identity ++ flag_words (codes "--strict") strict ++ flag_words (codes "--why") why) (codes "copy")
    (λ rows. HoldsFile file rows × HoldsNew new rows × (one_of (codes "sectors") rows ≡ Some sectors) × (one_of (codes "format") rows ≡ version) × (first_of (codes "format") rows ≡ version) × (first_of (codes "id") rows ≡ identity) × HoldsFlag (codes "strict") strict rows × HoldsFlag (codes "why") why rows)
unfolding clap_on_literals
copy_read file new sectors (Some version) (Some identity) true true h k s v d =
    let walked = goes (plain_step copy_built None 1 file h refl) (goes (plain_step copy_built (Some (codes "file", file ∷ [])) 2 new k refl) (goes (met copy_built (standing (given (codes "file") file ∷ []) (Some (codes "new", new ∷ [])) idle 3) (codes "--sectors") refl) (goes (value_step copy_built (given (codes "file") file ∷ given (codes "new") new ∷ []) (codes "sectors") 3 sectors s.0) (goes (met copy_built (standing (given (codes "file") file ∷ given (codes "new") new ∷ []) (Some (codes "sectors", sectors ∷ [])) idle 3) (codes "--format") (simp s.1)) (goes (value_step copy_built (given (codes "file") file ∷ given (codes "new") new ∷ given (codes "sectors") sectors ∷ []) (codes "format") 3 version v.0) (goes (met copy_built (standing (given (codes "file") file ∷ given (codes "new") new ∷ given (codes "sectors") sectors ∷ []) (Some (codes "format", version ∷ [])) idle 3) (codes "--id") (simp v.1)) (goes (value_step copy_built (given (codes "file") file ∷ given (codes "new") new ∷ given (codes "sectors") sectors ∷ given (codes "format") version ∷ []) (codes "id") 3 identity d) (goes (met copy_built (standing (given (codes "file") file ∷ given (codes "new") new ∷ given (codes "sectors") sectors ∷ given (codes "format") version ∷ []) (Some (codes "id", identity ∷ [])) idle 3) (codes "--strict") refl) (goes (met copy_built (standing (given (codes "file") file ∷ given (codes "new") new ∷ given (codes "sectors") sectors ∷ given (codes "format") version ∷ given (codes "id") identity ∷ flag_row (codes "strict") true ∷ []) None idle 3) (codes "--why") refl) (gone copy_built (standing (given (codes "file") file ∷ given (codes "new") new ∷ given (codes "sectors") sectors ∷ given (codes "format") version ∷ given (codes "id") identity ∷ flag_row (codes "strict") true ∷ flag_row (codes "why") true ∷ []) None idle 3))))))))))) in
    let read = read_by (file ∷ new ∷ codes "--sectors" ∷ sectors ∷ codes "--format" ∷ version ∷ codes "--id" ∷ identity ∷ codes "--strict" ∷ codes "--why" ∷ []) (codes "copy") copy_built (standing (given (codes "file") file ∷ given (codes "new") new ∷ given (codes "sectors") sectors ∷ given (codes "format") version ∷ given (codes "id") identity ∷ flag_row (codes "strict") true ∷ flag_row (codes "why") true ∷ []) None idle 3) refl refl refl walked refl refl refl in
    record { rows = _; met = read.0; taken = read.1; holds = (refl, refl, refl, refl, refl, refl, refl, refl) }
copy_read file new sectors (Some version) (Some identity) true false h k s v d =
    let walked = goes (plain_step copy_built None 1 file h refl) (goes (plain_step copy_built (Some (codes "file", file ∷ [])) 2 new k refl) (goes (met copy_built (standing (given (codes "file") file ∷ []) (Some (codes "new", new ∷ [])) idle 3) (codes "--sectors") refl) (goes (value_step copy_built (given (codes "file") file ∷ given (codes "new") new ∷ []) (codes "sectors") 3 sectors s.0) (goes (met copy_built (standing (given (codes "file") file ∷ given (codes "new") new ∷ []) (Some (codes "sectors", sectors ∷ [])) idle 3) (codes "--format") (simp s.1)) (goes (value_step copy_built (given (codes "file") file ∷ given (codes "new") new ∷ given (codes "sectors") sectors ∷ []) (codes "format") 3 version v.0) (goes (met copy_built (standing (given (codes "file") file ∷ given (codes "new") new ∷ given (codes "sectors") sectors ∷ []) (Some (codes "format", version ∷ [])) idle 3) (codes "--id") (simp v.1)) (goes (value_step copy_built (given (codes "file") file ∷ given (codes "new") new ∷ given (codes "sectors") sectors ∷ given (codes "format") version ∷ []) (codes "id") 3 identity d) (goes (met copy_built (standing (given (codes "file") file ∷ given (codes "new") new ∷ given (codes "sectors") sectors ∷ given (codes "format") version ∷ []) (Some (codes "id", identity ∷ [])) idle 3) (codes "--strict") refl) (gone copy_built (standing (given (codes "file") file ∷ given (codes "new") new ∷ given (codes "sectors") sectors ∷ given (codes "format") version ∷ given (codes "id") identity ∷ flag_row (codes "strict") true ∷ []) None idle 3)))))))))) in
    let read = read_by (file ∷ new ∷ codes "--sectors" ∷ sectors ∷ codes "--format" ∷ version ∷ codes "--id" ∷ identity ∷ codes "--strict" ∷ []) (codes "copy") copy_built (standing (given (codes "file") file ∷ given (codes "new") new ∷ given (codes "sectors") sectors ∷ given (codes "format") version ∷ given (codes "id") identity ∷ flag_row (codes "strict") true ∷ []) None idle 3) refl refl refl walked refl refl refl in
    record { rows = _; met = read.0; taken = read.1; holds = (refl, refl, refl, refl, refl, refl, refl, refl) }
copy_read file new sectors (Some version) (Some identity) false true h k s v d =
    let walked = goes (plain_step copy_built None 1 file h refl) (goes (plain_step copy_built (Some (codes "file", file ∷ [])) 2 new k refl) (goes (met copy_built (standing (given (codes "file") file ∷ []) (Some (codes "new", new ∷ [])) idle 3) (codes "--sectors") refl) (goes (value_step copy_built (given (codes "file") file ∷ given (codes "new") new ∷ []) (codes "sectors") 3 sectors s.0) (goes (met copy_built (standing (given (codes "file") file ∷ given (codes "new") new ∷ []) (Some (codes "sectors", sectors ∷ [])) idle 3) (codes "--format") (simp s.1)) (goes (value_step copy_built (given (codes "file") file ∷ given (codes "new") new ∷ given (codes "sectors") sectors ∷ []) (codes "format") 3 version v.0) (goes (met copy_built (standing (given (codes "file") file ∷ given (codes "new") new ∷ given (codes "sectors") sectors ∷ []) (Some (codes "format", version ∷ [])) idle 3) (codes "--id") (simp v.1)) (goes (value_step copy_built (given (codes "file") file ∷ given (codes "new") new ∷ given (codes "sectors") sectors ∷ given (codes "format") version ∷ []) (codes "id") 3 identity d) (goes (met copy_built (standing (given (codes "file") file ∷ given (codes "new") new ∷ given (codes "sectors") sectors ∷ given (codes "format") version ∷ []) (Some (codes "id", identity ∷ [])) idle 3) (codes "--why") refl) (gone copy_built (standing (given (codes "file") file ∷ given (codes "new") new ∷ given (codes "sectors") sectors ∷ given (codes "format") version ∷ given (codes "id") identity ∷ flag_row (codes "why") true ∷ []) None idle 3)))))))))) in
    let read = read_by (file ∷ new ∷ codes "--sectors" ∷ sectors ∷ codes "--format" ∷ version ∷ codes "--id" ∷ identity ∷ codes "--why" ∷ []) (codes "copy") copy_built (standing (given (codes "file") file ∷ given (codes "new") new ∷ given (codes "sectors") sectors ∷ given (codes "format") version ∷ given (codes "id") identity ∷ flag_row (codes "why") true ∷ []) None idle 3) refl refl refl walked refl refl refl in
    record { rows = _; met = read.0; taken = read.1; holds = (refl, refl, refl, refl, refl, refl, refl, refl) }
copy_read file new sectors (Some version) (Some identity) false false h k s v d =
    let walked = goes (plain_step copy_built None 1 file h refl) (goes (plain_step copy_built (Some (codes "file", file ∷ [])) 2 new k refl) (goes (met copy_built (standing (given (codes "file") file ∷ []) (Some (codes "new", new ∷ [])) idle 3) (codes "--sectors") refl) (goes (value_step copy_built (given (codes "file") file ∷ given (codes "new") new ∷ []) (codes "sectors") 3 sectors s.0) (goes (met copy_built (standing (given (codes "file") file ∷ given (codes "new") new ∷ []) (Some (codes "sectors", sectors ∷ [])) idle 3) (codes "--format") (simp s.1)) (goes (value_step copy_built (given (codes "file") file ∷ given (codes "new") new ∷ given (codes "sectors") sectors ∷ []) (codes "format") 3 version v.0) (goes (met copy_built (standing (given (codes "file") file ∷ given (codes "new") new ∷ given (codes "sectors") sectors ∷ []) (Some (codes "format", version ∷ [])) idle 3) (codes "--id") (simp v.1)) (goes (value_step copy_built (given (codes "file") file ∷ given (codes "new") new ∷ given (codes "sectors") sectors ∷ given (codes "format") version ∷ []) (codes "id") 3 identity d) (gone copy_built (standing (given (codes "file") file ∷ given (codes "new") new ∷ given (codes "sectors") sectors ∷ given (codes "format") version ∷ []) (Some (codes "id", identity ∷ [])) idle 3))))))))) in
    let read = read_by (file ∷ new ∷ codes "--sectors" ∷ sectors ∷ codes "--format" ∷ version ∷ codes "--id" ∷ identity ∷ []) (codes "copy") copy_built (standing (given (codes "file") file ∷ given (codes "new") new ∷ given (codes "sectors") sectors ∷ given (codes "format") version ∷ []) (Some (codes "id", identity ∷ [])) idle 3) refl refl refl walked refl refl refl in
    record { rows = _; met = read.0; taken = read.1; holds = (refl, refl, refl, refl, refl, refl, refl, refl) }
copy_read file new sectors (Some version) None true true h k s v d =
    let walked = goes (plain_step copy_built None 1 file h refl) (goes (plain_step copy_built (Some (codes "file", file ∷ [])) 2 new k refl) (goes (met copy_built (standing (given (codes "file") file ∷ []) (Some (codes "new", new ∷ [])) idle 3) (codes "--sectors") refl) (goes (value_step copy_built (given (codes "file") file ∷ given (codes "new") new ∷ []) (codes "sectors") 3 sectors s.0) (goes (met copy_built (standing (given (codes "file") file ∷ given (codes "new") new ∷ []) (Some (codes "sectors", sectors ∷ [])) idle 3) (codes "--format") (simp s.1)) (goes (value_step copy_built (given (codes "file") file ∷ given (codes "new") new ∷ given (codes "sectors") sectors ∷ []) (codes "format") 3 version v.0) (goes (met copy_built (standing (given (codes "file") file ∷ given (codes "new") new ∷ given (codes "sectors") sectors ∷ []) (Some (codes "format", version ∷ [])) idle 3) (codes "--strict") (simp v.1)) (goes (met copy_built (standing (given (codes "file") file ∷ given (codes "new") new ∷ given (codes "sectors") sectors ∷ given (codes "format") version ∷ flag_row (codes "strict") true ∷ []) None idle 3) (codes "--why") refl) (gone copy_built (standing (given (codes "file") file ∷ given (codes "new") new ∷ given (codes "sectors") sectors ∷ given (codes "format") version ∷ flag_row (codes "strict") true ∷ flag_row (codes "why") true ∷ []) None idle 3))))))))) in
    let read = read_by (file ∷ new ∷ codes "--sectors" ∷ sectors ∷ codes "--format" ∷ version ∷ codes "--strict" ∷ codes "--why" ∷ []) (codes "copy") copy_built (standing (given (codes "file") file ∷ given (codes "new") new ∷ given (codes "sectors") sectors ∷ given (codes "format") version ∷ flag_row (codes "strict") true ∷ flag_row (codes "why") true ∷ []) None idle 3) refl refl refl walked refl refl refl in
    record { rows = _; met = read.0; taken = read.1; holds = (refl, refl, refl, refl, refl, refl, refl, refl) }
copy_read file new sectors (Some version) None true false h k s v d =
    let walked = goes (plain_step copy_built None 1 file h refl) (goes (plain_step copy_built (Some (codes "file", file ∷ [])) 2 new k refl) (goes (met copy_built (standing (given (codes "file") file ∷ []) (Some (codes "new", new ∷ [])) idle 3) (codes "--sectors") refl) (goes (value_step copy_built (given (codes "file") file ∷ given (codes "new") new ∷ []) (codes "sectors") 3 sectors s.0) (goes (met copy_built (standing (given (codes "file") file ∷ given (codes "new") new ∷ []) (Some (codes "sectors", sectors ∷ [])) idle 3) (codes "--format") (simp s.1)) (goes (value_step copy_built (given (codes "file") file ∷ given (codes "new") new ∷ given (codes "sectors") sectors ∷ []) (codes "format") 3 version v.0) (goes (met copy_built (standing (given (codes "file") file ∷ given (codes "new") new ∷ given (codes "sectors") sectors ∷ []) (Some (codes "format", version ∷ [])) idle 3) (codes "--strict") (simp v.1)) (gone copy_built (standing (given (codes "file") file ∷ given (codes "new") new ∷ given (codes "sectors") sectors ∷ given (codes "format") version ∷ flag_row (codes "strict") true ∷ []) None idle 3)))))))) in
    let read = read_by (file ∷ new ∷ codes "--sectors" ∷ sectors ∷ codes "--format" ∷ version ∷ codes "--strict" ∷ []) (codes "copy") copy_built (standing (given (codes "file") file ∷ given (codes "new") new ∷ given (codes "sectors") sectors ∷ given (codes "format") version ∷ flag_row (codes "strict") true ∷ []) None idle 3) refl refl refl walked refl refl refl in
    record { rows = _; met = read.0; taken = read.1; holds = (refl, refl, refl, refl, refl, refl, refl, refl) }
copy_read file new sectors (Some version) None false true h k s v d =
    let walked = goes (plain_step copy_built None 1 file h refl) (goes (plain_step copy_built (Some (codes "file", file ∷ [])) 2 new k refl) (goes (met copy_built (standing (given (codes "file") file ∷ []) (Some (codes "new", new ∷ [])) idle 3) (codes "--sectors") refl) (goes (value_step copy_built (given (codes "file") file ∷ given (codes "new") new ∷ []) (codes "sectors") 3 sectors s.0) (goes (met copy_built (standing (given (codes "file") file ∷ given (codes "new") new ∷ []) (Some (codes "sectors", sectors ∷ [])) idle 3) (codes "--format") (simp s.1)) (goes (value_step copy_built (given (codes "file") file ∷ given (codes "new") new ∷ given (codes "sectors") sectors ∷ []) (codes "format") 3 version v.0) (goes (met copy_built (standing (given (codes "file") file ∷ given (codes "new") new ∷ given (codes "sectors") sectors ∷ []) (Some (codes "format", version ∷ [])) idle 3) (codes "--why") (simp v.1)) (gone copy_built (standing (given (codes "file") file ∷ given (codes "new") new ∷ given (codes "sectors") sectors ∷ given (codes "format") version ∷ flag_row (codes "why") true ∷ []) None idle 3)))))))) in
    let read = read_by (file ∷ new ∷ codes "--sectors" ∷ sectors ∷ codes "--format" ∷ version ∷ codes "--why" ∷ []) (codes "copy") copy_built (standing (given (codes "file") file ∷ given (codes "new") new ∷ given (codes "sectors") sectors ∷ given (codes "format") version ∷ flag_row (codes "why") true ∷ []) None idle 3) refl refl refl walked refl refl refl in
    record { rows = _; met = read.0; taken = read.1; holds = (refl, refl, refl, refl, refl, refl, refl, refl) }
copy_read file new sectors (Some version) None false false h k s v d =
    let walked = goes (plain_step copy_built None 1 file h refl) (goes (plain_step copy_built (Some (codes "file", file ∷ [])) 2 new k refl) (goes (met copy_built (standing (given (codes "file") file ∷ []) (Some (codes "new", new ∷ [])) idle 3) (codes "--sectors") refl) (goes (value_step copy_built (given (codes "file") file ∷ given (codes "new") new ∷ []) (codes "sectors") 3 sectors s.0) (goes (met copy_built (standing (given (codes "file") file ∷ given (codes "new") new ∷ []) (Some (codes "sectors", sectors ∷ [])) idle 3) (codes "--format") (simp s.1)) (goes (value_step copy_built (given (codes "file") file ∷ given (codes "new") new ∷ given (codes "sectors") sectors ∷ []) (codes "format") 3 version v.0) (gone copy_built (standing (given (codes "file") file ∷ given (codes "new") new ∷ given (codes "sectors") sectors ∷ []) (Some (codes "format", version ∷ [])) idle 3))))))) in
    let read = read_by (file ∷ new ∷ codes "--sectors" ∷ sectors ∷ codes "--format" ∷ version ∷ []) (codes "copy") copy_built (standing (given (codes "file") file ∷ given (codes "new") new ∷ given (codes "sectors") sectors ∷ []) (Some (codes "format", version ∷ [])) idle 3) refl refl refl walked (simp v.1) refl refl in
    record { rows = _; met = read.0; taken = read.1; holds = (refl, refl, refl, refl, refl, refl, refl, refl) }
copy_read file new sectors None (Some identity) true true h k s v d =
    let walked = goes (plain_step copy_built None 1 file h refl) (goes (plain_step copy_built (Some (codes "file", file ∷ [])) 2 new k refl) (goes (met copy_built (standing (given (codes "file") file ∷ []) (Some (codes "new", new ∷ [])) idle 3) (codes "--sectors") refl) (goes (value_step copy_built (given (codes "file") file ∷ given (codes "new") new ∷ []) (codes "sectors") 3 sectors s.0) (goes (met copy_built (standing (given (codes "file") file ∷ given (codes "new") new ∷ []) (Some (codes "sectors", sectors ∷ [])) idle 3) (codes "--id") (simp s.1)) (goes (value_step copy_built (given (codes "file") file ∷ given (codes "new") new ∷ given (codes "sectors") sectors ∷ []) (codes "id") 3 identity d) (goes (met copy_built (standing (given (codes "file") file ∷ given (codes "new") new ∷ given (codes "sectors") sectors ∷ []) (Some (codes "id", identity ∷ [])) idle 3) (codes "--strict") refl) (goes (met copy_built (standing (given (codes "file") file ∷ given (codes "new") new ∷ given (codes "sectors") sectors ∷ given (codes "id") identity ∷ flag_row (codes "strict") true ∷ []) None idle 3) (codes "--why") refl) (gone copy_built (standing (given (codes "file") file ∷ given (codes "new") new ∷ given (codes "sectors") sectors ∷ given (codes "id") identity ∷ flag_row (codes "strict") true ∷ flag_row (codes "why") true ∷ []) None idle 3))))))))) in
    let read = read_by (file ∷ new ∷ codes "--sectors" ∷ sectors ∷ codes "--id" ∷ identity ∷ codes "--strict" ∷ codes "--why" ∷ []) (codes "copy") copy_built (standing (given (codes "file") file ∷ given (codes "new") new ∷ given (codes "sectors") sectors ∷ given (codes "id") identity ∷ flag_row (codes "strict") true ∷ flag_row (codes "why") true ∷ []) None idle 3) refl refl refl walked refl refl refl in
    record { rows = _; met = read.0; taken = read.1; holds = (refl, refl, refl, refl, refl, refl, refl, refl) }
copy_read file new sectors None (Some identity) true false h k s v d =
    let walked = goes (plain_step copy_built None 1 file h refl) (goes (plain_step copy_built (Some (codes "file", file ∷ [])) 2 new k refl) (goes (met copy_built (standing (given (codes "file") file ∷ []) (Some (codes "new", new ∷ [])) idle 3) (codes "--sectors") refl) (goes (value_step copy_built (given (codes "file") file ∷ given (codes "new") new ∷ []) (codes "sectors") 3 sectors s.0) (goes (met copy_built (standing (given (codes "file") file ∷ given (codes "new") new ∷ []) (Some (codes "sectors", sectors ∷ [])) idle 3) (codes "--id") (simp s.1)) (goes (value_step copy_built (given (codes "file") file ∷ given (codes "new") new ∷ given (codes "sectors") sectors ∷ []) (codes "id") 3 identity d) (goes (met copy_built (standing (given (codes "file") file ∷ given (codes "new") new ∷ given (codes "sectors") sectors ∷ []) (Some (codes "id", identity ∷ [])) idle 3) (codes "--strict") refl) (gone copy_built (standing (given (codes "file") file ∷ given (codes "new") new ∷ given (codes "sectors") sectors ∷ given (codes "id") identity ∷ flag_row (codes "strict") true ∷ []) None idle 3)))))))) in
    let read = read_by (file ∷ new ∷ codes "--sectors" ∷ sectors ∷ codes "--id" ∷ identity ∷ codes "--strict" ∷ []) (codes "copy") copy_built (standing (given (codes "file") file ∷ given (codes "new") new ∷ given (codes "sectors") sectors ∷ given (codes "id") identity ∷ flag_row (codes "strict") true ∷ []) None idle 3) refl refl refl walked refl refl refl in
    record { rows = _; met = read.0; taken = read.1; holds = (refl, refl, refl, refl, refl, refl, refl, refl) }
copy_read file new sectors None (Some identity) false true h k s v d =
    let walked = goes (plain_step copy_built None 1 file h refl) (goes (plain_step copy_built (Some (codes "file", file ∷ [])) 2 new k refl) (goes (met copy_built (standing (given (codes "file") file ∷ []) (Some (codes "new", new ∷ [])) idle 3) (codes "--sectors") refl) (goes (value_step copy_built (given (codes "file") file ∷ given (codes "new") new ∷ []) (codes "sectors") 3 sectors s.0) (goes (met copy_built (standing (given (codes "file") file ∷ given (codes "new") new ∷ []) (Some (codes "sectors", sectors ∷ [])) idle 3) (codes "--id") (simp s.1)) (goes (value_step copy_built (given (codes "file") file ∷ given (codes "new") new ∷ given (codes "sectors") sectors ∷ []) (codes "id") 3 identity d) (goes (met copy_built (standing (given (codes "file") file ∷ given (codes "new") new ∷ given (codes "sectors") sectors ∷ []) (Some (codes "id", identity ∷ [])) idle 3) (codes "--why") refl) (gone copy_built (standing (given (codes "file") file ∷ given (codes "new") new ∷ given (codes "sectors") sectors ∷ given (codes "id") identity ∷ flag_row (codes "why") true ∷ []) None idle 3)))))))) in
    let read = read_by (file ∷ new ∷ codes "--sectors" ∷ sectors ∷ codes "--id" ∷ identity ∷ codes "--why" ∷ []) (codes "copy") copy_built (standing (given (codes "file") file ∷ given (codes "new") new ∷ given (codes "sectors") sectors ∷ given (codes "id") identity ∷ flag_row (codes "why") true ∷ []) None idle 3) refl refl refl walked refl refl refl in
    record { rows = _; met = read.0; taken = read.1; holds = (refl, refl, refl, refl, refl, refl, refl, refl) }
copy_read file new sectors None (Some identity) false false h k s v d =
    let walked = goes (plain_step copy_built None 1 file h refl) (goes (plain_step copy_built (Some (codes "file", file ∷ [])) 2 new k refl) (goes (met copy_built (standing (given (codes "file") file ∷ []) (Some (codes "new", new ∷ [])) idle 3) (codes "--sectors") refl) (goes (value_step copy_built (given (codes "file") file ∷ given (codes "new") new ∷ []) (codes "sectors") 3 sectors s.0) (goes (met copy_built (standing (given (codes "file") file ∷ given (codes "new") new ∷ []) (Some (codes "sectors", sectors ∷ [])) idle 3) (codes "--id") (simp s.1)) (goes (value_step copy_built (given (codes "file") file ∷ given (codes "new") new ∷ given (codes "sectors") sectors ∷ []) (codes "id") 3 identity d) (gone copy_built (standing (given (codes "file") file ∷ given (codes "new") new ∷ given (codes "sectors") sectors ∷ []) (Some (codes "id", identity ∷ [])) idle 3))))))) in
    let read = read_by (file ∷ new ∷ codes "--sectors" ∷ sectors ∷ codes "--id" ∷ identity ∷ []) (codes "copy") copy_built (standing (given (codes "file") file ∷ given (codes "new") new ∷ given (codes "sectors") sectors ∷ []) (Some (codes "id", identity ∷ [])) idle 3) refl refl refl walked refl refl refl in
    record { rows = _; met = read.0; taken = read.1; holds = (refl, refl, refl, refl, refl, refl, refl, refl) }
copy_read file new sectors None None true true h k s v d =
    let walked = goes (plain_step copy_built None 1 file h refl) (goes (plain_step copy_built (Some (codes "file", file ∷ [])) 2 new k refl) (goes (met copy_built (standing (given (codes "file") file ∷ []) (Some (codes "new", new ∷ [])) idle 3) (codes "--sectors") refl) (goes (value_step copy_built (given (codes "file") file ∷ given (codes "new") new ∷ []) (codes "sectors") 3 sectors s.0) (goes (met copy_built (standing (given (codes "file") file ∷ given (codes "new") new ∷ []) (Some (codes "sectors", sectors ∷ [])) idle 3) (codes "--strict") (simp s.1)) (goes (met copy_built (standing (given (codes "file") file ∷ given (codes "new") new ∷ given (codes "sectors") sectors ∷ flag_row (codes "strict") true ∷ []) None idle 3) (codes "--why") refl) (gone copy_built (standing (given (codes "file") file ∷ given (codes "new") new ∷ given (codes "sectors") sectors ∷ flag_row (codes "strict") true ∷ flag_row (codes "why") true ∷ []) None idle 3))))))) in
    let read = read_by (file ∷ new ∷ codes "--sectors" ∷ sectors ∷ codes "--strict" ∷ codes "--why" ∷ []) (codes "copy") copy_built (standing (given (codes "file") file ∷ given (codes "new") new ∷ given (codes "sectors") sectors ∷ flag_row (codes "strict") true ∷ flag_row (codes "why") true ∷ []) None idle 3) refl refl refl walked refl refl refl in
    record { rows = _; met = read.0; taken = read.1; holds = (refl, refl, refl, refl, refl, refl, refl, refl) }
copy_read file new sectors None None true false h k s v d =
    let walked = goes (plain_step copy_built None 1 file h refl) (goes (plain_step copy_built (Some (codes "file", file ∷ [])) 2 new k refl) (goes (met copy_built (standing (given (codes "file") file ∷ []) (Some (codes "new", new ∷ [])) idle 3) (codes "--sectors") refl) (goes (value_step copy_built (given (codes "file") file ∷ given (codes "new") new ∷ []) (codes "sectors") 3 sectors s.0) (goes (met copy_built (standing (given (codes "file") file ∷ given (codes "new") new ∷ []) (Some (codes "sectors", sectors ∷ [])) idle 3) (codes "--strict") (simp s.1)) (gone copy_built (standing (given (codes "file") file ∷ given (codes "new") new ∷ given (codes "sectors") sectors ∷ flag_row (codes "strict") true ∷ []) None idle 3)))))) in
    let read = read_by (file ∷ new ∷ codes "--sectors" ∷ sectors ∷ codes "--strict" ∷ []) (codes "copy") copy_built (standing (given (codes "file") file ∷ given (codes "new") new ∷ given (codes "sectors") sectors ∷ flag_row (codes "strict") true ∷ []) None idle 3) refl refl refl walked refl refl refl in
    record { rows = _; met = read.0; taken = read.1; holds = (refl, refl, refl, refl, refl, refl, refl, refl) }
copy_read file new sectors None None false true h k s v d =
    let walked = goes (plain_step copy_built None 1 file h refl) (goes (plain_step copy_built (Some (codes "file", file ∷ [])) 2 new k refl) (goes (met copy_built (standing (given (codes "file") file ∷ []) (Some (codes "new", new ∷ [])) idle 3) (codes "--sectors") refl) (goes (value_step copy_built (given (codes "file") file ∷ given (codes "new") new ∷ []) (codes "sectors") 3 sectors s.0) (goes (met copy_built (standing (given (codes "file") file ∷ given (codes "new") new ∷ []) (Some (codes "sectors", sectors ∷ [])) idle 3) (codes "--why") (simp s.1)) (gone copy_built (standing (given (codes "file") file ∷ given (codes "new") new ∷ given (codes "sectors") sectors ∷ flag_row (codes "why") true ∷ []) None idle 3)))))) in
    let read = read_by (file ∷ new ∷ codes "--sectors" ∷ sectors ∷ codes "--why" ∷ []) (codes "copy") copy_built (standing (given (codes "file") file ∷ given (codes "new") new ∷ given (codes "sectors") sectors ∷ flag_row (codes "why") true ∷ []) None idle 3) refl refl refl walked refl refl refl in
    record { rows = _; met = read.0; taken = read.1; holds = (refl, refl, refl, refl, refl, refl, refl, refl) }
copy_read file new sectors None None false false h k s v d =
    let walked = goes (plain_step copy_built None 1 file h refl) (goes (plain_step copy_built (Some (codes "file", file ∷ [])) 2 new k refl) (goes (met copy_built (standing (given (codes "file") file ∷ []) (Some (codes "new", new ∷ [])) idle 3) (codes "--sectors") refl) (goes (value_step copy_built (given (codes "file") file ∷ given (codes "new") new ∷ []) (codes "sectors") 3 sectors s.0) (gone copy_built (standing (given (codes "file") file ∷ given (codes "new") new ∷ []) (Some (codes "sectors", sectors ∷ [])) idle 3))))) in
    let read = read_by (file ∷ new ∷ codes "--sectors" ∷ sectors ∷ []) (codes "copy") copy_built (standing (given (codes "file") file ∷ given (codes "new") new ∷ []) (Some (codes "sectors", sectors ∷ [])) idle 3) refl refl refl walked (simp s.1) refl refl in
    record { rows = _; met = read.0; taken = read.1; holds = (refl, refl, refl, refl, refl, refl, refl, refl) }

upgrade_read : (file : Text) (version identity : Option Text) (strict why : Bool) → IsPlain file → IfSome version (IsChecked MIN_FORMAT MAX_FORMAT) → IfSome identity IsPlain
    → Read (codes "upgrade" ∷ file ∷ option_words (codes "--format") version ++ option_words (codes "--id") identity ++ flag_words (codes "--strict") strict ++ flag_words (codes "--why") why) (codes "upgrade")
    (λ rows. HoldsFile file rows × (one_of (codes "format") rows ≡ version) × (first_of (codes "format") rows ≡ version) × (first_of (codes "id") rows ≡ identity) × HoldsFlag (codes "strict") strict rows × HoldsFlag (codes "why") why rows)
unfolding clap_on_literals
upgrade_read file (Some version) (Some identity) true true h v d =
    let walked = goes (plain_step upgrade_built None 1 file h refl) (goes (met upgrade_built (standing [] (Some (codes "file", file ∷ [])) idle 2) (codes "--format") refl) (goes (value_step upgrade_built (given (codes "file") file ∷ []) (codes "format") 2 version v.0) (goes (met upgrade_built (standing (given (codes "file") file ∷ []) (Some (codes "format", version ∷ [])) idle 2) (codes "--id") (simp v.1)) (goes (value_step upgrade_built (given (codes "file") file ∷ given (codes "format") version ∷ []) (codes "id") 2 identity d) (goes (met upgrade_built (standing (given (codes "file") file ∷ given (codes "format") version ∷ []) (Some (codes "id", identity ∷ [])) idle 2) (codes "--strict") refl) (goes (met upgrade_built (standing (given (codes "file") file ∷ given (codes "format") version ∷ given (codes "id") identity ∷ flag_row (codes "strict") true ∷ []) None idle 2) (codes "--why") refl) (gone upgrade_built (standing (given (codes "file") file ∷ given (codes "format") version ∷ given (codes "id") identity ∷ flag_row (codes "strict") true ∷ flag_row (codes "why") true ∷ []) None idle 2)))))))) in
    let read = read_by (file ∷ codes "--format" ∷ version ∷ codes "--id" ∷ identity ∷ codes "--strict" ∷ codes "--why" ∷ []) (codes "upgrade") upgrade_built (standing (given (codes "file") file ∷ given (codes "format") version ∷ given (codes "id") identity ∷ flag_row (codes "strict") true ∷ flag_row (codes "why") true ∷ []) None idle 2) refl refl refl walked refl refl refl in
    record { rows = _; met = read.0; taken = read.1; holds = (refl, refl, refl, refl, refl, refl) }
upgrade_read file (Some version) (Some identity) true false h v d =
    let walked = goes (plain_step upgrade_built None 1 file h refl) (goes (met upgrade_built (standing [] (Some (codes "file", file ∷ [])) idle 2) (codes "--format") refl) (goes (value_step upgrade_built (given (codes "file") file ∷ []) (codes "format") 2 version v.0) (goes (met upgrade_built (standing (given (codes "file") file ∷ []) (Some (codes "format", version ∷ [])) idle 2) (codes "--id") (simp v.1)) (goes (value_step upgrade_built (given (codes "file") file ∷ given (codes "format") version ∷ []) (codes "id") 2 identity d) (goes (met upgrade_built (standing (given (codes "file") file ∷ given (codes "format") version ∷ []) (Some (codes "id", identity ∷ [])) idle 2) (codes "--strict") refl) (gone upgrade_built (standing (given (codes "file") file ∷ given (codes "format") version ∷ given (codes "id") identity ∷ flag_row (codes "strict") true ∷ []) None idle 2))))))) in
    let read = read_by (file ∷ codes "--format" ∷ version ∷ codes "--id" ∷ identity ∷ codes "--strict" ∷ []) (codes "upgrade") upgrade_built (standing (given (codes "file") file ∷ given (codes "format") version ∷ given (codes "id") identity ∷ flag_row (codes "strict") true ∷ []) None idle 2) refl refl refl walked refl refl refl in
    record { rows = _; met = read.0; taken = read.1; holds = (refl, refl, refl, refl, refl, refl) }
upgrade_read file (Some version) (Some identity) false true h v d =
    let walked = goes (plain_step upgrade_built None 1 file h refl) (goes (met upgrade_built (standing [] (Some (codes "file", file ∷ [])) idle 2) (codes "--format") refl) (goes (value_step upgrade_built (given (codes "file") file ∷ []) (codes "format") 2 version v.0) (goes (met upgrade_built (standing (given (codes "file") file ∷ []) (Some (codes "format", version ∷ [])) idle 2) (codes "--id") (simp v.1)) (goes (value_step upgrade_built (given (codes "file") file ∷ given (codes "format") version ∷ []) (codes "id") 2 identity d) (goes (met upgrade_built (standing (given (codes "file") file ∷ given (codes "format") version ∷ []) (Some (codes "id", identity ∷ [])) idle 2) (codes "--why") refl) (gone upgrade_built (standing (given (codes "file") file ∷ given (codes "format") version ∷ given (codes "id") identity ∷ flag_row (codes "why") true ∷ []) None idle 2))))))) in
    let read = read_by (file ∷ codes "--format" ∷ version ∷ codes "--id" ∷ identity ∷ codes "--why" ∷ []) (codes "upgrade") upgrade_built (standing (given (codes "file") file ∷ given (codes "format") version ∷ given (codes "id") identity ∷ flag_row (codes "why") true ∷ []) None idle 2) refl refl refl walked refl refl refl in
    record { rows = _; met = read.0; taken = read.1; holds = (refl, refl, refl, refl, refl, refl) }
upgrade_read file (Some version) (Some identity) false false h v d =
    let walked = goes (plain_step upgrade_built None 1 file h refl) (goes (met upgrade_built (standing [] (Some (codes "file", file ∷ [])) idle 2) (codes "--format") refl) (goes (value_step upgrade_built (given (codes "file") file ∷ []) (codes "format") 2 version v.0) (goes (met upgrade_built (standing (given (codes "file") file ∷ []) (Some (codes "format", version ∷ [])) idle 2) (codes "--id") (simp v.1)) (goes (value_step upgrade_built (given (codes "file") file ∷ given (codes "format") version ∷ []) (codes "id") 2 identity d) (gone upgrade_built (standing (given (codes "file") file ∷ given (codes "format") version ∷ []) (Some (codes "id", identity ∷ [])) idle 2)))))) in
    let read = read_by (file ∷ codes "--format" ∷ version ∷ codes "--id" ∷ identity ∷ []) (codes "upgrade") upgrade_built (standing (given (codes "file") file ∷ given (codes "format") version ∷ []) (Some (codes "id", identity ∷ [])) idle 2) refl refl refl walked refl refl refl in
    record { rows = _; met = read.0; taken = read.1; holds = (refl, refl, refl, refl, refl, refl) }
upgrade_read file (Some version) None true true h v d =
    let walked = goes (plain_step upgrade_built None 1 file h refl) (goes (met upgrade_built (standing [] (Some (codes "file", file ∷ [])) idle 2) (codes "--format") refl) (goes (value_step upgrade_built (given (codes "file") file ∷ []) (codes "format") 2 version v.0) (goes (met upgrade_built (standing (given (codes "file") file ∷ []) (Some (codes "format", version ∷ [])) idle 2) (codes "--strict") (simp v.1)) (goes (met upgrade_built (standing (given (codes "file") file ∷ given (codes "format") version ∷ flag_row (codes "strict") true ∷ []) None idle 2) (codes "--why") refl) (gone upgrade_built (standing (given (codes "file") file ∷ given (codes "format") version ∷ flag_row (codes "strict") true ∷ flag_row (codes "why") true ∷ []) None idle 2)))))) in
    let read = read_by (file ∷ codes "--format" ∷ version ∷ codes "--strict" ∷ codes "--why" ∷ []) (codes "upgrade") upgrade_built (standing (given (codes "file") file ∷ given (codes "format") version ∷ flag_row (codes "strict") true ∷ flag_row (codes "why") true ∷ []) None idle 2) refl refl refl walked refl refl refl in
    record { rows = _; met = read.0; taken = read.1; holds = (refl, refl, refl, refl, refl, refl) }
upgrade_read file (Some version) None true false h v d =
    let walked = goes (plain_step upgrade_built None 1 file h refl) (goes (met upgrade_built (standing [] (Some (codes "file", file ∷ [])) idle 2) (codes "--format") refl) (goes (value_step upgrade_built (given (codes "file") file ∷ []) (codes "format") 2 version v.0) (goes (met upgrade_built (standing (given (codes "file") file ∷ []) (Some (codes "format", version ∷ [])) idle 2) (codes "--strict") (simp v.1)) (gone upgrade_built (standing (given (codes "file") file ∷ given (codes "format") version ∷ flag_row (codes "strict") true ∷ []) None idle 2))))) in
    let read = read_by (file ∷ codes "--format" ∷ version ∷ codes "--strict" ∷ []) (codes "upgrade") upgrade_built (standing (given (codes "file") file ∷ given (codes "format") version ∷ flag_row (codes "strict") true ∷ []) None idle 2) refl refl refl walked refl refl refl in
    record { rows = _; met = read.0; taken = read.1; holds = (refl, refl, refl, refl, refl, refl) }
upgrade_read file (Some version) None false true h v d =
    let walked = goes (plain_step upgrade_built None 1 file h refl) (goes (met upgrade_built (standing [] (Some (codes "file", file ∷ [])) idle 2) (codes "--format") refl) (goes (value_step upgrade_built (given (codes "file") file ∷ []) (codes "format") 2 version v.0) (goes (met upgrade_built (standing (given (codes "file") file ∷ []) (Some (codes "format", version ∷ [])) idle 2) (codes "--why") (simp v.1)) (gone upgrade_built (standing (given (codes "file") file ∷ given (codes "format") version ∷ flag_row (codes "why") true ∷ []) None idle 2))))) in
    let read = read_by (file ∷ codes "--format" ∷ version ∷ codes "--why" ∷ []) (codes "upgrade") upgrade_built (standing (given (codes "file") file ∷ given (codes "format") version ∷ flag_row (codes "why") true ∷ []) None idle 2) refl refl refl walked refl refl refl in
    record { rows = _; met = read.0; taken = read.1; holds = (refl, refl, refl, refl, refl, refl) }
upgrade_read file (Some version) None false false h v d =
    let walked = goes (plain_step upgrade_built None 1 file h refl) (goes (met upgrade_built (standing [] (Some (codes "file", file ∷ [])) idle 2) (codes "--format") refl) (goes (value_step upgrade_built (given (codes "file") file ∷ []) (codes "format") 2 version v.0) (gone upgrade_built (standing (given (codes "file") file ∷ []) (Some (codes "format", version ∷ [])) idle 2)))) in
    let read = read_by (file ∷ codes "--format" ∷ version ∷ []) (codes "upgrade") upgrade_built (standing (given (codes "file") file ∷ []) (Some (codes "format", version ∷ [])) idle 2) refl refl refl walked (simp v.1) refl refl in
    record { rows = _; met = read.0; taken = read.1; holds = (refl, refl, refl, refl, refl, refl) }
upgrade_read file None (Some identity) true true h v d =
    let walked = goes (plain_step upgrade_built None 1 file h refl) (goes (met upgrade_built (standing [] (Some (codes "file", file ∷ [])) idle 2) (codes "--id") refl) (goes (value_step upgrade_built (given (codes "file") file ∷ []) (codes "id") 2 identity d) (goes (met upgrade_built (standing (given (codes "file") file ∷ []) (Some (codes "id", identity ∷ [])) idle 2) (codes "--strict") refl) (goes (met upgrade_built (standing (given (codes "file") file ∷ given (codes "id") identity ∷ flag_row (codes "strict") true ∷ []) None idle 2) (codes "--why") refl) (gone upgrade_built (standing (given (codes "file") file ∷ given (codes "id") identity ∷ flag_row (codes "strict") true ∷ flag_row (codes "why") true ∷ []) None idle 2)))))) in
    let read = read_by (file ∷ codes "--id" ∷ identity ∷ codes "--strict" ∷ codes "--why" ∷ []) (codes "upgrade") upgrade_built (standing (given (codes "file") file ∷ given (codes "id") identity ∷ flag_row (codes "strict") true ∷ flag_row (codes "why") true ∷ []) None idle 2) refl refl refl walked refl refl refl in
    record { rows = _; met = read.0; taken = read.1; holds = (refl, refl, refl, refl, refl, refl) }
upgrade_read file None (Some identity) true false h v d =
    let walked = goes (plain_step upgrade_built None 1 file h refl) (goes (met upgrade_built (standing [] (Some (codes "file", file ∷ [])) idle 2) (codes "--id") refl) (goes (value_step upgrade_built (given (codes "file") file ∷ []) (codes "id") 2 identity d) (goes (met upgrade_built (standing (given (codes "file") file ∷ []) (Some (codes "id", identity ∷ [])) idle 2) (codes "--strict") refl) (gone upgrade_built (standing (given (codes "file") file ∷ given (codes "id") identity ∷ flag_row (codes "strict") true ∷ []) None idle 2))))) in
    let read = read_by (file ∷ codes "--id" ∷ identity ∷ codes "--strict" ∷ []) (codes "upgrade") upgrade_built (standing (given (codes "file") file ∷ given (codes "id") identity ∷ flag_row (codes "strict") true ∷ []) None idle 2) refl refl refl walked refl refl refl in
    record { rows = _; met = read.0; taken = read.1; holds = (refl, refl, refl, refl, refl, refl) }
upgrade_read file None (Some identity) false true h v d =
    let walked = goes (plain_step upgrade_built None 1 file h refl) (goes (met upgrade_built (standing [] (Some (codes "file", file ∷ [])) idle 2) (codes "--id") refl) (goes (value_step upgrade_built (given (codes "file") file ∷ []) (codes "id") 2 identity d) (goes (met upgrade_built (standing (given (codes "file") file ∷ []) (Some (codes "id", identity ∷ [])) idle 2) (codes "--why") refl) (gone upgrade_built (standing (given (codes "file") file ∷ given (codes "id") identity ∷ flag_row (codes "why") true ∷ []) None idle 2))))) in
    let read = read_by (file ∷ codes "--id" ∷ identity ∷ codes "--why" ∷ []) (codes "upgrade") upgrade_built (standing (given (codes "file") file ∷ given (codes "id") identity ∷ flag_row (codes "why") true ∷ []) None idle 2) refl refl refl walked refl refl refl in
    record { rows = _; met = read.0; taken = read.1; holds = (refl, refl, refl, refl, refl, refl) }
upgrade_read file None (Some identity) false false h v d =
    let walked = goes (plain_step upgrade_built None 1 file h refl) (goes (met upgrade_built (standing [] (Some (codes "file", file ∷ [])) idle 2) (codes "--id") refl) (goes (value_step upgrade_built (given (codes "file") file ∷ []) (codes "id") 2 identity d) (gone upgrade_built (standing (given (codes "file") file ∷ []) (Some (codes "id", identity ∷ [])) idle 2)))) in
    let read = read_by (file ∷ codes "--id" ∷ identity ∷ []) (codes "upgrade") upgrade_built (standing (given (codes "file") file ∷ []) (Some (codes "id", identity ∷ [])) idle 2) refl refl refl walked refl refl refl in
    record { rows = _; met = read.0; taken = read.1; holds = (refl, refl, refl, refl, refl, refl) }
upgrade_read file None None true true h v d =
    let walked = goes (plain_step upgrade_built None 1 file h refl) (goes (met upgrade_built (standing [] (Some (codes "file", file ∷ [])) idle 2) (codes "--strict") refl) (goes (met upgrade_built (standing (given (codes "file") file ∷ flag_row (codes "strict") true ∷ []) None idle 2) (codes "--why") refl) (gone upgrade_built (standing (given (codes "file") file ∷ flag_row (codes "strict") true ∷ flag_row (codes "why") true ∷ []) None idle 2)))) in
    let read = read_by (file ∷ codes "--strict" ∷ codes "--why" ∷ []) (codes "upgrade") upgrade_built (standing (given (codes "file") file ∷ flag_row (codes "strict") true ∷ flag_row (codes "why") true ∷ []) None idle 2) refl refl refl walked refl refl refl in
    record { rows = _; met = read.0; taken = read.1; holds = (refl, refl, refl, refl, refl, refl) }
upgrade_read file None None true false h v d =
    let walked = goes (plain_step upgrade_built None 1 file h refl) (goes (met upgrade_built (standing [] (Some (codes "file", file ∷ [])) idle 2) (codes "--strict") refl) (gone upgrade_built (standing (given (codes "file") file ∷ flag_row (codes "strict") true ∷ []) None idle 2))) in
    let read = read_by (file ∷ codes "--strict" ∷ []) (codes "upgrade") upgrade_built (standing (given (codes "file") file ∷ flag_row (codes "strict") true ∷ []) None idle 2) refl refl refl walked refl refl refl in
    record { rows = _; met = read.0; taken = read.1; holds = (refl, refl, refl, refl, refl, refl) }
upgrade_read file None None false true h v d =
    let walked = goes (plain_step upgrade_built None 1 file h refl) (goes (met upgrade_built (standing [] (Some (codes "file", file ∷ [])) idle 2) (codes "--why") refl) (gone upgrade_built (standing (given (codes "file") file ∷ flag_row (codes "why") true ∷ []) None idle 2))) in
    let read = read_by (file ∷ codes "--why" ∷ []) (codes "upgrade") upgrade_built (standing (given (codes "file") file ∷ flag_row (codes "why") true ∷ []) None idle 2) refl refl refl walked refl refl refl in
    record { rows = _; met = read.0; taken = read.1; holds = (refl, refl, refl, refl, refl, refl) }
upgrade_read file None None false false h v d =
    let walked = goes (plain_step upgrade_built None 1 file h refl) (gone upgrade_built (standing [] (Some (codes "file", file ∷ [])) idle 2)) in
    let read = read_by (file ∷ []) (codes "upgrade") upgrade_built (standing [] (Some (codes "file", file ∷ [])) idle 2) refl refl refl walked refl refl refl in
    record { rows = _; met = read.0; taken = read.1; holds = (refl, refl, refl, refl, refl, refl) }

-- what is found for the arguments of `format`
abbrev FoundFormat : Text → Text → Option Text → Option Text → Option Text → Bool → Bool → List Row → Type 0
FoundFormat file sectors version mode identity sparse why rows =
    HoldsFile file rows × (one_of (codes "sectors") rows ≡ Some sectors) × (one_of (codes "format") rows ≡ version) × (first_of (codes "format") rows ≡ version)
    × (first_of (codes "mode") rows ≡ mode) × (first_of (codes "id") rows ≡ identity) × HoldsFlag (codes "sparse") sparse rows × HoldsFlag (codes "why") why rows

format_read : (file sectors : Text) (version mode identity : Option Text) (sparse why : Bool) → IsPlain file → IsChecked MIN_SECTORS MAX_SECTORS sectors
    → IfSome version (IsChecked MIN_FORMAT MAX_FORMAT) → IfSome mode IsPlain → IfSome identity IsPlain
    → Read (codes "format" ∷ file ∷ codes "--sectors" ∷ sectors ∷ option_words (codes "--format") version ++ option_words (codes "--mode") mode ++ option_words (codes "--id") identity
    ++ flag_words (codes "--sparse") sparse ++ flag_words (codes "--why") why) (codes "format") (FoundFormat file sectors version mode identity sparse why)
unfolding clap_on_literals
format_read file sectors (Some version) (Some mode) (Some identity) true true h s v m d =
    let walked = goes (plain_step format_built None 1 file h refl) (goes (met format_built (standing [] (Some (codes "file", file ∷ [])) idle 2) (codes "--sectors") refl) (goes (value_step format_built (given (codes "file") file ∷ []) (codes "sectors") 2 sectors s.0) (goes (met format_built (standing (given (codes "file") file ∷ []) (Some (codes "sectors", sectors ∷ [])) idle 2) (codes "--format") (simp s.1)) (goes (value_step format_built (given (codes "file") file ∷ given (codes "sectors") sectors ∷ []) (codes "format") 2 version v.0) (goes (met format_built (standing (given (codes "file") file ∷ given (codes "sectors") sectors ∷ []) (Some (codes "format", version ∷ [])) idle 2) (codes "--mode") (simp v.1)) (goes (value_step format_built (given (codes "file") file ∷ given (codes "sectors") sectors ∷ given (codes "format") version ∷ []) (codes "mode") 2 mode m) (goes (met format_built (standing (given (codes "file") file ∷ given (codes "sectors") sectors ∷ given (codes "format") version ∷ []) (Some (codes "mode", mode ∷ [])) idle 2) (codes "--id") refl) (goes (value_step format_built (given (codes "file") file ∷ given (codes "sectors") sectors ∷ given (codes "format") version ∷ given (codes "mode") mode ∷ []) (codes "id") 2 identity d) (goes (met format_built (standing (given (codes "file") file ∷ given (codes "sectors") sectors ∷ given (codes "format") version ∷ given (codes "mode") mode ∷ []) (Some (codes "id", identity ∷ [])) idle 2) (codes "--sparse") refl) (goes (met format_built (standing (given (codes "file") file ∷ given (codes "sectors") sectors ∷ given (codes "format") version ∷ given (codes "mode") mode ∷ given (codes "id") identity ∷ flag_row (codes "sparse") true ∷ []) None idle 2) (codes "--why") refl) (gone format_built (standing (given (codes "file") file ∷ given (codes "sectors") sectors ∷ given (codes "format") version ∷ given (codes "mode") mode ∷ given (codes "id") identity ∷ flag_row (codes "sparse") true ∷ flag_row (codes "why") true ∷ []) None idle 2)))))))))))) in
    let read = read_by (file ∷ codes "--sectors" ∷ sectors ∷ codes "--format" ∷ version ∷ codes "--mode" ∷ mode ∷ codes "--id" ∷ identity ∷ codes "--sparse" ∷ codes "--why" ∷ []) (codes "format") format_built (standing (given (codes "file") file ∷ given (codes "sectors") sectors ∷ given (codes "format") version ∷ given (codes "mode") mode ∷ given (codes "id") identity ∷ flag_row (codes "sparse") true ∷ flag_row (codes "why") true ∷ []) None idle 2) refl refl refl walked refl refl refl in
    record { rows = _; met = read.0; taken = read.1; holds = (refl, refl, refl, refl, refl, refl, refl, refl) }
format_read file sectors (Some version) (Some mode) (Some identity) true false h s v m d =
    let walked = goes (plain_step format_built None 1 file h refl) (goes (met format_built (standing [] (Some (codes "file", file ∷ [])) idle 2) (codes "--sectors") refl) (goes (value_step format_built (given (codes "file") file ∷ []) (codes "sectors") 2 sectors s.0) (goes (met format_built (standing (given (codes "file") file ∷ []) (Some (codes "sectors", sectors ∷ [])) idle 2) (codes "--format") (simp s.1)) (goes (value_step format_built (given (codes "file") file ∷ given (codes "sectors") sectors ∷ []) (codes "format") 2 version v.0) (goes (met format_built (standing (given (codes "file") file ∷ given (codes "sectors") sectors ∷ []) (Some (codes "format", version ∷ [])) idle 2) (codes "--mode") (simp v.1)) (goes (value_step format_built (given (codes "file") file ∷ given (codes "sectors") sectors ∷ given (codes "format") version ∷ []) (codes "mode") 2 mode m) (goes (met format_built (standing (given (codes "file") file ∷ given (codes "sectors") sectors ∷ given (codes "format") version ∷ []) (Some (codes "mode", mode ∷ [])) idle 2) (codes "--id") refl) (goes (value_step format_built (given (codes "file") file ∷ given (codes "sectors") sectors ∷ given (codes "format") version ∷ given (codes "mode") mode ∷ []) (codes "id") 2 identity d) (goes (met format_built (standing (given (codes "file") file ∷ given (codes "sectors") sectors ∷ given (codes "format") version ∷ given (codes "mode") mode ∷ []) (Some (codes "id", identity ∷ [])) idle 2) (codes "--sparse") refl) (gone format_built (standing (given (codes "file") file ∷ given (codes "sectors") sectors ∷ given (codes "format") version ∷ given (codes "mode") mode ∷ given (codes "id") identity ∷ flag_row (codes "sparse") true ∷ []) None idle 2))))))))))) in
    let read = read_by (file ∷ codes "--sectors" ∷ sectors ∷ codes "--format" ∷ version ∷ codes "--mode" ∷ mode ∷ codes "--id" ∷ identity ∷ codes "--sparse" ∷ []) (codes "format") format_built (standing (given (codes "file") file ∷ given (codes "sectors") sectors ∷ given (codes "format") version ∷ given (codes "mode") mode ∷ given (codes "id") identity ∷ flag_row (codes "sparse") true ∷ []) None idle 2) refl refl refl walked refl refl refl in
    record { rows = _; met = read.0; taken = read.1; holds = (refl, refl, refl, refl, refl, refl, refl, refl) }
format_read file sectors (Some version) (Some mode) (Some identity) false true h s v m d =
    let walked = goes (plain_step format_built None 1 file h refl) (goes (met format_built (standing [] (Some (codes "file", file ∷ [])) idle 2) (codes "--sectors") refl) (goes (value_step format_built (given (codes "file") file ∷ []) (codes "sectors") 2 sectors s.0) (goes (met format_built (standing (given (codes "file") file ∷ []) (Some (codes "sectors", sectors ∷ [])) idle 2) (codes "--format") (simp s.1)) (goes (value_step format_built (given (codes "file") file ∷ given (codes "sectors") sectors ∷ []) (codes "format") 2 version v.0) (goes (met format_built (standing (given (codes "file") file ∷ given (codes "sectors") sectors ∷ []) (Some (codes "format", version ∷ [])) idle 2) (codes "--mode") (simp v.1)) (goes (value_step format_built (given (codes "file") file ∷ given (codes "sectors") sectors ∷ given (codes "format") version ∷ []) (codes "mode") 2 mode m) (goes (met format_built (standing (given (codes "file") file ∷ given (codes "sectors") sectors ∷ given (codes "format") version ∷ []) (Some (codes "mode", mode ∷ [])) idle 2) (codes "--id") refl) (goes (value_step format_built (given (codes "file") file ∷ given (codes "sectors") sectors ∷ given (codes "format") version ∷ given (codes "mode") mode ∷ []) (codes "id") 2 identity d) (goes (met format_built (standing (given (codes "file") file ∷ given (codes "sectors") sectors ∷ given (codes "format") version ∷ given (codes "mode") mode ∷ []) (Some (codes "id", identity ∷ [])) idle 2) (codes "--why") refl) (gone format_built (standing (given (codes "file") file ∷ given (codes "sectors") sectors ∷ given (codes "format") version ∷ given (codes "mode") mode ∷ given (codes "id") identity ∷ flag_row (codes "why") true ∷ []) None idle 2))))))))))) in
    let read = read_by (file ∷ codes "--sectors" ∷ sectors ∷ codes "--format" ∷ version ∷ codes "--mode" ∷ mode ∷ codes "--id" ∷ identity ∷ codes "--why" ∷ []) (codes "format") format_built (standing (given (codes "file") file ∷ given (codes "sectors") sectors ∷ given (codes "format") version ∷ given (codes "mode") mode ∷ given (codes "id") identity ∷ flag_row (codes "why") true ∷ []) None idle 2) refl refl refl walked refl refl refl in
    record { rows = _; met = read.0; taken = read.1; holds = (refl, refl, refl, refl, refl, refl, refl, refl) }
format_read file sectors (Some version) (Some mode) (Some identity) false false h s v m d =
    let walked = goes (plain_step format_built None 1 file h refl) (goes (met format_built (standing [] (Some (codes "file", file ∷ [])) idle 2) (codes "--sectors") refl) (goes (value_step format_built (given (codes "file") file ∷ []) (codes "sectors") 2 sectors s.0) (goes (met format_built (standing (given (codes "file") file ∷ []) (Some (codes "sectors", sectors ∷ [])) idle 2) (codes "--format") (simp s.1)) (goes (value_step format_built (given (codes "file") file ∷ given (codes "sectors") sectors ∷ []) (codes "format") 2 version v.0) (goes (met format_built (standing (given (codes "file") file ∷ given (codes "sectors") sectors ∷ []) (Some (codes "format", version ∷ [])) idle 2) (codes "--mode") (simp v.1)) (goes (value_step format_built (given (codes "file") file ∷ given (codes "sectors") sectors ∷ given (codes "format") version ∷ []) (codes "mode") 2 mode m) (goes (met format_built (standing (given (codes "file") file ∷ given (codes "sectors") sectors ∷ given (codes "format") version ∷ []) (Some (codes "mode", mode ∷ [])) idle 2) (codes "--id") refl) (goes (value_step format_built (given (codes "file") file ∷ given (codes "sectors") sectors ∷ given (codes "format") version ∷ given (codes "mode") mode ∷ []) (codes "id") 2 identity d) (gone format_built (standing (given (codes "file") file ∷ given (codes "sectors") sectors ∷ given (codes "format") version ∷ given (codes "mode") mode ∷ []) (Some (codes "id", identity ∷ [])) idle 2)))))))))) in
    let read = read_by (file ∷ codes "--sectors" ∷ sectors ∷ codes "--format" ∷ version ∷ codes "--mode" ∷ mode ∷ codes "--id" ∷ identity ∷ []) (codes "format") format_built (standing (given (codes "file") file ∷ given (codes "sectors") sectors ∷ given (codes "format") version ∷ given (codes "mode") mode ∷ []) (Some (codes "id", identity ∷ [])) idle 2) refl refl refl walked refl refl refl in
    record { rows = _; met = read.0; taken = read.1; holds = (refl, refl, refl, refl, refl, refl, refl, refl) }
format_read file sectors (Some version) (Some mode) None true true h s v m d =
    let walked = goes (plain_step format_built None 1 file h refl) (goes (met format_built (standing [] (Some (codes "file", file ∷ [])) idle 2) (codes "--sectors") refl) (goes (value_step format_built (given (codes "file") file ∷ []) (codes "sectors") 2 sectors s.0) (goes (met format_built (standing (given (codes "file") file ∷ []) (Some (codes "sectors", sectors ∷ [])) idle 2) (codes "--format") (simp s.1)) (goes (value_step format_built (given (codes "file") file ∷ given (codes "sectors") sectors ∷ []) (codes "format") 2 version v.0) (goes (met format_built (standing (given (codes "file") file ∷ given (codes "sectors") sectors ∷ []) (Some (codes "format", version ∷ [])) idle 2) (codes "--mode") (simp v.1)) (goes (value_step format_built (given (codes "file") file ∷ given (codes "sectors") sectors ∷ given (codes "format") version ∷ []) (codes "mode") 2 mode m) (goes (met format_built (standing (given (codes "file") file ∷ given (codes "sectors") sectors ∷ given (codes "format") version ∷ []) (Some (codes "mode", mode ∷ [])) idle 2) (codes "--sparse") refl) (goes (met format_built (standing (given (codes "file") file ∷ given (codes "sectors") sectors ∷ given (codes "format") version ∷ given (codes "mode") mode ∷ flag_row (codes "sparse") true ∷ []) None idle 2) (codes "--why") refl) (gone format_built (standing (given (codes "file") file ∷ given (codes "sectors") sectors ∷ given (codes "format") version ∷ given (codes "mode") mode ∷ flag_row (codes "sparse") true ∷ flag_row (codes "why") true ∷ []) None idle 2)))))))))) in
    let read = read_by (file ∷ codes "--sectors" ∷ sectors ∷ codes "--format" ∷ version ∷ codes "--mode" ∷ mode ∷ codes "--sparse" ∷ codes "--why" ∷ []) (codes "format") format_built (standing (given (codes "file") file ∷ given (codes "sectors") sectors ∷ given (codes "format") version ∷ given (codes "mode") mode ∷ flag_row (codes "sparse") true ∷ flag_row (codes "why") true ∷ []) None idle 2) refl refl refl walked refl refl refl in
    record { rows = _; met = read.0; taken = read.1; holds = (refl, refl, refl, refl, refl, refl, refl, refl) }
format_read file sectors (Some version) (Some mode) None true false h s v m d =
    let walked = goes (plain_step format_built None 1 file h refl) (goes (met format_built (standing [] (Some (codes "file", file ∷ [])) idle 2) (codes "--sectors") refl) (goes (value_step format_built (given (codes "file") file ∷ []) (codes "sectors") 2 sectors s.0) (goes (met format_built (standing (given (codes "file") file ∷ []) (Some (codes "sectors", sectors ∷ [])) idle 2) (codes "--format") (simp s.1)) (goes (value_step format_built (given (codes "file") file ∷ given (codes "sectors") sectors ∷ []) (codes "format") 2 version v.0) (goes (met format_built (standing (given (codes "file") file ∷ given (codes "sectors") sectors ∷ []) (Some (codes "format", version ∷ [])) idle 2) (codes "--mode") (simp v.1)) (goes (value_step format_built (given (codes "file") file ∷ given (codes "sectors") sectors ∷ given (codes "format") version ∷ []) (codes "mode") 2 mode m) (goes (met format_built (standing (given (codes "file") file ∷ given (codes "sectors") sectors ∷ given (codes "format") version ∷ []) (Some (codes "mode", mode ∷ [])) idle 2) (codes "--sparse") refl) (gone format_built (standing (given (codes "file") file ∷ given (codes "sectors") sectors ∷ given (codes "format") version ∷ given (codes "mode") mode ∷ flag_row (codes "sparse") true ∷ []) None idle 2))))))))) in
    let read = read_by (file ∷ codes "--sectors" ∷ sectors ∷ codes "--format" ∷ version ∷ codes "--mode" ∷ mode ∷ codes "--sparse" ∷ []) (codes "format") format_built (standing (given (codes "file") file ∷ given (codes "sectors") sectors ∷ given (codes "format") version ∷ given (codes "mode") mode ∷ flag_row (codes "sparse") true ∷ []) None idle 2) refl refl refl walked refl refl refl in
    record { rows = _; met = read.0; taken = read.1; holds = (refl, refl, refl, refl, refl, refl, refl, refl) }
format_read file sectors (Some version) (Some mode) None false true h s v m d =
    let walked = goes (plain_step format_built None 1 file h refl) (goes (met format_built (standing [] (Some (codes "file", file ∷ [])) idle 2) (codes "--sectors") refl) (goes (value_step format_built (given (codes "file") file ∷ []) (codes "sectors") 2 sectors s.0) (goes (met format_built (standing (given (codes "file") file ∷ []) (Some (codes "sectors", sectors ∷ [])) idle 2) (codes "--format") (simp s.1)) (goes (value_step format_built (given (codes "file") file ∷ given (codes "sectors") sectors ∷ []) (codes "format") 2 version v.0) (goes (met format_built (standing (given (codes "file") file ∷ given (codes "sectors") sectors ∷ []) (Some (codes "format", version ∷ [])) idle 2) (codes "--mode") (simp v.1)) (goes (value_step format_built (given (codes "file") file ∷ given (codes "sectors") sectors ∷ given (codes "format") version ∷ []) (codes "mode") 2 mode m) (goes (met format_built (standing (given (codes "file") file ∷ given (codes "sectors") sectors ∷ given (codes "format") version ∷ []) (Some (codes "mode", mode ∷ [])) idle 2) (codes "--why") refl) (gone format_built (standing (given (codes "file") file ∷ given (codes "sectors") sectors ∷ given (codes "format") version ∷ given (codes "mode") mode ∷ flag_row (codes "why") true ∷ []) None idle 2))))))))) in
    let read = read_by (file ∷ codes "--sectors" ∷ sectors ∷ codes "--format" ∷ version ∷ codes "--mode" ∷ mode ∷ codes "--why" ∷ []) (codes "format") format_built (standing (given (codes "file") file ∷ given (codes "sectors") sectors ∷ given (codes "format") version ∷ given (codes "mode") mode ∷ flag_row (codes "why") true ∷ []) None idle 2) refl refl refl walked refl refl refl in
    record { rows = _; met = read.0; taken = read.1; holds = (refl, refl, refl, refl, refl, refl, refl, refl) }
format_read file sectors (Some version) (Some mode) None false false h s v m d =
    let walked = goes (plain_step format_built None 1 file h refl) (goes (met format_built (standing [] (Some (codes "file", file ∷ [])) idle 2) (codes "--sectors") refl) (goes (value_step format_built (given (codes "file") file ∷ []) (codes "sectors") 2 sectors s.0) (goes (met format_built (standing (given (codes "file") file ∷ []) (Some (codes "sectors", sectors ∷ [])) idle 2) (codes "--format") (simp s.1)) (goes (value_step format_built (given (codes "file") file ∷ given (codes "sectors") sectors ∷ []) (codes "format") 2 version v.0) (goes (met format_built (standing (given (codes "file") file ∷ given (codes "sectors") sectors ∷ []) (Some (codes "format", version ∷ [])) idle 2) (codes "--mode") (simp v.1)) (goes (value_step format_built (given (codes "file") file ∷ given (codes "sectors") sectors ∷ given (codes "format") version ∷ []) (codes "mode") 2 mode m) (gone format_built (standing (given (codes "file") file ∷ given (codes "sectors") sectors ∷ given (codes "format") version ∷ []) (Some (codes "mode", mode ∷ [])) idle 2)))))))) in
    let read = read_by (file ∷ codes "--sectors" ∷ sectors ∷ codes "--format" ∷ version ∷ codes "--mode" ∷ mode ∷ []) (codes "format") format_built (standing (given (codes "file") file ∷ given (codes "sectors") sectors ∷ given (codes "format") version ∷ []) (Some (codes "mode", mode ∷ [])) idle 2) refl refl refl walked refl refl refl in
    record { rows = _; met = read.0; taken = read.1; holds = (refl, refl, refl, refl, refl, refl, refl, refl) }
format_read file sectors (Some version) None (Some identity) true true h s v m d =
    let walked = goes (plain_step format_built None 1 file h refl) (goes (met format_built (standing [] (Some (codes "file", file ∷ [])) idle 2) (codes "--sectors") refl) (goes (value_step format_built (given (codes "file") file ∷ []) (codes "sectors") 2 sectors s.0) (goes (met format_built (standing (given (codes "file") file ∷ []) (Some (codes "sectors", sectors ∷ [])) idle 2) (codes "--format") (simp s.1)) (goes (value_step format_built (given (codes "file") file ∷ given (codes "sectors") sectors ∷ []) (codes "format") 2 version v.0) (goes (met format_built (standing (given (codes "file") file ∷ given (codes "sectors") sectors ∷ []) (Some (codes "format", version ∷ [])) idle 2) (codes "--id") (simp v.1)) (goes (value_step format_built (given (codes "file") file ∷ given (codes "sectors") sectors ∷ given (codes "format") version ∷ []) (codes "id") 2 identity d) (goes (met format_built (standing (given (codes "file") file ∷ given (codes "sectors") sectors ∷ given (codes "format") version ∷ []) (Some (codes "id", identity ∷ [])) idle 2) (codes "--sparse") refl) (goes (met format_built (standing (given (codes "file") file ∷ given (codes "sectors") sectors ∷ given (codes "format") version ∷ given (codes "id") identity ∷ flag_row (codes "sparse") true ∷ []) None idle 2) (codes "--why") refl) (gone format_built (standing (given (codes "file") file ∷ given (codes "sectors") sectors ∷ given (codes "format") version ∷ given (codes "id") identity ∷ flag_row (codes "sparse") true ∷ flag_row (codes "why") true ∷ []) None idle 2)))))))))) in
    let read = read_by (file ∷ codes "--sectors" ∷ sectors ∷ codes "--format" ∷ version ∷ codes "--id" ∷ identity ∷ codes "--sparse" ∷ codes "--why" ∷ []) (codes "format") format_built (standing (given (codes "file") file ∷ given (codes "sectors") sectors ∷ given (codes "format") version ∷ given (codes "id") identity ∷ flag_row (codes "sparse") true ∷ flag_row (codes "why") true ∷ []) None idle 2) refl refl refl walked refl refl refl in
    record { rows = _; met = read.0; taken = read.1; holds = (refl, refl, refl, refl, refl, refl, refl, refl) }
format_read file sectors (Some version) None (Some identity) true false h s v m d =
    let walked = goes (plain_step format_built None 1 file h refl) (goes (met format_built (standing [] (Some (codes "file", file ∷ [])) idle 2) (codes "--sectors") refl) (goes (value_step format_built (given (codes "file") file ∷ []) (codes "sectors") 2 sectors s.0) (goes (met format_built (standing (given (codes "file") file ∷ []) (Some (codes "sectors", sectors ∷ [])) idle 2) (codes "--format") (simp s.1)) (goes (value_step format_built (given (codes "file") file ∷ given (codes "sectors") sectors ∷ []) (codes "format") 2 version v.0) (goes (met format_built (standing (given (codes "file") file ∷ given (codes "sectors") sectors ∷ []) (Some (codes "format", version ∷ [])) idle 2) (codes "--id") (simp v.1)) (goes (value_step format_built (given (codes "file") file ∷ given (codes "sectors") sectors ∷ given (codes "format") version ∷ []) (codes "id") 2 identity d) (goes (met format_built (standing (given (codes "file") file ∷ given (codes "sectors") sectors ∷ given (codes "format") version ∷ []) (Some (codes "id", identity ∷ [])) idle 2) (codes "--sparse") refl) (gone format_built (standing (given (codes "file") file ∷ given (codes "sectors") sectors ∷ given (codes "format") version ∷ given (codes "id") identity ∷ flag_row (codes "sparse") true ∷ []) None idle 2))))))))) in
    let read = read_by (file ∷ codes "--sectors" ∷ sectors ∷ codes "--format" ∷ version ∷ codes "--id" ∷ identity ∷ codes "--sparse" ∷ []) (codes "format") format_built (standing (given (codes "file") file ∷ given (codes "sectors") sectors ∷ given (codes "format") version ∷ given (codes "id") identity ∷ flag_row (codes "sparse") true ∷ []) None idle 2) refl refl refl walked refl refl refl in
    record { rows = _; met = read.0; taken = read.1; holds = (refl, refl, refl, refl, refl, refl, refl, refl) }
format_read file sectors (Some version) None (Some identity) false true h s v m d =
    let walked = goes (plain_step format_built None 1 file h refl) (goes (met format_built (standing [] (Some (codes "file", file ∷ [])) idle 2) (codes "--sectors") refl) (goes (value_step format_built (given (codes "file") file ∷ []) (codes "sectors") 2 sectors s.0) (goes (met format_built (standing (given (codes "file") file ∷ []) (Some (codes "sectors", sectors ∷ [])) idle 2) (codes "--format") (simp s.1)) (goes (value_step format_built (given (codes "file") file ∷ given (codes "sectors") sectors ∷ []) (codes "format") 2 version v.0) (goes (met format_built (standing (given (codes "file") file ∷ given (codes "sectors") sectors ∷ []) (Some (codes "format", version ∷ [])) idle 2) (codes "--id") (simp v.1)) (goes (value_step format_built (given (codes "file") file ∷ given (codes "sectors") sectors ∷ given (codes "format") version ∷ []) (codes "id") 2 identity d) (goes (met format_built (standing (given (codes "file") file ∷ given (codes "sectors") sectors ∷ given (codes "format") version ∷ []) (Some (codes "id", identity ∷ [])) idle 2) (codes "--why") refl) (gone format_built (standing (given (codes "file") file ∷ given (codes "sectors") sectors ∷ given (codes "format") version ∷ given (codes "id") identity ∷ flag_row (codes "why") true ∷ []) None idle 2))))))))) in
    let read = read_by (file ∷ codes "--sectors" ∷ sectors ∷ codes "--format" ∷ version ∷ codes "--id" ∷ identity ∷ codes "--why" ∷ []) (codes "format") format_built (standing (given (codes "file") file ∷ given (codes "sectors") sectors ∷ given (codes "format") version ∷ given (codes "id") identity ∷ flag_row (codes "why") true ∷ []) None idle 2) refl refl refl walked refl refl refl in
    record { rows = _; met = read.0; taken = read.1; holds = (refl, refl, refl, refl, refl, refl, refl, refl) }
format_read file sectors (Some version) None (Some identity) false false h s v m d =
    let walked = goes (plain_step format_built None 1 file h refl) (goes (met format_built (standing [] (Some (codes "file", file ∷ [])) idle 2) (codes "--sectors") refl) (goes (value_step format_built (given (codes "file") file ∷ []) (codes "sectors") 2 sectors s.0) (goes (met format_built (standing (given (codes "file") file ∷ []) (Some (codes "sectors", sectors ∷ [])) idle 2) (codes "--format") (simp s.1)) (goes (value_step format_built (given (codes "file") file ∷ given (codes "sectors") sectors ∷ []) (codes "format") 2 version v.0) (goes (met format_built (standing (given (codes "file") file ∷ given (codes "sectors") sectors ∷ []) (Some (codes "format", version ∷ [])) idle 2) (codes "--id") (simp v.1)) (goes (value_step format_built (given (codes "file") file ∷ given (codes "sectors") sectors ∷ given (codes "format") version ∷ []) (codes "id") 2 identity d) (gone format_built (standing (given (codes "file") file ∷ given (codes "sectors") sectors ∷ given (codes "format") version ∷ []) (Some (codes "id", identity ∷ [])) idle 2)))))))) in
    let read = read_by (file ∷ codes "--sectors" ∷ sectors ∷ codes "--format" ∷ version ∷ codes "--id" ∷ identity ∷ []) (codes "format") format_built (standing (given (codes "file") file ∷ given (codes "sectors") sectors ∷ given (codes "format") version ∷ []) (Some (codes "id", identity ∷ [])) idle 2) refl refl refl walked refl refl refl in
    record { rows = _; met = read.0; taken = read.1; holds = (refl, refl, refl, refl, refl, refl, refl, refl) }
format_read file sectors (Some version) None None true true h s v m d =
    let walked = goes (plain_step format_built None 1 file h refl) (goes (met format_built (standing [] (Some (codes "file", file ∷ [])) idle 2) (codes "--sectors") refl) (goes (value_step format_built (given (codes "file") file ∷ []) (codes "sectors") 2 sectors s.0) (goes (met format_built (standing (given (codes "file") file ∷ []) (Some (codes "sectors", sectors ∷ [])) idle 2) (codes "--format") (simp s.1)) (goes (value_step format_built (given (codes "file") file ∷ given (codes "sectors") sectors ∷ []) (codes "format") 2 version v.0) (goes (met format_built (standing (given (codes "file") file ∷ given (codes "sectors") sectors ∷ []) (Some (codes "format", version ∷ [])) idle 2) (codes "--sparse") (simp v.1)) (goes (met format_built (standing (given (codes "file") file ∷ given (codes "sectors") sectors ∷ given (codes "format") version ∷ flag_row (codes "sparse") true ∷ []) None idle 2) (codes "--why") refl) (gone format_built (standing (given (codes "file") file ∷ given (codes "sectors") sectors ∷ given (codes "format") version ∷ flag_row (codes "sparse") true ∷ flag_row (codes "why") true ∷ []) None idle 2)))))))) in
    let read = read_by (file ∷ codes "--sectors" ∷ sectors ∷ codes "--format" ∷ version ∷ codes "--sparse" ∷ codes "--why" ∷ []) (codes "format") format_built (standing (given (codes "file") file ∷ given (codes "sectors") sectors ∷ given (codes "format") version ∷ flag_row (codes "sparse") true ∷ flag_row (codes "why") true ∷ []) None idle 2) refl refl refl walked refl refl refl in
    record { rows = _; met = read.0; taken = read.1; holds = (refl, refl, refl, refl, refl, refl, refl, refl) }
format_read file sectors (Some version) None None true false h s v m d =
    let walked = goes (plain_step format_built None 1 file h refl) (goes (met format_built (standing [] (Some (codes "file", file ∷ [])) idle 2) (codes "--sectors") refl) (goes (value_step format_built (given (codes "file") file ∷ []) (codes "sectors") 2 sectors s.0) (goes (met format_built (standing (given (codes "file") file ∷ []) (Some (codes "sectors", sectors ∷ [])) idle 2) (codes "--format") (simp s.1)) (goes (value_step format_built (given (codes "file") file ∷ given (codes "sectors") sectors ∷ []) (codes "format") 2 version v.0) (goes (met format_built (standing (given (codes "file") file ∷ given (codes "sectors") sectors ∷ []) (Some (codes "format", version ∷ [])) idle 2) (codes "--sparse") (simp v.1)) (gone format_built (standing (given (codes "file") file ∷ given (codes "sectors") sectors ∷ given (codes "format") version ∷ flag_row (codes "sparse") true ∷ []) None idle 2))))))) in
    let read = read_by (file ∷ codes "--sectors" ∷ sectors ∷ codes "--format" ∷ version ∷ codes "--sparse" ∷ []) (codes "format") format_built (standing (given (codes "file") file ∷ given (codes "sectors") sectors ∷ given (codes "format") version ∷ flag_row (codes "sparse") true ∷ []) None idle 2) refl refl refl walked refl refl refl in
    record { rows = _; met = read.0; taken = read.1; holds = (refl, refl, refl, refl, refl, refl, refl, refl) }
format_read file sectors (Some version) None None false true h s v m d =
    let walked = goes (plain_step format_built None 1 file h refl) (goes (met format_built (standing [] (Some (codes "file", file ∷ [])) idle 2) (codes "--sectors") refl) (goes (value_step format_built (given (codes "file") file ∷ []) (codes "sectors") 2 sectors s.0) (goes (met format_built (standing (given (codes "file") file ∷ []) (Some (codes "sectors", sectors ∷ [])) idle 2) (codes "--format") (simp s.1)) (goes (value_step format_built (given (codes "file") file ∷ given (codes "sectors") sectors ∷ []) (codes "format") 2 version v.0) (goes (met format_built (standing (given (codes "file") file ∷ given (codes "sectors") sectors ∷ []) (Some (codes "format", version ∷ [])) idle 2) (codes "--why") (simp v.1)) (gone format_built (standing (given (codes "file") file ∷ given (codes "sectors") sectors ∷ given (codes "format") version ∷ flag_row (codes "why") true ∷ []) None idle 2))))))) in
    let read = read_by (file ∷ codes "--sectors" ∷ sectors ∷ codes "--format" ∷ version ∷ codes "--why" ∷ []) (codes "format") format_built (standing (given (codes "file") file ∷ given (codes "sectors") sectors ∷ given (codes "format") version ∷ flag_row (codes "why") true ∷ []) None idle 2) refl refl refl walked refl refl refl in
    record { rows = _; met = read.0; taken = read.1; holds = (refl, refl, refl, refl, refl, refl, refl, refl) }
format_read file sectors (Some version) None None false false h s v m d =
    let walked = goes (plain_step format_built None 1 file h refl) (goes (met format_built (standing [] (Some (codes "file", file ∷ [])) idle 2) (codes "--sectors") refl) (goes (value_step format_built (given (codes "file") file ∷ []) (codes "sectors") 2 sectors s.0) (goes (met format_built (standing (given (codes "file") file ∷ []) (Some (codes "sectors", sectors ∷ [])) idle 2) (codes "--format") (simp s.1)) (goes (value_step format_built (given (codes "file") file ∷ given (codes "sectors") sectors ∷ []) (codes "format") 2 version v.0) (gone format_built (standing (given (codes "file") file ∷ given (codes "sectors") sectors ∷ []) (Some (codes "format", version ∷ [])) idle 2)))))) in
    let read = read_by (file ∷ codes "--sectors" ∷ sectors ∷ codes "--format" ∷ version ∷ []) (codes "format") format_built (standing (given (codes "file") file ∷ given (codes "sectors") sectors ∷ []) (Some (codes "format", version ∷ [])) idle 2) refl refl refl walked (simp v.1) refl refl in
    record { rows = _; met = read.0; taken = read.1; holds = (refl, refl, refl, refl, refl, refl, refl, refl) }
format_read file sectors None (Some mode) (Some identity) true true h s v m d =
    let walked = goes (plain_step format_built None 1 file h refl) (goes (met format_built (standing [] (Some (codes "file", file ∷ [])) idle 2) (codes "--sectors") refl) (goes (value_step format_built (given (codes "file") file ∷ []) (codes "sectors") 2 sectors s.0) (goes (met format_built (standing (given (codes "file") file ∷ []) (Some (codes "sectors", sectors ∷ [])) idle 2) (codes "--mode") (simp s.1)) (goes (value_step format_built (given (codes "file") file ∷ given (codes "sectors") sectors ∷ []) (codes "mode") 2 mode m) (goes (met format_built (standing (given (codes "file") file ∷ given (codes "sectors") sectors ∷ []) (Some (codes "mode", mode ∷ [])) idle 2) (codes "--id") refl) (goes (value_step format_built (given (codes "file") file ∷ given (codes "sectors") sectors ∷ given (codes "mode") mode ∷ []) (codes "id") 2 identity d) (goes (met format_built (standing (given (codes "file") file ∷ given (codes "sectors") sectors ∷ given (codes "mode") mode ∷ []) (Some (codes "id", identity ∷ [])) idle 2) (codes "--sparse") refl) (goes (met format_built (standing (given (codes "file") file ∷ given (codes "sectors") sectors ∷ given (codes "mode") mode ∷ given (codes "id") identity ∷ flag_row (codes "sparse") true ∷ []) None idle 2) (codes "--why") refl) (gone format_built (standing (given (codes "file") file ∷ given (codes "sectors") sectors ∷ given (codes "mode") mode ∷ given (codes "id") identity ∷ flag_row (codes "sparse") true ∷ flag_row (codes "why") true ∷ []) None idle 2)))))))))) in
    let read = read_by (file ∷ codes "--sectors" ∷ sectors ∷ codes "--mode" ∷ mode ∷ codes "--id" ∷ identity ∷ codes "--sparse" ∷ codes "--why" ∷ []) (codes "format") format_built (standing (given (codes "file") file ∷ given (codes "sectors") sectors ∷ given (codes "mode") mode ∷ given (codes "id") identity ∷ flag_row (codes "sparse") true ∷ flag_row (codes "why") true ∷ []) None idle 2) refl refl refl walked refl refl refl in
    record { rows = _; met = read.0; taken = read.1; holds = (refl, refl, refl, refl, refl, refl, refl, refl) }
format_read file sectors None (Some mode) (Some identity) true false h s v m d =
    let walked = goes (plain_step format_built None 1 file h refl) (goes (met format_built (standing [] (Some (codes "file", file ∷ [])) idle 2) (codes "--sectors") refl) (goes (value_step format_built (given (codes "file") file ∷ []) (codes "sectors") 2 sectors s.0) (goes (met format_built (standing (given (codes "file") file ∷ []) (Some (codes "sectors", sectors ∷ [])) idle 2) (codes "--mode") (simp s.1)) (goes (value_step format_built (given (codes "file") file ∷ given (codes "sectors") sectors ∷ []) (codes "mode") 2 mode m) (goes (met format_built (standing (given (codes "file") file ∷ given (codes "sectors") sectors ∷ []) (Some (codes "mode", mode ∷ [])) idle 2) (codes "--id") refl) (goes (value_step format_built (given (codes "file") file ∷ given (codes "sectors") sectors ∷ given (codes "mode") mode ∷ []) (codes "id") 2 identity d) (goes (met format_built (standing (given (codes "file") file ∷ given (codes "sectors") sectors ∷ given (codes "mode") mode ∷ []) (Some (codes "id", identity ∷ [])) idle 2) (codes "--sparse") refl) (gone format_built (standing (given (codes "file") file ∷ given (codes "sectors") sectors ∷ given (codes "mode") mode ∷ given (codes "id") identity ∷ flag_row (codes "sparse") true ∷ []) None idle 2))))))))) in
    let read = read_by (file ∷ codes "--sectors" ∷ sectors ∷ codes "--mode" ∷ mode ∷ codes "--id" ∷ identity ∷ codes "--sparse" ∷ []) (codes "format") format_built (standing (given (codes "file") file ∷ given (codes "sectors") sectors ∷ given (codes "mode") mode ∷ given (codes "id") identity ∷ flag_row (codes "sparse") true ∷ []) None idle 2) refl refl refl walked refl refl refl in
    record { rows = _; met = read.0; taken = read.1; holds = (refl, refl, refl, refl, refl, refl, refl, refl) }
format_read file sectors None (Some mode) (Some identity) false true h s v m d =
    let walked = goes (plain_step format_built None 1 file h refl) (goes (met format_built (standing [] (Some (codes "file", file ∷ [])) idle 2) (codes "--sectors") refl) (goes (value_step format_built (given (codes "file") file ∷ []) (codes "sectors") 2 sectors s.0) (goes (met format_built (standing (given (codes "file") file ∷ []) (Some (codes "sectors", sectors ∷ [])) idle 2) (codes "--mode") (simp s.1)) (goes (value_step format_built (given (codes "file") file ∷ given (codes "sectors") sectors ∷ []) (codes "mode") 2 mode m) (goes (met format_built (standing (given (codes "file") file ∷ given (codes "sectors") sectors ∷ []) (Some (codes "mode", mode ∷ [])) idle 2) (codes "--id") refl) (goes (value_step format_built (given (codes "file") file ∷ given (codes "sectors") sectors ∷ given (codes "mode") mode ∷ []) (codes "id") 2 identity d) (goes (met format_built (standing (given (codes "file") file ∷ given (codes "sectors") sectors ∷ given (codes "mode") mode ∷ []) (Some (codes "id", identity ∷ [])) idle 2) (codes "--why") refl) (gone format_built (standing (given (codes "file") file ∷ given (codes "sectors") sectors ∷ given (codes "mode") mode ∷ given (codes "id") identity ∷ flag_row (codes "why") true ∷ []) None idle 2))))))))) in
    let read = read_by (file ∷ codes "--sectors" ∷ sectors ∷ codes "--mode" ∷ mode ∷ codes "--id" ∷ identity ∷ codes "--why" ∷ []) (codes "format") format_built (standing (given (codes "file") file ∷ given (codes "sectors") sectors ∷ given (codes "mode") mode ∷ given (codes "id") identity ∷ flag_row (codes "why") true ∷ []) None idle 2) refl refl refl walked refl refl refl in
    record { rows = _; met = read.0; taken = read.1; holds = (refl, refl, refl, refl, refl, refl, refl, refl) }
format_read file sectors None (Some mode) (Some identity) false false h s v m d =
    let walked = goes (plain_step format_built None 1 file h refl) (goes (met format_built (standing [] (Some (codes "file", file ∷ [])) idle 2) (codes "--sectors") refl) (goes (value_step format_built (given (codes "file") file ∷ []) (codes "sectors") 2 sectors s.0) (goes (met format_built (standing (given (codes "file") file ∷ []) (Some (codes "sectors", sectors ∷ [])) idle 2) (codes "--mode") (simp s.1)) (goes (value_step format_built (given (codes "file") file ∷ given (codes "sectors") sectors ∷ []) (codes "mode") 2 mode m) (goes (met format_built (standing (given (codes "file") file ∷ given (codes "sectors") sectors ∷ []) (Some (codes "mode", mode ∷ [])) idle 2) (codes "--id") refl) (goes (value_step format_built (given (codes "file") file ∷ given (codes "sectors") sectors ∷ given (codes "mode") mode ∷ []) (codes "id") 2 identity d) (gone format_built (standing (given (codes "file") file ∷ given (codes "sectors") sectors ∷ given (codes "mode") mode ∷ []) (Some (codes "id", identity ∷ [])) idle 2)))))))) in
    let read = read_by (file ∷ codes "--sectors" ∷ sectors ∷ codes "--mode" ∷ mode ∷ codes "--id" ∷ identity ∷ []) (codes "format") format_built (standing (given (codes "file") file ∷ given (codes "sectors") sectors ∷ given (codes "mode") mode ∷ []) (Some (codes "id", identity ∷ [])) idle 2) refl refl refl walked refl refl refl in
    record { rows = _; met = read.0; taken = read.1; holds = (refl, refl, refl, refl, refl, refl, refl, refl) }
format_read file sectors None (Some mode) None true true h s v m d =
    let walked = goes (plain_step format_built None 1 file h refl) (goes (met format_built (standing [] (Some (codes "file", file ∷ [])) idle 2) (codes "--sectors") refl) (goes (value_step format_built (given (codes "file") file ∷ []) (codes "sectors") 2 sectors s.0) (goes (met format_built (standing (given (codes "file") file ∷ []) (Some (codes "sectors", sectors ∷ [])) idle 2) (codes "--mode") (simp s.1)) (goes (value_step format_built (given (codes "file") file ∷ given (codes "sectors") sectors ∷ []) (codes "mode") 2 mode m) (goes (met format_built (standing (given (codes "file") file ∷ given (codes "sectors") sectors ∷ []) (Some (codes "mode", mode ∷ [])) idle 2) (codes "--sparse") refl) (goes (met format_built (standing (given (codes "file") file ∷ given (codes "sectors") sectors ∷ given (codes "mode") mode ∷ flag_row (codes "sparse") true ∷ []) None idle 2) (codes "--why") refl) (gone format_built (standing (given (codes "file") file ∷ given (codes "sectors") sectors ∷ given (codes "mode") mode ∷ flag_row (codes "sparse") true ∷ flag_row (codes "why") true ∷ []) None idle 2)))))))) in
    let read = read_by (file ∷ codes "--sectors" ∷ sectors ∷ codes "--mode" ∷ mode ∷ codes "--sparse" ∷ codes "--why" ∷ []) (codes "format") format_built (standing (given (codes "file") file ∷ given (codes "sectors") sectors ∷ given (codes "mode") mode ∷ flag_row (codes "sparse") true ∷ flag_row (codes "why") true ∷ []) None idle 2) refl refl refl walked refl refl refl in
    record { rows = _; met = read.0; taken = read.1; holds = (refl, refl, refl, refl, refl, refl, refl, refl) }
format_read file sectors None (Some mode) None true false h s v m d =
    let walked = goes (plain_step format_built None 1 file h refl) (goes (met format_built (standing [] (Some (codes "file", file ∷ [])) idle 2) (codes "--sectors") refl) (goes (value_step format_built (given (codes "file") file ∷ []) (codes "sectors") 2 sectors s.0) (goes (met format_built (standing (given (codes "file") file ∷ []) (Some (codes "sectors", sectors ∷ [])) idle 2) (codes "--mode") (simp s.1)) (goes (value_step format_built (given (codes "file") file ∷ given (codes "sectors") sectors ∷ []) (codes "mode") 2 mode m) (goes (met format_built (standing (given (codes "file") file ∷ given (codes "sectors") sectors ∷ []) (Some (codes "mode", mode ∷ [])) idle 2) (codes "--sparse") refl) (gone format_built (standing (given (codes "file") file ∷ given (codes "sectors") sectors ∷ given (codes "mode") mode ∷ flag_row (codes "sparse") true ∷ []) None idle 2))))))) in
    let read = read_by (file ∷ codes "--sectors" ∷ sectors ∷ codes "--mode" ∷ mode ∷ codes "--sparse" ∷ []) (codes "format") format_built (standing (given (codes "file") file ∷ given (codes "sectors") sectors ∷ given (codes "mode") mode ∷ flag_row (codes "sparse") true ∷ []) None idle 2) refl refl refl walked refl refl refl in
    record { rows = _; met = read.0; taken = read.1; holds = (refl, refl, refl, refl, refl, refl, refl, refl) }
format_read file sectors None (Some mode) None false true h s v m d =
    let walked = goes (plain_step format_built None 1 file h refl) (goes (met format_built (standing [] (Some (codes "file", file ∷ [])) idle 2) (codes "--sectors") refl) (goes (value_step format_built (given (codes "file") file ∷ []) (codes "sectors") 2 sectors s.0) (goes (met format_built (standing (given (codes "file") file ∷ []) (Some (codes "sectors", sectors ∷ [])) idle 2) (codes "--mode") (simp s.1)) (goes (value_step format_built (given (codes "file") file ∷ given (codes "sectors") sectors ∷ []) (codes "mode") 2 mode m) (goes (met format_built (standing (given (codes "file") file ∷ given (codes "sectors") sectors ∷ []) (Some (codes "mode", mode ∷ [])) idle 2) (codes "--why") refl) (gone format_built (standing (given (codes "file") file ∷ given (codes "sectors") sectors ∷ given (codes "mode") mode ∷ flag_row (codes "why") true ∷ []) None idle 2))))))) in
    let read = read_by (file ∷ codes "--sectors" ∷ sectors ∷ codes "--mode" ∷ mode ∷ codes "--why" ∷ []) (codes "format") format_built (standing (given (codes "file") file ∷ given (codes "sectors") sectors ∷ given (codes "mode") mode ∷ flag_row (codes "why") true ∷ []) None idle 2) refl refl refl walked refl refl refl in
    record { rows = _; met = read.0; taken = read.1; holds = (refl, refl, refl, refl, refl, refl, refl, refl) }
format_read file sectors None (Some mode) None false false h s v m d =
    let walked = goes (plain_step format_built None 1 file h refl) (goes (met format_built (standing [] (Some (codes "file", file ∷ [])) idle 2) (codes "--sectors") refl) (goes (value_step format_built (given (codes "file") file ∷ []) (codes "sectors") 2 sectors s.0) (goes (met format_built (standing (given (codes "file") file ∷ []) (Some (codes "sectors", sectors ∷ [])) idle 2) (codes "--mode") (simp s.1)) (goes (value_step format_built (given (codes "file") file ∷ given (codes "sectors") sectors ∷ []) (codes "mode") 2 mode m) (gone format_built (standing (given (codes "file") file ∷ given (codes "sectors") sectors ∷ []) (Some (codes "mode", mode ∷ [])) idle 2)))))) in
    let read = read_by (file ∷ codes "--sectors" ∷ sectors ∷ codes "--mode" ∷ mode ∷ []) (codes "format") format_built (standing (given (codes "file") file ∷ given (codes "sectors") sectors ∷ []) (Some (codes "mode", mode ∷ [])) idle 2) refl refl refl walked refl refl refl in
    record { rows = _; met = read.0; taken = read.1; holds = (refl, refl, refl, refl, refl, refl, refl, refl) }
format_read file sectors None None (Some identity) true true h s v m d =
    let walked = goes (plain_step format_built None 1 file h refl) (goes (met format_built (standing [] (Some (codes "file", file ∷ [])) idle 2) (codes "--sectors") refl) (goes (value_step format_built (given (codes "file") file ∷ []) (codes "sectors") 2 sectors s.0) (goes (met format_built (standing (given (codes "file") file ∷ []) (Some (codes "sectors", sectors ∷ [])) idle 2) (codes "--id") (simp s.1)) (goes (value_step format_built (given (codes "file") file ∷ given (codes "sectors") sectors ∷ []) (codes "id") 2 identity d) (goes (met format_built (standing (given (codes "file") file ∷ given (codes "sectors") sectors ∷ []) (Some (codes "id", identity ∷ [])) idle 2) (codes "--sparse") refl) (goes (met format_built (standing (given (codes "file") file ∷ given (codes "sectors") sectors ∷ given (codes "id") identity ∷ flag_row (codes "sparse") true ∷ []) None idle 2) (codes "--why") refl) (gone format_built (standing (given (codes "file") file ∷ given (codes "sectors") sectors ∷ given (codes "id") identity ∷ flag_row (codes "sparse") true ∷ flag_row (codes "why") true ∷ []) None idle 2)))))))) in
    let read = read_by (file ∷ codes "--sectors" ∷ sectors ∷ codes "--id" ∷ identity ∷ codes "--sparse" ∷ codes "--why" ∷ []) (codes "format") format_built (standing (given (codes "file") file ∷ given (codes "sectors") sectors ∷ given (codes "id") identity ∷ flag_row (codes "sparse") true ∷ flag_row (codes "why") true ∷ []) None idle 2) refl refl refl walked refl refl refl in
    record { rows = _; met = read.0; taken = read.1; holds = (refl, refl, refl, refl, refl, refl, refl, refl) }
format_read file sectors None None (Some identity) true false h s v m d =
    let walked = goes (plain_step format_built None 1 file h refl) (goes (met format_built (standing [] (Some (codes "file", file ∷ [])) idle 2) (codes "--sectors") refl) (goes (value_step format_built (given (codes "file") file ∷ []) (codes "sectors") 2 sectors s.0) (goes (met format_built (standing (given (codes "file") file ∷ []) (Some (codes "sectors", sectors ∷ [])) idle 2) (codes "--id") (simp s.1)) (goes (value_step format_built (given (codes "file") file ∷ given (codes "sectors") sectors ∷ []) (codes "id") 2 identity d) (goes (met format_built (standing (given (codes "file") file ∷ given (codes "sectors") sectors ∷ []) (Some (codes "id", identity ∷ [])) idle 2) (codes "--sparse") refl) (gone format_built (standing (given (codes "file") file ∷ given (codes "sectors") sectors ∷ given (codes "id") identity ∷ flag_row (codes "sparse") true ∷ []) None idle 2))))))) in
    let read = read_by (file ∷ codes "--sectors" ∷ sectors ∷ codes "--id" ∷ identity ∷ codes "--sparse" ∷ []) (codes "format") format_built (standing (given (codes "file") file ∷ given (codes "sectors") sectors ∷ given (codes "id") identity ∷ flag_row (codes "sparse") true ∷ []) None idle 2) refl refl refl walked refl refl refl in
    record { rows = _; met = read.0; taken = read.1; holds = (refl, refl, refl, refl, refl, refl, refl, refl) }
format_read file sectors None None (Some identity) false true h s v m d =
    let walked = goes (plain_step format_built None 1 file h refl) (goes (met format_built (standing [] (Some (codes "file", file ∷ [])) idle 2) (codes "--sectors") refl) (goes (value_step format_built (given (codes "file") file ∷ []) (codes "sectors") 2 sectors s.0) (goes (met format_built (standing (given (codes "file") file ∷ []) (Some (codes "sectors", sectors ∷ [])) idle 2) (codes "--id") (simp s.1)) (goes (value_step format_built (given (codes "file") file ∷ given (codes "sectors") sectors ∷ []) (codes "id") 2 identity d) (goes (met format_built (standing (given (codes "file") file ∷ given (codes "sectors") sectors ∷ []) (Some (codes "id", identity ∷ [])) idle 2) (codes "--why") refl) (gone format_built (standing (given (codes "file") file ∷ given (codes "sectors") sectors ∷ given (codes "id") identity ∷ flag_row (codes "why") true ∷ []) None idle 2))))))) in
    let read = read_by (file ∷ codes "--sectors" ∷ sectors ∷ codes "--id" ∷ identity ∷ codes "--why" ∷ []) (codes "format") format_built (standing (given (codes "file") file ∷ given (codes "sectors") sectors ∷ given (codes "id") identity ∷ flag_row (codes "why") true ∷ []) None idle 2) refl refl refl walked refl refl refl in
    record { rows = _; met = read.0; taken = read.1; holds = (refl, refl, refl, refl, refl, refl, refl, refl) }
format_read file sectors None None (Some identity) false false h s v m d =
    let walked = goes (plain_step format_built None 1 file h refl) (goes (met format_built (standing [] (Some (codes "file", file ∷ [])) idle 2) (codes "--sectors") refl) (goes (value_step format_built (given (codes "file") file ∷ []) (codes "sectors") 2 sectors s.0) (goes (met format_built (standing (given (codes "file") file ∷ []) (Some (codes "sectors", sectors ∷ [])) idle 2) (codes "--id") (simp s.1)) (goes (value_step format_built (given (codes "file") file ∷ given (codes "sectors") sectors ∷ []) (codes "id") 2 identity d) (gone format_built (standing (given (codes "file") file ∷ given (codes "sectors") sectors ∷ []) (Some (codes "id", identity ∷ [])) idle 2)))))) in
    let read = read_by (file ∷ codes "--sectors" ∷ sectors ∷ codes "--id" ∷ identity ∷ []) (codes "format") format_built (standing (given (codes "file") file ∷ given (codes "sectors") sectors ∷ []) (Some (codes "id", identity ∷ [])) idle 2) refl refl refl walked refl refl refl in
    record { rows = _; met = read.0; taken = read.1; holds = (refl, refl, refl, refl, refl, refl, refl, refl) }
format_read file sectors None None None true true h s v m d =
    let walked = goes (plain_step format_built None 1 file h refl) (goes (met format_built (standing [] (Some (codes "file", file ∷ [])) idle 2) (codes "--sectors") refl) (goes (value_step format_built (given (codes "file") file ∷ []) (codes "sectors") 2 sectors s.0) (goes (met format_built (standing (given (codes "file") file ∷ []) (Some (codes "sectors", sectors ∷ [])) idle 2) (codes "--sparse") (simp s.1)) (goes (met format_built (standing (given (codes "file") file ∷ given (codes "sectors") sectors ∷ flag_row (codes "sparse") true ∷ []) None idle 2) (codes "--why") refl) (gone format_built (standing (given (codes "file") file ∷ given (codes "sectors") sectors ∷ flag_row (codes "sparse") true ∷ flag_row (codes "why") true ∷ []) None idle 2)))))) in
    let read = read_by (file ∷ codes "--sectors" ∷ sectors ∷ codes "--sparse" ∷ codes "--why" ∷ []) (codes "format") format_built (standing (given (codes "file") file ∷ given (codes "sectors") sectors ∷ flag_row (codes "sparse") true ∷ flag_row (codes "why") true ∷ []) None idle 2) refl refl refl walked refl refl refl in
    record { rows = _; met = read.0; taken = read.1; holds = (refl, refl, refl, refl, refl, refl, refl, refl) }
format_read file sectors None None None true false h s v m d =
    let walked = goes (plain_step format_built None 1 file h refl) (goes (met format_built (standing [] (Some (codes "file", file ∷ [])) idle 2) (codes "--sectors") refl) (goes (value_step format_built (given (codes "file") file ∷ []) (codes "sectors") 2 sectors s.0) (goes (met format_built (standing (given (codes "file") file ∷ []) (Some (codes "sectors", sectors ∷ [])) idle 2) (codes "--sparse") (simp s.1)) (gone format_built (standing (given (codes "file") file ∷ given (codes "sectors") sectors ∷ flag_row (codes "sparse") true ∷ []) None idle 2))))) in
    let read = read_by (file ∷ codes "--sectors" ∷ sectors ∷ codes "--sparse" ∷ []) (codes "format") format_built (standing (given (codes "file") file ∷ given (codes "sectors") sectors ∷ flag_row (codes "sparse") true ∷ []) None idle 2) refl refl refl walked refl refl refl in
    record { rows = _; met = read.0; taken = read.1; holds = (refl, refl, refl, refl, refl, refl, refl, refl) }
format_read file sectors None None None false true h s v m d =
    let walked = goes (plain_step format_built None 1 file h refl) (goes (met format_built (standing [] (Some (codes "file", file ∷ [])) idle 2) (codes "--sectors") refl) (goes (value_step format_built (given (codes "file") file ∷ []) (codes "sectors") 2 sectors s.0) (goes (met format_built (standing (given (codes "file") file ∷ []) (Some (codes "sectors", sectors ∷ [])) idle 2) (codes "--why") (simp s.1)) (gone format_built (standing (given (codes "file") file ∷ given (codes "sectors") sectors ∷ flag_row (codes "why") true ∷ []) None idle 2))))) in
    let read = read_by (file ∷ codes "--sectors" ∷ sectors ∷ codes "--why" ∷ []) (codes "format") format_built (standing (given (codes "file") file ∷ given (codes "sectors") sectors ∷ flag_row (codes "why") true ∷ []) None idle 2) refl refl refl walked refl refl refl in
    record { rows = _; met = read.0; taken = read.1; holds = (refl, refl, refl, refl, refl, refl, refl, refl) }
format_read file sectors None None None false false h s v m d =
    let walked = goes (plain_step format_built None 1 file h refl) (goes (met format_built (standing [] (Some (codes "file", file ∷ [])) idle 2) (codes "--sectors") refl) (goes (value_step format_built (given (codes "file") file ∷ []) (codes "sectors") 2 sectors s.0) (gone format_built (standing (given (codes "file") file ∷ []) (Some (codes "sectors", sectors ∷ [])) idle 2)))) in
    let read = read_by (file ∷ codes "--sectors" ∷ sectors ∷ []) (codes "format") format_built (standing (given (codes "file") file ∷ []) (Some (codes "sectors", sectors ∷ [])) idle 2) refl refl refl walked (simp s.1) refl refl in
    record { rows = _; met = read.0; taken = read.1; holds = (refl, refl, refl, refl, refl, refl, refl, refl) }

-- ---- all rows

-- the words are taken, and mean the call, and ask why as it is said
abbrev pub IsReadAs : List Text → Asked → Bool → Type 0
IsReadAs words asked why = (Means (subcommand_of app words) asked × MeansWhy (subcommand_of app words) asked why) × (takes app words ≡ true)

-- the words of an option with a number, which may be absent, and what they make of what is found for it
record IsOptional (flag id : Text) (default least most n : ℕ) (words : List Text) : Type 0 where
  text : Option Text
  is : words ≡ option_words flag text
  fits : IfSome text (IsChecked least most)
  held : (rows : List Row) → one_of id rows ≡ text → first_of id rows ≡ text → MayHold id default n rows

optional : (flag id : Text) (default least most n : ℕ) (words : List Text) → (1 ≤ n → least ≤ n) → n ≤ most → most < 2 ^ 64 → IsGiven flag default n words
    → IsOptional flag id default least most n words
optional flag id default least most n words low high short (inl some) =
    let read = number n least most (decimal n) (low some.0) high short refl in
    record {
      text = Some (decimal n);
      is = some.1;
      fits = checked n least most (decimal n) read;
      held = λ rows one first. inl (some.0, (decimal n, one, read.spells));
    }
optional flag id default least most n words low high short (inr absent) = record {
  text = None;
  is = absent.1;
  fits = tt;
  held = λ rows one first. inr (absent.0, first);
}

-- the words of a format, of which there may be none
record IsFormatFound (version : Option ℕ) (words : List Text) : Type 0 where
  text : Option Text
  is : words ≡ option_words (codes "--format") text
  fits : IfSome text (IsChecked MIN_FORMAT MAX_FORMAT)
  held : (rows : List Row) → one_of (codes "format") rows ≡ text → first_of (codes "format") rows ≡ text → HoldsFormat version rows

format_found : (version : Option ℕ) (words : List Text) → IfSome version IsFormatNumber → IsFormatAsked version words → IsFormatFound version words
format_found None words range absent = record { text = None; is = absent; fits = tt; held = λ rows one first. first }
format_found (Some version) words range some =
    let read = number version MIN_FORMAT MAX_FORMAT (decimal version) range.0 range.1 (omega arith) refl in
    record {
      text = Some (decimal version);
      is = some;
      fits = checked version MIN_FORMAT MAX_FORMAT (decimal version) read;
      held = λ rows one first. (decimal version, one, read.spells);
    }

-- the words of a mode, which may be absent
record IsModeFound (mode : ℕ) (words : List Text) : Type 0 where
  text : Option Text
  is : words ≡ option_words (codes "--mode") text
  fits : IfSome text IsPlain
  held : (rows : List Row) → first_of (codes "mode") rows ≡ text → HoldsMode mode rows

mode_found : (mode : ℕ) (words : List Text) → IsModeGiven mode words → IsModeFound mode words
mode_found mode words (inl some) = record {
  text = Some some.0;
  is = some.3;
  fits = plain some.0 some.1;
  held = λ rows first. inl (some.0, first, some.2);
}
mode_found mode words (inr absent) = record {
  text = None;
  is = absent.1;
  fits = tt;
  held = λ rows first. inr (absent.0, first);
}

-- the words of a size, which may be absent
record IsSizeFound (sectors : ℕ) (words : List Text) : Type 0 where
  text : Option Text
  is : words ≡ option_words (codes "--size") text
  fits : IfSome text IsPlain
  held : (rows : List Row) → first_of (codes "size") rows ≡ text → HoldsSize sectors rows

size_found : (sectors : ℕ) (words : List Text) → IsSizeGiven sectors words → IsSizeFound sectors words
size_found sectors words (inl some) = record {
  text = Some some.0;
  is = some.3;
  fits = plain some.0 some.1;
  held = λ rows first. inl (some.0, first, some.2);
}
size_found sectors words (inr absent) = record {
  text = None;
  is = absent.1;
  fits = tt;
  held = λ rows first. inr (absent.0, first);
}

-- the words of an identity, which may be absent
record IsIdentityFound (identity : Option ℕ) (words : List Text) : Type 0 where
  text : Option Text
  is : words ≡ option_words (codes "--id") text
  fits : IfSome text IsPlain
  held : (rows : List Row) → first_of (codes "id") rows ≡ text → HoldsIdentity identity rows

identity_found : (identity : Option ℕ) (words : List Text) → IsIdentityGiven identity words → IsIdentityFound identity words
identity_found None words absent = record { text = None; is = absent; fits = tt; held = λ rows first. first }
identity_found (Some identity) words some = record {
  text = Some some.0;
  is = some.3;
  fits = plain some.0 some.1;
  held = λ rows first. (some.0, first, some.2);
}

-- the words of a history, which may be absent
record IsHistoryFound (history : ℕ) (words : List Text) : Type 0 where
  text : Option Text
  is : words ≡ option_words (codes "--history") text
  fits : IfSome text (IsChecked 0 MAX_HISTORY)
  held : (rows : List Row) → one_of (codes "history") rows ≡ text → first_of (codes "history") rows ≡ text → HoldsHistory history rows

history_found : (history : ℕ) (words : List Text) → history ≤ MAX_HISTORY → IsHistoryGiven history words → IsHistoryFound history words
history_found history words high (inl some) =
    let read = number history 0 MAX_HISTORY (decimal history) (omega arith) high (omega arith) refl in
    record {
      text = Some (decimal history);
      is = some;
      fits = checked history 0 MAX_HISTORY (decimal history) read;
      held = λ rows one first. inl (decimal history, one, read.spells);
    }
history_found history words high (inr absent) = record {
  text = None;
  is = absent.1;
  fits = tt;
  held = λ rows one first. inr (absent.0, first);
}

served : (file : Text) (batch pump history : ℕ) (strict why : Bool) (batches pumps histories : List Text) → IsPlain file
    → IsOptional (codes "--batch") (codes "batch") 1 1 MAX_BATCH batch batches → IsOptional (codes "--pump") (codes "pump") 0 1 MAX_PUMP pump pumps
    → IsHistoryFound history histories
    → IsReadAs (codes "serve" ∷ file ∷ batches ++ pumps ++ histories ++ flag_words (codes "--strict") strict ++ flag_words (codes "--why") why) (serve file batch pump history strict) why
    × IsReadAs (codes "serve" ∷ file ∷ pumps ++ batches ++ histories ++ flag_words (codes "--strict") strict ++ flag_words (codes "--why") why) (serve file batch pump history strict) why
served file batch pump history strict why batches pumps histories h b p n =
    let one = batch_first_read file b.text p.text n.text strict why h b.fits p.fits n.fits in
    let other = pump_first_read file b.text p.text n.text strict why h b.fits p.fits n.fits in
    let held = one.holds in
    let turned = other.holds in
    let first : IsReadAs (codes "serve" ∷ file ∷ option_words (codes "--batch") b.text ++ option_words (codes "--pump") p.text ++ option_words (codes "--history") n.text ++ flag_words (codes "--strict") strict ++ flag_words (codes "--why") why) (serve file batch pump history strict) why =
    (((one.rows, one.met, (held.0, b.held one.rows held.1 held.2, p.held one.rows held.3 held.4, n.held one.rows held.5 held.6, held.7)), (one.rows, one.met, held.8)), one.taken) in
    let second : IsReadAs (codes "serve" ∷ file ∷ option_words (codes "--pump") p.text ++ option_words (codes "--batch") b.text ++ option_words (codes "--history") n.text ++ flag_words (codes "--strict") strict ++ flag_words (codes "--why") why) (serve file batch pump history strict) why =
    (((other.rows, other.met, (turned.0, b.held other.rows turned.1 turned.2, p.held other.rows turned.3 turned.4, n.held other.rows turned.5 turned.6, turned.7)), (other.rows, other.met, turned.8)), other.taken) in
    rw b.is (rw p.is (rw n.is (first, second)))

-- words that are a call's row are taken and mean that call
pub read_as_row : (asked : Asked) (why : Bool) (words : List Text) → InRange asked → IsRowOf words asked why → IsReadAs words asked why
read_as_row (format file n version mode sparse identity) why words range (h, formats, modes, identities, v, m, d, row) =
    let sectors = number n MIN_SECTORS MAX_SECTORS (decimal n) range.0.0 range.0.1 (omega arith) refl in
    let chosen = optional (codes "--format") (codes "format") 2 MIN_FORMAT MAX_FORMAT version formats (λ one. range.1.0) range.1.1 (omega arith) v in
    let moded = mode_found mode modes m in
    let named = identity_found identity identities d in
    let read = format_read file (decimal n) chosen.text moded.text named.text sparse why (plain file h) (checked n MIN_SECTORS MAX_SECTORS (decimal n) sectors) chosen.fits moded.fits named.fits in
    let held = read.holds in
    let meant : IsReadAs (codes "format" ∷ file ∷ codes "--sectors" ∷ decimal n ∷ option_words (codes "--format") chosen.text ++ option_words (codes "--mode") moded.text ++ option_words (codes "--id") named.text ++ flag_words (codes "--sparse") sparse ++ flag_words (codes "--why") why) (format file n version mode sparse identity) why =
    (((read.rows, read.met, (held.0, (decimal n, held.1, sectors.spells), chosen.held read.rows held.2 held.3, moded.held read.rows held.4, held.6, named.held read.rows held.5)), (read.rows, read.met, held.7)), read.taken) in
    rw row (rw chosen.is (rw moded.is (rw named.is meant)))
read_as_row (fresh file n identity) why words range (h, sizes, identities, s, d, row) =
    let sized = size_found n sizes s in
    let named = identity_found identity identities d in
    let read = fresh_read file sized.text named.text why (plain file h) sized.fits named.fits in
    let held = read.holds in
    let meant : IsReadAs (codes "new" ∷ file ∷ option_words (codes "--size") sized.text ++ option_words (codes "--id") named.text ++ flag_words (codes "--why") why) (fresh file n identity) why =
    (((read.rows, read.met, (held.0, sized.held read.rows held.1, named.held read.rows held.2)), (read.rows, read.met, held.3)), read.taken) in
    rw row (rw sized.is (rw named.is meant))
read_as_row (serve file batch pump history strict) why words range (h, batches, pumps, options, histories, b, p, order, n, row) =
    let first = optional (codes "--batch") (codes "batch") 1 1 MAX_BATCH batch batches (λ one. one) range.0.1 (omega arith) b in
    let second = optional (codes "--pump") (codes "pump") 0 1 MAX_PUMP pump pumps (λ one. one) range.1 (omega arith) p in
    let both = served file batch pump history strict why batches pumps histories (plain file h) first second (history_found history histories range.2 n) in
    elim order [ inl same ↦ rw row (rw same both.0) | inr same ↦ rw row (rw same both.1) ]
read_as_row (check file strict) why words range row =
    let read = check_read file strict why (plain file row.0) in
    let meant : IsReadAs (codes "check" ∷ file ∷ flag_words (codes "--strict") strict ++ flag_words (codes "--why") why) (check file strict) why =
    (((read.rows, read.met, (read.holds.0, read.holds.1, read.holds.2)), (read.rows, read.met, read.holds.3)), read.taken) in
    rw row.1 meant
read_as_row (repair file) why words range row =
    let read = repair_read file why (plain file row.0) in
    let meant : IsReadAs (codes "repair" ∷ file ∷ flag_words (codes "--why") why) (repair file) why =
    (((read.rows, read.met, read.holds.0), (read.rows, read.met, read.holds.1)), read.taken) in
    rw row.1 meant
read_as_row (copy file new n version identity strict) why words range (h, k, formats, identities, v, d, row) =
    let sectors = number n MIN_SECTORS MAX_SECTORS (decimal n) range.0.0 range.0.1 (omega arith) refl in
    let chosen = format_found version formats range.1 v in
    let named = identity_found identity identities d in
    let read = copy_read file new (decimal n) chosen.text named.text strict why (plain file h) (plain new k) (checked n MIN_SECTORS MAX_SECTORS (decimal n) sectors) chosen.fits named.fits in
    let held = read.holds in
    let meant : IsReadAs (codes "copy" ∷ file ∷ new ∷ codes "--sectors" ∷ decimal n ∷ option_words (codes "--format") chosen.text ++ option_words (codes "--id") named.text ++ flag_words (codes "--strict") strict ++ flag_words (codes "--why") why) (copy file new n version identity strict) why =
    (((read.rows, read.met, (held.0, held.1, (decimal n, held.2, sectors.spells), chosen.held read.rows held.3 held.4, named.held read.rows held.5, held.6)), (read.rows, read.met, held.7)), read.taken) in
    rw row (rw chosen.is (rw named.is meant))
read_as_row (upgrade file version identity strict) why words range (h, formats, identities, v, d, row) =
    let chosen = optional (codes "--format") (codes "format") 3 MIN_FORMAT MAX_FORMAT version formats (λ one. range.0) range.1 (omega arith) v in
    let named = identity_found identity identities d in
    let read = upgrade_read file chosen.text named.text strict why (plain file h) chosen.fits named.fits in
    let held = read.holds in
    let meant : IsReadAs (codes "upgrade" ∷ file ∷ option_words (codes "--format") chosen.text ++ option_words (codes "--id") named.text ++ flag_words (codes "--strict") strict ++ flag_words (codes "--why") why) (upgrade file version identity strict) why =
    (((read.rows, read.met, (held.0, chosen.held read.rows held.1 held.2, named.held read.rows held.3, held.4)), (read.rows, read.met, held.5)), read.taken) in
    rw row (rw chosen.is (rw named.is meant))
read_as_row (mem n version history) why words range (formats, histories, v, given, row, asks) =
    let sectors = number n MIN_SECTORS MAX_MEMORY_SECTORS (decimal n) range.0.0 range.0.1 (omega arith) refl in
    let chosen = optional (codes "--format") (codes "format") 2 MIN_FORMAT MAX_FORMAT version formats (λ one. range.1.0) range.1.1 (omega arith) v in
    let found = history_found history histories range.2 given in
    let read = mem_read (decimal n) chosen.text found.text (checked n MIN_SECTORS MAX_MEMORY_SECTORS (decimal n) sectors) chosen.fits found.fits in
    let held = read.holds in
    let meant : IsReadAs (codes "mem" ∷ codes "--sectors" ∷ decimal n ∷ option_words (codes "--format") chosen.text ++ option_words (codes "--history") found.text) (mem n version history) false =
    (((read.rows, read.met, ((decimal n, held.0, sectors.spells), chosen.held read.rows held.1 held.2, found.held read.rows held.3 held.4)), (read.rows, read.met, refl)), read.taken) in
    rw asks (rw row (rw chosen.is (rw found.is meant)))
read_as_row (deep file) why words range row =
    let read = deep_read file why (plain file row.0) in
    let held = read.holds in
    let meant : IsReadAs (codes "check" ∷ file ∷ codes "--deep" ∷ flag_words (codes "--why") why) (deep file) why =
    (((read.rows, read.met, (held.0, held.1)), (read.rows, read.met, held.2)), read.taken) in
    rw row.1 meant
read_as_row (salvage file frames) why words range row =
    let read = salvage_read file frames why (plain file row.0) in
    let held = read.holds in
    let meant : IsReadAs (codes "salvage" ∷ file ∷ flag_words (codes "--frames") frames ++ flag_words (codes "--why") why) (salvage file frames) why =
    (((read.rows, read.met, (held.0, held.1)), (read.rows, read.met, held.2)), read.taken) in
    rw row.1 meant
read_as_row (dump file strict) why words range row =
    let read = dump_read file strict why (plain file row.0) in
    let held = read.holds in
    let meant : IsReadAs (codes "dump" ∷ file ∷ codes "--read-only" ∷ flag_words (codes "--strict") strict ++ flag_words (codes "--why") why) (dump file strict) why =
    (((read.rows, read.met, (held.0, held.1, held.2)), (read.rows, read.met, held.3)), read.taken) in
    rw row.1 meant

-- what is known of an `Ok`
pub of_ok : {A E : Type 0} (r : Result A E) (P R : A → Type 0) → IfOk r P → ((a : A) → P a → R a) → IfOk r R
of_ok (Ok a) P R h f = f a h
of_ok (Err e) P R h f = tt

-- what is known of an `Ok` and of an `Err`
pub both_ways : {A E : Type 0} (r : Result A E) (P R : A → Type 0) (Q S : E → Type 0) → IfOk r P → ((a : A) → P a → R a) → IfErr r Q → ((e : E) → Q e → S e) → MatchResult r R S
both_ways (Ok a) P R Q S h f k g = f a h
both_ways (Err e) P R Q S h f k g = g e k

-- of which kind an `Err` is
pub of_err : {A : Type 0} (r : Result A Error) (kinds : Kinds) → FailsBy kinds r → IfErr r (HasKind kinds)
of_err (Ok a) kinds h = tt
of_err (Err e) kinds h = h
