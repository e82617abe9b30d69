-- Calls: what one asks for, in which range its numbers are, and which words are its row.
use Rattle.std.specs.Prelude.{◌≡◌, ◌≢◌, ◌≤◌, ◌⊎◌, ℕ, Bool, false, if◌then◌else◌, IfSome, Option, None, Some, Ok, List, [], ◌∷◌, ◌++◌, codes, decimal, get_or}
use Rattle.std.specs.Str.Parse.{IsNumeral, digits_value, without_leading_plus}
use Rattle.std.specs.Int.{w128, from_be_bytes}
use Rattle.hex.specs.Hex.{decode_sized}
use Rattle.command_line.specs.declared.call.Call.{Call}
use Rattle.command_line.specs.Sizes.{SpellsSize}
use Rattle.command_line.specs.declared.call.Call.TheVariants.{Format, Fresh, Serve, Check, Repair, Copy, Upgrade, Mem, Deep, Salvage, Dump}
use Rattle.command_line.specs.declared.limits.TheConstants.{MIN_SECTORS, MAX_SECTORS, MAX_MEMORY_SECTORS, MIN_FORMAT, MAX_FORMAT, MAX_BATCH, MAX_PUMP, MAX_HISTORY, HISTORY, MAX_MODE, NEW_SECTORS, OWNER_ALONE}

-- A call, with the names of its files as texts. Making a file, with its sectors, its format and its mode, whether its blocks are left to be allocated as
-- they are written, and its identity if that isn't to be drawn. Making one in format 3, with its sectors and its identity. Serving, with the most changes of one commit, the sectors that a step of a copy writes after a change, of which 0 are none, the bytes of the newest transactions that are kept, of which 0 keep none, and whether a store whose last commit may be lost is
-- refused, as each call that opens a store has it. Copying a file to a new one, with its sectors, its format if it isn't to be the file's, and its identity. Bringing a file to a format, with an identity.
-- Serving a store in memory, with its sectors, its format and the bytes of the newest transactions. Reading all of a file. Salvaging, the documents or else the frames. Dumping a file that is only read.
pub data Asked : Type 0 where
  format : List ℕ → ℕ → ℕ → ℕ → Bool → Option ℕ → Asked
  fresh : List ℕ → ℕ → Option ℕ → Asked
  serve : List ℕ → ℕ → ℕ → ℕ → Bool → Asked
  check : List ℕ → Bool → Asked
  repair : List ℕ → Asked
  copy : List ℕ → List ℕ → ℕ → Option ℕ → Option ℕ → Bool → Asked
  upgrade : List ℕ → ℕ → Option ℕ → Bool → Asked
  mem : ℕ → ℕ → ℕ → Asked
  deep : List ℕ → Asked
  salvage : List ℕ → Bool → Asked
  dump : List ℕ → Bool → Asked

abbrev pub asked_of : Call → Asked
asked_of (Format file sectors version mode sparse identity) = format file.now sectors version mode sparse identity
asked_of (Fresh file sectors identity) = fresh file.now sectors identity
asked_of (Serve file batch pump history strict) = serve file.now batch pump history strict
asked_of (Check file strict) = check file.now strict
asked_of (Repair file) = repair file.now
asked_of (Copy file new sectors version identity strict) = copy file.now new.now sectors version identity strict
asked_of (Upgrade file version identity strict) = upgrade file.now version identity strict
asked_of (Mem sectors version history) = mem sectors version history
asked_of (Deep file) = deep file.now
asked_of (Salvage file frames) = salvage file.now frames
asked_of (Dump file strict) = dump file.now strict

-- there is such a format
abbrev pub IsFormatNumber : ℕ → Type 0
IsFormatNumber version = (MIN_FORMAT ≤ version) × (version ≤ MAX_FORMAT)

-- each number lies in the range of its option
abbrev pub InRange : Asked → Type 0
InRange (format file sectors version mode sparse identity) =
    ((MIN_SECTORS ≤ sectors) × (sectors ≤ MAX_SECTORS)) × IsFormatNumber version × (mode ≤ MAX_MODE)
InRange (fresh file sectors identity) = (MIN_SECTORS ≤ sectors) × (sectors ≤ MAX_SECTORS)
InRange (serve file batch pump history strict) = ((1 ≤ batch) × (batch ≤ MAX_BATCH)) × (pump ≤ MAX_PUMP) × (history ≤ MAX_HISTORY)
InRange (check file strict) = Unit {0}
InRange (repair file) = Unit {0}
InRange (copy file new sectors version identity strict) = ((MIN_SECTORS ≤ sectors) × (sectors ≤ MAX_SECTORS)) × IfSome version IsFormatNumber
InRange (upgrade file version identity strict) = IsFormatNumber version
InRange (mem sectors version history) = ((MIN_SECTORS ≤ sectors) × (sectors ≤ MAX_MEMORY_SECTORS)) × IsFormatNumber version × (history ≤ MAX_HISTORY)
InRange (deep file) = Unit {0}
InRange (salvage file frames) = Unit {0}
InRange (dump file strict) = Unit {0}

-- the text doesn't begin with a hyphen (45), by which a word is an option's
abbrev pub IsNoOption : List ℕ → Type 0
IsNoOption text = get_or text 0 0 ≢ 45

-- the words give the option this number, which is 1 at least, in plain decimal; or there are none, which give it its default
abbrev pub IsGiven : List ℕ → ℕ → ℕ → List (List ℕ) → Type 0
IsGiven option default n words = ((1 ≤ n) × (words ≡ option ∷ decimal n ∷ [])) ⊎ ((n ≡ default) × (words ≡ []))

-- the words ask for the format in plain decimal; or there are none, and they ask for none
abbrev pub IsFormatAsked : Option ℕ → List (List ℕ) → Type 0
IsFormatAsked None words = words ≡ []
IsFormatAsked (Some version) words = words ≡ codes "--format" ∷ decimal version ∷ []

-- the words give the bytes of the newest transactions in plain decimal; or there are none, and it is the default
abbrev pub IsHistoryGiven : ℕ → List (List ℕ) → Type 0
IsHistoryGiven n words = (words ≡ codes "--history" ∷ decimal n ∷ []) ⊎ ((n ≡ HISTORY) × (words ≡ []))

-- the words give the size of a file, and it needs these sectors; or there are none, and it is 16 MiB
abbrev pub IsSizeGiven : ℕ → List (List ℕ) → Type 0
IsSizeGiven sectors words =
    ((text : List ℕ) × IsNoOption text × SpellsSize text sectors × (words ≡ codes "--size" ∷ text ∷ [])) ⊎ ((sectors ≡ NEW_SECTORS) × (words ≡ []))

-- the text spells the mode in octal, with or without a plus in front
abbrev pub SpellsMode : List ℕ → ℕ → Type 0
SpellsMode text mode = IsNumeral 8 (without_leading_plus text) × (digits_value 8 (without_leading_plus text) ≡ mode)

-- the words give the mode, in octal; or there are none, and it is that of a file that its owner alone may read and write
abbrev pub IsModeGiven : ℕ → List (List ℕ) → Type 0
IsModeGiven mode words =
    ((text : List ℕ) × IsNoOption text × SpellsMode text mode × (words ≡ codes "--mode" ∷ text ∷ [])) ⊎ ((mode ≡ OWNER_ALONE) × (words ≡ []))

-- the text spells the identity: its 16 bytes by 32 hexadecimal digits
abbrev pub SpellsIdentity : List ℕ → ℕ → Type 0
SpellsIdentity text identity = (bytes : List ℕ) × (decode_sized text 16 ≡ Ok bytes) × (from_be_bytes w128 bytes ≡ identity)

-- the words give the identity by such a text; or there are none, and it is left to be drawn
abbrev pub IsIdentityGiven : Option ℕ → List (List ℕ) → Type 0
IsIdentityGiven None words = words ≡ []
IsIdentityGiven (Some identity) words = (text : List ℕ) × IsNoOption text × SpellsIdentity text identity × (words ≡ codes "--id" ∷ text ∷ [])

-- what two options are given, in either order
abbrev pub InEitherOrder : List (List ℕ) → List (List ℕ) → List (List ℕ) → Type 0
InEitherOrder one other words = (words ≡ one ++ other) ⊎ (words ≡ other ++ one)

-- the flag's word if it is set
abbrev pub flag_words : List ℕ → Bool → List (List ℕ)
flag_words flag set = if set then flag ∷ [] else []

-- the words ask for the call, and by a last flag why a file isn't made or opened, each option once at most, a flag after the other options, each number in plain
-- decimal, and each file by a word that is no option
abbrev pub IsRowOf : List (List ℕ) → Asked → Bool → Type 0
IsRowOf words (format file sectors version mode sparse identity) why =
    IsNoOption file × (formats modes identities : List (List ℕ)) × IsGiven (codes "--format") 2 version formats × IsModeGiven mode modes × IsIdentityGiven identity identities
    × (words ≡ codes "format" ∷ file ∷ codes "--sectors" ∷ decimal sectors ∷ formats ++ modes ++ identities ++ flag_words (codes "--sparse") sparse ++ flag_words (codes "--why") why)
IsRowOf words (fresh file sectors identity) why =
    IsNoOption file × (sizes identities : List (List ℕ)) × IsSizeGiven sectors sizes × IsIdentityGiven identity identities
    × (words ≡ codes "new" ∷ file ∷ sizes ++ identities ++ flag_words (codes "--why") why)
IsRowOf words (serve file batch pump history strict) why =
    IsNoOption file × (batches pumps options histories : List (List ℕ)) × IsGiven (codes "--batch") 1 batch batches
    × IsGiven (codes "--pump") 0 pump pumps × InEitherOrder batches pumps options × IsHistoryGiven history histories
    × (words ≡ codes "serve" ∷ file ∷ options ++ histories ++ flag_words (codes "--strict") strict ++ flag_words (codes "--why") why)
IsRowOf words (check file strict) why = IsNoOption file × (words ≡ codes "check" ∷ file ∷ flag_words (codes "--strict") strict ++ flag_words (codes "--why") why)
IsRowOf words (repair file) why = IsNoOption file × (words ≡ codes "repair" ∷ file ∷ flag_words (codes "--why") why)
IsRowOf words (copy file new sectors version identity strict) why =
    IsNoOption file × IsNoOption new × (formats identities : List (List ℕ)) × IsFormatAsked version formats × IsIdentityGiven identity identities
    × (words ≡ codes "copy" ∷ file ∷ new ∷ codes "--sectors" ∷ decimal sectors ∷ formats ++ identities ++ flag_words (codes "--strict") strict ++ flag_words (codes "--why") why)
IsRowOf words (upgrade file version identity strict) why =
    IsNoOption file × (formats identities : List (List ℕ)) × IsGiven (codes "--format") 3 version formats × IsIdentityGiven identity identities
    × (words ≡ codes "upgrade" ∷ file ∷ formats ++ identities ++ flag_words (codes "--strict") strict ++ flag_words (codes "--why") why)
IsRowOf words (mem sectors version history) why =
    (formats histories : List (List ℕ)) × IsGiven (codes "--format") 2 version formats × IsHistoryGiven history histories
    × (words ≡ codes "mem" ∷ codes "--sectors" ∷ decimal sectors ∷ formats ++ histories) × (why ≡ false)
IsRowOf words (deep file) why = IsNoOption file × (words ≡ codes "check" ∷ file ∷ codes "--deep" ∷ flag_words (codes "--why") why)
IsRowOf words (salvage file frames) why =
    IsNoOption file × (words ≡ codes "salvage" ∷ file ∷ flag_words (codes "--frames") frames ++ flag_words (codes "--why") why)
IsRowOf words (dump file strict) why = IsNoOption file × (words ≡ codes "dump" ∷ file ∷ codes "--read-only" ∷ flag_words (codes "--strict") strict ++ flag_words (codes "--why") why)
