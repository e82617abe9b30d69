-- What a parse reads of the words of a command: its rules, its numbers, and a walk over a file and options.
use Rattle.std.proofs.Common.{◌≡◌, ℕ, List, [], ◌∷◌, Option, Some, None, refl, true, false, eqb, sym, ◌≤◌, ◌<◌, ◌^◌, ap, ◌∙◌, subst, Bool, length, get_or, decimal, cond, arith, find, unwrap_or, suc, zero}
use Rattle.std.specs.List.{list_all}
use Rattle.std.specs.Str.Parse.{IsNumeral, digits_value, without_leading_plus}
use Rattle.std.proofs.lemmas.Fmt.{decimal_digit, decimal_nonempty, first_decimal, decimal_is_IsNumeral}
use Rattle.std.proofs.lemmas.Bool.{ne_eqb}
use Rattle.clap.specs.Simple.{argument_words, built, label_of, names_of}
use Rattle.clap.specs.Takes.{default_passes, is_valid, level_passes, settle_passes, step_passes, turn_passes, walk_passes}
use Rattle.clap.specs.ValueTests.{accepts}
use Rattle.clap.specs.Walk.{Walk, answers_to, arg_by_id, arg_by_index, finished, idle, nothing_held, option, option_word, to_positional, value, walk, walk_from, walked}
use Rattle.clap.specs.Words.{App, Row, Shape, Text, is_simple, is_simple_and_free, new_app, subcommand_of, takes, Accepts}
use Rattle.clap.specs.declared.builder.value_parser.Reading.TheVariants.{AsWritten}
use Rattle.clap.specs.declared.builder.value_parser.ValueParser.TheVariants.{Unsigned}
use Rattle.clap.specs.declared.parser.matches.ValueSource.TheVariants.{CommandLine, DefaultValue}
use Rattle.clap.proofs.ValueTestLemmas.{Accepts-accepts}
use Rattle.command_line.proofs.Walks.{IsPlain, Steps, Goes, held, standing, plain_passes, plain_stands, value_passes, value_stands}
use Rattle.command_line.specs.Call.{IsNoOption}
use Rattle.command_line.specs.Options.{app, Spells, flag_text}

pub simple : is_simple app ≡ true
simple = refl

pub simple_and_free : is_simple_and_free app ≡ true
simple_and_free = refl

-- what is found for an argument with one text
abbrev pub given : Text → Text → Row
given id text = record { id = id; values = text ∷ []; count = None; source = Some CommandLine; reading = AsWritten }

-- what is found for a flag
abbrev pub flag_row : Text → Bool → Row
flag_row id set = record { id = id; values = flag_text set ∷ []; count = None; source = Some (cond set CommandLine DefaultValue); reading = AsWritten }

pub plain : (word : Text) → IsNoOption word → IsPlain word
plain [] h = record { flag = refl; rest = refl }
plain (b ∷ text) h =
    let e : eqb b 45 ≡ false = ne_eqb b 45 h in
    record { flag = simp e; rest = simp e }

-- ---- numbers

-- a word that spells a number in range
pub record IsNumber (n : ℕ) (least : ℕ) (most : ℕ) (word : Text) : Type 0 where
  pub plain : IsPlain word
  pub spells : Spells word n
  pub accepted : Accepts false (Unsigned least most) word

-- a text that an option's number may be
abbrev pub IsChecked : ℕ → ℕ → Text → Type 0
IsChecked least most text = IsPlain text × (accepts false (Unsigned least most) text ≡ true)

-- a number's first digit in decimal
first_digit : (n : ℕ) → n < 2 ^ 64 → 48 ≤ get_or (decimal n) 0 0
first_digit zero short = let none : get_or (decimal 0) 0 0 ≡ 48 = ap (λ t. get_or t 0 0) (decimal_digit 0 (omega arith)) in omega (arith, none)
first_digit (suc n) short = let first = first_decimal (suc n) (omega arith) short in omega (arith, first)

pub number : (n least most : ℕ) (word : Text) → least ≤ n → n ≤ most → most < 2 ^ 64 → word ≡ decimal n → IsNumber n least most word
number n least most [] low high short e = absurd (let none = ap length e in let long = decimal_nonempty n (omega arith) in omega arith)
number n least most (b ∷ text) low high short e =
    let first = first_digit n (omega arith) in
    let same : b ≡ get_or (decimal n) 0 0 = ap (λ t. get_or t 0 0) e in
    let numeral = decimal_is_IsNumeral n (omega arith) in
    let digits : IsNumeral 10 (b ∷ text) = subst (IsNumeral 10) (sym e) numeral.0 in
    let value : digits_value 10 (b ∷ text) ≡ n = ap (digits_value 10) e ∙ numeral.1 in
    let no_plus : eqb b 43 ≡ false = ne_eqb b 43 (λ q. omega arith) in
    let bare : without_leading_plus (b ∷ text) ≡ b ∷ text = simp no_plus in
    record {
      plain = plain (b ∷ text) (λ q. omega arith);
      spells = rw bare (digits, value);
      accepted = rw bare (digits, omega arith, omega arith, omega arith);
    }

pub checked : (n least most : ℕ) (word : Text) → IsNumber n least most word → IsChecked least most word
checked n least most word read = (read.plain, Accepts-accepts false (Unsigned least most) word read.accepted)

-- ---- what a walk reads

-- the commands as a parse has them
abbrev pub built_for : Text → Shape
built_for name = unwrap_or (find (λ s. answers_to name (label_of s)) (built app).subs) (new_app []).top

-- a parse passes where the command that it enters does, which passes where its walk does, to an end that does
passes_by : (a : App) (words rest : List Text) (name : Text) (s : Shape) (end : Walk) → is_simple a ≡ true
    → (walk (built a).top.rules (names_of (built a)) nothing_held (argument_words a words)).stopped ≡ Some (name, rest)
    → find (λ (t : Shape). answers_to name (label_of t)) (built a).subs ≡ Some s
    → level_passes (built a).top (names_of (built a)) nothing_held (argument_words a words) true ≡ true
    → walk s.rules [] nothing_held rest ≡ end
    → walk_passes s [] (walk_from nothing_held) rest ≡ true
    → settle_passes s.rules s.args_override_self end.held ≡ true
    → list_all default_passes s.rules ≡ true
    → is_valid s (finished s.rules end.held) false ≡ true
    → takes a words ≡ true
passes_by a words rest name s end plain stop found top walked passes settled defaults valid =
    rw plain (rw stop (rw found (rw top (rw walked (rw passes (rw settled (rw defaults (rw valid refl))))))))

-- a parse enters the command that it meets, with what the walk over its words found
met_by : (a : App) (words rest : List Text) (name : Text) (s : Shape) (end : Walk)
    → (walk (built a).top.rules (names_of (built a)) nothing_held (argument_words a words)).stopped ≡ Some (name, rest)
    → find (λ (t : Shape). answers_to name (label_of t)) (built a).subs ≡ Some s
    → walk s.rules [] nothing_held rest ≡ end
    → subcommand_of a words ≡ Some (s.name, finished s.rules end.held)
met_by a words rest name s end stop found walked = rw stop (rw found (rw walked refl))

-- the words of a command are taken, with what the walk over them found
pub read_by : (rest : List Text) (name : Text) (s : Shape) (end : Walk)
    → (walk (built app).top.rules (names_of (built app)) nothing_held (name ∷ rest)).stopped ≡ Some (name, rest)
    → find (λ (t : Shape). answers_to name (label_of t)) (built app).subs ≡ Some s
    → level_passes (built app).top (names_of (built app)) nothing_held (name ∷ rest) true ≡ true
    → Goes s (walk_from nothing_held) rest end
    → settle_passes s.rules s.args_override_self end.held ≡ true
    → list_all default_passes s.rules ≡ true
    → is_valid s (finished s.rules end.held) false ≡ true
    → (subcommand_of app (name ∷ rest) ≡ Some (s.name, finished s.rules end.held)) × (takes app (name ∷ rest) ≡ true)
read_by rest name s end stop found top walked settled defaults valid = (
  met_by app (name ∷ rest) rest name s end stop found walked.ends,
  passes_by app (name ∷ rest) rest name s end simple stop found top walked.ends walked.passes settled defaults valid,
)

-- an option, of which there may be none, by its words
abbrev pub option_words : Text → Option Text → List Text
option_words flag (Some text) = flag ∷ text ∷ []
option_words flag None = []

-- a walk takes a word, to what it then is
pub met : (s : Shape) (w : Walk) (word : Text) → turn_passes s [] w word ≡ true → Steps s w word (walked s.rules [] w word)
met s w word passes = record { passes = passes; stands = refl }

-- the same of a word of an argument without a flag, and of the text of an option
pub plain_step : (s : Shape) (pending : Option (Text × List Text)) (position : ℕ) (word : Text) → IsPlain word → step_passes s position (held [] pending) value ≡ true
    → Steps s (standing [] pending idle position) word (to_positional s.rules (arg_by_index s.rules position) word (standing [] pending idle position) (held [] pending))
plain_step s pending position word h passes = record { passes = plain_passes s [] pending position word h ∙ passes; stands = plain_stands s [] pending position word h }

pub value_step : (s : Shape) (rows : List Row) (id : Text) (position : ℕ) (word : Text) → IsPlain word
    → Steps s (standing rows (Some (id, [])) (option id) position) word
    (record (standing rows (Some (id, [])) (option id) position) { held = (option_word (arg_by_id s.rules id) id word (held rows (Some (id, [])))).0; waiting = (option_word (arg_by_id s.rules id) id word (held rows (Some (id, [])))).1 })
value_step s rows id position word h = record { passes = value_passes s rows (Some (id, [])) id position word h; stands = value_stands s rows (Some (id, [])) id position word h }

-- the words of a command are taken, with what is found for its arguments
pub record Read (words : List Text) (name : Text) (Found : List Row → Type 0) : Type 0 where
  pub rows : List Row
  pub met : subcommand_of app words ≡ Some (name, rows)
  pub taken : takes app words ≡ true
  pub holds : Found rows
