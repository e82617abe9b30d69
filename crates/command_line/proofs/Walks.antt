-- A walk over the words behind a command, a word at a time.
use Rattle.std.proofs.Common.{◌≡◌, ◌∙◌, ℕ, List, [], ◌∷◌, Option, None, Bool, true, false, ◌&&◌, refl, sym, ap, subst}
use Rattle.std.specs.Prelude.{fold}
use Rattle.std.specs.Str.{bytes_eq}
use Rattle.clap.specs.Lexer.{strip_byte}
use Rattle.clap.specs.Takes.{step_passes, turn_passes, walk_passes}
use Rattle.clap.specs.Walk.{Held, Waiting, Walk, arg_by_id, arg_by_index, idle, option, option_word, to_positional, value, walked}
use Rattle.clap.specs.Words.{Row, Shape, Text}

-- a word that a walk takes for no flag
pub record IsPlain (word : Text) : Type 0 where
  pub flag : strip_byte 45 word ≡ None
  pub rest : bytes_eq word (45 ∷ 45 ∷ []) ≡ false

-- the walk takes the word, and stands there behind it
pub record Steps (s : Shape) (w : Walk) (word : Text) (v : Walk) : Type 0 where
  pub passes : turn_passes s [] w word ≡ true
  pub stands : walked s.rules [] w word ≡ v

-- the walk takes the words, and ends there
pub record Goes (s : Shape) (w : Walk) (words : List Text) (end : Walk) : Type 0 where
  pub passes : walk_passes s [] w words ≡ true
  pub ends : fold (walked s.rules []) w words ≡ end

and_true : (a b : Bool) → a ≡ true → b ≡ true → (a && b) ≡ true
and_true a b e f = rw e f

pub gone : (s : Shape) (w : Walk) → Goes s w [] w
unfolding walk_passes
gone s w = record { passes = refl; ends = refl }

pub goes : {s : Shape} {w v end : Walk} {word : Text} {words : List Text} → Steps s w word v → Goes s v words end → Goes s w (word ∷ words) end
unfolding walk_passes
goes {s = s} {w = w} {v = v} {end = end} {word = word} {words = words} step later = record {
  passes = and_true (turn_passes s [] w word) _ step.passes (subst (λ x. walk_passes s [] x words ≡ true) (sym step.stands) later.passes);
  ends = ap (λ x. fold (walked s.rules []) x words) step.stands ∙ later.ends;
}

abbrev pub held : List Row → Option (Text × List Text) → Held
held rows pending = record { rows = rows; pending = pending; skip = 0 }

-- a walk between two words
abbrev pub standing : List Row → Option (Text × List Text) → Waiting → ℕ → Walk
standing rows pending waiting position = record { held = held rows pending; waiting = waiting; position = position; is_trailing = false; stopped = None }

-- ---- a word that is no flag, where nothing waits for a value

pub plain_passes : (s : Shape) (rows : List Row) (pending : Option (Text × List Text)) (position : ℕ) (word : Text) → IsPlain word
    → turn_passes s [] (standing rows pending idle position) word ≡ step_passes s position (held rows pending) value
plain_passes s rows pending position word h =
    let e = h.flag in
    let f = h.rest in
    simp e (simp f)

pub plain_stands : (s : Shape) (rows : List Row) (pending : Option (Text × List Text)) (position : ℕ) (word : Text) → IsPlain word
    → walked s.rules [] (standing rows pending idle position) word ≡ to_positional s.rules (arg_by_index s.rules position) word (standing rows pending idle position) (held rows pending)
unfolding walked
plain_stands s rows pending position word h =
    let e = h.flag in
    let f = h.rest in
    simp e (simp f)

-- ---- one that an option waits for

pub value_passes : (s : Shape) (rows : List Row) (pending : Option (Text × List Text)) (id : Text) (position : ℕ) (word : Text) → IsPlain word
    → turn_passes s [] (standing rows pending (option id) position) word ≡ true
value_passes s rows pending id position word h =
    let e = h.flag in
    let f = h.rest in
    simp e (simp f)

pub value_stands : (s : Shape) (rows : List Row) (pending : Option (Text × List Text)) (id : Text) (position : ℕ) (word : Text) → IsPlain word
    → walked s.rules [] (standing rows pending (option id) position) word
    ≡ record (standing rows pending (option id) position) { held = (option_word (arg_by_id s.rules id) id word (held rows pending)).0; waiting = (option_word (arg_by_id s.rules id) id word (held rows pending)).1 }
unfolding walked
value_stands s rows pending id position word h =
    let e = h.flag in
    let f = h.rest in
    simp e (simp f)
