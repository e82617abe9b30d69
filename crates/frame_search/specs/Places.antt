-- The places of bytes at which there are frames. Other bytes may be damaged.
use Rattle.std.specs.Prelude.{◌≡◌, ◌≢◌, ◌≤◌, ◌<◌, ◌+◌, ◌%◌, ◌^◌, ℕ, List, Option, Some, None, [], ◌∷◌, length, drop, take, nat_eq, if◌then◌else◌}
use Rattle.std.specs.List.{AllByRecursion}
use Rattle.record_text.specs.Change.{change_of}
use Rattle.record_text.specs.Fault.{stated_len}
use Rattle.record_text.specs.Frame.{IsEntry, entry, frame_in}
use Rattle.log_frames.specs.Fault.{stated_code}
use Rattle.log_frames.specs.Kinds.{Logged, frame_as, logged}
use Rattle.log_frames.specs.declared.kind.Kind.TheVariants.{Last}
use Rattle.frame_search.specs.declared.search.Found.{Found}

-- the formats of frames
pub record IsFrameFormat (version : ℕ) : Type 0 where
  pub at_least : 1 ≤ version
  pub at_most : version ≤ 3

-- how many bytes of a frame come before its body
abbrev pub head_of : ℕ → ℕ
head_of version = if nat_eq version 1 then 4 else 12

-- the length of the body that the number in the first 4 bytes states
abbrev pub length_of : ℕ → ℕ → ℕ
length_of version stated = if nat_eq version 3 then stated % 2 ^ 24 else stated

abbrev pub length_in : ℕ → List ℕ → ℕ
length_in version bytes = length_of version (stated_len bytes)

-- a body that begins with a brace (123), and no byte of which is a control character's
pub record IsPlainBody (body : List ℕ) : Type 0 where
  pub opens : take 1 body ≡ 123 ∷ []
  pub clean : AllByRecursion (λ b. 32 ≤ b) body

-- bytes that begin with a head and the plain body that it states; in format 3 the head states a kind
pub record IsPlain (version : ℕ) (bytes : List ℕ) : Type 0 where
  pub headed : head_of version ≤ length bytes
  pub known : version ≡ 3 → stated_code bytes ≤ 3
  pub small : length_in version bytes ≤ 4194304
  pub whole : head_of version + length_in version bytes ≤ length bytes
  pub plain : IsPlainBody (take (length_in version bytes) (drop (head_of version) bytes))

-- the frame of this in that format: formats 1 and 2 don't say what it holds
abbrev pub frame_with : ℕ → Logged → List ℕ
frame_with version l = if nat_eq version 3 then frame_as l else frame_in version l.entry

-- the first n of the bytes are the frame of this in that format, which can be read; in formats 1 and 2 each change is the last of its transaction, and in format 1, in which frames have no seq, the entry has seq 0
pub record Begins (version : ℕ) (bytes : List ℕ) (l : Logged) (n : ℕ) : Type 0 where
  pub framed : IsEntry version l.entry
  pub dated : version ≡ 1 → l.entry.seq ≡ 0
  pub kind_is : version ≢ 3 → l.kind ≡ Last
  pub frame : take n bytes ≡ frame_with version l
  pub len : n ≡ length (frame_with version l)

-- at that place of the bytes is the frame of this, n bytes long, with a plain body
pub record StandsAt (version : ℕ) (bytes : List ℕ) (at : ℕ) (l : Logged) (n : ℕ) : Type 0 where
  pub inside : at < length bytes
  pub begins : Begins version (drop at bytes) l n
  pub plain : IsPlain version (drop at bytes)

-- from that place on there is no frame before the place `end`
abbrev pub IsFirstFrom : ℕ → List ℕ → ℕ → ℕ → Type 0
IsFirstFrom version bytes from end = (at : ℕ) → from ≤ at → at < end → (l : Logged) (n : ℕ) → StandsAt version bytes at l n → ⊥

-- what a frame holds that was found
abbrev pub logged_in : Found → Logged
logged_in found = logged found.kind (entry found.seq (change_of found.command))

-- the place of one, or if there is none that one
abbrev pub place_in : Option Found → ℕ → ℕ
place_in (Some found) none = found.at
place_in None none = none
