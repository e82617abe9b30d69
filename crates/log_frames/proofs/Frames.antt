-- Frames are told apart, and bytes that begin with one have no fault.
use Rattle.std.proofs.Common.{◌≡◌, ◌⊎◌, ℕ, zero, suc, ◌+◌, ◌/◌, ◌%◌, ◌<◌, ◌≤◌, ◌^◌, List, [], ◌∷◌, ◌++◌, append_assoc, get_or, Fits, w8, length, take, drop, map, set, refl, sym, ap, ap₂, ◌∙◌, subst, arith, inl, inr, Result, Ok, Err, IfOk, IfErr, MatchResult}
use Rattle.std.specs.Prelude.{⊤}
use Rattle.std.proofs.lemmas.List.{take-append-drop, length-append, length-take-le, length-drop, drop-drop}
use Rattle.std.proofs.lemmas.Nat.{be_bytes_4, be_bytes_8, from_be_bytes-to_be_bytes_8}
use Rattle.std.proofs.Math.Seq.{take-append_seam, drop-append_seam, take-add}
use Rattle.std.specs.Int.{w32, w64, to_be_bytes, from_be_bytes}
use Rattle.record_text.specs.Change.{Change, change_of, object_of}
use Rattle.record_text.specs.Fault.{IsTextOf, stated_seq}
use Rattle.record_text.specs.Frame.{AreEntries, Entry, IsEntry, IsFramed, entry, body_of, frame_of, frames_in}
use Rattle.record_text.specs.declared.command.Command.{Command}
use Rattle.record_text.specs.declared.fault.RecordFault.{RecordFault}
use Rattle.record_text.specs.declared.fault.RecordFault.TheVariants.{Short, Long, Text, Shape, Memory}
use Rattle.record_text.proofs.Frames.{IsTextOf-body_of, body_of-injective, one_text}
use Rattle.record_text.proofs.Objects.{height-object_of}
use Rattle.log_frames.specs.Fault.{AreStated, IsFaultAs, stated_bytes, stated_code, stated_length}
use Rattle.log_frames.specs.Kinds.{BeginsAs, Logged, code_of, frame_as, frames_as, logged}
use Rattle.log_frames.specs.Log.{entries_in_frames, notes_in_frames}
use Rattle.log_frames.specs.declared.kind.Kind.{Kind}
use Rattle.log_frames.specs.declared.kind.Kind.TheVariants.{Last, More, Kept, Noted}
use Rattle.log_frames.proofs.Heads.{both, code_of-small, code_of-injective, code_read, head_bytes, length_read, split}

-- ---- frames of format 2

no_code : (n : ℕ) → both 0 n ≡ n
no_code n = omega arith

pub frame_as-last : (e : Entry) → frame_as (logged Last e) ≡ frame_of e
frame_as-last e = ap (λ (n : ℕ). to_be_bytes w32 n ++ (to_be_bytes w64 e.seq ++ body_of e.change)) (no_code (length (body_of e.change)))

-- the kind takes the place of the first byte
pub frame_as-set : (k : Kind) (e : Entry) → length (body_of e.change) ≤ 4194304 → set (frame_of e) 0 (code_of k) ≡ frame_as (logged k e)
frame_as-set k e small =
    let code = code_of-small k in
    ap (λ head. head ++ (to_be_bytes w64 e.seq ++ body_of e.change)) (head_bytes (code_of k) (length (body_of e.change)) (omega (arith, code)) (omega (arith, small)))

-- ---- what a frame states

pub record States (bytes : List ℕ) (l : Logged) : Type 0 where
  pub code : stated_code bytes ≡ code_of l.kind
  pub len : stated_length bytes ≡ length (body_of l.entry.change)
  pub body : stated_bytes bytes ≡ body_of l.entry.change

states : (l : Logged) (x : List ℕ) → IsFramed l.entry.change → States (frame_as l ++ x) l
states l x f =
    let code = code_of-small l.kind in
    let small = f.small in
    let n = length (body_of l.entry.change) in
    let c : code_of l.kind < 256 = omega (arith, code) in
    let b : n < 2 ^ 24 = omega (arith, small) in
    let len : stated_length (frame_as l ++ x) ≡ n = length_read (code_of l.kind) n c b in
    record {
      code = code_read (code_of l.kind) n c b;
      len = len;
      body = ap (λ (k : ℕ). take k (body_of l.entry.change ++ x)) len ∙ take-append_seam (body_of l.entry.change) x;
    }

seq_stated : (l : Logged) (x : List ℕ) → l.entry.seq < 2 ^ 64 → stated_seq (frame_as l ++ x) ≡ l.entry.seq
seq_stated l x fits = from_be_bytes-to_be_bytes_8 l.entry.seq fits

-- ---- frames are told apart

entry_same : (e f : Entry) → e.seq ≡ f.seq → e.change ≡ f.change → e ≡ f
entry_same e f s c = λ i. record { seq = s i; change = c i }

logged_same : (l m : Logged) → l.kind ≡ m.kind → l.entry ≡ m.entry → l ≡ m
logged_same l m k e = λ i. record { kind = k i; entry = e i }

pub frame_as-injective : (l m : Logged) (x y : List ℕ) → IsEntry 2 l.entry → IsEntry 2 m.entry → frame_as l ++ x ≡ frame_as m ++ y → (l ≡ m) × (x ≡ y)
frame_as-injective l m x y g h is =
    let p = states l x g.framed in
    let q = states m y h.framed in
    let kind = code_of-injective l.kind m.kind (sym p.code ∙ ap stated_code is ∙ q.code) in
    let seq = sym (seq_stated l x g.seq_fits) ∙ ap stated_seq is ∙ seq_stated m y h.seq_fits in
    let change = body_of-injective l.entry.change m.entry.change g.framed h.framed (sym p.body ∙ ap stated_bytes is ∙ q.body) in
    let same : l ≡ m = logged_same l m kind (entry_same l.entry m.entry seq change) in
    (same, sym (drop-append_seam (frame_as l) x) ∙ ap (drop (length (frame_as l))) is ∙ ap (λ (a : Logged). drop (length (frame_as a)) (frame_as m ++ y)) same ∙ drop-append_seam (frame_as m) y)

-- ---- lists of frames

-- each of them can be read
abbrev AreFramed : List Logged → Type 0
AreFramed [] = ⊤
AreFramed (l ∷ ls) = IsEntry 2 l.entry × AreFramed ls

framed_by : (k : Kind) (e : Entry) (ls : List Logged) → (AreEntries 2 (entries_in_frames ls) → AreEntries 2 (notes_in_frames ls) → AreFramed ls)
    → AreEntries 2 (entries_in_frames (logged k e ∷ ls)) → AreEntries 2 (notes_in_frames (logged k e ∷ ls)) → AreFramed (logged k e ∷ ls)
framed_by Last e ls rest f g = (f.0, rest f.1 g)
framed_by More e ls rest f g = (f.0, rest f.1 g)
framed_by Kept e ls rest f g = (f.0, rest f.1 g)
framed_by Noted e ls rest f g = (g.0, rest f g.1)

are_framed : (ls : List Logged) → AreEntries 2 (entries_in_frames ls) → AreEntries 2 (notes_in_frames ls) → AreFramed ls
are_framed [] f g = tt
are_framed (l ∷ ls) f g = framed_by l.kind l.entry ls (are_framed ls) f g

same_frames : (ls ms : List Logged) → AreFramed ls → AreFramed ms → frames_as ls ≡ frames_as ms → ls ≡ ms
same_frames [] [] f g e = refl
same_frames [] (m ∷ ms) f g e = absurd (cc)
same_frames (l ∷ ls) [] f g e = absurd (cc)
same_frames (l ∷ ls) (m ∷ ms) f g e =
    let p = frame_as-injective l m (frames_as ls) (frames_as ms) f.0 g.0 e in
    ap₂ (λ (z : Logged) (zs : List Logged). z ∷ zs) p.0 (same_frames ls ms f.1 g.1 p.1)

pub frames_as-injective : (ls ms : List Logged) → AreEntries 2 (entries_in_frames ls) → AreEntries 2 (notes_in_frames ls)
    → AreEntries 2 (entries_in_frames ms) → AreEntries 2 (notes_in_frames ms) → frames_as ls ≡ frames_as ms → ls ≡ ms
frames_as-injective ls ms f n g o e = same_frames ls ms (are_framed ls f n) (are_framed ms g o) e

pub frames_as-append : (ls ms : List Logged) → frames_as (ls ++ ms) ≡ frames_as ls ++ frames_as ms
frames_as-append [] ms = refl
frames_as-append (l ∷ ls) ms =
    ap (λ rest. frame_as l ++ rest) (frames_as-append ls ms) ∙ sym (append_assoc (frame_as l) (frames_as ls) (frames_as ms))

-- the frames of format 2 are these, each the last of its transaction
pub frames_as-last : (es : List Entry) → frames_as (map (logged Last) es) ≡ frames_in 2 es
frames_as-last [] = refl
frames_as-last (e ∷ es) = ap₂ (λ (a b : List ℕ). a ++ b) (frame_as-last e) (frames_as-last es)

-- ---- bytes that begin with a frame

begun : (bytes frame : List ℕ) (n : ℕ) → take n bytes ≡ frame → bytes ≡ frame ++ drop n bytes
begun bytes frame n is = sym (take-append-drop n bytes) ∙ ap (λ front. front ++ drop n bytes) is

as_2 : (bytes : List ℕ) (l : Logged) (n : ℕ) → BeginsAs bytes l n → IsEntry 2 l.entry
as_2 bytes l n b = record { framed = b.framed; seq_fits = b.seq_fits; asks_none = λ one. absurd (omega (arith, one)) }

-- only one frame stands there
pub one_frame : (bytes : List ℕ) (l m : Logged) (n k : ℕ) → BeginsAs bytes l n → BeginsAs bytes m k → (l ≡ m) × (n ≡ k)
one_frame bytes l m n k a b =
    let is = sym (begun bytes (frame_as l) n a.frame) ∙ begun bytes (frame_as m) k b.frame in
    let same = (frame_as-injective l m (drop n bytes) (drop k bytes) (as_2 bytes l n a) (as_2 bytes m k b) is).0 in
    (same, a.len ∙ ap (λ (x : Logged). length (frame_as x)) same ∙ sym b.len)

-- ---- no fault

-- what the bytes show of a frame, of which there are enough
record Shows (bytes : List ℕ) (l : Logged) : Type 0 where
  pub states : States bytes l
  pub framed : IsFramed l.entry.change
  pub enough : 12 + length (body_of l.entry.change) ≤ length bytes

shows : (bytes : List ℕ) (l : Logged) (n : ℕ) → BeginsAs bytes l n → Shows bytes l
shows bytes l n b =
    let is = begun bytes (frame_as l) n b.frame in
    let len = ap length is ∙ length-append (frame_as l) (drop n bytes) in
    record {
      states = subst (λ bs. States bs l) (sym is) (states l (drop n bytes) b.framed);
      framed = b.framed;
      enough = omega (arith, len);
    }

text_shown : (bytes : List ℕ) (l : Logged) → Shows bytes l → IsTextOf (stated_bytes bytes) (object_of l.entry.change)
text_shown bytes l s = subst (λ bs. IsTextOf bs (object_of l.entry.change)) (sym s.states.body) (IsTextOf-body_of l.entry.change s.framed)

in_limits : (bytes : List ℕ) (l : Logged) → Shows bytes l → (3 < stated_code bytes) ⊎ (4194304 < stated_length bytes) → ⊥
in_limits bytes l s (inl h) = let code = s.states.code in let small = code_of-small l.kind in omega (arith, code, small, h)
in_limits bytes l s (inr h) = let len = s.states.len in let small = s.framed.small in omega (arith, len, small, h)

shown : (bytes : List ℕ) (l : Logged) (e : RecordFault) → Shows bytes l → IsFaultAs e bytes → e ≡ Memory
shown bytes l Short s (inl h) = let enough = s.enough in absurd (omega (arith, enough, h))
shown bytes l Short s (inr h) = let enough = s.enough in let len = s.states.len in let short = h.2 in absurd (omega (arith, enough, len, short))
shown bytes l Long s h = absurd (in_limits bytes l s h.1)
shown bytes l Text s h = absurd (h.1 (object_of l.entry.change) (text_shown bytes l s))
shown bytes l Shape s h = absurd (h.1.2 l.entry.change (one_text (stated_bytes bytes) h.1.0 (object_of l.entry.change) h.1.1 (text_shown bytes l s)))
shown bytes l Memory s h = refl

pub no_fault : (bytes : List ℕ) (l : Logged) (n : ℕ) (fault : RecordFault) → BeginsAs bytes l n → IsFaultAs fault bytes → fault ≡ Memory
no_fault bytes l n fault b h = shown bytes l fault (shows bytes l n b) h

-- ---- the parts that a head states

-- the number in the first 4 bytes
abbrev first_number : List ℕ → ℕ
first_number bytes = from_be_bytes w32 (take 4 bytes)

-- `rest` comes after a first part of n bytes
abbrev IsSplitAt : ℕ → List ℕ → List ℕ → List ℕ → Type 0
IsSplitAt n bytes first rest = (first ≡ take n bytes) × (rest ≡ drop n bytes) × (length rest + n ≡ length bytes)

pub are_stated : (bytes first after stamp rest : List ℕ) (number seq len : ℕ) (kind : Kind) → IsSplitAt 4 bytes first after → IsSplitAt 8 after stamp rest
    → number ≡ from_be_bytes w32 first → seq ≡ from_be_bytes w64 stamp → seq < 2 ^ 64 → (code_of kind ≡ number / 2 ^ 24) × (len ≡ number % 2 ^ 24) × (len ≤ 4194304) → len ≤ length rest
    → AreStated kind seq (take len rest) bytes
are_stated bytes first after stamp rest number seq len kind a b number_is seq_is seq_fits k enough =
    let read : number ≡ first_number bytes = number_is ∙ ap (from_be_bytes w32) a.0 in
    let code : code_of kind ≡ stated_code bytes = k.0 ∙ ap (λ (n : ℕ). n / 2 ^ 24) read in
    let len_is : len ≡ stated_length bytes = k.1 ∙ ap (λ (n : ℕ). n % 2 ^ 24) read in
    let place : rest ≡ drop 12 bytes = b.1 ∙ ap (drop 8) a.1 ∙ drop-drop 8 4 bytes in
    let some = a.2 in
    let more = b.2 in
    let whole : 12 + len ≤ length bytes = omega (arith, some, more, enough) in
    record {
      has = record {
        headed = omega (arith, whole);
        known = subst (λ (n : ℕ). n ≤ 3) code (code_of-small kind);
        small = subst (λ (n : ℕ). n ≤ 4194304) len_is k.2;
        whole = subst (λ (n : ℕ). 12 + n ≤ length bytes) len_is whole;
      };
      code = code;
      seq_is = seq_is ∙ ap (from_be_bytes w64) (b.0 ∙ ap (take 8) a.1);
      seq_fits = seq_fits;
      body_is = ap₂ (λ (n : ℕ) (bs : List ℕ). take n bs) len_is place;
      len = length-take-le len rest enough ∙ len_is;
    }

-- ---- what was read begins with the frame

bytes_taken : (k : ℕ) (bytes : List ℕ) → ((i : ℕ) → Fits w8 (get_or bytes i 0)) → (i : ℕ) → get_or (take k bytes) i 0 < 256
bytes_taken zero bytes h i = omega arith
bytes_taken (suc k) [] h i = omega arith
bytes_taken (suc k) (b ∷ bytes) h zero = let small = h 0 in omega (arith, small)
bytes_taken (suc k) (b ∷ bytes) h (suc i) = bytes_taken k bytes (λ j. h (suc j)) i

bytes_dropped : (k : ℕ) (bytes : List ℕ) → ((i : ℕ) → Fits w8 (get_or bytes i 0)) → (i : ℕ) → Fits w8 (get_or (drop k bytes) i 0)
bytes_dropped zero bytes h i = h i
bytes_dropped (suc k) [] h i = h i
bytes_dropped (suc k) (b ∷ bytes) h i = bytes_dropped k bytes (λ j. h (suc j)) i

-- a body that was read is that of a change that is framed
read_framed : (body : List ℕ) (c : Change) → length body ≤ 4194304 → IsTextOf body (object_of c) → IsFramed c
read_framed body c small t =
    let same : length (body_of c) ≡ length body = ap length t.text in
    let high = t.low in
    let one = height-object_of c in
    record { sound = t.sound; low = omega (arith, high, one); small = omega (arith, small, same) }

head_taken : (bytes : List ℕ) → 4 ≤ length bytes → ((i : ℕ) → Fits w8 (get_or bytes i 0)) → take 4 bytes ≡ to_be_bytes w32 (both (stated_code bytes) (stated_length bytes))
head_taken bytes long fits =
    sym (be_bytes_4 (take 4 bytes) (first_number bytes) (length-take-le 4 bytes long) (bytes_taken 4 bytes fits) refl)
    ∙ ap (to_be_bytes w32) (sym (split (first_number bytes)))

seq_taken : (bytes : List ℕ) → 12 ≤ length bytes → ((i : ℕ) → Fits w8 (get_or bytes i 0)) → take 8 (drop 4 bytes) ≡ to_be_bytes w64 (stated_seq bytes)
seq_taken bytes long fits =
    let left = length-drop 4 bytes in
    let enough : 8 ≤ length (drop 4 bytes) = omega (arith, left, long) in
    sym (be_bytes_8 (take 8 (drop 4 bytes)) (stated_seq bytes) (length-take-le 8 (drop 4 bytes) enough) (bytes_taken 8 (drop 4 bytes) (bytes_dropped 4 bytes fits)) refl)

-- the first bytes in three parts
in_parts : (bytes : List ℕ) (n : ℕ) → take (12 + n) bytes ≡ take 4 bytes ++ (take 8 (drop 4 bytes) ++ take n (drop 12 bytes))
in_parts bytes n =
    let so_many : 12 + n ≡ 4 + (8 + n) = omega arith in
    ap (λ (k : ℕ). take k bytes) so_many ∙ take-add 4 (8 + n) bytes
    ∙ ap (λ rest. take 4 bytes ++ rest) (take-add 8 n (drop 4 bytes) ∙ ap (λ rest. take 8 (drop 4 bytes) ++ take n rest) (drop-drop 8 4 bytes))

pub begins : (bytes body : List ℕ) (kind : Kind) (seq : ℕ) (c : Change) → AreStated kind seq body bytes
    → ((i : ℕ) → Fits w8 (get_or bytes i 0)) → IsTextOf body (object_of c) → BeginsAs bytes (logged kind (entry seq c)) (12 + length body)
begins bytes body kind seq c stated fits t =
    let text : body ≡ body_of c = sym t.text in
    let same : length body ≡ length (body_of c) = ap length text in
    let headed = stated.has.headed in
    let small = stated.has.small in
    let len = stated.len in
    let number : both (stated_code bytes) (stated_length bytes) ≡ both (code_of kind) (length (body_of c)) =
    ap₂ both (sym stated.code) (sym len ∙ same) in
    let head : take 4 bytes ≡ to_be_bytes w32 (both (code_of kind) (length (body_of c))) = head_taken bytes (omega (arith, headed)) fits ∙ ap (to_be_bytes w32) number in
    let stamp : take 8 (drop 4 bytes) ≡ to_be_bytes w64 seq = seq_taken bytes headed fits ∙ ap (to_be_bytes w64) (sym stated.seq_is) in
    let rest : take (length body) (drop 12 bytes) ≡ body_of c = ap (λ (k : ℕ). take k (drop 12 bytes)) len ∙ sym stated.body_is ∙ text in
    record {
      framed = read_framed body c (omega (arith, small, len)) t;
      seq_fits = stated.seq_fits;
      frame = in_parts bytes (length body) ∙ ap₂ (λ (a b : List ℕ). a ++ b) head (ap₂ (λ (a b : List ℕ). a ++ b) stamp rest);
      len = omega (arith, same);
    }

-- so where the bytes begin with a frame, that one is answered, or want of memory
pub reads : (bytes : List ℕ) (r : Result (Kind × Command × ℕ × ℕ) RecordFault) → IfOk r (λ p. BeginsAs bytes (logged p.0 (entry p.2 (change_of p.1))) p.3) → IfErr r (λ e. IsFaultAs e bytes)
    → (l : Logged) (n : ℕ) → BeginsAs bytes l n → MatchResult r (λ p. (logged p.0 (entry p.2 (change_of p.1)) ≡ l) × (p.3 ≡ n)) (λ f. f ≡ Memory)
reads bytes (Ok p) ok err l n b = one_frame bytes (logged p.0 (entry p.2 (change_of p.1))) l p.3 n ok b
reads bytes (Err f) ok err l n b = no_fault bytes l n f b err
