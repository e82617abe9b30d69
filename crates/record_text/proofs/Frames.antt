-- Frames are told apart, and bytes that begin with one have no fault.
use Rattle.std.proofs.Common.{◌≡◌, ◌≢◌, ◌⊎◌, ℕ, zero, suc, ◌+◌, ◌<◌, ◌≤◌, ◌^◌, Bool, false, nat_eq, if◌then◌else◌, List, [], ◌∷◌, ◌++◌, append_assoc, get_or, Fits, w8, length, take, drop, refl, sym, ap, ap₂, ◌∙◌, subst, arith, inl, inr, Result, Ok, Err, IfOk, IfErr, MatchResult}
use Rattle.std.proofs.lemmas.Bool.{cases_eq, ne_eqb}
use Rattle.std.proofs.lemmas.List.{take-append-drop, length-append, length-take-le, length-drop, drop-drop}
use Rattle.std.proofs.lemmas.Nat.{be_bytes_4, be_bytes_8, from_be_bytes-to_be_bytes_4, from_be_bytes-to_be_bytes_8}
use Rattle.std.proofs.Math.Seq.{take-append_seam, drop-append_seam, take-add}
use Rattle.std.specs.Int.{w32, w64, to_be_bytes, from_be_bytes}
use Rattle.doc_tree.specs.Doc.{Doc}
use Rattle.doc_tree.specs.Read.{read_of, document}
use Rattle.doc_tree.proofs.RoundTrip.{read_of-text_of}
use Rattle.record_text.specs.Change.{Change, change_of, object_of, AsksNone}
use Rattle.record_text.specs.Fault.{HasBody, IsFaultBehind, IsReadFault, IsReadFault_1, IsTextOf, stated_len, stated_body, stated_seq}
use Rattle.record_text.specs.Frame.{AreDated, AreEntries, BeginsWith, BeginsWith_1, Entry, IsEntry, IsFramed, entry, body_of, frame_of, frame_1_of, frame_in, frames_in}
use Rattle.record_text.specs.Record.{IsNoCommand, IsNoCommand_1}
use Rattle.record_text.specs.declared.command.Command.{Command}
use Rattle.record_text.specs.declared.fault.RecordFault.{RecordFault}
use Rattle.record_text.specs.declared.fault.RecordFault.TheVariants.{Short, Long, Text, Shape, Memory}
use Rattle.record_text.proofs.Objects.{object_of-injective, height-object_of}

-- ---- texts

same_document : (a b : Doc) → document a ≡ document b → a ≡ b
same_document a b e = cc

-- two sound documents at most 127 high with one text are one
pub one_text : (bytes : List ℕ) (a b : Doc) → IsTextOf bytes a → IsTextOf bytes b → a ≡ b
one_text bytes a b p q = same_document a b (sym (read_of-text_of a p.sound p.low) ∙ ap read_of (p.text ∙ sym q.text) ∙ read_of-text_of b q.sound q.low)

-- the body of a change that is framed is its object's text
pub IsTextOf-body_of : (c : Change) → IsFramed c → IsTextOf (body_of c) (object_of c)
IsTextOf-body_of c f = let h = height-object_of c in let low = f.low in record { sound = f.sound; low = omega (arith, h, low); text = refl }

pub body_of-injective : (c d : Change) → IsFramed c → IsFramed d → body_of c ≡ body_of d → c ≡ d
body_of-injective c d f g e = object_of-injective c d (one_text (body_of d) (object_of c) (object_of d) (subst (λ bytes. IsTextOf bytes (object_of c)) e (IsTextOf-body_of c f)) (IsTextOf-body_of d g))

-- ---- lengths

head_read : (c : Change) → IsFramed c → from_be_bytes w32 (to_be_bytes w32 (length (body_of c))) ≡ length (body_of c)
head_read c f = let small = f.small in from_be_bytes-to_be_bytes_4 (length (body_of c)) (omega (arith, small))

-- what the bytes state behind a head of so many is the change's own
pub record States (head : ℕ) (bytes : List ℕ) (c : Change) : Type 0 where
  pub len : stated_len bytes ≡ length (body_of c)
  pub body : stated_body head bytes ≡ body_of c

frame_states : (e : Entry) (x : List ℕ) → IsFramed e.change → States 12 (frame_of e ++ x) e.change
frame_states e x f =
    let len : stated_len (frame_of e ++ x) ≡ length (body_of e.change) = head_read e.change f in
    record { len = len; body = ap (λ n. take n (body_of e.change ++ x)) len ∙ take-append_seam (body_of e.change) x }

frame_states_1 : (c : Change) (x : List ℕ) → IsFramed c → States 4 (frame_1_of c ++ x) c
frame_states_1 c x f =
    let len : stated_len (frame_1_of c ++ x) ≡ length (body_of c) = head_read c f in
    record { len = len; body = ap (λ n. take n (body_of c ++ x)) len ∙ take-append_seam (body_of c) x }

seq_stated : (e : Entry) (x : List ℕ) → e.seq < 2 ^ 64 → stated_seq (frame_of e ++ x) ≡ e.seq
seq_stated e x fits = from_be_bytes-to_be_bytes_8 e.seq fits

-- ---- frames are told apart

entry_same : (e f : Entry) → e.seq ≡ f.seq → e.change ≡ f.change → e ≡ f
entry_same e f s c = λ i. record { seq = s i; change = c i }

pub frame_of-injective : (e f : Entry) (x y : List ℕ) → IsEntry 2 e → IsEntry 2 f → frame_of e ++ x ≡ frame_of f ++ y → (e ≡ f) × (x ≡ y)
frame_of-injective e f x y g h is =
    let p = frame_states e x g.framed in
    let q = frame_states f y h.framed in
    let seq = sym (seq_stated e x g.seq_fits) ∙ ap stated_seq is ∙ seq_stated f y h.seq_fits in
    let same : e ≡ f = entry_same e f seq (body_of-injective e.change f.change g.framed h.framed (sym p.body ∙ ap (stated_body 12) is ∙ q.body)) in
    (same, sym (drop-append_seam (frame_of e) x) ∙ ap (drop (length (frame_of e))) is ∙ ap (λ a. drop (length (frame_of a)) (frame_of f ++ y)) same ∙ drop-append_seam (frame_of f) y)

pub frame_1_of-injective : (c d : Change) (x y : List ℕ) → IsFramed c → IsFramed d → frame_1_of c ++ x ≡ frame_1_of d ++ y → (c ≡ d) × (x ≡ y)
frame_1_of-injective c d x y f g e =
    let p = frame_states_1 c x f in
    let q = frame_states_1 d y g in
    let same : c ≡ d = body_of-injective c d f g (sym p.body ∙ ap (stated_body 4) e ∙ q.body) in
    (same, sym (drop-append_seam (frame_1_of c) x) ∙ ap (drop (length (frame_1_of c))) e ∙ ap (λ a. drop (length (frame_1_of a)) (frame_1_of d ++ y)) same ∙ drop-append_seam (frame_1_of d) y)

-- ---- lists of frames

frames_1-injective : (seq : ℕ) (es fs : List Entry) → AreEntries 1 es → AreEntries 1 fs → AreDated seq es → AreDated seq fs → frames_in 1 es ≡ frames_in 1 fs → es ≡ fs
frames_1-injective seq [] [] f g a b e = refl
frames_1-injective seq [] (y ∷ ys) f g a b e = absurd (cc)
frames_1-injective seq (x ∷ xs) [] f g a b e = absurd (cc)
frames_1-injective seq (x ∷ xs) (y ∷ ys) f g a b e =
    let p = frame_1_of-injective x.change y.change (frames_in 1 xs) (frames_in 1 ys) f.0.framed g.0.framed e in
    ap₂ (λ z zs. z ∷ zs) (entry_same x y (a.0 ∙ sym b.0) p.0) (frames_1-injective seq xs ys f.1 g.1 a.1 b.1 p.1)

abbrev frames_2 : List Entry → List ℕ
frames_2 [] = []
frames_2 (e ∷ es) = frame_of e ++ frames_2 es

as_entry : (version : ℕ) (e : Entry) → IsEntry version e → IsEntry 2 e
as_entry version e is = record { framed = is.framed; seq_fits = is.seq_fits; asks_none = λ one. absurd (omega (arith, one)) }

frames_2-injective : (version : ℕ) (es fs : List Entry) → AreEntries version es → AreEntries version fs → frames_2 es ≡ frames_2 fs → es ≡ fs
frames_2-injective version [] [] f g e = refl
frames_2-injective version [] (y ∷ ys) f g e = absurd (cc)
frames_2-injective version (x ∷ xs) [] f g e = absurd (cc)
frames_2-injective version (x ∷ xs) (y ∷ ys) f g e =
    let p = frame_of-injective x y (frames_2 xs) (frames_2 ys) (as_entry version x f.0) (as_entry version y g.0) e in
    ap₂ (λ z zs. z ∷ zs) p.0 (frames_2-injective version xs ys f.1 g.1 p.1)

in_2 : (version : ℕ) → nat_eq version 1 ≡ false → (es : List Entry) → frames_in version es ≡ frames_2 es
in_2 version h [] = refl
in_2 version h (e ∷ es) = ap₂ (λ (b : Bool) (rest : List ℕ). (if b then frame_1_of e.change else frame_of e) ++ rest) h (in_2 version h es)

-- frames of one format, in format 1 of entries of one seq, are told by their bytes
pub frames_in-injective : (version seq : ℕ) (es fs : List Entry) → AreEntries version es → AreEntries version fs → (version ≡ 1 → AreDated seq es) → (version ≡ 1 → AreDated seq fs)
    → frames_in version es ≡ frames_in version fs → es ≡ fs
frames_in-injective version seq es fs f g a b e = one (cases_eq version 1)
  where
    one : (version ≡ 1) ⊎ (version ≢ 1) → es ≡ fs
    one (inl is) =
        frames_1-injective seq es fs (subst (λ (n : ℕ). AreEntries n es) is f) (subst (λ (n : ℕ). AreEntries n fs) is g) (a is) (b is)
        (ap (λ (n : ℕ). frames_in n es) (sym is) ∙ e ∙ ap (λ (n : ℕ). frames_in n fs) is)
    one (inr other) =
        let no_1 = ne_eqb version 1 other in
        frames_2-injective version es fs f g (sym (in_2 version no_1 es) ∙ e ∙ in_2 version no_1 fs)

pub frames_in-append : (version : ℕ) (es fs : List Entry) → frames_in version (es ++ fs) ≡ frames_in version es ++ frames_in version fs
frames_in-append version [] fs = refl
frames_in-append version (e ∷ es) fs =
    ap (λ rest. frame_in version e ++ rest) (frames_in-append version es fs) ∙ sym (append_assoc (frame_in version e) (frames_in version es) (frames_in version fs))

-- ---- bytes that begin with a frame

begun : (bytes frame : List ℕ) (n : ℕ) → take n bytes ≡ frame → bytes ≡ frame ++ drop n bytes
begun bytes frame n is = sym (take-append-drop n bytes) ∙ ap (λ front. front ++ drop n bytes) is

-- what the bytes state behind a head of so many, of which there are enough
pub record Shows (head : ℕ) (bytes : List ℕ) (c : Change) : Type 0 where
  pub states : States head bytes c
  pub framed : IsFramed c
  pub enough : head + length (body_of c) ≤ length bytes

shows : (bytes : List ℕ) (e : Entry) (n : ℕ) → BeginsWith bytes e n → Shows 12 bytes e.change
shows bytes e n b =
    let is = begun bytes (frame_of e) n b.frame in
    let len = ap length is ∙ length-append (frame_of e) (drop n bytes) in
    record {
      states = subst (λ bs. States 12 bs e.change) (sym is) (frame_states e (drop n bytes) b.framed);
      framed = b.framed;
      enough = omega (arith, len);
    }

shows_1 : (bytes : List ℕ) (c : Change) (n : ℕ) → BeginsWith_1 bytes c n → Shows 4 bytes c
shows_1 bytes c n b =
    let is = begun bytes (frame_1_of c) n b.frame in
    let len = ap length is ∙ length-append (frame_1_of c) (drop n bytes) in
    record {
      states = subst (λ bs. States 4 bs c) (sym is) (frame_states_1 c (drop n bytes) b.framed);
      framed = b.framed;
      enough = omega (arith, len);
    }

as_2 : (bytes : List ℕ) (e : Entry) (n : ℕ) → BeginsWith bytes e n → IsEntry 2 e
as_2 bytes e n b = record { framed = b.framed; seq_fits = b.seq_fits; asks_none = λ one. absurd (omega (arith, one)) }

-- only one frame stands there
pub one_frame : (bytes : List ℕ) (e f : Entry) (n m : ℕ) → BeginsWith bytes e n → BeginsWith bytes f m → (e ≡ f) × (n ≡ m)
one_frame bytes e f n m a b =
    let is = sym (begun bytes (frame_of e) n a.frame) ∙ begun bytes (frame_of f) m b.frame in
    let same = (frame_of-injective e f (drop n bytes) (drop m bytes) (as_2 bytes e n a) (as_2 bytes f m b) is).0 in
    (same, a.len ∙ ap (λ x. length (frame_of x)) same ∙ sym b.len)

pub one_frame_1 : (bytes : List ℕ) (c d : Change) (n m : ℕ) → BeginsWith_1 bytes c n → BeginsWith_1 bytes d m → (c ≡ d) × (n ≡ m)
one_frame_1 bytes c d n m a b =
    let is = sym (begun bytes (frame_1_of c) n a.frame) ∙ begun bytes (frame_1_of d) m b.frame in
    let same = (frame_1_of-injective c d (drop n bytes) (drop m bytes) a.framed b.framed is).0 in
    (same, a.len ∙ ap (λ x. length (frame_1_of x)) same ∙ sym b.len)

-- ---- no fault

text_shown : (head : ℕ) (bytes : List ℕ) (c : Change) → Shows head bytes c → IsTextOf (stated_body head bytes) (object_of c)
text_shown head bytes c s = subst (λ bs. IsTextOf bs (object_of c)) (sym s.states.body) (IsTextOf-body_of c s.framed)

-- nothing is wrong with bytes that show a change, unless its object is no command's
shown : (head : ℕ) (bytes : List ℕ) (c : Change) (IsNone : Doc → Type 0) (e : RecordFault) → Shows head bytes c → (IsNone (object_of c) → ⊥) → IsFaultBehind head IsNone e bytes → e ≡ Memory
shown head bytes c IsNone Short s some (inl h) = let enough = s.enough in absurd (omega (arith, enough, h))
shown head bytes c IsNone Short s some (inr h) = let enough = s.enough in let len = s.states.len in let short = h.1 in absurd (omega (arith, enough, len, short))
shown head bytes c IsNone Long s some h = let len = s.states.len in let small = s.framed.small in let over = h.1 in absurd (omega (arith, len, small, over))
shown head bytes c IsNone Text s some h = absurd (h.1 (object_of c) (text_shown head bytes c s))
shown head bytes c IsNone Shape s some h = absurd (some (subst IsNone (one_text (stated_body head bytes) h.1.0 (object_of c) h.1.1 (text_shown head bytes c s)) h.1.2))
shown head bytes c IsNone Memory s some h = refl

pub no_fault : (bytes : List ℕ) (e : Entry) (n : ℕ) (fault : RecordFault) → BeginsWith bytes e n → IsReadFault fault bytes → fault ≡ Memory
no_fault bytes e n fault b h = shown 12 bytes e.change IsNoCommand fault (shows bytes e n b) (λ none. none e.change refl) h

pub no_fault_1 : (bytes : List ℕ) (c : Change) (n : ℕ) (fault : RecordFault) → BeginsWith_1 bytes c n → IsReadFault_1 fault bytes → fault ≡ Memory
no_fault_1 bytes c n fault b h = shown 4 bytes c IsNoCommand_1 fault (shows_1 bytes c n b) (λ none. none c b.asks_none refl) h

-- ---- what was read begins with the frame

bytes_taken : (k : ℕ) (bytes : List ℕ) → ((i : ℕ) → Fits w8 (get_or bytes i 0)) → (i : ℕ) → get_or (take k bytes) i 0 < 256
bytes_taken zero bytes h i = omega arith
bytes_taken (suc k) [] h i = omega arith
bytes_taken (suc k) (b ∷ bytes) h zero = let small = h 0 in omega (arith, small)
bytes_taken (suc k) (b ∷ bytes) h (suc i) = bytes_taken k bytes (λ j. h (suc j)) i

bytes_dropped : (k : ℕ) (bytes : List ℕ) → ((i : ℕ) → Fits w8 (get_or bytes i 0)) → (i : ℕ) → Fits w8 (get_or (drop k bytes) i 0)
bytes_dropped zero bytes h i = h i
bytes_dropped (suc k) [] h i = h i
bytes_dropped (suc k) (b ∷ bytes) h i = bytes_dropped k bytes (λ j. h (suc j)) i

-- a body that was read is that of a change that is framed
read_framed : (head : ℕ) (bytes body : List ℕ) (c : Change) → HasBody head bytes → length body ≡ stated_len bytes → IsTextOf body (object_of c) → IsFramed c
read_framed head bytes body c has len t =
    let same : length (body_of c) ≡ length body = ap length t.text in
    let high = t.low in
    let one = height-object_of c in
    let small = has.small in
    record { sound = t.sound; low = omega (arith, high, one); small = omega (arith, small, len, same) }

length_taken : (bytes : List ℕ) → 4 ≤ length bytes → ((i : ℕ) → Fits w8 (get_or bytes i 0)) → take 4 bytes ≡ to_be_bytes w32 (stated_len bytes)
length_taken bytes long fits = sym (be_bytes_4 (take 4 bytes) (stated_len bytes) (length-take-le 4 bytes long) (bytes_taken 4 bytes fits) refl)

seq_taken : (bytes : List ℕ) → 12 ≤ length bytes → ((i : ℕ) → Fits w8 (get_or bytes i 0)) → take 8 (drop 4 bytes) ≡ to_be_bytes w64 (stated_seq bytes)
seq_taken bytes long fits =
    let left = length-drop 4 bytes in
    let enough : 8 ≤ length (drop 4 bytes) = omega (arith, left, long) in
    sym (be_bytes_8 (take 8 (drop 4 bytes)) (stated_seq bytes) (length-take-le 8 (drop 4 bytes) enough) (bytes_taken 8 (drop 4 bytes) (bytes_dropped 4 bytes fits)) refl)

-- the first bytes in three parts
in_parts : (bytes : List ℕ) (n : ℕ) → take (12 + n) bytes ≡ take 4 bytes ++ (take 8 (drop 4 bytes) ++ take n (drop 12 bytes))
in_parts bytes n =
    let so_many : 12 + n ≡ 4 + (8 + n) = omega arith in
    ap (λ k. take k bytes) so_many ∙ take-add 4 (8 + n) bytes
    ∙ ap (λ rest. take 4 bytes ++ rest) (take-add 8 n (drop 4 bytes) ∙ ap (λ rest. take 8 (drop 4 bytes) ++ take n rest) (drop-drop 8 4 bytes))

pub begins : (bytes body : List ℕ) (seq : ℕ) (c : Change) → HasBody 12 bytes → body ≡ stated_body 12 bytes → length body ≡ stated_len bytes → seq ≡ stated_seq bytes → seq < 2 ^ 64
    → ((i : ℕ) → Fits w8 (get_or bytes i 0)) → IsTextOf body (object_of c) → BeginsWith bytes (entry seq c) (12 + length body)
begins bytes body seq c has is len seq_is seq_fits fits t =
    let text : body ≡ body_of c = sym t.text in
    let same : length body ≡ length (body_of c) = ap length text in
    let headed = has.headed in
    let head : take 4 bytes ≡ to_be_bytes w32 (length (body_of c)) = length_taken bytes (omega (arith, headed)) fits ∙ ap (to_be_bytes w32) (sym len ∙ same) in
    let stamp : take 8 (drop 4 bytes) ≡ to_be_bytes w64 seq = seq_taken bytes headed fits ∙ ap (to_be_bytes w64) (sym seq_is) in
    let rest : take (length body) (drop 12 bytes) ≡ body_of c = ap (λ k. take k (drop 12 bytes)) len ∙ sym is ∙ text in
    record {
      framed = read_framed 12 bytes body c has len t;
      seq_fits = seq_fits;
      frame = in_parts bytes (length body) ∙ ap₂ (λ a b. a ++ b) head (ap₂ (λ a b. a ++ b) stamp rest);
      len = omega (arith, same);
    }

pub begins_1 : (bytes body : List ℕ) (c : Change) → HasBody 4 bytes → body ≡ stated_body 4 bytes → length body ≡ stated_len bytes → ((i : ℕ) → Fits w8 (get_or bytes i 0)) → IsTextOf body (object_of c) → AsksNone c
    → BeginsWith_1 bytes c (4 + length body)
begins_1 bytes body c has is len fits t none =
    let text : body ≡ body_of c = sym t.text in
    let same : length body ≡ length (body_of c) = ap length text in
    let head : take 4 bytes ≡ to_be_bytes w32 (length (body_of c)) = length_taken bytes has.headed fits ∙ ap (to_be_bytes w32) (sym len ∙ same) in
    let rest : take (length body) (drop 4 bytes) ≡ body_of c = ap (λ k. take k (drop 4 bytes)) len ∙ sym is ∙ text in
    record {
      framed = read_framed 4 bytes body c has len t;
      asks_none = none;
      frame = take-add 4 (length body) bytes ∙ ap₂ (λ a b. a ++ b) head rest;
      len = omega (arith, same);
    }

-- ---- so where the bytes begin with a frame, that one is answered, or want of memory

pub reads : (bytes : List ℕ) (r : Result (Command × ℕ × ℕ) RecordFault) → IfOk r (λ p. BeginsWith bytes (entry p.1 (change_of p.0)) p.2) → IfErr r (λ e. IsReadFault e bytes) → (e : Entry) (n : ℕ) → BeginsWith bytes e n
    → MatchResult r (λ p. (entry p.1 (change_of p.0) ≡ e) × (p.2 ≡ n)) (λ f. f ≡ Memory)
reads bytes (Ok p) ok err e n b = one_frame bytes (entry p.1 (change_of p.0)) e p.2 n ok b
reads bytes (Err f) ok err e n b = no_fault bytes e n f b err

pub reads_1 : (bytes : List ℕ) (r : Result (Command × ℕ) RecordFault) → IfOk r (λ p. BeginsWith_1 bytes (change_of p.0) p.1) → IfErr r (λ e. IsReadFault_1 e bytes) → (c : Change) (n : ℕ) → BeginsWith_1 bytes c n
    → MatchResult r (λ p. (change_of p.0 ≡ c) × (p.1 ≡ n)) (λ e. e ≡ Memory)
reads_1 bytes (Ok p) ok err c n b = one_frame_1 bytes (change_of p.0) c p.1 n ok b
reads_1 bytes (Err f) ok err c n b = no_fault_1 bytes c n f b err
