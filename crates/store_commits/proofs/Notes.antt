-- Marks that are taken again, and the entries that hold them.
use Rattle.std.proofs.Common.{◌≡◌, ℕ, ◌+◌, ◌-◌, ◌*◌, ◌/◌, ◌%◌, ◌^◌, ◌<◌, ◌≤◌, Bool, true, false, cond, not, List, [], ◌∷◌, ◌++◌, Option, None, Some, refl, sym, ◌∙◌, ap, subst, length, length-append, arith, bytes_eq, drop, map, nat_lt}
use Rattle.std.proofs.lemmas.Bool.{le-ltb}
use Rattle.std.proofs.lemmas.List.{append_assoc, append-nil}
use Rattle.std.specs.Char.{digit_char}
use Rattle.std.specs.Cmp.Lexicographic.{nat_list_eq_equiv}
use Rattle.std.specs.List.{AllByRecursion}
use Rattle.json.specs.Print.{escape, escape_byte, escape_letter}
use Rattle.record_text.specs.Frame.{AreEntries, Entry, IsFramed}
use Rattle.record_text.proofs.Parts as parts
use Rattle.log_frames.specs.Kinds.{note}
use Rattle.refusals.specs.declared.numbers.TheConstants.{COMMAND, NAME}
use Rattle.doc_changes.specs.Marks.{AreApart, AreMarks, AreNumbered, IsMark, Mark, mark_of, mark_refusal, newest, others, with_mark}
use Rattle.doc_changes.specs.Names.{is_name}
use Rattle.doc_changes.specs.Refusals.{first, refused_if}
use Rattle.schema_rules.specs.declared.profile.Profile.{Profile}
use Rattle.schema_rules.specs.declared.profile.Profile.TheVariants.{Three, Two}
use Rattle.doc_changes.proofs.NameBytes.{IsUtf8-name, length-quoted-name}
use Rattle.store_commits.specs.Notes.{AreNoted, noted_entry, with_marks}

-- ---- a journal can hold each mark

parts_long : (a b : Bool) (x l p q : ℕ) → length (cond a (92 ∷ l ∷ []) (cond b (92 ∷ 117 ∷ 48 ∷ 48 ∷ p ∷ q ∷ []) (x ∷ []))) ≤ 6
parts_long true b x l p q = omega arith
parts_long false true x l p q = omega arith
parts_long false false x l p q = omega arith

byte_long : (x : ℕ) → length (escape_byte x) ≤ 6
unfolding escape_byte
byte_long x = parts_long (nat_lt 0 (escape_letter x)) (nat_lt x 32) x (escape_letter x) (digit_char (x / 16)) (digit_char (x % 16))

escape_long : (v : List ℕ) → length (escape v) ≤ 6 * length v
escape_long [] = omega arith
escape_long (x ∷ xs) =
    let one = byte_long x in
    let rest = escape_long xs in
    omega (arith, one, rest, length-append (escape_byte x) (escape xs))

pub framed_mark : (m : Mark) → IsMark m → IsFramed (note m.key m.value)
framed_mark m is =
    let text = escape_long m.value in
    let short = is.short in
    let key = length-quoted-name m.key is.named in
    parts.framed (note m.key m.value) (record {
      spelled = tt;
      named = IsUtf8-name m.key is.named;
      sound = (tt, (is.text, tt));
      low = omega arith;
      short = omega (arith, key, text, short, length-append (escape m.value) (34 ∷ []));
    })

pub notes_framed : (seq : ℕ) → seq < 2 ^ 64 → (ms : List Mark) → AllByRecursion IsMark ms → AreNumbered seq ms → AreEntries 2 (map noted_entry ms)
notes_framed seq fits [] are numbered = tt
notes_framed seq fits (m ∷ ms) are numbered =
    let low = numbered.0 in
    (record { framed = framed_mark m are.0; seq_fits = omega (arith, low, fits); asks_none = λ is. absurd (omega (arith, is)) }, notes_framed seq fits ms are.1 numbered.1)

-- ---- a state takes its own marks again

if_true : (b : Bool) (n : ℕ) → b ≡ true → refused_if (not b) n ≡ None
if_true b n h = ap (λ (c : Bool). refused_if (not c) n) h

if_not : (b : Bool) (n : ℕ) → b ≡ false → refused_if b n ≡ None
if_not b n h = ap (λ (c : Bool). refused_if c n) h

pub accepted_mark : (m : Mark) → IsMark m → mark_refusal Three m.key m.value ≡ None
accepted_mark m is = λ i. first (refused_if false COMMAND ∷ if_true (is_name m.key) NAME is.named i ∷ if_not (nat_lt 128 (length m.value)) COMMAND (le-ltb _ _ is.short) i ∷ [])

are_noted_3 : (seq : ℕ) (ms : List Mark) → AllByRecursion IsMark ms → AreNumbered seq ms → AreNoted Three seq ms
are_noted_3 seq [] are numbered = tt
are_noted_3 seq (m ∷ ms) are numbered = (record { not_ahead = numbered.0; accepted = accepted_mark m are.0 }, are_noted_3 seq ms are.1 numbered.1)

none_of : (ms : List Mark) → length ms ≤ 0 → ms ≡ []
none_of [] few = refl
none_of (m ∷ ms) few = absurd (omega (arith, few))

pub are_noted : (profile : Profile) (seq : ℕ) (ms : List Mark) → AreMarks profile ms → AreNumbered seq ms → AreNoted profile seq ms
are_noted Two seq ms are numbered = subst (AreNoted Two seq) (sym (none_of ms are.few)) tt
are_noted Three seq ms are numbered = are_noted_3 seq ms are.each numbered

-- ---- and they make themselves, in their order

none_at : (b : Bool) (m : Mark) (o : Option Mark) → cond b (Some m) o ≡ None → (b ≡ false) × (o ≡ None)
none_at true m o h = absurd (cc)
none_at false m o h = (refl, h)

other_key : (m x : Mark) (xs rest : List Mark) → mark_of x.key (xs ++ m ∷ rest) ≡ None → bytes_eq x.key m.key ≡ false
other_key m x [] rest h = (none_at (bytes_eq x.key m.key) m (mark_of x.key rest) h).0
other_key m x (y ∷ ys) rest h = other_key m x ys rest (none_at (bytes_eq x.key y.key) y (mark_of x.key (ys ++ m ∷ rest)) h).1

-- those before a mark don't have its key
others_stay : (m : Mark) (front rest : List Mark) → AreApart (front ++ m ∷ rest) → others m.key front ≡ front
others_stay m [] rest h = refl
others_stay m (x ∷ front) rest h =
    ap (λ b. cond b front (x ∷ others m.key front)) (nat_list_eq_equiv.symm m.key x.key ∙ other_key m x front rest h.0) ∙ ap (λ (l : List Mark). x ∷ l) (others_stay m front rest h.1)

newest_few : (ms : List Mark) → length ms ≤ 1_024 → newest ms ≡ ms
newest_few ms few = let none : length ms - 1_024 ≡ 0 = omega (arith, few) in ap (λ n. drop n ms) none

one_more : (m : Mark) (front rest : List Mark) → AreApart (front ++ m ∷ rest) → length front + length (m ∷ rest) ≤ 1_024 → with_mark m front ≡ front ++ m ∷ []
one_more m front rest apart few =
    ap (λ (l : List Mark). newest (l ++ m ∷ [])) (others_stay m front rest apart) ∙ newest_few (front ++ m ∷ []) (omega (arith, few, length-append front (m ∷ [])))

made_again : (front rest : List Mark) → AreApart (front ++ rest) → length front + length rest ≤ 1_024 → with_marks front rest ≡ front ++ rest
made_again front [] apart few = sym (append-nil front)
made_again front (m ∷ rest) apart few =
    ap (λ (l : List Mark). with_marks l rest) (one_more m front rest apart few)
    ∙ made_again (front ++ m ∷ []) rest (subst AreApart (sym (append_assoc front (m ∷ []) rest)) apart) (omega (arith, few, length-append front (m ∷ [])))
    ∙ append_assoc front (m ∷ []) rest

most_1024 : (profile : Profile) (ms : List Mark) → AreMarks profile ms → length ms ≤ 1_024
most_1024 Two ms are = let few = are.few in omega (arith, few)
most_1024 Three ms are = are.few

pub marks_again : (profile : Profile) (ms : List Mark) → AreMarks profile ms → with_marks [] ms ≡ ms
marks_again profile ms are = let few = most_1024 profile ms are in made_again [] ms are.apart (omega (arith, few))

-- ---- marks behind marks

pub marks_append : (front ms ns : List Mark) → with_marks front (ms ++ ns) ≡ with_marks (with_marks front ms) ns
marks_append front [] ns = refl
marks_append front (m ∷ ms) ns = marks_append (with_mark m front) ms ns

pub noted_append : (profile : Profile) (seq : ℕ) (ms ns : List Mark) → AreNoted profile seq ms → AreNoted profile seq ns → AreNoted profile seq (ms ++ ns)
noted_append profile seq [] ns are more = more
noted_append profile seq (m ∷ ms) ns are more = (are.0, noted_append profile seq ms ns are.1 more)

-- what a state takes, it takes once its seq is higher
pub noted_later : (profile : Profile) (seq later : ℕ) (ms : List Mark) → seq ≤ later → AreNoted profile seq ms → AreNoted profile later ms
noted_later profile seq later [] low are = tt
noted_later profile seq later (m ∷ ms) low are =
    let was = are.0.not_ahead in (record { not_ahead = omega (arith, was, low); accepted = are.0.accepted }, noted_later profile seq later ms low are.1)

pub entries_of_marks : (ms ns : List Mark) → map noted_entry (ms ++ ns) ≡ map noted_entry ms ++ map noted_entry ns
entries_of_marks [] ns = refl
entries_of_marks (m ∷ ms) ns = ap (λ (l : List Entry). noted_entry m ∷ l) (entries_of_marks ms ns)

-- ---- entries tell the marks

pub one_mark : (m n : Mark) → noted_entry m ≡ noted_entry n → m ≡ n
one_mark m n same =
    let changes : note m.key m.value ≡ note n.key n.value = ap (λ (e : Entry). e.change) same in
    let keys : m.key ≡ n.key = cc changes in
    let values : m.value ≡ n.value = cc changes in
    let seqs : m.seq ≡ n.seq = ap (λ (e : Entry). e.seq) same in
    λ i. record { key = keys i; value = values i; seq = seqs i }

pub same_marks : (ms ns : List Mark) → map noted_entry ms ≡ map noted_entry ns → ms ≡ ns
same_marks [] [] same = refl
same_marks [] (n ∷ ns) same = absurd (cc same)
same_marks (m ∷ ms) [] same = absurd (cc same)
same_marks (m ∷ ms) (n ∷ ns) same =
    let first : noted_entry m ≡ noted_entry n = cc same in
    let rest : map noted_entry ms ≡ map noted_entry ns = cc same in
    λ i. one_mark m n first i ∷ same_marks ms ns rest i

-- ---- profiles

-- profile 2 has no marks
refused_2 : (m : Mark) → mark_refusal Two m.key m.value ≡ None → ⊥
refused_2 m none = absurd (cc none)

pub none_noted : (seq : ℕ) (ms : List Mark) → AreNoted Two seq ms → ms ≡ []
none_noted seq [] are = refl
none_noted seq (m ∷ ms) are = absurd (refused_2 m are.0.accepted)

pub noted_raised : (profile : Profile) (seq : ℕ) (ms : List Mark) → AreNoted profile seq ms → AreNoted Three seq ms
noted_raised Two seq ms are = subst (AreNoted Three seq) (sym (none_noted seq ms are)) tt
noted_raised Three seq ms are = are
