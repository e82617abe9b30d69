-- Frames that are found one after another.
use Rattle.std.proofs.Common.{◌≡◌, ◌≢◌, ◌⊎◌, inl, inr, ◌∙◌, ◌+◌, ◌-◌, ◌<◌, ◌≤◌, ℕ, Bool, true, false, if◌then◌else◌, nat_eq, List, [], ◌∷◌, ◌++◌, ap, ap₂, sym, refl, subst, append_assoc, append-nil, drop, take, length, arith}
use Rattle.std.proofs.lemmas.List.{length-drop, take_all}
use Rattle.std.proofs.lemmas.Bool.{cases_eq, ne_eqb}
use Rattle.record_text.specs.Frame.{Entry, body_of, frame_1_of, frame_in, frame_of}
use Rattle.log_frames.specs.Kinds.{Logged, frame_as}
use Rattle.frame_search.specs.Places.{IsFirstFrom, StandsAt, frame_with, head_of}
use Rattle.store_parts.specs.declared.checking.Check.{Check}
use Rattle.store_parts.specs.declared.part.Part.{Part}
use Rattle.store_salvage.specs.Gathering.{Placed}
use Rattle.damaged_files.specs.Frames.{AreFramesFrom, IsFramesText, frame_text, lines_of_frames}

head_within : (three one : Bool) (l : Logged) → (if one then 4 else 12) ≤ length (if three then frame_as l else if one then frame_1_of l.entry.change else frame_of l.entry)
head_within true true l = omega arith
head_within true false l = omega arith
head_within false true l = omega arith
head_within false false l = omega arith

-- a frame has its head
pub headed : (version : ℕ) (bytes : List ℕ) (at n : ℕ) (l : Logged) → StandsAt version bytes at l n → head_of version ≤ n
headed version bytes at n l stands = let len = stands.begins.len in let long = head_within (nat_eq version 3) (nat_eq version 1) l in omega (arith, len, long)

headless_before : (b : Bool) (e : Entry) → drop (if b then 4 else 12) (if b then frame_1_of e.change else frame_of e) ≡ body_of e.change
headless_before true e = refl
headless_before false e = refl

headless : (version : ℕ) (l : Logged) → drop (head_of version) (frame_with version l) ≡ body_of l.entry.change
headless version l = one (cases_eq version 3)
  where
    one : (version ≡ 3) ⊎ (version ≢ 3) → drop (head_of version) (frame_with version l) ≡ body_of l.entry.change
    one (inl is) = subst (λ (v : ℕ). drop (head_of v) (frame_with v l) ≡ body_of l.entry.change) (sym is) refl
    one (inr other) =
        ap (λ (b : Bool). drop (head_of version) (if b then frame_as l else frame_in version l.entry)) (ne_eqb version 3 other)
        ∙ headless_before (nat_eq version 1) l.entry

-- and after it the body
pub body_is : (version : ℕ) (bytes : List ℕ) (at n : ℕ) (l : Logged) → StandsAt version bytes at l n → drop (head_of version) (take n (drop at bytes)) ≡ body_of l.entry.change
body_is version bytes at n l stands = ap (drop (head_of version)) stands.begins.frame ∙ headless version l

-- a frame more
pub framed_more : (version : ℕ) (bytes : List ℕ) (part : Part) (check : Check) (begin : ℕ) (text longer : List ℕ) (p : Placed)
    → longer ≡ text ++ frame_text part check p.at p.kind p.entry.seq (body_of p.entry.change)
    → (ps : List Placed) → IsFramesText version part bytes check begin (text ++ lines_of_frames part check (p ∷ ps)) → IsFramesText version part bytes check begin (longer ++ lines_of_frames part check ps)
framed_more version bytes part check begin text longer p is ps framed =
    let line = frame_text part check p.at p.kind p.entry.seq (body_of p.entry.change) in
    let same : longer ++ lines_of_frames part check ps ≡ text ++ (line ++ lines_of_frames part check ps) = ap (λ l. l ++ lines_of_frames part check ps) is ∙ append_assoc text line (lines_of_frames part check ps) in
    subst (λ (l : List ℕ). IsFramesText version part bytes check begin l) (sym same) framed

-- at the end of the bytes there is no frame
pub none_past : (version : ℕ) (bytes : List ℕ) (from : ℕ) → length bytes ≤ from → IsFirstFrom version bytes from (length bytes)
none_past version bytes from past = λ at behind before. absurd (omega (arith, past, behind, before))

-- no frame more
pub framed_none : (version : ℕ) (bytes : List ℕ) (part : Part) (check : Check) (begin : ℕ) (text : List ℕ) → IsFramesText version part bytes check begin (text ++ []) → IsFramesText version part bytes check begin text
framed_none version bytes part check begin text framed = subst (λ (l : List ℕ). IsFramesText version part bytes check begin l) (append-nil text) framed

-- bytes of a slice, from a place on
pub rest_of : (bytes : List ℕ) (at len head h : ℕ) → h ≡ head → take (length (take (at + len - at) (drop at bytes)) - h) (drop h (take (at + len - at) (drop at bytes))) ≡ drop head (take len (drop at bytes))
rest_of bytes at len head h same =
    let frame = take (at + len - at) (drop at bytes) in
    let left = length-drop h frame in
    take_all (length frame - h) (drop h frame) (omega (arith, left)) ∙ ap₂ (λ n m. drop n (take m (drop at bytes))) same (omega arith)

-- a text, and three more after it
pub after_three : (text head body end first second : List ℕ) → first ≡ (text ++ head) ++ body → second ≡ first ++ end → second ≡ text ++ ((head ++ body) ++ end)
after_three text head body end first second f s = s ∙ ap (λ l. l ++ end) (f ∙ append_assoc text head body) ∙ append_assoc text (head ++ body) end
