-- Bytes that begin with a frame, cut by the length that it states.
use Rattle.std.proofs.Common.{◌≡◌, ℕ, ◌+◌, ◌/◌, ◌%◌, ◌<◌, ◌^◌, List, ◌++◌, length, length-append, take, drop, sym, ap, ◌∙◌, subst, arith}
use Rattle.std.proofs.lemmas.List.{drop-drop}
use Rattle.std.proofs.lemmas.Nat.{from_be_bytes-to_be_bytes_8}
use Rattle.std.proofs.Math.Seq.{take-append_seam, drop-append_seam}
use Rattle.std.specs.Int.{w32, w64, from_be_bytes}
use Rattle.record_text.specs.Frame.{IsFramed, body_of}
use Rattle.log_frames.specs.Kinds.{Logged, code_of, frame_as}
use Rattle.log_frames.specs.declared.kind.Kind.{Kind}
use Rattle.log_frames.proofs.Heads.{code_of-injective, code_of-small, code_read, length_read}

-- the length of the body of a frame
abbrev body_length : Logged → ℕ
body_length l = length (body_of l.entry.change)

-- the numbers and the parts of bytes that begin with a frame
pub record HasParts (l : Logged) (more bytes : List ℕ) : Type 0 where
  pub long : length bytes ≡ 12 + body_length l + length more
  pub code : from_be_bytes w32 (take 4 bytes) / 2 ^ 24 ≡ code_of l.kind
  pub len : from_be_bytes w32 (take 4 bytes) % 2 ^ 24 ≡ body_length l
  pub seq : from_be_bytes w64 (take 8 (drop 4 bytes)) ≡ l.entry.seq
  pub body : take (body_length l) (drop 12 bytes) ≡ body_of l.entry.change
  pub behind : drop (body_length l) (drop 12 bytes) ≡ more

pub has_parts : (l : Logged) (more bytes : List ℕ) → IsFramed l.entry.change → l.entry.seq < 2 ^ 64 → bytes ≡ frame_as l ++ more → HasParts l more bytes
has_parts l more bytes framed fits is =
    let code = code_of-small l.kind in
    let small = framed.small in
    let c : code_of l.kind < 256 = omega (arith, code) in
    let b : body_length l < 2 ^ 24 = omega (arith, small) in
    let sum = length-append (body_of l.entry.change) more in
    subst (HasParts l more) (sym is) (record {
      long = omega (arith, sum);
      code = code_read (code_of l.kind) (body_length l) c b;
      len = length_read (code_of l.kind) (body_length l) c b;
      seq = from_be_bytes-to_be_bytes_8 l.entry.seq fits;
      body = take-append_seam (body_of l.entry.change) more;
      behind = drop-append_seam (body_of l.entry.change) more;
    })

-- what is said of a frame that was cut, and of the bytes after it
abbrev pub IsCut : List ℕ → Kind → ℕ → List ℕ → List ℕ → Type 0
IsCut bytes kind seq body behind = (l : Logged) (more : List ℕ) → IsFramed l.entry.change → l.entry.seq < 2 ^ 64 → bytes ≡ frame_as l ++ more
    → (kind ≡ l.kind) × (seq ≡ l.entry.seq) × (body ≡ body_of l.entry.change) × (behind ≡ more)

-- no frame was cut
abbrev pub IsNotCut : List ℕ → Type 0
IsNotCut bytes = (l : Logged) (more : List ℕ) → IsFramed l.entry.change → l.entry.seq < 2 ^ 64 → bytes ≡ frame_as l ++ more → ⊥

-- ---- what is cut

-- a first part of n bytes, and the rest
abbrev IsSplitAt : ℕ → List ℕ → List ℕ → List ℕ → Type 0
IsSplitAt n bytes first rest = (first ≡ take n bytes) × (rest ≡ drop n bytes) × (length rest + n ≡ length bytes)

pub is_cut : (bytes first after stamp rest : List ℕ) (stated seq len : ℕ) (kind : Kind) (body behind : List ℕ) → IsSplitAt 4 bytes first after → IsSplitAt 8 after stamp rest
    → stated ≡ from_be_bytes w32 first → seq ≡ from_be_bytes w64 stamp → code_of kind ≡ stated / 2 ^ 24 → len ≡ stated % 2 ^ 24 → body ≡ take len rest → behind ≡ drop len rest → IsCut bytes kind seq body behind
is_cut bytes first after stamp rest stated seq len kind body behind a b stated_is seq_is code len_is body_is behind_is l more framed fits is =
    let p = has_parts l more bytes framed fits is in
    let number : stated ≡ from_be_bytes w32 (take 4 bytes) = stated_is ∙ ap (from_be_bytes w32) a.0 in
    let place : rest ≡ drop 12 bytes = b.1 ∙ ap (drop 8) a.1 ∙ drop-drop 8 4 bytes in
    let length_is : len ≡ body_length l = len_is ∙ ap (λ (n : ℕ). n % 2 ^ 24) number ∙ p.len in (
      code_of-injective kind l.kind (code ∙ ap (λ (n : ℕ). n / 2 ^ 24) number ∙ p.code),
      seq_is ∙ ap (from_be_bytes w64) (b.0 ∙ ap (take 8) a.1) ∙ p.seq,
      body_is ∙ (λ i. take (length_is i) (place i)) ∙ p.body,
      behind_is ∙ (λ i. drop (length_is i) (place i)) ∙ p.behind,
    )
