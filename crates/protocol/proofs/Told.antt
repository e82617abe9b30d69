-- The line that tells transactions, and its parts.
use Rattle.std.proofs.Common.{◌≡◌, ℕ, ◌+◌, ◌<◌, ◌^◌, Bool, true, false, cond, List, [], ◌∷◌, ◌++◌, length, Option, None, Some, pos, codes, decimal, append_assoc, refl, ap, sym, ◌∙◌, subst, arith}
use Rattle.json.specs.Print.{escape_byte, quoted}
use Rattle.serde_json.specs.Written.{comma_if}
use Rattle.doc_tree.specs.Doc.{Doc, Elements, boolean, element, int, list, member, no_members, object}
use Rattle.doc_tree.specs.Text.{elements_text, text_of}
use Rattle.log_frames.specs.Kinds.{Logged, frame_as, frames_as, is_noted}
use Rattle.log_frames.specs.declared.kind.Kind.{Kind}
use Rattle.record_text.specs.Change.{Change, object_of}
use Rattle.record_text.specs.Frame.{IsFramed, body_of}
use Rattle.change_history.specs.History.{Told}
use Rattle.doc_changes.specs.Marks.{Mark}
use Rattle.doc_machine.specs.Transaction.{Transaction, changes_of}
use Rattle.store_commits.specs.Folds.{mark_after}
use Rattle.protocol.specs.Changes.{AreToldFrom, changes_reply, gone_reply, mark_member, transaction_object, transaction_objects, with_identity}
use Rattle.protocol.specs.Frames.{CanBeRead, changes_before, note_in}
use Rattle.protocol.specs.Reply.{line_of}
use Rattle.protocol.specs.Request.{objects_of}
use Rattle.protocol.specs.Written.{identity_text, mark_text}
use Rattle.protocol.proofs.Frames.{next}

-- ---- texts

pub line_of-gone_reply : (seq from : ℕ) → line_of (gone_reply seq from) ≡ codes "{\"from\":" ++ (decimal from ++ (codes ",\"gone\":true,\"ok\":true,\"seq\":" ++ (decimal seq ++ codes "}\n")))
unfolding escape_byte
line_of-gone_reply seq from = simp append_assoc

line_text : (identity : Option (List ℕ)) (seq : ℕ) (ts : Elements)
    → line_of (object (member (codes "changes") (list ts) (with_identity identity (member (codes "ok") (boolean true) (member (codes "seq") (int (pos seq)) no_members)))))
    ≡ codes "{\"changes\":[" ++ (elements_text false ts ++ (identity_text identity ++ (codes ",\"ok\":true,\"seq\":" ++ (decimal seq ++ codes "}\n"))))
unfolding escape_byte
line_text None seq ts =
    let begun = codes "{\"changes\":[" in
    let listed = elements_text false ts in
    let ok = codes ",\"ok\":true,\"seq\":" in
    let ending = codes "}" in
    let feed = codes "\n" in
    ap (λ (t : List ℕ). begun ++ t) (append_assoc listed (ok ++ (decimal seq ++ ending)) feed) ∙ ap (λ (t : List ℕ). begun ++ (listed ++ (ok ++ t))) (append_assoc (decimal seq) ending feed)
line_text (Some identity) seq ts =
    let begun = codes "{\"changes\":[" in
    let listed = elements_text false ts in
    let name = codes ",\"identity\":" in
    let ok = codes ",\"ok\":true,\"seq\":" in
    let ending = codes "}" in
    let feed = codes "\n" in
    ap (λ (t : List ℕ). begun ++ t) (append_assoc listed (name ++ (quoted identity ++ (ok ++ (decimal seq ++ ending)))) feed)
    ∙ ap (λ (t : List ℕ). begun ++ (listed ++ (name ++ t))) (append_assoc (quoted identity) (ok ++ (decimal seq ++ ending)) feed)
    ∙ ap (λ (t : List ℕ). begun ++ (listed ++ (name ++ (quoted identity ++ (ok ++ t))))) (append_assoc (decimal seq) ending feed)

pub line_of-changes_reply : (identity : Option (List ℕ)) (seq from : ℕ) (ts : List Transaction) → line_of (changes_reply identity seq from ts)
    ≡ codes "{\"changes\":[" ++ (elements_text false (transaction_objects from ts) ++ (identity_text identity ++ (codes ",\"ok\":true,\"seq\":" ++ (decimal seq ++ codes "}\n"))))
line_of-changes_reply identity seq from ts = line_text identity seq (transaction_objects from ts)

object_text : (cs : Elements) (first last : ℕ) (m : Option Mark)
    → text_of (object (member (codes "changes") (list cs) (member (codes "first") (int (pos first)) (member (codes "last") (int (pos last)) (mark_member m)))))
    ≡ codes "{\"changes\":[" ++ (elements_text false cs ++ (codes ",\"first\":" ++ (decimal first ++ (codes ",\"last\":" ++ (decimal last ++ (mark_text m ++ codes "}"))))))
unfolding escape_byte
object_text cs first last None = refl
object_text cs first last (Some m) = simp append_assoc

pub text_of-transaction_object : (before : ℕ) (t : Transaction) → text_of (transaction_object before t)
    ≡ codes "{\"changes\":[" ++ (elements_text false (objects_of (changes_of t)) ++ (codes ",\"first\":" ++ (decimal (before + 1) ++ (codes ",\"last\":" ++ (decimal (before + length (changes_of t)) ++ (mark_text (mark_after before t) ++ codes "}"))))))
text_of-transaction_object before t = object_text (objects_of (changes_of t)) (before + 1) (before + length (changes_of t)) (mark_after before t)

-- ---- an element more

-- the line with an element, after a comma if one comes before
pub element_goes : (line parted longer : List ℕ) (later : Bool) (d : Doc) (ds : Elements) → parted ≡ line ++ comma_if later → longer ≡ parted ++ text_of d
    → longer ++ elements_text true ds ≡ line ++ elements_text later (element d ds)
element_goes line parted longer later d ds p q =
    ap (λ t. t ++ elements_text true ds) (q ∙ ap (λ t. t ++ text_of d) p) ∙ simp append_assoc

-- ---- the changes of frames

-- The line with the first of the changes that these frames spell: the frames that are left spell the others, and the line with these is the whole.
pub record GoesOn (logged : List Logged) (begun line : List ℕ) (later : Bool) (rest : List ℕ) : Type 0 where
  pub left : List Logged
  pub read : CanBeRead left
  pub rest_is : rest ≡ frames_as left
  pub text : line ++ elements_text later (objects_of (changes_before left)) ≡ begun ++ elements_text false (objects_of (changes_before logged))
  pub note : note_in left ≡ note_in logged

pub begins : (logged : List Logged) (line frames : List ℕ) → CanBeRead logged → frames ≡ frames_as logged → GoesOn logged line line false frames
begins logged line frames read are = record { left = logged; read = read; rest_is = are; text = refl; note = refl }

-- what is cut from bytes that begin with a frame
abbrev pub IsCut : (rest : List ℕ) (kind : Kind) (seq : ℕ) (body behind : List ℕ) → Type 0
IsCut rest kind seq body behind =
    (l : Logged) (more : List ℕ) → IsFramed l.entry.change → l.entry.seq < 2 ^ 64 → rest ≡ frame_as l ++ more
    → (kind ≡ l.kind) × (seq ≡ l.entry.seq) × (body ≡ body_of l.entry.change) × (behind ≡ more)

-- no bytes are left if there is no frame
no_bytes : (rest behind : List ℕ) → rest ≡ [] → length behind < length rest → ⊥
no_bytes rest behind none shorter = let long = ap length none in omega (arith, long)

module _ (logged : List Logged) (begun line : List ℕ) (later : Bool) (rest : List ℕ) where
  -- the line with the changes of these frames is the whole
  abbrev IsLeft : List Logged → Type 0
  IsLeft left = line ++ elements_text later (objects_of (changes_before left)) ≡ begun ++ elements_text false (objects_of (changes_before logged))

  -- the same of a frame, by whether it holds a mark
  left_by : (l : Logged) (left : List Logged) (noted : Bool) → is_noted l.kind ≡ noted → IsLeft (l ∷ left)
      → line ++ elements_text later (objects_of (cond noted [] (l.entry.change ∷ changes_before left))) ≡ begun ++ elements_text false (objects_of (changes_before logged))
  left_by l left noted is text =
      subst (λ (b : Bool). line ++ elements_text later (objects_of (cond b [] (l.entry.change ∷ changes_before left))) ≡ begun ++ elements_text false (objects_of (changes_before logged))) is text

  note_by : (l : Logged) (left : List Logged) (noted : Bool) → is_noted l.kind ≡ noted → note_in (l ∷ left) ≡ note_in logged → cond noted (Some (body_of l.entry.change)) (note_in left) ≡ note_in logged
  note_by l left noted is note = subst (λ (b : Bool). cond b (Some (body_of l.entry.change)) (note_in left) ≡ note_in logged) is note

  module _ (kind : Kind) (seq : ℕ) (body behind : List ℕ) (cut : IsCut rest kind seq body behind) (shorter : length behind < length rest) where
    pub goes : (parted longer : List ℕ) → GoesOn logged begun line later rest → is_noted kind ≡ false → parted ≡ line ++ comma_if later → longer ≡ parted ++ body → GoesOn logged begun longer true behind
    goes parted longer on plain p q = go on.left on.read on.rest_is on.text on.note
      where
        go : (left : List Logged) → CanBeRead left → rest ≡ frames_as left → IsLeft left → note_in left ≡ note_in logged → GoesOn logged begun longer true behind
        go [] read is text note = absurd (no_bytes rest behind is shorter)
        go (l ∷ left) read is text note =
            let c = cut l (frames_as left) read.0 read.1 is in
            let noted : is_noted l.kind ≡ false = ap is_noted (sym c.0) ∙ plain in
            record {
              left = left;
              read = read.2;
              rest_is = c.3;
              text = element_goes line parted longer later (object_of l.entry.change) (objects_of (changes_before left)) p (q ∙ ap (λ (b : List ℕ). parted ++ b) c.2) ∙ left_by l left false noted text;
              note = note_by l left false noted note;
            }

    pub ends_at : (whole : List ℕ) → GoesOn logged begun line later rest → is_noted kind ≡ true → whole ≡ line ++ codes "]"
        → (whole ≡ begun ++ elements_text false (objects_of (changes_before logged))) × (Some body ≡ note_in logged)
    ends_at whole on noted q = go on.left on.read on.rest_is on.text on.note
      where
        go : (left : List Logged) → CanBeRead left → rest ≡ frames_as left → IsLeft left → note_in left ≡ note_in logged
            → (whole ≡ begun ++ elements_text false (objects_of (changes_before logged))) × (Some body ≡ note_in logged)
        go [] read is text note = absurd (no_bytes rest behind is shorter)
        go (l ∷ left) read is text note =
            let c = cut l (frames_as left) read.0 read.1 is in
            let marks : is_noted l.kind ≡ true = ap is_noted (sym c.0) ∙ noted in
            (q ∙ left_by l left true marks text, ap Some c.2 ∙ note_by l left true marks note)

  pub ends : (whole : List ℕ) → GoesOn logged begun line later rest
      → ((l : Logged) (more : List ℕ) → IsFramed l.entry.change → l.entry.seq < 2 ^ 64 → rest ≡ frame_as l ++ more → ⊥) → whole ≡ line ++ codes "]"
      → (whole ≡ begun ++ elements_text false (objects_of (changes_before logged))) × (None ≡ note_in logged)
  ends whole on none q = go on.left on.read on.rest_is on.text on.note
    where
      go : (left : List Logged) → CanBeRead left → rest ≡ frames_as left → IsLeft left → note_in left ≡ note_in logged
          → (whole ≡ begun ++ elements_text false (objects_of (changes_before logged))) × (None ≡ note_in logged)
      go [] read is text note = (q ∙ text, note)
      go (l ∷ left) read is text note = absurd (none l (frames_as left) read.0 read.1 is)

-- ---- transactions

-- The line with the first of these transactions: with those that are left it is the whole.
pub record TellsOn (from : ℕ) (ts : List Transaction) (begun line : List ℕ) (later : Bool) (before : ℕ) (rest : List Told) : Type 0 where
  pub left : List Transaction
  pub told : AreToldFrom before rest left
  pub text : line ++ elements_text later (transaction_objects before left) ≡ begun ++ elements_text false (transaction_objects from ts)

pub tells : (from : ℕ) (ts : List Transaction) (line : List ℕ) (told : List Told) → AreToldFrom from told ts → TellsOn from ts line line false from told
tells from ts line told are = record { left = ts; told = are; text = refl }

pub tells_more : (from : ℕ) (ts : List Transaction) (begun line : List ℕ) (later : Bool) (before : ℕ) (rest : List Told) (x : Told) (more : List Told) (parted longer : List ℕ)
    → TellsOn from ts begun line later before rest → rest ≡ x ∷ more → parted ≡ line ++ comma_if later
    → ((t : Transaction) → AreToldFrom before (x ∷ []) (t ∷ []) → longer ≡ parted ++ text_of (transaction_object before t)) → TellsOn from ts begun longer true x.last more
tells_more from ts begun line later before rest x more parted longer on is p q =
    let n = next before rest x more on.left on.told is in
    let others = transaction_objects (before + length (changes_of n.first)) n.others in
    record {
      left = n.others;
      told = n.rest;
      text = ap (λ (k : ℕ). longer ++ elements_text true (transaction_objects k n.others)) n.last
          ∙ element_goes line parted longer later (transaction_object before n.first) others p (q n.first n.one)
          ∙ ap (λ (us : List Transaction). line ++ elements_text later (transaction_objects before us)) (sym n.parts) ∙ on.text;
    }

pub no_more : (xs : List Told) → length xs ≡ 0 → xs ≡ []
no_more [] none = refl
no_more (x ∷ xs) none = absurd (omega (arith, none))

pub tells_all : (from : ℕ) (ts : List Transaction) (begun line : List ℕ) (later : Bool) (before : ℕ) (rest : List Told) (whole : List ℕ)
    → TellsOn from ts begun line later before rest → rest ≡ [] → whole ≡ line ++ codes "]" → whole ≡ begun ++ elements_text false (transaction_objects from ts)
tells_all from ts begun line later before rest whole on is q = go on.left on.told on.text
  where
    go : (left : List Transaction) → AreToldFrom before rest left → line ++ elements_text later (transaction_objects before left) ≡ begun ++ elements_text false (transaction_objects from ts)
        → whole ≡ begun ++ elements_text false (transaction_objects from ts)
    go [] told text = q ∙ text
    go (t ∷ left) told text = let none = sym is ∙ told.each in absurd (cc none)
