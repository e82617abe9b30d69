-- What was written and what waits.
use Rattle.std.proofs.Common.{◌≡◌, ℕ, List, [], ◌++◌, sym, ap, ◌∙◌, subst, Option, None, Some, append_assoc, Result, Ok, Err}
use Rattle.std.specs.Result.{OnOk, OnErr}
use Rattle.std.proofs.lemmas.List.{append-nil}
use Rattle.std.specs.Io.KnownBytes.{Appends, Keeps}
use Rattle.serve_lines.specs.Progress.{HasWritten}
use Rattle.protocol.specs.declared.outbox.Outbox.{Outbox}

pub appends_none : (a : Option (List ℕ)) → Appends a a []
appends_none None = tt
appends_none (Some xs) = sym (append-nil xs)

pub appends_keeps : (a b c : Option (List ℕ)) (x : List ℕ) → Appends a b x → Keeps b c → Appends a c x
appends_keeps None b c x h k = tt
appends_keeps (Some a) None c x h k = absurd h
appends_keeps (Some a) (Some b) None x h k = absurd k
appends_keeps (Some a) (Some b) (Some c) x h k = k ∙ h

pub appends_more : (a b c : Option (List ℕ)) (x y : List ℕ) → Appends a b x → Appends b c y → Appends a c (x ++ y)
appends_more None b c x y h k = tt
appends_more (Some a) None c x y h k = absurd h
appends_more (Some a) (Some b) None x y h k = absurd k
appends_more (Some a) (Some b) (Some c) x y h k = k ∙ ap (λ t. t ++ y) h ∙ append_assoc a x y

-- what waited was written
pub tells_sent : (before old new : Option (List ℕ)) (outbox sent : Outbox) (told items : List ℕ) → items ≡ outbox.bytes.items → Appends old new items → sent.bytes.items ≡ []
    → HasWritten before old outbox told → HasWritten before new sent told
tells_sent before old new outbox sent told items e a n t = record {
  written = t.written ++ items;
  wrote = appends_more before old new t.written items t.wrote a;
  whole = t.whole ∙ ap (λ x. t.written ++ x) (sym e) ∙ sym (append-nil (t.written ++ items)) ∙ ap (λ x. (t.written ++ items) ++ x) (sym n);
}

-- a reply waits
pub tells_more : (before after : Option (List ℕ)) (outbox more : Outbox) (told line : List ℕ) → more.bytes.items ≡ outbox.bytes.items ++ line → HasWritten before after outbox told
    → HasWritten before after more (told ++ line)
tells_more before after outbox more told line e t = record {
  written = t.written;
  wrote = t.wrote;
  whole = ap (λ x. x ++ line) t.whole ∙ append_assoc t.written outbox.bytes.items line ∙ ap (λ x. t.written ++ x) (sym e);
}

-- a line was written where nothing waits
pub tells_written : (before old new : Option (List ℕ)) (outbox : Outbox) (told line : List ℕ) → outbox.bytes.items ≡ [] → Appends old new line → HasWritten before old outbox told
    → HasWritten before new outbox (told ++ line)
tells_written before old new outbox told line n a t = record {
  written = t.written ++ line;
  wrote = appends_more before old new t.written line t.wrote a;
  whole =
      let all : told ≡ t.written = t.whole ∙ ap (λ x. t.written ++ x) n ∙ append-nil t.written in
      ap (λ x. x ++ line) all ∙ sym (append-nil (t.written ++ line)) ∙ ap (λ x. (t.written ++ line) ++ x) (sym n);
}

-- where nothing waits all was written
pub tells_all : (before after : Option (List ℕ)) (outbox : Outbox) (told : List ℕ) → outbox.bytes.items ≡ [] → HasWritten before after outbox told → Appends before after told
tells_all before after outbox told n t =
    subst (λ (x : List ℕ). Appends before after x) (sym (t.whole ∙ ap (λ x. t.written ++ x) n ∙ append-nil t.written)) t.wrote

pub with_ok : {A E P Q R : Type 0} (r : Result A E) → OnOk r P → OnOk r Q → (P → Q → R) → OnOk r R
with_ok (Ok a) p q f = f p q
with_ok (Err e) p q f = tt

-- what holds anyway holds of an error
pub any_err : {A E P : Type 0} (r : Result A E) → P → OnErr r P
any_err (Ok a) p = tt
any_err (Err e) p = p
