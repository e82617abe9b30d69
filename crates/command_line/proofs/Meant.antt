-- What follows for a call where the matches mean one, and for the matches where a call is made of them.
use Rattle.std.proofs.Common.{◌≡◌, ℕ, Bool, true, false, codes, List, Option, Some, None, refl, ◌<◌, ◌^◌, Result, Ok, Err, sym, ap, subst, ◌∙◌, IfSome, option_map, option_and_then, unwrap_or, slice_get, find}
use Rattle.std.specs.Str.Parse.{ParsesBool, ParsesUnsigned}
use Rattle.std.specs.Str.{bytes_eq}
use Rattle.std.proofs.lemmas.Slice.Eq.{bytes_eq-Decides}
use Rattle.clap.specs.Values.{read_as}
use Rattle.clap.specs.Walk.{row_text}
use Rattle.clap.specs.Words.{ReadsOne, Row, Text, first_of}
use Rattle.command_line.specs.Call.{Asked}
use Rattle.command_line.specs.Options.{Holds, HoldsNumber, IsMet, Means, Spells, flag_text, name_of}

module _ {E : Type 0} (gives : List ℕ → Result ℕ E → Type 0) (parses : (t : Text) (x : Result ℕ E) → gives t x → ParsesUnsigned 64 10 t x) where
  -- a text that spells a number is read as that number
  pub reads : (n : ℕ) (t : Text) (r : Option ℕ) → n < 2 ^ 64 → Spells t n → ReadsOne gives t r → r ≡ Some n
  reads n t (Some v) h s g = let read = parses t (Ok v) g in ap Some (read.1 ∙ s.1)
  reads n t None h s g = absurd (parses t (Err g.0) g.1 (s.0, subst (λ (m : ℕ). m < 2 ^ 64) (sym s.1) h))

  -- what is read of a text spells the number
  pub spells : (given : Option Text) (r : Option ℕ) → (given ≡ None → r ≡ None) → ((t : Text) → given ≡ Some t → ReadsOne gives t r)
      → IfSome r (λ n. (t : Text) × (given ≡ Some t) × Spells t n)
  spells (Some t) (Some v) none some = let read = parses t (Ok v) (some t refl) in (t, refl, (read.0.0, sym read.1))
  spells None (Some v) none some = let bad = none refl in cc
  spells given None none some = tt

module _ {E : Type 0} (gives : Text → Result Bool E → Type 0) (parses : (t : Text) (x : Result Bool E) → gives t x → ParsesBool t x) where
  -- what is read of a flag's text says whether it is set
  pub flag_told : (given : Option Text) (r : Option Bool) → (given ≡ None → r ≡ None) → ((t : Text) → given ≡ Some t → ReadsOne gives t r)
      → IfSome r (λ set. given ≡ Some (flag_text set))
  flag_told (Some t) (Some true) none some = ap Some (parses t (Ok true) (some t refl))
  flag_told (Some t) (Some false) none some = ap Some (parses t (Ok false) (some t refl))
  flag_told None (Some set) none some = let bad = none refl in cc
  flag_told given None none some = tt

  -- a flag's text is read as whether it is set
  pub flag_read : (set : Bool) (r : Option Bool) → ReadsOne gives (flag_text set) r → r ≡ Some set
  flag_read true (Some true) read = refl
  flag_read true (Some false) read = let other = parses (codes "true") (Ok false) read in cc
  flag_read true None read = absurd ((parses (codes "true") (Err read.0) read.1).0 refl)
  flag_read false (Some true) read = let other = parses (codes "false") (Ok true) read in cc
  flag_read false (Some false) read = refl
  flag_read false None read = absurd ((parses (codes "false") (Err read.0) read.1).1 refl)

-- two texts that differ are not one
pub differ : {A : Type 0} (a b : Text) → bytes_eq a b ≡ false → a ≡ b → A
differ a b apart same =
    let equal = (bytes_eq-Decides a b).1 same in
    let bad : true ≡ false = sym equal ∙ apart in
    cc bad

-- an option to which no text is given holds no number
pub holds_none : (option : Text) (n : ℕ) (options : List Row) → first_of option options ≡ None → HoldsNumber option n options → ⊥
holds_none option n options none h = go (find (λ r. bytes_eq r.id option) options) none h.0 h.1
  where
    go : (o : Option Row) → option_and_then (λ (r : Row). slice_get r.values 0) o ≡ None → (text : Text) → option_and_then row_text o ≡ Some text → ⊥
    go None e text f = cc
    go (Some r) e text f = let bad : None ≡ Some text = sym (ap (option_map (read_as r.reading)) e) ∙ f in cc

-- where a command was met with these options, and that means a call, it is the call's
pub is_met : {A : Type 0} (o : Option A) (f : A → Text) (g : A → List Row) (name : Text) (options : List Row) (asked : Asked) → Some name ≡ option_map f o
    → Some options ≡ option_map (λ (p : Text × List Row). p.1) (option_map (λ (a : A). (f a, g a)) o) → Means (option_map (λ (a : A). (f a, g a)) o) asked → IsMet name options asked
is_met (Some a) f g name options asked named rows m =
    let first : Some name ≡ Some (f a) = named in
    let second : Some options ≡ Some (g a) = rows in
    let both : Some (f a, g a) ≡ Some (name_of asked, m.0) = m.1 in
    let same = sym (ap (λ (o : Option (Text × List Row)). (unwrap_or o (name, options)).0) both) ∙ sym (ap (λ (o : Option Text). unwrap_or o name) first) in
    let held = sym (ap (λ (o : Option (Text × List Row)). (unwrap_or o (name, options)).1) both) ∙ sym (ap (λ (o : Option (List Row)). unwrap_or o options) second) in
    (same, subst (λ (os : List Row). Holds asked os) held m.2)
is_met None f g name options asked named rows m = let bad : Some name ≡ None = named in cc
