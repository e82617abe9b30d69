-- What the members of schemas hold is found by the members' names.
use Rattle.std.proofs.Common.{◌≡◌, ◌≢◌, ◌⊎◌, inl, inr, ℕ, zero, suc, List, [], ◌∷◌, ◌++◌, map, length, Bool, true, false, if◌then◌else◌, Option, Some, None, option_map, slice_get, bytes_eq, Vec, Global, String, refl, sym, ap, subst, ◌∙◌, append-nil, append_assoc, arith}
use Rattle.std.specs.Prelude.{⊤}
use Rattle.std.proofs.lemmas.Slice.Eq.{bytes_eq-Decides}
use Rattle.doc_tree.specs.Doc.{Doc, null, boolean, Members, no_members, member, get_member}
use Rattle.doc_tree.specs.Lists.{elements_list, values_list}
use Rattle.doc_tree.specs.TreeView.{view}
use Rattle.doc_tree.proofs.Members.{get_member-first, get_member-later}
use Rattle.schema_rules.specs.Keywords.{keyword_of, shape_of}
use Rattle.schema_rules.specs.Parts.{elements_in, members_in}
use Rattle.schema_rules.specs.Schemas.{held_in}
use Rattle.schema_rules.specs.declared.keyword.Shape.{Shape}
use Rattle.schema_rules.specs.declared.keyword.Shape.TheVariants.{Plain, One, Several, Named}
use Rattle.schema_nodes.specs.Entries.{StandFor, AreRows}
use Rattle.schema_nodes.specs.Holding.{AddsHeld, AreHeld, Begins, Holds, IsHeld}
use Rattle.schema_nodes.specs.Nodes.{AreNamed, or_else}
use Rattle.schema_nodes.specs.Reaching.{held_named}
use Rattle.schema_nodes.specs.declared.entries.Entry.{Entry}
use Rattle.schema_nodes.specs.declared.held.Held.{Held}

-- ---- a member is added

pub adds : (s : Shape) (k : List ℕ) (v : Doc) (row : List ℕ) (old new : List Held) (h : Held) → s ≢ Plain → IsHeld k v row h → new ≡ old ++ h ∷ [] → AddsHeld s k v row old new
adds Plain k v row old new h n is e = absurd (n refl)
adds One k v row old new h n is e = (h, is, e)
adds Several k v row old new h n is e = (h, is, e)
adds Named k v row old new h n is e = (h, is, e)

-- what is still to come goes on from there
moves : (s : Shape) (k : List ℕ) (v : Doc) (row : List ℕ) (Rest All : List Held → Type 0) (old new : List Held) → AddsHeld s k v row old new
    → ((more : List Held) → Begins s k v row Rest more → All (old ++ more)) → (more : List Held) → Rest more → All (new ++ more)
moves Plain k v row Rest All old new e on more rest = subst (λ l. All (l ++ more)) (sym e) (on more rest)
moves One k v row Rest All old new (h, is, e) on more rest = subst All (sym (append_assoc old (h ∷ []) more) ∙ ap (λ l. l ++ more) (sym e)) (on (h ∷ more) (is, rest))
moves Several k v row Rest All old new (h, is, e) on more rest = subst All (sym (append_assoc old (h ∷ []) more) ∙ ap (λ l. l ++ more) (sym e)) (on (h ∷ more) (is, rest))
moves Named k v row Rest All old new (h, is, e) on more rest = subst All (sym (append_assoc old (h ∷ []) more) ∙ ap (λ l. l ++ more) (sym e)) (on (h ∷ more) (is, rest))

-- ---- the loop over members

abbrev pub Holding : Members → List (Vec ℕ Global) → Members → List (Vec ℕ Global) → List Held → Type 0
Holding all rows left left_rows hs = (more : List Held) → Holds left left_rows more → Holds all rows (hs ++ more)

pub holding_on : (all : Members) (rows : List (Vec ℕ Global)) (left left' : Members) (left_rows left_rows' : List (Vec ℕ Global)) (k : List ℕ) (v : Doc) (row : Vec ℕ Global) (old new : List Held)
    → Holding all rows left left_rows old → left ≡ member k v left' → left_rows ≡ row ∷ left_rows' → AddsHeld (shape_of (keyword_of k)) k v row.items old new → Holding all rows left' left_rows' new
holding_on all rows left left' left_rows left_rows' k v row old new on is is_row added =
    moves (shape_of (keyword_of k)) k v row.items (λ more. Holds left' left_rows' more) (λ l. Holds all rows l) old new added (λ more begins. on more (subst (λ l. Holds l left_rows more) (sym is) (subst (λ l. Holds (member k v left') l more) (sym is_row) begins)))

nothing : (left : Members) (left_rows : List (Vec ℕ Global)) → (left ≡ no_members) ⊎ (length left_rows ≡ 0) → Holds left left_rows []
nothing no_members left_rows h = refl
nothing (member k v ms) [] h = refl
nothing (member k v ms) (row ∷ rows) (inl e) = absurd cc
nothing (member k v ms) (row ∷ rows) (inr e) = absurd (omega (arith, e))

pub held_all : (all : Members) (rows : List (Vec ℕ Global)) (left : Members) (left_rows : List (Vec ℕ Global)) (hs : List Held) → Holding all rows left left_rows hs → (left ≡ no_members) ⊎ (length left_rows ≡ 0) → Holds all rows hs
held_all all rows left left_rows hs on h = subst (λ l. Holds all rows l) (append-nil hs) (on [] (nothing left left_rows h))

-- ---- the loop over entries

abbrev pub EachHeld : List Entry → List Entry → List (Vec Held Global) → Type 0
EachHeld all left hs = (more : List (Vec Held Global)) → AreHeld left more → AreHeld all (hs ++ more)

pub each_on : (all left left' : List Entry) (e : Entry) (h : Vec Held Global) (hs : List (Vec Held Global)) → EachHeld all left hs → left ≡ e ∷ left' → Holds (members_in (view e.schema.now)) e.rows.items h.items → EachHeld all left' (hs ++ h ∷ [])
each_on all left left' e h hs on is holds more rest = subst (AreHeld all) (sym (append_assoc hs (h ∷ []) more)) (on (h ∷ more) (subst (λ l. AreHeld l (h ∷ more)) (sym is) (holds, rest)))

pub each_held : (all left : List Entry) (hs : List (Vec Held Global)) → EachHeld all left hs → left ≡ [] → AreHeld all hs
each_held all left hs on e = subst (AreHeld all) (append-nil hs) (on [] (subst (λ l. AreHeld l []) (sym e) tt))

-- ---- what is found

pub held_at_entry : (es : List Entry) (all : List (Vec Held Global)) (n : ℕ) (e : Entry) → AreHeld es all → slice_get es n ≡ Some e
    → (hs : Vec Held Global) × (slice_get all n ≡ Some hs) × Holds (members_in (view e.schema.now)) e.rows.items hs.items
held_at_entry [] all n e h at = absurd cc
held_at_entry (x ∷ es) [] n e h at = absurd h
held_at_entry (x ∷ es) (hs ∷ all) zero e h at = let same : x ≡ e = cc in (hs, refl, subst (λ y. Holds (members_in (view y.schema.now)) y.rows.items hs.items) same h.0)
held_at_entry (x ∷ es) (hs ∷ all) (suc n) e h at = held_at_entry es all n e h.1 at

-- a value of that shape holds these
abbrev pub Here : (ℕ → Option Doc) → Shape → Doc → List ℕ → List (String Global × ℕ) → Type 0
Here at Plain d row names = ⊤
Here at One d row names = StandFor at row (d ∷ [])
Here at Several d row names = StandFor at row (elements_list (elements_in d))
Here at Named d row names = (x : Doc) → AreNamed (λ n. or_else x (at n)) names (members_in d)

by_stands : (at : ℕ → Option Doc) (x : Doc) (row : List ℕ) (ds : List Doc) → StandFor at row ds → map (λ n. or_else x (at n)) row ≡ ds
by_stands at x [] [] h = refl
by_stands at x (n ∷ row) (d ∷ ds) h = rw (h.0) (ap (λ l. d ∷ l) (by_stands at x row ds h.1))
by_stands at x [] (d ∷ ds) h = absurd h
by_stands at x (n ∷ row) [] h = absurd h

module _ (at : ℕ → Option Doc) where
  here : (s : Shape) (k : List ℕ) (v : Doc) (row : List ℕ) (h : Held) → shape_of (keyword_of k) ≡ s → IsHeld k v row h → StandFor at row (held_in s v) → Here at s v h.row.now h.named.entries
  here Plain k v row h e is stand = tt
  here One k v row h e is stand = subst (λ r. StandFor at r (v ∷ [])) (sym is.row) stand
  here Several k v row h e is stand = subst (λ r. StandFor at r (elements_list (elements_in v))) (sym is.row) stand
  here Named k v row h e is stand = λ x. is.named (λ n. or_else x (at n)) e (by_stands at x row (values_list (members_in v)) stand)

  -- what is found by the name
  abbrev pub FoundAt : Shape → Doc → Option Held → Type 0
  FoundAt Plain v o = ⊤
  FoundAt s v o = (h : Held) × (o ≡ Some h) × Here at s v h.row.now h.named.entries

  found_at : (s : Shape) (v : Doc) (o : Option Held) (h : Held) → o ≡ Some h → Here at s v h.row.now h.named.entries → FoundAt s v o
  found_at Plain v o h e is = tt
  found_at One v o h e is = (h, e, is)
  found_at Several v o h e is = (h, e, is)
  found_at Named v o h e is = (h, e, is)

  test_true : (a b : List ℕ) → a ≡ b → bytes_eq a b ≡ true
  test_true a b e = (bytes_eq-Decides a b).1 e

  -- the member itself comes first
  begins_first : (s : Shape) (k : List ℕ) (v : Doc) (row : List ℕ) (Rest : List Held → Type 0) (hs : List Held) → shape_of (keyword_of k) ≡ s → StandFor at row (held_in s v) → Begins s k v row Rest hs → FoundAt s v (held_named k hs)
  begins_first Plain k v row Rest hs e stand b = tt
  begins_first One k v row Rest [] e stand b = absurd b
  begins_first One k v row Rest (h ∷ hs) e stand b = found_at One v _ h (rw (test_true h.name.now k b.0.name) refl) (here One k v row h e b.0 stand)
  begins_first Several k v row Rest [] e stand b = absurd b
  begins_first Several k v row Rest (h ∷ hs) e stand b = found_at Several v _ h (rw (test_true h.name.now k b.0.name) refl) (here Several k v row h e b.0 stand)
  begins_first Named k v row Rest [] e stand b = absurd b
  begins_first Named k v row Rest (h ∷ hs) e stand b = found_at Named v _ h (rw (test_true h.name.now k b.0.name) refl) (here Named k v row h e b.0 stand)

  -- another member may come first
  begins_later : (s : Shape) (l : List ℕ) (d : Doc) (row : List ℕ) (Rest : List Held → Type 0) (Wanted : Option Held → Type 0) (k : List ℕ) (hs : List Held) → bytes_eq l k ≡ false → Begins s l d row Rest hs
      → ((more : List Held) → Rest more → Wanted (held_named k more)) → Wanted (held_named k hs)
  begins_later Plain l d row Rest Wanted k hs other b on = on hs b
  begins_later One l d row Rest Wanted k [] other b on = absurd b
  begins_later One l d row Rest Wanted k (h ∷ hs) other b on = rw (ap (λ x. bytes_eq x k) b.0.name ∙ other) (on hs b.1)
  begins_later Several l d row Rest Wanted k [] other b on = absurd b
  begins_later Several l d row Rest Wanted k (h ∷ hs) other b on = rw (ap (λ x. bytes_eq x k) b.0.name ∙ other) (on hs b.1)
  begins_later Named l d row Rest Wanted k [] other b on = absurd b
  begins_later Named l d row Rest Wanted k (h ∷ hs) other b on = rw (ap (λ x. bytes_eq x k) b.0.name ∙ other) (on hs b.1)

  pub member_held : (k : List ℕ) (ms : Members) (rows : List (Vec ℕ Global)) (hs : List Held) (v : Doc) → AreRows at ms rows → Holds ms rows hs → get_member k ms ≡ Some v → FoundAt (shape_of (keyword_of k)) v (held_named k hs)
  member_held k no_members rows hs v are holds g = absurd cc
  member_held k (member l d ms) [] hs v are holds g = absurd are
  member_held k (member l d ms) (row ∷ rows) hs v are holds g = by_test (bytes_eq l k) refl (λ more rest f. member_held k ms rows more v are.1 rest f)
    where
      by_test : (b : Bool) → bytes_eq l k ≡ b → ((more : List Held) → Holds ms rows more → get_member k ms ≡ Some v → FoundAt (shape_of (keyword_of k)) v (held_named k more)) → FoundAt (shape_of (keyword_of k)) v (held_named k hs)
      by_test true t rest =
          let same : l ≡ k = (bytes_eq-Decides l k).0 t in
          let found : Some d ≡ Some v = sym (get_member-first l d ms) ∙ ap (λ x. get_member x (member l d ms)) same ∙ g in
          let is : d ≡ v = cc in
          let first = begins_first (shape_of (keyword_of l)) l d row.items (λ more. Holds ms rows more) hs refl are.0 holds in
          subst (λ x. FoundAt (shape_of (keyword_of k)) x (held_named k hs)) is (subst (λ x. FoundAt (shape_of (keyword_of x)) d (held_named x hs)) same first)
      by_test false t rest =
          let g' : get_member k ms ≡ Some v = sym (get_member-later k l d ms (λ (same : k ≡ l). (let s = (bytes_eq-Decides l k).1 (sym same) in absurd cc))) ∙ g in
          begins_later (shape_of (keyword_of l)) l d row.items (λ more. Holds ms rows more) (FoundAt (shape_of (keyword_of k)) v) k hs t holds (λ more h. rest more h g')
