-- The view of marks in memory, and what takes one back.
use Rattle.std.specs.Prelude.{◌≡◌, ◌-◌, ◌<◌, List, [], ◌∷◌, length, map, take, insert, string_bytes, ⊤}
use Rattle.doc_changes.specs.Marks.{Mark}
use Rattle.doc_changes.specs.declared.mark.Mark.{Mark as Held}
use Rattle.doc_changes.specs.declared.marks.Unset.{Unset}
use Rattle.doc_changes.specs.declared.marks.Unset.TheVariants.{Added, Replaced}
use Rattle.doc_changes.specs.declared.marks.Marks.TheInside.{Inside}

-- a mark, without its place in memory
abbrev pub mark_in : Held → Mark
mark_in m = record { key = string_bytes m.key; value = string_bytes m.value; seq = m.seq }

abbrev pub marks_seen : Inside → List Mark
marks_seen m = map mark_in m.held.items

-- the marks before the newest was set
abbrev pub marks_before : Unset → List Mark → List Mark
marks_before Added ms = take (length ms - 1) ms
marks_before (Replaced index gone) ms = insert (take (length ms - 1) ms) index (mark_in gone)

-- what taking it back asks of the marks
abbrev pub IsSet : Unset → List Mark → Type 0
IsSet Added ms = 0 < length ms
IsSet (Replaced index gone) ms = index < length ms

-- taking a mark back leads from the new marks to the old ones
pub record TakesMarkBack (u : Unset) (old new : List Mark) : Type 0 where
  pub back : marks_before u new ≡ old
  pub there : IsSet u new

-- the marks before several were set, the newest last
abbrev pub all_before : List Unset → List Mark → List Mark
all_before [] ms = ms
all_before (u ∷ us) ms = marks_before u (all_before us ms)

-- each of them can be taken back after the later ones
abbrev pub AreSet : List Unset → List Mark → Type 0
AreSet [] ms = ⊤
AreSet (u ∷ us) ms = IsSet u (all_before us ms) × AreSet us ms
