-- For the clauses within the crate: the places of a `NameMap`'s values, by which a type may hold itself through it. A map is a
-- list of names, each beside a value, and a number, its capacity.
use Rattle.std.specs.Prelude.{◌≡◌, ℕ, List, [], ◌∷◌, String, string_cmp}
use mathlib.Core.Path.{refl, sym, ap, subst}
use mathlib.Core.Former.{Former, this, const, pair, list, via, children}
use base.Stored.{gcons, coded_ℕ}
use denote.RattleType.{RattleType}
use denote.Hole.Carrier.{listed}
use denote.Hole.Fix.{over}
use denote.HoleLaws.{Alike}
use denote.HolePlaces.{Recodes, struct_places, laid}
use denote.Model.Placed.{view_places}
use denote.Param.Weighed.{Weighed, most}
use denote.Struct.Tuple.{Tuple, tuple_type}
use Rattle.std.specs.List.Sorted.{IsStrictlySortedBy, IsStrictlySortedBy-prop}
use Rattle.std.specs.Map.{values_of}
use Rattle.std.specs.contracts.alloc.Global as heap
use Rattle.std.specs.contracts.impls.GlobalAllocator.TheImpl.{ghosts}
use Rattle.std.specs.declared.alloc.Global.{Global}
use Rattle.std.specs.formers.vec.Vec as vec
use Rattle.std_collections.specs.Layout.Former.{entry, on_value, entries_puts, values_listed, keys_on_values, entries_recoded}
use Rattle.name_map.specs.Entries.{Entries, name_row}
use Rattle.name_map.specs.contracts.name.Name as name
use Rattle.name_map.specs.contracts.map.NameMap as contracts
use Rattle.name_map.specs.contracts.map.NameMap.TheInside as inside
use Rattle.name_map.specs.declared.map.NameMap.TheInside.{Inside}
use Rattle.name_map.specs.declared.map.NameMap.TheView.{view, invariant}

-- ---- the view

abbrev Parts : Former {0} → Former {0}
Parts g = pair (list (entry g (String Global))) (const ℕ)

abbrev parts : {X : Type 0} → Entries X → List (String Global × X) × ℕ
parts m = (m.entries, m.capacity)

abbrev whole : {X : Type 0} → List (String Global × X) × ℕ → Entries X
whole p = record { entries = p.0; capacity = p.1 }

abbrev pub the_former : Former {0} → Former {0}
the_former g = via (Parts g) (λ X. Entries (g.Of X)) (λ X. parts) (λ X. whole) (λ X m. refl) (λ X p. refl)

abbrev pub the_weighed : {g : Former {0}} → Weighed g → Weighed (the_former g)
the_weighed w = record {
  weight = λ X μ m. most (w.weight X μ) (values_of m.entries);
  puts = λ X μ m. entries_puts w (String Global) X μ m.entries;
}

abbrev pub the_items : (X : Type 0) → Entries X → List X
the_items X m = values_of m.entries

pub the_items_listed : (X : Type 0) (m : Entries X) → listed _ (children (the_former this) X m) ≡ the_items X m
the_items_listed X m = values_listed (String Global) X m.entries

pub the_empty : Entries ⊥
the_empty = whole ([], 0)

-- ---- the fields: a `Vec` of tuples

abbrev row_of_entry : RattleType → RattleType
row_of_entry T = Tuple (name.the_row ∷ T ∷ [])

abbrev stored : Former {0}
stored = via (vec.the_former (entry this (String Global)) Global) Inside (λ X m. m.list) (λ X v. record { list = v }) (λ X m. refl) (λ X v. refl)

module _ (R S : RattleType) (h : R.Denot → S.Denot) where
  places_of_entry : Alike R S h → Alike (row_of_entry R) (row_of_entry S) (on_value h)
  places_of_entry a = struct_places (tuple_type (name.the_row ∷ R ∷ [])) (tuple_type (name.the_row ∷ S ∷ [])) (λ n. n, (h, tt)) (on_value h) (λ e. refl) refl
      ((refl, (λ n. refl, λ n. refl)), (laid _ _ _ a, tt))

  places_of_list : Alike R S h → Alike (inside.the_row R) (inside.the_row S) (stored.map R.Denot S.Denot h)
  places_of_list a = struct_places (inside.the_type R) (inside.the_type S) (vec.mapped (on_value h), tt) _ (λ m. refl) refl
      (laid _ _ _ (vec.the_places heap.the_row ghosts (row_of_entry R) (row_of_entry S) (on_value h) (places_of_entry a)), tt)

  pub the_places : Alike R S h → Alike (contracts.the_row R) (contracts.the_row S) ((the_former this).map R.Denot S.Denot h)
  the_places a = view_places stored (the_former this) view (λ X Y k m. refl) (λ X m. refl) R.Denot S.Denot h
      (contracts.the_row R).coded (contracts.the_row S).coded (invariant R.Denot) (invariant S.Denot)
      (λ m. IsStrictlySortedBy-prop string_cmp _) (λ m. IsStrictlySortedBy-prop string_cmp _)
      (λ m. subst (IsStrictlySortedBy string_cmp) (sym (keys_on_values h m.list.items)))
      (λ m. subst (IsStrictlySortedBy string_cmp) (keys_on_values h m.list.items))
      (over (inside.the_row R)) (over (inside.the_row S)) (places_of_list a)

  pub the_codes_placed : Recodes R S h → Recodes (contracts.the_row R) (contracts.the_row S) ((the_former this).map R.Denot S.Denot h)
  the_codes_placed c m = ap (λ x. gcons x (coded_ℕ.code m.capacity)) (entries_recoded name_row R S h c m.entries)
