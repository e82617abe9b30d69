-- Sound trees in a list or in an ordered map stand for sound elements and members.
use Rattle.std.proofs.Common.{◌≡◌, List, [], ◌∷◌, ◌++◌, String, Global, Less, string_bytes, string_cmp, Result, Ok, Err, IfOk, sym, subst}
use Rattle.std.proofs.lemmas.Str.{IsUtf8-string_bytes}
use Rattle.std.specs.Prelude.{⊤}
use Rattle.std.specs.List.{AllByRecursion}
use Rattle.std.specs.List.Sorted.{IsStrictlySortedBy}
use Rattle.std.specs.Map.{keys_of}
use Rattle.doc_tree.specs.Doc.{Doc}
use Rattle.doc_tree.specs.Sound.{IsBefore, IsSound, AreSound, MembersAreSound}
use Rattle.doc_tree.specs.TreeView.{view, elements_view, members_view}
use Rattle.doc_tree.specs.declared.tree.Tree.{Tree}
use Rattle.doc_tree.proofs.Views.{Entry}

-- the trees of the entries are sound
abbrev pub AllSound : List Entry → Type 0
AllSound [] = ⊤
AllSound (e ∷ es) = IsSound (view e.1) × AllSound es

pub AllSound-push : (es : List Entry) (e : Entry) → AllSound es → IsSound (view e.1) → AllSound (es ++ e ∷ [])
AllSound-push [] e h sound = (sound, tt)
AllSound-push (x ∷ es) e h sound = (h.0, AllSound-push es e h.1 sound)

pub AreSound-push : (ts : List Tree) (t : Tree) → AreSound (elements_view ts) → IsSound (view t) → AreSound (elements_view (ts ++ t ∷ []))
AreSound-push [] t h sound = (sound, tt)
AreSound-push (u ∷ ts) t h sound = (h.0, AreSound-push ts t h.1 sound)

before : (k : String Global) (es : List Entry) → AllByRecursion (λ y. string_cmp k y ≡ Less) (keys_of es) → IsBefore (string_bytes k) (members_view es)
before k [] h = tt
before k (e ∷ es) h = (h.0, before k es h.1)

pub MembersAreSound-members_view : (es : List Entry) → IsStrictlySortedBy string_cmp (keys_of es) → AllSound es → MembersAreSound (members_view es)
unfolding IsStrictlySortedBy
MembersAreSound-members_view [] h s = tt
MembersAreSound-members_view (e ∷ es) h s = (IsUtf8-string_bytes e.0, s.0, before e.0 es h.0, MembersAreSound-members_view es h.1 s.1)

-- a tree for a sound document is sound
pub sound_copy : {E : Type 0} (r : Result Tree E) (d : Doc) → IfOk r (λ t. view t ≡ d) → IfOk r (λ _. IsSound d) → IfOk r (λ t. IsSound (view t))
sound_copy (Ok t) d same sound = subst IsSound (sym same) sound
sound_copy (Err e) d same sound = tt
