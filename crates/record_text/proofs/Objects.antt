-- The objects of changes: told apart, sound where their trees are, and one higher.
use Rattle.std.proofs.Common.{◌≡◌, ℕ, suc, List, Option, None, Some, Less, nat_cmp, codes, refl, arith}
use Rattle.std.specs.Cmp.Lexicographic.{slice_cmp}
use Rattle.std.specs.Str.{IsUtf8}
use Rattle.json.proofs.Printed.Utf8.{IsUtf8-are_ascii}
use Rattle.doc_tree.specs.Doc.{Doc, height}
use Rattle.doc_tree.specs.Sound.{IsSound, MembersAreSound}
use Rattle.record_text.specs.Change.{Change, create, patch, set_schema, delete, name_and, object_of, trees_height, IsSpelled}

pub object_of-injective : (c d : Change) → object_of c ≡ object_of d → c ≡ d
object_of-injective (create n s t) (create m u v) e = cc
object_of-injective (patch n s None) (patch m u None) e = cc
object_of-injective (patch n s (Some r)) (patch m u (Some t)) e = cc
object_of-injective (set_schema n s) (set_schema m u) e = cc
object_of-injective (delete n) (delete m) e = cc
object_of-injective _ _ e = absurd (cc)

pub height-object_of : (c : Change) → height (object_of c) ≡ suc (trees_height c)
height-object_of (create n s t) = omega arith
height-object_of (patch n s None) = omega arith
height-object_of (patch n s (Some r)) = omega arith
height-object_of (set_schema n s) = omega arith
height-object_of (delete n) = omega arith

sound_name_and : (name k : List ℕ) (d : Doc) → IsUtf8 name → slice_cmp nat_cmp (codes "name") k ≡ Less → IsUtf8 k → IsSound d → MembersAreSound (name_and name k d)
sound_name_and name k d n before utf8 sound = (IsUtf8-are_ascii _ refl, n, (before, tt), (utf8, sound, tt, tt))

pub IsSound-create : (name : List ℕ) (schema doc : Doc) → IsUtf8 name → IsSound schema → IsSound doc → IsSound (object_of (create name schema doc))
IsSound-create name schema doc n s d =
    (IsUtf8-are_ascii _ refl, IsUtf8-are_ascii _ refl, (refl, (refl, (refl, tt))), (IsUtf8-are_ascii _ refl, d, (refl, (refl, tt)), sound_name_and name (codes "schema") schema n refl (IsUtf8-are_ascii _ refl) s))

pub IsSound-patch : (name : List ℕ) (ops : Doc) (if_rev : Option ℕ) → IsSpelled (patch name ops if_rev) → IsUtf8 name → IsSound ops → IsSound (object_of (patch name ops if_rev))
IsSound-patch name ops (Some r) low n o = (
  IsUtf8-are_ascii _ refl,
  IsUtf8-are_ascii _ refl,
  (refl, (refl, (refl, tt))),
  (IsUtf8-are_ascii _ refl, omega (arith, low), (refl, (refl, tt)), sound_name_and name (codes "ops") ops n refl (IsUtf8-are_ascii _ refl) o),
)
IsSound-patch name ops None low n o = (IsUtf8-are_ascii _ refl, IsUtf8-are_ascii _ refl, (refl, (refl, tt)), sound_name_and name (codes "ops") ops n refl (IsUtf8-are_ascii _ refl) o)

pub IsSound-set_schema : (name : List ℕ) (schema : Doc) → IsUtf8 name → IsSound schema → IsSound (object_of (set_schema name schema))
IsSound-set_schema name schema n s = (IsUtf8-are_ascii _ refl, IsUtf8-are_ascii _ refl, (refl, (refl, tt)), sound_name_and name (codes "schema") schema n refl (IsUtf8-are_ascii _ refl) s)

pub IsSound-delete : (name : List ℕ) → IsUtf8 name → IsSound (object_of (delete name))
IsSound-delete name n = (IsUtf8-are_ascii _ refl, IsUtf8-are_ascii _ refl, (refl, tt), (IsUtf8-are_ascii _ refl, n, tt, tt))
