-- Bytes that are the compact text of a patch, or begin with that of an operation.
use Rattle.std.specs.Prelude.{◌≡◌, ◌≤◌, ℕ, Bool, List, [], ◌∷◌, ◌++◌, Some, Ok, codes, ⊤}
use Rattle.std.specs.Str.{IsUtf8}
use Rattle.json.specs.Print.{quoted}
use Rattle.doc_edits.specs.Edit.{Tokens}
use Rattle.doc_edits.specs.Operation.{Operation}
use Rattle.doc_patch.specs.Reading.{operation_of, operations_of}
use Rattle.doc_pointer.specs.Reading.{pointer_of}
use Rattle.doc_tree.specs.Doc.{Doc, Elements, no_elements, element, height, elements_height}
use Rattle.doc_tree.specs.Sound.{IsSound, AreSound}
use Rattle.doc_tree.specs.Text.{text_of, elements_text}

-- the bytes are the compact text of a document within the limits, which spells these operations
pub record IsTextOfPatch (bytes : List ℕ) (os : List Operation) : Type 0 where
  pub ops : Doc
  pub text : bytes ≡ text_of ops
  pub read : operations_of ops ≡ Ok os
  pub sound : IsSound ops
  pub low : height ops ≤ 66

-- each of the elements spells the operation at its index
abbrev pub Spell : Elements → List Operation → Type 0
Spell no_elements [] = ⊤
Spell (element d ds) (o ∷ os) = (operation_of d ≡ Ok o) × Spell ds os
Spell _ _ = ⊥

-- the bytes are the text of elements that spell these operations, up to the closing bracket; `later` says whether an
-- element comes before
pub record IsTextOfOperations (later : Bool) (bytes : List ℕ) (os : List Operation) : Type 0 where
  pub ds : Elements
  pub text : bytes ≡ elements_text later ds
  pub spell : Spell ds os
  pub sound : AreSound ds
  pub low : elements_height ds ≤ 65

-- the bytes are the text of a document that spells this operation, and what follows it
pub record BeginsWithOperation (bytes : List ℕ) (o : Operation) (rest : List ℕ) : Type 0 where
  pub op : Doc
  pub text : bytes ≡ text_of op ++ rest
  pub read : operation_of op ≡ Ok o
  pub sound : IsSound op
  pub low : height op ≤ 65

-- the bytes are a quoted text that writes this pointer, and what follows it
pub record BeginsWithPointer (bytes : List ℕ) (tokens : Tokens) (rest : List ℕ) : Type 0 where
  pub written : List ℕ
  pub text : bytes ≡ quoted written ++ rest
  pub read : pointer_of written ≡ Some tokens
  pub sound : IsUtf8 written

-- the text of an operation from its beginning, if these bytes follow `{"from":`
abbrev pub before_from : List ℕ → List ℕ
before_from rest = 123 ∷ (quoted (codes "from") ++ 58 ∷ rest)

-- the bytes are the text of this value of an operation, and what follows it
pub record BeginsWithValue (bytes : List ℕ) (v : Doc) (rest : List ℕ) : Type 0 where
  pub text : bytes ≡ text_of v ++ rest
  pub sound : IsSound v
  pub low : height v ≤ 64

-- the bytes are the text after `"path":` of an operation with this pointer and this value, and what follows the
-- operation
pub record BeginsWithPathAndValue (bytes : List ℕ) (tokens : Tokens) (v : Doc) (rest : List ℕ) : Type 0 where
  pub behind_path : List ℕ
  pub behind_value : List ℕ
  pub path : BeginsWithPointer bytes tokens behind_path
  pub value : BeginsWithValue behind_value v (125 ∷ rest)
  pub between : behind_path ≡ 44 ∷ (quoted (codes "value") ++ 58 ∷ behind_value)
