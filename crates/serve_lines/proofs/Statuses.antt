-- What a status tells.
use Rattle.std.proofs.Common.{◌≡◌, ℕ, List, [], ◌∷◌, Option, None, Some, refl, codes, pos}
use Rattle.doc_tree.specs.Doc.{int, object}
use Rattle.doc_pointer.specs.Place.{resolve}
use Rattle.doc_store.specs.declared.status.Status.{Status}
use Rattle.status_lines.specs.Status.{status_members}

-- it tells the number of changes
pub tells_seq : (s : Status) (id : Option (List ℕ)) → resolve (codes "seq" ∷ []) (object (status_members s id)) ≡ Some (int (pos s.seq))
tells_seq s None = refl
tells_seq s (Some id) = refl
