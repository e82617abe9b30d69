use Rattle.std.proofs.Common.{◌≡◌, map, take, string_bytes}
use Rattle.doc_changes.proofs.documents.Documents.list.Given as goal

abbrev pub invariant-loop-name : goal.invariant-loop-name
invariant-loop-name l = map (λ n. n.now) l.names.items ≡ map string_bytes (take l.name-index l.keys)
