-- A change of small parts is framed.
use Rattle.std.proofs.Common.{ℕ, ◌+◌, ◌<◌, ◌≤◌, ◌^◌, pos, None, Some, length, codes, arith}
use Rattle.std.proofs.lemmas.Fmt.{length-decimal-le}
use Rattle.json.specs.Print.{quoted, escape_byte}
use Rattle.doc_tree.specs.Doc.{int, text, member, no_members}
use Rattle.doc_tree.specs.Sound.{IsSound}
use Rattle.doc_tree.specs.Text.{text_of}
use Rattle.doc_tree.proofs.Sizes.{size-object}
use Rattle.record_text.specs.Change.{Change, create, patch, set_schema, delete, object_of, IsSpelled}
use Rattle.record_text.specs.Frame.{IsFramed, body_of}
use Rattle.record_text.specs.Parts.{HasSmallParts, name_of, trees_of, texts_len}
use Rattle.record_text.proofs.Objects.{IsSound-create, IsSound-patch, IsSound-set_schema, IsSound-delete}

sound : (c : Change) → HasSmallParts c → IsSound (object_of c)
sound (create name schema doc) h = IsSound-create name schema doc h.named h.sound.0 h.sound.1.0
sound (patch name ops if_rev) h = IsSound-patch name ops if_rev h.spelled h.named h.sound.0
sound (set_schema name schema) h = IsSound-set_schema name schema h.named h.sound.0
sound (delete name) h = IsSound-delete name h.named

digits : (r : ℕ) → r < 2 ^ 63 → length (text_of (int (pos r))) ≤ 19
digits r low = length-decimal-le 19 r (omega arith) (omega (arith, low)) (omega (arith, low))

body_len : (c : Change) → IsSpelled c → length (body_of c) ≤ length (quoted (name_of c)) + texts_len (trees_of c) + 59
unfolding escape_byte
body_len (create name schema doc) low =
    let whole = size-object (member (codes "cmd") (text (codes "create")) (member (codes "doc") doc (member (codes "name") (text name) (member (codes "schema") schema no_members)))) in
    omega (arith, whole)
body_len (patch name ops None) low =
    let whole = size-object (member (codes "cmd") (text (codes "patch")) (member (codes "name") (text name) (member (codes "ops") ops no_members))) in
    omega (arith, whole)
body_len (patch name ops (Some r)) low =
    let whole = size-object (member (codes "cmd") (text (codes "patch")) (member (codes "if_rev") (int (pos r)) (member (codes "name") (text name) (member (codes "ops") ops no_members)))) in
    omega (arith, whole, digits r low)
body_len (set_schema name schema) low =
    let whole = size-object (member (codes "cmd") (text (codes "schema")) (member (codes "name") (text name) (member (codes "schema") schema no_members))) in
    omega (arith, whole)
body_len (delete name) low =
    let whole = size-object (member (codes "cmd") (text (codes "delete")) (member (codes "name") (text name) no_members)) in
    omega (arith, whole)

pub framed : (c : Change) → HasSmallParts c → IsFramed c
framed c h = let len = body_len c h.spelled in let short = h.short in record { sound = sound c h; low = h.low; small = omega (arith, len, short) }
