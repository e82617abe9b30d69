use Rattle.std.proofs.Common.{◌≤◌, length, arith, rules}
use Rattle.std.proofs.lemmas.List.{length-map}
use Rattle.doc_edits.specs.Meaning.{meaning}
use Rattle.doc_patch.specs.Meaning.{meanings}
use Rattle.doc_patch.proofs.PlainTexts.{the_patch}
use Rattle.doc_patch.proofs.patch.Patch.read_unescaped.Goals as goal

pub returns : goal.returns
returns c =
    let v = c.in_ok-operations.operations in
    let low = c.if-len-gt-PATCH_OPERATIONS.false in
    let len = c.len.ensures in
    let all = v.ok.0 in
    let same = length-map v.items meaning in
    let short : length c.args.bytes.now ≤ 2_097_152 = search rules in
    let few : length (meanings v.items) ≤ 4_096 = omega (arith, low, len, all, same) in
    the_patch c.args.bytes.now c.in_ok-strip_bytes.field-0.now (meanings v.items) c.in_ok-strip_bytes.ensures c.in_ok-operations.ensures short few
