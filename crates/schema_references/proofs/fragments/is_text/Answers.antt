use Rattle.std.proofs.Common.{◌≡◌, ◌+◌, ◌∙◌, [], take, refl, sym, arith}
use Rattle.std.specs.Prelude.{slice_set}
use Rattle.std.proofs.lemmas.List.{length-set, take_more_set}
use Rattle.percent_encoding.specs.Iter.{decoded_bytes}
use Rattle.schema_references.proofs.Characters.{at_end, counted, cut_if, ends, goes_on, too_long, whole_if}
use Rattle.schema_references.proofs.fragments.is_text.Goals as goal

pub returns-then-len-eq-MOST : goal.returns-then-len-eq-MOST
returns-then-len-eq-MOST c =
    let l = c.loop-byte in
    too_long (take l.len l.begun) (decoded_bytes l.byte-iterator) (decoded_bytes c.args.bytes) (counted l.begun l.len l.invariant.0 l.invariant.1 ∙ c.if-len-eq-MOST.true) l.invariant.2

pub loop-byte-preserved-then-is_ok : goal.loop-byte-preserved-then-is_ok
loop-byte-preserved-then-is_ok c =
    let l = c.loop-byte in
    let more = take (l.len + 1) (slice_set l.begun l.len c.in-Some.byte) in
    let is = take_more_set l.begun l.len c.in-Some.byte (omega (arith, l.invariant.0, l.invariant.1, c.if-len-eq-MOST.false)) in
    (length-set l.begun l.len c.in-Some.byte ∙ l.invariant.0, omega arith, ends (take l.len l.begun) (decoded_bytes l.byte-iterator) (decoded_bytes c.args.bytes) more (decoded_bytes c.next.new.self) c.in-Some.byte l.invariant.2 c.in-Some.ensures.steps is [] refl (whole_if _ _ more c.from_utf8.result c.from_utf8.ensures.cases (sym c.if-is_ok.ensures.value)))

pub loop-byte-preserved : goal.loop-byte-preserved
loop-byte-preserved c =
    let l = c.loop-byte in
    let more = take (l.len + 1) (slice_set l.begun l.len c.in-Some.byte) in
    let is = take_more_set l.begun l.len c.in-Some.byte (omega (arith, l.invariant.0, l.invariant.1, c.if-len-eq-MOST.false)) in
    (length-set l.begun l.len c.in-Some.byte ∙ l.invariant.0, omega (arith, l.invariant.1, c.if-len-eq-MOST.false), goes_on (take l.len l.begun) (decoded_bytes l.byte-iterator) (decoded_bytes c.args.bytes) more (decoded_bytes c.next.new.self) c.in-Some.byte l.invariant.2 c.in-Some.ensures.steps is (cut_if _ _ more c.from_utf8.result c.from_utf8.ensures.cases (sym c.if-is_ok.ensures.value)))

pub returns : goal.returns
returns c =
    let l = c.loop-byte in
    at_end (take l.len l.begun) (decoded_bytes l.byte-iterator) (decoded_bytes c.args.bytes) l.len (counted l.begun l.len l.invariant.0 l.invariant.1) c.in-None.ensures.steps.0 l.invariant.2
