use Rattle.std.proofs.Common.{sym, arith}
use Rattle.std.specs.Prelude.{string_bytes}
use Rattle.path_words.proofs.Loops.{quoted_begins, characters_on, characters_done, characters_refused, characters_over}
use Rattle.path_words.proofs.strings.quoted.Goals as goal

pub loop-init : goal.loop-init
loop-init c = rw c.new-found.ensures.bytes (quoted_begins c.args.quote _ c.args.text.now (omega arith))

pub returns-in-Some : goal.returns-in-Some
returns-in-Some c = characters_done c.args.quote (string_bytes c.loop.found) _ c.loop.counter c.loop.rest.now _ c.loop.invariant c.in-Some.end.now (omega arith) (sym c.in-Some.ensures)

pub returns-in_default-character : goal.returns-in_default-character
returns-in_default-character c = characters_refused c.args.quote (string_bytes c.loop.found) _ c.loop.counter c.loop.rest.now _ c.loop.invariant (omega arith) (sym c.in_default.ensures) (sym c.in_default-character.ensures)

pub loop-preserved : goal.loop-preserved
loop-preserved c =
    rw c.in_ok-push.ensures.bytes
    (characters_on c.args.quote (string_bytes c.loop.found) _ c.loop.counter c.loop.rest.now _ c.loop.invariant c.in-Some-character.next c.in-Some-character.more.now (omega arith)
    (sym c.in_default.ensures) (sym c.in-Some-character.ensures))

pub returns : goal.returns
returns c = characters_over c.args.quote (string_bytes c.loop.found) _ c.loop.counter c.loop.rest.now _ c.loop.invariant (omega arith)
