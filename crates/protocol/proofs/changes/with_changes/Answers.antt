use Rattle.std.proofs.Common.{sym, ◌∙◌, arith}
use Rattle.protocol.proofs.Told.{begins, ends, ends_at, goes}
use Rattle.protocol.proofs.changes.with_changes.Goals as goal

pub frames-init : goal.frames-init
frames-init c = λ logged read are. begins logged c.args.line.items c.args.frames.now read are

pub frames-smaller : goal.frames-smaller
frames-smaller c = omega (arith, c.in-Some.ensures.length)

pub frames-preserved : goal.frames-preserved
frames-preserved c = λ logged read are.
    let l = c.frames in
    let f = c.in-Some.frame in
    goes logged c.args.line.items l.longer.items l.later l.rest.now f.kind f.seq f.body.now c.in-Some.behind.now c.in-Some.ensures.begins (omega (arith, c.in-Some.ensures.length))
    c.in_ok-parted.parted.items c.in_ok-longer.longer.items (l.invariant logged read are) (sym c.is_noted.ensures ∙ c.if-is_noted.false) c.in_ok-parted.ensures c.in_ok-longer.ensures

pub returns-then-is_noted : goal.returns-then-is_noted
returns-then-is_noted c = λ logged read are.
    let l = c.frames in
    let f = c.in-Some.frame in
    ends_at logged c.args.line.items l.longer.items l.later l.rest.now f.kind f.seq f.body.now c.in-Some.behind.now c.in-Some.ensures.begins (omega (arith, c.in-Some.ensures.length))
    c.in_ok-ended.ended.items (l.invariant logged read are) (sym c.is_noted.ensures ∙ c.if-is_noted.true) c.in_ok-ended.ensures

pub returns : goal.returns
returns c = λ logged read are.
    let l = c.frames in
    ends logged c.args.line.items l.longer.items l.later l.rest.now c.in_ok-closed.closed.items (l.invariant logged read are) c.in_default.ensures.begins c.in_ok-closed.ensures
