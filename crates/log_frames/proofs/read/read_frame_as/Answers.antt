use Rattle.std.proofs.Common.{rules, IfOk, IfErr}
use Rattle.record_text.specs.Change.{change_of}
use Rattle.record_text.specs.Frame.{entry}
use Rattle.log_frames.specs.Fault.{IsFaultAs}
use Rattle.log_frames.specs.Kinds.{BeginsAs, logged}
use Rattle.log_frames.proofs.Frames.{begins, one_frame, reads}
use Rattle.log_frames.proofs.read.read_frame_as.Goals as goal

pub returns-in_err-parts-clause-read : goal.returns-in_err-parts-clause-read
returns-in_err-parts-clause-read c =
    let bytes = c.args.bytes.now in
    let r = c.from_residual.result in
    let ok : IfOk r (λ p. BeginsAs bytes (logged p.0 (entry p.2 (change_of p.1))) p.3) = search rules in
    let err : IfErr r (λ e. IsFaultAs e bytes) = search rules in
    reads bytes r ok err

pub returns-in_err-command-clause-read : goal.returns-in_err-command-clause-read
returns-in_err-command-clause-read c =
    let bytes = c.args.bytes.now in
    let r = c.from_residual-in_err-command.result in
    let ok : IfOk r (λ p. BeginsAs bytes (logged p.0 (entry p.2 (change_of p.1))) p.3) = search rules in
    let err : IfErr r (λ e. IsFaultAs e bytes) = search rules in
    reads bytes r ok err

pub returns-clause-ok : goal.returns-clause-ok
returns-clause-ok c =
    let p = c.in_ok-parts.parts in
    begins c.args.bytes.now p.body.now p.kind p.seq (change_of c.in_ok-command.command) c.in_ok-parts.ensures c.type_inv.bytes c.in_ok-command.ensures

pub returns-clause-read : goal.returns-clause-read
returns-clause-read c = λ l n b.
    let p = c.in_ok-parts.parts in
    one_frame c.args.bytes.now (logged p.kind (entry p.seq (change_of c.in_ok-command.command))) l _ n (returns-clause-ok c) b
