use Rattle.std.proofs.Common.{rules, ◌<◌, ◌^◌, IfOk, IfErr}
use Rattle.record_text.specs.Change.{change_of}
use Rattle.record_text.specs.Fault.{IsReadFault}
use Rattle.record_text.specs.Frame.{BeginsWith, entry}
use Rattle.record_text.proofs.Frames.{begins, one_frame, reads}
use Rattle.record_text.proofs.read.read_frame.Goals as goal

pub returns-in_err-command-clause-read : goal.returns-in_err-command-clause-read
returns-in_err-command-clause-read c =
    let bytes = c.args.bytes.now in
    let r = c.from_residual-in_err-command.result in
    let ok : IfOk r (λ p. BeginsWith bytes (entry p.1 (change_of p.0)) p.2) = search rules in
    let err : IfErr r (λ e. IsReadFault e bytes) = search rules in
    reads bytes r ok err

pub returns-clause-ok : goal.returns-clause-ok
returns-clause-ok c =
    let b = c.in_ok-body.ensures in
    let fits : c.in_ok-seq.seq < 2 ^ 64 = search rules in
    begins c.args.bytes.now c.in_ok-body.body.now c.in_ok-seq.seq (change_of c.in_ok-command.command) b.0 b.1 b.2 c.in_ok-seq.ensures.1 fits c.type_inv.bytes c.in_ok-command.ensures

pub returns-clause-read : goal.returns-clause-read
returns-clause-read c = λ e n b. one_frame c.args.bytes.now (entry c.in_ok-seq.seq (change_of c.in_ok-command.command)) e _ n (returns-clause-ok c) b
