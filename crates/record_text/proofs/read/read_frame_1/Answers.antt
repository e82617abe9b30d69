use Rattle.std.proofs.Common.{rules, IfOk, IfErr, subst, sym}
use Rattle.record_text.specs.Change.{AsksNone, change_of, object_of}
use Rattle.record_text.specs.Fault.{IsReadFault_1, IsTextOf}
use Rattle.record_text.specs.Frame.{BeginsWith_1}
use Rattle.record_text.specs.declared.fault.RecordFault.TheVariants.{Shape}
use Rattle.record_text.proofs.Frames.{begins_1, no_fault_1, one_frame_1, reads_1}
use Rattle.record_text.proofs.Objects.{object_of-injective}
use Rattle.record_text.proofs.read.read_frame_1.Goals as goal

pub returns-in_err-command-clause-read : goal.returns-in_err-command-clause-read
returns-in_err-command-clause-read c =
    let bytes = c.args.bytes.now in
    let r = c.from_residual-in_err-command.result in
    let ok : IfOk r (λ p. BeginsWith_1 bytes (change_of p.0) p.1) = search rules in
    let err : IfErr r (λ e. IsReadFault_1 e bytes) = search rules in
    reads_1 bytes r ok err

pub returns-then-not-asks_none-clause-err : goal.returns-then-not-asks_none-clause-err
returns-then-not-asks_none-clause-err c =
    let b = c.in_ok-body.ensures in
    let asked = change_of c.in_ok-command.command in (
      b.0,
      (
        object_of asked,
        subst (λ body. IsTextOf body (object_of asked)) b.1 c.in_ok-command.ensures,
        λ d none is. let no : AsksNone asked → ⊥ = search rules in no (subst AsksNone (sym (object_of-injective asked d is)) none),
      ),
    )

pub returns-then-not-asks_none-clause-read : goal.returns-then-not-asks_none-clause-read
returns-then-not-asks_none-clause-read c = λ d n b. no_fault_1 c.args.bytes.now d n Shape b (returns-then-not-asks_none-clause-err c)

pub returns-clause-ok : goal.returns-clause-ok
returns-clause-ok c =
    let b = c.in_ok-body.ensures in
    let none : AsksNone (change_of c.in_ok-command.command) = search rules in
    begins_1 c.args.bytes.now c.in_ok-body.body.now (change_of c.in_ok-command.command) b.0 b.1 b.2 c.type_inv.bytes c.in_ok-command.ensures none

pub returns-clause-read : goal.returns-clause-read
returns-clause-read c = λ d n b. one_frame_1 c.args.bytes.now (change_of c.in_ok-command.command) d _ n (returns-clause-ok c) b
