use Rattle.std.proofs.Common.{◌∙◌, ap}
use Rattle.sector_device.specs.History.{seen_after}
use Rattle.sector_device.specs.declared.history.History.{History}
use Rattle.doc_store.specs.declared.opening.Strictness.TheVariants.{AnyState}
use Rattle.file_programs.proofs.Reading.{read_in, refused_for, refused_in}
use Rattle.file_programs.proofs.programs.deep.find.Goals as goal

pub returns-in-Ok-clause-found : goal.returns-in-Ok-clause-found
returns-in-Ok-clause-found c = λ held was.
    let looked = c.in-Ok.looked in
    (read_in held c.args.device looked.device looked.machine was c.in-Ok.ensures.stands, c.in-Ok.ensures.good)

pub returns-then-fault-eq-MEMORY-clause-refused : goal.returns-then-fault-eq-MEMORY-clause-refused
returns-then-fault-eq-MEMORY-clause-refused c = λ held was. refused_in AnyState held c.args.device c.in-Err.fault.device c.in-Err.fault.number was c.in-Err.ensures.refused

pub returns-else-fault-eq-MEMORY-clause-found : goal.returns-else-fault-eq-MEMORY-clause-found
returns-else-fault-eq-MEMORY-clause-found c = λ held was.
    let fault = c.in-Err.fault in
    refused_for held c.args.device fault.device fault.number was c.if-fault-eq-MEMORY.false c.in-Err.ensures.refused c.in-Err.ensures.size_err

pub returns-in-Ok-clause-seen : goal.returns-in-Ok-clause-seen
returns-in-Ok-clause-seen c = λ held was honest. c.in-Ok.ensures.seen honest ∙ ap (λ (p : History). seen_after p) was

pub returns-else-fault-eq-MEMORY-clause-seen : goal.returns-else-fault-eq-MEMORY-clause-seen
returns-else-fault-eq-MEMORY-clause-seen c = λ held was honest. c.in-Err.ensures.seen_err honest ∙ ap (λ (p : History). seen_after p) was
