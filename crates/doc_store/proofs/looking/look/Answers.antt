use Rattle.std.proofs.Common.{sym}
use Rattle.doc_store.specs.Found.{carried_in}
use Rattle.doc_store.proofs.looking.look.Goals as goal

pub returns-clause-stands : goal.returns-clause-stands
returns-clause-stands g c =
    let first = c.in-Ok.found.0 in
    let bytes = c.in-Ok.found.1.items in
    let was = c.in-Ok.ensures.found in
    rw (c.into_device.ensures) (λ honest. record { carried = carried_in first bytes; carries = was.loaded.carries honest; seq_is = sym was.seq_is; profile_is = was.profile_is; holds = was.holds })

pub returns-clause-notice : goal.returns-clause-notice
returns-clause-notice g c = rw (c.into_device.ensures) (λ honest. c.in-Ok.ensures.notice honest)
