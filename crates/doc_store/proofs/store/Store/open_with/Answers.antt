use Rattle.std.proofs.Common.{false}
use Rattle.store_commits.proofs.Modelled.{both_models}
use Rattle.store_commits.proofs.Standing.{standing}
use Rattle.doc_store.specs.Strict.{IsTaken}
use Rattle.doc_store.proofs.Opened.{keeps_images, keeps_size, not_settled, one_state, open_moments_as, open_moments_in, opened, opened_held, read_stands, same_rides, same_size, stands_opens, was_read}
use Rattle.doc_store.proofs.Strict.{not_taken, not_true, only_old, refused_by, strictly, strictly_exact}
use Rattle.doc_store.proofs.store.Store.open_with.Goals as goal

-- ---- it wasn't found

pub returns-in-Err-clause-refused : goal.returns-in-Err-clause-refused
returns-in-Err-clause-refused g c =
    not_taken c.args.strictness (g.D.SectorDevice.disk c.args.device) (g.D.SectorDevice.disk c.in-Err.fault.device) c.in-Err.fault.number c.in-Err.ensures.refused

pub returns-in-Err-clause-exact : goal.returns-in-Err-clause-exact
returns-in-Err-clause-exact g c = λ state stands honest.
    refused_by c.args.strictness (g.D.SectorDevice.disk c.args.device).seen c.in-Err.fault.number
    (stands_opens (g.D.SectorDevice.disk c.args.device) (g.D.SectorDevice.disk c.in-Err.fault.device) c.in-Err.fault.number state (g.met.D.SectorDevice.coherent c.args.device) c.in-Err.ensures.honest_err honest stands c.in-Err.ensures.refused)

pub returns-in-Err-clause-sectors_err : goal.returns-in-Err-clause-sectors_err
returns-in-Err-clause-sectors_err g c = λ honest.
    let coherent = g.met.D.SectorDevice.coherent in
    same_size (g.D.SectorDevice.disk c.args.device) (g.D.SectorDevice.disk c.in-Err.fault.device) (coherent c.args.device (c.in-Err.ensures.honest_err honest)) (coherent c.in-Err.fault.device honest) (c.in-Err.ensures.untouched honest false)

-- ---- a commit was cut off in it, and it was asked to refuse that

pub returns-then-not-takes-clause-refused : goal.returns-then-not-takes-clause-refused
returns-then-not-takes-clause-refused g c =
    let coherent = both_models g.D.SectorDevice.disk g.met.D.SectorDevice.coherent g.met.D.SectorDevice.torn_coherent in
    let none : IsTaken c.args.strictness c.in-Ok.found.3 → ⊥ = λ taken. not_true c.takes.result c.if-not-takes.true (c.takes.ensures.1 taken) in
    rw c.into_device.ensures (strictly coherent c.in-Ok.ensures.found c.args.strictness c.in-Ok.found.3 none c.in-Ok.ensures.notice)

pub returns-then-not-takes-clause-exact : goal.returns-then-not-takes-clause-exact
returns-then-not-takes-clause-exact g c = λ state stands honest.
    let disk = g.D.SectorDevice.disk in
    let coherent = both_models g.D.SectorDevice.disk g.met.D.SectorDevice.coherent g.met.D.SectorDevice.torn_coherent in
    let none : IsTaken c.args.strictness c.in-Ok.found.3 → ⊥ = λ taken. not_true c.takes.result c.if-not-takes.true (c.takes.ensures.1 taken) in
    strictly_exact coherent c.in-Ok.ensures.found c.args.strictness c.in-Ok.found.3 none c.in-Ok.ensures.notice (rw c.into_device.ensures at honest)

pub returns-then-not-takes-clause-any_moment_err : goal.returns-then-not-takes-clause-any_moment_err
returns-then-not-takes-clause-any_moment_err g c =
    let found = c.in-Ok.ensures.found in
    rw c.into_device.ensures (λ honest rides of. only_old (g.D.SectorDevice.disk c.args.device) (g.D.SectorDevice.disk c.in-Ok.found.0.device) rides (found.keeps honest rides))

pub returns-then-not-takes-clause-sectors_err : goal.returns-then-not-takes-clause-sectors_err
returns-then-not-takes-clause-sectors_err g c =
    let disk = g.D.SectorDevice.disk in
    let coherent = g.met.D.SectorDevice.coherent in
    let found = c.in-Ok.ensures.found in
    let now = c.in-Ok.found.0 in
    rw c.into_device.ensures (λ honest. same_size (disk c.args.device) (disk now.device) (coherent c.args.device (found.honest honest)) (coherent now.device honest) (found.keeps honest false))

-- ---- its opening wasn't counted

pub returns-in-Err-settle : goal.returns-in-Err-settle
returns-in-Err-settle g c =
    let disk = g.D.SectorDevice.disk in
    let coherent = both_models g.D.SectorDevice.disk g.met.D.SectorDevice.coherent g.met.D.SectorDevice.torn_coherent in
    let found = c.in-Ok.ensures.found in
    let not = c.in-Err-settle.ensures in
    let now = c.settle.new.journal in
    let back = λ (honest : (disk now.device).honest). found.honest (not.honest.1 honest) in
    let why = rw c.deref.ensures.value at not.refused in
    let refused = not_settled coherent found not.honest not.kept why in
    rw c.into_device-in-Err-settle.ensures (record {
      opened = tt;
      notice = tt;
      taken = tt;
      standing = tt;
      good = tt;
      read = tt;
      refused = not_taken c.args.strictness (disk c.args.device) (disk now.device) c.in-Err-settle.refusal.number refused;
      exact = λ state stands honest. refused_by c.args.strictness (disk c.args.device).seen c.in-Err-settle.refusal.number (stands_opens (disk c.args.device) (disk now.device) c.in-Err-settle.refusal.number state (g.met.D.SectorDevice.coherent c.args.device) back honest stands refused);
      any_moment = tt;
      any_moment_err = open_moments_in coherent found not.honest not.kept (rw c.deref.ensures.value at not.any_moment);
      untouched = keeps_images coherent found not.honest not.kept why;
      sectors_err = λ _. keeps_size coherent found not.honest not.kept why;
      honest = tt;
      honest_err = back;
    })

-- ---- it was

pub invariant_of-store : goal.invariant_of-store
invariant_of-store g c =
    let done = c.in_default.ensures in
    record { held = opened_held (both_models g.D.SectorDevice.disk g.met.D.SectorDevice.coherent g.met.D.SectorDevice.torn_coherent) c.in-Ok.ensures.found done.honest done.kept (rw c.deref.ensures.value at done.settled); copied = tt }

pub returns-clause-opened : goal.returns-clause-opened
returns-clause-opened g c =
    let coherent = both_models g.D.SectorDevice.disk g.met.D.SectorDevice.coherent g.met.D.SectorDevice.torn_coherent in
    let done = c.in_default.ensures in
    opened coherent c.in-Ok.ensures.found done.honest done.kept (rw c.deref.ensures.value at done.settled)

pub returns-clause-read : goal.returns-clause-read
returns-clause-read g c =
    let coherent = both_models g.D.SectorDevice.disk g.met.D.SectorDevice.coherent g.met.D.SectorDevice.torn_coherent in
    let done = c.in_default.ensures in
    was_read coherent c.in-Ok.ensures.found done.honest done.kept (rw c.deref.ensures.value at done.settled)

pub returns-clause-standing : goal.returns-clause-standing
returns-clause-standing g c =
    let disk = g.D.SectorDevice.disk in
    let coherent = both_models g.D.SectorDevice.disk g.met.D.SectorDevice.coherent g.met.D.SectorDevice.torn_coherent in
    let done = c.in_default.ensures in
    let now = c.settle.new.journal in
    standing (disk now.device) now c.in-Ok.found.2 (opened_held coherent c.in-Ok.ensures.found done.honest done.kept (rw c.deref.ensures.value at done.settled))

pub returns-clause-exact : goal.returns-clause-exact
returns-clause-exact g c = λ state stands honest.
    let disk = g.D.SectorDevice.disk in
    let coherent = both_models g.D.SectorDevice.disk g.met.D.SectorDevice.coherent g.met.D.SectorDevice.torn_coherent in
    one_state (disk c.args.device).seen c.in-Ok.found.2 state (read_stands coherent c.in-Ok.ensures.found (c.in_default.ensures.honest.1 honest)) stands

pub returns-clause-any_moment : goal.returns-clause-any_moment
returns-clause-any_moment g c =
    let coherent = both_models g.D.SectorDevice.disk g.met.D.SectorDevice.coherent g.met.D.SectorDevice.torn_coherent in
    let found = c.in-Ok.ensures.found in
    let done = c.in_default.ensures in
    let settled = rw c.deref.ensures.value at done.settled in
    open_moments_as coherent found done.honest done.kept (rw c.deref.ensures.value at done.any_moment) c.settle.new.journal.rides (same_rides coherent found done.honest done.kept settled)
