use Rattle.std.proofs.Common.{◌≡◌, ◌∙◌, false, inl, inr, subst, sym}
use Rattle.std.proofs.lemmas.Result.{err_from_is_err_and}
use Rattle.sector_device.specs.Disk.{Image}
use Rattle.sector_device.specs.declared.history.History.{History}
use Rattle.sector_device.specs.History.{seen_after, disk_after}
use Rattle.slot_commits.specs.declared.found.Notice.{Notice}
use Rattle.doc_store.specs.Opening.{IsOfFormat, IsOpenedFrom, LacksRoom}
use Rattle.doc_store.specs.Strict.{IsRefusedBy, IsSaidOf}
use Rattle.store_commits.specs.Images.{Stands}
use Rattle.store_journal.specs.Models.{model}
use Rattle.store_journal.specs.Outdated.{IsOutdated}
use Rattle.doc_store.proofs.Strict.{lacks_room_by}
use Rattle.file_device.specs.File.{file_disk}
use Rattle.file_programs.specs.Files.{IsNotTaken, IsRefusedIn, IsRefusedNow}
use Rattle.file_programs.proofs.Modelled.{from_opening, from_reading, keeps_through, stands_through}
use Rattle.file_programs.proofs.NotOpened.{has_room, refused_now}
use Rattle.file_programs.proofs.opening.strictly_on.Goals as goal

pub returns-clause-opened : goal.returns-clause-opened
returns-clause-opened c = λ held was.
    let store = c.in_ok-open_with.field-0.0 in
    let e = c.in_ok-open_with.ensures in
    let old = c.args.device in
    let looked = c.in_ok-device.device in
    let newest = c.in_ok-device.ensures.ok in
    record {
      works = e.opened.works;
      found = λ honest. subst (λ (p : History). IsOpenedFrom (seen_after p) store.account) was (subst (λ (i : Image). IsOpenedFrom i store.account) (newest.keeps (e.honest honest) false).seen (e.opened.found honest));
      newest = λ honest out. newest.newest (e.honest honest) (subst (λ (p : History). IsOutdated (seen_after p)) (sym was) out);
      any_moment = λ honest. from_opening store.account.rides old store.device held was
          (stands_through (model store.account.rides (file_disk old)) (model store.account.rides (file_disk looked)) (model store.account.rides (file_disk store.device)) (newest.keeps (e.honest honest) store.account.rides) (e.any_moment honest));
      standing = e.standing;
    }

pub returns-clause-noticed : goal.returns-clause-noticed
returns-clause-noticed c = λ held was.
    let notice : Notice = c.in_ok-open_with.field-0.1 in
    let e = c.in_ok-open_with.ensures in
    let newest = c.in_ok-device.ensures.ok in
    record { said = λ honest. subst (λ (p : History). IsSaidOf (seen_after p) notice) was (subst (λ (i : Image). IsSaidOf i notice) (newest.keeps (e.honest honest) false).seen (e.notice honest)); taken = e.taken }

pub returns-clause-read : goal.returns-clause-read
returns-clause-read c = λ held was.
    let store = c.in_ok-open_with.field-0.0 in
    let e = c.in_ok-open_with.ensures in
    let read = e.read in
    let newest = c.in_ok-device.ensures.ok in
    let bytes = c.in_ok-open_with.field-0.2.items in
    record {
      version = read.version;
      version_fits = read.version_fits;
      rides_fits = read.rides_fits;
      holds = read.holds;
      found = λ honest. subst (λ (p : History). (stands : Stands store.account.state (seen_after p)) × (stands.carried.bytes ≡ bytes)) was
          (subst (λ (i : Image). (stands : Stands store.account.state i) × (stands.carried.bytes ≡ bytes)) (newest.keeps (e.honest honest) false).seen (read.carried honest));
    }

pub returns-in_err-device-clause-refused : goal.returns-in_err-device-clause-refused
returns-in_err-device-clause-refused c = λ held was.
    let p = err_from_is_err_and c.from_residual.result c.from_residual.ensures.1 in
    let fault = c.in_err-device.field-0.0 in
    let e = c.in_err-device.ensures.err in
    let old = c.args.device in
    let refused : IsRefusedIn c.args.strictness held old.sectors old.failures fault = record {
      why = subst (λ (p : History). IsNotTaken c.args.strictness (disk_after old.sectors p old.failures) (file_disk fault.device) fault.number) was (inl e);
      exact = λ state stands honest. subst (λ (p : History). IsRefusedNow c.args.strictness (seen_after p) fault.number) was (refused_now c.args.strictness (file_disk old) (file_disk fault.device) fault.number e honest);
      no_room = λ honest is. absurd (has_room (file_disk old) (file_disk fault.device) fault.number e is);
      size = λ honest. e.same.size;
      any_moment = λ honest rides of image since. inl (from_reading rides old fault.device held was (e.keeps honest rides) image since);
      untouched = λ honest other rides. from_reading rides old fault.device held was (e.keeps honest rides);
    } in
    rw (p.1, p.2) refused

pub returns-in_err-open_with-clause-refused : goal.returns-in_err-open_with-clause-refused
returns-in_err-open_with-clause-refused c = λ held was.
    let p = err_from_is_err_and c.from_residual-in_err-open_with.result c.from_residual-in_err-open_with.ensures.1 in
    let fault = c.in_err-open_with.field-0.0 in
    let e = c.in_err-open_with.ensures in
    let old = c.args.device in
    let looked = c.in_ok-device.device in
    let newest = c.in_ok-device.ensures.ok in
    let seen = λ (honest : (file_disk fault.device).honest). (newest.keeps (e.honest_err honest) false).seen in
    let refused : IsRefusedIn c.args.strictness held old.sectors old.failures fault = record {
      why = subst (λ (p : History). IsNotTaken c.args.strictness (disk_after old.sectors p old.failures) (file_disk fault.device) fault.number) was (inr (looked, newest, e.honest_err, e.refused));
      exact = λ state stands honest. inl (subst (λ (p : History). IsRefusedBy c.args.strictness (seen_after p) fault.number) was
          (subst (λ (i : Image). IsRefusedBy c.args.strictness i fault.number) (seen honest)
          (e.exact state (subst (Stands state) (sym (seen honest)) (subst (λ (p : History). Stands state (seen_after p)) (sym was) stands)) honest)));
      no_room = λ honest is. subst (λ (p : History). LacksRoom (seen_after p)) was
          (subst LacksRoom (seen honest) ((lacks_room_by c.args.strictness (file_disk looked) (file_disk fault.device) fault.number e.refused is).no_room honest));
      size = λ honest. e.sectors_err honest ∙ newest.same.size;
      any_moment = λ honest rides of. from_opening rides old fault.device held was
          (stands_through (model rides (file_disk old)) (model rides (file_disk looked)) (model rides (file_disk fault.device)) (newest.keeps (e.honest_err honest) rides)
          (e.any_moment_err honest rides (subst (IsOfFormat rides) (sym (seen honest)) (subst (λ (p : History). IsOfFormat rides (seen_after p)) (sym was) of))));
      untouched = λ honest other rides. from_reading rides old fault.device held was
          (keeps_through (model rides (file_disk old)) (model rides (file_disk looked)) (model rides (file_disk fault.device)) (newest.keeps (e.honest_err honest) rides) (e.untouched honest other rides));
    } in
    rw (p.1, p.2) refused
