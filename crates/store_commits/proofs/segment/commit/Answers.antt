use Rattle.std.proofs.Common.{sym, ◌∙◌, subst, ap, ℕ, List, Option, arith, length, map, None}
use Rattle.store_journal.specs.Calls.{Takes}
use Rattle.store_commits.specs.Account.{Account}
use Rattle.store_commits.specs.Copying.{Target, target_of, target_with}
use Rattle.store_commits.specs.Inside.{IsAppended, IsAppendedBehind, IsPart, IsReplaced, AnswersPart, answered}
use Rattle.store_commits.specs.declared.segment.Fate.{Fate}
use Rattle.store_commits.proofs.Parts.{none_waits, not_begun, one_behind, one_instead, part_fits, part_fits_after, part_takes, some_wait}
use Rattle.store_commits.proofs.Modelled.{both_models}
use Rattle.store_commits.proofs.segment.commit.Goals as goal

pub returns-then-is_broken-clause-answered : goal.returns-then-is_broken-clause-answered
returns-then-is_broken-clause-answered g c = λ s a left slots b stored same part.
    not_begun g.D.SectorDevice.disk (both_models g.D.SectorDevice.disk g.met.D.SectorDevice.coherent g.met.D.SectorDevice.torn_coherent) c.args.journal.now s (target_of c.args.copy.now) stored (sym c.if-is_broken.ensures.broken) a left c.args.segment.now slots b part

pub returns-in-Before-clause-answered : goal.returns-in-Before-clause-answered
returns-in-Before-clause-answered g c = λ s a left slots b stored same part.
    let disk = g.D.SectorDevice.disk in
    let journal = c.args.journal.now in
    let copy = target_of c.args.copy.now in
    let segment = c.args.segment.now in
    let new = c.append_behind.new.journal in
    let fine = c.append_behind.result in
    let works = sym c.if-is_broken.ensures.broken in
    let here = subst (λ (x : Account). IsPart x left segment slots b) (sym (same works)) part in
    let appended = subst (λ (l : List ℕ). IsAppendedBehind disk journal new c.in-Before.snapshot.items l segment.adds fine) c.deref-in-Before.ensures.value
    (subst (λ (l : List ℕ). IsAppendedBehind disk journal new l c.deref-in-Before.result.now segment.adds fine) c.deref.ensures.value c.append_behind.ensures.behind) in
    subst (λ (t : Option Target). AnswersPart disk journal s copy slots left b new t (map (answered c.ended.result) segment.replies.items)) (sym c.append_behind.ensures.dropped)
    (subst (λ (f : Fate). AnswersPart disk journal s copy slots left b new None (map (answered f) segment.replies.items)) (sym c.ended.ensures)
    (one_behind disk (both_models g.D.SectorDevice.disk g.met.D.SectorDevice.coherent g.met.D.SectorDevice.torn_coherent) journal s copy works stored c.requires.numbers left segment slots b here c.in-Before.snapshot c.in-Before.is new fine appended))

pub returns-then-segment-eq0-clause-answered : goal.returns-then-segment-eq0-clause-answered
returns-then-segment-eq0-clause-answered g c = λ s a left slots b stored same part.
    let works = sym c.if-is_broken.ensures.broken in
    let here = subst (λ (x : Account). IsPart x left c.args.segment.now slots b) (sym (same works)) part in
    none_waits g.D.SectorDevice.disk (both_models g.D.SectorDevice.disk g.met.D.SectorDevice.coherent g.met.D.SectorDevice.torn_coherent) c.args.journal.now s (target_of c.args.copy.now) works stored c.requires.numbers left c.args.segment.now slots b here c.in-Used.is c.if-segment-eq0.true

pub append-requires-clause-takes : goal.append-requires-clause-takes
append-requires-clause-takes g c =
    let journal = c.args.journal.now in
    let works = sym c.if-is_broken.ensures.broken in
    let r = c.requires.ready works in
    subst (λ (l : List ℕ). Takes journal (length l) c.args.segment.now.adds) (sym c.deref-in-Used.ensures.value)
    (part_takes g.D.SectorDevice.disk (both_models g.D.SectorDevice.disk g.met.D.SectorDevice.coherent g.met.D.SectorDevice.torn_coherent) journal r.0 (target_of c.args.copy.now) works r.4 c.requires.numbers r.1 c.args.segment.now r.2 r.3 r.5 c.in-Used.is c.if-segment-eq0.false)

pub returns-else-segment-eq0-clause-answered : goal.returns-else-segment-eq0-clause-answered
returns-else-segment-eq0-clause-answered g c = λ s a left slots b stored same part.
    let disk = g.D.SectorDevice.disk in
    let journal = c.args.journal.now in
    let copy = target_of c.args.copy.now in
    let segment = c.args.segment.now in
    let new = c.append.new.journal in
    let fine = c.append.result in
    let works = sym c.if-is_broken.ensures.broken in
    let here = subst (λ (x : Account). IsPart x left segment slots b) (sym (same works)) part in
    let frames = c.deref-in-Used.ensures.value in
    let appended = subst (λ (l : List ℕ). IsAppended disk journal new l segment.adds fine) frames c.append.ensures.appended in
    subst (λ (f : Fate). AnswersPart disk journal s copy slots left b new (target_of c.append.new.copy) (map (answered f) segment.replies.items)) (sym c.ended-in-Used.ensures)
    (some_wait disk (both_models g.D.SectorDevice.disk g.met.D.SectorDevice.coherent g.met.D.SectorDevice.torn_coherent) journal s copy works stored c.requires.numbers left segment slots b here c.in-Used.is c.if-segment-eq0.false new fine appended (target_of c.append.new.copy)
    (λ done. c.append.ensures.copy done ∙ ap (λ (l : List ℕ). target_with l copy) frames) c.append.ensures.dropped)

pub append_behind-requires-clause-fits : goal.append_behind-requires-clause-fits
append_behind-requires-clause-fits g c =
    let works = sym c.if-is_broken.ensures.broken in
    let r = c.requires.ready works in
    let fits = (part_fits g.D.SectorDevice.disk (both_models g.D.SectorDevice.disk g.met.D.SectorDevice.coherent g.met.D.SectorDevice.torn_coherent) c.args.journal.now r.0 (target_of c.args.copy.now) works r.4 c.requires.numbers r.1 c.args.segment.now r.2 r.3 r.5 c.in-Before.snapshot c.in-Before.is).0 in
    let snapshot = ap length c.deref.ensures.value in
    let frames = ap length c.deref-in-Before.ensures.value in
    omega (arith, fits, snapshot, frames)

pub append_behind-requires-clause-seq_fits : goal.append_behind-requires-clause-seq_fits
append_behind-requires-clause-seq_fits g c =
    let works = sym c.if-is_broken.ensures.broken in
    let r = c.requires.ready works in
    (part_fits g.D.SectorDevice.disk (both_models g.D.SectorDevice.disk g.met.D.SectorDevice.coherent g.met.D.SectorDevice.torn_coherent) c.args.journal.now r.0 (target_of c.args.copy.now) works r.4 c.requires.numbers r.1 c.args.segment.now r.2 r.3 r.5 c.in-Before.snapshot c.in-Before.is).1

pub returns-in-After-clause-answered : goal.returns-in-After-clause-answered
returns-in-After-clause-answered g c = λ s a left slots b stored same part.
    let disk = g.D.SectorDevice.disk in
    let journal = c.args.journal.now in
    let copy = target_of c.args.copy.now in
    let segment = c.args.segment.now in
    let new = c.replace.new.journal in
    let fine = c.replace.result in
    let works = sym c.if-is_broken.ensures.broken in
    let here = subst (λ (x : Account). IsPart x left segment slots b) (sym (same works)) part in
    let replaced = subst (λ (l : List ℕ). IsReplaced disk journal new l segment.adds fine) c.deref-in-After.ensures.value c.replace.ensures.replaced in
    subst (λ (t : Option Target). AnswersPart disk journal s copy slots left b new t (map (answered c.ended-in-After.result) segment.replies.items)) (sym c.replace.ensures.dropped)
    (subst (λ (f : Fate). AnswersPart disk journal s copy slots left b new None (map (answered f) segment.replies.items)) (sym c.ended-in-After.ensures)
    (one_instead disk (both_models g.D.SectorDevice.disk g.met.D.SectorDevice.coherent g.met.D.SectorDevice.torn_coherent) journal s copy works stored c.requires.numbers left segment slots b here c.in-After.snapshot c.in-After.is new fine replaced))

pub replace-requires-clause-fits : goal.replace-requires-clause-fits
replace-requires-clause-fits g c =
    let works = sym c.if-is_broken.ensures.broken in
    let r = c.requires.ready works in
    let fits = (part_fits_after g.D.SectorDevice.disk (both_models g.D.SectorDevice.disk g.met.D.SectorDevice.coherent g.met.D.SectorDevice.torn_coherent) c.args.journal.now r.0 (target_of c.args.copy.now) works r.4 c.requires.numbers r.1 c.args.segment.now r.2 r.3 r.5 c.in-After.snapshot c.in-After.is).0 in
    let snapshot = ap length c.deref-in-After.ensures.value in
    omega (arith, fits, snapshot)

pub replace-requires-clause-seq_fits : goal.replace-requires-clause-seq_fits
replace-requires-clause-seq_fits g c =
    let works = sym c.if-is_broken.ensures.broken in
    let r = c.requires.ready works in
    (part_fits_after g.D.SectorDevice.disk (both_models g.D.SectorDevice.disk g.met.D.SectorDevice.coherent g.met.D.SectorDevice.torn_coherent) c.args.journal.now r.0 (target_of c.args.copy.now) works r.4 c.requires.numbers r.1 c.args.segment.now r.2 r.3 r.5 c.in-After.snapshot c.in-After.is).1
