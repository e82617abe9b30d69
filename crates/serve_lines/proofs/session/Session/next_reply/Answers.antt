use Rattle.std.proofs.Common.{ap, append_assoc, arith, refl, sym, ◌++◌, ◌∷◌, [], ◌∙◌, List, ℕ, subst, length, length-append}
use Rattle.std.proofs.lemmas.List.{append-nil}
use Rattle.protocol.specs.Lines.{line_feed}
use Rattle.serve_lines.specs.Progress.{HasCut, HasRead, waiting_in}
use Rattle.serve_lines.proofs.Ending.{parted, reaches_more}
use Rattle.serve_lines.proofs.Hearing.{hears_given, hears_same}
use Rattle.serve_lines.proofs.session.Session.next_reply.Goals as goal

pub returns-in-Some-clause-heard : goal.returns-in-Some-clause-heard
returns-in-Some-clause-heard g c =
    let given = c.in-Some.ensures.0 in
    let same = c.in-Some.ensures.1 in
    record {
      taken = [];
      split = refl;
      less = omega (arith, ap length given, ap (λ v. length v.items) same.waiting);
      hears = λ options start read replies s.
          let h = hears_given g.D.SectorDevice.disk options start read c.args.store.now c.args.self.now c.ready_reply.new.self replies c.in-Some.reply given same s in
          (h.0, h.1, subst (λ (t : List ℕ). HasRead g.D.SectorDevice.disk options start t c.args.store.now c.ready_reply.new.self (replies ++ h.0 ∷ [])) (sym (append-nil read)) h.2);
    }

pub returns-in-Some-ready_reply-clause-heard : goal.returns-in-Some-ready_reply-clause-heard
returns-in-Some-ready_reply-clause-heard g c =
    let disk = g.D.SectorDevice.disk in
    let end = c.in-Some-cut_at_feed.end.now in
    let behind = c.in-Some-cut_at_feed.behind.now in
    let line = end ++ line_feed ∷ [] in
    let now = c.lines.invariant in
    let mid = c.take_line.new.self in
    let new = c.ready_reply-in-Some-cut_at_feed.new.self in
    let given = c.in-Some-ready_reply.ensures.0 in
    let same = c.in-Some-ready_reply.ensures.1 in
    record {
      taken = now.0 ++ line;
      split = parted now.0 end behind c.lines.rest.now c.in-Some-cut_at_feed.ensures.0 ∙ now.1;
      less = omega (arith, now.4, c.take_line.ensures.held, ap length given, ap (λ v. length v.items) same.waiting, ap length c.in-Some-cut_at_feed.ensures.0, length-append end (line_feed ∷ behind));
      hears = λ options start read replies s.
          let t = c.take_line.ensures.heard options start (read ++ now.0) replies (now.2 options start read replies s) in
          let h = hears_given disk options start ((read ++ now.0) ++ line) c.take_line.new.store mid new replies c.in-Some-ready_reply.reply given same t in
          (h.0, h.1, subst (λ (t : List ℕ). HasRead disk options start t c.take_line.new.store new (replies ++ h.0 ∷ [])) (append_assoc read now.0 line) h.2);
    }

pub lines-preserved : goal.lines-preserved
lines-preserved g c =
    let disk = g.D.SectorDevice.disk in
    let end = c.in-Some-cut_at_feed.end.now in
    let behind = c.in-Some-cut_at_feed.behind.now in
    let line = end ++ line_feed ∷ [] in
    let now = c.lines.invariant in
    let mid = c.take_line.new.self in
    let new = c.ready_reply-in-Some-cut_at_feed.new.self in
    let none = c.in_default-ready_reply.ensures in (
      now.0 ++ line,
      parted now.0 end behind c.lines.rest.now c.in-Some-cut_at_feed.ensures.0 ∙ now.1,
      λ options start read replies s.
          let t = c.take_line.ensures.heard options start (read ++ now.0) replies (now.2 options start read replies s) in
          subst (λ (t : List ℕ). HasRead disk options start t c.take_line.new.store new replies) (append_assoc read now.0 line)
          (hears_same disk options start ((read ++ now.0) ++ line) c.take_line.new.store mid new replies none.0 none.1 none.2 t),
      none.1,
      omega (arith, now.4, c.take_line.ensures.held, ap length none.0, ap length none.1, ap (λ v. length v.items) none.2.waiting, ap length c.in-Some-cut_at_feed.ensures.0, length-append end (line_feed ∷ behind)),
    )

pub returns-clause-heard : goal.returns-clause-heard
returns-clause-heard g c = λ options start read replies s.
    let disk = g.D.SectorDevice.disk in
    let rest = c.lines.rest.now in
    let now = c.lines.invariant in
    let h = now.2 options start read replies s in
    record {
      rest = h.rest ++ rest;
      ready = h.ready;
      reached = subst (λ (t : List ℕ). HasCut disk options start t c.lines.store (replies ++ h.ready) (waiting_in c.lines.self) (h.rest ++ rest)) (append_assoc read now.0 rest ∙ ap (λ (x : List ℕ). read ++ x) now.1)
          (reaches_more disk options start (read ++ now.0) c.lines.store (replies ++ h.ready) (waiting_in c.lines.self) h.rest rest h.reached);
      kept = c.extend.ensures h.rest h.kept;
      goes_by = h.goes_by;
      says = h.says;
    }
