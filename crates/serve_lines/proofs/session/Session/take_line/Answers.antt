use Rattle.std.proofs.Common.{◌≡◌, ℕ, List, ◌∷◌, ◌++◌, ◌∙◌, [], ap, subst, append_assoc}
use Rattle.std.proofs.lemmas.List.{append-nil}
use Rattle.doc_tree.specs.Doc.{Doc}
use Rattle.protocol.specs.Lines.{line_feed}
use Rattle.protocol.specs.declared.reply.Reply.{Reply}
use Rattle.store_commits.proofs.Modelled.{both_models}
use Rattle.serve_lines.specs.Progress.{EndsLine, HasCut, waiting_in}
use Rattle.serve_lines.specs.LineReplies.{AllSay}
use Rattle.serve_lines.specs.declared.options.Options.{Options}
use Rattle.serve_lines.proofs.Saying.{says_none}
use Rattle.serve_lines.proofs.Ending.{reaches_more, reaches_line}
use Rattle.serve_lines.proofs.session.Session.take_line.Goals as goal

pub returns-clause-heard : goal.returns-clause-heard
returns-clause-heard g c = λ options start read replies s.
    let disk = g.D.SectorDevice.disk in
    let old = c.args.store.now in
    let new = c.end_line.new.store in
    let cs = waiting_in c.args.self.now in
    let left = waiting_in c.end_line.new.self in
    let end = c.args.end.now in
    let line = s.rest ++ end in
    let kept = c.extend.ensures s.rest s.kept in
    let none = says_none s.ready (subst (λ (l : List Reply). AllSay l s.ready) c.requires.taken s.says) in
    let e = c.end_line.ensures.ends line kept in
    let ends = subst (λ (o : Options). EndsLine disk o old cs line e.0 new left) s.goes_by e.2 in
    let all : (replies ++ s.ready) ++ e.0 ≡ replies ++ e.0 = ap (λ (l : List Doc). (replies ++ l) ++ e.0) none ∙ ap (λ (l : List Doc). l ++ e.0) (append-nil replies) in
    record {
      rest = [];
      ready = e.0;
      reached = subst (λ (t : List ℕ). HasCut disk options start t new (replies ++ e.0) left []) (append_assoc read end (line_feed ∷ []))
          (subst (λ (rs : List Doc). HasCut disk options start ((read ++ end) ++ line_feed ∷ []) new rs left []) all
          (reaches_line disk options (both_models g.D.SectorDevice.disk g.met.D.SectorDevice.coherent g.met.D.SectorDevice.torn_coherent) start (read ++ end) old new (replies ++ s.ready) e.0 cs left line kept.whole
          (reaches_more disk options start read old (replies ++ s.ready) cs s.rest end s.reached) ends));
      kept = c.end_line.ensures.clear;
      goes_by = c.end_line.ensures.options ∙ s.goes_by;
      says = e.1;
    }
