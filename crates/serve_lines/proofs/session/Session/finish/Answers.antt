use Rattle.std.proofs.Common.{◌≡◌, List, ◌++◌, ◌∙◌, ap, sym, subst}
use Rattle.std.proofs.lemmas.List.{append-nil}
use Rattle.doc_tree.specs.Doc.{Doc}
use Rattle.protocol.specs.Lines.{lines_of}
use Rattle.protocol.specs.declared.reply.Reply.{Reply}
use Rattle.store_commits.proofs.Modelled.{both_models}
use Rattle.serve_lines.specs.Progress.{EndsLine, waiting_in}
use Rattle.serve_lines.specs.LineReplies.{AllSay, EndsBatch}
use Rattle.serve_lines.specs.declared.options.Options.{Options}
use Rattle.serve_lines.proofs.Saying.{says_append, says_none}
use Rattle.serve_lines.specs.Serve.{IsSession}
use Rattle.serve_lines.proofs.Ending.{session_end}
use Rattle.serve_lines.proofs.session.Session.finish.Goals as goal

pub returns-then-is_empty-clause-ended : goal.returns-then-is_empty-clause-ended
returns-then-is_empty-clause-ended g c = λ taken options start read replies s.
    let disk = g.D.SectorDevice.disk in
    let old = c.args.store.now in
    let mid = c.end_line.new.store in
    let new = c.commit.new.store in
    let cs = waiting_in c.args.self.now in
    let left = waiting_in c.end_line.new.self in
    let none = says_none s.ready (subst (λ (l : List Reply). AllSay l s.ready) taken s.says) in
    let e = c.end_line.ensures.ends s.rest s.kept in
    let ends = subst (λ (o : Options). EndsLine disk o old cs s.rest e.0 mid left) s.goes_by e.2 in
    let b = c.commit.ensures.batch in
    let batch = subst (λ (o : Options). EndsBatch disk o mid left b.1 new) (c.end_line.ensures.options ∙ s.goes_by) b.4 in
    let all : (replies ++ s.ready) ++ (e.0 ++ b.1) ≡ replies ++ (e.0 ++ b.1) = ap (λ (l : List Doc). (replies ++ l) ++ (e.0 ++ b.1)) none ∙ ap (λ (l : List Doc). l ++ (e.0 ++ b.1)) (append-nil replies) in
    record {
      ready = e.0 ++ b.1;
      session = subst (λ (rs : List Doc). IsSession disk options start (lines_of read) rs new) all
          (session_end disk options (both_models g.D.SectorDevice.disk g.met.D.SectorDevice.coherent g.met.D.SectorDevice.torn_coherent) start read old mid new (replies ++ s.ready) e.0 b.1 cs left s.rest s.kept.whole s.reached ends batch);
      says = subst (λ (l : List Reply). AllSay l (e.0 ++ b.1)) (sym b.2) (says_append c.end_line.new.self.ready.items b.0 e.0 b.1 e.1 b.3);
    }
