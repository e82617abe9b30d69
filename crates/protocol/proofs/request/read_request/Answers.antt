use Rattle.std.proofs.Common.{◌≡◌, ◌∙◌, ap, inr, sym, subst, Ok, None}
use Rattle.doc_tree.specs.Doc.{Doc}
use Rattle.doc_tree.specs.Read.{Reading, document, read_of}
use Rattle.doc_tree.proofs.RoundTrip.{read_of-text_of}
use Rattle.record_text.specs.Change as commands
use Rattle.doc_machine.specs.Spelled.{change_in}
use Rattle.doc_machine.specs.Transaction.{single}
use Rattle.protocol.specs.Request.{IsAskedBy, change}
use Rattle.protocol.proofs.request.read_request.Goals as goal

-- the line is the text of the patch's object, so it is read as that object
pub returns-in-Some : goal.returns-in-Some
returns-in-Some c =
    let line = c.args.line.now in
    let s = c.in-Some.ensures.spells in
    let asked = change_in c.in-Some.patch in
    let d : Doc = commands.object_of (commands.patch s.name s.ops None) in
    let is : asked ≡ commands.patch s.name s.ops None = ap change_in c.in-Some.ensures.text ∙ s.is in
    let read : read_of line ≡ document d = ap read_of (sym s.text.text) ∙ read_of-text_of d s.text.sound s.text.low in
    inr (c.requires, subst (λ (r : Reading). IsAskedBy r (Ok (change (single asked)))) (sym read) (ap commands.object_of (sym is), tt))
