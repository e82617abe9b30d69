use Rattle.std.proofs.Common.{◌≡◌, sym, ◌∙◌, ap, subst, map, List, [], ◌∷◌, ◌++◌, ℕ, string_bytes, IfOk, IfErr}
use Rattle.doc_tree.specs.Doc.{Doc}
use Rattle.doc_tree.specs.TreeView.{view}
use Rattle.record_text.specs.Change.{change_of}
use Rattle.record_text.specs.declared.command.Command.{Command}
use Rattle.doc_changes.specs.Held.{held_in}
use Rattle.doc_changes.specs.Judged.{IsJudgedIn, IsReady, RefusesIn}
use Rattle.doc_changes.specs.State.{Document, changed, without}
use Rattle.doc_changes.specs.Step.{documents_after}
use Rattle.doc_changes.specs.Undo.{IsMade}
use Rattle.doc_changes.specs.StateView.{document_of}
use Rattle.doc_changes.proofs.Made.{can_add, measured, new_is, read_is}
use Rattle.doc_changes.proofs.making.make.Goals as goal

pub unwrap-doc-requires : goal.unwrap-doc-requires
unwrap-doc-requires c =
    let ds = map document_of c.args.documents.now.entries in
    let d : Document = record { name = string_bytes c.in-Create.name; schema = view c.in-Create.schema; doc = view c.in-Create.doc; revision = c.args.revision } in
    let can = can_add c.requires.ready.0 ds d c.args.judged (subst (λ (m : Command). IsReady c.requires.ready.0 ds (change_of m) c.args.judged) c.in-Create.is c.requires.ready.1) in
    measured c.new.result (view c.in-Create.doc) c.new.ensures (record { low = can.storable.doc_height; short = can.storable.doc_text })

pub add-requires-clause-new : goal.add-requires-clause-new
add-requires-clause-new c =
    let ds = map document_of c.args.documents.now.entries in
    let d : Document = record { name = string_bytes c.in-Create.name; schema = view c.in-Create.schema; doc = view c.in-Create.doc; revision = c.args.revision } in
    (can_add c.requires.ready.0 ds d c.args.judged (subst (λ (m : Command). IsReady c.requires.ready.0 ds (change_of m) c.args.judged) c.in-Create.is c.requires.ready.1)).new

pub returns-in-Create-clause-made : goal.returns-in-Create-clause-made
returns-in-Create-clause-made c = λ p ready.
    let ds = map document_of c.args.documents.now.entries in
    let source = view c.in-Create.schema in
    let d : Document = record { name = string_bytes c.in-Create.name; schema = source; doc = view c.in-Create.doc; revision = c.args.revision } in
    let j = subst (λ (m : Command). IsReady p ds (change_of m) c.args.judged) c.in-Create.is ready in
    let same = read_is p source c.args.judged.rules c.unwrap-schema.result j.made c.unwrap-schema.ensures in
    let doc : c.unwrap-doc.result ≡ view c.in-Create.doc = new_is c.new.result c.unwrap-doc.result (view c.in-Create.doc) c.new.ensures c.unwrap-doc.ensures in
    record {
      judged = c.args.judged;
      is_judged = subst (λ (m : Command). IsJudgedIn p ds (change_of m) c.args.judged) (sym c.in-Create.is) j;
      after = c.add.ensures.after ∙ ap (λ (x : Doc). ds ++ record { name = d.name; schema = x; doc = c.unwrap-doc.result; revision = d.revision } ∷ []) same
          ∙ ap (λ (x : Doc). ds ++ record d { doc = x } ∷ []) doc
          ∙ ap (λ (m : Command). documents_after ds (change_of m) c.args.revision) (sym c.in-Create.is);
      undo = c.add.ensures.undo;
      held = c.add.ensures.held ∙ ap (λ (m : Command). held_in ds (change_of m)) (sym c.in-Create.is);
    }

pub returns-in-Patch-clause-made : goal.returns-in-Patch-clause-made
returns-in-Patch-clause-made c = λ p ready.
    let ds = map document_of c.args.documents.now.entries in
    subst (λ (m : Command). IfOk c.patch.result (λ undo. IsMade p ds (change_of m) c.args.revision undo (map document_of c.patch.new.documents.entries))) (sym c.in-Patch.is) (c.patch.ensures.made p)

pub returns-in-Patch-clause-refused : goal.returns-in-Patch-clause-refused
returns-in-Patch-clause-refused c = λ p.
    let ds = map document_of c.args.documents.now.entries in
    subst (λ (m : Command). IfErr c.patch.result (RefusesIn p ds (change_of m))) (sym c.in-Patch.is) (c.patch.ensures.refused p)

pub returns-in-Schema-clause-made : goal.returns-in-Schema-clause-made
returns-in-Schema-clause-made c = λ p ready.
    let ds = map document_of c.args.documents.now.entries in
    let name = string_bytes c.in-Schema.name in
    let source = view c.in-Schema.schema in
    let j = subst (λ (m : Command). IsReady p ds (change_of m) c.args.judged) c.in-Schema.is ready in
    let same = read_is p source c.args.judged.rules c.unwrap-rules.result j.made c.unwrap-rules.ensures in
    record {
      judged = c.args.judged;
      is_judged = subst (λ (m : Command). IsJudgedIn p ds (change_of m) c.args.judged) (sym c.in-Schema.is) j;
      after = c.change.ensures.after
          ∙ ap (λ (x : Doc). changed (λ d. record { name = d.name; schema = x; doc = d.doc; revision = c.args.revision }) name ds) same
          ∙ ap (λ (m : Command). documents_after ds (change_of m) c.args.revision) (sym c.in-Schema.is);
      undo = c.change.ensures.undo;
      held = c.change.ensures.held ∙ ap (λ (m : Command). held_in ds (change_of m)) (sym c.in-Schema.is);
    }

pub returns-clause-made : goal.returns-clause-made
returns-clause-made c = λ p ready.
    let ds = map document_of c.args.documents.now.entries in
    let j = subst (λ (m : Command). IsReady p ds (change_of m) c.args.judged) c.in-Delete.is ready in
    record {
      judged = c.args.judged;
      is_judged = subst (λ (m : Command). IsJudgedIn p ds (change_of m) c.args.judged) (sym c.in-Delete.is) j;
      after = c.remove.ensures.after ∙ ap (λ (n : List ℕ). without n ds) c.as_str.ensures.value
          ∙ ap (λ (m : Command). documents_after ds (change_of m) c.args.revision) (sym c.in-Delete.is);
      undo = c.remove.ensures.undo;
      held = c.remove.ensures.held ∙ ap (λ (m : Command). held_in ds (change_of m)) (sym c.in-Delete.is);
    }
