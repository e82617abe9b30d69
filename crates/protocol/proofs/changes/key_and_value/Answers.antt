use Rattle.std.proofs.Common.{◌≡◌, ap, sym, ◌∙◌, string_bytes, true}
use Rattle.doc_tree.specs.Doc.{boolean, text}
use Rattle.doc_tree.specs.TreeView.{view}
use Rattle.log_frames.specs.Kinds.{note}
use Rattle.record_text.specs.Change.{change_of, create}
use Rattle.protocol.proofs.Frames.{is_creation, spells_mark}
use Rattle.protocol.proofs.changes.key_and_value.Goals as goal

pub unreachable-requires : goal.unreachable-requires
unreachable-requires c =
    let m = c.requires.0 in
    is_creation c.in-Ok.command m.key (boolean true) (text m.value) (spells_mark m c.requires.1 c.args.body.now c.requires.2 c.in-Ok.command c.in-Ok.ensures) c.in_default-command.not-Create

pub unreachable-requires-in_default-text_in : goal.unreachable-requires-in_default-text_in
unreachable-requires-in_default-text_in c =
    let m = c.requires.0 in
    let spelled : change_of c.in-Ok.command ≡ note m.key m.value = spells_mark m c.requires.1 c.args.body.now c.requires.2 c.in-Ok.command c.in-Ok.ensures in
    let created : create (string_bytes c.in-Create.key) (view c.in-Create.schema) (view c.in-Create.doc) ≡ create m.key (boolean true) (text m.value) = sym (ap change_of c.in-Create.is) ∙ spelled in
    let docs : view c.in-Create.doc ≡ text m.value = cc created in
    c.in_default-text_in.ensures m.value docs

pub returns : goal.returns
returns c = λ m is same.
    let key = c.in-Create.key in
    let value = c.in-Some.value in
    let spelled : change_of c.in-Ok.command ≡ note m.key m.value = spells_mark m is c.args.body.now same c.in-Ok.command c.in-Ok.ensures in
    let created : create (string_bytes key) (view c.in-Create.schema) (view c.in-Create.doc) ≡ create m.key (boolean true) (text m.value) = sym (ap change_of c.in-Create.is) ∙ spelled in
    let keys : string_bytes key ≡ m.key = cc created in
    let docs : view c.in-Create.doc ≡ text m.value = cc created in
    let texts : text (string_bytes value) ≡ text m.value = sym c.in-Some.ensures ∙ docs in
    let values : string_bytes value ≡ m.value = cc texts in
    (keys, values)
