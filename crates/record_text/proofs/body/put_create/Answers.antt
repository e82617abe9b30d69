use Rattle.std.proofs.Common.{[], ◌∷◌, ◌++◌, codes}
use Rattle.std.proofs.lemmas.Result.{on_ok_weaker}
use Rattle.json.specs.Print.{escape_byte, quoted}
use Rattle.doc_tree.specs.Text.{text_of}
use Rattle.doc_tree.specs.TreeView.{view}
use Rattle.record_text.proofs.Bodies.{both}
use Rattle.record_text.proofs.Objects.{IsSound-create}
use Rattle.record_text.proofs.body.put_create.Goals as goal

pub returns-clause-text : goal.returns-clause-text
unfolding escape_byte
returns-clause-text c =
    let old = c.args.out.now.items in
    let end = c.put_last.new.out.items in
    let head = 123 ∷ (quoted (codes "cmd") ++ 58 ∷ (quoted (codes "create") ++ 44 ∷ (quoted (codes "doc") ++ 58 ∷ []))) in
    let doc = text_of (view c.args.doc.now) in
    let before = 44 ∷ (quoted (codes "name") ++ 58 ∷ []) in
    let name = quoted c.args.name.now in
    let rest = 44 ∷ (quoted (codes "schema") ++ 58 ∷ (text_of (view c.args.schema.now) ++ 125 ∷ [])) in
    on_ok_weaker c.put_last.result (λ last.
    both head (doc ++ (before ++ (name ++ rest))) old c.extend_from_slice.new.self.items end c.in_ok-extend_from_slice.ensures.items
    (both doc (before ++ (name ++ rest)) c.extend_from_slice.new.self.items c.put_text.new.out.items end c.in_ok-put_text.ensures.text
    (both before (name ++ rest) c.put_text.new.out.items c.extend_from_slice-2.new.self.items end c.in_ok-extend_from_slice-2.ensures.items
    (both name rest c.extend_from_slice-2.new.self.items c.put_quoted.new.out.items end c.in_ok-put_quoted.ensures last)))) c.put_last.ensures.text

pub returns-clause-sound : goal.returns-clause-sound
returns-clause-sound c = on_ok_weaker c.put_last.result (λ sound. IsSound-create _ _ _ c.utf8.name sound c.in_ok-put_text.ensures.sound) c.put_last.ensures.sound
