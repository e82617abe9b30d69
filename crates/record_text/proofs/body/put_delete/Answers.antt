use Rattle.std.proofs.Common.{[], ◌∷◌, ◌++◌, codes}
use Rattle.std.proofs.lemmas.Result.{on_ok_weaker}
use Rattle.json.specs.Print.{escape_byte, quoted}
use Rattle.record_text.proofs.Bodies.{both, on_ok_items}
use Rattle.record_text.proofs.Objects.{IsSound-delete}
use Rattle.record_text.proofs.body.put_delete.Goals as goal

pub returns-clause-text : goal.returns-clause-text
unfolding escape_byte
returns-clause-text c =
    let old = c.args.out.now.items in
    let end = c.extend_from_slice-2.new.self.items in
    let head = 123 ∷ (quoted (codes "cmd") ++ 58 ∷ (quoted (codes "delete") ++ 44 ∷ (quoted (codes "name") ++ 58 ∷ []))) in
    let name = quoted c.args.name.now in
    on_ok_weaker c.extend_from_slice-2.result (λ last.
    both head (name ++ 125 ∷ []) old c.extend_from_slice.new.self.items end c.in_ok-extend_from_slice.ensures.items
    (both name (125 ∷ []) c.extend_from_slice.new.self.items c.put_quoted.new.out.items end c.in_ok-put_quoted.ensures last))
    (on_ok_items c.extend_from_slice-2.result end c.put_quoted.new.out.items (125 ∷ []) c.extend_from_slice-2.ensures.items)

pub returns-clause-sound : goal.returns-clause-sound
returns-clause-sound c = on_ok_weaker c.extend_from_slice-2.result (λ _. IsSound-delete _ c.utf8.name)
    (on_ok_items c.extend_from_slice-2.result c.extend_from_slice-2.new.self.items c.put_quoted.new.out.items (125 ∷ []) c.extend_from_slice-2.ensures.items)
