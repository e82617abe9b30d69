use Rattle.std.proofs.Common.{◌≡◌, ◌++◌, ◌∷◌, [], List, map, ap, sym, ◌∙◌}
use Rattle.std.proofs.lemmas.List.{append_assoc, map-append}
use Rattle.std.specs.Vec.Iter.{into_iter_items}
use Rattle.doc_tree.specs.TreeView.{elements_view}
use Rattle.doc_tree.specs.declared.tree.Tree.{Tree}
use Rattle.record_text.specs.Change.{change_of}
use Rattle.protocol.specs.Request.{objects_of}
use Rattle.protocol.proofs.Objects.{is_object, one_more}
use Rattle.protocol.proofs.several.commands_in.Goals as goal

pub returns-in_default : goal.returns-in_default
returns-in_default c = λ cs is.
    let l = c.loop-tree in
    let rest = into_iter_items c.next.new.self in
    let items = l.invariant.left ∙ ap (λ (ts : List Tree). l.yielded ++ ts) c.in-Some.ensures.steps.0 in
    let one = is_object l.yielded rest c.in-Some.tree cs (ap elements_view (sym items) ∙ is) in
    c.in_default.ensures one.0 one.1

pub loop-tree-preserved : goal.loop-tree-preserved
loop-tree-preserved c =
    let l = c.loop-tree in
    let x = c.in-Some.tree in
    let rest = into_iter_items c.next.new.self in
    let done = map change_of l.commands.items in
    let command = c.in-Some-command_from.command in
    let all : map change_of c.push.new.self.items ≡ done ++ change_of command ∷ [] = ap (map change_of) c.in_ok-push.ensures.items ∙ map-append change_of l.commands.items (command ∷ []) in
    record {
      listed = one_more l.yielded x done (change_of command) l.invariant.listed c.in-Some-command_from.ensures ∙ ap objects_of (sym all);
      left = l.invariant.left ∙ ap (λ (ts : List Tree). l.yielded ++ ts) c.in-Some.ensures.steps.0 ∙ sym (append_assoc l.yielded (x ∷ []) rest);
    }
