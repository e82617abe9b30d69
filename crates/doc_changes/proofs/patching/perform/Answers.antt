use Rattle.std.proofs.Common.{ap, refl, rules}
use Rattle.doc_changes.specs.Patched.{or_refused}
use Rattle.doc_changes.proofs.patching.perform.Goals as goal

pub returns-clause-made : goal.returns-clause-made
returns-clause-made c =
    let tree_is = c.tree-made.ensures.value in
    let made = c.in_ok-reversal.ensures.made in
    record {
      made = ap or_refused made;
      valid = search rules;
      schema = refl;
      revision = refl;
      tree = c.tree-made.result.now;
      tree_is = tree_is;
      sound = c.tree-made.ensures.sound;
    }
