use Rattle.std.proofs.Common.{sym, ap, subst, ◌∙◌, codes}
use Rattle.doc_tree.specs.TreeView.{view}
use Rattle.doc_tree.proofs.Views.{view-Object}
use Rattle.schema_rules.specs.Keywords.{shape_of}
use Rattle.schema_rules.specs.Parts.{beside, members_in}
use Rattle.schema_nodes.specs.Nodes.{AreNamed, HaveRows}
use Rattle.schema_nodes.proofs.Growing.{if_ok}
use Rattle.schema_nodes.proofs.KeywordNames.{defs_is}
use Rattle.schema_nodes.proofs.tree.definitions.Goals as goal

pub returns-in-Object : goal.returns-in-Object
returns-in-Object c =
    let is = ap view c.in-Object.is ∙ view-Object c.in-Object.members in
    if_ok c.numbers_under.result (λ m h schema rows. subst (λ d. AreNamed schema m.entries (members_in (beside (codes "$defs") (members_in d)))) (sym is) (h schema (subst (λ d. HaveRows schema (members_in d) c.args.rows.now) is rows) (ap shape_of defs_is))) c.numbers_under.ensures
