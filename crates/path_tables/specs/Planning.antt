-- The outcome of an absolute query, and what is made of it.
use denote.Bor.{Bor}
use Rattle.std.specs.Prelude.{◌≡◌, ⊤, Bool, IfSome, true, false, List, Option, Some, None, option_map, Result, Ok, Err, Vec}
use Rattle.std.specs.declared.alloc.Global.{Global}
use Rattle.doc_tree.specs.Doc.{Doc}
use Rattle.doc_tree.specs.TreeView.{view}
use Rattle.doc_tree.specs.declared.tree.Tree.{Tree}
use Rattle.path_grammar.specs.Syntax.{Segments}
use Rattle.path_select.specs.Nodes.{only_node}
use Rattle.path_plans.specs.Planned.{plan}
use Rattle.path_plans.specs.PlanView.{ways_plan}
use Rattle.path_plans.specs.TooMany.{too_many}
use Rattle.path_plans.specs.Evaluating.{nodelist}
use Rattle.path_select.specs.Values.{values}
use Rattle.path_select.specs.ChildView.{docs_of}
use Rattle.path_select.specs.Indexed.{IsIndex}
use Rattle.path_select.specs.declared.index.Index.{Index}
use Rattle.path_plans.specs.declared.plan.Way.{Way}
use Rattle.path_select.specs.declared.stop.Stop.{Stop}
use Rattle.path_select.specs.declared.stop.Stop.TheVariants.{Memory, TooMany}

-- if the nodes are known by numbers, they are those of the document
abbrev pub IsIndexOf : Doc → Option (Bor Index) → Type 0
IsIndexOf root o = IfSome o (λ x. IsIndex x.now × (view x.now.root.now ≡ root))

-- the values that the query selects from the root on; None if it is refused
abbrev pub FoundOf : Doc → Segments → Option (Vec (Bor Tree) Global) → Type 0
FoundOf root q None = too_many root q (only_node root) ≡ true
FoundOf root q (Some vs) = (too_many root q (only_node root) ≡ false) × (docs_of vs.items ≡ values (nodelist root q (only_node root)))

-- the values that an evaluation gave; None if it was refused
abbrev pub KeptOf : Result (Vec (Bor Tree) Global) Stop → Option (Vec (Bor Tree) Global) → Type 0
KeptOf (Ok vs) kept = option_map (λ ws. docs_of ws.items) kept ≡ Some (docs_of vs.items)
KeptOf (Err TooMany) kept = option_map (λ ws. docs_of ws.items) kept ≡ None
KeptOf (Err Memory) kept = true ≡ false

-- whether it is refused, and what a filter asks of the values
abbrev pub made_of : {A : Type 0} → (List Doc → A) → A → Option (Vec (Bor Tree) Global) → Bool × A
made_of ask none None = (true, none)
made_of ask none (Some vs) = (false, ask (docs_of vs.items))

-- the plan of the query is to go these ways
abbrev pub GoesBy : Segments → Option (Vec Way Global) → Type 0
GoesBy q None = ⊤
GoesBy q (Some ways) = (root : Doc) → plan root q ≡ ways_plan ways.items
