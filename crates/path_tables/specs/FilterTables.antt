-- For the clauses within the crate: the tables of what filters say by the numbers of nodes, and when they are right.
use Rattle.std.specs.Prelude.{◌≡◌, ⊤, ℕ, Bool, true, false, List, [], ◌∷◌, map, get_or, if◌then◌else◌}
use Rattle.std.specs.List.{AllByRecursion}
use Rattle.doc_tree.specs.Doc.{Doc}
use Rattle.doc_tree.specs.TreeView.{view}
use Rattle.path_plans.specs.PlanView.{choice_view, plan_view, term_view, test_view, tests_view}
use Rattle.path_plans.specs.Planned as planned
use Rattle.path_plans.specs.Planned.{plain, kept, no_choices, choice, done, step, some_of, all_of, not_that, there_is, compared, no_tests, test, passes, test_refused}
use Rattle.path_tables.specs.declared.asked.Asked.{Asked}
use Rattle.path_tables.specs.declared.asked.Asked.TheVariants.{Plainly, SomeOf, AllOf, NotThat, ThereIs, Compared}
use Rattle.path_tables.specs.declared.asked.Sought.{Sought}
use Rattle.path_tables.specs.declared.table_plan.TableSegment.{TableSegment}
use Rattle.path_tables.specs.declared.table_plan.TableSelector.{TableSelector}
use Rattle.path_plans.specs.declared.plan.PlanComparable.{PlanComparable, Known, OnlyOf, LedTo, SizeOf', NumberOf}
use Rattle.path_tables.specs.declared.filter_table.FilterOutcome.{FilterOutcome}
use Rattle.path_tables.specs.declared.filter_table.FilterOutcome.TheVariants.{Refused, Holds, Fails}
use Rattle.path_tables.specs.declared.filter_table.FilterTable.{FilterTable}
use Rattle.path_select.specs.declared.index.Index.{Index}
use Rattle.path_select.specs.Nodes.{Located}
use Rattle.path_select.specs.Paths.{seen}

-- what a test says of a value: whether it is refused there, and if not whether the value passes
abbrev pub answer : planned.PlanFilter → Doc → Bool × Bool
answer t d = (test_refused t d, if test_refused t d then false else passes t d)

abbrev pub said_of : FilterOutcome → Bool × Bool
said_of Refused = (true, false)
said_of Holds = (false, true)
said_of Fails = (false, false)

-- what a table has at a number
abbrev pub said_at : FilterTable → ℕ → FilterOutcome
said_at x n = get_or x.said.items n x.top

-- the table has what the test says of each of the nodes, and of the root
abbrev pub Tells : Doc → List Located → planned.PlanFilter → FilterTable → Type 0
Tells root us t x = (map said_of x.said.items ≡ map (λ u. answer t u.1) us) × (said_of x.top ≡ answer t root)

abbrev pub TellsAll : Index → planned.PlanFilter → FilterTable → Type 0
TellsAll x t told = Tells (view x.root.now) (seen x.walk) t told

-- the table of a choice is right, if it is a filter
abbrev pub IsRightFor : Index → planned.PlanSelector → FilterTable → Type 0
IsRightFor x (plain s) told = ⊤
IsRightFor x (kept t) told = TellsAll x t told

abbrev pub IsRight : Index → TableSelector → Type 0
IsRight x p = IsRightFor x (choice_view p.choice.now) p.told

abbrev pub AreRight : Index → List TableSelector → Type 0
AreRight x ps = AllByRecursion (IsRight x) ps

abbrev pub AreAllRight : Index → List TableSegment → Type 0
AreAllRight x ps = AllByRecursion (λ p. AreRight x p.picks.items) ps

-- the choices and plans that they represent
abbrev pub picks_view : List TableSelector → planned.PlanSelectors
picks_view [] = no_choices
picks_view (p ∷ rest) = choice (choice_view p.choice.now) (picks_view rest)

abbrev pub phases_view : List TableSegment → planned.Plan
phases_view [] = done
phases_view (p ∷ rest) = step p.descend (picks_view p.picks.items) (phases_view rest)

-- ---- tests that are asked of all nodes

-- a test is refused at a number, and holds there, by what it says
abbrev pub is_refused : ℕ → FilterTable → Bool
is_refused n x = (said_of (said_at x n)).0

abbrev pub is_held : ℕ → FilterTable → Bool
is_held n x = (said_of (said_at x n)).1

-- each has what the test of its place says
abbrev pub TellEach : Index → planned.PlanFilters → List FilterTable → Type 0
TellEach x no_tests [] = ⊤
TellEach x (test t ts) (w ∷ ws) = TellsAll x t w × TellEach x ts ws
TellEach x no_tests (w ∷ ws) = ⊥
TellEach x (test t ts) [] = ⊥

-- the plan in a side of a comparison, if there is one
abbrev pub plan_in : PlanComparable → planned.Plan
plan_in (Known refused value) = done
plan_in (OnlyOf q) = plan_view q
plan_in (LedTo ways) = done
plan_in (SizeOf' p t) = plan_in t
plan_in (NumberOf q) = plan_view q

abbrev pub IsSoughtRightly : Index → Sought → Type 0
IsSoughtRightly x s = AreAllRight x s.phases.items × (phases_view s.phases.items ≡ plan_in s.side.now)

abbrev pub IsAskedRightly : Index → Asked → Type 0
IsAskedRightly x (Plainly t) = ⊤
IsAskedRightly x (SomeOf parts told) = TellEach x (tests_view parts.now.items) told.items
IsAskedRightly x (AllOf parts told) = TellEach x (tests_view parts.now.items) told.items
IsAskedRightly x (NotThat part told) = TellsAll x (test_view part.now) told
IsAskedRightly x (ThereIs phases) = AreAllRight x phases.items
IsAskedRightly x (Compared op left right) = IsSoughtRightly x left × IsSoughtRightly x right

-- what is asked
abbrev pub asked_view : Asked → planned.PlanFilter
asked_view (Plainly t) = test_view t.now
asked_view (SomeOf parts told) = some_of (tests_view parts.now.items)
asked_view (AllOf parts told) = all_of (tests_view parts.now.items)
asked_view (NotThat part told) = not_that (test_view part.now)
asked_view (ThereIs phases) = there_is (phases_view phases.items)
asked_view (Compared op left right) = compared op (term_view left.side.now) (term_view right.side.now)
