-- A change that was judged and isn't refused, with what was made for it.
use Rattle.std.specs.Prelude.{◌≡◌, ◌⊎◌, ℕ, List, Option, None, Some, Ok, ⊤}
use Rattle.doc_tree.specs.Doc.{Doc}
use Rattle.doc_tree.specs.Sound.{IsSound}
use Rattle.doc_tree.specs.TreeView.{view}
use Rattle.doc_tree.specs.declared.tree.Tree.{Tree}
use Rattle.refusals.specs.declared.numbers.TheConstants.{MEMORY}
use Rattle.doc_schema.specs.Faults.{IsFaultless}
use Rattle.schema_rules.specs.declared.profile.Profile.{Profile}
use Rattle.record_text.specs.Change.{Change, create, patch, set_schema, delete}
use Rattle.record_text.specs.Frame.{IsFramed}
use Rattle.doc_changes.specs.Patched.{patched}
use Rattle.doc_changes.specs.Refusals.{plain, first}
use Rattle.doc_changes.specs.State.{Document, State, find}
use Rattle.doc_changes.specs.Step.{refusal_of, refusals_in}
use Rattle.doc_changes.specs.declared.refusal.Refusal.{Refusal}
use Rattle.doc_changes.specs.declared.judged.Judged.{Judged}

-- the trees of a change are documents of memory
abbrev pub IsSoundChange : Change → Type 0
IsSoundChange (create name schema doc) = IsSound schema × IsSound doc
IsSoundChange (patch name ops if_rev) = IsSound ops
IsSoundChange (set_schema name schema) = IsSound schema
IsSoundChange (delete name) = ⊤

-- the tree is what the patch makes of the document of that name
pub record IsPatched (ds : List Document) (name : List ℕ) (ops : Doc) (tree : Option Tree) : Type 0 where
  pub document : Document
  pub made : Tree
  pub found : find name ds ≡ Some document
  pub is : tree ≡ Some made
  pub patched_is : patched ops document.doc ≡ Ok (view made)
  pub sound : IsSound (view made)

-- the schema was read, and has no fault in the profile
pub record IsRead (profile : Profile) (schema : Doc) (rules : Option Tree) : Type 0 where
  pub read : Tree
  pub is : rules ≡ Some read
  pub same : view read ≡ schema
  pub faultless : IsFaultless profile schema

-- a judgement holds what a patch makes, and the schema that comes with a change
abbrev pub HoldsMade : Profile → List Document → Change → Judged → Type 0
HoldsMade profile ds (create name schema doc) judged = IsRead profile schema judged.rules
HoldsMade profile ds (patch name ops if_rev) judged = IsPatched ds name ops judged.patched
HoldsMade profile ds (set_schema name schema) judged = IsRead profile schema judged.rules
HoldsMade profile ds (delete name) judged = ⊤

-- The state accepts the change, a journal can hold it, and the judgement has what it makes.
pub record IsJudged (s : State) (c : Change) (judged : Judged) : Type 0 where
  pub accepted : refusal_of s c ≡ None
  pub sound : IsSoundChange c
  pub framed : IsFramed c
  pub made : HoldsMade s.profile s.documents c judged

-- ---- before seq is looked at

-- the same before seq is looked at
pub record IsJudgedIn (profile : Profile) (ds : List Document) (c : Change) (judged : Judged) : Type 0 where
  pub accepted : first (refusals_in profile ds c) ≡ None
  pub sound : IsSoundChange c
  pub made : HoldsMade profile ds c judged

-- the refusal is the first that these documents give, or memory was refused
abbrev pub RefusesIn : Profile → List Document → Change → Refusal → Type 0
RefusesIn profile ds c r = (r ≡ plain MEMORY) ⊎ (first (refusals_in profile ds c) ≡ Some r)

-- all but a patch was judged in this way
abbrev pub IsReady : Profile → List Document → Change → Judged → Type 0
IsReady profile ds (create name schema doc) judged = IsJudgedIn profile ds (create name schema doc) judged
IsReady profile ds (patch name ops if_rev) judged = ⊤
IsReady profile ds (set_schema name schema) judged = IsJudgedIn profile ds (set_schema name schema) judged
IsReady profile ds (delete name) judged = IsJudgedIn profile ds (delete name) judged
