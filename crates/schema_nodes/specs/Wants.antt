-- The number of counters that the rules of schemas need at most.
use Rattle.std.specs.Prelude.{ℕ, ◌+◌, List, [], ◌∷◌}
use Rattle.doc_tree.specs.Doc.{Doc, Members, no_members, member}
use Rattle.schema_rules.specs.Keywords.{keyword_of}
use Rattle.schema_rules.specs.Parts.{members_in}
use Rattle.schema_rules.specs.declared.keyword.Keyword.{Keyword}
use Rattle.schema_rules.specs.declared.keyword.Keyword.TheVariants.{Contains, MaxContains}

-- elements are counted for these keywords (Validation, section 6.4)
abbrev pub keyword_wants : Keyword → ℕ
keyword_wants Contains = 1
keyword_wants MaxContains = 1
keyword_wants _ = 0

-- the members of a schema object
abbrev pub members_want : Members → ℕ
members_want no_members = 0
members_want (member k v ms) = keyword_wants (keyword_of k) + members_want ms

-- these schemas, without those below them
abbrev pub schemas_want : List Doc → ℕ
schemas_want [] = 0
schemas_want (d ∷ ds) = members_want (members_in d) + schemas_want ds
