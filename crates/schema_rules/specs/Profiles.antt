-- The keywords that a profile offers. What a keyword means is the same in every profile.
use Rattle.schema_rules.specs.declared.keyword.Keyword.{Keyword}
use Rattle.schema_rules.specs.declared.keyword.Keyword.TheVariants.{Pattern, PatternProperties, DependentSchemas, Anchor, LeftOut}
use Rattle.schema_rules.specs.declared.profile.Profile.{Profile}
use Rattle.schema_rules.specs.declared.profile.Profile.TheVariants.{Two, Three}

-- the keyword; left out if the profile doesn't offer it
abbrev pub offered : Profile → Keyword → Keyword
offered Two Pattern = LeftOut
offered Two PatternProperties = LeftOut
offered Two DependentSchemas = LeftOut
offered Two Anchor = LeftOut
offered Two k = k
offered Three k = k
