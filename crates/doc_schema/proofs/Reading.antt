-- What was found while a schema was read.
use Rattle.std.proofs.Common.{◌≡◌, ◌≤◌, ◌||◌, inr, length, Bool, true, false, refl, ap, subst, arith, Option, Some, None}
use Rattle.std.specs.Prelude.{nat_lt}
use Rattle.std.specs.List.{list_any}
use Rattle.doc_tree.specs.Doc.{Doc}
use Rattle.schema_levels.specs.Counters.{AreCounted}
use Rattle.schema_nodes.specs.Compiled.{IsCompiled, IsFound}
use Rattle.schema_nodes.specs.declared.tree.Compiled.{Compiled}
use Rattle.schema_rules.specs.PatternTexts.{pattern_texts}
use Rattle.schema_rules.specs.declared.profile.Profile.{Profile}
use Rattle.schema_rules.specs.declared.profile.Profile.TheVariants.{Three}
use Rattle.doc_schema.specs.Checked.{IsChecked}
use Rattle.doc_schema.specs.Faults.{IsFaultless, IsFirstFault, looped}
use Rattle.refusals.specs.declared.numbers.TheConstants.{SCHEMA_LOOP}
use Rattle.doc_schema.proofs.Lifted.{loop_above, loop_below}

-- nothing is: the schema leads back to itself
pub leads_back : (profile : Profile) (s : Doc) (o : Option Compiled) → IsChecked profile s → IsFound s o → o ≡ None → IsFirstFault profile s SCHEMA_LOOP
leads_back profile s None c h e = looped refl c.size c.form c.keywords c.references (loop_above s h)
leads_back profile s (Some x) c h e = absurd cc

-- the nodes are
pub compiled_is : (s : Doc) (o : Option Compiled) (x : Compiled) → IsFound s o → o ≡ Some x → IsCompiled s x.nodes.items x.whole
compiled_is s None x h e = absurd cc
compiled_is s (Some y) x h e = let same : y ≡ x = cc in subst (λ (z : Compiled). IsCompiled s z.nodes.items z.whole) same h.0

pub counted_is : (s : Doc) (o : Option Compiled) (x : Compiled) → IsFound s o → o ≡ Some x → AreCounted x.nodes.items x.counters
counted_is s None x h e = absurd cc
counted_is s (Some y) x h e = let same : y ≡ x = cc in subst (λ (z : Compiled). AreCounted z.nodes.items z.counters) same h.1

pub faultless : (profile : Profile) (s : Doc) (o : Option Compiled) (x : Compiled) → IsChecked profile s → IsFound s o → o ≡ Some x → IsFaultless profile s
faultless profile s None x c h e = absurd cc
faultless profile s (Some y) x c h e = record { size = c.size; form = c.form; keywords = c.keywords; references = c.references; loops = λ l. h.2 (loop_below s l) }

-- the patterns of a schema without a fault are few
pub few : (s : Doc) → IsFaultless Three s → length (pattern_texts s) ≤ 64
few s f = by_test (nat_lt 64 (length (pattern_texts s))) refl
  where
    by_test : (b : Bool) → nat_lt 64 (length (pattern_texts s)) ≡ b → length (pattern_texts s) ≤ 64
    by_test true e = absurd (f.size (inr (ap (λ b. b || list_any (λ p. nat_lt 4_096 (length p)) (pattern_texts s)) e)))
    by_test false e = grind (arith, e)
