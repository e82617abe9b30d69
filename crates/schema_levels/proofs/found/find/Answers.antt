use Rattle.std.proofs.Common.{◌≡◌, ◌∷◌, [], List, ℕ, ◌∙◌, refl, subst, if◌then◌else◌}
use Rattle.schema_pattern.specs.Patterns.{is_found, pattern_in}
use Rattle.schema_pattern.specs.Tables.{source_at, sources}
use Rattle.schema_levels.specs.Bits.{put}
use Rattle.schema_levels.specs.Known.{has}
use Rattle.schema_levels.proofs.Finding.{found_none, found_on}
use Rattle.schema_levels.proofs.found.find.Goals as goal

pub loop-number-init : goal.loop-number-init
loop-number-init c = (found_none (sources c.args.searches.now) c.args.sought c.args.name.now c.next-number.result 0 c.next-number.ensures.none, refl)

pub loop-number-preserved : goal.loop-number-preserved
loop-number-preserved c =
    let i = c.loop-number.number in
    let w = c.loop-number.found in
    let k = c.args.name.now in
    let says = subst (λ (ss : List (List ℕ)). c.find_one-found.result ∷ [] ≡ (if has c.args.sought i then put (w ∷ []) i (is_found (pattern_in (source_at ss i)) k) else w ∷ [])) c.loop-number.invariant.1 c.find_one-found.ensures.value in (
      found_on (sources c.args.searches.now) c.args.sought k i c.next-number-in-loop-number.result w c.find_one-found.result c.loop-number.invariant.0 says c.next-number-in-loop-number.ensures.none,
      c.find_one-found.ensures.same ∙ c.loop-number.invariant.1,
    )
