-- A regular expression that the kit read is the pattern of its text.
use Rattle.std.proofs.Common.{◌≡◌, ◌≢◌, ◌⊎◌, inl, inr, ℕ, ◌<◌, ◌≤◌, List, true, Option, None, Some, IsSomeAnd, IfSome, is_some, chars, get_or, refl, sym, ap, subst, length}
use Rattle.std.proofs.lemmas.Bool.{le-leb, lt-leb}
use Rattle.regex_hir.specs.Re.{Re}
use Rattle.regex_hir.specs.Find.{find_str}
use Rattle.regex_syntax.specs.Brackets.{Nested}
use Rattle.regex_syntax.specs.Captures.{SameCaptures}
use Rattle.regex_syntax.specs.Grammar.{Names, read, group_count}
use Rattle.regex_syntax.specs.declared.Config.{Config}
use Rattle.regex_syntax.specs.Verdict.{default_config, Reads, Refuses}
use Rattle.regex.specs.Strings.{regex_pattern, regex_source, regex_config, IsReadFromSource}
use Rattle.regex.specs.declared.string.regex.Regex.{Regex}
use Rattle.regex.proofs.ForCallers.{is_match_alike}
use Rattle.regex.specs.Sources.{IsRefusal}
use Rattle.regex.specs.Failures.{IsPattern, IsRightKind}
use Rattle.regex.specs.declared.error.Error.{Error}
use Rattle.regex.specs.declared.error.Error.TheVariants.{Syntax, CompiledTooBig, Internal, OutOfMemory}
use Rattle.regex_syntax.specs.declared.error.ErrorKind.{ErrorKind}
use Rattle.regex_syntax.specs.declared.error.ErrorKind.TheVariants as kind
use Rattle.schema_pattern.specs.Patterns.{AreAlike, IsFaultFor, IsFaultOf, pattern_in, is_found, within}
use Rattle.schema_pattern.specs.declared.fault.PatternFault.{PatternFault}

-- the tree that was read, against what the grammar reads
as_found : (o : Option (Nested Re × Names)) (a : Re) (names : Names) →
    IsSomeAnd o (λ (re, found). (re.depth ≤ 250) × SameCaptures a re.value × (names ≡ found) × (group_count a ≤ length names)) →
    (t : List ℕ) → ((k : ℕ) → get_or t k 0 < 256) → is_some (find_str a t 0) ≡ is_found (within 250 o) t
as_found None a names p t bytes = absurd p
as_found (Some found) a names p t bytes = rw (le-leb _ _ p.0) (is_match_alike p.1 t bytes true 0)

pub alike : (r : Regex) (source : List ℕ) → regex_source r ≡ source → regex_config r ≡ default_config → IsReadFromSource r → AreAlike source (regex_pattern r)
unfolding Reads
alike r source is_source is_config is_read =
    record { as_read = λ t bytes. as_found (read default_config (chars source)) (regex_pattern r) _ (rw (is_source, is_config) at is_read) t bytes }

is_one : (o : Option (Nested Re × Names)) (a : Re) (names : Names) →
    IsSomeAnd o (λ (re, found). (re.depth ≤ 250) × SameCaptures a re.value × (names ≡ found) × (group_count a ≤ length names)) →
    is_some (within 250 o) ≡ true
is_one None a names p = absurd p
is_one (Some found) a names p = rw (le-leb _ _ p.0) refl

pub is_pattern : (r : Regex) (source : List ℕ) → regex_source r ≡ source → regex_config r ≡ default_config → IsReadFromSource r → is_some (pattern_in source) ≡ true
unfolding Reads
is_pattern r source is_source is_config is_read = is_one (read default_config (chars source)) (regex_pattern r) _ (rw (is_source, is_config) at is_read)

none_of : (o : Option (Nested Re × Names)) (k : ErrorKind) → k ≢ kind.OutOfMemory →
    ((k ≡ kind.OutOfMemory) ⊎ ((o ≡ None) ⊎ ((k ≡ kind.NestLimitExceeded) × IfSome o (λ (re, _). 250 < re.depth)))) → within 250 o ≡ None
none_of o k memory (inl m) = absurd (memory m)
none_of o k memory (inr (inl none)) = ap (within 250) none
none_of None k memory (inr (inr p)) = refl
none_of (Some found) k memory (inr (inr p)) = rw (lt-leb _ _ p.1) refl

-- only a pattern is too large
one_of : (source : List ℕ) → IsPattern default_config source → is_some (pattern_in source) ≡ true
unfolding Reads
one_of source (hir, names, is_read) = is_one (read default_config (chars source)) _ _ is_read

-- what an error says of the text
pub refused : (source : List ℕ) (error : Error) (fault : PatternFault) → IsRefusal default_config source error → IsRightKind default_config source error → IsFaultFor error fault → IsFaultOf source fault
unfolding Refuses
refused source (Syntax e) fault grammar right is = subst (IsFaultOf source) (sym is) (none_of (read default_config (chars source)) e.kind right (grammar e refl))
refused source CompiledTooBig fault grammar right is = subst (IsFaultOf source) (sym is) (one_of source right)
refused source Internal fault grammar right is = subst (IsFaultOf source) (sym is) (one_of source right)
refused source OutOfMemory fault grammar right is = subst (IsFaultOf source) (sym is) tt

-- ---- of a builder with a limit

pub utf8_kept : (k : Config) → k ≡ default_config → record k { utf8 = true } ≡ default_config
utf8_kept k e = ap (λ (x : Config). record x { utf8 = true }) e

pub refused_in : (k : Config) (t source : List ℕ) (error : Error) (fault : PatternFault) → k ≡ default_config → t ≡ source → IsRefusal k t error → IsRightKind k t error → IsFaultFor error fault → IsFaultOf source fault
refused_in k t source error fault e f grammar right is =
    refused source error fault (subst (λ x. IsRefusal default_config x error) f (subst (λ x. IsRefusal x t error) e grammar)) (subst (λ x. IsRightKind default_config x error) f (subst (λ x. IsRightKind x t error) e right)) is
