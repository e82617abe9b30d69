-- What a normalized path is read as.
use Rattle.std.proofs.Common.{◌≡◌, ◌≤◌, ◌<◌, ℕ, List, [], ◌∷◌, map, length, Result, Ok, Err, IfOk, IfErr, inl, inr, sym, ap, subst, ◌∙◌, ⊎_elim, encode_utf8_all, IsUtf8}
use Rattle.std.specs.Prelude.{chars, MatchResult}
use Rattle.std.specs.List.{AllByRecursion}
use Rattle.std.proofs.lemmas.Str.{encodes-chars, IsUtf8-string_bytes}
use Rattle.doc_tree.specs.Doc.{Place}
use Rattle.doc_tree.specs.Place.{place_of}
use Rattle.refusals.specs.declared.numbers.TheConstants.{MEMORY, PATH, PATH_LEFT_OUT, PATH_LONG}
use Rattle.doc_tree.specs.declared.tree.Step.{Step}
use Rattle.doc_tree.specs.declared.tree.Step.TheVariants.{Name, Index}
use Rattle.path_grammar.specs.Answers.{SpellsOnly, SpellsLeftOut, SpellsNone}
use Rattle.path_grammar.specs.Grammar.{Spells}
use Rattle.path_parse.specs.Answer.{IsFaultOf, IsFaultOfCharacters, IsQueryOf}
use Rattle.path_parse.specs.declared.fault.QueryFault.{QueryFault}
use Rattle.path_parse.specs.declared.syntax.Query.{Query}
use Rattle.path_parse.specs.NormalPath.{normal_path}
use Rattle.path_parse.specs.QueryOf.{query_of, HasUtf8Name, IsFaultOfPath, IsQueryOfPath}

-- names in memory are UTF-8
pub names_are_utf8 : (steps : List Step) → AllByRecursion HasUtf8Name (map place_of steps)
names_are_utf8 [] = tt
names_are_utf8 (Name s ∷ steps) = (IsUtf8-string_bytes s, names_are_utf8 steps)
names_are_utf8 (Index n ∷ steps) = (tt, names_are_utf8 steps)

module _ (ps : List Place) (bytes : List ℕ) (utf8 : IsUtf8 bytes) (same : chars bytes ≡ normal_path ps) (only : SpellsOnly (query_of ps) (normal_path ps)) where
  spelled : Spells (query_of ps) (chars bytes)
  spelled = subst (Spells (query_of ps)) (sym same) only.0

  as_long : length bytes ≡ length (encode_utf8_all (normal_path ps))
  as_long = ap length (sym (encodes-chars bytes utf8)) ∙ ap (λ t. length (encode_utf8_all t)) same

  that_query : (q : Query) → IsQueryOf bytes q → IsQueryOfPath ps q
  that_query q read = (subst (λ n. n ≤ 1024) as_long read.0, sym (read.1.2 (query_of ps) spelled))

  that_fault : (fault : QueryFault) → IsFaultOf bytes fault → IsFaultOfPath ps fault
  that_fault fault is =
      ⊎_elim
      (λ (long : (fault.number ≡ PATH_LONG) × (1024 < length bytes)). inl (long.0, subst (λ n. 1024 < n) as_long long.1))
      (λ (judged : (length bytes ≤ 1024) × IsFaultOfCharacters (chars bytes) fault). ⊎_elim
      (λ (left : (fault.number ≡ PATH_LEFT_OUT) × SpellsLeftOut (chars bytes)). let is = left.1.1 (query_of ps) spelled in let in_profile = only.1 in absurd cc)
      (λ more. ⊎_elim
      (λ (none : (fault.number ≡ PATH) × SpellsNone (chars bytes)). absurd (none.1 (query_of ps) spelled))
      (λ (memory : fault.number ≡ MEMORY). inr memory)
      more)
      judged.1)
      is

  pub read_as : (r : Result Query QueryFault) → IfOk r (IsQueryOf bytes) → IfErr r (IsFaultOf bytes) → MatchResult r (IsQueryOfPath ps) (IsFaultOfPath ps)
  read_as (Ok q) ok err = that_query q ok
  read_as (Err e) ok err = that_fault e err
