-- A schema of one without patterns has none.
use Rattle.std.proofs.Common.{◌≡◌, ◌↔◌, ◌==◌, ℕ, List, [], ◌∷◌, ◌++◌, length, codes, not, true, false, refl, sym, ap, subst, ◌∙◌, arith}
use Rattle.doc_tree.specs.Doc.{Doc, null, boolean, int, text, list, object, Members, no_members, member}
use Rattle.doc_tree.specs.Lists.{names_list}
use Rattle.schema_graph.specs.Walks.{In, first, later}
use Rattle.schema_rules.specs.Parts.{members_in, beside}
use Rattle.schema_rules.specs.Rules.{by_pattern}
use Rattle.schema_nodes.proofs.Searches.{beside_texts}
use Rattle.schema_graph.proofs.Among.{none_in}
use Rattle.schema_pattern.specs.Tables.{pattern_sources}
use Rattle.schema_pattern.specs.declared.pattern.Pattern.{Pattern as Read}
use Rattle.schema_rules.specs.Patterns.{fits}
use Rattle.schema_rules.specs.PatternTexts.{pattern_texts, texts_by, texts_in, texts_of}
use Rattle.schema_rules.specs.Schemas.{schemas}
use Rattle.schema_rules.specs.declared.keyword.Keyword.TheVariants.{Pattern, PatternProperties}
use Rattle.schema_rules.specs.declared.profile.Profile.{Profile}
use Rattle.schema_rules.specs.declared.profile.Profile.TheVariants.{Three}

pub none_first : (xs ys : List (List ℕ)) → (xs ++ ys) ≡ [] → xs ≡ []
none_first [] ys e = refl
none_first (x ∷ xs) ys e = absurd cc

pub none_later : (xs ys : List (List ℕ)) → (xs ++ ys) ≡ [] → ys ≡ []
none_later [] ys e = e
none_later (x ∷ xs) ys e = absurd cc

pub searchless : (profile : Profile) (ds : List Doc) (d : Doc) → In d ds → texts_in profile ds ≡ [] → texts_by profile (members_in d) ≡ []
searchless profile [] d i e = elim i [ ]
searchless profile (d ∷ ds) _ first e = none_first (texts_by profile (members_in d)) (texts_in profile ds) e
searchless profile (c ∷ ds) d (later i) e = searchless profile ds d i (none_later (texts_by profile (members_in c)) (texts_in profile ds) e)

pub no_search : (v t : Doc) → texts_of Pattern v ≡ [] → fits v t ≡ true
no_search (text s) t e = absurd cc
no_search null t e = refl
no_search (boolean b) t e = refl
no_search (int z) t e = refl
no_search (list ds) t e = refl
no_search (object ms) t e = refl

pub searchless_object : (root : Doc) (ms : Members) → In (object ms) (schemas root) → pattern_texts root ≡ [] → texts_by Three ms ≡ []
searchless_object root ms i e = searchless Three (schemas root) (object ms) i e

-- no names are searched either
pub no_names : (v t : Doc) → texts_of PatternProperties v ≡ [] → by_pattern (members_in v) (members_in t) ≡ []
no_names v t e = ap (λ ss. by_pattern ss (members_in t)) (nameless (members_in v) e)
  where
    nameless : (ss : Members) → names_list ss ≡ [] → ss ≡ no_members
    nameless no_members e = refl
    nameless (member k d ss) e = absurd cc

pub unpatterned : (ms : Members) → texts_by Three ms ≡ [] → names_list (members_in (beside (codes "patternProperties") ms)) ≡ []
unpatterned ms e = none (names_list (members_in (beside (codes "patternProperties") ms))) (λ s i. none_in s (subst (λ l. In s l) e (beside_texts ms s i)))
  where
    none : (xs : List (List ℕ)) → ((s : List ℕ) → In s xs → ⊥) → xs ≡ []
    none [] h = refl
    none (x ∷ xs) h = absurd (h x first)

-- no pattern was read where there are no texts of patterns
pub none_read : (ps : List Read) (ts : List (List ℕ)) (n : ℕ) → pattern_sources ps ≡ ts → n ≡ length ps → (not (n == 0) ≡ false) ↔ (ts ≡ [])
none_read [] ts n e len = (λ h. sym e, λ h. ap (λ k. not (k == 0)) len)
none_read (p ∷ ps) ts n e len = (
  λ h. (let zero : n ≡ 0 = grind (arith, h) in absurd (omega (arith, zero, len))),
  λ h. (let none : pattern_sources (p ∷ ps) ≡ [] = e ∙ h in absurd cc),
)
