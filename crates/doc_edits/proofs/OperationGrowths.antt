-- How operations of several changes, and of none, alter a document's height and the length of its text.
use Rattle.std.proofs.Common.{◌≡◌, ℕ, ◌+◌, ◌<◌, ◌≤◌, min, max, length, Option, Some, None, refl, sym, subst, arith}
use Rattle.std.specs.Prelude.{MatchOption}
use Rattle.doc_tree.specs.Doc.{Doc, height}
use Rattle.doc_pointer.specs.Place.{resolve}
use Rattle.doc_edits.specs.Edit as edit
use Rattle.doc_edits.specs.Edit.{Token, Tokens, at_last, remove_here, remove_member, remove_item, remove_element, index_below, elements_len, cut}
use Rattle.doc_edits.specs.SizeChange.{IsBytes, IsPlaced, Grew, Shrank, IsGrown, IsGrownFrom, IsMeasured}
use Rattle.doc_edits.specs.Size.{size}
use Rattle.doc_edits.specs.declared.size_change.SizeChange.{SizeChange}
use Rattle.doc_edits.specs.declared.size_change.DocumentSize.{DocumentSize}
use Rattle.doc_edits.specs.declared.place.Placed.{Placed}
use Rattle.doc_edits.specs.declared.place.Taken.{Taken}
use Rattle.doc_tree.specs.TreeView.{view}
use Rattle.doc_edits.proofs.Heights.{add_high, add_low, resolve_low}

pub nothing_grew : (d : Doc) (most : ℕ) → Grew most (record { reach = 0; gained = Some 0; lost = 0 }) d d
nothing_grew d most = record {
  deep = λ low x. absurd (omega (arith, x));
  high = λ low x. omega (arith, low);
  longer = λ short. (omega arith, refl);
}

pub only_shrank : (t : Taken) (lost : ℕ) (d e : Doc) → Shrank t d e → (size (view t.value) ≤ 1_048_576 → lost ≡ min (size (view t.value) + t.beside) 0xffff_ffff_ffff_ffff) → (most : ℕ) → Grew most (record { reach = 0; gained = Some 0; lost = lost }) d e
only_shrank t lost d e h is most = record {
  deep = λ low x. absurd (omega (arith, x));
  high = λ low x. omega (arith, h.higher, low);
  longer = λ short. let l = h.longer short in let k = is (omega (arith, l, short)) in (omega (arith, l, k, short), omega (arith, l, k, short));
}

moved_bytes : (o : Option ℕ) (j m a v b n old lost : ℕ) → IsBytes o j → a + v + b ≡ m → m ≤ 1_048_576 → n + old ≡ a + v + j → old ≤ a → lost ≡ old + b → MatchOption o (1_048_576 < n) (λ more. n + lost ≡ m + more)
moved_bytes None j m a v b n old lost is taken short placed low e = omega (arith, is, taken, placed, low)
moved_bytes (Some k) j m a v b n old lost is taken short placed low e = omega (arith, is, taken, placed, low, e)

-- how deep a moved value reaches, as `reach_of_move` answers it
pub record Reaches (most from path h r : ℕ) : Type 0 where
  pub deep : 64 < r → 64 < path + h
  pub high : from + h ≤ most → r ≤ 64 → path + h ≤ max most r

pub moved : (most : ℕ) (from path : Tokens) (d a e : Doc) (t : Taken) (p : Placed) (r lost : ℕ) → resolve from d ≡ Some (view t.value) → Shrank t d a → edit.add path (view t.value) a ≡ Some e
    → IsPlaced p (view t.value) a e → Reaches most (length from) (length path) (height (view t.value)) r → lost ≡ min (p.lost + t.beside) 0xffff_ffff_ffff_ffff → Grew most (record { reach = r; gained = p.beside; lost = lost }) d e
moved most from path d a e t p r lost there gone made is reach sum = record {
  deep = λ low x. let deep = reach.deep x in let down = add_low path (view t.value) a e made in omega (arith, deep, down);
  high = λ low x.
      let was = resolve_low from d (view t.value) there in
      let deep = reach.high (omega (arith, was, low)) x in
      let up = add_high path (view t.value) a e made in
      omega (arith, deep, up, gone.higher, low);
  longer = λ short.
      let taken = gone.longer short in
      let went = is.went (omega (arith, taken, short)) in
      let all : lost ≡ is.old + t.beside = omega (arith, sum, went, is.low, taken, short) in
      (omega (arith, all, is.low, taken), moved_bytes p.beside is.beside (size d) (size a) (size (view t.value)) t.beside (size e) is.old lost is.came taken short is.sum is.low all);
}

-- what an operation leaves
pub grown_from : (m : DocumentSize) (g : SizeChange) (d e : Doc) → IsMeasured m d → Grew m.most g d e → IsGrownFrom m g e
grown_from m g d e is h = record {
  short = is.short;
  low = is.low;
  deep = h.deep (omega (arith, is.high, is.low));
  high = h.high is.high;
  longer = subst (λ k. IsGrown g k (size e)) (sym is.len) (h.longer (omega (arith, is.len, is.short)));
}
