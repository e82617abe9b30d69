-- A loop, as a list of places, is the same fact as a walk that comes back.
use Rattle.std.proofs.Common.{◌≡◌, ℕ, zero, suc, List, [], ◌∷◌, length, Some, refl, sym, ap, subst, arith}
use Rattle.std.specs.Bool.{Decides}
use Rattle.std.specs.Prelude.{Bool, ◌↔◌}
use Rattle.schema_graph.specs.Walks.{In, first, later, Walk, IsLooped}
use Rattle.schema_graph.specs.Loops.{end, AreJoined, IsLoop, HasLoop}
use Rattle.schema_graph.proofs.Among.{none_in}
use Rattle.schema_graph.proofs.Ranks.{ShortLoop, long_walk}

module _ {A : Type 0} (next : A → List A) where
  -- the places after the first of a walk
  trail : (a b : A) (n : ℕ) → Walk next a b n → List A
  trail a b zero w = []
  trail a b (suc n) w = w.0 ∷ trail w.0 b n w.2

  trail_length : (a b : A) (n : ℕ) (w : Walk next a b n) → length (trail a b n w) ≡ n
  unfolding trail
  trail_length a b zero w = refl
  trail_length a b (suc n) w = ap suc (trail_length w.0 b n w.2)

  trail_joined : (a b : A) (n : ℕ) (w : Walk next a b n) → AreJoined next (a ∷ trail a b n w)
  unfolding trail
  trail_joined a b zero w = search
  trail_joined a b (suc n) w = (w.1, trail_joined w.0 b n w.2)

  trail_end : (a b : A) (n : ℕ) (w : Walk next a b n) → end (a ∷ trail a b n w) ≡ Some b
  unfolding trail
  trail_end a b zero w = ap Some w
  trail_end a b (suc n) w = trail_end w.0 b n w.2

  module _ (places : List A) (closed : (a b : A) → In a places → In b (next a) → In b places) where
    trail_among : (a b : A) (n : ℕ) (w : Walk next a b n) → In a places → (x : A) → In x (a ∷ trail a b n w) → In x places
    unfolding trail
    trail_among a b zero w h _ first = h
    trail_among a b zero w h x (later i) = none_in x i
    trail_among a b (suc n) w h _ first = h
    trail_among a b (suc n) w h x (later i) = trail_among w.0 b n w.2 (closed a w.0 h w.1) x i

    -- a short walk that comes back, as a list
    pub listed : ShortLoop next places → HasLoop next places
    listed l =
        let a = l.0 in
        let n = l.2 in
        let len = trail_length a a (suc n) l.4 in (
          a ∷ trail a a (suc n) l.4,
          record {
            at_least = omega (arith, len);
            at_most = omega (arith, len, l.3);
            among = trail_among a a (suc n) l.4 l.1;
            comes_back = sym (trail_end a a (suc n) l.4);
            joined = trail_joined a a (suc n) l.4;
          },
        )

  -- a list whose neighbours are joined, as a walk
  along : (a b : A) (walk : List A) → AreJoined next (a ∷ walk) → end (a ∷ walk) ≡ Some b → Walk next a b (length walk)
  along a b [] j e = cc
  along a b (c ∷ walk) j e = (c, j.0, along c b walk j.1 e)

  pub walked : (places : List A) → HasLoop next places → IsLooped next places
  walked places l = by_walk l.0 l.1
    where
      by_walk : (walk : List A) → IsLoop next places walk → IsLooped next places
      by_walk [] l = absurd (omega (arith, l.at_least))
      by_walk (a ∷ []) l = absurd (omega (arith, l.at_least))
      by_walk (a ∷ b ∷ walk) l = (a, l.among a first, length walk, along a a (b ∷ walk) l.joined (sym l.comes_back))

  -- from any place on the way round, a walk of any length
  round : (a : A) (n : ℕ) (w : Walk next a a (suc n)) (k m : ℕ) (b : A) → Walk next b a m → (c : A) × Walk next b c k
  round a n w zero m b rest = (b, refl)
  round a n w (suc k) zero b rest =
      let more = round a n w k n w.0 w.2 in
      (more.0, subst (λ x. Walk next x more.0 (suc k)) (sym rest) (w.0, w.1, more.1))
  round a n w (suc k) (suc m) b rest =
      let more = round a n w k m rest.0 rest.2 in
      (more.0, (rest.0, rest.1, more.1))

  pub any_walk : (a : A) (n : ℕ) → Walk next a a (suc n) → (k : ℕ) → (c : A) × Walk next a c k
  any_walk a n w k = round a n w k (suc n) a w

  module _ (same : A → A → Bool) (decides : (a b : A) → Decides (same a b) (a ≡ b)) (places : List A) (closed : (a b : A) → In a places → In b (next a) → In b places) where
    -- a walk that comes back, however long, gives a short one
    pub shortened : IsLooped next places → ShortLoop next places
    shortened l =
        let w = any_walk l.0 l.2 l.3 (length places) in
        long_walk next same decides places closed l.0 w.0 l.1 w.1

    pub same_loops : HasLoop next places ↔ IsLooped next places
    same_loops = (walked places, λ l. listed places closed (shortened l))
