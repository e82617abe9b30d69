-- One call more, of a disk in memory.
use Rattle.std.proofs.Common.{◌≡◌, inl, inr, ⊎_elim, ℕ, ◌<◌, ◌/◌, List, [], ◌∷◌, ◌++◌, length, set, get_or, refl, ap, subst, sym, ◌∙◌, arith, length-set, All, Ok, Bool, true, false, nat_eq, if◌then◌else◌, ◌||◌, None, Some}
use Rattle.std.proofs.lemmas.List.Elements.{All-nil, All-push}
use Rattle.std.specs.declared.snapshot.Snapshot.{Snapshot}
use Rattle.sector_device.specs.Disk.{Image, HasShape, Writes, Syncs, Tears, tearing}
use Rattle.sector_device.specs.Coherence.{seen_left, seen_by, HasShape-written}
use Rattle.sector_device.specs.History.{seen_after, left_after, left_by}
use Rattle.sector_device.specs.Memory.{mem_after}
use Rattle.sector_device.specs.Kept.{IsKept, contents_after, put_all, written_near, written_to}
use Rattle.sector_device.specs.declared.call.DeviceCall.{DeviceCall}
use Rattle.sector_device.specs.declared.call.DeviceCall.TheVariants.{Write, Sync}
use Rattle.sector_device.specs.declared.history.History.{History, Written, Synced}
use Rattle.sector_device.specs.declared.unsettled.Unsettled.{Unsettled}
use Rattle.sector_device.proofs.Writes.{put_push, written_push, near_push}

module _ (old : History) (of : Snapshot History) (is_old : of.value ≡ old) where
  module _ (calls more : List DeviceCall) (settled current : Image) (unsettled writes : List Unsettled) (kept : IsKept old calls settled unsettled current) where
    now : IsKept of.value calls settled unsettled current
    now = subst (λ (h : History). IsKept h calls settled unsettled current) (sym is_old) kept

    pub kept_written : (at : ℕ) (content : List ℕ) (given : Snapshot (List ℕ)) → given.value ≡ content → length content ≡ 512 → at < length current
        → more ≡ calls ++ Write at ∷ [] → writes ≡ unsettled ++ record { at = at; content = content } ∷ [] → IsKept (Written of at given) more settled writes (set current at content)
    kept_written at content given is_content whole inside is_more is_writes = record {
      recorded = is_more ∙ ap (λ (l : List DeviceCall). l ++ Write at ∷ []) now.recorded;
      seen = ap (λ (i : Image). set i at content) now.seen ∙ ap (set (seen_after of.value) at) (sym is_content);
      shape = λ torn image left. subst (λ (n : ℕ). HasShape n image) (sym size) (HasShape-written torn (length current) (left_by torn of.value) at given.value (ap length is_content ∙ whole) (now.shape torn) image left);
      size = now.size ∙ sym size;
      placed = subst (All (λ w. w.at < length settled)) (sym is_writes) (All-push (λ w. w.at < length settled) unsettled write now.placed (omega (arith, inside, now.size)));
      put = ap (put_all settled) is_writes ∙ put_push settled unsettled write ∙ ap (λ (i : Image). set i at content) now.put;
      contents = λ i lt. contents i (now.contents i (omega (arith, lt, size)));
      risks = λ i. ap (λ (b : Bool). b || nat_eq (at / 8) (i / 8)) (now.risks i) ∙ sym (ap (written_near i) is_writes ∙ near_push i unsettled write);
    }
      where
        write : Unsettled
        write = record { at = at; content = content }

        size : length (set current at content) ≡ length current
        size = length-set current at content

        one : (i : ℕ) (here : Bool) → contents_after of.value i ≡ get_or settled i [] ∷ written_to i unsettled
            → (if here then contents_after of.value i ++ given.value ∷ [] else contents_after of.value i) ≡ get_or settled i [] ∷ (if here then written_to i unsettled ++ content ∷ [] else written_to i unsettled)
        one i true is = ap (λ (l : List (List ℕ)). l ++ given.value ∷ []) is ∙ ap (λ (c : List ℕ). get_or settled i [] ∷ written_to i unsettled ++ c ∷ []) is_content
        one i false is = is

        contents : (i : ℕ) → contents_after of.value i ≡ get_or settled i [] ∷ written_to i unsettled
            → (if nat_eq at i then contents_after of.value i ++ given.value ∷ [] else contents_after of.value i) ≡ get_or settled i [] ∷ written_to i writes
        contents i is = one i (nat_eq at i) is ∙ ap (λ (l : List (List ℕ)). get_or settled i [] ∷ l) (sym (ap (written_to i) is_writes ∙ written_push i unsettled write))

    pub kept_synced : (new : Image) → more ≡ calls ++ Sync ∷ [] → new ≡ put_all settled unsettled → writes ≡ [] → IsKept (Synced of) more new writes current
    kept_synced new is_more is_new none = record {
      recorded = is_more ∙ ap (λ (l : List DeviceCall). l ++ Sync ∷ []) now.recorded;
      seen = now.seen;
      shape = λ torn image is. subst (HasShape (length current)) (sym is) (now.shape torn (seen_after of.value) (seen_by torn of.value));
      size = ap length is_current;
      placed = subst (All (λ w. w.at < length new)) (sym none) (All-nil (λ w. w.at < length new));
      put = ap (put_all new) none ∙ is_current;
      contents = λ i lt. ap (λ (image : Image). get_or image i [] ∷ []) (sym (is_current ∙ now.seen)) ∙ ap (λ (l : List Unsettled). get_or new i [] ∷ written_to i l) (sym none);
      risks = λ i. ap (written_near i) (sym none);
    }
      where
        is_current : new ≡ current
        is_current = is_new ∙ now.put

  pub written_writes : {T E : Type 0} (sectors size failures at : ℕ) (content : List ℕ) (given : Snapshot (List ℕ)) (value : T) → given.value ≡ content
      → Writes {T = T} {E = E} (mem_after sectors old failures) (mem_after size (Written of at given) failures) at content (Ok value)
  written_writes {T} {E} sectors size failures at content given value is_content =
      subst (λ (h : History). Writes {T = T} {E = E} (mem_after sectors h failures) (mem_after size (Written of at given) failures) at content (Ok value)) is_old
      (subst (λ (c : List ℕ). Writes {T = T} {E = E} (mem_after sectors of.value failures) (mem_after size (Written of at given) failures) at c (Ok value)) is_content
      record {
        honest = tt;
        time = record { later = omega arith; nothing_else = λ m image le since. ⊎_elim inl (λ now. inr now.1) since; keeps = λ m image le since. inl since };
        adds = λ image left. left;
        seen = refl;
        all = λ image left. left;
        failed = tt;
      })

  pub synced_syncs : {T E : Type 0} (sectors failures : ℕ) (value : T) → Syncs {T = T} {E = E} (mem_after sectors old failures) (mem_after sectors (Synced of) failures) (Ok value)
  synced_syncs {T} {E} sectors failures value =
      subst (λ (h : History). Syncs {T = T} {E = E} (mem_after sectors h failures) (mem_after sectors (Synced of) failures) (Ok value)) is_old
      record {
        honest = tt;
        time = record { later = omega arith; nothing_else = λ m image le since. ⊎_elim inl (λ now. inr now.1) since; keeps = λ m image le since. inl since };
        seen = refl;
        adds_none = λ image is. subst (left_after of.value) (sym is) (seen_left of.value);
        settled = λ image is. is;
      }

  pub written_tears : (sectors size failures at : ℕ) (content : List ℕ) (given : Snapshot (List ℕ)) → given.value ≡ content → (torn : List ℕ → Bool)
      → Tears torn (mem_after sectors old failures) (mem_after size (Written of at given) failures) at content
  written_tears sectors size failures at content given is_content torn =
      subst (λ (h : History). Tears torn (mem_after sectors h failures) (mem_after size (Written of at given) failures) at content) is_old
      (subst (λ (c : List ℕ). Tears torn (mem_after sectors of.value failures) (mem_after size (Written of at given) failures) at c) is_content
      record {
        time = record { later = omega arith; nothing_else = λ m image le since. ⊎_elim inl (λ now. inr now.1) since; keeps = λ m image le since. inl since };
        adds = λ image left. left;
      })

  pub synced_torn : {T E : Type 0} (sectors failures : ℕ) (value : T) (torn : List ℕ → Bool) → Syncs {T = T} {E = E} (tearing torn (mem_after sectors old failures)) (tearing torn (mem_after sectors (Synced of) failures)) (Ok value)
  synced_torn {T} {E} sectors failures value torn =
      subst (λ (h : History). Syncs {T = T} {E = E} (tearing torn (mem_after sectors h failures)) (tearing torn (mem_after sectors (Synced of) failures)) (Ok value)) is_old
      record {
        honest = tt;
        time = record { later = omega arith; nothing_else = λ m image le since. ⊎_elim inl (λ now. inr now.1) since; keeps = λ m image le since. inl since };
        seen = refl;
        adds_none = λ image is. subst (left_by (Some torn) of.value) (sym is) (seen_by (Some torn) of.value);
        settled = λ image is. is;
      }
