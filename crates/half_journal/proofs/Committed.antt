-- What a commit makes of the images, call by call.
use Rattle.std.proofs.Common.{rules, ◌≡◌, inl, inr, ℕ, ◌-◌, ◌+◌, ◌*◌, ◌/◌, ◌≤◌, ◌<◌, ◌^◌, List, [], ◌++◌, length, set, drop, refl, ap, subst, sym, ◌∙◌, arith, length-append, length-set, Bool, true, false, if◌then◌else◌, Result, Ok, IsErr}
use Rattle.std.proofs.lemmas.Bool.Decides.{nat_tests}
use Rattle.std.proofs.lemmas.List.{get_or_append_left, drop-append-le}
use Rattle.std.proofs.lemmas.Result.{on_ok_weaker}
use Rattle.sector_device.specs.Charges.{IsSame}
use Rattle.sector_device.specs.Disk.{Disk, Image, IsCoherent, LeavesOnly}
use Rattle.sector_device.proofs.Moments.{leaves_weaker}
use Rattle.sector_device.specs.Sectors.{Over, OverSome, SectorsHold, sectors_of}
use Rattle.half_journal.specs.Layout.{sector_of, half_size, half_start, half_capacity}
use Rattle.half_journal.specs.Publishing.{Replaces}
use Rattle.half_journal.specs.declared.commit_sector.Commit.{Commit}
use Rattle.half_journal.specs.States.{CarriesInHalf, EitherInHalf, HalfState, Holds, begun, commit_of, committed, one_more}
use Rattle.half_journal.specs.Writes.{CanWrite, EndsInZeros, HasCopied, IsPlaced, Tried, WritesRun, commit_calls, one_sync, takes_one_sync, touched, written_first}
use Rattle.half_journal.specs.declared.update.Base.{Base}
use Rattle.half_journal.specs.declared.update.Base.TheVariants.{Kept, Written, Copied}
use Rattle.half_journal.specs.declared.update.Start.{Start}
use Rattle.half_journal.specs.declared.update.Update.{Update}
use Rattle.half_journal.proofs.Images.{Agrees, agrees_none, agrees_behind, agrees_apart, byte_kept, carries_over, holds_more, kept_over, named, run_holds, sectors_kept}
use Rattle.half_journal.proofs.Since.{Since, begin, left_has, no_ok, since_replaced, since_run, wide}
use Rattle.half_journal.proofs.Tail.{touched_fits, touched_some}

-- a device on which each image carries the old bytes
module _ {before now : Disk} {sectors : ℕ} (old : HalfState) (since : Since before now sectors (CarriesInHalf old)) where
  pub holds_left : (image : Image) → now.left image → Holds image (half_start sectors old.half) old.bytes (length old.bytes)
  holds_left image left = subst (λ (n : ℕ). Holds image (half_start n old.half) old.bytes (length old.bytes)) (wide since image left) (left_has since image left).begins

  pub holds_seen : Holds now.seen (half_start sectors old.half) old.bytes (length old.bytes)
  holds_seen = holds_left now.seen since.coherent.seen

  pub since_agrees : (next : Disk) (first count : ℕ) (run : List ℕ) → (next.honest → IsCoherent next) → IsSame now next → 0 < first → Agrees (half_start sectors old.half) old.bytes (length old.bytes) first count run
      → LeavesOnly now next (OverSome first count run now.left) → Since before next sectors (CarriesInHalf old)
  since_agrees next first count run coherent same positive agrees =
      since_run since next first count run coherent same
      (λ image after left carries over. carries_over image after old first count run carries over positive
      (subst (λ (n : ℕ). Agrees (half_start n old.half) old.bytes (length old.bytes) first count run) (sym (wide since image left)) agrees))

-- ---- by what a commit begins with

-- what is written first agrees with the old bytes
first_agrees : (base : Base) (old : HalfState) (sectors : ℕ) → old.half ≤ 1 → length old.bytes ≤ half_capacity sectors → length (written_first base) ≤ half_capacity sectors
    → Agrees (half_start sectors old.half) old.bytes (length old.bytes) (half_start sectors (begun old base).half) (sectors_of (length (written_first base))) (written_first base)
first_agrees Kept old sectors low fits room = agrees_none (half_start sectors old.half) old.bytes (length old.bytes) (half_start sectors old.half) []
first_agrees (Copied t v) old sectors low fits room = agrees_none (half_start sectors old.half) old.bytes (length old.bytes) (half_start sectors (1 - old.half)) []
first_agrees (Written t v) old sectors low fits room =
    agrees_apart sectors old.half (half_start sectors (1 - old.half)) 0 (sectors_of (length t.now)) old.bytes t.now (length old.bytes) low (omega arith) (omega (arith, room)) fits

-- then the half begins with the base
first_holds : (base : Base) (old : HalfState) (sectors : ℕ) (before image : Image) → HasCopied base before (half_start sectors (1 - old.half))
    → Holds image (half_start sectors old.half) old.bytes (length old.bytes) → Over (half_start sectors (begun old base).half) (sectors_of (length (written_first base))) (written_first base) before image
    → SectorsHold image (half_start sectors (begun old base).half) (sectors_of (length (written_first base))) (written_first base) → Holds image (half_start sectors (begun old base).half) (begun old base).bytes (length (begun old base).bytes)
first_holds Kept old sectors before image copied holds over written = holds
first_holds (Written t v) old sectors before image copied holds over written = run_holds image (half_start sectors (1 - old.half)) t.now written
first_holds (Copied t v) old sectors before image copied holds over written =
    let start = half_start sectors (1 - old.half) in
    kept_over start t.now (length t.now) start 0 [] before image copied (agrees_none start t.now (length t.now) start []) over

-- the frames agree with the old bytes
more_agrees : (base : Base) (frames : List ℕ) (old : HalfState) (sectors used more : ℕ) → old.half ≤ 1 → length old.bytes ≤ half_capacity sectors → used / 512 + more ≤ half_size sectors
    → Agrees (half_start sectors old.half) old.bytes (length old.bytes) (half_start sectors (begun old base).half + used / 512) more (drop (512 * (used / 512)) ((begun old base).bytes ++ frames))
more_agrees Kept frames old sectors used more low fits room =
    λ i j lt within place. agrees_behind (half_start sectors old.half) (old.bytes ++ frames) (length old.bytes) (used / 512) more i j lt within place ∙ get_or_append_left old.bytes frames 0 i lt
more_agrees (Written t v) frames old sectors used more low fits room =
    agrees_apart sectors old.half (half_start sectors (1 - old.half) + used / 512) (used / 512) more old.bytes (drop (512 * (used / 512)) (t.now ++ frames)) (length old.bytes) low refl room fits
more_agrees (Copied t v) frames old sectors used more low fits room =
    agrees_apart sectors old.half (half_start sectors (1 - old.half) + used / 512) (used / 512) more old.bytes (drop (512 * (used / 512)) (t.now ++ frames)) (length old.bytes) low refl room fits

-- an opening that is counted alone leaves the bytes
counted_alone : (update : Update) (old : HalfState) (sectors : ℕ) (image : Image) → takes_one_sync update ≡ true → Holds image (half_start sectors old.half) old.bytes (length old.bytes)
    → Holds image (half_start sectors (begun old update.base).half) (committed old update).bytes (length (committed old update).bytes)
counted_alone update old sectors image one holds = by update.base refl one
  where
    by : (base : Base) → update.base ≡ base → one_sync base update.counts_opening (length update.frames.now) ≡ true → Holds image (half_start sectors (begun old update.base).half) ((begun old update.base).bytes ++ update.frames.now) (length ((begun old update.base).bytes ++ update.frames.now))
    by Kept is alone =
        let none : length update.frames.now ≡ 0 = grind (arith, nat_tests) in
        subst (λ (b : Base). Holds image (half_start sectors (begun old b).half) ((begun old b).bytes ++ update.frames.now) (length ((begun old b).bytes ++ update.frames.now))) (sym is)
        (λ i lt. let low : i < length old.bytes = omega (arith, lt, none, length-append old.bytes update.frames.now) in holds i low ∙ sym (get_or_append_left old.bytes update.frames.now 0 i low))
    by (Written t v) is alone = absurd (cc alone)
    by (Copied t v) is alone = absurd (cc alone)

-- a count that is raised or not fits
pub opens_fit : (counts : Bool) (opens : ℕ) → opens < 2 ^ 64 → (if counts then one_more opens else opens) < 2 ^ 64
opens_fit counts opens fits = grind arith

-- the calls of the device, in their order
pub calls_are : (update : Update) (target : List ℕ) (used : ℕ) (one : Bool) → target ≡ written_first update.base → one ≡ takes_one_sync update
    → sectors_of (length target) + (touched used (length update.frames.now) + ((if one then 0 else 1) + 2)) ≡ commit_calls update used
calls_are update target used one target_is one_is =
    grind (arith, ap (λ (l : List ℕ). sectors_of (length l)) target_is, one_is)

-- ---- a commit that can be made

pub record Ready (before : Disk) (update : Update) (start : Start) (commit : Commit) (old : HalfState) : Type 0 where
  pub size : commit.sectors ≡ before.sectors
  pub placed : IsPlaced commit.sectors start
  pub fits : start.used + length update.frames.now ≤ half_capacity commit.sectors
  pub target_is : start.target.now ≡ written_first update.base
  pub can : CanWrite before update start commit old
  pub coherent : before.honest → IsCoherent before

pub ready_of : {before : Disk} {update : Update} {start : Start} {commit : Commit} {old : HalfState} → commit.sectors ≡ before.sectors → IsPlaced commit.sectors start → start.used + length update.frames.now ≤ half_capacity commit.sectors
    → start.target.now ≡ written_first update.base → CanWrite before update start commit old → (before.honest → IsCoherent before) → Ready before update start commit old
ready_of size placed fits target_is can coherent = search rules

module _ {before : Disk} {update : Update} {start : Start} {commit : Commit} {old : HalfState} (ready : Ready before update start commit old) where
  abbrev base : HalfState
  base = begun old update.base

  abbrev new : HalfState
  new = committed old update

  -- where the target begins, and where the frames do, with what is written there
  abbrev first : ℕ
  first = half_start commit.sectors base.half

  abbrev more : ℕ
  more = touched start.used (length update.frames.now)

  abbrev rest : List ℕ
  rest = drop (512 * (start.used / 512)) new.bytes

  at_start : Since before before commit.sectors (CarriesInHalf old)
  at_start = begin before commit.sectors (CarriesInHalf old) ready.can.honest ready.coherent (sym ready.size) ready.can.carried

  was : CarriesInHalf old before.seen
  was = left_has at_start before.seen at_start.coherent.seen

  room : length old.bytes ≤ half_capacity commit.sectors
  room = subst (λ (n : ℕ). length old.bytes ≤ half_capacity n) (wide at_start before.seen at_start.coherent.seen) was.fits

  rest_are : start.front.now ++ update.frames.now ≡ rest
  rest_are = ap (λ (l : List ℕ). l ++ update.frames.now) ready.can.front_is ∙ sym (drop-append-le (512 * (start.used / 512)) base.bytes update.frames.now (omega (arith, ready.can.used_is)))

  -- the runs of writes, said of the half, the bytes and the frames
  target_run : {T E : Type 0} {result : Result T E} (mid : Disk) → WritesRun before mid (half_start commit.sectors start.half) (sectors_of (length start.target.now)) start.target.now result
      → WritesRun before mid first (sectors_of (length (written_first update.base))) (written_first update.base) result
  target_run {T} {E} {result} mid run =
      subst (λ (l : List ℕ). WritesRun before mid first (sectors_of (length l)) l result) ready.target_is
      (subst (λ (h : ℕ). WritesRun before mid (half_start commit.sectors h) (sectors_of (length start.target.now)) start.target.now result) ready.can.half_is run)

  pub frames_run : {T E : Type 0} {result : Result T E} (mid next : Disk) → WritesRun mid next (half_start commit.sectors start.half + start.used / 512) more (start.front.now ++ update.frames.now) result → WritesRun mid next (first + start.used / 512) more rest result
  frames_run {T} {E} {result} mid next run =
      subst (λ (l : List ℕ). WritesRun mid next (first + start.used / 512) more l result) rest_are
      (subst (λ (h : ℕ). WritesRun mid next (half_start commit.sectors h + start.used / 512) more (start.front.now ++ update.frames.now) result) ready.can.half_is run)

  -- the target is written
  pub since_target : {T E : Type 0} {result : Result T E} (mid : Disk) → (mid.honest → IsCoherent mid) → IsSame before mid → (before.honest → WritesRun before mid (half_start commit.sectors start.half) (sectors_of (length start.target.now)) start.target.now result)
      → Since before mid commit.sectors (CarriesInHalf old)
  since_target mid coherent same run =
      since_agrees old at_start mid first (sectors_of (length (written_first update.base))) (written_first update.base) coherent same (omega arith)
      (first_agrees update.base old commit.sectors was.half_fits room (omega (arith, ap length ready.target_is, ready.placed.target_fits))) (target_run mid (run ready.can.honest)).any_moment

  pub holds_base : {T E : Type 0} {value : T} (mid : Disk) → Since before mid commit.sectors (CarriesInHalf old) → WritesRun {T = T} {E = E} before mid (half_start commit.sectors start.half) (sectors_of (length start.target.now)) start.target.now (Ok value)
      → Holds mid.seen first base.bytes (length base.bytes)
  holds_base mid since run =
      let written = target_run mid run in
      first_holds update.base old commit.sectors before.seen mid.seen
      (subst (λ (n : ℕ). HasCopied update.base before.seen (half_start n (1 - old.half))) (sym ready.size) ready.can.copied) (holds_seen old since) written.seen written.written

  -- the frames are written
  pub since_frames : {T E : Type 0} {result : Result T E} (mid next : Disk) → Since before mid commit.sectors (CarriesInHalf old) → (next.honest → IsCoherent next) → IsSame mid next
      → (mid.honest → WritesRun mid next (half_start commit.sectors start.half + start.used / 512) more (start.front.now ++ update.frames.now) result) → Since before next commit.sectors (CarriesInHalf old)
  since_frames mid next since coherent same run =
      since_agrees old since next (first + start.used / 512) more rest coherent same (omega arith)
      (more_agrees update.base update.frames.now old commit.sectors start.used more was.half_fits room (touched_fits start.used (length update.frames.now) commit.sectors ready.fits)) (frames_run mid next (run since.honest)).any_moment

  pub holds_all : {T E : Type 0} {value : T} (mid next : Disk) → Holds mid.seen first base.bytes (length base.bytes) → WritesRun {T = T} {E = E} mid next (half_start commit.sectors start.half + start.used / 512) more (start.front.now ++ update.frames.now) (Ok value)
      → Holds next.seen first new.bytes (length new.bytes)
  holds_all mid next holds run =
      let size = length-append base.bytes update.frames.now in
      let written = frames_run mid next run in
      holds_more first new.bytes (length base.bytes) (length new.bytes) (start.used / 512) more mid.seen next.seen
      (λ i lt. holds i lt ∙ sym (get_or_append_left base.bytes update.frames.now 0 i lt)) written.seen written.written
      (omega (arith, ready.can.used_is))
      (λ i low high. omega (arith, touched_some start.used (length update.frames.now) (omega (arith, low, high, size)), low, high, ready.can.used_is, size))

  -- the writes are settled, or there were none: each image begins with the new bytes
  pub rest_begins : (mid next : Disk) (one : Bool) → Since before next commit.sectors (CarriesInHalf old) → Holds mid.seen first new.bytes (length new.bytes) → one ≡ takes_one_sync update
      → (one ≡ false → (image : Image) → next.left image → image ≡ mid.seen) → (image : Image) → next.left image → Holds image first new.bytes (length new.bytes)
  rest_begins mid next true since holds one_is alone image left = counted_alone update old commit.sectors image (sym one_is) (holds_left old since image left)
  rest_begins mid next false since holds one_is alone image left = subst (λ (m : Image). Holds m first new.bytes (length new.bytes)) (sym (alone refl image left)) holds

  -- a call failed before the commit sector was written
  pub tried_before : {T E : Type 0} (mid : Disk) (result : Result T E) → IsErr result → Since before mid commit.sectors (CarriesInHalf old) → Tried before mid update old result
  tried_before mid result err since = record {
    any_moment = leaves_weaker before mid (CarriesInHalf old) (EitherInHalf old new) (λ image carries. inl carries) since.leaves;
    stays = subst (λ (n : ℕ). Holds mid.seen (half_start n old.half) old.bytes (length old.bytes)) ready.size (holds_seen old since);
    done = no_ok ((image : Image) → mid.left image → CarriesInHalf new image) result err;
    zeros = no_ok ((image : Image) → mid.left image → EndsInZeros new.half new.bytes (length base.bytes) image) result err;
  }

  -- it is written
  module _ (mid next : Disk) (since : Since before mid commit.sectors (CarriesInHalf old)) where
    renamed : (image after : Image) → mid.left image → Holds image first new.bytes (length new.bytes) → after ≡ set image 0 (sector_of commit) → CarriesInHalf new after
    renamed image after left holds is =
        let carries = left_has since image left in
        let size = sym (wide since image left) in
        named image after new carries.sized ready.can.version_fits (omega (arith, ready.can.half_is, ready.placed.half_fits)) ready.can.seq_fits (opens_fit update.counts_opening old.opens carries.opens_fits)
        (subst (λ (s : ℕ). length new.bytes ≤ half_capacity s) size (omega (arith, ready.fits, ready.can.used_is, length-append base.bytes update.frames.now)))
        (subst (λ (s : ℕ). Holds image (half_start s new.half) new.bytes (length new.bytes)) size holds)
        (is ∙ (λ i. set image 0 (sector_of ((ready.can.names ∙ ap (λ (s : ℕ). commit_of new s) size) i))))

    ends : (image : Image) → SectorsHold mid.seen (first + start.used / 512) more rest → image ≡ set mid.seen 0 (sector_of commit) → EndsInZeros new.half new.bytes (length base.bytes) image
    ends image written is =
        let size : commit.sectors ≡ length image = sym (ap length is ∙ length-set mid.seen 0 (sector_of commit) ∙ wide since mid.seen since.coherent.seen) in
        let count : length update.frames.now ≡ length new.bytes - length base.bytes = omega (arith, length-append base.bytes update.frames.now) in
        subst (λ (n : ℕ). SectorsHold image (half_start n new.half + length base.bytes / 512) (touched (length base.bytes) (length new.bytes - length base.bytes)) (drop (512 * (length base.bytes / 512)) new.bytes)) size
        (subst (λ (n : ℕ). SectorsHold image (first + length base.bytes / 512) (touched (length base.bytes) n) (drop (512 * (length base.bytes / 512)) new.bytes)) count
        (subst (λ (n : ℕ). SectorsHold image (first + n / 512) (touched n (length update.frames.now)) (drop (512 * (n / 512)) new.bytes)) ready.can.used_is
        (sectors_kept mid.seen image (first + start.used / 512) more rest (sector_of commit) is (omega arith) written)))

    pub tried : {T E : Type 0} (result : Result T E) → ((image : Image) → mid.left image → Holds image first new.bytes (length new.bytes)) → Holds mid.seen first new.bytes (length new.bytes)
        → SectorsHold mid.seen (first + start.used / 512) more rest → Replaces mid next (sector_of commit) result → Tried before next update old result
    tried result begins all written replaces = record {
      any_moment = since_replaced since next (sector_of commit) (EitherInHalf old new) (λ image carries. inl carries)
          (λ image after left is. inr (renamed image after left (begins image left) is)) replaces.any_moment;
      stays = subst (λ (n : ℕ). Holds next.seen (half_start n old.half) old.bytes (length old.bytes)) ready.size (elim replaces.seen [
        | inl same ↦ subst (λ (m : Image). Holds m (half_start commit.sectors old.half) old.bytes (length old.bytes)) (sym same) (holds_seen old since)
        | inr is ↦ λ i lt. byte_kept mid.seen next.seen (half_start commit.sectors old.half) (sector_of commit) i is (omega arith) ∙ holds_seen old since i lt
      ]);
      done = on_ok_weaker result (λ set image left. renamed mid.seen image since.coherent.seen all (set image left)) replaces.done;
      zeros = on_ok_weaker result (λ set image left. ends image written (set image left)) replaces.done;
    }
