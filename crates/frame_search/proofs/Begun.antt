-- The frames of each format, as its own reader tells them.
use Rattle.std.proofs.Common.{◌≡◌, ◌≢◌, ◌<◌, ◌≤◌, ◌^◌, ℕ, List, refl, sym, ap, ◌∙◌, subst, arith, Result, Ok, Err, IfOk}
use Rattle.record_text.specs.Change.{Change, change_of}
use Rattle.record_text.specs.Frame.{BeginsWith, BeginsWith_1, Entry, entry}
use Rattle.record_text.specs.declared.command.Command.{Command}
use Rattle.record_text.specs.declared.fault.RecordFault.{RecordFault}
use Rattle.log_frames.specs.Kinds.{BeginsAs, Logged, logged}
use Rattle.log_frames.specs.declared.kind.Kind.{Kind}
use Rattle.log_frames.specs.declared.kind.Kind.TheVariants.{Last}
use Rattle.frame_search.specs.Places.{Begins, IsFrameFormat}

logged_same : (l m : Logged) → l.kind ≡ m.kind → l.entry.seq ≡ m.entry.seq → l.entry.change ≡ m.entry.change → l ≡ m
logged_same l m k s c = λ i. record { kind = k i; entry = record { seq = s i; change = c i } }

-- ---- format 3

pub as_3 : (version : ℕ) (bytes : List ℕ) (l : Logged) (n : ℕ) → version ≡ 3 → BeginsAs bytes l n → Begins version bytes l n
as_3 version bytes l n is b = subst (λ (v : ℕ). Begins v bytes l n) (sym is) (record {
  framed = record { framed = b.framed; seq_fits = b.seq_fits; asks_none = λ one. absurd (omega (arith, one)) };
  dated = λ one. absurd (omega (arith, one));
  kind_is = λ other. absurd (other refl);
  frame = b.frame;
  len = b.len;
})

pub of_3 : (version : ℕ) (bytes : List ℕ) (l : Logged) (n : ℕ) → version ≡ 3 → Begins version bytes l n → BeginsAs bytes l n
of_3 version bytes l n is c =
    let b = subst (λ (v : ℕ). Begins v bytes l n) is c in
    record { framed = b.framed.framed; seq_fits = b.framed.seq_fits; frame = b.frame; len = b.len }

-- ---- format 2

pub two : (version : ℕ) → IsFrameFormat version → version ≢ 3 → version ≢ 1 → version ≡ 2
two version is no_3 no_1 = let least = is.at_least in let most = is.at_most in omega (arith, least, most, no_3, no_1)

pub as_2 : (version : ℕ) (bytes : List ℕ) (e : Entry) (n : ℕ) → version ≡ 2 → BeginsWith bytes e n → Begins version bytes (logged Last e) n
as_2 version bytes e n is b = subst (λ (v : ℕ). Begins v bytes (logged Last e) n) (sym is) (record {
  framed = record { framed = b.framed; seq_fits = b.seq_fits; asks_none = λ one. absurd (omega (arith, one)) };
  dated = λ one. absurd (omega (arith, one));
  kind_is = λ _. refl;
  frame = b.frame;
  len = b.len;
})

pub of_2 : (version : ℕ) (bytes : List ℕ) (l : Logged) (n : ℕ) → version ≡ 2 → Begins version bytes l n → BeginsWith bytes l.entry n
of_2 version bytes l n is c =
    let b = subst (λ (v : ℕ). Begins v bytes l n) is c in
    record { framed = b.framed.framed; seq_fits = b.framed.seq_fits; frame = b.frame; len = b.len }

-- ---- format 1

pub as_1 : (version : ℕ) (bytes : List ℕ) (c : Change) (n : ℕ) → version ≡ 1 → BeginsWith_1 bytes c n → Begins version bytes (logged Last (entry 0 c)) n
as_1 version bytes c n is b = subst (λ (v : ℕ). Begins v bytes (logged Last (entry 0 c)) n) (sym is) (record {
  framed = record { framed = b.framed; seq_fits = omega arith; asks_none = λ _. b.asks_none };
  dated = λ _. refl;
  kind_is = λ _. refl;
  frame = b.frame;
  len = b.len;
})

pub of_1 : (version : ℕ) (bytes : List ℕ) (l : Logged) (n : ℕ) → version ≡ 1 → Begins version bytes l n → BeginsWith_1 bytes l.entry.change n
of_1 version bytes l n is c =
    let b = subst (λ (v : ℕ). Begins v bytes l n) is c in
    record { framed = b.framed.framed; asks_none = b.framed.asks_none refl; frame = b.frame; len = b.len }

-- ---- what is read is what stands there

pub same_2 : (version : ℕ) (bytes : List ℕ) (e : Entry) (l : Logged) (n : ℕ) → version ≡ 2 → Begins version bytes l n → e ≡ l.entry → logged Last e ≡ l
same_2 version bytes e l n is b same =
    logged_same (logged Last e) l (sym (b.kind_is (λ three. absurd (omega (arith, is, three))))) (ap (λ (f : Entry). f.seq) same) (ap (λ (f : Entry). f.change) same)

pub same_1 : (version : ℕ) (bytes : List ℕ) (c : Change) (l : Logged) (n : ℕ) → version ≡ 1 → Begins version bytes l n → c ≡ l.entry.change → logged Last (entry 0 c) ≡ l
same_1 version bytes c l n is b same =
    logged_same (logged Last (entry 0 c)) l (sym (b.kind_is (λ three. absurd (omega (arith, is, three))))) (sym (b.dated is)) same

-- ---- answers

-- an answer that holds of a format holds of this one
pub ok_at : (version v : ℕ) (bytes : List ℕ) (r : Result (Kind × Command × ℕ × ℕ) RecordFault) → version ≡ v
    → IfOk r (λ p. Begins v bytes (logged p.0 (entry p.2 (change_of p.1))) p.3) → IfOk r (λ p. Begins version bytes (logged p.0 (entry p.2 (change_of p.1))) p.3)
ok_at version v bytes r is ok = subst (λ (w : ℕ). IfOk r (λ p. Begins w bytes (logged p.0 (entry p.2 (change_of p.1))) p.3)) (sym is) ok

pub read_at : (version v : ℕ) (bytes : List ℕ) (l : Logged) (n : ℕ) → version ≡ v → Begins version bytes l n → Begins v bytes l n
read_at version v bytes l n is b = subst (λ (w : ℕ). Begins w bytes l n) is b

pub ok_3 : (version : ℕ) (bytes : List ℕ) (r : Result (Kind × Command × ℕ × ℕ) RecordFault) → version ≡ 3
    → IfOk r (λ p. BeginsAs bytes (logged p.0 (entry p.2 (change_of p.1))) p.3) → IfOk r (λ p. Begins version bytes (logged p.0 (entry p.2 (change_of p.1))) p.3)
ok_3 version bytes (Ok p) is ok = as_3 version bytes (logged p.0 (entry p.2 (change_of p.1))) p.3 is ok
ok_3 version bytes (Err e) is ok = tt
