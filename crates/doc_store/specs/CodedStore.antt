-- The code of a store's value, by which a proof distinguishes values.
use Rattle.std.specs.Prelude.{ℕ, Bool, Option, refl}
use Rattle.std.specs.Coded.{Coded, code_by, coded×, coded_ℕ, coded_bool, coded_option}
use Rattle.doc_changes.specs.CodedState.{coded_state}
use Rattle.doc_changes.specs.State.{State}
use Rattle.store_commits.specs.Account.{Account, Copy, StoreView}

-- as the pair of its fields
abbrev pub coded_copy : Coded Copy
coded_copy = code_by (ℕ × ℕ) (coded× coded_ℕ coded_ℕ) (λ c. (c.target, c.standing)) (λ p. record { target = p.0; standing = p.1 }) (λ _. refl)

-- as pairs of its fields
abbrev pub coded_account : Coded Account
coded_account =
    code_by ((State × (ℕ × (ℕ × Bool))) × ((ℕ × (ℕ × ℕ)) × (Bool × Option Copy))) (coded× (coded× coded_state (coded× coded_ℕ (coded× coded_ℕ coded_bool))) (coded× (coded× coded_ℕ (coded× coded_ℕ coded_ℕ)) (coded× coded_bool (coded_option coded_copy))))
    (λ a. ((a.state, (a.used, (a.half, a.rides))), ((a.opens, (a.identity, a.sectors)), (a.broken, a.copy))))
    (λ p. record { state = p.0.0; used = p.0.1.0; half = p.0.1.1.0; rides = p.0.1.1.1; opens = p.1.0.0; identity = p.1.0.1.0; sectors = p.1.0.1.1; broken = p.1.1.0; copy = p.1.1.1 }) (λ _. refl)

-- as the pair of the device and the account
abbrev pub coded_store : {D : Type 0} → Coded D → Coded (StoreView D)
coded_store {D} code = code_by (D × Account) (coded× code coded_account) (λ s. (s.device, s.account)) (λ p. record { device = p.0; account = p.1 }) (λ _. refl)
