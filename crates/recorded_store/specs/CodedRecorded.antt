-- The code of a store's value with its history, by which a proof distinguishes values.
use Rattle.std.specs.Prelude.{ℕ, List, refl}
use Rattle.std.specs.Coded.{Coded, code_by, coded×, coded_ℕ, coded_list}
use Rattle.change_history.specs.History.{History, Told}
use Rattle.doc_store.specs.CodedStore.{coded_store}
use Rattle.store_commits.specs.Account.{StoreView}
use Rattle.recorded_store.specs.Recorded.{RecordedView}

-- as the pair of its fields
abbrev pub coded_told : Coded Told
coded_told = code_by (ℕ × List ℕ) (coded× coded_ℕ (coded_list coded_ℕ)) (λ t. (t.last, t.frames)) (λ p. record { last = p.0; frames = p.1 }) (λ _. refl)

-- as pairs of its fields
abbrev pub coded_history : Coded History
coded_history = code_by (ℕ × (ℕ × List Told)) (coded× coded_ℕ (coded× coded_ℕ (coded_list coded_told))) (λ h. (h.limit, (h.floor, h.told))) (λ p. record { limit = p.0; floor = p.1.0; told = p.1.1 }) (λ _. refl)

-- as the pair of the store and the history
abbrev pub coded_recorded : {D : Type 0} → Coded D → Coded (RecordedView D)
coded_recorded {D} code = code_by (StoreView D × History) (coded× (coded_store code) coded_history) (λ v. (v.store, v.history)) (λ p. record { store = p.0; history = p.1 }) (λ _. refl)
