-- What a parse reads of the words of `serve`.
use Rattle.std.proofs.Common.{◌≡◌, List, [], ◌∷◌, ◌++◌, Option, Some, None, IfSome, codes, refl, true, false, Bool}
use Rattle.clap.specs.Walk.{idle}
use Rattle.clap.specs.Words.{Row, Shape, Text, first_of, one_of}
use Rattle.clap.proofs.OnLiterals.{clap_on_literals}
use Rattle.command_line.proofs.Walks.{IsPlain, gone, goes, standing}
use Rattle.command_line.proofs.Readings.{IsChecked, Read, built_for, flag_row, given, met, option_words, plain_step, read_by, value_step}
use Rattle.command_line.specs.declared.limits.TheConstants.{MAX_BATCH, MAX_PUMP, MAX_HISTORY}
use Rattle.command_line.specs.Call.{flag_words}
use Rattle.command_line.specs.Options.{HoldsFile, HoldsFlag}

abbrev serve_built : Shape
serve_built = built_for (codes "serve")

-- what is found for the arguments of `serve`
abbrev pub FoundServe : Text → Option Text → Option Text → Option Text → Bool → Bool → List Row → Type 0
FoundServe file batch pump history strict why rows =
    HoldsFile file rows × (one_of (codes "batch") rows ≡ batch) × (first_of (codes "batch") rows ≡ batch)
    × (one_of (codes "pump") rows ≡ pump) × (first_of (codes "pump") rows ≡ pump) × (one_of (codes "history") rows ≡ history) × (first_of (codes "history") rows ≡ history)
    × HoldsFlag (codes "strict") strict rows × HoldsFlag (codes "why") why rows

pub batch_first_read : (file : Text) (batch pump history : Option Text) (strict why : Bool) → IsPlain file → IfSome batch (IsChecked 1 MAX_BATCH) → IfSome pump (IsChecked 1 MAX_PUMP)
    → IfSome history (IsChecked 0 MAX_HISTORY)
    → Read (codes "serve" ∷ file ∷ option_words (codes "--batch") batch ++ option_words (codes "--pump") pump ++ option_words (codes "--history") history
    ++ flag_words (codes "--strict") strict ++ flag_words (codes "--why") why) (codes "serve") (FoundServe file batch pump history strict why)
unfolding clap_on_literals
batch_first_read file (Some batch) (Some pump) (Some history) true true h b p n =
    let walked = goes (plain_step serve_built None 1 file h refl) (goes (met serve_built (standing [] (Some (codes "file", file ∷ [])) idle 2) (codes "--batch") refl) (goes (value_step serve_built (given (codes "file") file ∷ []) (codes "batch") 2 batch b.0) (goes (met serve_built (standing (given (codes "file") file ∷ []) (Some (codes "batch", batch ∷ [])) idle 2) (codes "--pump") (simp b.1)) (goes (value_step serve_built (given (codes "file") file ∷ given (codes "batch") batch ∷ []) (codes "pump") 2 pump p.0) (goes (met serve_built (standing (given (codes "file") file ∷ given (codes "batch") batch ∷ []) (Some (codes "pump", pump ∷ [])) idle 2) (codes "--history") (simp p.1)) (goes (value_step serve_built (given (codes "file") file ∷ given (codes "batch") batch ∷ given (codes "pump") pump ∷ []) (codes "history") 2 history n.0) (goes (met serve_built (standing (given (codes "file") file ∷ given (codes "batch") batch ∷ given (codes "pump") pump ∷ []) (Some (codes "history", history ∷ [])) idle 2) (codes "--strict") (simp n.1)) (goes (met serve_built (standing (given (codes "file") file ∷ given (codes "batch") batch ∷ given (codes "pump") pump ∷ given (codes "history") history ∷ flag_row (codes "strict") true ∷ []) None idle 2) (codes "--why") refl) (gone serve_built (standing (given (codes "file") file ∷ given (codes "batch") batch ∷ given (codes "pump") pump ∷ given (codes "history") history ∷ flag_row (codes "strict") true ∷ flag_row (codes "why") true ∷ []) None idle 2)))))))))) in
    let read = read_by (file ∷ codes "--batch" ∷ batch ∷ codes "--pump" ∷ pump ∷ codes "--history" ∷ history ∷ codes "--strict" ∷ codes "--why" ∷ []) (codes "serve") serve_built (standing (given (codes "file") file ∷ given (codes "batch") batch ∷ given (codes "pump") pump ∷ given (codes "history") history ∷ flag_row (codes "strict") true ∷ flag_row (codes "why") true ∷ []) None idle 2) refl refl refl walked refl refl refl in
    record { rows = _; met = read.0; taken = read.1; holds = (refl, refl, refl, refl, refl, refl, refl, refl, refl) }
batch_first_read file (Some batch) (Some pump) (Some history) true false h b p n =
    let walked = goes (plain_step serve_built None 1 file h refl) (goes (met serve_built (standing [] (Some (codes "file", file ∷ [])) idle 2) (codes "--batch") refl) (goes (value_step serve_built (given (codes "file") file ∷ []) (codes "batch") 2 batch b.0) (goes (met serve_built (standing (given (codes "file") file ∷ []) (Some (codes "batch", batch ∷ [])) idle 2) (codes "--pump") (simp b.1)) (goes (value_step serve_built (given (codes "file") file ∷ given (codes "batch") batch ∷ []) (codes "pump") 2 pump p.0) (goes (met serve_built (standing (given (codes "file") file ∷ given (codes "batch") batch ∷ []) (Some (codes "pump", pump ∷ [])) idle 2) (codes "--history") (simp p.1)) (goes (value_step serve_built (given (codes "file") file ∷ given (codes "batch") batch ∷ given (codes "pump") pump ∷ []) (codes "history") 2 history n.0) (goes (met serve_built (standing (given (codes "file") file ∷ given (codes "batch") batch ∷ given (codes "pump") pump ∷ []) (Some (codes "history", history ∷ [])) idle 2) (codes "--strict") (simp n.1)) (gone serve_built (standing (given (codes "file") file ∷ given (codes "batch") batch ∷ given (codes "pump") pump ∷ given (codes "history") history ∷ flag_row (codes "strict") true ∷ []) None idle 2))))))))) in
    let read = read_by (file ∷ codes "--batch" ∷ batch ∷ codes "--pump" ∷ pump ∷ codes "--history" ∷ history ∷ codes "--strict" ∷ []) (codes "serve") serve_built (standing (given (codes "file") file ∷ given (codes "batch") batch ∷ given (codes "pump") pump ∷ given (codes "history") history ∷ flag_row (codes "strict") true ∷ []) None idle 2) refl refl refl walked refl refl refl in
    record { rows = _; met = read.0; taken = read.1; holds = (refl, refl, refl, refl, refl, refl, refl, refl, refl) }
batch_first_read file (Some batch) (Some pump) (Some history) false true h b p n =
    let walked = goes (plain_step serve_built None 1 file h refl) (goes (met serve_built (standing [] (Some (codes "file", file ∷ [])) idle 2) (codes "--batch") refl) (goes (value_step serve_built (given (codes "file") file ∷ []) (codes "batch") 2 batch b.0) (goes (met serve_built (standing (given (codes "file") file ∷ []) (Some (codes "batch", batch ∷ [])) idle 2) (codes "--pump") (simp b.1)) (goes (value_step serve_built (given (codes "file") file ∷ given (codes "batch") batch ∷ []) (codes "pump") 2 pump p.0) (goes (met serve_built (standing (given (codes "file") file ∷ given (codes "batch") batch ∷ []) (Some (codes "pump", pump ∷ [])) idle 2) (codes "--history") (simp p.1)) (goes (value_step serve_built (given (codes "file") file ∷ given (codes "batch") batch ∷ given (codes "pump") pump ∷ []) (codes "history") 2 history n.0) (goes (met serve_built (standing (given (codes "file") file ∷ given (codes "batch") batch ∷ given (codes "pump") pump ∷ []) (Some (codes "history", history ∷ [])) idle 2) (codes "--why") (simp n.1)) (gone serve_built (standing (given (codes "file") file ∷ given (codes "batch") batch ∷ given (codes "pump") pump ∷ given (codes "history") history ∷ flag_row (codes "why") true ∷ []) None idle 2))))))))) in
    let read = read_by (file ∷ codes "--batch" ∷ batch ∷ codes "--pump" ∷ pump ∷ codes "--history" ∷ history ∷ codes "--why" ∷ []) (codes "serve") serve_built (standing (given (codes "file") file ∷ given (codes "batch") batch ∷ given (codes "pump") pump ∷ given (codes "history") history ∷ flag_row (codes "why") true ∷ []) None idle 2) refl refl refl walked refl refl refl in
    record { rows = _; met = read.0; taken = read.1; holds = (refl, refl, refl, refl, refl, refl, refl, refl, refl) }
batch_first_read file (Some batch) (Some pump) (Some history) false false h b p n =
    let walked = goes (plain_step serve_built None 1 file h refl) (goes (met serve_built (standing [] (Some (codes "file", file ∷ [])) idle 2) (codes "--batch") refl) (goes (value_step serve_built (given (codes "file") file ∷ []) (codes "batch") 2 batch b.0) (goes (met serve_built (standing (given (codes "file") file ∷ []) (Some (codes "batch", batch ∷ [])) idle 2) (codes "--pump") (simp b.1)) (goes (value_step serve_built (given (codes "file") file ∷ given (codes "batch") batch ∷ []) (codes "pump") 2 pump p.0) (goes (met serve_built (standing (given (codes "file") file ∷ given (codes "batch") batch ∷ []) (Some (codes "pump", pump ∷ [])) idle 2) (codes "--history") (simp p.1)) (goes (value_step serve_built (given (codes "file") file ∷ given (codes "batch") batch ∷ given (codes "pump") pump ∷ []) (codes "history") 2 history n.0) (gone serve_built (standing (given (codes "file") file ∷ given (codes "batch") batch ∷ given (codes "pump") pump ∷ []) (Some (codes "history", history ∷ [])) idle 2)))))))) in
    let read = read_by (file ∷ codes "--batch" ∷ batch ∷ codes "--pump" ∷ pump ∷ codes "--history" ∷ history ∷ []) (codes "serve") serve_built (standing (given (codes "file") file ∷ given (codes "batch") batch ∷ given (codes "pump") pump ∷ []) (Some (codes "history", history ∷ [])) idle 2) refl refl refl walked (simp n.1) refl refl in
    record { rows = _; met = read.0; taken = read.1; holds = (refl, refl, refl, refl, refl, refl, refl, refl, refl) }
batch_first_read file (Some batch) (Some pump) None true true h b p n =
    let walked = goes (plain_step serve_built None 1 file h refl) (goes (met serve_built (standing [] (Some (codes "file", file ∷ [])) idle 2) (codes "--batch") refl) (goes (value_step serve_built (given (codes "file") file ∷ []) (codes "batch") 2 batch b.0) (goes (met serve_built (standing (given (codes "file") file ∷ []) (Some (codes "batch", batch ∷ [])) idle 2) (codes "--pump") (simp b.1)) (goes (value_step serve_built (given (codes "file") file ∷ given (codes "batch") batch ∷ []) (codes "pump") 2 pump p.0) (goes (met serve_built (standing (given (codes "file") file ∷ given (codes "batch") batch ∷ []) (Some (codes "pump", pump ∷ [])) idle 2) (codes "--strict") (simp p.1)) (goes (met serve_built (standing (given (codes "file") file ∷ given (codes "batch") batch ∷ given (codes "pump") pump ∷ flag_row (codes "strict") true ∷ []) None idle 2) (codes "--why") refl) (gone serve_built (standing (given (codes "file") file ∷ given (codes "batch") batch ∷ given (codes "pump") pump ∷ flag_row (codes "strict") true ∷ flag_row (codes "why") true ∷ []) None idle 2)))))))) in
    let read = read_by (file ∷ codes "--batch" ∷ batch ∷ codes "--pump" ∷ pump ∷ codes "--strict" ∷ codes "--why" ∷ []) (codes "serve") serve_built (standing (given (codes "file") file ∷ given (codes "batch") batch ∷ given (codes "pump") pump ∷ flag_row (codes "strict") true ∷ flag_row (codes "why") true ∷ []) None idle 2) refl refl refl walked refl refl refl in
    record { rows = _; met = read.0; taken = read.1; holds = (refl, refl, refl, refl, refl, refl, refl, refl, refl) }
batch_first_read file (Some batch) (Some pump) None true false h b p n =
    let walked = goes (plain_step serve_built None 1 file h refl) (goes (met serve_built (standing [] (Some (codes "file", file ∷ [])) idle 2) (codes "--batch") refl) (goes (value_step serve_built (given (codes "file") file ∷ []) (codes "batch") 2 batch b.0) (goes (met serve_built (standing (given (codes "file") file ∷ []) (Some (codes "batch", batch ∷ [])) idle 2) (codes "--pump") (simp b.1)) (goes (value_step serve_built (given (codes "file") file ∷ given (codes "batch") batch ∷ []) (codes "pump") 2 pump p.0) (goes (met serve_built (standing (given (codes "file") file ∷ given (codes "batch") batch ∷ []) (Some (codes "pump", pump ∷ [])) idle 2) (codes "--strict") (simp p.1)) (gone serve_built (standing (given (codes "file") file ∷ given (codes "batch") batch ∷ given (codes "pump") pump ∷ flag_row (codes "strict") true ∷ []) None idle 2))))))) in
    let read = read_by (file ∷ codes "--batch" ∷ batch ∷ codes "--pump" ∷ pump ∷ codes "--strict" ∷ []) (codes "serve") serve_built (standing (given (codes "file") file ∷ given (codes "batch") batch ∷ given (codes "pump") pump ∷ flag_row (codes "strict") true ∷ []) None idle 2) refl refl refl walked refl refl refl in
    record { rows = _; met = read.0; taken = read.1; holds = (refl, refl, refl, refl, refl, refl, refl, refl, refl) }
batch_first_read file (Some batch) (Some pump) None false true h b p n =
    let walked = goes (plain_step serve_built None 1 file h refl) (goes (met serve_built (standing [] (Some (codes "file", file ∷ [])) idle 2) (codes "--batch") refl) (goes (value_step serve_built (given (codes "file") file ∷ []) (codes "batch") 2 batch b.0) (goes (met serve_built (standing (given (codes "file") file ∷ []) (Some (codes "batch", batch ∷ [])) idle 2) (codes "--pump") (simp b.1)) (goes (value_step serve_built (given (codes "file") file ∷ given (codes "batch") batch ∷ []) (codes "pump") 2 pump p.0) (goes (met serve_built (standing (given (codes "file") file ∷ given (codes "batch") batch ∷ []) (Some (codes "pump", pump ∷ [])) idle 2) (codes "--why") (simp p.1)) (gone serve_built (standing (given (codes "file") file ∷ given (codes "batch") batch ∷ given (codes "pump") pump ∷ flag_row (codes "why") true ∷ []) None idle 2))))))) in
    let read = read_by (file ∷ codes "--batch" ∷ batch ∷ codes "--pump" ∷ pump ∷ codes "--why" ∷ []) (codes "serve") serve_built (standing (given (codes "file") file ∷ given (codes "batch") batch ∷ given (codes "pump") pump ∷ flag_row (codes "why") true ∷ []) None idle 2) refl refl refl walked refl refl refl in
    record { rows = _; met = read.0; taken = read.1; holds = (refl, refl, refl, refl, refl, refl, refl, refl, refl) }
batch_first_read file (Some batch) (Some pump) None false false h b p n =
    let walked = goes (plain_step serve_built None 1 file h refl) (goes (met serve_built (standing [] (Some (codes "file", file ∷ [])) idle 2) (codes "--batch") refl) (goes (value_step serve_built (given (codes "file") file ∷ []) (codes "batch") 2 batch b.0) (goes (met serve_built (standing (given (codes "file") file ∷ []) (Some (codes "batch", batch ∷ [])) idle 2) (codes "--pump") (simp b.1)) (goes (value_step serve_built (given (codes "file") file ∷ given (codes "batch") batch ∷ []) (codes "pump") 2 pump p.0) (gone serve_built (standing (given (codes "file") file ∷ given (codes "batch") batch ∷ []) (Some (codes "pump", pump ∷ [])) idle 2)))))) in
    let read = read_by (file ∷ codes "--batch" ∷ batch ∷ codes "--pump" ∷ pump ∷ []) (codes "serve") serve_built (standing (given (codes "file") file ∷ given (codes "batch") batch ∷ []) (Some (codes "pump", pump ∷ [])) idle 2) refl refl refl walked (simp p.1) refl refl in
    record { rows = _; met = read.0; taken = read.1; holds = (refl, refl, refl, refl, refl, refl, refl, refl, refl) }
batch_first_read file (Some batch) None (Some history) true true h b p n =
    let walked = goes (plain_step serve_built None 1 file h refl) (goes (met serve_built (standing [] (Some (codes "file", file ∷ [])) idle 2) (codes "--batch") refl) (goes (value_step serve_built (given (codes "file") file ∷ []) (codes "batch") 2 batch b.0) (goes (met serve_built (standing (given (codes "file") file ∷ []) (Some (codes "batch", batch ∷ [])) idle 2) (codes "--history") (simp b.1)) (goes (value_step serve_built (given (codes "file") file ∷ given (codes "batch") batch ∷ []) (codes "history") 2 history n.0) (goes (met serve_built (standing (given (codes "file") file ∷ given (codes "batch") batch ∷ []) (Some (codes "history", history ∷ [])) idle 2) (codes "--strict") (simp n.1)) (goes (met serve_built (standing (given (codes "file") file ∷ given (codes "batch") batch ∷ given (codes "history") history ∷ flag_row (codes "strict") true ∷ []) None idle 2) (codes "--why") refl) (gone serve_built (standing (given (codes "file") file ∷ given (codes "batch") batch ∷ given (codes "history") history ∷ flag_row (codes "strict") true ∷ flag_row (codes "why") true ∷ []) None idle 2)))))))) in
    let read = read_by (file ∷ codes "--batch" ∷ batch ∷ codes "--history" ∷ history ∷ codes "--strict" ∷ codes "--why" ∷ []) (codes "serve") serve_built (standing (given (codes "file") file ∷ given (codes "batch") batch ∷ given (codes "history") history ∷ flag_row (codes "strict") true ∷ flag_row (codes "why") true ∷ []) None idle 2) refl refl refl walked refl refl refl in
    record { rows = _; met = read.0; taken = read.1; holds = (refl, refl, refl, refl, refl, refl, refl, refl, refl) }
batch_first_read file (Some batch) None (Some history) true false h b p n =
    let walked = goes (plain_step serve_built None 1 file h refl) (goes (met serve_built (standing [] (Some (codes "file", file ∷ [])) idle 2) (codes "--batch") refl) (goes (value_step serve_built (given (codes "file") file ∷ []) (codes "batch") 2 batch b.0) (goes (met serve_built (standing (given (codes "file") file ∷ []) (Some (codes "batch", batch ∷ [])) idle 2) (codes "--history") (simp b.1)) (goes (value_step serve_built (given (codes "file") file ∷ given (codes "batch") batch ∷ []) (codes "history") 2 history n.0) (goes (met serve_built (standing (given (codes "file") file ∷ given (codes "batch") batch ∷ []) (Some (codes "history", history ∷ [])) idle 2) (codes "--strict") (simp n.1)) (gone serve_built (standing (given (codes "file") file ∷ given (codes "batch") batch ∷ given (codes "history") history ∷ flag_row (codes "strict") true ∷ []) None idle 2))))))) in
    let read = read_by (file ∷ codes "--batch" ∷ batch ∷ codes "--history" ∷ history ∷ codes "--strict" ∷ []) (codes "serve") serve_built (standing (given (codes "file") file ∷ given (codes "batch") batch ∷ given (codes "history") history ∷ flag_row (codes "strict") true ∷ []) None idle 2) refl refl refl walked refl refl refl in
    record { rows = _; met = read.0; taken = read.1; holds = (refl, refl, refl, refl, refl, refl, refl, refl, refl) }
batch_first_read file (Some batch) None (Some history) false true h b p n =
    let walked = goes (plain_step serve_built None 1 file h refl) (goes (met serve_built (standing [] (Some (codes "file", file ∷ [])) idle 2) (codes "--batch") refl) (goes (value_step serve_built (given (codes "file") file ∷ []) (codes "batch") 2 batch b.0) (goes (met serve_built (standing (given (codes "file") file ∷ []) (Some (codes "batch", batch ∷ [])) idle 2) (codes "--history") (simp b.1)) (goes (value_step serve_built (given (codes "file") file ∷ given (codes "batch") batch ∷ []) (codes "history") 2 history n.0) (goes (met serve_built (standing (given (codes "file") file ∷ given (codes "batch") batch ∷ []) (Some (codes "history", history ∷ [])) idle 2) (codes "--why") (simp n.1)) (gone serve_built (standing (given (codes "file") file ∷ given (codes "batch") batch ∷ given (codes "history") history ∷ flag_row (codes "why") true ∷ []) None idle 2))))))) in
    let read = read_by (file ∷ codes "--batch" ∷ batch ∷ codes "--history" ∷ history ∷ codes "--why" ∷ []) (codes "serve") serve_built (standing (given (codes "file") file ∷ given (codes "batch") batch ∷ given (codes "history") history ∷ flag_row (codes "why") true ∷ []) None idle 2) refl refl refl walked refl refl refl in
    record { rows = _; met = read.0; taken = read.1; holds = (refl, refl, refl, refl, refl, refl, refl, refl, refl) }
batch_first_read file (Some batch) None (Some history) false false h b p n =
    let walked = goes (plain_step serve_built None 1 file h refl) (goes (met serve_built (standing [] (Some (codes "file", file ∷ [])) idle 2) (codes "--batch") refl) (goes (value_step serve_built (given (codes "file") file ∷ []) (codes "batch") 2 batch b.0) (goes (met serve_built (standing (given (codes "file") file ∷ []) (Some (codes "batch", batch ∷ [])) idle 2) (codes "--history") (simp b.1)) (goes (value_step serve_built (given (codes "file") file ∷ given (codes "batch") batch ∷ []) (codes "history") 2 history n.0) (gone serve_built (standing (given (codes "file") file ∷ given (codes "batch") batch ∷ []) (Some (codes "history", history ∷ [])) idle 2)))))) in
    let read = read_by (file ∷ codes "--batch" ∷ batch ∷ codes "--history" ∷ history ∷ []) (codes "serve") serve_built (standing (given (codes "file") file ∷ given (codes "batch") batch ∷ []) (Some (codes "history", history ∷ [])) idle 2) refl refl refl walked (simp n.1) refl refl in
    record { rows = _; met = read.0; taken = read.1; holds = (refl, refl, refl, refl, refl, refl, refl, refl, refl) }
batch_first_read file (Some batch) None None true true h b p n =
    let walked = goes (plain_step serve_built None 1 file h refl) (goes (met serve_built (standing [] (Some (codes "file", file ∷ [])) idle 2) (codes "--batch") refl) (goes (value_step serve_built (given (codes "file") file ∷ []) (codes "batch") 2 batch b.0) (goes (met serve_built (standing (given (codes "file") file ∷ []) (Some (codes "batch", batch ∷ [])) idle 2) (codes "--strict") (simp b.1)) (goes (met serve_built (standing (given (codes "file") file ∷ given (codes "batch") batch ∷ flag_row (codes "strict") true ∷ []) None idle 2) (codes "--why") refl) (gone serve_built (standing (given (codes "file") file ∷ given (codes "batch") batch ∷ flag_row (codes "strict") true ∷ flag_row (codes "why") true ∷ []) None idle 2)))))) in
    let read = read_by (file ∷ codes "--batch" ∷ batch ∷ codes "--strict" ∷ codes "--why" ∷ []) (codes "serve") serve_built (standing (given (codes "file") file ∷ given (codes "batch") batch ∷ flag_row (codes "strict") true ∷ flag_row (codes "why") true ∷ []) None idle 2) refl refl refl walked refl refl refl in
    record { rows = _; met = read.0; taken = read.1; holds = (refl, refl, refl, refl, refl, refl, refl, refl, refl) }
batch_first_read file (Some batch) None None true false h b p n =
    let walked = goes (plain_step serve_built None 1 file h refl) (goes (met serve_built (standing [] (Some (codes "file", file ∷ [])) idle 2) (codes "--batch") refl) (goes (value_step serve_built (given (codes "file") file ∷ []) (codes "batch") 2 batch b.0) (goes (met serve_built (standing (given (codes "file") file ∷ []) (Some (codes "batch", batch ∷ [])) idle 2) (codes "--strict") (simp b.1)) (gone serve_built (standing (given (codes "file") file ∷ given (codes "batch") batch ∷ flag_row (codes "strict") true ∷ []) None idle 2))))) in
    let read = read_by (file ∷ codes "--batch" ∷ batch ∷ codes "--strict" ∷ []) (codes "serve") serve_built (standing (given (codes "file") file ∷ given (codes "batch") batch ∷ flag_row (codes "strict") true ∷ []) None idle 2) refl refl refl walked refl refl refl in
    record { rows = _; met = read.0; taken = read.1; holds = (refl, refl, refl, refl, refl, refl, refl, refl, refl) }
batch_first_read file (Some batch) None None false true h b p n =
    let walked = goes (plain_step serve_built None 1 file h refl) (goes (met serve_built (standing [] (Some (codes "file", file ∷ [])) idle 2) (codes "--batch") refl) (goes (value_step serve_built (given (codes "file") file ∷ []) (codes "batch") 2 batch b.0) (goes (met serve_built (standing (given (codes "file") file ∷ []) (Some (codes "batch", batch ∷ [])) idle 2) (codes "--why") (simp b.1)) (gone serve_built (standing (given (codes "file") file ∷ given (codes "batch") batch ∷ flag_row (codes "why") true ∷ []) None idle 2))))) in
    let read = read_by (file ∷ codes "--batch" ∷ batch ∷ codes "--why" ∷ []) (codes "serve") serve_built (standing (given (codes "file") file ∷ given (codes "batch") batch ∷ flag_row (codes "why") true ∷ []) None idle 2) refl refl refl walked refl refl refl in
    record { rows = _; met = read.0; taken = read.1; holds = (refl, refl, refl, refl, refl, refl, refl, refl, refl) }
batch_first_read file (Some batch) None None false false h b p n =
    let walked = goes (plain_step serve_built None 1 file h refl) (goes (met serve_built (standing [] (Some (codes "file", file ∷ [])) idle 2) (codes "--batch") refl) (goes (value_step serve_built (given (codes "file") file ∷ []) (codes "batch") 2 batch b.0) (gone serve_built (standing (given (codes "file") file ∷ []) (Some (codes "batch", batch ∷ [])) idle 2)))) in
    let read = read_by (file ∷ codes "--batch" ∷ batch ∷ []) (codes "serve") serve_built (standing (given (codes "file") file ∷ []) (Some (codes "batch", batch ∷ [])) idle 2) refl refl refl walked (simp b.1) refl refl in
    record { rows = _; met = read.0; taken = read.1; holds = (refl, refl, refl, refl, refl, refl, refl, refl, refl) }
batch_first_read file None (Some pump) (Some history) true true h b p n =
    let walked = goes (plain_step serve_built None 1 file h refl) (goes (met serve_built (standing [] (Some (codes "file", file ∷ [])) idle 2) (codes "--pump") refl) (goes (value_step serve_built (given (codes "file") file ∷ []) (codes "pump") 2 pump p.0) (goes (met serve_built (standing (given (codes "file") file ∷ []) (Some (codes "pump", pump ∷ [])) idle 2) (codes "--history") (simp p.1)) (goes (value_step serve_built (given (codes "file") file ∷ given (codes "pump") pump ∷ []) (codes "history") 2 history n.0) (goes (met serve_built (standing (given (codes "file") file ∷ given (codes "pump") pump ∷ []) (Some (codes "history", history ∷ [])) idle 2) (codes "--strict") (simp n.1)) (goes (met serve_built (standing (given (codes "file") file ∷ given (codes "pump") pump ∷ given (codes "history") history ∷ flag_row (codes "strict") true ∷ []) None idle 2) (codes "--why") refl) (gone serve_built (standing (given (codes "file") file ∷ given (codes "pump") pump ∷ given (codes "history") history ∷ flag_row (codes "strict") true ∷ flag_row (codes "why") true ∷ []) None idle 2)))))))) in
    let read = read_by (file ∷ codes "--pump" ∷ pump ∷ codes "--history" ∷ history ∷ codes "--strict" ∷ codes "--why" ∷ []) (codes "serve") serve_built (standing (given (codes "file") file ∷ given (codes "pump") pump ∷ given (codes "history") history ∷ flag_row (codes "strict") true ∷ flag_row (codes "why") true ∷ []) None idle 2) refl refl refl walked refl refl refl in
    record { rows = _; met = read.0; taken = read.1; holds = (refl, refl, refl, refl, refl, refl, refl, refl, refl) }
batch_first_read file None (Some pump) (Some history) true false h b p n =
    let walked = goes (plain_step serve_built None 1 file h refl) (goes (met serve_built (standing [] (Some (codes "file", file ∷ [])) idle 2) (codes "--pump") refl) (goes (value_step serve_built (given (codes "file") file ∷ []) (codes "pump") 2 pump p.0) (goes (met serve_built (standing (given (codes "file") file ∷ []) (Some (codes "pump", pump ∷ [])) idle 2) (codes "--history") (simp p.1)) (goes (value_step serve_built (given (codes "file") file ∷ given (codes "pump") pump ∷ []) (codes "history") 2 history n.0) (goes (met serve_built (standing (given (codes "file") file ∷ given (codes "pump") pump ∷ []) (Some (codes "history", history ∷ [])) idle 2) (codes "--strict") (simp n.1)) (gone serve_built (standing (given (codes "file") file ∷ given (codes "pump") pump ∷ given (codes "history") history ∷ flag_row (codes "strict") true ∷ []) None idle 2))))))) in
    let read = read_by (file ∷ codes "--pump" ∷ pump ∷ codes "--history" ∷ history ∷ codes "--strict" ∷ []) (codes "serve") serve_built (standing (given (codes "file") file ∷ given (codes "pump") pump ∷ given (codes "history") history ∷ flag_row (codes "strict") true ∷ []) None idle 2) refl refl refl walked refl refl refl in
    record { rows = _; met = read.0; taken = read.1; holds = (refl, refl, refl, refl, refl, refl, refl, refl, refl) }
batch_first_read file None (Some pump) (Some history) false true h b p n =
    let walked = goes (plain_step serve_built None 1 file h refl) (goes (met serve_built (standing [] (Some (codes "file", file ∷ [])) idle 2) (codes "--pump") refl) (goes (value_step serve_built (given (codes "file") file ∷ []) (codes "pump") 2 pump p.0) (goes (met serve_built (standing (given (codes "file") file ∷ []) (Some (codes "pump", pump ∷ [])) idle 2) (codes "--history") (simp p.1)) (goes (value_step serve_built (given (codes "file") file ∷ given (codes "pump") pump ∷ []) (codes "history") 2 history n.0) (goes (met serve_built (standing (given (codes "file") file ∷ given (codes "pump") pump ∷ []) (Some (codes "history", history ∷ [])) idle 2) (codes "--why") (simp n.1)) (gone serve_built (standing (given (codes "file") file ∷ given (codes "pump") pump ∷ given (codes "history") history ∷ flag_row (codes "why") true ∷ []) None idle 2))))))) in
    let read = read_by (file ∷ codes "--pump" ∷ pump ∷ codes "--history" ∷ history ∷ codes "--why" ∷ []) (codes "serve") serve_built (standing (given (codes "file") file ∷ given (codes "pump") pump ∷ given (codes "history") history ∷ flag_row (codes "why") true ∷ []) None idle 2) refl refl refl walked refl refl refl in
    record { rows = _; met = read.0; taken = read.1; holds = (refl, refl, refl, refl, refl, refl, refl, refl, refl) }
batch_first_read file None (Some pump) (Some history) false false h b p n =
    let walked = goes (plain_step serve_built None 1 file h refl) (goes (met serve_built (standing [] (Some (codes "file", file ∷ [])) idle 2) (codes "--pump") refl) (goes (value_step serve_built (given (codes "file") file ∷ []) (codes "pump") 2 pump p.0) (goes (met serve_built (standing (given (codes "file") file ∷ []) (Some (codes "pump", pump ∷ [])) idle 2) (codes "--history") (simp p.1)) (goes (value_step serve_built (given (codes "file") file ∷ given (codes "pump") pump ∷ []) (codes "history") 2 history n.0) (gone serve_built (standing (given (codes "file") file ∷ given (codes "pump") pump ∷ []) (Some (codes "history", history ∷ [])) idle 2)))))) in
    let read = read_by (file ∷ codes "--pump" ∷ pump ∷ codes "--history" ∷ history ∷ []) (codes "serve") serve_built (standing (given (codes "file") file ∷ given (codes "pump") pump ∷ []) (Some (codes "history", history ∷ [])) idle 2) refl refl refl walked (simp n.1) refl refl in
    record { rows = _; met = read.0; taken = read.1; holds = (refl, refl, refl, refl, refl, refl, refl, refl, refl) }
batch_first_read file None (Some pump) None true true h b p n =
    let walked = goes (plain_step serve_built None 1 file h refl) (goes (met serve_built (standing [] (Some (codes "file", file ∷ [])) idle 2) (codes "--pump") refl) (goes (value_step serve_built (given (codes "file") file ∷ []) (codes "pump") 2 pump p.0) (goes (met serve_built (standing (given (codes "file") file ∷ []) (Some (codes "pump", pump ∷ [])) idle 2) (codes "--strict") (simp p.1)) (goes (met serve_built (standing (given (codes "file") file ∷ given (codes "pump") pump ∷ flag_row (codes "strict") true ∷ []) None idle 2) (codes "--why") refl) (gone serve_built (standing (given (codes "file") file ∷ given (codes "pump") pump ∷ flag_row (codes "strict") true ∷ flag_row (codes "why") true ∷ []) None idle 2)))))) in
    let read = read_by (file ∷ codes "--pump" ∷ pump ∷ codes "--strict" ∷ codes "--why" ∷ []) (codes "serve") serve_built (standing (given (codes "file") file ∷ given (codes "pump") pump ∷ flag_row (codes "strict") true ∷ flag_row (codes "why") true ∷ []) None idle 2) refl refl refl walked refl refl refl in
    record { rows = _; met = read.0; taken = read.1; holds = (refl, refl, refl, refl, refl, refl, refl, refl, refl) }
batch_first_read file None (Some pump) None true false h b p n =
    let walked = goes (plain_step serve_built None 1 file h refl) (goes (met serve_built (standing [] (Some (codes "file", file ∷ [])) idle 2) (codes "--pump") refl) (goes (value_step serve_built (given (codes "file") file ∷ []) (codes "pump") 2 pump p.0) (goes (met serve_built (standing (given (codes "file") file ∷ []) (Some (codes "pump", pump ∷ [])) idle 2) (codes "--strict") (simp p.1)) (gone serve_built (standing (given (codes "file") file ∷ given (codes "pump") pump ∷ flag_row (codes "strict") true ∷ []) None idle 2))))) in
    let read = read_by (file ∷ codes "--pump" ∷ pump ∷ codes "--strict" ∷ []) (codes "serve") serve_built (standing (given (codes "file") file ∷ given (codes "pump") pump ∷ flag_row (codes "strict") true ∷ []) None idle 2) refl refl refl walked refl refl refl in
    record { rows = _; met = read.0; taken = read.1; holds = (refl, refl, refl, refl, refl, refl, refl, refl, refl) }
batch_first_read file None (Some pump) None false true h b p n =
    let walked = goes (plain_step serve_built None 1 file h refl) (goes (met serve_built (standing [] (Some (codes "file", file ∷ [])) idle 2) (codes "--pump") refl) (goes (value_step serve_built (given (codes "file") file ∷ []) (codes "pump") 2 pump p.0) (goes (met serve_built (standing (given (codes "file") file ∷ []) (Some (codes "pump", pump ∷ [])) idle 2) (codes "--why") (simp p.1)) (gone serve_built (standing (given (codes "file") file ∷ given (codes "pump") pump ∷ flag_row (codes "why") true ∷ []) None idle 2))))) in
    let read = read_by (file ∷ codes "--pump" ∷ pump ∷ codes "--why" ∷ []) (codes "serve") serve_built (standing (given (codes "file") file ∷ given (codes "pump") pump ∷ flag_row (codes "why") true ∷ []) None idle 2) refl refl refl walked refl refl refl in
    record { rows = _; met = read.0; taken = read.1; holds = (refl, refl, refl, refl, refl, refl, refl, refl, refl) }
batch_first_read file None (Some pump) None false false h b p n =
    let walked = goes (plain_step serve_built None 1 file h refl) (goes (met serve_built (standing [] (Some (codes "file", file ∷ [])) idle 2) (codes "--pump") refl) (goes (value_step serve_built (given (codes "file") file ∷ []) (codes "pump") 2 pump p.0) (gone serve_built (standing (given (codes "file") file ∷ []) (Some (codes "pump", pump ∷ [])) idle 2)))) in
    let read = read_by (file ∷ codes "--pump" ∷ pump ∷ []) (codes "serve") serve_built (standing (given (codes "file") file ∷ []) (Some (codes "pump", pump ∷ [])) idle 2) refl refl refl walked (simp p.1) refl refl in
    record { rows = _; met = read.0; taken = read.1; holds = (refl, refl, refl, refl, refl, refl, refl, refl, refl) }
batch_first_read file None None (Some history) true true h b p n =
    let walked = goes (plain_step serve_built None 1 file h refl) (goes (met serve_built (standing [] (Some (codes "file", file ∷ [])) idle 2) (codes "--history") refl) (goes (value_step serve_built (given (codes "file") file ∷ []) (codes "history") 2 history n.0) (goes (met serve_built (standing (given (codes "file") file ∷ []) (Some (codes "history", history ∷ [])) idle 2) (codes "--strict") (simp n.1)) (goes (met serve_built (standing (given (codes "file") file ∷ given (codes "history") history ∷ flag_row (codes "strict") true ∷ []) None idle 2) (codes "--why") refl) (gone serve_built (standing (given (codes "file") file ∷ given (codes "history") history ∷ flag_row (codes "strict") true ∷ flag_row (codes "why") true ∷ []) None idle 2)))))) in
    let read = read_by (file ∷ codes "--history" ∷ history ∷ codes "--strict" ∷ codes "--why" ∷ []) (codes "serve") serve_built (standing (given (codes "file") file ∷ given (codes "history") history ∷ flag_row (codes "strict") true ∷ flag_row (codes "why") true ∷ []) None idle 2) refl refl refl walked refl refl refl in
    record { rows = _; met = read.0; taken = read.1; holds = (refl, refl, refl, refl, refl, refl, refl, refl, refl) }
batch_first_read file None None (Some history) true false h b p n =
    let walked = goes (plain_step serve_built None 1 file h refl) (goes (met serve_built (standing [] (Some (codes "file", file ∷ [])) idle 2) (codes "--history") refl) (goes (value_step serve_built (given (codes "file") file ∷ []) (codes "history") 2 history n.0) (goes (met serve_built (standing (given (codes "file") file ∷ []) (Some (codes "history", history ∷ [])) idle 2) (codes "--strict") (simp n.1)) (gone serve_built (standing (given (codes "file") file ∷ given (codes "history") history ∷ flag_row (codes "strict") true ∷ []) None idle 2))))) in
    let read = read_by (file ∷ codes "--history" ∷ history ∷ codes "--strict" ∷ []) (codes "serve") serve_built (standing (given (codes "file") file ∷ given (codes "history") history ∷ flag_row (codes "strict") true ∷ []) None idle 2) refl refl refl walked refl refl refl in
    record { rows = _; met = read.0; taken = read.1; holds = (refl, refl, refl, refl, refl, refl, refl, refl, refl) }
batch_first_read file None None (Some history) false true h b p n =
    let walked = goes (plain_step serve_built None 1 file h refl) (goes (met serve_built (standing [] (Some (codes "file", file ∷ [])) idle 2) (codes "--history") refl) (goes (value_step serve_built (given (codes "file") file ∷ []) (codes "history") 2 history n.0) (goes (met serve_built (standing (given (codes "file") file ∷ []) (Some (codes "history", history ∷ [])) idle 2) (codes "--why") (simp n.1)) (gone serve_built (standing (given (codes "file") file ∷ given (codes "history") history ∷ flag_row (codes "why") true ∷ []) None idle 2))))) in
    let read = read_by (file ∷ codes "--history" ∷ history ∷ codes "--why" ∷ []) (codes "serve") serve_built (standing (given (codes "file") file ∷ given (codes "history") history ∷ flag_row (codes "why") true ∷ []) None idle 2) refl refl refl walked refl refl refl in
    record { rows = _; met = read.0; taken = read.1; holds = (refl, refl, refl, refl, refl, refl, refl, refl, refl) }
batch_first_read file None None (Some history) false false h b p n =
    let walked = goes (plain_step serve_built None 1 file h refl) (goes (met serve_built (standing [] (Some (codes "file", file ∷ [])) idle 2) (codes "--history") refl) (goes (value_step serve_built (given (codes "file") file ∷ []) (codes "history") 2 history n.0) (gone serve_built (standing (given (codes "file") file ∷ []) (Some (codes "history", history ∷ [])) idle 2)))) in
    let read = read_by (file ∷ codes "--history" ∷ history ∷ []) (codes "serve") serve_built (standing (given (codes "file") file ∷ []) (Some (codes "history", history ∷ [])) idle 2) refl refl refl walked (simp n.1) refl refl in
    record { rows = _; met = read.0; taken = read.1; holds = (refl, refl, refl, refl, refl, refl, refl, refl, refl) }
batch_first_read file None None None true true h b p n =
    let walked = goes (plain_step serve_built None 1 file h refl) (goes (met serve_built (standing [] (Some (codes "file", file ∷ [])) idle 2) (codes "--strict") refl) (goes (met serve_built (standing (given (codes "file") file ∷ flag_row (codes "strict") true ∷ []) None idle 2) (codes "--why") refl) (gone serve_built (standing (given (codes "file") file ∷ flag_row (codes "strict") true ∷ flag_row (codes "why") true ∷ []) None idle 2)))) in
    let read = read_by (file ∷ codes "--strict" ∷ codes "--why" ∷ []) (codes "serve") serve_built (standing (given (codes "file") file ∷ flag_row (codes "strict") true ∷ flag_row (codes "why") true ∷ []) None idle 2) refl refl refl walked refl refl refl in
    record { rows = _; met = read.0; taken = read.1; holds = (refl, refl, refl, refl, refl, refl, refl, refl, refl) }
batch_first_read file None None None true false h b p n =
    let walked = goes (plain_step serve_built None 1 file h refl) (goes (met serve_built (standing [] (Some (codes "file", file ∷ [])) idle 2) (codes "--strict") refl) (gone serve_built (standing (given (codes "file") file ∷ flag_row (codes "strict") true ∷ []) None idle 2))) in
    let read = read_by (file ∷ codes "--strict" ∷ []) (codes "serve") serve_built (standing (given (codes "file") file ∷ flag_row (codes "strict") true ∷ []) None idle 2) refl refl refl walked refl refl refl in
    record { rows = _; met = read.0; taken = read.1; holds = (refl, refl, refl, refl, refl, refl, refl, refl, refl) }
batch_first_read file None None None false true h b p n =
    let walked = goes (plain_step serve_built None 1 file h refl) (goes (met serve_built (standing [] (Some (codes "file", file ∷ [])) idle 2) (codes "--why") refl) (gone serve_built (standing (given (codes "file") file ∷ flag_row (codes "why") true ∷ []) None idle 2))) in
    let read = read_by (file ∷ codes "--why" ∷ []) (codes "serve") serve_built (standing (given (codes "file") file ∷ flag_row (codes "why") true ∷ []) None idle 2) refl refl refl walked refl refl refl in
    record { rows = _; met = read.0; taken = read.1; holds = (refl, refl, refl, refl, refl, refl, refl, refl, refl) }
batch_first_read file None None None false false h b p n =
    let walked = goes (plain_step serve_built None 1 file h refl) (gone serve_built (standing [] (Some (codes "file", file ∷ [])) idle 2)) in
    let read = read_by (file ∷ []) (codes "serve") serve_built (standing [] (Some (codes "file", file ∷ [])) idle 2) refl refl refl walked refl refl refl in
    record { rows = _; met = read.0; taken = read.1; holds = (refl, refl, refl, refl, refl, refl, refl, refl, refl) }

pub pump_first_read : (file : Text) (batch pump history : Option Text) (strict why : Bool) → IsPlain file → IfSome batch (IsChecked 1 MAX_BATCH) → IfSome pump (IsChecked 1 MAX_PUMP)
    → IfSome history (IsChecked 0 MAX_HISTORY)
    → Read (codes "serve" ∷ file ∷ option_words (codes "--pump") pump ++ option_words (codes "--batch") batch ++ option_words (codes "--history") history
    ++ flag_words (codes "--strict") strict ++ flag_words (codes "--why") why) (codes "serve") (FoundServe file batch pump history strict why)
unfolding clap_on_literals
pump_first_read file (Some batch) (Some pump) (Some history) true true h b p n =
    let walked = goes (plain_step serve_built None 1 file h refl) (goes (met serve_built (standing [] (Some (codes "file", file ∷ [])) idle 2) (codes "--pump") refl) (goes (value_step serve_built (given (codes "file") file ∷ []) (codes "pump") 2 pump p.0) (goes (met serve_built (standing (given (codes "file") file ∷ []) (Some (codes "pump", pump ∷ [])) idle 2) (codes "--batch") (simp p.1)) (goes (value_step serve_built (given (codes "file") file ∷ given (codes "pump") pump ∷ []) (codes "batch") 2 batch b.0) (goes (met serve_built (standing (given (codes "file") file ∷ given (codes "pump") pump ∷ []) (Some (codes "batch", batch ∷ [])) idle 2) (codes "--history") (simp b.1)) (goes (value_step serve_built (given (codes "file") file ∷ given (codes "pump") pump ∷ given (codes "batch") batch ∷ []) (codes "history") 2 history n.0) (goes (met serve_built (standing (given (codes "file") file ∷ given (codes "pump") pump ∷ given (codes "batch") batch ∷ []) (Some (codes "history", history ∷ [])) idle 2) (codes "--strict") (simp n.1)) (goes (met serve_built (standing (given (codes "file") file ∷ given (codes "pump") pump ∷ given (codes "batch") batch ∷ given (codes "history") history ∷ flag_row (codes "strict") true ∷ []) None idle 2) (codes "--why") refl) (gone serve_built (standing (given (codes "file") file ∷ given (codes "pump") pump ∷ given (codes "batch") batch ∷ given (codes "history") history ∷ flag_row (codes "strict") true ∷ flag_row (codes "why") true ∷ []) None idle 2)))))))))) in
    let read = read_by (file ∷ codes "--pump" ∷ pump ∷ codes "--batch" ∷ batch ∷ codes "--history" ∷ history ∷ codes "--strict" ∷ codes "--why" ∷ []) (codes "serve") serve_built (standing (given (codes "file") file ∷ given (codes "pump") pump ∷ given (codes "batch") batch ∷ given (codes "history") history ∷ flag_row (codes "strict") true ∷ flag_row (codes "why") true ∷ []) None idle 2) refl refl refl walked refl refl refl in
    record { rows = _; met = read.0; taken = read.1; holds = (refl, refl, refl, refl, refl, refl, refl, refl, refl) }
pump_first_read file (Some batch) (Some pump) (Some history) true false h b p n =
    let walked = goes (plain_step serve_built None 1 file h refl) (goes (met serve_built (standing [] (Some (codes "file", file ∷ [])) idle 2) (codes "--pump") refl) (goes (value_step serve_built (given (codes "file") file ∷ []) (codes "pump") 2 pump p.0) (goes (met serve_built (standing (given (codes "file") file ∷ []) (Some (codes "pump", pump ∷ [])) idle 2) (codes "--batch") (simp p.1)) (goes (value_step serve_built (given (codes "file") file ∷ given (codes "pump") pump ∷ []) (codes "batch") 2 batch b.0) (goes (met serve_built (standing (given (codes "file") file ∷ given (codes "pump") pump ∷ []) (Some (codes "batch", batch ∷ [])) idle 2) (codes "--history") (simp b.1)) (goes (value_step serve_built (given (codes "file") file ∷ given (codes "pump") pump ∷ given (codes "batch") batch ∷ []) (codes "history") 2 history n.0) (goes (met serve_built (standing (given (codes "file") file ∷ given (codes "pump") pump ∷ given (codes "batch") batch ∷ []) (Some (codes "history", history ∷ [])) idle 2) (codes "--strict") (simp n.1)) (gone serve_built (standing (given (codes "file") file ∷ given (codes "pump") pump ∷ given (codes "batch") batch ∷ given (codes "history") history ∷ flag_row (codes "strict") true ∷ []) None idle 2))))))))) in
    let read = read_by (file ∷ codes "--pump" ∷ pump ∷ codes "--batch" ∷ batch ∷ codes "--history" ∷ history ∷ codes "--strict" ∷ []) (codes "serve") serve_built (standing (given (codes "file") file ∷ given (codes "pump") pump ∷ given (codes "batch") batch ∷ given (codes "history") history ∷ flag_row (codes "strict") true ∷ []) None idle 2) refl refl refl walked refl refl refl in
    record { rows = _; met = read.0; taken = read.1; holds = (refl, refl, refl, refl, refl, refl, refl, refl, refl) }
pump_first_read file (Some batch) (Some pump) (Some history) false true h b p n =
    let walked = goes (plain_step serve_built None 1 file h refl) (goes (met serve_built (standing [] (Some (codes "file", file ∷ [])) idle 2) (codes "--pump") refl) (goes (value_step serve_built (given (codes "file") file ∷ []) (codes "pump") 2 pump p.0) (goes (met serve_built (standing (given (codes "file") file ∷ []) (Some (codes "pump", pump ∷ [])) idle 2) (codes "--batch") (simp p.1)) (goes (value_step serve_built (given (codes "file") file ∷ given (codes "pump") pump ∷ []) (codes "batch") 2 batch b.0) (goes (met serve_built (standing (given (codes "file") file ∷ given (codes "pump") pump ∷ []) (Some (codes "batch", batch ∷ [])) idle 2) (codes "--history") (simp b.1)) (goes (value_step serve_built (given (codes "file") file ∷ given (codes "pump") pump ∷ given (codes "batch") batch ∷ []) (codes "history") 2 history n.0) (goes (met serve_built (standing (given (codes "file") file ∷ given (codes "pump") pump ∷ given (codes "batch") batch ∷ []) (Some (codes "history", history ∷ [])) idle 2) (codes "--why") (simp n.1)) (gone serve_built (standing (given (codes "file") file ∷ given (codes "pump") pump ∷ given (codes "batch") batch ∷ given (codes "history") history ∷ flag_row (codes "why") true ∷ []) None idle 2))))))))) in
    let read = read_by (file ∷ codes "--pump" ∷ pump ∷ codes "--batch" ∷ batch ∷ codes "--history" ∷ history ∷ codes "--why" ∷ []) (codes "serve") serve_built (standing (given (codes "file") file ∷ given (codes "pump") pump ∷ given (codes "batch") batch ∷ given (codes "history") history ∷ flag_row (codes "why") true ∷ []) None idle 2) refl refl refl walked refl refl refl in
    record { rows = _; met = read.0; taken = read.1; holds = (refl, refl, refl, refl, refl, refl, refl, refl, refl) }
pump_first_read file (Some batch) (Some pump) (Some history) false false h b p n =
    let walked = goes (plain_step serve_built None 1 file h refl) (goes (met serve_built (standing [] (Some (codes "file", file ∷ [])) idle 2) (codes "--pump") refl) (goes (value_step serve_built (given (codes "file") file ∷ []) (codes "pump") 2 pump p.0) (goes (met serve_built (standing (given (codes "file") file ∷ []) (Some (codes "pump", pump ∷ [])) idle 2) (codes "--batch") (simp p.1)) (goes (value_step serve_built (given (codes "file") file ∷ given (codes "pump") pump ∷ []) (codes "batch") 2 batch b.0) (goes (met serve_built (standing (given (codes "file") file ∷ given (codes "pump") pump ∷ []) (Some (codes "batch", batch ∷ [])) idle 2) (codes "--history") (simp b.1)) (goes (value_step serve_built (given (codes "file") file ∷ given (codes "pump") pump ∷ given (codes "batch") batch ∷ []) (codes "history") 2 history n.0) (gone serve_built (standing (given (codes "file") file ∷ given (codes "pump") pump ∷ given (codes "batch") batch ∷ []) (Some (codes "history", history ∷ [])) idle 2)))))))) in
    let read = read_by (file ∷ codes "--pump" ∷ pump ∷ codes "--batch" ∷ batch ∷ codes "--history" ∷ history ∷ []) (codes "serve") serve_built (standing (given (codes "file") file ∷ given (codes "pump") pump ∷ given (codes "batch") batch ∷ []) (Some (codes "history", history ∷ [])) idle 2) refl refl refl walked (simp n.1) refl refl in
    record { rows = _; met = read.0; taken = read.1; holds = (refl, refl, refl, refl, refl, refl, refl, refl, refl) }
pump_first_read file (Some batch) (Some pump) None true true h b p n =
    let walked = goes (plain_step serve_built None 1 file h refl) (goes (met serve_built (standing [] (Some (codes "file", file ∷ [])) idle 2) (codes "--pump") refl) (goes (value_step serve_built (given (codes "file") file ∷ []) (codes "pump") 2 pump p.0) (goes (met serve_built (standing (given (codes "file") file ∷ []) (Some (codes "pump", pump ∷ [])) idle 2) (codes "--batch") (simp p.1)) (goes (value_step serve_built (given (codes "file") file ∷ given (codes "pump") pump ∷ []) (codes "batch") 2 batch b.0) (goes (met serve_built (standing (given (codes "file") file ∷ given (codes "pump") pump ∷ []) (Some (codes "batch", batch ∷ [])) idle 2) (codes "--strict") (simp b.1)) (goes (met serve_built (standing (given (codes "file") file ∷ given (codes "pump") pump ∷ given (codes "batch") batch ∷ flag_row (codes "strict") true ∷ []) None idle 2) (codes "--why") refl) (gone serve_built (standing (given (codes "file") file ∷ given (codes "pump") pump ∷ given (codes "batch") batch ∷ flag_row (codes "strict") true ∷ flag_row (codes "why") true ∷ []) None idle 2)))))))) in
    let read = read_by (file ∷ codes "--pump" ∷ pump ∷ codes "--batch" ∷ batch ∷ codes "--strict" ∷ codes "--why" ∷ []) (codes "serve") serve_built (standing (given (codes "file") file ∷ given (codes "pump") pump ∷ given (codes "batch") batch ∷ flag_row (codes "strict") true ∷ flag_row (codes "why") true ∷ []) None idle 2) refl refl refl walked refl refl refl in
    record { rows = _; met = read.0; taken = read.1; holds = (refl, refl, refl, refl, refl, refl, refl, refl, refl) }
pump_first_read file (Some batch) (Some pump) None true false h b p n =
    let walked = goes (plain_step serve_built None 1 file h refl) (goes (met serve_built (standing [] (Some (codes "file", file ∷ [])) idle 2) (codes "--pump") refl) (goes (value_step serve_built (given (codes "file") file ∷ []) (codes "pump") 2 pump p.0) (goes (met serve_built (standing (given (codes "file") file ∷ []) (Some (codes "pump", pump ∷ [])) idle 2) (codes "--batch") (simp p.1)) (goes (value_step serve_built (given (codes "file") file ∷ given (codes "pump") pump ∷ []) (codes "batch") 2 batch b.0) (goes (met serve_built (standing (given (codes "file") file ∷ given (codes "pump") pump ∷ []) (Some (codes "batch", batch ∷ [])) idle 2) (codes "--strict") (simp b.1)) (gone serve_built (standing (given (codes "file") file ∷ given (codes "pump") pump ∷ given (codes "batch") batch ∷ flag_row (codes "strict") true ∷ []) None idle 2))))))) in
    let read = read_by (file ∷ codes "--pump" ∷ pump ∷ codes "--batch" ∷ batch ∷ codes "--strict" ∷ []) (codes "serve") serve_built (standing (given (codes "file") file ∷ given (codes "pump") pump ∷ given (codes "batch") batch ∷ flag_row (codes "strict") true ∷ []) None idle 2) refl refl refl walked refl refl refl in
    record { rows = _; met = read.0; taken = read.1; holds = (refl, refl, refl, refl, refl, refl, refl, refl, refl) }
pump_first_read file (Some batch) (Some pump) None false true h b p n =
    let walked = goes (plain_step serve_built None 1 file h refl) (goes (met serve_built (standing [] (Some (codes "file", file ∷ [])) idle 2) (codes "--pump") refl) (goes (value_step serve_built (given (codes "file") file ∷ []) (codes "pump") 2 pump p.0) (goes (met serve_built (standing (given (codes "file") file ∷ []) (Some (codes "pump", pump ∷ [])) idle 2) (codes "--batch") (simp p.1)) (goes (value_step serve_built (given (codes "file") file ∷ given (codes "pump") pump ∷ []) (codes "batch") 2 batch b.0) (goes (met serve_built (standing (given (codes "file") file ∷ given (codes "pump") pump ∷ []) (Some (codes "batch", batch ∷ [])) idle 2) (codes "--why") (simp b.1)) (gone serve_built (standing (given (codes "file") file ∷ given (codes "pump") pump ∷ given (codes "batch") batch ∷ flag_row (codes "why") true ∷ []) None idle 2))))))) in
    let read = read_by (file ∷ codes "--pump" ∷ pump ∷ codes "--batch" ∷ batch ∷ codes "--why" ∷ []) (codes "serve") serve_built (standing (given (codes "file") file ∷ given (codes "pump") pump ∷ given (codes "batch") batch ∷ flag_row (codes "why") true ∷ []) None idle 2) refl refl refl walked refl refl refl in
    record { rows = _; met = read.0; taken = read.1; holds = (refl, refl, refl, refl, refl, refl, refl, refl, refl) }
pump_first_read file (Some batch) (Some pump) None false false h b p n =
    let walked = goes (plain_step serve_built None 1 file h refl) (goes (met serve_built (standing [] (Some (codes "file", file ∷ [])) idle 2) (codes "--pump") refl) (goes (value_step serve_built (given (codes "file") file ∷ []) (codes "pump") 2 pump p.0) (goes (met serve_built (standing (given (codes "file") file ∷ []) (Some (codes "pump", pump ∷ [])) idle 2) (codes "--batch") (simp p.1)) (goes (value_step serve_built (given (codes "file") file ∷ given (codes "pump") pump ∷ []) (codes "batch") 2 batch b.0) (gone serve_built (standing (given (codes "file") file ∷ given (codes "pump") pump ∷ []) (Some (codes "batch", batch ∷ [])) idle 2)))))) in
    let read = read_by (file ∷ codes "--pump" ∷ pump ∷ codes "--batch" ∷ batch ∷ []) (codes "serve") serve_built (standing (given (codes "file") file ∷ given (codes "pump") pump ∷ []) (Some (codes "batch", batch ∷ [])) idle 2) refl refl refl walked (simp b.1) refl refl in
    record { rows = _; met = read.0; taken = read.1; holds = (refl, refl, refl, refl, refl, refl, refl, refl, refl) }
pump_first_read file (Some batch) None history strict why h b p n = batch_first_read file (Some batch) None history strict why h b p n
pump_first_read file None (Some pump) history strict why h b p n = batch_first_read file None (Some pump) history strict why h b p n
pump_first_read file None None history strict why h b p n = batch_first_read file None None history strict why h b p n
