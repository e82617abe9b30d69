-- What is said at an opening, and at the exit after it.
use Rattle.std.proofs.Common.{◌≡◌, ◌∙◌, ℕ, List, [], Bool, true, Option, Result, Ok, Err, refl, subst, sym}
use Rattle.std.specs.Io.KnownBytes.{Appends}
use Rattle.command_line.specs.Call.{Asked}
use Rattle.jpstore.specs.Exits.{Exits, said_of}
use Rattle.file_programs.specs.declared.fault.Fault.{Fault}
use Rattle.jpstore.specs.declared.kept.Exit.{Exit}
use Rattle.jpstore.proofs.Saying.{appends_both}

pub exits_after : (ended : Result (Unit {0}) Fault) (note : List ℕ) (asked : Asked) (why : Bool) (exit : Exit) (before mid after : Option (List ℕ)) → (exit.said ≡ true → Appends before mid note) → (note ≡ [] → mid ≡ before)
    → Exits ended [] asked why exit mid after → Exits ended note asked why exit before after
exits_after (Ok done) note asked why exit before mid after noted silent exits =
    (exits.0, (λ said. subst (λ (o : Option (List ℕ)). Appends before o note) (sym (exits.2 refl)) (noted said)), (λ none. exits.2 refl ∙ silent none))
exits_after (Err fault) note asked why exit before mid after noted silent exits = (exits.0, (λ said. appends_both before mid after note (said_of fault asked why) (noted said) (exits.1 said)))
