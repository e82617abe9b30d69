-- For the clauses within the crate: the parts of replies that are written.
use Rattle.std.specs.Prelude.{ℕ, List, [], ◌++◌, codes, decimal, Option, None, Some, option_map}
use Rattle.json.specs.Print.{quoted}
use Rattle.doc_changes.specs.Marks.{Mark}

-- a member that only some replies have, with the text before its number
abbrev pub number_text : List ℕ → Option ℕ → List ℕ
number_text begun None = []
number_text begun (Some number) = begun ++ decimal number

-- what a refusal begins with: the change of a transaction that was refused, if it is one
abbrev pub opening : Option ℕ → List ℕ
opening None = codes "{"
opening (Some change) = codes "{" ++ (codes "\"change\":" ++ (decimal change ++ codes ","))

-- the text of a mark's value, or of null if there is none
abbrev pub value_text : Option Mark → List ℕ
value_text None = codes "null"
value_text (Some m) = quoted m.value

-- the number of a mark as the last member, if there is one
abbrev pub seq_text : Option Mark → List ℕ
seq_text m = number_text (codes ",\"seq\":") (option_map (λ mark. mark.seq) m)

-- a line with the value of a mark after its first part and the mark's number after its second
abbrev pub told_text : List ℕ → Option Mark → List ℕ → List ℕ
told_text begun m behind = begun ++ (value_text m ++ (behind ++ (seq_text m ++ codes "}\n")))

-- the member of a mark that is set, if there is one, after others
abbrev pub mark_text : Option Mark → List ℕ
mark_text None = []
mark_text (Some m) = codes ",\"mark\":{\"key\":" ++ (quoted m.key ++ (codes ",\"value\":" ++ (quoted m.value ++ codes "}")))

-- the member of an identity, if there is one, after others
abbrev pub identity_text : Option (List ℕ) → List ℕ
identity_text None = []
identity_text (Some identity) = codes ",\"identity\":" ++ quoted identity
