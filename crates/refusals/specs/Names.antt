-- The name of each refusal's number.
use Rattle.std.specs.Prelude.{ℕ, List, [], ◌∷◌, if◌then◌else◌, nat_eq, codes}

-- the table
abbrev pub names : List (ℕ × List ℕ)
names =
    (10, codes "line-too-long")
    ∷ (11, codes "not-json")
    ∷ (12, codes "number")
    ∷ (13, codes "depth")
    ∷ (14, codes "command")
    ∷ (15, codes "name")
    ∷ (20, codes "exists")
    ∷ (21, codes "no-document")
    ∷ (22, codes "too-many")
    ∷ (23, codes "too-large")
    ∷ (24, codes "revision")
    ∷ (25, codes "mark")
    ∷ (30, codes "patch-shape")
    ∷ (31, codes "patch-pointer")
    ∷ (32, codes "patch-missing")
    ∷ (33, codes "patch-into-itself")
    ∷ (34, codes "patch-test")
    ∷ (35, codes "patch-root")
    ∷ (36, codes "patch-long")
    ∷ (37, codes "no-value")
    ∷ (38, codes "pointer")
    ∷ (40, codes "schema-form")
    ∷ (41, codes "schema-keyword")
    ∷ (42, codes "schema-ref")
    ∷ (43, codes "schema-loop")
    ∷ (44, codes "schema-size")
    ∷ (45, codes "invalid")
    ∷ (50, codes "path")
    ∷ (51, codes "path-left-out")
    ∷ (52, codes "path-long")
    ∷ (53, codes "path-nodes")
    ∷ (54, codes "reply-long")
    ∷ (60, codes "full")
    ∷ (61, codes "device")
    ∷ (62, codes "broken")
    ∷ (63, codes "memory")
    ∷ (64, codes "seq-end")
    ∷ (65, codes "transaction-large")
    ∷ (70, codes "already-a-store")
    ∷ (71, codes "small")
    ∷ (72, codes "not-a-store")
    ∷ (73, codes "damaged")
    ∷ (74, codes "no-room")
    ∷ (75, codes "cut-off")
    ∷ (76, codes "newer-schema")
    ∷ []

-- what a table has at a number, or the empty text
abbrev pub name_in : List (ℕ × List ℕ) → ℕ → List ℕ
name_in [] n = []
name_in (row ∷ rows) n = if nat_eq n row.0 then row.1 else name_in rows n

-- the name of a number
abbrev pub name_of : ℕ → List ℕ
name_of n = name_in names n
