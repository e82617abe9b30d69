-- For the clauses within the crate: the folder that a file is in, by its path.
use Rattle.std.specs.Prelude.{ℕ, List, Option, Some, None, length, ◌==◌, if◌then◌else◌}
use Rattle.std.specs.Path.{cur_dir, path_parent}

-- this folder, or the present one if there is none or its name is empty
abbrev pub or_present : Option (List ℕ) → List ℕ
or_present None = cur_dir
or_present (Some folder) = if length folder == 0 then cur_dir else folder

-- the parent of the path; a bare name is in the present folder
abbrev pub folder_of : List ℕ → List ℕ
folder_of path = or_present (path_parent path)
