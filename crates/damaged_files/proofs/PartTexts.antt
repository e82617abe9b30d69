-- The frames of parts, one part after another.
use Rattle.std.proofs.Common.{◌≡◌, ◌∙◌, ◌+◌, ℕ, suc, zero, List, [], ◌∷◌, ◌++◌, Option, ap, sym, refl, subst, append_assoc, append-nil, drop, add-one}
use Rattle.std.proofs.KnownBytes.{Appends-nil, Appends-trans}
use Rattle.std.specs.Io.KnownBytes.{Appends}
use Rattle.sector_device.specs.Disk.{Image}
use Rattle.store_parts.specs.declared.findings.Findings.{Findings}
use Rattle.store_parts.specs.declared.part.Part.{Part}
use Rattle.damaged_files.specs.Frames.{IsPartText, IsPartsText}

-- what was written so far has the frames of the parts before a place
abbrev pub WroteBefore : Image → Findings → List Part → ℕ → Option (List ℕ) → Option (List ℕ) → Type 0
WroteBefore image found parts i before now =
    (written : List ℕ) × Appends before now written × ((rest : List ℕ) → IsPartsText image found (drop i parts) rest → IsPartsText image found parts (written ++ rest))

pub wrote_none : (image : Image) (found : Findings) (parts : List Part) (before : Option (List ℕ)) → WroteBefore image found parts 0 before before
wrote_none image found parts before = ([], Appends-nil before, λ rest are. are)

pub wrote_more : (image : Image) (found : Findings) (parts : List Part) (i : ℕ) (part : Part) (text : List ℕ) (before now later : Option (List ℕ)) → drop i parts ≡ part ∷ drop (i + 1) parts
    → WroteBefore image found parts i before now → IsPartText image found part text → Appends now later text → WroteBefore image found parts (i + 1) before later
wrote_more image found parts i part text before now later here wrote is shown = (
  wrote.0 ++ text,
  Appends-trans before now later wrote.0 text wrote.1 shown,
  λ rest are.
      let longer : IsPartsText image found (drop i parts) (text ++ rest) = rw here (text, rest, is, are, refl) in
      rw (append_assoc wrote.0 text rest) (wrote.2 (text ++ rest) longer),
)

pub wrote_all : (image : Image) (found : Findings) (parts : List Part) (i : ℕ) (before now : Option (List ℕ)) → drop i parts ≡ [] → WroteBefore image found parts i before now
    → (text : List ℕ) × IsPartsText image found parts text × Appends before now text
wrote_all image found parts i before now none wrote =
    let empty : IsPartsText image found (drop i parts) [] = rw none refl in
    (wrote.0, subst (λ (l : List ℕ). IsPartsText image found parts l) (append-nil wrote.0) (wrote.2 [] empty), wrote.1)
