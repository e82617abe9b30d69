-- The limits of a document: how high it may be, and how long its text.
use Rattle.std.specs.Prelude.{ℕ, length, Result, Ok, Err, if◌then◌else◌, nat_lt}
use Rattle.doc_tree.specs.Doc.{Doc, height}
use Rattle.doc_tree.specs.Text.{text_of}
use Rattle.refusals.specs.declared.numbers.TheConstants.{DEPTH, TOO_LARGE}

-- the document itself, if it isn't too high and its text not too long
abbrev pub within_limits : Doc → Result Doc ℕ
within_limits d = if nat_lt 64 (height d) then Err DEPTH else if nat_lt 1_048_576 (length (text_of d)) then Err TOO_LARGE else Ok d
