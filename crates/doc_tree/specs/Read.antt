-- The document that a text is: what `serde_json` reads, with each number as its `as_i64`.
use Rattle.std.specs.Prelude.{List, ℕ, if◌then◌else◌, Option, Some, None, option_map, option_and_then}
use Rattle.std.specs.Str.{is_utf8}
use Rattle.serde_json.specs.Data as json
use Rattle.serde_json.specs.Find.{as_i64}
use Rattle.serde_json.specs.Read.{read}
use Rattle.doc_tree.specs.Doc.{Doc, null, boolean, int, text, list, object, Elements, no_elements, element, Members, no_members, member}

-- data all whose numbers are whole and fit 64 bits with a sign
abbrev mutual
  -- as a document
  pub doc_of : json.Data → Option Doc
  doc_of json.null = Some null
  doc_of (json.boolean b) = Some (boolean b)
  doc_of (json.number n) = option_map int (as_i64 n)
  doc_of (json.string s) = Some (text s)
  doc_of (json.array ds) = option_map list (elements_from ds)
  doc_of (json.object ms) = option_map object (members_from ms)

  -- as elements
  pub elements_from : json.Items → Option Elements
  elements_from json.no_items = Some no_elements
  elements_from (json.item d ds) = option_and_then (λ e. option_map (element e) (elements_from ds)) (doc_of d)

  -- as members
  pub members_from : json.Members → Option Members
  members_from json.no_members = Some no_members
  members_from (json.member k d ms) = option_and_then (λ e. option_map (member k e) (members_from ms)) (doc_of d)

-- what a text is read as: a document, no JSON text, or one with a number that is no 64-bit signed whole number
pub data Reading : Type 0 where
  document : Doc → Reading
  not_json : Reading
  not_whole : Reading

-- of data that was read: the document, if all numbers are whole
abbrev pub if_whole : Option Doc → Reading
if_whole None = not_whole
if_whole (Some d) = document d

-- of what `serde_json` reads, if it does
abbrev pub reading_of : Option json.Data → Reading
reading_of None = not_json
reading_of (Some d) = if_whole (doc_of d)

-- of any bytes; those that are no UTF-8 are no JSON text
abbrev pub read_of : List ℕ → Reading
read_of bytes = if is_utf8 bytes then reading_of (read bytes) else not_json
