-- The compact text of a document.
use Rattle.std.specs.Prelude.{ℕ, List, Bool}
use Rattle.serde_json.specs.Data as json
use Rattle.serde_json.specs.Find.{of_integer}
use Rattle.serde_json.specs.Written.{compact_text, items_text, members_text}
use Rattle.doc_tree.specs.Doc.{Doc, null, boolean, int, text, list, object, Elements, no_elements, element, Members, no_members, member}

-- the document as the data that `serde_json` reads and writes
abbrev mutual
  -- of a document
  pub data_of : Doc → json.Data
  data_of null = json.null
  data_of (boolean b) = json.boolean b
  data_of (int z) = json.number (of_integer z)
  data_of (text s) = json.string s
  data_of (list ds) = json.array (items_of ds)
  data_of (object ms) = json.object (members_of ms)

  -- of elements
  pub items_of : Elements → json.Items
  items_of no_elements = json.no_items
  items_of (element d ds) = json.item (data_of d) (items_of ds)

  -- of members
  pub members_of : Members → json.Members
  members_of no_members = json.no_members
  members_of (member k d ms) = json.member k (data_of d) (members_of ms)

-- what `serde_json` writes for the document: no blank, and each text escaped (RFC 8259, section 7)
abbrev pub text_of : Doc → List ℕ
text_of d = compact_text (data_of d)

-- the text after the opening bracket; `later` says whether an element comes before
abbrev pub elements_text : Bool → Elements → List ℕ
elements_text later ds = items_text later (items_of ds)

-- the same of an object
abbrev pub members_text_of : Bool → Members → List ℕ
members_text_of later ms = members_text later (members_of ms)
