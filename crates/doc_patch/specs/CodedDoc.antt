-- The code of a document, by which a proof distinguishes documents: each part goes into one tree of numbers.
use Rattle.std.specs.Prelude.{◌≡◌, ℕ, List, refl}
use Rattle.std.specs.Coded.{Coded, coded_ℕ, coded_ℤ, coded_bool, coded_list}
use Rattle.std.proofs.Common.{ap}
use base.Stored.{Gv, gnil, gnum, gcons}
use Rattle.doc_tree.specs.Doc.{Doc, null, boolean, int, text, list, object, Elements, no_elements, element, Members, no_members, member}

abbrev pub coded_bytes : Coded (List ℕ)
coded_bytes = coded_list coded_ℕ

mutual
  pub code_doc : Doc → Gv
  code_doc null = gnil
  code_doc (boolean b) = gcons (gnum 0) (coded_bool.code b)
  code_doc (int z) = gcons (gnum 1) (coded_ℤ.code z)
  code_doc (text s) = gcons (gnum 2) (coded_bytes.code s)
  code_doc (list ds) = gcons (gnum 3) (code_elements ds)
  code_doc (object ms) = gcons (gnum 4) (code_members ms)

  pub code_elements : Elements → Gv
  code_elements no_elements = gnil
  code_elements (element d ds) = gcons (code_doc d) (code_elements ds)

  pub code_members : Members → Gv
  code_members no_members = gnil
  code_members (member k d ms) = gcons (coded_bytes.code k) (gcons (code_doc d) (code_members ms))

mutual
  unfolding code_doc

  pub inj_doc : (x y : Doc) → code_doc x ≡ code_doc y → x ≡ y
  inj_doc null null p = refl
  inj_doc (boolean a) (boolean b) p = ap boolean (coded_bool.inj a b (cc))
  inj_doc (int a) (int b) p = ap int (coded_ℤ.inj a b (cc))
  inj_doc (text a) (text b) p = ap text (coded_bytes.inj a b (cc))
  inj_doc (list a) (list b) p = ap list (inj_elements a b (cc))
  inj_doc (object a) (object b) p = ap object (inj_members a b (cc))
  inj_doc _ _ p = cc

  pub inj_elements : (x y : Elements) → code_elements x ≡ code_elements y → x ≡ y
  inj_elements no_elements no_elements p = refl
  inj_elements (element a as') (element b bs) p =
      let one : a ≡ b = inj_doc a b (cc) in
      let more : as' ≡ bs = inj_elements as' bs (cc) in
      cc
  inj_elements _ _ p = cc

  pub inj_members : (x y : Members) → code_members x ≡ code_members y → x ≡ y
  inj_members no_members no_members p = refl
  inj_members (member k a ms) (member l b ns) p =
      let name : k ≡ l = coded_bytes.inj k l (cc) in
      let one : a ≡ b = inj_doc a b (cc) in
      let more : ms ≡ ns = inj_members ms ns (cc) in
      cc
  inj_members _ _ p = cc

abbrev pub coded_doc : Coded Doc
coded_doc = record { code = code_doc; inj = inj_doc }
