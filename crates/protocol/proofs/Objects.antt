-- Lists of documents and the changes whose objects they are.
use Rattle.std.proofs.Common.{◌≡◌, ◌≤◌, suc, List, [], ◌∷◌, ◌++◌, Option, None, Some, Vec, Global, arith, length, map, refl, sym, ◌∙◌, ap}
use Rattle.std.proofs.lemmas.List.{map-append}
use Rattle.doc_tree.specs.Doc.{Doc, Elements, Members, element, no_elements}
use Rattle.doc_tree.specs.TreeView.{elements_of, elements_view, view}
use Rattle.doc_tree.specs.declared.tree.Tree.{Tree}
use Rattle.record_text.specs.Change.{Change, change_of, object_of}
use Rattle.record_text.specs.declared.command.Command.{Command}
use Rattle.protocol.specs.Read.{AreCommands, AreSeveral}
use Rattle.protocol.specs.Request.{objects_of, transaction_members}

-- documents behind documents
abbrev behind : List Doc → Elements → Elements
behind [] es = es
behind (d ∷ ds) es = element d (behind ds es)

behind_push : (ds : List Doc) (d : Doc) → elements_of (ds ++ d ∷ []) ≡ behind ds (element d no_elements)
behind_push [] d = refl
behind_push (e ∷ ds) d = ap (λ (es : Elements). element e es) (behind_push ds d)

objects_push : (cs : List Change) (ds : List Doc) (c : Change) → elements_of ds ≡ objects_of cs → objects_of (cs ++ c ∷ []) ≡ behind ds (element (object_of c) no_elements)
objects_push [] [] c is = refl
objects_push [] (d ∷ ds) c is = absurd (cc is)
objects_push (e ∷ cs) [] c is = absurd (cc is)
objects_push (e ∷ cs) (d ∷ ds) c is =
    let first : d ≡ object_of e = cc is in
    let rest : elements_of ds ≡ objects_of cs = cc is in
    (λ i. element (sym first i) (objects_push cs ds c rest i))

-- one more
pub one_more : (trees : List Tree) (tree : Tree) (cs : List Change) (c : Change) → elements_view trees ≡ objects_of cs → view tree ≡ object_of c → elements_view (trees ++ tree ∷ []) ≡ objects_of (cs ++ c ∷ [])
one_more trees tree cs c is one =
    ap elements_of (map-append view trees (tree ∷ [])) ∙ behind_push (map view trees) (view tree)
    ∙ ap (λ (d : Doc). behind (map view trees) (element d no_elements)) one ∙ sym (objects_push cs (map view trees) c is)

-- each of them is a change's object
pub is_object : (before behind : List Tree) (tree : Tree) (cs : List Change) → elements_view (before ++ tree ∷ behind) ≡ objects_of cs → (c : Change) × (view tree ≡ object_of c)
is_object [] behind tree [] is = absurd (cc is)
is_object [] behind tree (c ∷ cs) is = (c, cc is)
is_object (t ∷ before) behind tree [] is = absurd (cc is)
is_object (t ∷ before) behind tree (c ∷ cs) is = let rest : elements_view (before ++ tree ∷ behind) ≡ objects_of cs = cc is in is_object before behind tree cs rest

-- and they are as many
pub as_many : (trees : List Tree) (cs : List Change) → elements_view trees ≡ objects_of cs → length trees ≡ length cs
as_many [] [] is = refl
as_many [] (c ∷ cs) is = absurd (cc is)
as_many (t ∷ trees) [] is = absurd (cc is)
as_many (t ∷ trees) (c ∷ cs) is = let rest : elements_view trees ≡ objects_of cs = cc is in ap suc (as_many trees cs rest)

-- ---- the members of a transaction's object

same_changes : (ds es : Elements) → transaction_members ds ≡ transaction_members es → ds ≡ es
same_changes ds es is = cc is

-- there are none, since the list has not as many as a transaction may have
pub not_several : (ms : Members) (trees : List Tree) → ms ≡ transaction_members (elements_view trees) → ((1 ≤ length trees) × (length trees ≤ 1_024) → ⊥) → AreSeveral ms None
not_several ms trees are many cs is range =
    let n = as_many trees cs (same_changes (elements_view trees) (objects_of cs) (sym are ∙ is)) in
    many (omega (arith, n, range.0), omega (arith, n, range.1))

-- they are those whose objects the elements are
pub as_several : (ms : Members) (trees : List Tree) → ms ≡ transaction_members (elements_view trees) → (1 ≤ length trees) × (length trees ≤ 1_024)
    → (o : Option (Vec Command Global)) → AreCommands (elements_view trees) o → AreSeveral ms o
as_several ms trees are many None h = λ cs is range. h cs (same_changes (elements_view trees) (objects_of cs) (sym are ∙ is))
as_several ms trees are many (Some commands) h =
    let n = as_many trees (map change_of commands.items) h in
    (are ∙ ap transaction_members h, (omega (arith, n, many.0), omega (arith, n, many.1)))
