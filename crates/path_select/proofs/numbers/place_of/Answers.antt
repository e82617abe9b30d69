use Rattle.std.proofs.Common.{◌≡◌, ◌∙◌, ap, sym, arith, length, string_bytes}
use Rattle.std.specs.Cmp.Lexicographic.{other_text, same_text}
use Rattle.doc_tree.proofs.Members.{get_member-later}
use Rattle.doc_tree.specs.Doc.{get_member, member}
use Rattle.doc_tree.specs.TreeView.{members_view, view}
use Rattle.path_select.specs.Nodes.{member_children}
use Rattle.path_select.proofs.Places.{drop_once, member_found}
use Rattle.path_select.proofs.numbers.place_of.Goals as goal

pub returns-then-eq : goal.returns-then-eq
returns-then-eq c d is =
    let l = c.loop-key in
    let k = c.args.name.now in
    let same : string_bytes c.in-Some.key.now ≡ k = sym c.as_str.ensures.value ∙ same_text c.as_str.result.now k (sym c.if-eq.true ∙ c.eq.ensures) in
    let here = c.in-Some.ensures.steps in
    member_found k (members_view c.args.members.now.entries) (members_view c.next.new.self) (view c.in-Some.field-0-1.now) l.place d
    (l.invariant.0 ∙ ap (λ es. member_children (members_view es)) here ∙ ap (λ n. member_children (member n (view c.in-Some.field-0-1.now) (members_view c.next.new.self))) same)
    (l.invariant.1 ∙ ap (λ es. get_member k (members_view es)) here ∙ ap (λ n. get_member k (member n (view c.in-Some.field-0-1.now) (members_view c.next.new.self))) same)
    is

pub loop-key-preserved : goal.loop-key-preserved
loop-key-preserved c =
    let l = c.loop-key in
    let k = c.args.name.now in
    let here = c.in-Some.ensures.steps in
    let many = ap length here in (
      drop_once l.place (member_children (members_view c.args.members.now.entries)) _ (member_children (members_view c.next.new.self)) (l.invariant.0 ∙ ap (λ es. member_children (members_view es)) here),
      l.invariant.1 ∙ ap (λ es. get_member k (members_view es)) here ∙ get_member-later k (string_bytes c.in-Some.key.now) (view c.in-Some.field-0-1.now) (members_view c.next.new.self) (λ same. other_text c.as_str.result.now k (sym c.if-eq.false ∙ c.eq.ensures) (c.as_str.ensures.value ∙ sym same)),
      (let i = l.invariant.2 in omega (arith, i, many)),
    )
