use Rattle.std.proofs.Common.{◌≡◌, ◌+◌, ℕ, List, string_bytes, [], ◌∷◌, ◌++◌, drop, false, sym, ap, ◌∙◌, subst, arith, rules}
use Rattle.std.proofs.lemmas.List.{drop_all, drop_more}
use Rattle.json.specs.Print.{quoted}
use Rattle.doc_tree.specs.Text.{elements_text, members_text_of}
use Rattle.doc_tree.specs.TreeView.{view, elements_view, members_view}
use Rattle.doc_tree.proofs.Stripping.{ended, one_element, one_member}
use Rattle.doc_tree.proofs.strip.+strip.Goals as goal

pub after_elements-loop-item-preserved : goal.after_elements-loop-item-preserved
after_elements-loop-item-preserved t c = λ more rest.
    let l = c.loop-item in
    let xs = c.deref-item-items.result.now in
    let left = drop (l.item-index + 1) xs in
    let item = c.item-item.result in
    let step : drop l.item-index xs ≡ item ∷ left = drop_more xs l.item-index item c.loop-item-test.true ∙ ap (λ x. x ∷ left) (sym c.item-item.is) in
    let here = one_element l.later (view item) (elements_view left) l.rest.now c.in_ok-after_comma.field-0.now c.in_ok-rest.rest.now more
    c.in_ok-after_comma.ensures c.in_ok-rest.ensures rest in
    l.invariant more (here ∙ ap (λ ys. elements_text l.later (elements_view ys) ++ more) (sym step))

pub after_elements-returns : goal.after_elements-returns
after_elements-returns t c =
    let l = c.loop-item in
    let xs = c.deref-item-items.result.now in
    let none : drop l.item-index xs ≡ [] = drop_all l.item-index xs (omega arith) in
    let goes : (more : List ℕ) → l.rest.now ≡ 93 ∷ more → c.args.bytes.now ≡ elements_text false (elements_view c.args.items.now.items) ++ more =
    λ more is. l.invariant more (is ∙ ap (λ ys. elements_text l.later (elements_view ys) ++ more) (sym none))
    ∙ ap (λ ys. elements_text false (elements_view ys) ++ more) c.deref-item-items.ensures.value in
    ended 93 (elements_text false (elements_view c.args.items.now.items)) c.args.bytes.now l.rest.now c.strip_byte.result goes c.strip_byte.ensures

pub after_members-loop-name-preserved : goal.after_members-loop-name-preserved
after_members-loop-name-preserved t c = λ more rest.
    let l = c.loop-name in
    let left = members_view c.next.new.self in
    let name = subst (λ k. c.in_ok-after_comma.field-0.now ≡ quoted k ++ c.in_ok-named.named.now) c.as_str.ensures.value c.in_ok-named.ensures in
    let after = c.in_ok-after_comma.field-0.now in
    let here = one_member l.later (string_bytes c.in-Some.name.now) (view c.in-Some.member.now) left l.rest.now after c.in_ok-named.named.now
    c.in_ok-strip_byte.field-0.now c.in_ok-rest.rest.now more c.in_ok-after_comma.ensures name c.in_ok-strip_byte.ensures c.in_ok-rest.ensures rest in
    l.invariant more (here ∙ ap (λ ys. members_text_of l.later (members_view ys) ++ more) (sym c.in-Some.ensures.steps))

pub after_members-returns : goal.after_members-returns
after_members-returns t c =
    let l = c.loop-name in
    let all : c.into_iter-name-iterator.result ≡ c.args.members.now.entries = search rules in
    let goes : (more : List ℕ) → l.rest.now ≡ 125 ∷ more → c.args.bytes.now ≡ members_text_of false (members_view c.args.members.now.entries) ++ more =
    λ more is. l.invariant more (is ∙ ap (λ ys. members_text_of l.later (members_view ys) ++ more) (sym c.in-None.ensures.steps.0))
    ∙ ap (λ ys. members_text_of false (members_view ys) ++ more) all in
    ended 125 (members_text_of false (members_view c.args.members.now.entries)) c.args.bytes.now l.rest.now c.strip_byte-2.result goes c.strip_byte-2.ensures
