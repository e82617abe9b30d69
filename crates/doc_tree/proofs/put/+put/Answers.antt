use Rattle.std.proofs.Common.{◌≡◌, ◌+◌, [], ◌∷◌, ◌++◌, drop, string_bytes, false, sym, ap, ◌∙◌, subst, arith, rules}
use Rattle.std.proofs.lemmas.List.{drop_all, drop_more}
use Rattle.json.specs.Print.{quoted}
use Rattle.doc_tree.specs.Sound.{AreSound}
use Rattle.doc_tree.specs.Text.{elements_text, members_text_of}
use Rattle.doc_tree.specs.TreeView.{view, elements_view, members_view}
use Rattle.doc_tree.proofs.Putting.{both, element_put, member_put}
use Rattle.doc_tree.proofs.Soundness.{AllSound, MembersAreSound-members_view}
use Rattle.doc_tree.proofs.put.+put.Goals as goal

pub put_elements-loop-item-preserved : goal.put_elements-loop-item-preserved
put_elements-loop-item-preserved t c =
    let l = c.loop-item in
    let xs = c.deref-item-items.result.now in
    let left = drop (l.item-index + 1) xs in
    let item = c.item-item.result in
    let step : drop l.item-index xs ≡ item ∷ left = drop_more xs l.item-index item c.loop-item-test.true ∙ ap (λ x. x ∷ left) (sym c.item-item.is) in (
      element_put l.later (view item) (elements_view left) l.out.items c.put_comma.new.out.items c.put_tree.new.out.items c.in_ok-put_comma.ensures c.in_ok-put_tree.ensures.text
          ∙ ap (λ ys. l.out.items ++ elements_text l.later (elements_view ys)) (sym step) ∙ l.invariant.0,
      λ sound. l.invariant.1 (subst (λ ys. AreSound (elements_view ys)) (sym step) (c.in_ok-put_tree.ensures.sound, sound)),
    )

pub put_elements-returns-clause-text : goal.put_elements-returns-clause-text
put_elements-returns-clause-text t c =
    let l = c.loop-item in
    let xs = c.deref-item-items.result.now in
    let begun = c.push.new.self.items in
    let none : drop l.item-index xs ≡ [] = drop_all l.item-index xs (omega arith) in
    let whole = c.in_ok-push-2.ensures.items ∙ ap (λ ys. l.out.items ++ elements_text l.later (elements_view ys)) (sym none) ∙ l.invariant.0
    ∙ ap (λ ys. begun ++ elements_text false (elements_view ys)) c.deref-item-items.ensures.value in
    both (91 ∷ []) (elements_text false (elements_view c.args.items.now.items)) c.args.out.now.items begun c.push-2.new.self.items c.in_ok-push.ensures.items whole

pub put_members-loop-name-preserved : goal.put_members-loop-name-preserved
put_members-loop-name-preserved t c =
    let l = c.loop-name in
    let left = members_view c.next.new.self in
    let comma = c.put_comma.new.out.items in
    let name = subst (λ k. c.put_quoted.new.out.items ≡ comma ++ quoted k) c.as_str.ensures.value c.in_ok-put_quoted.ensures in (
      member_put l.later (string_bytes c.in-Some.name.now) (view c.in-Some.member.now) left l.out.items comma c.put_quoted.new.out.items c.push-in-loop-name.new.self.items c.put_tree.new.out.items
          c.in_ok-put_comma.ensures name c.in_ok-push-2.ensures.items c.in_ok-put_tree.ensures.text
          ∙ ap (λ ys. l.out.items ++ members_text_of l.later (members_view ys)) (sym c.in-Some.ensures.steps) ∙ l.invariant.0,
      λ sound. l.invariant.1 (subst AllSound (sym c.in-Some.ensures.steps) (c.in_ok-put_tree.ensures.sound, sound)),
    )

pub put_members-returns-clause-text : goal.put_members-returns-clause-text
put_members-returns-clause-text t c =
    let l = c.loop-name in
    let begun = c.push.new.self.items in
    let all : c.into_iter-name-iterator.result ≡ c.args.members.now.entries = search rules in
    let whole = c.in_ok-push-3.ensures.items ∙ ap (λ ys. l.out.items ++ members_text_of l.later (members_view ys)) (sym c.in-None.ensures.steps.0) ∙ l.invariant.0
    ∙ ap (λ ys. begun ++ members_text_of false (members_view ys)) all in
    both (123 ∷ []) (members_text_of false (members_view c.args.members.now.entries)) c.args.out.now.items begun c.push-2.new.self.items c.in_ok-push.ensures.items whole

pub put_members-returns-clause-sound : goal.put_members-returns-clause-sound
put_members-returns-clause-sound t c = MembersAreSound-members_view c.args.members.now.entries c.iter-name-items.ensures.ordered (c.loop-name.invariant.1 (subst AllSound (sym c.in-None.ensures.steps.0) tt))
