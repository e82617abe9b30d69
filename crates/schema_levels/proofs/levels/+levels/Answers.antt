use Rattle.std.proofs.Common.{◌≡◌, refl, sym, ap, subst, ◌∙◌, arith, ◌+◌, ◌≤◌, length, replicate, drop}
use Rattle.std.proofs.lemmas.List.{length-replicate}
use Rattle.schema_levels.specs.PlaceInValue.{index}
use Rattle.doc_tree.specs.Doc.{object, Elements, no_elements}
use Rattle.doc_tree.specs.Lists.{elements_list}
use Rattle.doc_tree.proofs.Elements.{length-elements_list}
use Rattle.doc_tree.specs.TreeView.{view, elements_view, members_view}
use Rattle.schema_levels.specs.Bits.{size}
use Rattle.schema_levels.specs.Table.{child_at, items_from, members_each, titles}
use Rattle.schema_levels.specs.Below.{seen}
use Rattle.schema_levels.proofs.Folding.{closed_keeps, ends, folded_append, lowered, child_told, nothing_asked, goes_on, one_folded, none_folded, none_in_clear, item_next, member_next, Going, judge_right}
use Rattle.schema_levels.specs.Counters.{Tallied, most, width}
use Rattle.schema_levels.proofs.Counting.{counting_goes, counting_skips, counted_is, drop_all, element_next}
use Rattle.schema_levels.proofs.Searching.{still}
use Rattle.schema_levels.proofs.levels.+levels.Goals.{fold_each_item-then-fold_child, fold_each_item-else-fold_child}
use Rattle.schema_levels.proofs.levels.+levels.Goals as goal

pub fold_child-returns-then-not-collect-clause-folded : goal.fold_child-returns-then-not-collect-clause-folded
fold_child-returns-then-not-collect-clause-folded t c =
    let room : length c.args.nodes.now ≤ size c.args.passed.now = omega (arith, c.requires.room, c.requires.passed_len) in
    let clear_len : length c.args.below_asked.now ≡ (length c.args.asked.now) = ap length c.requires.empty ∙ length-replicate (length c.args.asked.now) 0 in
    let clear_room : length c.args.nodes.now ≤ size c.args.below_asked.now = omega (arith, clear_len, c.requires.room) in
    let begun : c.collect.new.found ≡ replicate (length c.args.asked.now) 0 = c.if-not-collect.ensures.none refl ∙ c.requires.empty in
    none_folded c.args.nodes.now c.requires.order c.args.asked.now c.args.passed.now c.args.below_asked.now room clear_room (child_at (seen c.args.spot) (view c.args.child.now)) c.collect.new.found c.collect.ensures.found (none_in_clear (length c.args.asked.now) c.collect.new.found begun)

pub fold_child-returns-then-not-collect-clause-none : goal.fold_child-returns-then-not-collect-clause-none
fold_child-returns-then-not-collect-clause-none t c = λ _.
    let clear_len : length c.args.below_asked.now ≡ (length c.args.asked.now) = ap length c.requires.empty ∙ length-replicate (length c.args.asked.now) 0 in
    let clear_room : length c.args.nodes.now ≤ size c.args.below_asked.now = omega (arith, clear_len, c.requires.room) in
    let begun : c.collect.new.found ≡ replicate (length c.args.asked.now) 0 = c.if-not-collect.ensures.none refl ∙ c.requires.empty in
    (begun, nothing_asked c.args.nodes.now c.requires.order c.args.asked.now c.args.below_asked.now clear_room (seen c.args.spot) c.collect.new.found c.collect.ensures.found (none_in_clear (length c.args.asked.now) c.collect.new.found begun))

pub fold_child-returns-clause-folded : goal.fold_child-returns-clause-folded
fold_child-returns-clause-folded t c =
    let room : length c.args.nodes.now ≤ size c.args.passed.now = omega (arith, c.requires.room, c.requires.passed_len) in
    let clear_len : length c.args.below_asked.now ≡ (length c.args.asked.now) = ap length c.requires.empty ∙ length-replicate (length c.args.asked.now) 0 in
    let clear_room : length c.args.nodes.now ≤ size c.args.below_asked.now = omega (arith, clear_len, c.requires.room) in
    one_folded c.args.nodes.now c.requires.order c.args.asked.now c.args.passed.now c.args.below_asked.now room clear_room (child_at (seen c.args.spot) (view c.args.child.now)) c.collect.new.found c.collect.ensures.found c.judge.new.passed c.fold.new.passed c.judge.ensures.judged c.fold.ensures

pub fold_child-returns-clause-told : goal.fold_child-returns-clause-told
fold_child-returns-clause-told t c = λ _.
    let clear_len : length c.args.below_asked.now ≡ (length c.args.asked.now) = ap length c.requires.empty ∙ length-replicate (length c.args.asked.now) 0 in
    let clear_room : length c.args.nodes.now ≤ size c.args.below_asked.now = omega (arith, clear_len, c.requires.room) in
    child_told c.args.nodes.now c.requires.order c.args.asked.now c.args.below_asked.now clear_room (seen c.args.spot) c.collect.new.found c.collect.ensures.found (view c.args.child.now) c.judge.new.asked c.judge.new.passed c.judge.ensures.kept c.judge.ensures.judged

pub fold_each_item-loop-index-preserved : goal.fold_each_item-loop-index-preserved
fold_each_item-loop-index-preserved t c =
    let items = c.deref-item-items.result.now in
    let index_at = c.loop-index.index in
    let left : Elements = elements_view (drop index_at items) in
    let rest : Elements = elements_view (drop (index_at + 1) items) in
    let all : Elements = elements_view c.args.items.now.items in
    let e = item_next items index_at c.item-item.result c.loop-index-test.true c.item-item.is in
    let next = element_next items index_at c.item-item.result c.loop-index-test.true c.item-item.is in
    let inv = c.loop-index.invariant in
    let room : length c.args.nodes.now ≤ size c.loop-index.found = omega (arith, inv.3, c.requires.room) in
    let counters_room : width c.args.narrow (length c.args.counters.now.counted.items) ≤ length c.loop-index.counts = omega (arith, inv.4) in
    let many : length (elements_list all) ≤ most c.args.narrow = (let len = length-elements_list c.args.items.now.items in omega (arith, len, c.requires.many)) in
    let going = goes_on c.args.nodes.now c.args.asked.now c.args.passed.now c.loop-index.passed c.fold_child.new.passed (child_at (index index_at) (view c.item-item.result)) _ (items_from (index_at + 1) rest) (items_from 0 all) inv.5 e c.fold_child.ensures.folded in
    elim c.if-fold_child.branch [
      | fold_each_item-then-fold_child w ↦ (
        c.fold_child.auto.passed ∙ inv.0,
        w.below_asked-is ∙ w.fill.ensures ∙ ap (λ n. replicate n 0) (c.fold_child.auto.below_asked ∙ ap length inv.1 ∙ length-replicate (length c.args.asked.now) 0),
        c.fold_child.auto.below_passed ∙ inv.2,
        ap length w.found-is ∙ w.tally.ensures.2.found_len ∙ inv.3,
        ap length w.counts-is ∙ w.tally.ensures.2.counts_len ∙ inv.4,
        going,
        counting_goes c.args.nodes.now c.requires.order c.args.counters.now c.requires.counted.each c.args.narrow c.args.asked.now c.loop-index.found c.loop-index.counts c.if-fold_child.found c.if-fold_child.counts c.fold_child.new.below_asked c.fold_child.new.below_passed index_at w.tally.ensures.0 (view c.item-item.result) left rest all
            room counters_room w.tally.ensures.1 many inv.6 next (c.fold_child.ensures.told w.if-fold_child.true)
            (subst (λ l. Tallied c.args.counters.now c.args.narrow c.fold_child.new.below_asked c.fold_child.new.below_passed w.tally.ensures.0 c.loop-index.found c.loop-index.counts l c.if-fold_child.counts) (sym w.found-is)
            (subst (λ l. Tallied c.args.counters.now c.args.narrow c.fold_child.new.below_asked c.fold_child.new.below_passed w.tally.ensures.0 c.loop-index.found c.loop-index.counts w.tally.new.found l) (sym w.counts-is) w.tally.ensures.2)),
        still _ _ c.args.nodes.now c.fold_child.ensures.same inv.7,
        c.fold_child.ensures.same ∙ inv.8,
      )
      | fold_each_item-else-fold_child w ↦ (
        c.fold_child.auto.passed ∙ inv.0,
        w.below_asked-is ∙ (c.fold_child.ensures.none w.if-fold_child.false).0,
        c.fold_child.auto.below_passed ∙ inv.2,
        ap length w.found-is ∙ inv.3,
        ap length w.counts-is ∙ inv.4,
        going,
        counting_skips c.args.nodes.now c.args.counters.now c.args.narrow c.args.asked.now c.if-fold_child.found c.if-fold_child.counts index_at rest all (c.fold_child.ensures.none w.if-fold_child.false).1,
        still _ _ c.args.nodes.now c.fold_child.ensures.same inv.7,
        c.fold_child.ensures.same ∙ inv.8,
      )
    ]

pub fold_each_item-returns : goal.fold_each_item-returns
fold_each_item-returns t c =
    let inv = c.loop-index.invariant in
    let all : Elements = elements_view c.args.items.now.items in
    let left : Elements = elements_view (drop c.loop-index.index c.deref-item-items.result.now) in
    let room : length c.args.nodes.now ≤ size c.loop-index.passed = omega (arith, inv.0, c.requires.room) in
    let none : left ≡ no_elements = ap elements_view (drop_all c.deref-item-items.result.now c.loop-index.index (omega (arith, c.loop-index-test.false))) in
    record {
      lowered = counted_is c.args.nodes.now c.args.counters.now c.requires.counted.each c.args.narrow c.args.asked.now c.args.passed.now c.loop-index.passed c.weigh.new.passed c.loop-index.found c.loop-index.counts left all room
          (ends c.args.nodes.now c.args.asked.now c.args.passed.now c.loop-index.passed (items_from c.loop-index.index left) (items_from 0 all) inv.5 (ap (items_from c.loop-index.index) none)) inv.6 none c.weigh.ensures;
      same = inv.8;
    }

pub judge-returns-clause-judged : goal.judge-returns-clause-judged
judge-returns-clause-judged t c =
    let asked_room : length c.args.nodes.now ≤ size c.args.asked.now = omega (arith, c.requires.room) in
    let passed_room : length c.args.nodes.now ≤ size c.args.passed.now = omega (arith, c.requires.room, c.requires.passed_len) in
    let lower_len : length c.lower.new.passed ≡ length c.args.asked.now = c.lower.auto.passed ∙ c.fill.auto.words ∙ c.requires.passed_len in
    let lower_room : length c.args.nodes.now ≤ size c.lower.new.passed = omega (arith, c.requires.room, lower_len) in
    judge_right c.args.nodes.now c.requires.order (view c.args.instance.now) c.args.asked.now c.args.passed.now c.close.new.asked c.fill.new.words c.lower.new.passed c.conclude.new.passed
    asked_room passed_room c.close.ensures c.fill.ensures c.lower.ensures.lowered lower_room c.conclude.ensures.concluded

pub judge-returns-clause-kept : goal.judge-returns-clause-kept
judge-returns-clause-kept t c =
    let asked_room : length c.args.nodes.now ≤ size c.args.asked.now = omega (arith, c.requires.room) in
    closed_keeps c.args.nodes.now c.args.asked.now c.close.new.asked asked_room c.close.ensures

pub lower_members-returns : goal.lower_members-returns
lower_members-returns t c =
    let ms = members_view c.args.members.now.entries in
    record {
      lowered = lowered c.args.nodes.now c.args.asked.now (object ms) c.args.passed.now c.fold_names.new.passed (λ known rs. refl)
          (folded_append c.args.nodes.now c.args.asked.now (members_each ms) (titles ms) c.args.passed.now c.fold_members.new.passed c.fold_names.new.passed c.fold_members.ensures.folded c.fold_names.ensures.folded);
      same = c.fold_names.ensures.same ∙ c.fold_members.ensures.same;
    }

pub fold_child-returns-then-not-collect-clause-told : goal.fold_child-returns-then-not-collect-clause-told
fold_child-returns-then-not-collect-clause-told t c = λ e. absurd cc

pub fold_child-returns-clause-none : goal.fold_child-returns-clause-none
fold_child-returns-clause-none t c = λ e. absurd cc

pub fold_each_member-loop-name-init : goal.fold_each_member-loop-name-init
fold_each_member-loop-name-init t c =
    (tt, tt, c.requires.passed_len, c.requires.below_asked, c.requires.below_len, (subst (λ l. Going c.args.nodes.now c.args.asked.now c.args.passed.now c.args.passed.now (members_each (members_view l)) (members_each (members_view c.args.members.now.entries))) (sym (c.into_iter-name-iterator.ensures.into_iter_gives ∙ c.iter-name-items.ensures.rest)) (λ known table k x at on. refl)), c.requires.searched, refl)

pub fold_each_member-loop-name-preserved-then-fold_child : goal.fold_each_member-loop-name-preserved-then-fold_child
fold_each_member-loop-name-preserved-then-fold_child t c = (
  tt,
  tt,
  c.fold_child.auto.passed ∙ c.loop-name.invariant.2,
  c.fill.ensures ∙ ap (λ n. replicate n 0) (c.fold_child.auto.below_asked ∙ ap length c.loop-name.invariant.3 ∙ length-replicate (length c.args.asked.now) 0),
  c.fold_child.auto.below_passed ∙ c.loop-name.invariant.4,
  goes_on c.args.nodes.now c.args.asked.now c.args.passed.now c.loop-name.passed c.fold_child.new.passed _ _ (members_each (members_view c.next.new.self)) (members_each (members_view c.args.members.now.entries)) c.loop-name.invariant.5
      (member_next c.in-Some.name.now c.as_str-key.result.now c.in-Some.member.now c.loop-name.name-iterator c.next.new.self c.in-Some.ensures.steps c.as_str-key.ensures.value) c.fold_child.ensures.folded,
  still _ _ c.args.nodes.now (c.fold_child.ensures.same ∙ c.find_for-found.ensures.same) c.loop-name.invariant.6,
  c.fold_child.ensures.same ∙ c.find_for-found.ensures.same ∙ c.loop-name.invariant.7,
)

pub fold_each_member-loop-name-preserved : goal.fold_each_member-loop-name-preserved
fold_each_member-loop-name-preserved t c = (
  tt,
  tt,
  c.fold_child.auto.passed ∙ c.loop-name.invariant.2,
  (c.fold_child.ensures.none c.if-fold_child.false).0,
  c.fold_child.auto.below_passed ∙ c.loop-name.invariant.4,
  goes_on c.args.nodes.now c.args.asked.now c.args.passed.now c.loop-name.passed c.fold_child.new.passed _ _ (members_each (members_view c.next.new.self)) (members_each (members_view c.args.members.now.entries)) c.loop-name.invariant.5
      (member_next c.in-Some.name.now c.as_str-key.result.now c.in-Some.member.now c.loop-name.name-iterator c.next.new.self c.in-Some.ensures.steps c.as_str-key.ensures.value) c.fold_child.ensures.folded,
  still _ _ c.args.nodes.now (c.fold_child.ensures.same ∙ c.find_for-found.ensures.same) c.loop-name.invariant.6,
  c.fold_child.ensures.same ∙ c.find_for-found.ensures.same ∙ c.loop-name.invariant.7,
)

pub fold_each_member-returns : goal.fold_each_member-returns
fold_each_member-returns t c =
    record { folded = ends c.args.nodes.now c.args.asked.now c.args.passed.now c.loop-name.passed _ (members_each (members_view c.args.members.now.entries)) c.loop-name.invariant.5 (ap (λ l. members_each (members_view l)) c.in-None.ensures.steps.0); same = c.loop-name.invariant.7 }

pub judge-conclude-requires-clause-searched : goal.judge-conclude-requires-clause-searched
judge-conclude-requires-clause-searched t c = still _ _ c.args.nodes.now c.lower.ensures.same c.requires.searched

pub lower_members-fold_names-requires-clause-searched : goal.lower_members-fold_names-requires-clause-searched
lower_members-fold_names-requires-clause-searched t c = still _ _ c.args.nodes.now c.fold_members.ensures.same c.requires.searched
