use Rattle.std.proofs.Common.{◌≡◌, ◌≤◌, ℕ, List, refl, ap, subst, ◌∙◌, arith, length, replicate}
use Rattle.std.proofs.lemmas.List.{length-replicate}
use Rattle.doc_tree.specs.Doc.{text}
use Rattle.doc_tree.specs.TreeView.{members_view}
use Rattle.schema_levels.specs.Bits.{bit, size}
use Rattle.schema_levels.specs.Below.{collect, rules_below}
use Rattle.schema_levels.specs.PlaceInValue.{member_name}
use Rattle.schema_levels.specs.Table.{child_at, titles}
use Rattle.schema_levels.proofs.Searching.{still}
use Rattle.schema_levels.proofs.Sweeps.{sweep_len}
use Rattle.schema_levels.proofs.Folding.{goes_on, none_in_clear, title_folded, title_next, titles_folded}
use Rattle.schema_levels.proofs.named.fold_each_name.Goals as goal

pub returns-then-not-collect : goal.returns-then-not-collect
returns-then-not-collect c =
    let clear : List ℕ = replicate (length c.args.asked.now) 0 in
    let clear_len : length clear ≡ length c.args.asked.now = length-replicate (length c.args.asked.now) 0 in
    let clear_room : length c.args.nodes.now ≤ size clear = omega (arith, clear_len, c.requires.room) in
    let room : length c.args.nodes.now ≤ size c.args.passed.now = omega (arith, c.requires.room, c.requires.passed_len) in
    record {
      folded = titles_folded c.args.nodes.now c.requires.order c.args.asked.now c.args.passed.now clear room clear_room c.collect.new.found (subst (λ l. c.collect.new.found ≡ collect c.args.asked.now member_name 0 c.args.nodes.now l) c.requires.empty c.collect.ensures.found)
          (none_in_clear (length c.args.asked.now) c.collect.new.found (c.if-not-collect.ensures.none refl ∙ c.requires.empty)) (members_view c.args.members.now.entries);
      same = refl;
    }

pub loop-name-preserved : goal.loop-name-preserved
loop-name-preserved c =
    let clear : List ℕ = replicate (length c.args.asked.now) 0 in
    let clear_len : length clear ≡ length c.args.asked.now = length-replicate (length c.args.asked.now) 0 in
    let clear_room : length c.args.nodes.now ≤ size clear = omega (arith, clear_len, c.requires.room) in
    let now : length c.loop-name.passed ≡ (length c.args.asked.now) = c.loop-name.invariant.0 in
    let room : length c.args.nodes.now ≤ size c.loop-name.passed = omega (arith, c.requires.room, now) in
    let e = title_next c.in-Some.name.now c.as_str.result.now c.in-Some.field-0-1.now c.loop-name.name-iterator c.next.new.self c.in-Some.ensures.steps c.as_str.ensures.value in (
      ap length c.fold.ensures ∙ sweep_len (λ _ x. rules_below (bit c.judge_name.new.passed) x member_name x.rules.items) c.args.asked.now 0 c.args.nodes.now c.loop-name.passed ∙ now,
      c.judge_name.auto.asked ∙ c.loop-name.invariant.1,
      c.judge_name.auto.passed ∙ c.loop-name.invariant.2,
      λ i lt on. c.judge_name.ensures.kept i lt (c.loop-name.invariant.3 i lt on),
      goes_on c.args.nodes.now c.args.asked.now c.args.passed.now c.loop-name.passed c.fold.new.passed (child_at member_name (text c.as_str.result.now)) _ (titles (members_view c.next.new.self)) (titles (members_view c.args.members.now.entries)) c.loop-name.invariant.4 e
          (title_folded c.args.nodes.now c.requires.order c.args.asked.now c.loop-name.passed clear room clear_room (collect c.args.asked.now member_name 0 c.args.nodes.now clear) c.loop-name.below_asked c.judge_name.new.passed c.fold.new.passed c.as_str.result.now refl c.loop-name.invariant.3 c.judge_name.ensures.judged c.fold.ensures),
      still _ _ c.args.nodes.now c.judge_name.ensures.same c.loop-name.invariant.5,
      c.judge_name.ensures.same ∙ c.loop-name.invariant.6,
    )
