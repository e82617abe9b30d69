use Rattle.schema_rules.specs.Instances.{seen}
use Rattle.schema_changes.proofs.Told.{whole_told}
use Rattle.schema_changes.proofs.whole.all_pass.Goals as goal

pub returns-clause-value : goal.returns-clause-value
returns-clause-value c = λ known table.
    whole_told c.args.nodes.now known table (seen c.args.instance) c.args.asked.now c.copy_from_slice.new.self c.judge_marked.new.passed c.are_within.result c.copy_from_slice.ensures.after c.judge_marked.ensures.value c.are_within.ensures
