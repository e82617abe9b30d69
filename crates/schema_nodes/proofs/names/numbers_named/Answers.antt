use Rattle.std.proofs.Common.{inl, inr, ⊎_elim, ◌∙◌}
use Rattle.schema_nodes.proofs.Naming.{naming_on, named_all}
use Rattle.schema_nodes.proofs.names.numbers_named.Goals as goal

pub loop-key-preserved : goal.loop-key-preserved
loop-key-preserved c =
    naming_on c.args.named.now.entries c.args.row.now c.loop-key.numbers.entries c.insert.new.self.entries c.loop-key.key-iterator.a c.next.new.self.a c.loop-key.key-iterator.b.rest.now c.next.new.self.b.rest.now
    (c.in-Some.key.now, c.in-Some.field-0-0-1.now) c.in-Some.number.now c.in_ok-name.name c.loop-key.invariant c.iter.ensures.ordered c.in-Some.ensures.steps.0 c.in-Some.ensures.steps.1
    (c.in_ok-name.ensures.ok ∙ c.as_str.ensures.value) c.in_ok-insert.ensures.entries

pub returns : goal.returns
returns c = named_all c.args.named.now.entries c.args.row.now c.loop-key.numbers.entries c.loop-key.key-iterator.a c.loop-key.key-iterator.b.rest.now c.loop-key.invariant (⊎_elim (λ x. inl x.1.0) (λ x. inr x.1.0) c.in-None.ensures.steps)
