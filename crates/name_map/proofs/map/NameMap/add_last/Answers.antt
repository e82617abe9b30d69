use Rattle.std.proofs.Common.{rules, sym, subst, is_ok, string_bytes}
use Rattle.name_map.specs.Entries.{IsLast}
use Rattle.name_map.proofs.Places.{rises-end, rises-if}
use Rattle.name_map.proofs.map.NameMap.add_last.Goals as goal

pub invariant_of-self : goal.invariant_of-self
invariant_of-self g c =
    let last = subst (IsLast (string_bytes c.args.name)) (sym c.self.view_is) (search rules) in
    rises-if (is_ok c.push.result) c.push.new.self.items _ _ c.push.ensures.items (rises-end c.args.name c.self.inside.list.items c.args.value c.self.invariant last) c.self.invariant

pub returns-clause-ordered : goal.returns-clause-ordered
returns-clause-ordered g c =
    let last = subst (IsLast (string_bytes c.args.name)) (sym c.self.view_is) (search rules) in
    rises-if (is_ok c.push.result) c.push.new.self.items _ _ c.push.ensures.items (rises-end c.args.name c.self.inside.list.items c.args.value c.self.invariant last) c.self.invariant
