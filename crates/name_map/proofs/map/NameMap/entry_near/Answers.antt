use Rattle.std.proofs.Common.{sym, ap, ◌∙◌, Some, subst, get_or, ◌≡◌, Equal, string_bytes}
use Rattle.name_map.specs.Entries.{named}
use Rattle.name_map.proofs.Order.{Entry, same_text}
use Rattle.name_map.proofs.Places.{found, missing}
use Rattle.name_map.proofs.map.NameMap.entry_near.Goals as goal

pub returns-in-Ok-clause-name : goal.returns-in-Ok-clause-name
returns-in-Ok-clause-name g c =
    let f = found c.args.name.now c.args.self.now.entries c.in-Ok.at (sym c.in-Ok.ensures.place) in
    let same = ap (λ m. m.entries) c.self.view_is in
    sym (same_text c.args.name.now (string_bytes c.index-entry.result.now.0) (subst (λ (e : Entry g.row.V.Denot). named c.args.name.now e.0 ≡ Equal) (sym (c.index-entry.ensures ∙ ap (λ es. get_or es c.in-Ok.at c.index-entry.result.now) same)) (f.same c.index-entry.result.now)))

pub returns-in-Ok-clause-value : goal.returns-in-Ok-clause-value
returns-in-Ok-clause-value g c =
    let f = found c.args.name.now c.args.self.now.entries c.in-Ok.at (sym c.in-Ok.ensures.place) in
    let same = ap (λ m. m.entries) c.self.view_is in
    ap (λ (e : Entry g.row.V.Denot). Some e.1) (c.index-entry.ensures ∙ ap (λ es. get_or es c.in-Ok.at c.index-entry.result.now) same) ∙ sym (f.value c.index-entry.result.now)

pub returns-in-Err-clause-value : goal.returns-in-Err-clause-value
returns-in-Err-clause-value g c = sym (missing c.args.name.now c.args.self.now.entries c.in-Err.field-0 c.in-Err.ensures.ordered (sym c.in-Err.ensures.place)).value
