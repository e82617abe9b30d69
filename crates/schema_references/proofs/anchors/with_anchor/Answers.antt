use Rattle.std.proofs.Common.{◌++◌, map, option_map, sym, ap, ◌∙◌}
use Rattle.std.proofs.lemmas.Result.{IfOk-weaker}
use Rattle.std.specs.Option.{option_to_list}
use Rattle.schema_references.proofs.Gathering.{nothing_added}
use Rattle.schema_references.proofs.anchors.with_anchor.Goals as goal

pub returns-in-Some : goal.returns-in-Some
returns-in-Some c =
    IfOk-weaker c.with_text.result _ _
    (λ v h. h ∙ ap (λ o. map (λ s. s.now) c.args.found.items ++ option_to_list o) (sym (ap (option_map (λ s. s.now)) c.in-Some.is) ∙ c.anchor_of.ensures))
    c.with_text.ensures

pub returns-in-None : goal.returns-in-None
returns-in-None c =
    nothing_added (map (λ s. s.now) c.args.found.items) ∙ ap (λ o. map (λ s. s.now) c.args.found.items ++ option_to_list o) (sym (ap (option_map (λ s. s.now)) c.in-None.is) ∙ c.anchor_of.ensures)
