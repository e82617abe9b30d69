use Rattle.std.proofs.Common.{Some, cond, ap, bytes_eq, ◌∙◌, string_bytes}
use Rattle.std.proofs.lemmas.Map.Text.{btree_map_updates_text}
use Rattle.schema_levels.specs.Below.{number_named}
use Rattle.schema_nodes.proofs.anchors.with_anchor.Goals as goal

pub returns : goal.returns
returns c = λ s.
    btree_map_updates_text (string_bytes c.in_ok-name.name) c.args.before c.insert.new.self (Some c.args.number) c.in_ok-insert.ensures.updates s
    ∙ ap (λ k. cond (bytes_eq k s) (Some c.args.number) (number_named s c.args.before.entries)) c.in_ok-name.ensures.ok
