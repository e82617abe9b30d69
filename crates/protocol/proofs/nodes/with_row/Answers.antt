use Rattle.std.proofs.Common.{◌++◌, ◌∙◌, ap, ap₂, append_assoc, nat_lt}
use Rattle.serde_json.specs.Written.{comma_if}
use Rattle.doc_tree.specs.Text.{text_of}
use Rattle.protocol.specs.Reply.{node_object}
use Rattle.protocol.proofs.nodes.with_row.Goals as goal

pub returns : goal.returns
returns c =
    let row = c.in_ok-row.ensures in
    let line = c.args.line.items in
    let comma = comma_if (nat_lt 0 c.args.number) in (
      row.0,
      row.1,
      c.in_ok-longer.ensures
          ∙ ap₂ (λ a b. a ++ b) (c.in_ok-parted.ensures ∙ ap (λ t. line ++ t) (c.as_bytes.ensures.value ∙ c.comma.ensures)) (c.as_slice.ensures.value ∙ row.2)
          ∙ append_assoc line comma (text_of (node_object row.0)),
    )
