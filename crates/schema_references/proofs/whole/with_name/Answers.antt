use Rattle.std.proofs.Common.{true, cond, ap, bytes_eq, ◌∙◌, string_bytes}
use Rattle.std.proofs.lemmas.Map.Text.{btree_set_updates_text}
use Rattle.std.specs.BTreeSet.{contains_text}
use Rattle.schema_references.proofs.whole.with_name.Goals as goal

pub returns-clause-kept : goal.returns-clause-kept
returns-clause-kept c = λ s.
    btree_set_updates_text (string_bytes c.in_ok-text.text) c.args.before.names c.insert.new.self true c.in_ok-is_new.ensures.updates s
    ∙ ap (λ k. cond (bytes_eq k s) true (contains_text c.args.before.names s)) c.in_ok-text.ensures.ok
