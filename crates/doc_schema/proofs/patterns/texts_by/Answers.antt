use Rattle.std.proofs.Common.{◌≡◌, refl, sym, ap, ◌∙◌, string_bytes}
use Rattle.doc_tree.specs.TreeView.{view, members_view}
use Rattle.schema_rules.specs.Keywords.{keyword_of}
use Rattle.schema_rules.specs.Profiles.{offered}
use Rattle.doc_schema.proofs.Collecting.{added, by_left}
use Rattle.doc_schema.proofs.patterns.texts_by.Goals as goal

pub loop-name-preserved : goal.loop-name-preserved
loop-name-preserved c =
    let keyword : c.offered-keyword.result ≡ offered c.args.profile (keyword_of (string_bytes c.in-Some.name.now)) = c.offered-keyword.ensures ∙ ap (offered c.args.profile) (c.keyword_named.ensures ∙ ap keyword_of c.as_str.ensures.value) in
    added _ _ _ _ _ _ c.in_ok-found.ensures (by_left c.args.profile _ _ (string_bytes c.in-Some.name.now) (view c.in-Some.value.now) c.offered-keyword.result keyword (ap members_view c.in-Some.ensures.steps)) c.loop-name.invariant
