use Rattle.std.proofs.Common.{subst}
use Rattle.doc_schema.specs.Faults.{IsFaultless}
use Rattle.doc_tree.specs.Sound.{IsSound}
use Rattle.doc_tree.specs.TreeView.{view}
use Rattle.doc_changes.proofs.Schemas.{as_refused, unrefused}
use Rattle.doc_changes.proofs.rules.read_schema.Goals as goal

pub returns-in_err-read_in : goal.returns-in_err-read_in
returns-in_err-read_in c =
    as_refused c.args.profile (c.first_faults_are_found.ensures.fault c.args.profile) c.from_residual.result c.in_err-read_in.field-0.0 (view c.args.source.now) _ c.in_err-read_in.ensures.err c.from_residual.ensures.1

pub returns : goal.returns
returns c =
    let same = c.in_ok-read_in.ensures.ok.0 in
    let faultless = subst (IsFaultless c.args.profile) same c.in_ok-read_in.ensures.ok.1 in
    (same, (unrefused c.args.profile (c.first_faults_are_found.ensures.none c.args.profile) (view c.args.source.now) faultless, faultless, subst IsSound same c.in_ok-read_in.ensures.sound))
