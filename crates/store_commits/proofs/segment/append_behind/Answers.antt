use Rattle.std.proofs.Common.{inl}
use Rattle.store_commits.proofs.segment.append_behind.Goals as goal

pub returns-clause-behind : goal.returns-clause-behind
returns-clause-behind g c =
    let first = c.in_default.ensures in
    inl (
      c.commit_snapshot.new.journal,
      record { outcome = first.ok.0; any_moment = first.any_moment; kept = first.kept; honest = first.honest },
      c.append.ensures.appended,
    )
