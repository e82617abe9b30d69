use Rattle.std.proofs.Common.{rules, ◌≢◌}
use Rattle.store_commits.proofs.Replays.{patch_damaged, patch_taken}
use Rattle.store_commits.proofs.frame_replay.take_first.Goals as goal

pub returns-in-Some-clause-taken : goal.returns-in-Some-clause-taken
returns-in-Some-clause-taken c =
    let new : c.args.version ≢ 1 = search rules in
    patch_taken c.args.version c.args.seq c.args.bytes.now c.args.machine c.in-Some.frame c.in-Some.changes c.take_patch.result c.frames_differ.ensures.format_2
    new c.in-Some.ensures c.take_patch.ensures

pub returns-in-Some-clause-damaged : goal.returns-in-Some-clause-damaged
returns-in-Some-clause-damaged c =
    let new : c.args.version ≢ 1 = search rules in
    patch_damaged c.args.version c.args.seq c.args.bytes.now c.args.machine c.in-Some.frame c.in-Some.changes c.take_patch.result c.frames_differ.ensures.format_2
    new c.in-Some.ensures c.take_patch.ensures
