use Rattle.std.proofs.Common.{◌∙◌}
use Rattle.path_select.proofs.Trails.{added_goes, added_seen}
use Rattle.path_select.proofs.paths.with_child.Goals as goal

pub returns-clause-on : goal.returns-clause-on
returns-clause-on c = added_goes c.args.walk (record { trail = c.push.new.self; listed = c.push-2.new.self }) _ _ c.in_ok-push.ensures.items c.in_ok-push-2.ensures.items (c.len.ensures ∙ c.push.new.self.ok.0) c.requires.stand

pub returns-clause-spots : goal.returns-clause-spots
returns-clause-spots c = added_seen c.args.walk (record { trail = c.push.new.self; listed = c.push-2.new.self }) _ _ c.in_ok-push.ensures.items c.in_ok-push-2.ensures.items (c.len.ensures ∙ c.push.new.self.ok.0) c.requires.stand
