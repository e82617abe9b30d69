use Rattle.std.proofs.Common.{subst}
use Rattle.doc_store.specs.Formats.{format_of, number_of}
use Rattle.doc_store.specs.declared.format.Format.{Format}
use Rattle.file_programs.specs.Shown.{Shows}
use Rattle.file_programs.specs.Upgrades.{IsUpgraded, WentTo, upgrade_reply}
use Rattle.protocol.specs.Reply.{line_of}
use Rattle.file_programs.proofs.Fine.{given}
use Rattle.file_programs.proofs.Upgrading.{went_to}
use Rattle.file_programs.proofs.programs.upgrade.upgrade_file.Goals as goal

pub returns-clause-noticed : goal.returns-clause-noticed
returns-clause-noticed g c =
    let noticed = c.in_ok-store.ensures.noticed in
    record { said = λ honest. noticed.said (c.upgrade_store-ended.ensures.honest honest); taken = noticed.taken }

pub returns-clause-upgraded : goal.returns-clause-upgraded
returns-clause-upgraded g c =
    let e = c.upgrade_store-ended.ensures in
    let ended = c.upgrade_store-ended.result in
    let opened = c.in_ok-store.store in
    let closed = c.upgrade_store-ended.new.store in
    let before = g.O.Write.contents c.args.writer.now in
    let after = g.O.Write.contents c.upgrade_store-ended.new.writer in
    record {
      opened = opened;
      went = subst (λ (f : Format). WentTo c.args.held f c.args.identity opened closed) c.numbered.ensures
          (went_to c.args.held c.numbered.result c.args.identity opened closed c.in_ok-store.ensures.opened e.any_moment e.honest e.standing);
      upgraded = λ is. subst (λ (f : Format). IsUpgraded f c.args.identity opened closed) c.numbered.ensures (given ended e.done is);
      shown = subst (λ (f : Format). Shows ended (line_of (upgrade_reply (number_of f) (number_of (format_of opened.account)))) before after) c.numbered.ensures e.shown;
    }
