use Rattle.std.proofs.Common.{IfErr, IfOk, ap, refl, subst, sym}
use Rattle.doc_store.specs.declared.opening.Strictness.{Strictness}
use Rattle.command_line.specs.Call.{asked_of}
use Rattle.command_line.specs.declared.call.Call.{Call}
use Rattle.jpstore.specs.Calls.{Does}
use Rattle.file_programs.specs.Files.{IsNoticedIn, IsUnopenedBy}
use Rattle.file_programs.specs.Reads.{IsDumpedIn, IsUnlookedIn}
use Rattle.jpstore.specs.declared.kept.Kept.TheVariants.{Copied, Dumped, InMemory, Served, Upgraded}
use Rattle.jpstore.proofs.Served.{copied, dumped, in_memory, on_err, serving, upgraded}
use Rattle.jpstore.proofs.perform.perform_call.Goals as goal

pub returns-in-Serve-clause-does : goal.returns-in-Serve-clause-does
returns-in-Serve-clause-does g c =
    let left = g.I.Read.remaining c.args.reader.now in
    let left_new = g.I.Read.remaining c.serve_file.new.reader in
    let before = g.O.Write.contents c.args.writer.now in
    let after = g.O.Write.contents c.serve_file.new.writer in
    let asked = c.in-Serve in
    let e = c.serve_file.ensures in
    subst (λ (call : Call). Does c.args.held (asked_of call) (Served c.serve_file.result) left left_new before after) (sym asked.is)
    (serving c.args.held asked.batch asked.pump asked.history asked.strict c.serve_file.result left left_new before after e.served e.works e.broke e.closed e.kept
    (subst (λ (s : Strictness). IfOk c.serve_file.result (λ closed. IsNoticedIn s c.args.held closed.store closed.notice)) c.strictness_of-strictness.ensures e.noticed)
    (subst (λ (s : Strictness). IfErr c.serve_file.result (IsUnopenedBy s c.args.held)) c.strictness_of-strictness.ensures e.refused)
    (on_err c.serve_file.result (ap g.I.Read.remaining) e.unread) (on_err c.serve_file.result (ap g.O.Write.contents) e.unwritten))

pub returns-in-Mem-clause-does : goal.returns-in-Mem-clause-does
returns-in-Mem-clause-does g c =
    let left = g.I.Read.remaining c.args.reader.now in
    let left_new = g.I.Read.remaining c.serve_memory.new.reader in
    let before = g.O.Write.contents c.args.writer.now in
    let after = g.O.Write.contents c.serve_memory.new.writer in
    let asked = c.in-Mem in
    let e = c.serve_memory.ensures in
    subst (λ (call : Call). Does c.args.held (asked_of call) (InMemory c.serve_memory.result) left left_new before after) (sym asked.is)
    (in_memory asked.sectors asked.format asked.history c.serve_memory.result left left_new before after e.served
    (on_err c.serve_memory.result (ap g.I.Read.remaining) e.unread) (on_err c.serve_memory.result (ap g.O.Write.contents) e.unwritten))

pub returns-in-Copy-clause-does : goal.returns-in-Copy-clause-does
returns-in-Copy-clause-does g c =
    let left = g.I.Read.remaining c.args.reader.now in
    let before = g.O.Write.contents c.args.writer.now in
    let after = g.O.Write.contents c.copy_file.new.writer in
    let asked = c.in-Copy in
    let e = c.copy_file.ensures in
    subst (λ (call : Call). Does c.args.held (asked_of call) (Copied c.copy_file.result) left left before after) (sym asked.is) (
      copied c.args.held asked.sectors asked.format asked.identity asked.strict c.copy_file.result before after e.opened
          (subst (λ (s : Strictness). IfOk c.copy_file.result (λ ended. IsNoticedIn s c.args.held ended.store ended.notice)) c.strictness_of-strictness-in-Copy.ensures e.noticed) e.copied e.shown
          (subst (λ (s : Strictness). IfErr c.copy_file.result (IsUnopenedBy s c.args.held)) c.strictness_of-strictness-in-Copy.ensures e.refused)
          (on_err c.copy_file.result (ap g.O.Write.contents) e.unwritten),
      refl,
    )

pub returns-in-Upgrade-clause-does : goal.returns-in-Upgrade-clause-does
returns-in-Upgrade-clause-does g c =
    let left = g.I.Read.remaining c.args.reader.now in
    let before = g.O.Write.contents c.args.writer.now in
    let after = g.O.Write.contents c.upgrade_file.new.writer in
    let asked = c.in-Upgrade in
    let e = c.upgrade_file.ensures in
    subst (λ (call : Call). Does c.args.held (asked_of call) (Upgraded c.upgrade_file.result) left left before after) (sym asked.is) (
      upgraded c.args.held asked.format asked.identity asked.strict c.upgrade_file.result before after e.upgraded
          (subst (λ (s : Strictness). IfOk c.upgrade_file.result (λ closed. IsNoticedIn s c.args.held closed.store closed.notice)) c.strictness_of-strictness-in-Upgrade.ensures e.noticed)
          (subst (λ (s : Strictness). IfErr c.upgrade_file.result (IsUnopenedBy s c.args.held)) c.strictness_of-strictness-in-Upgrade.ensures e.refused)
          (on_err c.upgrade_file.result (ap g.O.Write.contents) e.unwritten),
      refl,
    )

pub returns-in-Dump-clause-does : goal.returns-in-Dump-clause-does
returns-in-Dump-clause-does g c =
    let left = g.I.Read.remaining c.args.reader.now in
    let before = g.O.Write.contents c.args.writer.now in
    let after = g.O.Write.contents c.dump_file.new.writer in
    let asked = c.in-Dump in
    let e = c.dump_file.ensures in
    subst (λ (call : Call). Does c.args.held (asked_of call) (Dumped c.dump_file.result) left left before after) (sym asked.is) (
      dumped c.args.held asked.strict c.dump_file.result before after
          (subst (λ (s : Strictness). IfOk c.dump_file.result (λ d. IsDumpedIn s c.args.held d before after)) c.strictness_of-strictness-in-Dump.ensures e.dumped)
          (subst (λ (s : Strictness). IfErr c.dump_file.result (IsUnlookedIn s c.args.held)) c.strictness_of-strictness-in-Dump.ensures e.refused)
          (on_err c.dump_file.result (ap g.O.Write.contents) e.unwritten),
      refl,
    )
