use Rattle.std.proofs.Common.{◌≡◌, ◌∙◌, ap, inl, subst, sym}
use Rattle.change_history.specs.History.{History}
use Rattle.protocol.specs.Lines.{lines_of}
use Rattle.told_transactions.specs.Told.{none_from}
use Rattle.sector_device.specs.Memory.{mem_disk}
use Rattle.serve_lines.specs.Serve.{Serves}
use Rattle.serve_lines.specs.declared.options.Options.{Options}
use Rattle.jpstore.specs.Files.{options_of}
use Rattle.jpstore.specs.Memory.{IsServedInMemory}
use Rattle.jpstore.proofs.programs.mem.serve_memory.Goals as goal

pub returns-clause-served : goal.returns-clause-served
returns-clause-served g c = λ is.
    let sectors = c.args.sectors in
    let version = c.args.format in
    let limit = c.args.history in
    let first = c.new-recorded in
    let served = c.serve_store-ended in
    let s = served.ensures.session (inl is) in
    let left = g.I.Read.remaining c.args.reader.now in
    let left_new = g.I.Read.remaining served.new.reader in
    let before = g.O.Write.contents c.args.writer.now in
    let after = g.O.Write.contents served.new.writer in
    let none : first.result.history ≡ none_from limit 0 = first.ensures.history ∙ ap (λ a. none_from limit a.state.seq) c.in_ok-store.ensures in
    let session = subst (λ (o : Options). Serves mem_disk o first.result (lines_of s.0) before s.3.0 after s.3.1) c.options_of.ensures s.3.2 in
    let all : IsServedInMemory sectors version limit left left_new before after served.new.store.store = record {
      opened = first.result.store;
      is_new = ap (λ v. v.account) first.ensures.store ∙ c.in_ok-store.ensures;
      works = served.ensures.works is;
      read = s.0;
      consumed = s.1;
      at_end = s.2;
      count = s.3.1;
      mid = s.3.0;
      served = subst (λ (h : History). Serves mem_disk (options_of 1 0) (record { store = first.result.store; history = h }) (lines_of s.0) before s.3.0 after s.3.1) none session;
      sealed = s.3.3;
    } in
    subst (IsServedInMemory sectors version limit left left_new before after) (sym c.into_store.ensures) all
