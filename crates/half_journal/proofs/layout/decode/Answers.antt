use Rattle.std.proofs.Common.{◌≡◌, sym, ◌∙◌, ap}
use Rattle.std.specs.Cmp.Lexicographic.{other_text}
use Rattle.half_journal.specs.Layout.{sector_of}
use Rattle.half_journal.specs.declared.commit_sector.Commit.{Commit}
use Rattle.half_journal.proofs.Fields.{said_in, said_is}
use Rattle.half_journal.proofs.layout.decode.Goals as goal

pub returns-else-eq-clause-none : goal.returns-else-eq-clause-none
returns-else-eq-clause-none c = λ commit fits is.
    let said : Commit = record { format = c.u32_at.result; half = c.u32_at-2.result; length = c.u64_at.result; seq = c.u64_at-2.result; opens = c.u64_at-3.result; sectors = c.u64_at-4.result } in
    let read : said ≡ said_in c.args.sector.now = λ i. record {
      format = c.u32_at.ensures i;
      half = c.u32_at-2.ensures i;
      length = c.u64_at.ensures i;
      seq = c.u64_at-2.ensures i;
      opens = c.u64_at-3.ensures i;
      sectors = c.u64_at-4.ensures i;
    } in
    let same : commit ≡ said = sym (read ∙ ap said_in is ∙ said_is commit fits) in
    other_text c.args.sector.now c.encode.result (sym c.if-eq.false ∙ c.eq.ensures) (is ∙ ap sector_of same ∙ sym c.encode.ensures)
