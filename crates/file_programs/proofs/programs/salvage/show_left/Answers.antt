use Rattle.std.proofs.Common.{IfOk, IfSome, subst}
use Rattle.sector_device.specs.declared.history.History.{History}
use Rattle.sector_device.specs.History.{seen_after}
use Rattle.damaged_files.specs.Salvaged.{IsSalvagedOf}
use Rattle.damaged_files.specs.Frames.{ShowsParts}
use Rattle.file_programs.proofs.programs.salvage.show_left.Goals as goal

pub returns-then-frames : goal.returns-then-frames
returns-then-frames g c = λ held was. (
  c.if-frames.true,
  λ honest. subst (λ (p : History). IfOk c.show_frames.result (λ found. ShowsParts (seen_after p) found (g.O.Write.contents c.args.writer.now) (g.O.Write.contents c.show_frames.new.writer))) was (c.show_frames.ensures.shown honest),
)

pub returns-else-frames : goal.returns-else-frames
returns-else-frames g c = λ held was. (
  c.if-frames.false,
  record {
    good = c.show_salvaged.ensures.good;
    made = λ honest. subst (λ (p : History). IfOk c.show_salvaged.result (λ salvaged. IfSome salvaged (IsSalvagedOf (seen_after p)))) was (c.show_salvaged.ensures.made honest);
    condition = c.show_salvaged.ensures.condition;
    shown = c.show_salvaged.ensures.shown;
  },
)
