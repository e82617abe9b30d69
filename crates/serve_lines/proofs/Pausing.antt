-- Between two turns each line that a line feed ended is answered, and its reply is written, but for the changes that wait.
use Rattle.std.proofs.Common.{◌≡◌, ℕ, List, [], Option}
use Rattle.sector_device.specs.Disk.{Disk}
use Rattle.recorded_store.specs.Recorded.{RecordedView}
use Rattle.protocol.specs.Lines.{answered, ended}
use Rattle.protocol.specs.Reply.{reply_lines}
use Rattle.serve_lines.specs.Progress.{waiting_in, SoFar}
use Rattle.serve_lines.specs.declared.options.Options.{Options}
use Rattle.serve_lines.specs.Serve.{Pauses}
use Rattle.serve_lines.specs.declared.progress.Progress.{Progress}
use Rattle.serve_lines.proofs.Hearing.{settles_heard}
use Rattle.serve_lines.proofs.Telling.{tells_all}

pub pauses : {D : Type 0} (disk : D → Disk) (options : Options) (start : RecordedView D) (bytes : List ℕ) (before : Option (List ℕ)) (now : RecordedView D) (progress : Progress) (after : Option (List ℕ)) → progress.outbox.bytes.items ≡ []
    → progress.session.ready.items ≡ [] → SoFar disk options start bytes before now progress after → Pauses disk options start (answered (ended bytes)) before now after
pauses disk options start bytes before now progress after none taken s =
    let settles = settles_heard disk options start bytes now progress.session s.replies taken s.hears in
    record {
      done = settles.done;
      waiting = settles.waiting;
      parts = settles.parts;
      writes = record { replies = s.replies; session = settles.session; wrote = tells_all before after progress.outbox (reply_lines s.replies) none s.told.tells };
      whole = settles.whole;
      changes = waiting_in progress.session;
      asked = settles.asked;
      fewer = settles.fewer;
    }
