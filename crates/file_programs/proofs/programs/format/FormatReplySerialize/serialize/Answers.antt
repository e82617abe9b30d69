use Rattle.std.proofs.lemmas.Result.{on_ok_weaker}
use Rattle.file_programs.proofs.programs.format.FormatReplySerialize.serialize.Goals as goal

pub returns : goal.returns
returns g c =
    let log = g.S.Serializer.written in
    on_ok_weaker c.end_map.result (λ end. (
      log c.begin_map.new.self,
      c.in_ok-begin_map.ensures,
      (
        log c.key.new.self,
        log c.u64.new.self,
        c.in_ok-key.ensures,
        c.in_ok-u64.ensures,
        (
          log c.key-2.new.self,
          log c.bool.new.self,
          c.in_ok-key-2.ensures,
          c.in_ok-bool.ensures,
          (log c.key-3.new.self, log c.u64-2.new.self, c.in_ok-key-3.ensures, c.in_ok-u64-2.ensures, end),
        ),
      ),
    )) c.end_map.ensures
