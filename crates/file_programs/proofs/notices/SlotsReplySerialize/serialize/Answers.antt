use Rattle.std.proofs.lemmas.Result.{on_ok_weaker}
use Rattle.file_programs.proofs.notices.SlotsReplySerialize.serialize.Goals as goal

pub returns : goal.returns
returns g c =
    let log = g.S.Serializer.written in
    on_ok_weaker c.end_map.result (λ end. (log c.begin_map.new.self, c.in_ok-begin_map.ensures, (log c.key.new.self, log c.str.new.self, c.in_ok-key.ensures, c.in_ok-str.ensures, end))) c.end_map.ensures
