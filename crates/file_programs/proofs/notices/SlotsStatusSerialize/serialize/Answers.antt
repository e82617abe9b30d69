use Rattle.std.proofs.Common.{subst, ℕ, Some, codes}
use Rattle.std.proofs.lemmas.Result.{on_ok_weaker}
use Rattle.status_lines.specs.Status.{SendsNumber}
use Rattle.status_lines.proofs.Statuses.{sends_with}
use Rattle.file_programs.specs.Notices.{members_worded}
use Rattle.file_programs.proofs.notices.SlotsStatusSerialize.serialize.Goals as goal

pub returns : goal.returns
returns g c =
    let log = g.S.Serializer.written in
    let capacity = c.in_ok-send_number.ensures in
    let documents = c.in_ok-send_number-2.ensures in
    let half = subst (λ (n : ℕ). SendsNumber (codes "half") n (log c.send_number-2.new.out) (log c.send_number-3.new.out)) c.from.ensures c.in_ok-send_number-3.ensures in
    let opens = c.in_ok-send_number-4.ensures in
    let sectors = c.in_ok-send_number-5.ensures in
    let seq = c.in_ok-send_number-6.ensures in
    let used = c.in_ok-send_number-7.ensures in
    let shown = c.args.self.now in
    on_ok_weaker c.end_map.result (λ end. (
      log c.begin_map.new.self,
      c.in_ok-begin_map.ensures,
      (
        log c.key.new.self,
        log c.bool.new.self,
        c.in_ok-key.ensures,
        c.in_ok-bool.ensures,
        (
          capacity.named,
          log c.send_number.new.out,
          capacity.key,
          capacity.value,
          (
            documents.named,
            log c.send_number-2.new.out,
            documents.key,
            documents.value,
            (
              half.named,
              log c.send_number-3.new.out,
              half.key,
              half.value,
              sends_with (Some shown.id.now) (members_worded shown.status shown.slots.now) (log c.send_number-3.new.out) (log c.send_id.new.out) (log c.end_map.new.self) c.in_ok-send_id.ensures (
                log c.key-2.new.self,
                log c.bool-2.new.self,
                c.in_ok-key-2.ensures,
                c.in_ok-bool-2.ensures,
                (
                  opens.named,
                  log c.send_number-4.new.out,
                  opens.key,
                  opens.value,
                  (
                    sectors.named,
                    log c.send_number-5.new.out,
                    sectors.key,
                    sectors.value,
                    (
                      seq.named,
                      log c.send_number-6.new.out,
                      seq.key,
                      seq.value,
                      (
                        log c.key-3.new.self,
                        log c.str.new.self,
                        c.in_ok-key-3.ensures,
                        c.in_ok-str.ensures,
                        (used.named, log c.send_number-7.new.out, used.key, used.value, end),
                      ),
                    ),
                  ),
                ),
              ),
            ),
          ),
        ),
      ),
    )) c.end_map.ensures
