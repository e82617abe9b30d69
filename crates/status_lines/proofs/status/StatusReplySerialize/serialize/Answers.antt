use Rattle.std.proofs.Common.{◌∙◌, subst, ℕ, Some, codes}
use Rattle.serde.specs.Event.{Logs, map_begins}
use Rattle.std.proofs.lemmas.Result.{on_ok_weaker}
use Rattle.status_lines.specs.Status.{SendsNumber, members_after, shown_id}
use Rattle.status_lines.proofs.Statuses.{members_are, sends_with}
use Rattle.status_lines.proofs.status.StatusReplySerialize.serialize.Goals as goal

pub returns : goal.returns
returns g c =
    let log = g.S.Serializer.written in
    let capacity = c.in_ok-send_number.ensures in
    let documents = c.in_ok-send_number-2.ensures in
    let half = subst (λ (n : ℕ). SendsNumber (codes "half") n (log c.send_number-2.new.out) (log c.send_number-3.new.out)) c.from.ensures c.in_ok-send_number-3.ensures in
    let opens = c.in_ok-send_number-4.ensures in
    let sectors = c.in_ok-send_number-5.ensures in
    let seq = c.in_ok-send_number-6.ensures in
    let used = c.in_ok-send_number-7.ensures in
    let status = c.args.self.now.status.now in
    let id = shown_id status c.args.self.now.id.now in
    on_ok_weaker c.end_map.result (λ end. (
      log c.begin_map.new.self,
      subst (λ (n : ℕ). Logs (log c.args.out.now) (log c.begin_map.new.self) (map_begins (Some n))) (c.members_of.ensures ∙ members_are status status.identity c.args.self.now.id.now) c.in_ok-begin_map.ensures,
      (
        log c.key.new.self,
        log c.bool.new.self,
        c.in_ok-key.ensures,
        c.in_ok-bool.ensures,
        (
          capacity.named,
          log c.send_number.new.out,
          capacity.key,
          capacity.value,
          (
            documents.named,
            log c.send_number-2.new.out,
            documents.key,
            documents.value,
            (
              half.named,
              log c.send_number-3.new.out,
              half.key,
              half.value,
              sends_with id (members_after status) (log c.send_number-3.new.out) (log c.send_shown.new.out) (log c.end_map.new.self) c.in_ok-send_shown.ensures (
                log c.key-2.new.self,
                log c.bool-2.new.self,
                c.in_ok-key-2.ensures,
                c.in_ok-bool-2.ensures,
                (
                  opens.named,
                  log c.send_number-4.new.out,
                  opens.key,
                  opens.value,
                  (
                    sectors.named,
                    log c.send_number-5.new.out,
                    sectors.key,
                    sectors.value,
                    (
                      seq.named,
                      log c.send_number-6.new.out,
                      seq.key,
                      seq.value,
                      (used.named, log c.send_number-7.new.out, used.key, used.value, end),
                    ),
                  ),
                ),
              ),
            ),
          ),
        ),
      ),
    )) c.end_map.ensures
