use Rattle.std.proofs.Common.{ℕ, Option, OnOk, refl, subst, sym, option_map}
use Rattle.status_lines.specs.Status.{SendsId}
use Rattle.status_lines.proofs.status.send_shown.Goals as goal

pub returns-in-Some : goal.returns-in-Some
returns-in-Some g c =
    let log = g.S.Serializer.written in
    subst (λ (o : Option ℕ). OnOk c.send_id.result (SendsId (option_map (λ (n : ℕ). c.args.id.now) o) (log c.args.out.now) (log c.send_id.new.out))) (sym c.in-Some.is) c.send_id.ensures

pub returns-in-None : goal.returns-in-None
returns-in-None g c =
    let log = g.S.Serializer.written in
    subst (λ (o : Option ℕ). SendsId (option_map (λ (n : ℕ). c.args.id.now) o) (log c.args.out.now) (log c.args.out.now)) (sym c.in-None.is) refl
