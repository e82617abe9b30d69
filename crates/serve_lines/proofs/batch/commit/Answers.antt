use Rattle.std.proofs.Common.{◌≡◌, ◌<◌, ℕ, List, Option, String, Global, map, length, replicate, arith, ap, sym, refl, inl, inr, subst, []}
use Rattle.std.proofs.lemmas.List.{length-map, append-nil}
use Rattle.doc_machine.specs.Transaction.{transaction_of}
use Rattle.doc_changes.specs.Refusals.{plain}
use Rattle.recorded_store.specs.Recorded.{RecordedView}
use Rattle.refusals.specs.declared.numbers.TheConstants.{MEMORY}
use Rattle.protocol.specs.Reply.{refusal_reply}
use Rattle.protocol.specs.declared.reply.Reply.TheVariants.{Refused}
use Rattle.store_commits.specs.declared.event.Reply.{Reply as StoreReply}
use Rattle.store_commits.specs.Account.{StoreView}
use Rattle.store_commits.proofs.Modelled.{both_models}
use Rattle.serve_lines.specs.LineReplies.{AllSay, BatchIsAnswered, FollowsBatch, key_in}
use Rattle.serve_lines.specs.Session.{AreTold, key_of}
use Rattle.serve_lines.proofs.Batching.{batch_behind, batch_refused, made_each, none_long}
use Rattle.serve_lines.proofs.Saying.{says_refused}
use Rattle.serve_lines.proofs.batch.commit.Goals as goal

pub returns-then-many-eq0-clause-batch : goal.returns-then-many-eq0-clause-batch
returns-then-many-eq0-clause-batch g c =
    let none = none_long c.args.waiting.now.items (omega (arith, c.len-many.ensures, c.if-many-eq0.true)) in
    ([], [], sym (append-nil c.args.ready.now.items), tt, inl (ap (map transaction_of) none, refl, refl))

pub returns-in-Ok-clause-batch : goal.returns-in-Ok-clause-batch
returns-in-Ok-clause-batch g c =
    let disk = g.D.SectorDevice.disk in
    let cs = map transaction_of c.args.waiting.now.items in
    let mid = c.change_all.new.store in
    let said = c.in-Ok.said.items in
    let b = c.say.ensures.said in
    let some : 0 < length cs = omega (arith, length-map c.args.waiting.now.items transaction_of, c.len-many.ensures, c.if-many-eq0.false) in
    let told = subst (λ (ks : List (Option (List ℕ))). AreTold mid.account.state ks said b.1) c.in-Ok.ensures.keys
    (subst (λ (l : List (Option (String Global))). AreTold mid.account.state (map key_in l) said b.1) c.as_slice-in-Ok.ensures.value
    (subst (λ (l : List StoreReply). AreTold mid.account.state (map key_in c.as_slice-in-Ok.result.now) l b.1) c.as_slice.ensures.value
    (subst (λ (v : StoreView g.row.D.Denot). AreTold v.account.state (map key_in c.as_slice-in-Ok.result.now) c.as_slice.result.now b.1) c.store.ensures b.4))) in
    let recorded = c.in-Ok.ensures.recorded in
    let follows = subst (λ (l : List StoreReply). FollowsBatch disk c.args.options.now l mid c.follow.new.store) c.as_slice-in-Ok-2.ensures.value c.follow.ensures in
    (b.0, b.1, b.2, b.3, inr (some, batch_behind disk c.args.options.now c.args.store.now mid cs said b.1 c.in-Ok.ensures.made recorded told (both_models disk g.met.D.SectorDevice.coherent g.met.D.SectorDevice.torn_coherent) c.follow.new.store follows))

pub returns-in-Err-clause-batch : goal.returns-in-Err-clause-batch
returns-in-Err-clause-batch g c =
    let cs = map transaction_of c.args.waiting.now.items in
    let docs = map (λ _. refusal_reply (plain MEMORY)) cs in
    let many : length cs ≡ c.len-many.result = omega (arith, length-map c.args.waiting.now.items transaction_of, c.len-many.ensures) in
    let some : 0 < length cs = omega (arith, length-map c.args.waiting.now.items transaction_of, c.len-many.ensures, c.if-many-eq0.false) in (
      replicate c.len-many.result (Refused (plain MEMORY)),
      docs,
      c.refuse.ensures.refused,
      subst (λ (n : ℕ). AllSay (replicate n (Refused (plain MEMORY))) docs) many (says_refused (plain MEMORY) cs),
      inr (
        some,
        subst (λ (v : RecordedView g.row.D.Denot). BatchIsAnswered g.D.SectorDevice.disk c.args.options.now c.args.store.now cs docs v) (sym c.in-Err.ensures.err)
            (batch_refused g.D.SectorDevice.disk c.args.options.now c.args.store.now cs),
      ),
    )

pub say-requires-clause-each : goal.say-requires-clause-each
say-requires-clause-each g c =
    let cs = map transaction_of c.args.waiting.now.items in
    let said = c.in-Ok.said.items in
    let keys = c.in-Ok.keys.items in
    let each = made_each g.D.SectorDevice.disk c.args.store.now c.change_all.new.store cs said c.in-Ok.ensures.made in
    let same = ap length c.in-Ok.ensures.keys in
    omega (arith, each, same, length-map keys key_in, length-map cs key_of, ap length c.as_slice.ensures.value, ap length c.as_slice-in-Ok.ensures.value)

pub say-requires-clause-room : goal.say-requires-clause-room
say-requires-clause-room g c =
    let cs = map transaction_of c.args.waiting.now.items in
    let each = made_each g.D.SectorDevice.disk c.args.store.now c.change_all.new.store cs c.in-Ok.said.items c.in-Ok.ensures.made in
    omega (arith, each, length-map c.args.waiting.now.items transaction_of, ap length c.as_slice.ensures.value, c.requires.room, c.args.waiting.now.ok)

pub returns-in-Ok-clause-len : goal.returns-in-Ok-clause-len
returns-in-Ok-clause-len g c =
    let cs = map transaction_of c.args.waiting.now.items in
    let each = made_each g.D.SectorDevice.disk c.args.store.now c.change_all.new.store cs c.in-Ok.said.items c.in-Ok.ensures.made in
    omega (arith, each, length-map c.args.waiting.now.items transaction_of, ap length c.as_slice.ensures.value, c.say.ensures.len, c.args.waiting.now.ok)
