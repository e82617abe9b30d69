use Rattle.std.proofs.Common.{◌≡◌, ◌++◌, ◌∷◌, [], ap, arith, vec_len, vec_capacity}
use Rattle.store_commits.proofs.Modelled.{both_models}
use Rattle.doc_store.proofs.Telling.{told_more}
use Rattle.store_commits.specs.Events.{event_of}
use Rattle.doc_store.proofs.life.Part.ask.Goals as goal

pub returns-clause-told : goal.returns-clause-told
returns-clause-told g c = λ start events told.
    let old = c.args.self.now in
    let r = c.answer-reply.result in
    let grows = c.answer-reply.ensures.grows in
    let items = rw c.unwrap.ensures at c.push.ensures.items in
    let replies : c.push.new.self.items ≡ old.replies.items ++ r ∷ [] = rw items (ap (λ v. v.items ++ r ∷ []) grows.replies) in
    told_more g.D.SectorDevice.disk (both_models g.D.SectorDevice.disk g.met.D.SectorDevice.coherent g.met.D.SectorDevice.torn_coherent) start c.args.store.now c.answer-reply.new.store events (event_of c.args.event) r old
    (record c.answer-reply.new.self { replies = c.push.new.self }) told c.answer-reply.ensures.ran replies grows.accepted grows.acknowledged

pub returns-clause-room : goal.returns-clause-room
returns-clause-room g c = λ n room.
    let grows = c.answer-reply.ensures.grows in
    let len = rw c.unwrap.ensures at c.push.ensures.len in
    let same_len : vec_len c.answer-reply.new.self.replies ≡ vec_len c.args.self.now.replies = ap (λ v. vec_len v) grows.replies in
    let same_cap : vec_capacity c.answer-reply.new.self.replies ≡ vec_capacity c.args.self.now.replies = ap (λ v. vec_capacity v) grows.replies in
    let more = grows.room n room in
    record { replies = omega (arith, len, same_len, same_cap, room.replies, c.push.ensures.capacity); accepted = more.accepted; acknowledged = more.acknowledged }
