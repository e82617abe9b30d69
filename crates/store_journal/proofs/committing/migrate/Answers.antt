use Rattle.std.proofs.Common.{◌≡◌, ◌+◌, ◌-◌, [], ◌++◌, refl, sym, subst, arith}
use Rattle.std.proofs.lemmas.List.{append-nil}
use Rattle.half_journal.specs.States.{one_more}
use Rattle.store_journal.specs.Carries.{half_of, migrated}
use Rattle.store_journal.specs.Held.{IsFormed, IsOf}
use Rattle.store_journal.specs.declared.held.Held.{Held}
use Rattle.store_journal.proofs.Halves.{half_tried, knows_by}
use Rattle.store_journal.proofs.committing.migrate.Goals as goal

pub returns-clause-tried : goal.returns-clause-tried
returns-clause-tried g c = λ state honest is.
    let old = g.D.SectorDevice.disk c.args.device.now in
    let known = c.in-InHalf.known in
    let now = subst (λ (h : Held). IsOf old h state) c.in-InHalf.is is in
    let formed = subst (IsFormed old.sectors) c.in-InHalf.is c.requires.formed in
    let seq_is : state.seq ≡ state.seq + 0 = omega arith in
    let next_is : half_of (migrated state c.args.target.now) ≡ record { version = 2; half = 1 - state.half; bytes = c.args.target.now ++ []; seq = state.seq + 0; opens = one_more state.opens } =
    λ i. record { version = 2; half = 1 - state.half; bytes = sym (append-nil c.args.target.now) i; seq = seq_is i; opens = one_more state.opens } in
    half_tried old (g.D.SectorDevice.disk c.commit.new.device) known c.commit.new.known state (migrated state c.args.target.now) _ c.commit.result formed.size now.knows now.plain refl now.identity_is now.identity_is
    (c.commit.ensures.tried (half_of state) honest now.knows now.carried tt) next_is (knows_by c.commit.new.known c.commit.result next_is (c.commit.ensures.knows (half_of state) now.knows)) c.commit.ensures.stays
