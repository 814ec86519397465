use Rattle.std.proofs.Common.{◌≡◌, refl, true, false}
use Rattle.plan_cut.specs.Standing.{beat_of}
use Rattle.plan_cut.specs.Versions.{asks}
use Rattle.plan_cut.proofs.StandingLemmas.{stands_now, stands_stay, cuts_on}
use Rattle.plan_cut.proofs.cutter.Cutter.step.Goals as goal

pub returns-then-asks-clause-stands : goal.returns-then-asks-clause-stands
returns-then-asks-clause-stands g c = λ course m at is.
    let y : asks c.args.changed (beat_of c.args.command.now) c.args.differs c.count.new.self ≡ true = cc in
    let h = stands_now c.count.new.self course m _ _ _ y (c.count.ensures.numbers course m at is) is in
    rw (← c.self.view_is) at h

pub returns-then-asks-clause-cuts : goal.returns-then-asks-clause-cuts
returns-then-asks-clause-cuts g c = λ course m at is same.
    let e = cuts_on course m _ _ _ _ (c.count.ensures.numbers course m at is) is same in
    let y : asks c.args.changed (beat_of c.args.command.now) c.args.differs c.count.new.self ≡ true = cc in
    rw (e, y) refl

pub returns-else-asks-clause-stands : goal.returns-else-asks-clause-stands
returns-else-asks-clause-stands g c = λ course m at is.
    let y : asks c.args.changed (beat_of c.args.command.now) c.args.differs c.count.new.self ≡ false = cc in
    stands_stay c.count.new.self course m _ _ _ y (c.count.ensures.numbers course m at is) is

pub returns-else-asks-clause-cuts : goal.returns-else-asks-clause-cuts
returns-else-asks-clause-cuts g c = λ course m at is same.
    let e = cuts_on course m _ _ _ _ (c.count.ensures.numbers course m at is) is same in
    let y : asks c.args.changed (beat_of c.args.command.now) c.args.differs c.count.new.self ≡ false = cc in
    rw (e, y) refl
