use Rattle.std.proofs.Common.{◌≡◌, ℕ, ◌<◌, ◌≤◌, ◌+◌, ◌++◌, List, length, sym, ap, ◌∙◌, subst, arith}
use Rattle.prefix_width.specs.Limits.{last_index}
use Rattle.epoch_core.specs.Closing.{readers_of, IsOneOfEach}
use Rattle.epoch_core.specs.Counts.{hits_of, rising_counts}
use Rattle.epoch_core.specs.Plays.{HaveSeen, IsOneHistory}
use Rattle.epoch_core.specs.Rule.{Ended, AreOnce}
use Rattle.epoch_core.proofs.ClosingLemmas.{one_of_each, have_all_seen}
use Rattle.epoch_core.proofs.control.ControlSeat.close.Goals as goal
use Rattle.epoch_core.proofs.control.ControlSeat.close.Goals.{After-finish}

-- what the control has taken in is one seat of each reader, and each has seen no later version than the last; the counts are
-- of their hits
all_given : (g : _) (c : After-finish g) → IsOneOfEach c.args.self.own.readers c.args.seats.items × HaveSeen c.finish.result.version (readers_of c.args.seats.items)
    × IsOneHistory g.row.K (last_index g.row.K g.row.LIVE) c.args.self.own.readers c.finish.result.version c.args.self.steps (readers_of c.args.seats.items)
    × (c.finish.result.counts.items ≡ rising_counts (λ p. hits_of p (readers_of c.args.seats.items)) (c.args.self.own.numbers + 1))
    × ((p : ℕ) → c.args.self.own.numbers < p → hits_of p (readers_of c.args.seats.items) ≡ 0)
all_given g c =
    let many : c.args.self.own.readers ≤ length c.args.seats.items = let k = c.readers.ensures in let l = c.len.ensures in let f = c.from.ensures in let t = c.if-len-from.false in omega arith in
    let did = c.finish.ensures in
    let n : ℕ = c.args.self.own.readers in
    let more = c.args.self.own.ended in
    let G : ℕ = last_index g.row.K g.row.LIVE in
    let once : AreOnce n (readers_of c.args.seats.items ++ more) = subst (λ v. AreOnce v.own.readers v.own.ended) c.end_all.ensures did.once in
    let one = one_of_each n c.args.seats.items more once many in
    let seen : HaveSeen c.args.self.own.version (readers_of c.args.seats.items ++ more) = subst (λ v. HaveSeen v.own.version v.own.ended) c.end_all.ensures did.seen in
    let last : c.finish.result.version ≡ c.args.self.own.version = did.last ∙ ap (λ v. v.own.version) c.end_all.ensures in
    let done : IsOneHistory g.row.K G n c.args.self.own.version c.args.self.steps (readers_of c.args.seats.items ++ more) = subst (λ v. IsOneHistory g.row.K G v.own.readers v.own.version v.steps v.own.ended) c.end_all.ensures did.history in
    let counted : c.finish.result.counts.items ≡ rising_counts (λ p. hits_of p (readers_of c.args.seats.items ++ more)) (c.args.self.own.numbers + 1) =
    subst (λ v. c.finish.result.counts.items ≡ rising_counts (λ p. hits_of p v.own.ended) (v.own.numbers + 1)) c.end_all.ensures did.counts in
    let above : (p : ℕ) → c.args.self.own.numbers < p → hits_of p (readers_of c.args.seats.items ++ more) ≡ 0 =
    subst (λ v. (p : ℕ) → v.own.numbers < p → hits_of p v.own.ended ≡ 0) c.end_all.ensures did.none_above in (
      one.0,
      subst (λ (v : ℕ). HaveSeen v (readers_of c.args.seats.items)) (sym last) (subst (HaveSeen c.args.self.own.version) one.1 seen),
      subst (λ (v : ℕ). IsOneHistory g.row.K G n v c.args.self.steps (readers_of c.args.seats.items)) (sym last) (subst (IsOneHistory g.row.K G n c.args.self.own.version c.args.self.steps) one.1 done),
      subst (λ (l : List Ended). c.finish.result.counts.items ≡ rising_counts (λ p. hits_of p l) (c.args.self.own.numbers + 1)) one.1 counted,
      (λ p l. sym (ap (hits_of p) one.1) ∙ above p l),
    )

pub returns-clause-all : goal.returns-clause-all
returns-clause-all g c = (all_given g c).0

pub returns-clause-outside : goal.returns-clause-outside
returns-clause-outside g c = (have_all_seen _ _ (all_given g c).1).1

pub returns-clause-seen : goal.returns-clause-seen
returns-clause-seen g c = (have_all_seen _ _ (all_given g c).1).0

pub returns-clause-history : goal.returns-clause-history
returns-clause-history g c = (all_given g c).2

pub returns-clause-counts : goal.returns-clause-counts
returns-clause-counts g c = (all_given g c).3

pub returns-clause-none_above : goal.returns-clause-none_above
returns-clause-none_above g c = (all_given g c).4
