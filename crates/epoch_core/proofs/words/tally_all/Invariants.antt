use Rattle.std.proofs.Common.{◌≡◌, ◌≤◌, List, map}
use Rattle.epoch_core.specs.declared.view.Role.TheVariants.{Control}
use Rattle.epoch_core.specs.Counts.{from_greatest, IsCounted}
use Rattle.epoch_core.specs.Rule.{control_own}
use Rattle.epoch_core.proofs.words.tally_all.Given as goal

abbrev pub invariant-loop-index : goal.invariant-loop-index
invariant-loop-index g l =
    (l.place.table_id ≡ l.fn.place.table_id) × (l.place.me.1 ≡ l.fn.place.me.1) × (l.place.me.0.key ≡ l.fn.place.me.0.key) × (l.place.me.0.steps ≡ l.fn.place.me.0.steps)
    × (l.place.me.0.role ≡ Control (control_own l.place))
    × (control_own l.place ≡ record (control_own l.fn.place) { tallied = (control_own l.place).tallied })
    × (map (λ c. c.0) (control_own l.place).tallied ≡ from_greatest l.index)
    × IsCounted (control_own l.place) l.counts
