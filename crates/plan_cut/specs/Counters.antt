-- The four numbers of a cutter: the moment, the start and the count of the bucket, and how many changes are pending.
use Rattle.std.specs.Prelude.{ℕ, zero, suc, ◌+◌, ◌-◌, Bool, ◌&&◌, ◌==◌, nat_lt, nat_le, if◌then◌else◌}
use Rattle.plan_cut.specs.Course.{Course, ms_of}

-- how many of the positions 1 to m pass
unfoldable pub tally : (ℕ → Bool) → ℕ → ℕ
tally p zero = 0
tally p (suc m) = if p (suc m) then suc (tally p m) else tally p m

-- the milliseconds of the ticks among the first m commands
unfoldable pub moment : Course → ℕ → ℕ
moment course zero = 0
moment course (suc m) = moment course m + ms_of (course.beat (suc m))

-- when the bucket of position m started: a change opens a new one where the last is 50 milliseconds old or older
unfoldable pub start : Course → ℕ → ℕ
start course zero = 0
start course (suc m) =
    if course.changed (suc m) && nat_le 50 (moment course (suc m) - start course m)
    then moment course (suc m)
    else start course m

-- how many of the changed positions up to m are in the bucket of m
abbrev pub count : Course → ℕ → ℕ
count course m = tally (λ p. course.changed p && start course p == start course m) m

-- how many of the changed positions up to m are greater than c
abbrev pub newer : Course → ℕ → ℕ → ℕ
newer course c m = tally (λ p. course.changed p && nat_lt c p) m

-- what a cutter is seen as
pub record Counters : Type 0 where
  pub moment : ℕ
  pub start : ℕ
  pub count : ℕ
  pub pending : ℕ

-- the four numbers at position m, those pending being the changed positions after c
abbrev pub counters_at : Course → ℕ → ℕ → Counters
counters_at course c m =
    record { moment = moment course m; start = start course m; count = count course m; pending = newer course c m }
