-- Course: all that the cuts of a plan depend on, by positions counted from 1.
use Rattle.std.specs.Prelude.{◌≡◌, ℕ, Bool}
use Rattle.prefix_width.specs.declared.module.Kind.{Kind}

-- what the cuts see of a command: a change that is asked of the table, a tick of so many milliseconds, a sync, or an algo
pub data Beat : Type 0 where
  Edits : Beat
  Ticks : (ms : ℕ) → Beat
  Syncs : Beat
  Algos : Beat

-- the milliseconds that pass
abbrev pub ms_of : Beat → ℕ
ms_of (Ticks ms) = ms
ms_of beat = 0

-- a course: how many commands there are, what each is, whether it was an accepted change, and which module would be
-- chosen behind it where this is the current one
pub record Course : Type 0 where
  pub len : ℕ
  pub beat : ℕ → Beat
  pub changed : ℕ → Bool
  pub choice : ℕ → Kind → Kind

-- command m is this one, with its `changed`
pub record IsCommand (course : Course) (m : ℕ) (changed : Bool) (beat : Beat) : Type 0 where
  pub same_change : course.changed m ≡ changed
  pub same_beat : course.beat m ≡ beat
