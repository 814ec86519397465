-- Versions: which commands make one, what number each has, how many commands it counts and which module it has.
use Rattle.std.specs.Prelude.{ℕ, zero, suc, ◌-◌, Bool, false, not, ◌&&◌, ◌||◌, ◌==◌, nat_lt, nat_le, if◌then◌else◌, List, [], ◌∷◌, ◌++◌}
use Rattle.prefix_width.specs.declared.module.Kind.{Kind}
use Rattle.prefix_width.specs.declared.module.Kind.TheVariants.{Range}
use Rattle.prefix_width.specs.Choice.{is_kind}
use Rattle.plan_cut.specs.Course.{Beat, Edits, Ticks, Syncs, Algos, Course}
use Rattle.plan_cut.specs.Counters.{Counters, counters_at, newer}

-- a version: its number, how many commands were run when it was made, and its module
pub record Version : Type 0 where
  pub number : ℕ
  pub count : ℕ
  pub kind : Kind

-- whether a tick, a sync or an algo asks for a version, by the numbers behind it and whether the chosen module differs
abbrev pub asks_by : Beat → Bool → Counters → Bool
asks_by Edits differs now = false
asks_by (Ticks ms) differs now = nat_lt 0 now.pending && nat_le 50 (now.moment - now.start)
asks_by Syncs differs now = nat_lt 0 now.pending
asks_by Algos differs now = nat_lt 0 now.pending || differs

-- whether a command asks for a version: an accepted change does where its bucket has at most 25 changes or 256 are pending
abbrev pub asks : Bool → Beat → Bool → Counters → Bool
asks changed beat differs now = changed && (nat_le now.count 25 || now.pending == 256) || asks_by beat differs now

-- whether the module that would be chosen behind command m differs from that of the last version
abbrev pub differs_at : Course → ℕ → Version → Bool
differs_at course m last = not (is_kind (course.choice m last.kind) last.kind)

-- whether command m makes a version, after this last one
abbrev pub makes_after : Course → ℕ → Version → Bool
makes_after course m last =
    asks (course.changed m) (course.beat m) (differs_at course m last) (counters_at course last.count m)

-- the version that is made when m commands are run, after this last one
abbrev pub following : Course → ℕ → Version → Version
following course m last = record { number = suc last.number; count = m; kind = course.choice m last.kind }

-- the last version behind command m, after this last one before it
abbrev pub moved_on : Course → ℕ → Version → Version
moved_on course m last = if makes_after course m last then following course m last else last

-- the last version that one of the first m commands made; without one version 0, of no command and the module range
unfoldable pub latest : Course → ℕ → Version
latest course zero = record { number = 0; count = 0; kind = Range }
latest course (suc m) = moved_on course (suc m) (latest course m)

-- whether command m makes a version
abbrev pub makes : Course → ℕ → Bool
makes course m = makes_after course m (latest course (m - 1))

-- whether the end makes a version: some changed position is greater than the count of the last one
abbrev pub makes_at_end : Course → Bool
makes_at_end course = nat_lt 0 (newer course (latest course course.len).count course.len)

-- the last version of all, the end's included
abbrev pub final : Course → Version
final course =
    if makes_at_end course
    then following course course.len (latest course course.len)
    else latest course course.len

-- version 0 and those that the first m commands made
unfoldable pub made : Course → ℕ → List Version
made course zero = latest course zero ∷ []
made course (suc m) =
    if makes_after course (suc m) (latest course m)
    then made course m ++ latest course (suc m) ∷ []
    else made course m

-- all versions
abbrev pub versions : Course → List Version
versions course =
    if makes_at_end course
    then made course course.len ++ final course ∷ []
    else made course course.len
