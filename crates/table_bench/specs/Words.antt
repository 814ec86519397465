-- What the words of the command line ask.
use Rattle.std.specs.Prelude.{◌≡◌, ◌≤◌, ℕ, List, [], ◌∷◌, Option, Some, None, codes, bytes_eq, IsTrue, false, ⊤}
use Rattle.std.specs.Option.{SomeIff}
use Rattle.bench_kit.specs.Words.{IsNumberTo, number_of}
use Rattle.rib_store.specs.Limits.{routes_max}
use Rattle.table_bench.specs.declared.job.Job.{Job}
use Rattle.table_bench.specs.declared.job.Job.TheVariants.{Counts, Time, Indexes, Flows}

-- a text that writes a number from 1 on between these, both included
abbrev pub IsCount : ℕ → ℕ → List ℕ → Type 0
IsCount least most text = IsNumberTo most text × (least ≤ number_of text)

-- `time` and a number of routes ask for the times of the table, `indexes` and a number of live targets for those of
-- lists and versions, `flows` and a number of groups for the flows that move, and other words for nothing
pub record AsksTimes (word number : List ℕ) (job : Option Job) : Type 0 where
  pub time : IsTrue (bytes_eq word (codes "time")) → SomeIff job (IsCount 1 routes_max number) (Time (number_of number))
  pub indexes : IsTrue (bytes_eq word (codes "indexes")) → SomeIff job (IsCount 8 4095 number) (Indexes (number_of number))
  pub flows : IsTrue (bytes_eq word (codes "flows")) → SomeIff job (IsCount 1 100000 number) (Flows (number_of number))
  pub other : bytes_eq word (codes "time") ≡ false → bytes_eq word (codes "indexes") ≡ false → bytes_eq word (codes "flows") ≡ false → job ≡ None

-- no words ask for the counts, two for times, and other words for nothing
abbrev pub Asks : List (List ℕ) → Option Job → Type 0
Asks [] job = job ≡ Some Counts
Asks (word ∷ []) job = job ≡ None
Asks (word ∷ number ∷ []) job = AsksTimes word number job
Asks (word ∷ number ∷ more ∷ words) job = job ≡ None

-- what holds of each job that is asked: the numbers are those that may be measured
abbrev pub IsJob : Job → Type 0
IsJob Counts = ⊤
IsJob (Time count) = (1 ≤ count) × (count ≤ routes_max)
IsJob (Indexes count) = (8 ≤ count) × (count ≤ 4095)
IsJob (Flows count) = (1 ≤ count) × (count ≤ 100000)
