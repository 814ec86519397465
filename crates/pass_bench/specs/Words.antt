-- What the words of the command line ask.
use Rattle.std.specs.Prelude.{◌≡◌, ℕ, List, [], ◌∷◌, Option, Some, None, codes, bytes_eq, IsTrue, false}
use Rattle.std.specs.Option.{SomeIff}
use Rattle.bench_kit.specs.Words.{IsNumberTo, number_of}
use Rattle.pass_bench.specs.declared.job.Job.{Job}
use Rattle.pass_bench.specs.declared.job.Job.TheVariants.{Show, Time, Resolve}

-- `time` and a number of routes from 1 to 262,144 ask for the times of passes, `resolve` and such a number for those of
-- images beside engines, and other words for nothing
pub record AsksTimes (word number : List ℕ) (job : Option Job) : Type 0 where
  pub time : IsTrue (bytes_eq word (codes "time")) → SomeIff job (IsNumberTo 262144 number) (Time (number_of number))
  pub resolve : IsTrue (bytes_eq word (codes "resolve")) → SomeIff job (IsNumberTo 262144 number) (Resolve (number_of number))
  pub other : bytes_eq word (codes "time") ≡ false → bytes_eq word (codes "resolve") ≡ false → job ≡ None

-- no words ask for the show, two for times, and other words for nothing
abbrev pub Asks : List (List ℕ) → Option Job → Type 0
Asks [] job = job ≡ Some Show
Asks (word ∷ []) job = job ≡ None
Asks (word ∷ number ∷ []) job = AsksTimes word number job
Asks (word ∷ number ∷ more ∷ words) job = job ≡ None
