-- What the words of the command line ask.
use Rattle.std.specs.Prelude.{◌≡◌, ◌≤◌, ℕ, List, [], ◌∷◌, Option, Some, None, codes, bytes_eq, IsTrue, false}
use Rattle.std.specs.Option.{SomeIff}
use Rattle.bench_kit.specs.Words.{IsNumberTo, number_of}
use Rattle.fib_soak.specs.declared.job.Job.{Job}
use Rattle.fib_soak.specs.declared.job.Job.TheVariants.{Show, Soak, Hold}

-- a text that writes a number of passes, of at least so many and at most 64
abbrev pub IsPasses : ℕ → List ℕ → Type 0
IsPasses least text = IsNumberTo 64 text × (least ≤ number_of text)

-- `soak`, up to 86,400 seconds and some passes ask for a soak, `hold`, up to 3,600 seconds and two passes or more for a
-- version that is held, and other words for nothing
pub record AsksRun (word seconds passes : List ℕ) (job : Option Job) : Type 0 where
  pub soak : IsTrue (bytes_eq word (codes "soak")) → SomeIff job (IsNumberTo 86400 seconds × IsPasses 1 passes) (Soak (number_of seconds) (number_of passes))
  pub hold : IsTrue (bytes_eq word (codes "hold")) → SomeIff job (IsNumberTo 3600 seconds × IsPasses 2 passes) (Hold (number_of seconds) (number_of passes))
  pub other : bytes_eq word (codes "soak") ≡ false → bytes_eq word (codes "hold") ≡ false → job ≡ None

-- no words ask for the show, three for a run, and other words for nothing
abbrev pub Asks : List (List ℕ) → Option Job → Type 0
Asks [] job = job ≡ Some Show
Asks (word ∷ []) job = job ≡ None
Asks (word ∷ seconds ∷ []) job = job ≡ None
Asks (word ∷ seconds ∷ passes ∷ []) job = AsksRun word seconds passes job
Asks (word ∷ seconds ∷ passes ∷ more ∷ words) job = job ≡ None
