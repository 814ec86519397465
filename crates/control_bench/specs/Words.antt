-- What the words of the command line ask.
use Rattle.std.specs.Prelude.{◌≡◌, ℕ, List, [], ◌∷◌, Option, Some, None, codes, bytes_eq, if◌then◌else◌}
use Rattle.std.specs.Option.{SomeIff}
use Rattle.bench_kit.specs.Words.{IsNumberTo, number_of}
use Rattle.control_bench.specs.declared.job.Job.{Job}
use Rattle.control_bench.specs.declared.job.Job.TheVariants.{Drawn, Refuse, Time}

-- what a word asks of a number: `drawn` so many plans, `time` times at so many routes, and other words nothing
abbrev pub asked_by : List ℕ → Option (ℕ → Job)
asked_by word =
    if bytes_eq word (codes "drawn") then Some Drawn else (if bytes_eq word (codes "time") then Some Time else None)

-- a number of which this is asked, if something is
abbrev pub AsksFor : Option (ℕ → Job) → List ℕ → Option Job → Type 0
AsksFor None number job = job ≡ None
AsksFor (Some asked) number job = SomeIff job (IsNumberTo 262144 number) (asked (number_of number))

-- `refuse` asks for the images of one plan
abbrev pub AsksRefuse : List ℕ → Option Job → Type 0
AsksRefuse word job = job ≡ (if bytes_eq word (codes "refuse") then Some Refuse else None)

-- no words ask for 24 plans, one for the images of a plan, two for what is counted, and more for nothing
abbrev pub Asks : List (List ℕ) → Option Job → Type 0
Asks [] job = job ≡ Some (Drawn 24)
Asks (word ∷ []) job = AsksRefuse word job
Asks (word ∷ number ∷ []) job = AsksFor (asked_by word) number job
Asks (word ∷ number ∷ more ∷ words) job = job ≡ None
