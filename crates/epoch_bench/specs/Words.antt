-- Which words are taken, and what they ask.
use Rattle.std.specs.Prelude.{◌≡◌, ◌≤◌, ℕ, List, [], ◌∷◌, codes}
use Rattle.bench_kit.specs.Words.{IsNumberTo, number_of}
use Rattle.epoch_bench.specs.declared.job.Job.{Job}
use Rattle.epoch_bench.specs.declared.job.Job.TheVariants.{Show, Time}
use Rattle.epoch_bench.specs.declared.job.TheConstants.{ROUNDS_MAX}

-- the text writes this number, which is 1 to ROUNDS_MAX
pub record AsksRounds (text : List ℕ) (rounds : ℕ) : Type 0 where
  pub number : IsNumberTo ROUNDS_MAX text
  pub value : number_of text ≡ rounds

-- no words ask for the show, and `time` and a number for the times of so many rounds
abbrev pub Asks : List (List ℕ) → Job → Type 0
Asks [] Show = Unit {0}
Asks (word ∷ number ∷ []) (Time rounds) = (word ≡ codes "time") × AsksRounds number rounds
Asks words job = ⊥

-- the rounds that are measured, where any are, are no more than ROUNDS_MAX
abbrev pub HasRounds : Job → Type 0
HasRounds Show = Unit {0}
HasRounds (Time rounds) = rounds ≤ ROUNDS_MAX
