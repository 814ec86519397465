-- A fib before its gets are made: its control and its publisher are abreast.
use Rattle.std.proofs.Common.{◌≡◌, ◌∙◌, inl, ℕ, sym, subst, arith}
use Rattle.atomic_table.specs.Seated.{TableId}
use Rattle.rib_store.specs.Plan.{Planned}
use Rattle.fib_pass.specs.Views.{AreNewPasses}
use Rattle.threaded_replay.specs.declared.fib.Fib.{Fib}
use Rattle.threaded_replay.specs.Fibs.{IsNewFib}
use Rattle.replay_run.specs.Limits.{banks, targets_max}
use Rattle.threaded_replay.specs.Producing.{IsAbreast}

pub starts_abreast : {w : ℕ} (table : TableId) (plan : Planned w) (n : ℕ) (fib : Fib w) → IsNewFib plan n fib → fib.publisher.table ≡ table
    → IsAbreast banks targets_max table plan n fib.control fib.publisher
starts_abreast table plan n fib new same = record {
  of_plan = new.of_plan;
  is_control = new.control;
  at_table = same;
  keyed = new.key;
  counted = new.readers;
  version = new.version ∙ sym new.first;
  ran = inl (let few = new.control.counted in let none = new.commands in omega (arith, few, none));
}

-- the passes are those of the table
pub starts_new : {w : ℕ} (table : TableId) (plan : Planned w) (n m : ℕ) (fib : Fib w) → IsNewFib plan n fib → fib.publisher.table ≡ table → n ≡ m → AreNewPasses table plan m fib.passes.items
starts_new table plan n m fib new same as_many =
    subst (λ k. AreNewPasses table plan k fib.passes.items) as_many (subst (λ t. AreNewPasses t plan n fib.passes.items) same new.passes)
