-- What a script is replayed with, before its gets are made and after.
use Rattle.std.specs.Prelude.{◌≡◌, ℕ, ◌<◌, All, map, reverse, slice_index_or}
use Rattle.std.specs.List.{filter_map}
use Rattle.rib_store.specs.Plan.{Planned}
use Rattle.route_lang.specs.Script.{Reading}
use Rattle.fib_sync.specs.Control.{IsControl}
use Rattle.fib_pass.specs.Totals.{end_of, hops_hit}
use Rattle.fib_pass.specs.Views.{AreNewPasses, PassView}
use Rattle.threaded_replay.specs.declared.fib.Fib.{Fib}
use Rattle.threaded_replay.specs.Legal.{Family, IsUsed, gets_of, turns}
use Rattle.replay_run.specs.Limits.{banks, targets_max}
use Rattle.threaded_replay.specs.Merging.{given_at}
use Rattle.threaded_replay.specs.Producing.{IsThrough}

-- the control has run nothing, and the fib is at version 0 of the plan, with n passes that have done nothing
pub record IsNewFib {w : ℕ} (plan : Planned w) (n : ℕ) (fib : Fib w) : Type 0 where
  pub of_plan : fib.control.plan ≡ plan
  pub control : IsControl banks targets_max fib.control
  pub commands : fib.control.commands ≡ 0
  pub first : fib.control.image.version ≡ 0
  pub key : fib.publisher.key ≡ plan
  pub version : fib.publisher.own.version ≡ 0
  pub readers : fib.publisher.own.readers ≡ n
  pub passes : AreNewPasses fib.publisher.table plan n fib.passes.items

-- the control has run all commands and the last version is published; pass w, whose number that is, has made the family's gets
-- of worker w of n and no other lookup, and has hit the nexthops that these gave at their versions, the latest first
pub record IsRunFib {w : ℕ} (n : ℕ) (script : Reading) (version : ℕ → ℕ) (family : Family) (plan : Planned w) (old new : Fib w) : Type 0 where
  pub through : IsThrough banks targets_max old.publisher.table plan n new.control new.publisher
  pub passes : All (λ pass. (pass.seat.table ≡ old.publisher.table) × (pass.seat.key ≡ plan)) new.passes.items
  pub numbers : (i : ℕ) (d : PassView w) → i < n → (slice_index_or new.passes.items i d).seat.number ≡ i
  pub used : IsUsed n script version family (map end_of new.passes.items)
  pub hops : (i : ℕ) (d : PassView w) → i < n
      → hops_hit plan (slice_index_or new.passes.items i d) ≡ reverse (filter_map (given_at targets_max script (gets_of script) version family) (turns n i family script))
