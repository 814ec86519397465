-- A runner goes on from the version that was given last.
use Rattle.std.proofs.Common.{◌≡◌, ◌∙◌, ℕ, ◌+◌, ◌<◌, ◌≤◌, Some, Ok, Err, [], List, inl, inr, sym, ap, subst, arith}
use Rattle.std.specs.Prelude.{OnOk, OnErr, Result, slice_get}
use Rattle.prefix_width.specs.Prefix.{Block}
use Rattle.rib_store.specs.declared.command.Command.{Command}
use Rattle.rib_store.specs.Plan.{Planned}
use Rattle.rib_store.specs.Table.{table_after}
use Rattle.plan_cut.specs.VersionTable.{table_at}
use Rattle.plan_cut.specs.Versions.{Version}
use Rattle.fib_edits.specs.Touching.{Gains, SameBut, touched_by}
use Rattle.fib_edits.proofs.TouchLemmas.{touched_more, touched_next}
use Rattle.fib_sync.specs.Running.{Ran, IsRun, IsMade, Ends, GoesOn}
use Rattle.fib_sync.specs.Standing.{IsAhead}

-- more prefixes do no harm
pub ahead_more : {w : ℕ} (most v : ℕ) (r : Ran w) (t t' : List Block) → IsAhead most v r t → Gains t [] t' → IsAhead most v r t'
ahead_more most v r t t' h gains = record {
  run = h.run;
  high = h.high;
  low = h.low;
  due = h.due;
  same = touched_more (table_at most r.plan v) r.rib t t' h.same gains;
}

-- the version that was made last, and of how many commands the next one is
record IsDue (v : ℕ) (made : Version) (n : ℕ) : Type 0 where
  pub high : v ≤ made.number
  pub low : made.number ≤ v + 1
  pub count : v < made.number → made.count ≡ n

is_due : (v : ℕ) (old new : Version) (n : ℕ) → old.number ≡ v → IsMade old new n → IsDue v new n
is_due v old new n calm (inl same) =
    let number : new.number ≡ v = ap (λ (x : Version). x.number) same ∙ calm in
    record { high = omega arith; low = omega arith; count = λ more. absurd (omega arith) }
is_due v old new n calm (inr next) = record { high = omega (arith, next.0); low = omega (arith, next.0); count = λ _. next.1 }

-- one command more
pub ahead_on : {w : ℕ} (most v : ℕ) (c : Command w) (old new : Ran w) (t t' : List Block) → IsAhead most v old t → old.made.number ≡ v → slice_get old.plan.commands old.commands ≡ Some c
    → Gains t (touched_by old.rib c) t' → IsRun most new → GoesOn old new → IsAhead most v new t'
ahead_on {w} most v c old new t t' h calm here gains run on =
    let due = is_due v old.made new.made new.commands calm on.made in
    let base : SameBut t' (table_at most old.plan v) (table_after most old.plan (old.commands + 1)) = touched_next most old.plan (table_at most old.plan v) old.rib old.commands c t t' h.run.rib here h.same gains in
    let planned = subst (λ (p : Planned w). SameBut t' (table_at most p v) (table_after most p (old.commands + 1))) (sym on.plan) base in
    let counted = subst (λ n. SameBut t' (table_at most new.plan v) (table_after most new.plan n)) (sym on.commands) planned in
    record {
      run = run;
      high = due.high;
      low = due.low;
      due = due.count;
      same = subst (SameBut t' (table_at most new.plan v)) (sym run.rib) counted;
    }

pub ahead_ran : {w : ℕ} {T E : Type 0} (r : Result T E) (most v : ℕ) (c : Command w) (old new : Ran w) (t t' : List Block) → IsAhead most v old t → old.made.number ≡ v → slice_get old.plan.commands old.commands ≡ Some c
    → Gains t (touched_by old.rib c) t' → Gains t [] t' → IsRun most new → OnOk r (GoesOn old new) → OnErr r (new ≡ old) → IsAhead most v new t'
ahead_ran (Ok x) most v c old new t t' h calm here gains more run on err = ahead_on most v c old new t t' h calm here gains run on
ahead_ran (Err e) most v c old new t t' h calm here gains more run on err = subst (λ (r : Ran _). IsAhead most v r t') (sym err) (ahead_more most v old t t' h more)

-- the plan's end
pub ahead_end : {w : ℕ} (most v : ℕ) (old new : Ran w) (t : List Block) → IsAhead most v old t → old.made.number ≡ v → IsRun most new → Ends old new → IsAhead most v new t
ahead_end {w} most v old new t h calm run ends =
    let due = is_due v old.made new.made new.commands calm ends.made in
    let planned = subst (λ (p : Planned w). SameBut t (table_at most p v) old.rib) (sym ends.plan) h.same in
    record {
      run = run;
      high = due.high;
      low = due.low;
      due = due.count;
      same = subst (SameBut t (table_at most new.plan v)) (sym ends.rib) planned;
    }
