-- What a row more does to the table, and what a command more does to the table of a plan.
use Rattle.std.proofs.Common.{◌≡◌, ◌∙◌, ℕ, ◌+◌, ◌≤◌, Bool, true, false, cond, List, [], ◌∷◌, ◌++◌, Option, Some, None, length, take, refl, ap, arith}
use Rattle.std.specs.Ordering.{is_eq, match_ordering}
use Rattle.std.specs.declared.cmp.Ordering.TheVariants.{Less, Equal, Greater}
use Rattle.std.specs.List.{list_any, slice_get}
use Rattle.std.proofs.lemmas.List.{take-append-le}
use Rattle.std.proofs.lemmas.List.Sums.{fold_more}
use Rattle.std.proofs.lemmas.Option.{slice_get_within, get_or_from_slice_get}
use Rattle.std.proofs.Math.Seq.{take-length}
use Rattle.prefix_width.specs.Prefix.{Block}
use Rattle.prefix_width.specs.Order.{block_cmp}
use Rattle.std.specs.Cmp.{IsTotalOrder}
use Rattle.std.proofs.lemmas.Cmp.{nat_cmp_total, on_total, then_total}
use Rattle.nhgrp_slots.specs.PathList.{goes_by}
use Rattle.nhgrp_slots.specs.Spread.{Spread, without}
use Rattle.rib_store.specs.declared.command.Command.{Command}
use Rattle.rib_store.specs.Plan.{Planned}
use Rattle.rib_store.specs.Table.{Table, Settling, paths_at, put_row, deleted, apply, table_of, table_after}

-- prefixes are in a total order
pub block_total : IsTotalOrder block_cmp
block_total = then_total (on_total (λ b. b.base) nat_cmp_total) (on_total (λ b. b.len) nat_cmp_total)

skip : (t : Bool) (paths : Spread) (rest : Option Spread) → cond t (Some paths) rest ≡ None → (t ≡ false) × (rest ≡ None)
skip true paths rest e = cc
skip false paths rest e = (refl, e)

-- a prefix that is absent stays so where another's row is put in
pub absent_row : (rows : Table) (k b : Block) (paths : Spread) → is_eq (block_cmp b k) ≡ false → paths_at rows b ≡ None → paths_at (put_row rows k paths) b ≡ None
absent_row [] k b paths other none = rw other refl
absent_row (row ∷ rows) k b paths other none =
    let first = skip (is_eq (block_cmp b row.0)) row.1 (paths_at rows b) none in
    let here : is_eq (block_cmp b row.0) ≡ false = first.0 in
    let behind : paths_at rows b ≡ None = first.1 in
    let later : paths_at (put_row rows k paths) b ≡ None = absent_row rows k b paths other behind in
    elim (block_cmp k row.0) as (λ r. paths_at (match_ordering r ((k, paths) ∷ row ∷ rows) ((row.0, paths) ∷ rows) (row ∷ put_row rows k paths)) b ≡ None) [
      | Less ↦ rw (other, here) behind
      | Equal ↦ rw here behind
      | Greater ↦ rw here later
    ]

-- a row that is put in makes one row more at most
pub length-put_row : (rows : Table) (b : Block) (paths : Spread) → length (put_row rows b paths) ≤ length rows + 1
length-put_row [] b paths = omega arith
length-put_row (row ∷ rows) b paths =
    let later = length-put_row rows b paths in
    elim (block_cmp b row.0) as (λ r. length (match_ordering r ((b, paths) ∷ row ∷ rows) ((row.0, paths) ∷ rows) (row ∷ put_row rows b paths)) ≤ length (row ∷ rows) + 1) [
      | Less ↦ omega arith
      | Equal ↦ omega arith
      | Greater ↦ omega arith
    ]

-- where no path is left, a delete by gateway is that of the whole row
pub none_left : (keep : Bool) (settle : Settling) (rows : Table) (b : Block) (g : ℕ) (o : Option ℕ) (s : Spread) → o ≡ Some g → paths_at rows b ≡ Some s → list_any (goes_by g) s.paths ≡ true → without keep g s ≡ None → deleted keep settle rows b None (paths_at rows b) ≡ deleted keep settle rows b o (paths_at rows b)
none_left keep settle rows b g o s e f there gone = rw (e, f) (rw (there, gone) refl)

module _ {w : _} (live : ℕ) where
  -- commands put behind a plan change nothing before them
  pub table_after-with : (plan more : Planned w) (rest : List (Command w)) (c : ℕ) → more.profile ≡ plan.profile → more.commands ≡ plan.commands ++ rest → c ≤ length plan.commands → table_after live more c ≡ table_after live plan c
  table_after-with plan more rest c same e h =
      ap {B = Table} (λ profile. table_of live (record { profile = profile; commands = take c more.commands })) same
      ∙ ap {B = Table} (λ commands. table_of live (record { profile = plan.profile; commands = commands })) (ap (take c) e ∙ take-append-le c plan.commands rest h)

  -- the table after all commands
  pub table_after-length : (plan : Planned w) → table_after live plan (length plan.commands) ≡ table_of live plan
  table_after-length plan = ap {B = Table} (λ commands. table_of live (record { profile = plan.profile; commands = commands })) (take-length plan.commands)

  -- the table after one command more
  pub table_after_more : (plan : Planned w) (pos : ℕ) (c : Command w) → slice_get plan.commands pos ≡ Some c → table_after live plan (pos + 1) ≡ (apply plan.profile live (table_after live plan pos) c).table
  table_after_more plan pos c e =
      fold_more (λ rows command. (apply plan.profile live rows command).table) [] plan.commands pos c (slice_get_within plan.commands pos c e)
      ∙ ap (λ d. (apply plan.profile live (table_after live plan pos) d).table) (get_or_from_slice_get plan.commands pos c c e)
