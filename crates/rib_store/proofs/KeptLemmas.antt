-- What every table of a plan keeps: what holds of the empty table, and stays where paths are put in and rows go.
use Rattle.std.proofs.Common.{◌≡◌, ℕ, ◌≤◌, ◌<◌, Bool, true, false, cond, nat_lt, nat_le, List, [], ◌∷◌, Option, Some, None, length, fold, take, refl, arith}
use Rattle.std.specs.Prelude.{All, IfSome, option_map}
use Rattle.std.specs.List.{list_any}
use Rattle.std.proofs.lemmas.Bool.Decides.{nat_tests}
use Rattle.std.proofs.lemmas.List.Elements.{All-head, All-tail, All-take}
use Rattle.prefix_width.specs.Prefix.{Block}
use Rattle.prefix_width.specs.Path.{WeightedHop}
use Rattle.nhgrp_slots.specs.PathList.{PathList, put_path, clashes, goes_by, left_by, paths_left}
use Rattle.nhgrp_slots.specs.Spread.{Spread, left_spread, spread, without}
use Rattle.rib_store.specs.declared.command.Command.{Command}
use Rattle.rib_store.specs.declared.command.Command.TheVariants.{Add, Change, Delete, Flush, Tick, Sync, Algo}
use Rattle.rib_store.specs.declared.command.Reply.{Reply}
use Rattle.rib_store.specs.declared.command.Reply.TheVariants.{Joined}
use Rattle.rib_store.specs.declared.command.Refusal.TheVariants.{Exists, NotFound, PathsFull, TableFull, TargetsFull}
use Rattle.rib_store.specs.Limits.{routes_max}
use Rattle.rib_store.specs.Plan.{Planned}
use Rattle.rib_store.specs.Profile.{keeps}
use Rattle.rib_store.specs.Table.{Table, Outcome, paths_at, put_row, drop_row, left_by_flush, live_count, refused, placed, settled, added, replaced, shortened, deleted, apply, table_after}

-- the path of a command, if it has one, is such a path
abbrev pub Brings : {w : _} → (WeightedHop → Type 0) → Command w → Type 0
Brings Q (Add prefix path) = Q path
Brings Q (Change prefix path) = Q path
Brings Q command = Unit {0}

-- a fact of tables that stays, where paths with their layout are such paths, and single ones such paths
pub record IsKept (K : Table → Type 0) (P : Spread → Type 0) (Q : WeightedHop → Type 0) : Type 0 where
  pub start : K []
  pub put : (rows : Table) (b : Block) (paths : Spread) → K rows → P paths → K (put_row rows b paths)
  pub drop : (rows : Table) (b : Block) → K rows → K (drop_row rows b)
  pub flush : (rows : Table) → K rows → K (left_by_flush rows)
  pub found : (rows : Table) (b : Block) → K rows → IfSome (paths_at rows b) P
  pub one : (p : WeightedHop) → Q p → P (spread (p ∷ []))
  pub join : (s : Spread) (p : WeightedHop) → P s → Q p → clashes s.paths p ≡ false → length s.paths < 64 → P (spread (put_path s.paths p))
  pub left : (keep : Bool) (g : ℕ) (s : Spread) → P s → 1 ≤ length (left_by g s.paths) → P (left_spread keep s (left_by g s.paths))

some_left : (P : Spread → Type 0) (keep : Bool) (s : Spread) (ps : PathList) → (1 ≤ length ps → P (left_spread keep s ps)) → IfSome (option_map (left_spread keep s) (paths_left ps)) P
some_left P keep s [] h = tt
some_left P keep s (p ∷ ps) h = h (omega arith)

module _ {K : Table → Type 0} {P : Spread → Type 0} {Q : WeightedHop → Type 0} (kept : IsKept K P Q) (live : ℕ) where
  module _ (rows : Table) (is : K rows) where
    either : (t : Bool) (x y : Outcome) → K x.table → K y.table → K (cond t x y).table
    either true x y h k = h
    either false x y h k = k

    settles : (b : Block) (paths : Spread) (reply : Reply) → P paths → K (settled live rows b paths reply).table
    settles b paths reply list =
        let made : Outcome = placed rows b paths reply in
        let fits : Outcome = cond (nat_lt live (live_count made.table)) (refused rows TargetsFull) made in
        either (nat_lt routes_max (length made.table)) (refused rows TableFull) fits is
        (either (nat_lt live (live_count made.table)) (refused rows TargetsFull) made is (kept.put rows b paths is list))

    adds : (b : Block) (p : WeightedHop) (o : Option Spread) → Q p → IfSome o P → K (added (settled live) rows b p o).table
    adds b p None new old = settles b (spread (p ∷ [])) _ (kept.one p new)
    adds b p (Some s) new old = go (clashes s.paths p) (nat_le 64 (length s.paths)) refl refl
      where
        go : (t f : Bool) → clashes s.paths p ≡ t → nat_le 64 (length s.paths) ≡ f → K (cond t (refused rows Exists) (cond f (refused rows PathsFull) (settled live rows b (spread (put_path s.paths p)) Joined))).table
        go true f c n = is
        go false true c n = is
        go false false c n = settles b (spread (put_path s.paths p)) Joined (kept.join s p old new c (grind (arith, nat_tests)))

    replaces : (b : Block) (paths : Spread) (reply : Reply) (o : Option Spread) → P paths → K (replaced (settled live) rows b paths reply o).table
    replaces b paths reply None list = is
    replaces b paths reply (Some old) list = settles b paths reply list

    shortens : (b : Block) (o : Option Spread) → IfSome o P → K (shortened (settled live) rows b o).table
    shortens b None left = kept.drop rows b is
    shortens b (Some paths) left = settles b paths _ left

    deletes : (keep : Bool) (b : Block) (g : Option ℕ) (o : Option Spread) → IfSome o P → K (deleted keep (settled live) rows b g o).table
    deletes keep b g None old = is
    deletes keep b None (Some s) old = kept.drop rows b is
    deletes keep b (Some g) (Some s) old =
        either (list_any (goes_by g) s.paths) (shortened (settled live) rows b (without keep g s)) (refused rows NotFound)
        (shortens b (without keep g s) (some_left P keep s (left_by g s.paths) (kept.left keep g s old))) is

    applies : {w : _} (profile : ℕ) (command : Command w) → Brings Q command → K (apply profile live rows command).table
    applies profile (Add prefix path) new = adds prefix path (paths_at rows prefix) new (kept.found rows prefix is)
    applies profile (Change prefix path) new = replaces prefix (spread (path ∷ [])) _ (paths_at rows prefix) (kept.one path new)
    applies profile (Delete prefix gateway) new = deletes (keeps profile) prefix gateway (paths_at rows prefix) (kept.found rows prefix is)
    applies profile Flush new = kept.flush rows is
    applies profile (Tick ms) new = is
    applies profile Sync new = is
    applies profile (Algo setting) new = is

  -- so it holds of every table of a plan
  pub tables_keep : {w : _} (plan : Planned w) (c : ℕ) → All (Brings Q) plan.commands → K (table_after live plan c)
  tables_keep {w} plan c all = go [] (take c plan.commands) kept.start (All-take (Brings Q) c plan.commands all)
    where
      go : (rows : Table) (commands : List (Command w)) → K rows → All (Brings Q) commands → K (fold (λ rs command. (apply plan.profile live rs command).table) rows commands)
      go rows [] is each = is
      go rows (command ∷ commands) is each =
          go (apply plan.profile live rows command).table commands (applies rows is plan.profile command (All-head (Brings Q) command commands each)) (All-tail (Brings Q) command commands each)
