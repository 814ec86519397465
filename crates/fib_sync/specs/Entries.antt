-- What the indexes of a version have to be, that its entries can be made of them and of those before.
use Rattle.std.specs.Prelude.{◌≡◌, ℕ, List, Some, slice_get}
use Rattle.std.specs.BTreeMap.{is_at}
use Rattle.std.specs.List.{AllZip}
use Rattle.std.specs.Map.{lookup}
use Rattle.std.specs.Ordering.{nat_cmp}
use Rattle.prefix_width.specs.Nexthop.{Hop}
use Rattle.nhgrp_slots.specs.declared.target.Target.{Target}
use Rattle.nhgrp_slots.specs.declared.target.Target.TheVariants.{One, Many}
use Rattle.nhgrp_slots.specs.Spread.{Spread, hops}
use Rattle.engine_set.specs.declared.entry.Entry.{Entry}
use Rattle.engine_set.specs.Entry.{entry_index}
use Rattle.fib_sync.specs.Lawful.{Names, IsEntryOf}

module _ {W : ℕ} where
  -- the target of each index of a list of indexes with their targets
  abbrev pub names_in : List (ℕ × Target W) → Names W
  names_in indexes i = lookup (is_at (nat_cmp i)) indexes

  -- the nexthop of each path has an index
  abbrev pub AreNamed : Names W → Spread → Type 0
  AreNamed names paths = (k : ℕ) (h : Hop) → slice_get (hops paths) k ≡ Some h → (i : ℕ) × (names i ≡ Some (One h))

  -- with each group the nexthops of its paths have indexes
  abbrev pub IsClosed : Names W → Type 0
  IsClosed names = (i : ℕ) (paths : Spread) → names i ≡ Some (Many paths) → AreNamed names paths

  -- a target that both versions have has the same index in both
  abbrev pub KeepIndexes : Names W → Names W → Type 0
  KeepIndexes before names = (i j : ℕ) (t : Target W) → before i ≡ Some t → names j ≡ Some t → i ≡ j

  -- the entries of indexes with their targets, one by one
  abbrev pub AreMade : Names W → List (ℕ × Target W) → List Entry → Type 0
  AreMade names indexes entries = AllZip (λ e entry. (entry_index entry ≡ e.0) × IsEntryOf names e.0 (Some e.1) (Some entry)) indexes entries
