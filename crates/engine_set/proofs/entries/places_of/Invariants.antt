-- The entries so far have their places, and no place is another's.
use Rattle.std.proofs.Common.{◌≡◌, ◌<◌, ℕ, Some, length}
use Rattle.std.specs.Prelude.{slice_get}
use Rattle.engine_set.specs.Entry.{AreOfEntries, ArePlacedTo, entry_index}
use Rattle.engine_set.specs.declared.entry.Entry.{Entry}
use Rattle.engine_set.proofs.entries.places_of.Given as goal

abbrev pub invariant-loop-k : goal.invariant-loop-k
invariant-loop-k l = record {
  room : (k : ℕ) (e : Entry) → slice_get l.entries k ≡ Some e → entry_index e < length l.places.items;
  placed : ArePlacedTo l.entries l.places.items l.k;
  only : AreOfEntries l.entries l.places.items;
}
