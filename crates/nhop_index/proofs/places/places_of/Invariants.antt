-- The places of the entries from one on.
use Rattle.nhop_index.proofs.PlaceLemmas.{ArePlacesFrom}
use Rattle.nhop_index.proofs.places.places_of.Given as goal

abbrev pub invariant-place : goal.invariant-place
invariant-place g l = ArePlacesFrom l.names l.places.items l.place

abbrev pub decreases-place : goal.decreases-place
decreases-place g l = l.place
