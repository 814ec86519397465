-- Laws of counts by key, for keys that their order tells apart.
use Rattle.std.specs.Prelude.{◌≡◌, ◌+◌, ◌≤◌, if◌then◌else◌}
use Rattle.std.specs.Ordering.{is_eq}
use Rattle.std.specs.declared.cmp.Ordering.{Ordering}
use Rattle.std.specs.declared.cmp.Ordering.TheVariants.{Equal}
use Rattle.counted_map.specs.Counts.{Counts, IsCounts, count_of, linked, unlinked}

-- keys that the order finds equal are one key
abbrev pub TellsApart : {K : Type 0} → (K → K → Ordering) → Type 0
TellsApart {K} cmp = (x y : K) → cmp x y ≡ Equal → x ≡ y

-- one more of a key raises its count by one, and no other count
abbrev pub LinkRaises : {K : Type 0} → (K → K → Ordering) → Type 0
LinkRaises {K} cmp =
    TellsApart cmp → (m : Counts K) (k q : K) → IsCounts cmp m
    → IsCounts cmp (linked cmp m k)
    × (count_of cmp (linked cmp m k) q ≡ count_of cmp m q + (if is_eq (cmp q k) then 1 else 0))

-- one less of a key lowers its count by one, and no other count
abbrev pub UnlinkLowers : {K : Type 0} → (K → K → Ordering) → Type 0
UnlinkLowers {K} cmp =
    TellsApart cmp → (m : Counts K) (k q : K) → IsCounts cmp m → 1 ≤ count_of cmp m k
    → IsCounts cmp (unlinked cmp m k)
    × (count_of cmp (unlinked cmp m k) q + (if is_eq (cmp q k) then 1 else 0) ≡ count_of cmp m q)

-- counts that agree at each key are the same
abbrev pub CountsDecide : {K : Type 0} → (K → K → Ordering) → Type 0
CountsDecide {K} cmp =
    TellsApart cmp → (m n : Counts K) → IsCounts cmp m → IsCounts cmp n
    → ((q : K) → count_of cmp m q ≡ count_of cmp n q) → m ≡ n
