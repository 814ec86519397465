-- Counts by key: how often each of some keys is used. A key that is not used has no entry.
use Rattle.std.specs.Prelude.{ℕ, ◌+◌, ◌-◌, ◌≤◌, ◌==◌, List, [], ◌∷◌, All, Bool, unwrap_or, if◌then◌else◌}
use Rattle.std.specs.BTreeMap.{insert_entry, is_at}
use Rattle.std.specs.BTreeSet.{insert_key}
use Rattle.std.specs.List.Sorted.{IsStrictlySortedBy}
use Rattle.std.specs.Map.{lookup, remove_entry, set_value, keys_of, values_of}
use Rattle.std.specs.Ordering.{is_eq}
use Rattle.std.specs.declared.cmp.Ordering.{Ordering}

-- keys, each with its count
abbrev pub Counts : Type 0 → Type 0
Counts K = List (K × ℕ)

-- the count of a key, 0 where it has no entry
abbrev pub count_of : {K : Type 0} → (K → K → Ordering) → Counts K → K → ℕ
count_of cmp m k = unwrap_or (lookup (is_at (cmp k)) m) 0

-- with one more of the key
abbrev pub linked : {K : Type 0} → (K → K → Ordering) → Counts K → K → Counts K
linked cmp m k =
    if count_of cmp m k == 0 then insert_entry cmp m k 1
    else set_value (is_at (cmp k)) m (count_of cmp m k + 1)

-- with one less of the key, whose entry goes at 0
abbrev pub unlinked : {K : Type 0} → (K → K → Ordering) → Counts K → K → Counts K
unlinked cmp m k =
    if count_of cmp m k == 1 then remove_entry (is_at (cmp k)) m
    else set_value (is_at (cmp k)) m (count_of cmp m k - 1)

-- what counts by key are: the keys strictly ascend, and each count is 1 or more
pub record IsCounts {K : Type 0} (cmp : K → K → Ordering) (m : Counts K) : Type 0 where
  pub order : IsStrictlySortedBy cmp (keys_of m)
  pub some : All (λ n. 1 ≤ n) (values_of m)

-- with one more of each key of a list
abbrev pub linked_all : {K : Type 0} → (K → K → Ordering) → Counts K → List K → Counts K
linked_all cmp m [] = m
linked_all cmp m (k ∷ ks) = linked_all cmp (linked cmp m k) ks

-- with one less of each key of a list
abbrev pub unlinked_all : {K : Type 0} → (K → K → Ordering) → Counts K → List K → Counts K
unlinked_all cmp m [] = m
unlinked_all cmp m (k ∷ ks) = unlinked_all cmp (unlinked cmp m k) ks

-- how often a key stands in a list
abbrev pub times : {K : Type 0} → (K → K → Ordering) → K → List K → ℕ
times cmp q [] = 0
times cmp q (k ∷ ks) = (if is_eq (cmp q k) then 1 else 0) + times cmp q ks

-- how many keys of a list pass a test
abbrev pub how_many : {K : Type 0} → (K → Bool) → List K → ℕ
how_many test [] = 0
how_many test (k ∷ ks) = (if test k then 1 else 0) + how_many test ks

-- the keys of a list in their order, each once
abbrev pub distinct : {K : Type 0} → (K → K → Ordering) → List K → List K
distinct cmp [] = []
distinct cmp (k ∷ ks) = insert_key cmp (distinct cmp ks) k
