-- The counts of nexthops and groups, as the paths of a route come in or go: they stay right, and how many are live.
use Rattle.std.proofs.Common.{◌≡◌, ℕ, ◌+◌, ◌<◌, ◌≤◌, ◌==◌, List, [], ◌∷◌, length, Bool, true, false, cond, not, ◌&&◌, ◌||◌, refl, sym, ◌∙◌, ap, arith}
use Rattle.std.specs.Prelude.{count_by, IsTrue}
use Rattle.std.specs.List.{list_any, sum_by}
use Rattle.std.specs.List.Sorted.{IsStrictlySortedBy}
use Rattle.std.specs.Ordering.{is_eq}
use Rattle.std.specs.Map.{keys_of}
use Rattle.std.specs.BTreeMap.{is_at}
use Rattle.std.proofs.lemmas.Bool.{eqb-true}
use Rattle.std.proofs.lemmas.Bool.Decides.{nat_tests}
use Rattle.std.proofs.lemmas.Cmp.{tied_itself}
use Rattle.std.proofs.lemmas.List.Sums.{count_by-le-length}
use Rattle.std.proofs.lemmas.Map.Entries.{length-keys_of}
use Rattle.prefix_width.specs.Nexthop.{Hop}
use Rattle.prefix_width.specs.Order.{hop_cmp}
use Rattle.nhgrp_slots.specs.Order.{spread_cmp, spread_total}
use Rattle.prefix_width.proofs.OrderLemmas.{hop_total}
use Rattle.nhgrp_slots.specs.PathList as list
use Rattle.nhgrp_slots.specs.PathList.{PathList}
use Rattle.nhgrp_slots.specs.Spread.{are_several, hops, is_group, IsSpread, names, Spread}
use Rattle.counted_map.specs.Counts.{Counts, count_of, linked, unlinked, times, IsCounts}
use Rattle.prefix_width.proofs.OrderLemmas.{hop_exact}
use Rattle.nhgrp_slots.proofs.PathOrder.{spread_exact}
use Rattle.counted_map.proofs.CountMapLemmas.{linked_at, unlinked_at, linked_all_at, unlinked_all_at, IsCounts-linked, IsCounts-unlinked, IsCounts-linked_all, length-linked, length-unlinked, length-linked_all, length-unlinked_all, times_once, sum-linked, sum-unlinked, same_counts}
use Rattle.rib_store.specs.Uses.{Uses, gained, lost, with_paths, without_paths, live_in, grown, shrunk, AreCounts, HasPaths, IsCounted}

pub any-hops : (f : Hop → Bool) (ps : PathList) → list_any f (list.hops ps) ≡ list_any (λ p. f p.nexthop) ps
any-hops f [] = refl
any-hops f (p ∷ ps) = ap (λ b. f p.nexthop || b) (any-hops f ps)

names_once : (h : Hop) (ps : Spread) → IsSpread ps → times hop_cmp h (hops ps) ≡ cond (names h ps) 1 0
names_once h ps is = times_once hop_cmp hop_total hop_exact (hops ps) h is.list.ascend ∙ ap (λ b. cond b 1 0) (any-hops (is_at (hop_cmp h)) ps.paths)

times-cond : (h : Hop) (b : Bool) (ks : List Hop) → times hop_cmp h (cond b [] ks) ≡ cond b 0 (times hop_cmp h ks)
times-cond h true ks = refl
times-cond h false ks = refl

cond-cond : (b : Bool) (x y : ℕ) → x ≡ y → cond b 0 x ≡ cond b 0 y
cond-cond b x y e = ap (cond b 0) e

times-gained : (u : Uses) (ps : Spread) (h : Hop) → IsSpread ps → times hop_cmp h (gained u ps) ≡ cond (is_group ps && not (count_of spread_cmp u.groups ps == 0)) 0 (cond (names h ps) 1 0)
times-gained u ps h is = times-cond h (is_group ps && not (count_of spread_cmp u.groups ps == 0)) (hops ps) ∙ cond-cond (is_group ps && not (count_of spread_cmp u.groups ps == 0)) _ _ (names_once h ps is)

times-lost : (u : Uses) (ps : Spread) (h : Hop) → IsSpread ps → times hop_cmp h (lost u ps) ≡ cond (is_group ps && not (count_of spread_cmp u.groups ps == 1)) 0 (cond (names h ps) 1 0)
times-lost u ps h is = times-cond h (is_group ps && not (count_of spread_cmp u.groups ps == 1)) (hops ps) ∙ cond-cond (is_group ps && not (count_of spread_cmp u.groups ps == 1)) _ _ (names_once h ps is)

pick-keys : (f : Spread → Bool) (g : Bool) (m n : Counts Spread) → count_by f (keys_of (cond g m n)) ≡ cond g (count_by f (keys_of m)) (count_by f (keys_of n))
pick-keys f true m n = refl
pick-keys f false m n = refl

pick-count : (q : Spread) (g : Bool) (m n : Counts Spread) → count_of spread_cmp (cond g m n) q ≡ cond g (count_of spread_cmp m q) (count_of spread_cmp n q)
pick-count q true m n = refl
pick-count q false m n = refl

-- the numbers of one nexthop, as a list of paths comes in
come : (g z n : Bool) (old lists groups new lists' groups' t : ℕ) → old ≡ lists + groups → new ≡ old + t → t ≡ cond (g && not z) 0 (cond n 1 0) → lists' ≡ lists + cond (not g && n) 1 0 → groups' ≡ cond g (groups + cond z (cond n 1 0) 0) groups → new ≡ lists' + groups'
come true true true old lists groups new lists' groups' t a b d e f = omega arith
come true true false old lists groups new lists' groups' t a b d e f = omega arith
come true false true old lists groups new lists' groups' t a b d e f = omega arith
come true false false old lists groups new lists' groups' t a b d e f = omega arith
come false z true old lists groups new lists' groups' t a b d e f = omega arith
come false z false old lists groups new lists' groups' t a b d e f = omega arith

-- and as one goes
go_out : (g z n : Bool) (old lists groups new lists' groups' t : ℕ) → old ≡ lists + groups → new + t ≡ old → t ≡ cond (g && not z) 0 (cond n 1 0) → lists' + cond (not g && n) 1 0 ≡ lists → groups ≡ cond g (groups' + cond z (cond n 1 0) 0) groups' → new ≡ lists' + groups'
go_out true true true old lists groups new lists' groups' t a b d e f = omega arith
go_out true true false old lists groups new lists' groups' t a b d e f = omega arith
go_out true false true old lists groups new lists' groups' t a b d e f = omega arith
go_out true false false old lists groups new lists' groups' t a b d e f = omega arith
go_out false z true old lists groups new lists' groups' t a b d e f = omega arith
go_out false z false old lists groups new lists' groups' t a b d e f = omega arith

pub AreCounts-with : (u : Uses) (ps : Spread) → AreCounts u → AreCounts (with_paths u ps)
AreCounts-with u ps is =
    let a = IsCounts-linked spread_cmp spread_total u.groups ps is.groups in
    record {
      nhops = IsCounts-linked_all hop_cmp hop_total u.nhops (gained u ps) is.nhops;
      groups = elim (is_group ps) as (λ b. IsCounts spread_cmp (cond b (linked spread_cmp u.groups ps) u.groups)) [ true ↦ a | false ↦ is.groups ];
    }

-- the counts stay right as a list of paths comes in
pub IsCounted-with : (lists more : List Spread) (u : Uses) (ps : Spread) → IsCounted lists u → AreCounts u → IsSpread ps → ((f : Spread → ℕ) → sum_by f more ≡ sum_by f lists + f ps) → IsCounted more (with_paths u ps)
IsCounted-with lists more u ps counted are is sums = record {
  nhops = λ h.
      let keys = sum-linked spread_cmp spread_total (λ g. cond (names h g) 1 0) u.groups ps are.groups in
      come (is_group ps) (count_of spread_cmp u.groups ps == 0) (names h ps) _ _ _ _ _ _ _ (counted.nhops h)
      (linked_all_at hop_cmp hop_total hop_exact u.nhops (gained u ps) h)
      (times-gained u ps h is)
      (sums (λ qs. cond (not (is_group qs) && names h qs) 1 0))
      (pick-keys (names h) (is_group ps) (linked spread_cmp u.groups ps) u.groups ∙ ap (λ n. cond (is_group ps) n (count_by (names h) (keys_of u.groups))) keys);
  groups = λ q.
      pick-count q (is_group ps) (linked spread_cmp u.groups ps) u.groups
      ∙ grow (is_group ps) (is_eq (spread_cmp q ps)) _ _ _ _ (linked_at spread_cmp spread_total spread_exact u.groups ps q) (counted.groups q) (sums (λ qs. cond (is_group qs && is_eq (spread_cmp q qs)) 1 0));
}
  where
    grow : (g b : Bool) (new old lists' lists : ℕ) → new ≡ old + cond b 1 0 → old ≡ lists → lists' ≡ lists + cond (g && b) 1 0 → cond g new old ≡ lists'
    grow true true new old lists' lists a d e = omega arith
    grow true false new old lists' lists a d e = omega arith
    grow false b new old lists' lists a d e = omega arith

one_itself : (g : Spread) → ◌≡◌ {A = ℕ} (cond (is_eq (spread_cmp g g)) 1 0) 1
one_itself g = let f : Bool → ℕ = λ b. cond b 1 0 in ap f (ap is_eq (tied_itself spread_total g))

first-le : (g z n : Bool) (t lists lists' groups all : ℕ) → t ≡ cond (g && not z) 0 (cond n 1 0) → lists' + cond (not g && n) 1 0 ≡ lists → (g ≡ true → z ≡ true → cond n 1 0 ≤ groups) → all ≡ lists + groups → t ≤ all
first-le true true n t lists lists' groups all a b d e = let p = d refl refl in omega arith
first-le true false n t lists lists' groups all a b d e = omega arith
first-le false z true t lists lists' groups all a b d e = omega arith
first-le false z false t lists lists' groups all a b d e = omega arith

and_true : (a b : Bool) → a ≡ true → b ≡ true → ◌≡◌ {A = ℕ} (cond (a && b) 1 0) 1
and_true true true e f = refl
and_true true false e f = cc
and_true false b e f = cc

-- what stands in the table may be taken from the counts
pub HasPaths-from : (lists less : List Spread) (u : Uses) (ps : Spread) → IsCounted lists u → IsSpread ps → ((f : Spread → ℕ) → sum_by f less + f ps ≡ sum_by f lists) → HasPaths u ps
HasPaths-from lists less u ps counted is sums = record {
  nhops = λ h.
      first-le (is_group ps) (count_of spread_cmp u.groups ps == 1) (names h ps) _ _ _ _ _ (times-lost u ps h is)
      (sums (λ qs. cond (not (is_group qs) && names h qs) 1 0))
      (λ g z. key_there h g z)
      (counted.nhops h);
  group = λ g. there g;
}
  where
    there : IsTrue (is_group ps) → 1 ≤ count_of spread_cmp u.groups ps
    there g =
        let e = counted.groups ps in
        let s = sums (λ qs. cond (is_group qs && is_eq (spread_cmp ps qs)) 1 0) in
        let one = and_true (is_group ps) (is_eq (spread_cmp ps ps)) g (ap is_eq (tied_itself spread_total ps)) in
        omega arith

    key_there : (h : Hop) → is_group ps ≡ true → (count_of spread_cmp u.groups ps == 1) ≡ true → cond (names h ps) 1 0 ≤ count_by (names h) (keys_of u.groups)
    key_there h g z =
        let n = eqb-true _ _ z in
        let s = sum-unlinked spread_cmp spread_total spread_exact (λ g. cond (names h g) 1 0) u.groups ps (omega arith) in
        let f : Bool → ℕ = λ b. cond b (cond (names h ps) 1 0) 0 in
        let t = ap f z in
        omega arith

pub AreCounts-without : (u : Uses) (ps : Spread) → AreCounts u → HasPaths u ps → AreCounts (without_paths u ps)
AreCounts-without u ps is has = record {
  nhops = (unlinked_all_at hop_cmp hop_total hop_exact u.nhops (lost u ps) is.nhops has.nhops).0;
  groups = go (is_group ps) has.group;
}
  where
    go : (g : Bool) → (IsTrue g → 1 ≤ count_of spread_cmp u.groups ps) → IsCounts spread_cmp (cond g (unlinked spread_cmp u.groups ps) u.groups)
    go true h = IsCounts-unlinked spread_cmp spread_total u.groups ps is.groups (h refl)
    go false h = is.groups

-- the counts stay right as a list of paths goes
pub IsCounted-without : (lists less : List Spread) (u : Uses) (ps : Spread) → IsCounted lists u → AreCounts u → IsSpread ps → ((f : Spread → ℕ) → sum_by f less + f ps ≡ sum_by f lists) → IsCounted less (without_paths u ps)
IsCounted-without lists less u ps counted are is sums =
    let has = HasPaths-from lists less u ps counted is sums in
    record {
      nhops = λ h.
          go_out (is_group ps) (count_of spread_cmp u.groups ps == 1) (names h ps) _ _ _ _ _ _ _ (counted.nhops h)
          ((unlinked_all_at hop_cmp hop_total hop_exact u.nhops (lost u ps) are.nhops has.nhops).1 h)
          (times-lost u ps h is)
          (sums (λ qs. cond (not (is_group qs) && names h qs) 1 0))
          (keys h (is_group ps) has.group);
      groups = λ q. shrink q (is_group ps) has.group (counted.groups q) (sums (λ qs. cond (is_group qs && is_eq (spread_cmp q qs)) 1 0));
    }
  where
    keys : (h : Hop) (g : Bool) → (IsTrue g → 1 ≤ count_of spread_cmp u.groups ps) → count_by (names h) (keys_of u.groups) ≡ cond g (count_by (names h) (keys_of (cond g (unlinked spread_cmp u.groups ps) u.groups)) + cond (count_of spread_cmp u.groups ps == 1) (cond (names h ps) 1 0) 0) (count_by (names h) (keys_of (cond g (unlinked spread_cmp u.groups ps) u.groups)))
    keys h true has = sym (sum-unlinked spread_cmp spread_total spread_exact (λ g. cond (names h g) 1 0) u.groups ps (has refl))
    keys h false has = refl

    shrink : (q : Spread) (g : Bool) → (IsTrue g → 1 ≤ count_of spread_cmp u.groups ps) → {all rest : ℕ} → count_of spread_cmp u.groups q ≡ all → rest + cond (g && is_eq (spread_cmp q ps)) 1 0 ≡ all → count_of spread_cmp (cond g (unlinked spread_cmp u.groups ps) u.groups) q ≡ rest
    shrink q true has a b = let n = unlinked_at spread_cmp spread_total spread_exact u.groups ps q are.groups (has refl) in omega arith
    shrink q false has a b = omega arith

-- sizes
sorted-cond : (b : Bool) (ks : List Hop) → IsStrictlySortedBy hop_cmp ks → IsStrictlySortedBy hop_cmp (cond b [] ks)
unfolding IsStrictlySortedBy
sorted-cond true ks up = tt
sorted-cond false ks up = up

pub live_in-with : (u : Uses) (ps : Spread) → AreCounts u → IsSpread ps → live_in (with_paths u ps) ≡ live_in u + grown u ps
live_in-with u ps are is =
    let n = length-linked_all hop_cmp hop_total hop_exact u.nhops (gained u ps) are.nhops (sorted-cond _ (hops ps) is.list.ascend) in
    let g = go (is_group ps) in
    omega arith
  where
    go : (g : Bool) → length (cond g (linked spread_cmp u.groups ps) u.groups) ≡ length u.groups + cond (g && (count_of spread_cmp u.groups ps == 0)) 1 0
    go true = length-linked spread_cmp spread_total u.groups ps are.groups
    go false = omega arith

pub live_in-without : (u : Uses) (ps : Spread) → AreCounts u → IsSpread ps → HasPaths u ps → live_in (without_paths u ps) + shrunk u ps ≡ live_in u
live_in-without u ps are is has =
    let n = length-unlinked_all hop_cmp hop_total hop_exact u.nhops (lost u ps) are.nhops has.nhops (sorted-cond _ (hops ps) is.list.ascend) in
    let g = go (is_group ps) has.group in
    omega arith
  where
    go : (g : Bool) → (IsTrue g → 1 ≤ count_of spread_cmp u.groups ps) → length (cond g (unlinked spread_cmp u.groups ps) u.groups) + cond (g && (count_of spread_cmp u.groups ps == 1)) 1 0 ≡ length u.groups
    go true h = length-unlinked spread_cmp spread_total u.groups ps (h refl)
    go false h = omega arith

-- what came in may go out again, and all is as before
one_more : (g : Bool) (n m : ℕ) → m ≡ n + 1 → (g && not (cond g m n == 1)) ≡ (g && not (n == 0))
one_more true n m e = grind (arith, nat_tests)
one_more false n m e = refl

lost-with : (u : Uses) (ps : Spread) → lost (with_paths u ps) ps ≡ gained u ps
lost-with u ps =
    let l = linked_at spread_cmp spread_total spread_exact u.groups ps ps in
    let e = one_itself ps in
    let m : count_of spread_cmp (linked spread_cmp u.groups ps) ps ≡ count_of spread_cmp u.groups ps + 1 = omega arith in
    ap (λ n. cond (is_group ps && not (n == 1)) [] (hops ps)) (pick-count ps (is_group ps) (linked spread_cmp u.groups ps) u.groups)
    ∙ ap (λ b. cond b [] (hops ps)) (one_more (is_group ps) _ _ m)

pub HasPaths-with : (u : Uses) (ps : Spread) → HasPaths (with_paths u ps) ps
HasPaths-with u ps = record {
  nhops = λ h.
      let l = linked_all_at hop_cmp hop_total hop_exact u.nhops (gained u ps) h in
      let t = ap (times hop_cmp h) (lost-with u ps) in
      omega arith;
  group = λ g. go (is_group ps) g;
}
  where
    go : (g : Bool) → IsTrue g → 1 ≤ count_of spread_cmp (cond g (linked spread_cmp u.groups ps) u.groups) ps
    go true h =
        let l = linked_at spread_cmp spread_total spread_exact u.groups ps ps in
        let e = one_itself ps in
        omega arith
    go false h = cc

pub undone : (u : Uses) (ps : Spread) → AreCounts u → without_paths (with_paths u ps) ps ≡ u
undone u ps are =
    let has = HasPaths-with u ps in
    let with' = AreCounts-with u ps are in
    let out = AreCounts-without (with_paths u ps) ps with' has in
    let n : (without_paths (with_paths u ps) ps).nhops ≡ u.nhops = same_counts hop_cmp hop_total hop_exact _ _ out.nhops are.nhops (λ h. at_hop h) in
    let g : (without_paths (with_paths u ps) ps).groups ≡ u.groups = same_counts spread_cmp spread_total spread_exact _ _ out.groups are.groups (λ q. at_group (is_group ps) q has.group) in
    λ i. record { nhops = n i; groups = g i }
  where
    at_hop : (h : Hop) → count_of hop_cmp (without_paths (with_paths u ps) ps).nhops h ≡ count_of hop_cmp u.nhops h
    at_hop h =
        let l = linked_all_at hop_cmp hop_total hop_exact u.nhops (gained u ps) h in
        let t = ap (times hop_cmp h) (lost-with u ps) in
        let o = (unlinked_all_at hop_cmp hop_total hop_exact (with_paths u ps).nhops (lost (with_paths u ps) ps) (AreCounts-with u ps are).nhops (HasPaths-with u ps).nhops).1 h in
        omega arith

    at_group : (g : Bool) (q : Spread) → (IsTrue g → 1 ≤ count_of spread_cmp (cond g (linked spread_cmp u.groups ps) u.groups) ps) → count_of spread_cmp (cond g (unlinked spread_cmp (cond g (linked spread_cmp u.groups ps) u.groups) ps) (cond g (linked spread_cmp u.groups ps) u.groups)) q ≡ count_of spread_cmp u.groups q
    at_group true q h =
        let l = linked_at spread_cmp spread_total spread_exact u.groups ps q in
        let o = unlinked_at spread_cmp spread_total spread_exact (linked spread_cmp u.groups ps) ps q (IsCounts-linked spread_cmp spread_total u.groups ps are.groups) (h refl) in
        omega arith
    at_group false q h = refl

-- bounds
pub few_hops : (lists : List Spread) (u : Uses) (h : Hop) → IsCounted lists u → count_of hop_cmp u.nhops h ≤ length lists + length u.groups
few_hops lists u h counted =
    let e = counted.nhops h in
    let a = count_by-le-length (λ ps. not (is_group ps) && names h ps) lists in
    let b = count_by-le-length (names h) (keys_of u.groups) in
    let l = length-keys_of u.groups in
    omega arith

pub few_groups : (lists : List Spread) (u : Uses) (g : Spread) → IsCounted lists u → count_of spread_cmp u.groups g ≤ length lists
few_groups lists u g counted =
    let e = counted.groups g in
    let a = count_by-le-length (λ ps. is_group ps && is_eq (spread_cmp g ps)) lists in
    omega arith

-- counts with a route of these paths
pub count_with : (u : Uses) (ps : Spread) (h : Hop) → IsSpread ps → (g n : Bool) → g ≡ not (is_group ps && not (count_of spread_cmp u.groups ps == 0)) → n ≡ names h ps → count_of hop_cmp (with_paths u ps).nhops h ≡ count_of hop_cmp u.nhops h + cond g (cond n 1 0) 0
count_with u ps h is g n e f =
    let l = linked_all_at hop_cmp hop_total hop_exact u.nhops (gained u ps) h in
    let t = times-gained u ps h is in
    let k : ◌≡◌ {A = ℕ} (cond (is_group ps && not (count_of spread_cmp u.groups ps == 0)) 0 (cond (names h ps) 1 0)) (cond g (cond n 1 0) 0) =
    turn (is_group ps && not (count_of spread_cmp u.groups ps == 0)) (names h ps) g n e f in
    omega arith
  where
    turn : (b m g n : Bool) → g ≡ not b → n ≡ m → ◌≡◌ {A = ℕ} (cond b 0 (cond m 1 0)) (cond g (cond n 1 0) 0)
    turn true m g n e f = ap (λ x. cond x (cond n 1 0) 0) (sym e)
    turn false m g n e f = ap (λ x. cond x 1 0) (sym f) ∙ ap (λ x. cond x (cond n 1 0) 0) (sym e)

pub group_with : (u : Uses) (ps q : Spread) (g n : Bool) → g ≡ is_group ps → n ≡ is_eq (spread_cmp q ps) → count_of spread_cmp (with_paths u ps).groups q ≡ count_of spread_cmp u.groups q + cond g (cond n 1 0) 0
group_with u ps q g n e f =
    pick-count q (is_group ps) (linked spread_cmp u.groups ps) u.groups ∙ turn (is_group ps) g e
  where
    turn : (b g : Bool) → g ≡ b → cond b (count_of spread_cmp (linked spread_cmp u.groups ps) q) (count_of spread_cmp u.groups q) ≡ count_of spread_cmp u.groups q + cond g (cond n 1 0) 0
    turn true g e =
        let l = linked_at spread_cmp spread_total spread_exact u.groups ps q in
        let k : ◌≡◌ {A = ℕ} (cond g (cond n 1 0) 0) (cond (is_eq (spread_cmp q ps)) 1 0) = ap (λ x. cond x (cond n 1 0) 0) e ∙ ap (λ x. cond x 1 0) f in
        omega arith
    turn false g e =
        let k : ◌≡◌ {A = ℕ} (cond g (cond n 1 0) 0) 0 = ap (λ x. cond x (cond n 1 0) 0) e in
        omega arith

pub is_group_length : (s : Spread) (g : Bool) → (g ≡ true → 2 ≤ length s.paths) → (g ≡ false → length s.paths < 2) → g ≡ is_group s
is_group_length s g f h = go s.paths g f h
  where
    go : (ps : PathList) (g : Bool) → (g ≡ true → 2 ≤ length ps) → (g ≡ false → length ps < 2) → g ≡ are_several ps
    go [] true f h = let x = f refl in absurd (omega arith)
    go [] false f h = refl
    go (p ∷ []) true f h = let x = f refl in absurd (omega arith)
    go (p ∷ []) false f h = refl
    go (p ∷ q ∷ ps) true f h = refl
    go (p ∷ q ∷ ps) false f h = let x = h refl in absurd (omega arith)
