-- The live targets: they ascend, the nexthops of each group are among them, and so is what each route leads to.
use Rattle.std.proofs.Common.{◌≡◌, ◌∙◌, ℕ, ◌≤◌, Bool, true, false, not, ◌||◌, ◌&&◌, List, [], ◌∷◌, map, filter, length, refl, sym, ap, subst, arith, inl, inr}
use Rattle.std.specs.Prelude.{All, Contains}
use Rattle.std.specs.List.{list_any, AllByRecursion}
use Rattle.std.specs.List.Sorted.{IsStrictlySortedBy}
use Rattle.std.specs.Ordering.{is_eq}
use Rattle.std.specs.declared.cmp.Ordering.TheVariants.{Less}
use Rattle.std.specs.Map.{values_of}
use Rattle.std.specs.BTreeMap.{is_at}
use Rattle.std.proofs.lemmas.Bool.{cases_Bool, or_left, or_right, false≢true}
use Rattle.std.proofs.lemmas.Cmp.{tied_itself}
use Rattle.std.proofs.lemmas.List.Elements.{All-nil, All-cons, All-head, All-tail, All-weaker}
use Rattle.std.proofs.lemmas.List.Folds.{list_any-append}
use Rattle.std.proofs.lemmas.Map.Views.{Contains-from_any}
use Rattle.prefix_width.specs.Nexthop.{Hop}
use Rattle.prefix_width.specs.Order.{hop_cmp}
use Rattle.prefix_width.proofs.OrderLemmas.{hop_total, hop_exact}
use Rattle.counted_map.proofs.CountMapLemmas.{any-distinct, eq_from_is_eq, sorted-distinct}
use Rattle.nhgrp_slots.specs.Order.{spread_cmp, spread_total}
use Rattle.nhgrp_slots.specs.PathList as list
use Rattle.nhgrp_slots.specs.PathList.{PathList, IsPathList}
use Rattle.nhgrp_slots.specs.Spread.{Spread, IsGroup, are_several, hops, is_group}
use Rattle.nhgrp_slots.specs.Target.{IsTarget, target_cmp, target_in, target_of}
use Rattle.nhgrp_slots.specs.declared.target.Target.{Target}
use Rattle.nhgrp_slots.specs.declared.target.Target.TheVariants.{One, Many}
use Rattle.nhgrp_slots.proofs.PathOrder.{spread_exact}
use Rattle.rib_store.specs.Live.{hops_of, live_hops, live_groups}
use Rattle.rib_store.specs.Table.{Table}
use Rattle.rib_store.specs.Targets.{ones, manies, targets_of, live, HasHops, AreClosed, LeadToLive}
use Rattle.rib_store.proofs.LiveLemmas.{any-filter, any-in_hops}

-- what an element passes, some element passes
abbrev Passes : {X : Type 0} → List X → X → Type 0
Passes {X} xs x = (f : X → Bool) → f x ≡ true → list_any f xs ≡ true

all_pass : {X : Type 0} (xs : List X) → All (Passes xs) xs
all_pass [] = All-nil (Passes [])
all_pass {X} (x ∷ xs) =
    All-cons (Passes (x ∷ xs)) x xs (λ f h. or_left (f x) (list_any f xs) h)
    (All-weaker (Passes xs) (Passes (x ∷ xs)) (λ y h f e. or_right (f x) (list_any f xs) (h f e)) xs (all_pass xs))

any-map : {X Y : Type 0} (f : Y → Bool) (g : X → Y) (xs : List X) → list_any f (map g xs) ≡ list_any (λ x. f (g x)) xs
any-map f g [] = refl
any-map f g (x ∷ xs) = ap (λ b. f (g x) || b) (any-map f g xs)

-- a test that the second of two asks for is passed where both are
any-right : {X : Type 0} (f g : X → Bool) (xs : List X) → list_any (λ x. f x && g x) xs ≡ true → list_any g xs ≡ true
any-right f g [] e = e
any-right f g (x ∷ xs) e = go (f x) (g x) e (any-right f g xs)
  where
    go : (a b : Bool) → ((a && b) || list_any (λ y. f y && g y) xs) ≡ true → (list_any (λ y. f y && g y) xs ≡ true → list_any g xs ≡ true) → (b || list_any g xs) ≡ true
    go true true e later = refl
    go true false e later = later e
    go false b e later = or_right b (list_any g xs) (later e)

any-never : {X : Type 0} (f : X → Bool) (xs : List X) → list_any (λ x. f x && not (f x)) xs ≡ true → ⊥
any-never f [] e = false≢true e
any-never f (x ∷ xs) e = go (f x) e (any-never f xs)
  where
    go : (a : Bool) → ((a && not a) || list_any (λ y. f y && not (f y)) xs) ≡ true → (list_any (λ y. f y && not (f y)) xs ≡ true → ⊥) → ⊥
    go true e later = later e
    go false e later = later e

group_length : (ps : PathList) → are_several ps ≡ true → 2 ≤ length ps
group_length [] e = absurd (false≢true e)
group_length (p ∷ []) e = absurd (false≢true e)
group_length (p ∷ q ∷ ps) e = omega arith

-- what a group passes, a group of the table passes
in_table : (lists : List Spread) (ps : Spread) → Passes (live_groups lists) ps → (f : Spread → Bool) → f ps ≡ true → list_any (λ qs. is_group qs && f qs) lists ≡ true
in_table lists ps pass f e =
    sym (any-filter f is_group lists) ∙ sym (any-distinct spread_cmp spread_total spread_exact f (filter is_group lists)) ∙ pass f e

module _ (w : ℕ) where
  -- targets that compare equal are one
  one_target : (x y : Target w) → is_at (target_cmp x) y ≡ true → x ≡ y
  one_target (One x) (One y) e = ap {B = Target w} (λ h. One h) (hop_exact x y (eq_from_is_eq (hop_cmp x y) e))
  one_target (One x) (Many y) e = absurd (false≢true e)
  one_target (Many x) (One y) e = absurd (false≢true e)
  one_target (Many x) (Many y) e = ap {B = Target w} (λ ps. Many ps) (spread_exact x y (eq_from_is_eq (spread_cmp x y) e))

  -- the targets of ascending nexthops and groups ascend
  after_group : (g : Spread) (gs : List Spread) → AllByRecursion (λ k. spread_cmp g k ≡ Less) gs → AllByRecursion (λ t. target_cmp {w = w} (Many g) t ≡ Less) (manies {w = w} gs)
  after_group g [] all = tt
  after_group g (k ∷ gs) all = (all.0, after_group g gs all.1)

  groups_after : (h : Hop) (gs : List Spread) → AllByRecursion (λ t. target_cmp {w = w} (One h) t ≡ Less) (manies {w = w} gs)
  groups_after h [] = tt
  groups_after h (g ∷ gs) = (refl, groups_after h gs)

  after_hop : (h : Hop) (hs : List Hop) (gs : List Spread) → AllByRecursion (λ k. hop_cmp h k ≡ Less) hs → AllByRecursion (λ t. target_cmp {w = w} (One h) t ≡ Less) (targets_of {w = w} hs gs)
  after_hop h [] gs all = groups_after h gs
  after_hop h (k ∷ hs) gs all = (all.0, after_hop h hs gs all.1)

  groups_ascend : (gs : List Spread) → IsStrictlySortedBy spread_cmp gs → IsStrictlySortedBy (target_cmp {w = w}) (manies {w = w} gs)
  unfolding IsStrictlySortedBy
  groups_ascend [] up = tt
  groups_ascend (g ∷ gs) up = (after_group g gs up.0, groups_ascend gs up.1)

  targets_ascend : (hs : List Hop) (gs : List Spread) → IsStrictlySortedBy hop_cmp hs → IsStrictlySortedBy spread_cmp gs → IsStrictlySortedBy (target_cmp {w = w}) (targets_of {w = w} hs gs)
  unfolding IsStrictlySortedBy
  targets_ascend [] gs hops_up up = groups_ascend gs up
  targets_ascend (h ∷ hs) gs hops_up up = (after_hop h hs gs hops_up.0, targets_ascend hs gs hops_up.1 up)

  pub live_ascends : (rows : Table) → IsStrictlySortedBy (target_cmp {w = w}) (live {w = w} rows)
  live_ascends rows =
      targets_ascend (live_hops (values_of rows)) (live_groups (values_of rows))
      (sorted-distinct hop_cmp hop_total (hops_of (values_of rows)))
      (sorted-distinct spread_cmp spread_total (filter is_group (values_of rows)))

  -- what holds of each nexthop and of each group holds of the targets
  all_targets : (P : Target w → Type 0) (hs : List Hop) (gs : List Spread) → ((h : Hop) → P (One h)) → All (λ ps. P (Many ps)) gs → All P (targets_of {w = w} hs gs)
  all_targets P [] [] each all = All-nil P
  all_targets P [] (g ∷ gs) each all =
      All-cons P (Many g) (manies {w = w} gs) (All-head (λ ps. P (Many ps)) g gs all) (all_targets P [] gs each (All-tail (λ ps. P (Many ps)) g gs all))
  all_targets P (h ∷ hs) gs each all = All-cons P (One h) (targets_of {w = w} hs gs) (each h) (all_targets P hs gs each all)

  pub live_targets : (rows : Table) → All (IsTarget {w = w}) (live {w = w} rows)
  live_targets rows =
      all_targets IsTarget (live_hops (values_of rows)) (live_groups (values_of rows)) (λ h. tt)
      (All-weaker (Passes (live_groups (values_of rows))) IsGroup (λ ps pass. several ps pass) (live_groups (values_of rows)) (all_pass (live_groups (values_of rows))))
    where
      several : (ps : Spread) → Passes (live_groups (values_of rows)) ps → IsGroup ps
      several ps pass = elim (cases_Bool (is_group ps)) [
        | inl e ↦ group_length ps.paths e
        | inr n ↦ absurd (any-never is_group (values_of rows) (in_table (values_of rows) ps pass (λ qs. not (is_group qs)) (ap not n)))
      ]

  any-targets : (t : Target w) (hs : List Hop) (gs : List Spread)
      → list_any (is_at (target_cmp t)) (targets_of {w = w} hs gs) ≡ (list_any (λ h. is_at (target_cmp t) (One h)) hs || list_any (λ ps. is_at (target_cmp t) (Many ps)) gs)
  any-targets t hs gs =
      list_any-append (is_at (target_cmp t)) (ones {w = w} hs) (manies {w = w} gs)
      ∙ ap (λ b. b || list_any (is_at (target_cmp t)) (manies {w = w} gs)) (any-map {Y = Target w} (is_at (target_cmp t)) (λ h. One h) hs)
      ∙ ap (λ b. list_any (λ h. is_at (target_cmp t) (One h)) hs || b) (any-map {Y = Target w} (is_at (target_cmp t)) (λ ps. Many ps) gs)

  -- a nexthop of one of the lists is live
  hop_live : (lists : List Spread) (h : Hop) → list_any (λ ps. list_any (is_at (hop_cmp h)) (hops ps)) lists ≡ true → Contains (targets_of {w = w} (live_hops lists) (live_groups lists)) (One h)
  hop_live lists h e =
      Contains-from_any one_target (One h) (targets_of {w = w} (live_hops lists) (live_groups lists))
      (any-targets (One h) (live_hops lists) (live_groups lists)
      ∙ or_left (list_any (is_at (hop_cmp h)) (live_hops lists)) (list_any (λ ps. is_at (target_cmp {w = w} (One h)) (Many ps)) (live_groups lists))
      (any-distinct hop_cmp hop_total hop_exact (is_at (hop_cmp h)) (hops_of lists) ∙ any-in_hops (is_at (hop_cmp h)) lists ∙ e))

  pub live_closed : (rows : Table) → AreClosed (live {w = w} rows)
  live_closed rows =
      all_targets (HasHops (live {w = w} rows)) (live_hops (values_of rows)) (live_groups (values_of rows)) (λ h. tt)
      (All-weaker (Passes (live_groups (values_of rows))) (λ ps. HasHops (live {w = w} rows) (Many ps)) (λ ps pass. has ps pass) (live_groups (values_of rows)) (all_pass (live_groups (values_of rows))))
    where
      has : (ps : Spread) → Passes (live_groups (values_of rows)) ps → All (λ h. Contains (live {w = w} rows) (One h)) (hops ps)
      has ps pass =
          All-weaker (Passes (hops ps)) (λ h. Contains (live {w = w} rows) (One h))
          (λ h mine. hop_live (values_of rows) h
          (any-right is_group (λ qs. list_any (is_at (hop_cmp h)) (hops qs)) (values_of rows)
          (in_table (values_of rows) ps pass (λ qs. list_any (is_at (hop_cmp h)) (hops qs)) (mine (is_at (hop_cmp h)) (ap is_eq (tied_itself hop_total h))))))
          (hops ps) (all_pass (hops ps))

  leads : (lists : List Spread) (s : Spread) → IsPathList s.paths → Passes lists s → Contains (targets_of {w = w} (live_hops lists) (live_groups lists)) (target_of {w = w} s)
  leads lists s is pass = go s.paths refl is
    where
      go : (ps : PathList) → ps ≡ s.paths → IsPathList ps → Contains (targets_of {w = w} (live_hops lists) (live_groups lists)) (target_in {w = w} s ps)
      go [] e is = absurd (omega (arith, is.some))
      go (p ∷ []) e is =
          hop_live lists p.nexthop (pass (λ t. list_any (is_at (hop_cmp p.nexthop)) (hops t))
          (subst (λ qs. list_any (is_at (hop_cmp p.nexthop)) (list.hops qs) ≡ true) e (or_left (is_at (hop_cmp p.nexthop) p.nexthop) false (ap is_eq (tied_itself hop_total p.nexthop)))))
      go (p ∷ q ∷ ps) e is =
          Contains-from_any one_target (Many s) (targets_of {w = w} (live_hops lists) (live_groups lists))
          (any-targets (Many s) (live_hops lists) (live_groups lists)
          ∙ or_right (list_any (λ h. is_at (target_cmp {w = w} (Many s)) (One h)) (live_hops lists)) (list_any (is_at (spread_cmp s)) (live_groups lists))
          (any-distinct spread_cmp spread_total spread_exact (is_at (spread_cmp s)) (filter is_group lists)
          ∙ any-filter (is_at (spread_cmp s)) is_group lists
          ∙ pass (λ r. is_group r && is_at (spread_cmp s) r) (subst (λ qs. (are_several qs && is_at (spread_cmp s) s) ≡ true) e (ap is_eq (tied_itself spread_total s)))))

  -- what each route leads to is live
  pub rows_lead : (rows : Table) → All (λ s. IsPathList s.paths) (values_of rows) → LeadToLive (live {w = w} rows) rows
  rows_lead rows lists = go (values_of rows) lists (all_pass (values_of rows))
    where
      go : (some : List Spread) → All (λ s. IsPathList s.paths) some → All (Passes (values_of rows)) some → All (λ paths. Contains (live {w = w} rows) (target_of {w = w} paths)) some
      go [] h k = All-nil (λ paths. Contains (live {w = w} rows) (target_of {w = w} paths))
      go (s ∷ some) h k =
          All-cons (λ paths. Contains (live {w = w} rows) (target_of {w = w} paths)) s some
          (leads (values_of rows) s (All-head (λ t. IsPathList t.paths) s some h) (All-head (Passes (values_of rows)) s some k))
          (go some (All-tail (λ t. IsPathList t.paths) s some h) (All-tail (Passes (values_of rows)) s some k))
