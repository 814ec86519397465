-- The laws of indexes, for targets.
use Rattle.std.proofs.Common.{◌≡◌, ℕ, zero, suc, ◌+◌, ◌-◌, ◌*◌, ◌<◌, ◌≤◌, ◌⊎◌, true, false, cond, refl, sym, ◌∙◌, ap, arith, inl, inr, Option, Some, None, List, [], ◌∷◌, length}
use Rattle.std.specs.Prelude.{All, IsSome, IsTrue}
use Rattle.std.specs.List.{slice_get}
use Rattle.std.specs.Map.{keys_of, values_of}
use Rattle.std.specs.Ordering.{is_eq}
use Rattle.std.specs.declared.cmp.Ordering.{Ordering}
use Rattle.std.specs.declared.cmp.Ordering.TheVariants.{Less, Equal, Greater}
use Rattle.std.proofs.Math.Nat.{mul-le-mul_right}
use Rattle.std.proofs.lemmas.Bool.{false≢true}
use Rattle.std.proofs.lemmas.Cmp.{tied_itself}
use Rattle.std.proofs.lemmas.List.Elements.{All-head, All-tail, All-cons, All-nil}
use Rattle.prefix_width.specs.Limits.{last_index}
use Rattle.nhgrp_slots.specs.PathList.{PathList}
use Rattle.nhgrp_slots.specs.Target.{target_cmp}
use Rattle.nhgrp_slots.specs.declared.target.Target.{Target}
use Rattle.nhgrp_slots.specs.declared.target.Target.TheVariants.{One, Many}
use Rattle.nhgrp_slots.proofs.TargetOrder.{target_total, target_exact}
use Rattle.nhop_index.specs.Indexes.{index_in, named, newest, window, next_names, all_names}
use Rattle.nhop_index.specs.Laws.{IsNamed, IsOneToOne, IndexesApart, IndexesFit, IsLive, IsClosed, NexthopsAreNamed}
use Rattle.nhop_index.proofs.VersionLemmas.{keys-named, found, apart, once, small}

pub indexes_apart : (w : ℕ) → IndexesApart w
indexes_apart w = apart (target_cmp {w = w}) target_exact

-- what holds of each target with its index
all_named : {X : Type 0} (P : X × ℕ → Type 0) (names : List (X × ℕ)) → ((t : X) (i : ℕ) → IsNamed t i names → P (t, i)) → All P names
all_named P [] each = All-nil P
all_named P (e ∷ es) each = All-cons P e es (each e.0 e.1 (inl refl)) (all_named P es (λ t i h. each t i (inr h)))

-- at most K times LIVE, which is no more than the greatest index
within_last : (K LIVE i : ℕ) → 1 ≤ K → i ≤ K * LIVE → i ≤ last_index K LIVE
within_last zero LIVE i one h = absurd (omega arith)
within_last (suc k) LIVE i one h = omega arith

pub fit_newest : {w : ℕ} (K LIVE : ℕ) (lives : List (List (Target w))) → 1 ≤ K → All (λ ts. length ts ≤ LIVE) lives
    → (a : ℕ) (xs : List (Target w × ℕ)) → slice_get (all_names target_cmp K lives) a ≡ Some xs → All (λ e. (1 ≤ e.1) × (e.1 ≤ last_index K LIVE)) xs
fit_newest {w} K LIVE lives one few a xs at = all_named (λ e. (1 ≤ e.1) × (e.1 ≤ last_index K LIVE)) xs
    (λ t i h. let s = small (target_cmp {w = w}) target_exact K LIVE lives a xs t i one few at h in (s.0, within_last K LIVE i one s.1))

keys_at : {w : ℕ} (K : ℕ) (lives : List (List (Target w))) (a : ℕ) (live : List (Target w)) (xs : List (Target w × ℕ)) → slice_get lives a ≡ Some live → slice_get (all_names target_cmp K lives) a ≡ Some xs → keys_of xs ≡ live
keys_at K [] a live xs at is = absurd (let h = at in cc)
keys_at {w} K (ts ∷ older) zero live xs at is =
    let e : next_names target_cmp K (all_names (target_cmp {w = w}) K older) ts ≡ xs = cc in
    let f : ts ≡ live = cc in
    ap (λ ns. keys_of ns) (sym e) ∙ keys-named (target_cmp {w = w}) (newest (all_names target_cmp K older)) ts (window K (all_names (target_cmp {w = w}) K older)) ∙ f
keys_at K (ts ∷ older) (suc a) live xs at is = keys_at K older a live xs at is

pub indexes_fit : (w : ℕ) → IndexesFit w
indexes_fit w K LIVE lives a live xs one few at is = (keys_at {w = w} K lives a live xs at is, fit_newest {w = w} K LIVE lives one few a xs is)

-- a target that is named
named_live : {w : ℕ} (names : List (Target w × ℕ)) (t : Target w) (i : ℕ) → IsNamed t i names → IsLive t (keys_of names)
named_live [] t i h = elim h [ ]
named_live (e ∷ es) t i (inl h) = inl (ap (λ x. x.0) h)
named_live (e ∷ es) t i (inr h) = inr (named_live es t i h)

live_some : {w : ℕ} (names : List (Target w × ℕ)) (t : Target w) → IsLive t (keys_of names) → IsSome (index_in target_cmp names t)
live_some [] t h = elim h [ ]
live_some {w} (e ∷ es) t (inl h) =
    let k : target_cmp t e.0 ≡ Equal = ap (target_cmp t) h ∙ tied_itself (target_total {w = w}) t in
    rw k refl
live_some {w} (e ∷ es) t (inr h) = go (target_cmp t e.0) (live_some es t h)
  where
    go : (o : Ordering) → IsSome (index_in target_cmp es t) → IsSome (cond (is_eq o) (Some e.1) (index_in target_cmp es t))
    go Less k = k
    go Equal k = refl
    go Greater k = k

pub nexthops_are_named : (w : ℕ) → NexthopsAreNamed w
nexthops_are_named w names s closed has = go (index_in target_cmp names (Many s)) refl has
  where
    each : (ps : PathList) → All (λ p. IsLive {w = w} (One p.nexthop) (keys_of names)) ps → All (λ p. IsSome (index_in (target_cmp {w = w}) names (One p.nexthop))) ps
    each [] all = All-nil (λ p. IsSome (index_in (target_cmp {w = w}) names (One p.nexthop)))
    each (p ∷ ps) all =
        All-cons (λ p. IsSome (index_in (target_cmp {w = w}) names (One p.nexthop))) p ps
        (live_some names (One p.nexthop) (All-head (λ p. IsLive {w = w} (One p.nexthop) (keys_of names)) p ps all))
        (each ps (All-tail (λ p. IsLive {w = w} (One p.nexthop) (keys_of names)) p ps all))

    go : (o : Option ℕ) → index_in (target_cmp {w = w}) names (Many s) ≡ o → IsSome o → All (λ p. IsSome (index_in (target_cmp {w = w}) names (One p.nexthop))) s.paths
    go None e h = absurd (false≢true h)
    go (Some i) e h = each s.paths (closed s (named_live names (Many s) i (found (target_cmp {w = w}) target_exact names (Many s) i e)))
