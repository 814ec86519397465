-- Numbers of nexthops lead back to them, and the live targets are counted.
use Rattle.std.proofs.Common.{◌≡◌, ℕ, ◌+◌, ◌-◌, ◌≤◌, Bool, true, false, cond, List, [], ◌∷◌, Some, length, length-append, refl, sym, ◌∙◌, ap, arith, slice_get, suc}
use Rattle.std.specs.List.{position_from}
use Rattle.std.specs.Map.{values_of}
use Rattle.std.specs.BTreeMap.{is_at}
use Rattle.std.specs.Ordering.{is_eq}
use Rattle.std.proofs.lemmas.List.{length-map}
use Rattle.std.proofs.lemmas.Option.{same_Some, none-some}
use Rattle.prefix_width.specs.Nexthop.{Hop}
use Rattle.prefix_width.specs.Order.{hop_cmp}
use Rattle.nhgrp_slots.specs.Spread.{Spread}
use Rattle.nhgrp_slots.specs.declared.target.Target.{Target}
use Rattle.nhgrp_slots.specs.declared.target.Target.TheVariants.{One, Many}
use Rattle.rib_store.specs.Plan.{named, firsts}
use Rattle.rib_store.specs.Live.{live_hops, live_groups}
use Rattle.rib_store.specs.Targets.{ones, manies}
use Rattle.rib_store.specs.Laws.{NumbersLeadBack, NumbersDiffer, LiveTargetsAreCounted}
use Rattle.rib_store.proofs.PlanLemmas.{one_hop}

-- the place that is found is one that passes the test
placed_at : (h : Hop) (i : ℕ) (hs : List Hop) (n : ℕ) → position_from (is_at (hop_cmp h)) i hs ≡ Some n → (i ≤ n) × (slice_get hs (n - i) ≡ Some h)
placed_at h i [] n e = absurd (none-some n e)
placed_at h i (x ∷ xs) n e = go (is_eq (hop_cmp h x)) refl e (λ g. placed_at h (i + 1) xs n g)
  where
    go : (b : Bool) → is_eq (hop_cmp h x) ≡ b → cond b (Some i) (position_from (is_at (hop_cmp h)) (i + 1) xs) ≡ Some n → (position_from (is_at (hop_cmp h)) (i + 1) xs ≡ Some n → (i + 1 ≤ n) × (slice_get xs (n - (i + 1)) ≡ Some h)) → (i ≤ n) × (slice_get (x ∷ xs) (n - i) ≡ Some h)
    go true f g later =
        let k : i ≡ n = same_Some i n g in
        let z : n - i ≡ 0 = omega arith in
        (omega arith, ap (slice_get (x ∷ xs)) z ∙ ap (λ (y : Hop). Some y) (sym (one_hop h x f)))
    go false f g later =
        let ih = later g in
        let m = ih.0 in
        let z : n - i ≡ suc (n - (i + 1)) = omega arith in
        (omega arith, ap (slice_get (x ∷ xs)) z ∙ ih.1)

pub numbers_lead_back : (w : ℕ) → NumbersLeadBack w
numbers_lead_back w plan h n e = placed_at h 1 (firsts (named plan)) n e

pub numbers_differ : (w : ℕ) → NumbersDiffer w
numbers_differ w plan h k n e f = same_Some h k (sym (numbers_lead_back w plan h n e).1 ∙ (numbers_lead_back w plan k n f).1)

pub live_targets_are_counted : (w : ℕ) → LiveTargetsAreCounted w
live_targets_are_counted w rows =
    let hs : List Hop = live_hops (values_of rows) in
    let gs : List Spread = live_groups (values_of rows) in
    let both = length-append (ones {w = w} hs) (manies {w = w} gs) in
    let a : length (ones {w = w} hs) ≡ length hs = length-map {B = Target w} hs (λ h. One h) in
    let b : length (manies {w = w} gs) ≡ length gs = length-map {B = Target w} gs (λ ps. Many ps) in
    omega arith
