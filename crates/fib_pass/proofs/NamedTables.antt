-- Each nexthop that a table of a plan answers is one that a command of the plan names.
use Rattle.std.proofs.Common.{◌≡◌, ℕ, suc, zero, ◌<◌, ◌%◌, Bool, true, false, cond, nat_lt, ◌||◌, refl, sym, ◌∙◌, ap, subst, Option, Some, None, List, [], ◌∷◌, length, filter, not}
use Rattle.std.specs.Prelude.{All, IfSome, IsSome, option_and_then, slice_get, is_some}
use Rattle.std.specs.List.{list_any, filter_map, cons_option}
use Rattle.std.specs.Map.{values_of}
use Rattle.std.specs.BTreeMap.{is_at}
use Rattle.std.specs.Ordering.{is_eq, is_lt}
use Rattle.std.proofs.lemmas.Bool.{or_left, or_right}
use Rattle.std.proofs.lemmas.Cmp.{tied_itself}
use Rattle.std.proofs.lemmas.List.Elements.{All-nil, All-cons, All-head, All-tail, All-weaker, All-filter}
use Rattle.std.proofs.lemmas.Map.Views.{All-values-insert_entry, All-map-remove_entry, IfSome-lookup_from_All}
use Rattle.std.proofs.lemmas.Option.{none-some, same_Some}
use Rattle.prefix_width.specs.Prefix.{Block, contains}
use Rattle.prefix_width.specs.Path.{WeightedHop}
use Rattle.prefix_width.specs.Nexthop.{Hop}
use Rattle.prefix_width.specs.Longest.{longer, longest}
use Rattle.prefix_width.specs.Order.{block_cmp, hop_cmp}
use Rattle.prefix_width.proofs.OrderLemmas.{hop_total}
use Rattle.nhgrp_slots.specs.PathList as list
use Rattle.nhgrp_slots.specs.PathList.{PathList, goes_by, put_path}
use Rattle.nhgrp_slots.specs.Spread.{Spread, has_via, pick}
use Rattle.rib_store.specs.declared.command.Command.{Command}
use Rattle.rib_store.specs.declared.command.Command.TheVariants.{Add, Change, Delete, Flush, Tick, Sync, Algo}
use Rattle.rib_store.specs.Answer.{answer}
use Rattle.rib_store.specs.Plan.{Planned, firsts, named, named_by, number_of}
use Rattle.rib_store.specs.Table.{Table, table_after}
use Rattle.rib_store.proofs.KeptLemmas.{Brings, IsKept, tables_keep}
use Rattle.rib_store.proofs.PlanLemmas.{any-firsts, placed-any}
use Rattle.rib_store.proofs.SettledLemmas.{all-kept}

-- the nexthop is one of these
abbrev pub IsAmong : List Hop → Hop → Type 0
IsAmong hs h = list_any (is_at (hop_cmp h)) hs ≡ true

abbrev pub GoesAmong : List Hop → WeightedHop → Type 0
GoesAmong hs p = IsAmong hs p.nexthop

abbrev pub AllAmong : List Hop → Spread → Type 0
AllAmong hs s = All (GoesAmong hs) s.paths

-- ---- every path of every table

module _ (hs : List Hop) where
  put_among : (ps : PathList) (p : WeightedHop) → All (GoesAmong hs) ps → GoesAmong hs p → All (GoesAmong hs) (put_path ps p)
  put_among [] p all has = All-cons (GoesAmong hs) p [] has (All-nil (GoesAmong hs))
  put_among (q ∷ qs) p all has =
      let first = All-head (GoesAmong hs) q qs all in
      let later = put_among qs p (All-tail (GoesAmong hs) q qs all) has in
      elim (is_lt (hop_cmp p.nexthop q.nexthop)) as (λ b. All (GoesAmong hs) (cond b (p ∷ q ∷ qs) (q ∷ put_path qs p))) [
        | true ↦ All-cons (GoesAmong hs) p (q ∷ qs) has all
        | false ↦ All-cons (GoesAmong hs) q (put_path qs p) first later
      ]

  go_among : IsKept (λ rows. All (AllAmong hs) (values_of rows)) (AllAmong hs) (GoesAmong hs)
  go_among = record {
    start = All-nil (AllAmong hs);
    put = λ rows b paths is list. All-values-insert_entry block_cmp b paths (AllAmong hs) rows is list;
    drop = λ rows b is. All-map-remove_entry (is_at (block_cmp b)) (λ e. e.1) (AllAmong hs) rows is;
    flush = λ rows is. all-kept (AllAmong hs) (λ row. not (has_via row.1)) rows is;
    found = λ rows b is. IfSome-lookup_from_All (AllAmong hs) (is_at (block_cmp b)) rows is;
    one = λ p has. All-cons (GoesAmong hs) p [] has (All-nil (GoesAmong hs));
    join = λ s p list has apart room. put_among s.paths p list has;
    left = λ keep g s list some. All-filter (λ p. not (goes_by g p)) (GoesAmong hs) s.paths list;
  }

among_more : (o : Option Hop) (hs : List Hop) (h : Hop) → IsAmong hs h → IsAmong (cons_option o hs) h
among_more None hs h is = is
among_more (Some k) hs h is = or_right _ _ is

module _ {w : ℕ} where
  brought : (c : Command w) (hs : List Hop) → Brings (GoesAmong (cons_option (named_by c) hs)) c
  brought (Add prefix path) hs = or_left _ _ (ap is_eq (tied_itself hop_total path.nexthop))
  brought (Change prefix path) hs = or_left _ _ (ap is_eq (tied_itself hop_total path.nexthop))
  brought (Delete prefix gateway) hs = tt
  brought Flush hs = tt
  brought (Tick ms) hs = tt
  brought Sync hs = tt
  brought (Algo setting) hs = tt

  brought_more : (o : Option Hop) (hs : List Hop) (d : Command w) → Brings (GoesAmong hs) d → Brings (GoesAmong (cons_option o hs)) d
  brought_more o hs (Add prefix path) b = among_more o hs path.nexthop b
  brought_more o hs (Change prefix path) b = among_more o hs path.nexthop b
  brought_more o hs (Delete prefix gateway) b = tt
  brought_more o hs Flush b = tt
  brought_more o hs (Tick ms) b = tt
  brought_more o hs Sync b = tt
  brought_more o hs (Algo setting) b = tt

  all_brought : (cs : List (Command w)) → All (Brings (GoesAmong (filter_map named_by cs))) cs
  all_brought [] = All-nil (Brings (GoesAmong []))
  all_brought (c ∷ cs) =
      let hs : List Hop = filter_map named_by cs in
      All-cons (Brings (GoesAmong (cons_option (named_by c) hs))) c cs (brought c hs)
      (All-weaker (Brings (GoesAmong hs)) (Brings (GoesAmong (cons_option (named_by c) hs))) (λ d b. brought_more (named_by c) hs d b) cs (all_brought cs))

  tables_among : (most : ℕ) (plan : Planned w) (c : ℕ) → All (AllAmong (named plan)) (values_of (table_after most plan c))
  tables_among most plan c = tables_keep (go_among (named plan)) most plan c (all_brought plan.commands)

-- ---- what is picked of a row

-- what holds of each row's paths holds of those of the longest
longest_keeps : (P : Spread → Type 0) (w a : ℕ) (rows : Table) → All P (values_of rows) → IfSome (longest w rows a) (λ row. P row.1)
longest_keeps P w a [] all = tt
longest_keeps P w a (r ∷ rs) all = go (contains w r.0 a) (longest w rs a) (longest_keeps P w a rs (All-tail P r.1 (values_of rs) all))
  where
    here : P r.1
    here = All-head P r.1 (values_of rs) all

    go : (b : Bool) (o : Option (Block × Spread)) → IfSome o (λ row. P row.1) → IfSome (longer (cond b (Some r) None) o) (λ row. P row.1)
    go false o h = h
    go true None h = here
    go true (Some s) h = elim (nat_lt r.0.len s.0.len) as (λ t. IfSome (cond t (Some s) (Some r)) (λ row. P row.1)) [ true ↦ h | false ↦ here ]

module _ (P : Hop → Type 0) where
  got_one : (hs : List Hop) (n : ℕ) (h : Hop) → All P hs → slice_get hs n ≡ Some h → P h
  got_one [] n h all at = absurd (none-some h at)
  got_one (k ∷ hs) zero h all at = subst P (same_Some k h at) (All-head P k hs all)
  got_one (k ∷ hs) (suc n) h all at = got_one hs n h (All-tail P k hs all) at

  all_hops : (ps : PathList) → All (λ p. P p.nexthop) ps → All P (list.hops ps)
  all_hops [] all = All-nil P
  all_hops (p ∷ ps) all = All-cons P p.nexthop (list.hops ps) (All-head (λ q. P q.nexthop) p ps all) (all_hops ps (All-tail (λ q. P q.nexthop) p ps all))

  picked_one : (s : Spread) (flow : ℕ) (h : Hop) → All (λ p. P p.nexthop) s.paths → pick s flow ≡ Some h → P h
  picked_one s flow h all at = go (slice_get s.layout (flow % length s.layout)) at
    where
      go : (o : Option ℕ) → option_and_then (slice_get (list.hops s.paths)) o ≡ Some h → P h
      go None at = absurd (none-some h at)
      go (Some i) at = got_one (list.hops s.paths) i h (all_hops s.paths all) at

answered_one : (P : Hop → Type 0) (w : ℕ) (rows : Table) (a flow : ℕ) (h : Hop) → All (λ s. All (λ p. P p.nexthop) s.paths) (values_of rows) → answer w rows a flow ≡ Some h → P h
answered_one P w rows a flow h all at = go (longest w rows a) (longest_keeps (λ s. All (λ p. P p.nexthop) s.paths) w a rows all) at
  where
    go : (o : Option (Block × Spread)) → IfSome o (λ row. All (λ p. P p.nexthop) row.1.paths) → option_and_then (λ row. pick row.1 flow) o ≡ Some h → P h
    go None k e = absurd (none-some h e)
    go (Some row) k e = picked_one P row.1 flow h k e

some_is : {X : Type 0} (o : Option X) → is_some o ≡ true → IsSome o
some_is None e = e
some_is (Some x) e = e

-- a nexthop that a table of the plan answers has a number
pub answered_numbered : {w : ℕ} (most : ℕ) (plan : Planned w) (c a flow : ℕ) (h : Hop) → answer w (table_after most plan c) a flow ≡ Some h → IsSome (number_of plan h)
answered_numbered {w} most plan c a flow h at =
    some_is (number_of plan h)
    (placed-any (is_at (hop_cmp h)) 1 (firsts (named plan)) ∙ (any-firsts (named plan) h
    ∙ answered_one (IsAmong (named plan)) w (table_after most plan c) a flow h (tables_among most plan c) at))
