-- The rows of every table of a plan: in order, with lists of paths, of weights that their kinds may have, and layouts.
use Rattle.std.proofs.Common.{◌≡◌, ◌∙◌, ℕ, Bool, true, false, cond, not, List, [], ◌∷◌, filter, refl, ap, arith}
use Rattle.std.specs.Prelude.{All}
use Rattle.std.specs.List.{AllByRecursion}
use Rattle.std.specs.List.Sorted.{IsStrictlySortedBy}
use Rattle.std.specs.declared.cmp.Ordering.{Ordering}
use Rattle.std.specs.declared.cmp.Ordering.TheVariants.{Less, Equal, Greater}
use Rattle.std.specs.Ordering.{is_lt, match_ordering, ordering_reverse}
use Rattle.std.specs.Map.{keys_of, values_of, remove_entry}
use Rattle.std.specs.BTreeMap.{is_at}
use Rattle.std.proofs.lemmas.List.Elements.{All-nil, All-cons, All-head, All-tail, All-weaker, All-filter}
use Rattle.std.proofs.lemmas.Map.Views.{All-values-insert_entry, All-map-remove_entry, IfSome-lookup_from_All}
use Rattle.prefix_width.specs.Prefix.{Block}
use Rattle.prefix_width.specs.Path.{WeightedHop}
use Rattle.prefix_width.specs.Order.{block_cmp, hop_cmp}
use Rattle.nhgrp_slots.specs.PathList.{PathList, IsPathList, put_path, goes_by, left_by}
use Rattle.nhgrp_slots.specs.Spread.{Spread, IsSpread, has_via}
use Rattle.nhgrp_slots.specs.Slots.{HaveWeights}
use Rattle.nhgrp_slots.proofs.PathLemmas.{joins, single, filtered}
use Rattle.nhgrp_slots.proofs.SpreadLemmas.{left_are_spreads, spreads_are_of_paths}
use Rattle.rib_store.specs.declared.command.Command.{Command}
use Rattle.rib_store.specs.declared.command.Command.TheVariants.{Add, Change, Delete, Flush, Tick, Sync, Algo}
use Rattle.rib_store.specs.Laws.{TablesAreInOrder, TablesAreSpread}
use Rattle.rib_store.specs.Table.{Table, IsTable, put_row}
use Rattle.rib_store.specs.Weights.{HasWeight, IsWeighted}
use Rattle.rib_store.proofs.KeptLemmas.{Brings, IsKept, tables_keep}
use Rattle.rib_store.proofs.SettledLemmas.{all-kept}
use Rattle.rib_store.proofs.TableLemmas.{block_total}

-- ---- the order of the rows

all_weaker : (P Q : Block → Type 0) → ((b : Block) → P b → Q b) → (bs : List Block) → AllByRecursion P bs → AllByRecursion Q bs
all_weaker P Q f [] all = tt
all_weaker P Q f (b ∷ bs) all = (f b all.0, all_weaker P Q f bs all.1)

all-put : (P : Block → Type 0) (rows : Table) (b : Block) (paths : Spread) → P b → AllByRecursion P (keys_of rows) → AllByRecursion P (keys_of (put_row rows b paths))
all-put P [] b paths p all = (p, tt)
all-put P (row ∷ rows) b paths p all =
    let later = all-put P rows b paths p all.1 in
    elim (block_cmp b row.0) as (λ r. AllByRecursion P (keys_of (match_ordering r ((b, paths) ∷ row ∷ rows) ((row.0, paths) ∷ rows) (row ∷ put_row rows b paths)))) [
      | Less ↦ (p, all)
      | Equal ↦ all
      | Greater ↦ (all.0, later)
    ]

sorted-put : (rows : Table) (b : Block) (paths : Spread) → IsStrictlySortedBy block_cmp (keys_of rows) → IsStrictlySortedBy block_cmp (keys_of (put_row rows b paths))
unfolding IsStrictlySortedBy
sorted-put [] b paths up = (tt, tt)
sorted-put (row ∷ rows) b paths up = go (block_cmp b row.0) refl (sorted-put rows b paths up.1)
  where
    go : (r : Ordering) → block_cmp b row.0 ≡ r → IsStrictlySortedBy block_cmp (keys_of (put_row rows b paths)) → IsStrictlySortedBy block_cmp (keys_of (match_ordering r ((b, paths) ∷ row ∷ rows) ((row.0, paths) ∷ rows) (row ∷ put_row rows b paths)))
    go Less h ih = ((h, all_weaker (λ x. block_cmp row.0 x ≡ Less) (λ x. block_cmp b x ≡ Less) (λ x l. block_total.trans b row.0 x h l) (keys_of rows) up.0), up)
    go Equal h ih = up
    go Greater h ih =
        let back : block_cmp row.0 b ≡ Less = block_total.antisymm row.0 b ∙ ap ordering_reverse h in
        (all-put (λ x. block_cmp row.0 x ≡ Less) rows b paths back up.0, ih)

all-drop : (P : Block → Type 0) (t : Block → Bool) (rows : Table) → AllByRecursion P (keys_of rows) → AllByRecursion P (keys_of (remove_entry t rows))
all-drop P t [] all = all
all-drop P t (row ∷ rows) all =
    let later = all-drop P t rows all.1 in
    elim (t row.0) as (λ b. AllByRecursion P (keys_of (cond b rows (row ∷ remove_entry t rows)))) [ true ↦ all.1 | false ↦ (all.0, later) ]

sorted-drop : (t : Block → Bool) (rows : Table) → IsStrictlySortedBy block_cmp (keys_of rows) → IsStrictlySortedBy block_cmp (keys_of (remove_entry t rows))
unfolding IsStrictlySortedBy
sorted-drop t [] up = up
sorted-drop t (row ∷ rows) up =
    let ih = sorted-drop t rows up.1 in
    let all = all-drop (λ x. block_cmp row.0 x ≡ Less) t rows up.0 in
    elim (t row.0) as (λ b. IsStrictlySortedBy block_cmp (keys_of (cond b rows (row ∷ remove_entry t rows)))) [ true ↦ up.1 | false ↦ (all, ih) ]

all-filter : (P : Block → Type 0) (t : Block × Spread → Bool) (rows : Table) → AllByRecursion P (keys_of rows) → AllByRecursion P (keys_of (filter t rows))
all-filter P t [] all = all
all-filter P t (row ∷ rows) all =
    let later = all-filter P t rows all.1 in
    elim (t row) as (λ b. AllByRecursion P (keys_of (cond b (row ∷ filter t rows) (filter t rows)))) [ true ↦ (all.0, later) | false ↦ later ]

sorted-filter : (t : Block × Spread → Bool) (rows : Table) → IsStrictlySortedBy block_cmp (keys_of rows) → IsStrictlySortedBy block_cmp (keys_of (filter t rows))
unfolding IsStrictlySortedBy
sorted-filter t [] up = up
sorted-filter t (row ∷ rows) up =
    let ih = sorted-filter t rows up.1 in
    let all = all-filter (λ x. block_cmp row.0 x ≡ Less) t rows up.0 in
    elim (t row) as (λ b. IsStrictlySortedBy block_cmp (keys_of (cond b (row ∷ filter t rows) (filter t rows)))) [ true ↦ (all, ih) | false ↦ ih ]

-- ---- tables

any_path : WeightedHop → Type 0
any_path p = Unit {0}

abbrev IsList : Spread → Type 0
IsList s = IsPathList s.paths

tables : IsKept IsTable IsList any_path
unfolding IsStrictlySortedBy
tables = record {
  start = record { ascending = tt; lists = All-nil IsList };
  put = λ rows b paths is list. record {
    ascending = sorted-put rows b paths is.ascending;
    lists = All-values-insert_entry block_cmp b paths IsList rows is.lists list;
  };
  drop = λ rows b is. record {
    ascending = sorted-drop (is_at (block_cmp b)) rows is.ascending;
    lists = All-map-remove_entry (is_at (block_cmp b)) (λ e. e.1) IsList rows is.lists;
  };
  flush = λ rows is. record {
    ascending = sorted-filter (λ row. not (has_via row.1)) rows is.ascending;
    lists = all-kept IsList (λ row. not (has_via row.1)) rows is.lists;
  };
  found = λ rows b is. IfSome-lookup_from_All IsList (is_at (block_cmp b)) rows is.lists;
  one = λ p new. single (p ∷ []) p refl;
  join = λ s p list new apart room. joins s.paths p list apart room;
  left = λ keep g s list some. filtered (λ p. not (goes_by g p)) s.paths (left_by g s.paths) refl some list;
}

any_command : {w : _} (command : Command w) → Brings any_path command
unfolding any_path
any_command (Add prefix path) = tt
any_command (Change prefix path) = tt
any_command (Delete prefix gateway) = tt
any_command Flush = tt
any_command (Tick ms) = tt
any_command Sync = tt
any_command (Algo setting) = tt

all_commands : {w : _} (commands : List (Command w)) → All (Brings any_path) commands
all_commands [] = All-nil (Brings any_path)
all_commands (command ∷ commands) = All-cons (Brings any_path) command commands (any_command command) (all_commands commands)

pub tables_are_in_order : (w : ℕ) → TablesAreInOrder w
tables_are_in_order w live plan c = tables_keep tables live plan c (all_commands plan.commands)

-- ---- weights and layouts

put_weighted : (ps : PathList) (p : WeightedHop) → All HasWeight ps → HasWeight p → HaveWeights (put_path ps p)
put_weighted [] p all has = (omega arith, All-cons HasWeight p [] has (All-nil HasWeight))
put_weighted (q ∷ qs) p all has =
    let first = All-head HasWeight q qs all in
    let later = put_weighted qs p (All-tail HasWeight q qs all) has in
    elim (is_lt (hop_cmp p.nexthop q.nexthop)) as (λ b. HaveWeights (cond b (p ∷ q ∷ qs) (q ∷ put_path qs p))) [
      | true ↦ (omega arith, All-cons HasWeight p (q ∷ qs) has all)
      | false ↦ (omega arith, All-cons HasWeight q (put_path qs p) first later.1)
    ]

spreads : IsKept (λ rows. All IsSpread (values_of rows)) IsSpread HasWeight
spreads = record {
  start = All-nil IsSpread;
  put = λ rows b paths is list. All-values-insert_entry block_cmp b paths IsSpread rows is list;
  drop = λ rows b is. All-map-remove_entry (is_at (block_cmp b)) (λ e. e.1) IsSpread rows is;
  flush = λ rows is. all-kept IsSpread (λ row. not (has_via row.1)) rows is;
  found = λ rows b is. IfSome-lookup_from_All IsSpread (is_at (block_cmp b)) rows is;
  one = λ p has. spreads_are_of_paths (p ∷ []) (single (p ∷ []) p refl) (omega arith, All-cons HasWeight p [] has (All-nil HasWeight));
  join = λ s p is has apart room. spreads_are_of_paths (put_path s.paths p) (joins s.paths p is.list apart room) (put_weighted s.paths p is.weights.1 has);
  left = λ keep g s is some. left_are_spreads keep s (left_by g s.paths) is
      (filtered (λ p. not (goes_by g p)) s.paths (left_by g s.paths) refl some is.list)
      (some, All-filter (λ p. not (goes_by g p)) HasWeight s.paths is.weights.1);
}

brings_weight : {w : _} (command : Command w) → IsWeighted command → Brings HasWeight command
brings_weight (Add prefix path) has = has
brings_weight (Change prefix path) has = has
brings_weight (Delete prefix gateway) has = has
brings_weight Flush has = has
brings_weight (Tick ms) has = has
brings_weight Sync has = has
brings_weight (Algo setting) has = has

pub tables_are_spread : (w : ℕ) → TablesAreSpread w
tables_are_spread w live plan c all = tables_keep spreads live plan c (All-weaker (IsWeighted {w = w}) (Brings HasWeight) brings_weight plan.commands all)
