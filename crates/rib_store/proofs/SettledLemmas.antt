-- A row that is put in or goes, and a flush: the counts stay right, and the limits decide the outcome.
use Rattle.std.proofs.Common.{◌≡◌, ℕ, ◌+◌, ◌<◌, ◌≤◌, List, [], ◌∷◌, length, Option, Some, None, refl, sym, ◌∙◌, ap, subst, arith, add_comm, Bool, true, false, cond, not, ◌&&◌, ◌++◌, filter, nat_lt}
use Rattle.std.specs.Ordering.{is_eq}
use Rattle.std.proofs.lemmas.List.Elements.{All-head, All-tail, All-cons}
use Rattle.std.proofs.lemmas.Bool.Decides.{nat_tests}
use Rattle.rib_store.specs.declared.command.Reply.{Reply}
use Rattle.rib_store.specs.declared.command.Refusal.TheVariants.{TableFull, TargetsFull}
use Rattle.std.specs.Prelude.{All, IfSome, unwrap_or, option_map, is_some}
use Rattle.std.specs.List.{sum_by}
use Rattle.std.specs.List.Sorted.{IsStrictlySortedBy}
use Rattle.std.specs.Map.{keys_of, values_of}
use Rattle.std.specs.BTreeMap.{is_at}
use Rattle.std.proofs.lemmas.List.Sums.{sum_by-cons, sum_by-append}
use Rattle.std.proofs.lemmas.Map.Entries.{sum_by-insert_entry, sum_by-remove_entry, length-values_of}
use Rattle.std.proofs.lemmas.Map.Views.{All-values-insert_entry, All-map-remove_entry, IfSome-lookup_from_All}
use Rattle.prefix_width.specs.Limits.{AreTargets}
use Rattle.prefix_width.specs.Prefix.{Block}
use Rattle.prefix_width.specs.Order.{block_cmp}
use Rattle.nhgrp_slots.specs.Order.{spread_cmp}
use Rattle.nhgrp_slots.specs.Spread.{has_via, is_group, IsSpread, names, Spread}
use Rattle.rib_store.specs.Uses.{Uses, with_paths, without_paths, without_old, live_in, AreCounts, HasPaths, HasOld, HasRoom, IsCounted}
use Rattle.rib_store.specs.Limits.{routes_max}
use Rattle.rib_store.specs.Table.{Table, paths_at, put_row, drop_row, live_count, settled, refused}
use Rattle.rib_store.proofs.TableLemmas.{block_total}
use Rattle.rib_store.specs.Uses.{IsRib}
use Rattle.rib_store.proofs.CountedLemmas.{IsCounted-with, IsCounted-without, AreCounts-with, AreCounts-without, HasPaths-from, few_hops, few_groups, live_in-without}
use Rattle.rib_store.proofs.LiveLemmas.{counted_live}

-- the counts of a table have room
pub rib_room : (live : ℕ) (rows : Table) (u : Uses) → IsRib live rows u → HasRoom u
rib_room live rows u rib = record {
  nhops = λ h. let a = few_hops (values_of rows) u h rib.counted in let l = length-values_of rows in let b = rib.few in let d = rib.room in let m = rib.most in omega arith;
  groups = λ g. let a = few_groups (values_of rows) u g rib.counted in let l = length-values_of rows in let d = rib.room in let m = rib.most in omega arith;
  few = let b = rib.few in let m = rib.most in omega arith;
}

-- what is known once a route of the new paths is counted, and the old one not any more
pub record IsSettled (rows next : Table) (u : Uses) (o : Option Spread) : Type 0 where
  pub old : HasOld u o
  pub counts : AreCounts (without_old u o)
  pub counted : IsCounted (values_of next) (without_old u o)
  pub live : live_in (without_old u o) ≡ live_count next

pub settles : (live : ℕ) (rows : Table) (u : Uses) (b : Block) (new : Spread) (o : Option Spread) → o ≡ paths_at rows b → IsStrictlySortedBy block_cmp (keys_of rows) → IsRib live rows u → AreCounts u → IsSpread new → IsSettled rows (put_row rows b new) (with_paths u new) o
settles live rows u b new None e up rib are is =
    let more = AreCounts-with u new are in
    let counted = IsCounted-with (values_of rows) (values_of (put_row rows b new)) u new rib.counted are is (λ f. sums f) in
    record { old = tt; counts = more; counted = counted; live = counted_live _ _ counted more }
  where
    sums : (f : Spread → ℕ) → sum_by f (values_of (put_row rows b new)) ≡ sum_by f (values_of rows) + f new
    sums f =
        let s = sum_by-insert_entry f block_total rows b new up in
        let z : unwrap_or (option_map f (paths_at rows b)) 0 ≡ 0 = ap (λ (x : Option Spread). unwrap_or (option_map f x) 0) (sym e) in
        omega arith
settles live rows u b new (Some ps) e up rib are is =
    let more = AreCounts-with u new are in
    let first = IsCounted-with (values_of rows) (new ∷ values_of rows) u new rib.counted are is (λ f. sum_by-cons f new (values_of rows) ∙ add_comm (f new) (sum_by f (values_of rows))) in
    let old : IsSpread ps = subst (λ (x : Option Spread). IfSome x IsSpread) (sym e) (IfSome-lookup_from_All IsSpread (is_at (block_cmp b)) rows rib.lists) in
    let has = HasPaths-from (new ∷ values_of rows) (values_of (put_row rows b new)) (with_paths u new) ps first old (λ f. sums f) in
    let less = AreCounts-without (with_paths u new) ps more has in
    let counted = IsCounted-without (new ∷ values_of rows) (values_of (put_row rows b new)) (with_paths u new) ps first more old (λ f. sums f) in
    record { old = has; counts = less; counted = counted; live = counted_live _ _ counted less }
  where
    sums : (f : Spread → ℕ) → sum_by f (values_of (put_row rows b new)) + f ps ≡ sum_by f (new ∷ values_of rows)
    sums f =
        let s = sum_by-insert_entry f block_total rows b new up in
        let t = sum_by-cons f new (values_of rows) in
        let z : unwrap_or (option_map f (paths_at rows b)) 0 ≡ f ps = ap (λ (x : Option Spread). unwrap_or (option_map f x) 0) (sym e) in
        omega arith

ones : {X : Type 0} (xs : List X) → sum_by (λ _. 1) xs ≡ length xs
ones [] = refl
ones (x ∷ xs) = let a = sum_by-cons (λ _. 1) x xs in let ih = ones xs in omega arith

pub length_put : (rows : Table) (b : Block) (ps : Spread) (o : Option Spread) → o ≡ paths_at rows b → IsStrictlySortedBy block_cmp (keys_of rows) → length (put_row rows b ps) + unwrap_or (option_map (λ _. 1) o) 0 ≡ length rows + 1
length_put rows b ps o e up =
    let s = sum_by-insert_entry (λ _. 1) block_total rows b ps up in
    let z = ap (λ (x : Option Spread). unwrap_or (option_map {T = Spread} {U = ℕ} (λ _. 1) x) 0) e in
    let a = ones (values_of (put_row rows b ps)) in
    let d = ones (values_of rows) in
    let l = length-values_of (put_row rows b ps) in
    let m = length-values_of rows in
    omega arith

pub length_found : (rows : Table) (b : Block) (ps : Spread) (n : ℕ) → n ≡ length rows → is_some (paths_at rows b) ≡ true → IsStrictlySortedBy block_cmp (keys_of rows) → n ≡ length (put_row rows b ps)
length_found rows b ps n e h up = go (paths_at rows b) refl h
  where
    go : (o : Option Spread) → o ≡ paths_at rows b → is_some o ≡ true → n ≡ length (put_row rows b ps)
    go None f h = cc
    go (Some qs) f h = let l = length_put rows b ps (Some qs) f up in omega arith

pub length_missing : (rows : Table) (b : Block) (ps : Spread) (n : ℕ) → n ≡ length rows → is_some (paths_at rows b) ≡ false → IsStrictlySortedBy block_cmp (keys_of rows) → n + 1 ≡ length (put_row rows b ps)
length_missing rows b ps n e h up = go (paths_at rows b) refl h
  where
    go : (o : Option Spread) → o ≡ paths_at rows b → is_some o ≡ false → n + 1 ≡ length (put_row rows b ps)
    go None f h = let l = length_put rows b ps None f up in omega arith
    go (Some qs) f h = cc

-- the three outcomes
pub table_full : (live : ℕ) (rows : Table) (b : Block) (ps : Spread) (reply : Reply) (n : ℕ) → n ≡ length (put_row rows b ps) → routes_max < n → settled live rows b ps reply ≡ refused rows TableFull
table_full live rows b ps reply n e h =
    let t : nat_lt routes_max (length (put_row rows b ps)) ≡ true = grind (arith, nat_tests) in
    rw t refl

pub targets_full : (live : ℕ) (rows : Table) (b : Block) (ps : Spread) (reply : Reply) (n m : ℕ) → n ≡ length (put_row rows b ps) → n ≤ routes_max → m ≡ live_count (put_row rows b ps) → live < m → settled live rows b ps reply ≡ refused rows TargetsFull
targets_full live rows b ps reply n m e h f k =
    let t : nat_lt routes_max (length (put_row rows b ps)) ≡ false = grind (arith, nat_tests) in
    let d : nat_lt live (live_count (put_row rows b ps)) ≡ true = subst (λ x. nat_lt live x ≡ true) f (grind (arith, nat_tests)) in
    rw (t, d) refl

pub put_in : (live : ℕ) (rows : Table) (b : Block) (ps : Spread) (reply : Reply) (n m : ℕ) → n ≡ length (put_row rows b ps) → n ≤ routes_max → m ≡ live_count (put_row rows b ps) → m ≤ live → settled live rows b ps reply ≡ record { table = put_row rows b ps; reply = reply }
put_in live rows b ps reply n m e h f k =
    let t : nat_lt routes_max (length (put_row rows b ps)) ≡ false = grind (arith, nat_tests) in
    let d : nat_lt live (live_count (put_row rows b ps)) ≡ false = subst (λ x. nat_lt live x ≡ false) f (grind (arith, nat_tests)) in
    rw (t, d) refl

pub rib_next : (live : ℕ) (rows next : Table) (u v : Uses) (b : Block) (ps : Spread) (o : Option Spread) (n m : ℕ) → IsSettled rows (put_row rows b ps) u o → next ≡ put_row rows b ps → v ≡ without_old u o → n ≡ length (put_row rows b ps) → n ≤ routes_max → m ≡ live_in (without_old u o) → m ≤ live → AreTargets live → IsSpread ps → All IsSpread (values_of rows) → IsRib live next v
rib_next live rows next u v b ps o n m s e f g h k l most is all =
    subst (λ (x : Table). IsRib live x v) (sym e)
    (subst (λ (x : Uses). IsRib live (put_row rows b ps) x) (sym f) (record {
      counted = s.counted;
      lists = All-values-insert_entry block_cmp b ps IsSpread rows all is;
      room = omega arith;
      few = omega arith;
      most = most;
    }))

-- a route goes
pub record IsDropped (live : ℕ) (rows : Table) (b : Block) (u : Uses) (ps : Spread) : Type 0 where
  pub has : HasPaths u ps
  pub rib : IsRib live (drop_row rows b) (without_paths u ps)

pub drops_route : (live : ℕ) (rows : Table) (u : Uses) (b : Block) (ps : Spread) → Some ps ≡ paths_at rows b → IsRib live rows u → AreCounts u → IsDropped live rows b u ps
drops_route live rows u b ps e rib are =
    let old : IsSpread ps = subst (λ (x : Option Spread). IfSome x IsSpread) (sym e) (IfSome-lookup_from_All IsSpread (is_at (block_cmp b)) rows rib.lists) in
    let has = HasPaths-from (values_of rows) (values_of (drop_row rows b)) u ps rib.counted old (λ f. sums f) in
    let l = live_in-without u ps are old has in
    let few = rib.few in
    let room = rib.room in
    let n = ones (values_of rows) in
    let m = ones (values_of (drop_row rows b)) in
    let s = sums (λ _. 1) in
    let p = length-values_of rows in
    let q = length-values_of (drop_row rows b) in
    record {
      has = has;
      rib = record {
        counted = IsCounted-without (values_of rows) (values_of (drop_row rows b)) u ps rib.counted are old (λ f. sums f);
        lists = All-map-remove_entry (is_at (block_cmp b)) (λ e. e.1) IsSpread rows rib.lists;
        room = omega arith;
        few = omega arith;
        most = rib.most;
      };
    }
  where
    sums : (f : Spread → ℕ) → sum_by f (values_of (drop_row rows b)) + f ps ≡ sum_by f (values_of rows)
    sums f =
        let s = sum_by-remove_entry f (is_at (block_cmp b)) rows in
        let z : unwrap_or (option_map f (paths_at rows b)) 0 ≡ f ps = ap (λ (x : Option Spread). unwrap_or (option_map f x) 0) (sym e) in
        omega arith

-- a flush: the rows that go, of what is left
abbrev pub gone : Table → List Spread
gone rows = values_of (filter (λ r. has_via r.1) rows)

abbrev pub kept : Table → List Spread
kept rows = values_of (filter (λ r. not (has_via r.1)) rows)

pub record Flushing (live : ℕ) (left all : Table) (u : Uses) : Type 0 where
  pub counts : AreCounts u
  pub counted : IsCounted (gone left ++ kept all) u
  pub few : live_in u ≤ live
  pub lists : All IsSpread (values_of left)

same_sums : (lists more : List Spread) (u : Uses) → ((f : Spread → ℕ) → sum_by f more ≡ sum_by f lists) → IsCounted lists u → IsCounted more u
same_sums lists more u h counted = record {
  nhops = λ n. let a = counted.nhops n in let b = h (λ ps. cond (not (is_group ps) && names n ps) 1 0) in omega arith;
  groups = λ g. counted.groups g ∙ sym (h (λ ps. cond (is_group ps && is_eq (spread_cmp g ps)) 1 0));
}

both_sum : (f : Spread → ℕ) (rows : Table) → sum_by f (gone rows ++ kept rows) ≡ sum_by f (values_of rows)
both_sum f rows =
    let a = sum_by-append f (gone rows) (kept rows) in
    let b = split_sum f rows in
    omega arith
  where
    split_sum : (f : Spread → ℕ) (rs : Table) → sum_by f (gone rs) + sum_by f (kept rs) ≡ sum_by f (values_of rs)
    split_sum f [] = refl
    split_sum f (r ∷ rs) =
        let ih = split_sum f rs in
        let a = sum_by-cons f r.1 (values_of rs) in
        let g = sum_by-cons f r.1 (gone rs) in
        let k = sum_by-cons f r.1 (kept rs) in
        elim (has_via r.1) as (λ b. sum_by f (values_of (cond b (r ∷ filter (λ q. has_via q.1) rs) (filter (λ q. has_via q.1) rs))) + sum_by f (values_of (cond (not b) (r ∷ filter (λ q. not (has_via q.1)) rs) (filter (λ q. not (has_via q.1)) rs))) ≡ sum_by f (values_of (r ∷ rs))) [
          | true ↦ omega arith
          | false ↦ omega arith
        ]

pub flush_starts : (live : ℕ) (rows : Table) (u : Uses) → IsRib live rows u → AreCounts u → Flushing live rows rows u
flush_starts live rows u rib are = record { counts = are; counted = same_sums (values_of rows) (gone rows ++ kept rows) u (λ f. both_sum f rows) rib.counted; few = rib.few; lists = rib.lists }

pub flush_has : (live : ℕ) (left rest all : Table) (b : Block) (ps : Spread) (u : Uses) → left ≡ (b, ps) ∷ rest → has_via ps ≡ true → Flushing live left all u → HasPaths u ps × Flushing live rest all (without_paths u ps)
flush_has live left rest all b ps u e t fl =
    let l : All IsSpread (values_of ((b, ps) ∷ rest)) = subst (λ (x : Table). All IsSpread (values_of x)) e fl.lists in
    let is = All-head IsSpread ps (values_of rest) l in
    let counted : IsCounted (ps ∷ (gone rest ++ kept all)) u = subst (λ (x : List Spread). IsCounted (x ++ kept all) u) (ap gone e ∙ first t) fl.counted in
    let sums : (f : Spread → ℕ) → sum_by f (gone rest ++ kept all) + f ps ≡ sum_by f (ps ∷ (gone rest ++ kept all)) = λ f. add_comm (sum_by f (gone rest ++ kept all)) (f ps) ∙ sym (sum_by-cons f ps (gone rest ++ kept all)) in
    let has = HasPaths-from (ps ∷ (gone rest ++ kept all)) (gone rest ++ kept all) u ps counted is sums in
    let s = live_in-without u ps fl.counts is has in
    let few = fl.few in (
      has,
      record {
        counts = AreCounts-without u ps fl.counts has;
        counted = IsCounted-without (ps ∷ (gone rest ++ kept all)) (gone rest ++ kept all) u ps counted fl.counts is sums;
        few = omega arith;
        lists = All-tail IsSpread ps (values_of rest) l;
      },
    )
  where
    first : has_via ps ≡ true → gone ((b, ps) ∷ rest) ≡ ps ∷ gone rest
    first t = ap (λ x. values_of (cond x ((b, ps) ∷ filter (λ r. has_via r.1) rest) (filter (λ r. has_via r.1) rest))) t

pub flush_skips : (live : ℕ) (left rest all : Table) (b : Block) (ps : Spread) (u : Uses) → left ≡ (b, ps) ∷ rest → has_via ps ≡ false → Flushing live left all u → Flushing live rest all u
flush_skips live left rest all b ps u e t fl =
    let l : All IsSpread (values_of ((b, ps) ∷ rest)) = subst (λ (x : Table). All IsSpread (values_of x)) e fl.lists in
    record {
      counts = fl.counts;
      counted = subst (λ (x : List Spread). IsCounted (x ++ kept all) u) (ap gone e ∙ first t) fl.counted;
      few = fl.few;
      lists = All-tail IsSpread ps (values_of rest) l;
    }
  where
    first : has_via ps ≡ false → gone ((b, ps) ∷ rest) ≡ gone rest
    first t = ap (λ x. values_of (cond x ((b, ps) ∷ filter (λ r. has_via r.1) rest) (filter (λ r. has_via r.1) rest))) t

filter-le : (t : Block × Spread → Bool) (rows : Table) → length (filter t rows) ≤ length rows
filter-le t [] = omega arith
filter-le t (r ∷ rs) =
    let ih = filter-le t rs in
    elim (t r) as (λ b. length (cond b (r ∷ filter t rs) (filter t rs)) ≤ length (r ∷ rs)) [ true ↦ omega arith | false ↦ omega arith ]

pub all-kept : (P : Spread → Type 0) (t : Block × Spread → Bool) (rows : Table) → All P (values_of rows) → All P (values_of (filter t rows))
all-kept P t [] all = all
all-kept P t (r ∷ rs) all =
    let ih = all-kept P t rs (All-tail P r.1 (values_of rs) all) in
    let p = All-head P r.1 (values_of rs) all in
    elim (t r) as (λ b. All P (values_of (cond b (r ∷ filter t rs) (filter t rs)))) [ true ↦ All-cons P r.1 (values_of (filter t rs)) p ih | false ↦ ih ]

pub flush_ends : (live : ℕ) (rows next : Table) (u v : Uses) → next ≡ filter (λ r. not (has_via r.1)) rows → Flushing live [] rows v → IsRib live rows u → IsRib live next v
flush_ends live rows next u v e fl rib =
    let n = filter-le (λ r. not (has_via r.1)) rows in
    let room = rib.room in
    subst (λ (x : Table). IsRib live x v) (sym e) (record { counted = fl.counted; lists = all-kept IsSpread (λ r. not (has_via r.1)) rows rib.lists; room = omega arith; few = fl.few; most = rib.most })
