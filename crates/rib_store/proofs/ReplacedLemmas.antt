-- Paths that are put in place of those of a row: the table, the counts and the outcome.
use Rattle.std.proofs.Common.{◌≡◌, ℕ, ◌+◌, ◌<◌, ◌≤◌, [], ◌∷◌, length, Some, None, refl, sym, ◌∙◌, ap, arith, cond}
use Rattle.std.specs.Prelude.{is_some}
use Rattle.std.specs.declared.cmp.Ordering.{Ordering}
use Rattle.std.specs.declared.cmp.Ordering.TheVariants.{Less, Equal, Greater}
use Rattle.std.specs.declared.result.Result.{Result}
use Rattle.std.specs.declared.result.Result.TheVariants.{Ok, Err}
use Rattle.std.specs.Prelude.{OnErr}
use Rattle.std.specs.Ordering.{is_eq, match_ordering}
use Rattle.std.specs.List.Sorted.{IsStrictlySortedBy}
use Rattle.std.specs.Map.{keys_of, lookup, set_value}
use Rattle.std.specs.BTreeMap.{is_at}
use Rattle.std.proofs.lemmas.Map.{lookup-none}
use Rattle.std.proofs.lemmas.Map.Entries.{none_below_head}
use Rattle.std.proofs.lemmas.Map.Steps.{set_value_same}
use Rattle.prefix_width.specs.Prefix.{Block}
use Rattle.prefix_width.specs.Order.{block_cmp}
use Rattle.nhgrp_slots.specs.Spread.{IsSpread, Spread}
use Rattle.rib_store.specs.declared.command.Refusal.TheVariants.{TargetsFull, TableFull}
use Rattle.rib_store.specs.declared.command.Reply.{Reply}
use Rattle.rib_store.specs.Limits.{routes_max}
use Rattle.rib_store.specs.Table.{Table, paths_at, put_row, settled, replaced, refused}
use Rattle.rib_store.specs.Uses.{Uses, IsRib, AreCounts, HasRoom, HasPaths, with_paths, without_paths, live_in}
use Rattle.rib_store.proofs.TableLemmas.{block_total}
use Rattle.rib_store.proofs.SettledLemmas.{settles, rib_room, rib_next, length_found, length_missing, table_full, targets_full, put_in}

-- the row of a prefix that has one takes the paths in its place
pub set_row : (rows : Table) (b : Block) (old new : Spread) → Some old ≡ paths_at rows b → IsStrictlySortedBy block_cmp (keys_of rows) → set_value (is_at (block_cmp b)) rows new ≡ put_row rows b new
unfolding IsStrictlySortedBy
set_row [] b old new e up = cc
set_row (r ∷ rs) b old new e up = go (block_cmp b r.0) refl e (λ h. set_row rs b old new h up.1)
  where
    go : (o : Ordering) → block_cmp b r.0 ≡ o → Some old ≡ cond (is_eq o) (Some r.1) (lookup (is_at (block_cmp b)) rs) → (Some old ≡ paths_at rs b → set_value (is_at (block_cmp b)) rs new ≡ put_row rs b new) → cond (is_eq o) ((r.0, new) ∷ rs) (r ∷ set_value (is_at (block_cmp b)) rs new) ≡ match_ordering o ((b, new) ∷ r ∷ rs) ((r.0, new) ∷ rs) (r ∷ put_row rs b new)
    go Less f h later =
        let some : Some old ≡ None = e ∙ lookup-none (is_at (block_cmp b)) (r ∷ rs) (none_below_head block_total b r rs up f) in
        cc
    go Equal f h later = refl
    go Greater f h later = ap (λ x. r ∷ x) (later h)

-- what is known where the paths of a prefix's row are to be replaced
pub record IsReplaced (live : ℕ) (rows : Table) (u : Uses) (b : Block) (old new : Spread) (reply : Reply) : Type 0 where
  pub room : HasRoom u
  pub has : HasPaths (with_paths u new) old
  pub same : set_value (is_at (block_cmp b)) rows old ≡ rows
  pub put : set_value (is_at (block_cmp b)) rows new ≡ put_row rows b new
  pub full : (m : ℕ) → m ≡ live_in (without_paths (with_paths u new) old) → live < m → replaced (settled live) rows b new reply (paths_at rows b) ≡ refused rows TargetsFull
  pub done : (m : ℕ) → m ≡ live_in (without_paths (with_paths u new) old) → m ≤ live → replaced (settled live) rows b new reply (paths_at rows b) ≡ record { table = put_row rows b new; reply = reply }
  pub rib : (m : ℕ) → m ≡ live_in (without_paths (with_paths u new) old) → m ≤ live → IsRib live (put_row rows b new) (without_paths (with_paths u new) old)

pub replaces : (live : ℕ) (rows : Table) (u : Uses) (b : Block) (old new : Spread) (reply : Reply) → Some old ≡ paths_at rows b → IsStrictlySortedBy block_cmp (keys_of rows) → IsRib live rows u → AreCounts u → IsSpread new → IsReplaced live rows u b old new reply
replaces live rows u b old new reply e up rib are is =
    let s = settles live rows u b new (Some old) e up rib are is in
    let n : length rows ≡ length (put_row rows b new) = length_found rows b new (length rows) refl (ap is_some (sym e)) up in
    let found = ap (replaced (settled live) rows b new reply) (sym e) in
    let room = rib.room in
    record {
      room = rib_room live rows u rib;
      has = s.old;
      same = set_value_same (is_at (block_cmp b)) rows old (sym e);
      put = set_row rows b old new e up;
      full = λ m f h. found ∙ targets_full live rows b new reply (length rows) m n room (f ∙ s.live) h;
      done = λ m f h. found ∙ put_in live rows b new reply (length rows) m n room (f ∙ s.live) h;
      rib = λ m f h. rib_next live rows (put_row rows b new) (with_paths u new) (without_paths (with_paths u new) old) b new (Some old) (length rows) m s refl refl n room f h rib.most is rib.lists;
    }

-- what is known where paths are to be the row of a prefix that has none
pub record IsNewRow (live : ℕ) (rows : Table) (u : Uses) (b : Block) (new : Spread) (reply : Reply) : Type 0 where
  pub room : HasRoom u
  pub table_full : (n : ℕ) → n ≡ length rows → routes_max ≤ n → settled live rows b new reply ≡ refused rows TableFull
  pub targets_full : (n m : ℕ) → n ≡ length rows → n < routes_max → m ≡ live_in (with_paths u new) → live < m → settled live rows b new reply ≡ refused rows TargetsFull
  pub done : (n m : ℕ) → n ≡ length rows → n < routes_max → m ≡ live_in (with_paths u new) → m ≤ live → settled live rows b new reply ≡ record { table = put_row rows b new; reply = reply }
  pub rib : (n m : ℕ) → n ≡ length rows → n < routes_max → m ≡ live_in (with_paths u new) → m ≤ live → IsRib live (put_row rows b new) (with_paths u new)

pub puts_new : (live : ℕ) (rows : Table) (u : Uses) (b : Block) (new : Spread) (reply : Reply) → paths_at rows b ≡ None → IsStrictlySortedBy block_cmp (keys_of rows) → IsRib live rows u → AreCounts u → IsSpread new → IsNewRow live rows u b new reply
puts_new live rows u b new reply e up rib are is =
    let s = settles live rows u b new None (sym e) up rib are is in
    let more : (n : ℕ) → n ≡ length rows → n + 1 ≡ length (put_row rows b new) = λ n f. length_missing rows b new n f (ap is_some e) up in
    record {
      room = rib_room live rows u rib;
      table_full = λ n f h. table_full live rows b new reply (n + 1) (more n f) (omega arith);
      targets_full = λ n m f h d k. targets_full live rows b new reply (n + 1) m (more n f) (omega arith) (d ∙ s.live) k;
      done = λ n m f h d k. put_in live rows b new reply (n + 1) m (more n f) (omega arith) (d ∙ s.live) k;
      rib = λ n m f h d k. rib_next live rows (put_row rows b new) (with_paths u new) (with_paths u new) b new None (n + 1) m s refl refl (more n f) (omega arith) d k rib.most is rib.lists;
    }

-- what holds, holds after an error
pub on_err : {T E P : Type 0} (r : Result T E) → P → OnErr r P
on_err (Ok x) p = tt
on_err (Err x) p = p
