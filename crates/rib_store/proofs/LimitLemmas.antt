-- Both limits tried behind every command: one that puts no row in passes none, and every table of a plan is within both.
use Rattle.std.proofs.Common.{◌≡◌, ℕ, ◌≤◌, List, [], ◌∷◌, Option, Some, None, length, Bool, true, false, cond, not, ◌||◌, filter, fold, take, refl, sym, subst, arith, nat_lt, nat_le}
use Rattle.std.specs.List.{list_any}
use Rattle.std.specs.Map.{values_of, remove_entry}
use Rattle.std.proofs.lemmas.Bool.Decides.{nat_tests}
use Rattle.std.proofs.lemmas.List.Sums.{length-filter, count_by-le-length}
use Rattle.prefix_width.specs.Prefix.{Block}
use Rattle.prefix_width.specs.Path.{WeightedHop}
use Rattle.prefix_width.specs.Order.{block_cmp}
use Rattle.std.specs.BTreeMap.{is_at}
use Rattle.nhgrp_slots.specs.PathList.{clashes, goes_by}
use Rattle.nhgrp_slots.specs.Spread.{Spread, has_via, spread, without}
use Rattle.rib_store.specs.Profile.{keeps}
use Rattle.rib_store.specs.Limits.{routes_max}
use Rattle.rib_store.specs.declared.command.Command.{Command}
use Rattle.rib_store.specs.declared.command.Command.TheVariants.{Add, Change, Delete, Flush, Tick, Sync, Algo}
use Rattle.rib_store.specs.declared.command.Reply.{Reply}
use Rattle.rib_store.specs.declared.command.Refusal.{Refusal}
use Rattle.rib_store.specs.declared.command.Refusal.TheVariants.{Exists, NotFound, PathsFull}
use Rattle.rib_store.specs.Table.{Table, Outcome, paths_at, drop_row, left_by_flush, live_count, refused, limited, placed, settled, dropped, added, replaced, shortened, deleted, apply}
use Rattle.rib_store.specs.Tried.{IsWithin, unlimited, tried}
use Rattle.rib_store.specs.Laws.{LimitsAreTried, TablesAreWithin}
use Rattle.rib_store.proofs.LiveLemmas.{Among, live_count-le}

or_more : (a b c : Bool) → (b ≡ true → c ≡ true) → (a || b) ≡ true → (a || c) ≡ true
or_more true b c f e = refl
or_more false b c f e = f e

or_right : (a b : Bool) → b ≡ true → (a || b) ≡ true
or_right true b e = refl
or_right false b e = e

among_left : (t : Block → Bool) (rows : Table) → Among (remove_entry t rows) rows
among_left t [] f e = e
among_left t (row ∷ rows) f e = go (t row.0) (among_left t rows f) e
  where
    go : (b : Bool) → (list_any f (values_of (remove_entry t rows)) ≡ true → list_any f (values_of rows) ≡ true) → list_any f (values_of (cond b rows (row ∷ remove_entry t rows))) ≡ true → list_any f (values_of (row ∷ rows)) ≡ true
    go true later e = or_right (f row.1) (list_any f (values_of rows)) e
    go false later e = or_more (f row.1) (list_any f (values_of (remove_entry t rows))) (list_any f (values_of rows)) later e

among_kept : (t : Block × Spread → Bool) (rows : Table) → Among (filter t rows) rows
among_kept t [] f e = e
among_kept t (row ∷ rows) f e = go (t row) (among_kept t rows f) e
  where
    go : (b : Bool) → (list_any f (values_of (filter t rows)) ≡ true → list_any f (values_of rows) ≡ true) → list_any f (values_of (cond b (row ∷ filter t rows) (filter t rows))) ≡ true → list_any f (values_of (row ∷ rows)) ≡ true
    go true later e = or_more (f row.1) (list_any f (values_of (filter t rows))) (list_any f (values_of rows)) later e
    go false later e = or_right (f row.1) (list_any f (values_of rows)) (later e)

length-left-le : (t : Block → Bool) (rows : Table) → length (remove_entry t rows) ≤ length rows
length-left-le t [] = omega arith
length-left-le t (row ∷ rows) =
    let ih = length-left-le t rows in
    elim (t row.0) as (λ b. length (cond b rows (row ∷ remove_entry t rows)) ≤ length (row ∷ rows)) [ true ↦ omega arith | false ↦ omega arith ]

length-kept-le : (t : Block × Spread → Bool) (rows : Table) → length (filter t rows) ≤ length rows
length-kept-le t rows =
    let a = length-filter t rows in
    let b = count_by-le-length t rows in
    omega arith

module _ (live : ℕ) (rows : Table) where
  -- what was made is within the limits, or the table as it was
  pub limited_within : (made : Outcome) → IsWithin live rows → IsWithin live (limited live rows made).table
  limited_within made is = go (nat_lt routes_max (length made.table)) (nat_lt live (live_count made.table)) refl refl
    where
      go : (r t : Bool) → nat_lt routes_max (length made.table) ≡ r → nat_lt live (live_count made.table) ≡ t → IsWithin live (limited live rows made).table
      go true t e f = rw e is
      go false true e f = rw (e, f) is
      go false false e f = rw (e, f) (record { room = grind (arith, nat_tests); few = grind (arith, nat_tests) })

  module _ (is : IsWithin live rows) where
    -- a table that has no more of either passes no limit
    passes : (made : Outcome) → length made.table ≤ length rows → live_count made.table ≤ live_count rows → made ≡ limited live rows made
    passes made r t =
        let room = is.room in
        let few = is.few in
        let a : nat_lt routes_max (length made.table) ≡ false = grind (arith, nat_tests) in
        let b : nat_lt live (live_count made.table) ≡ false = grind (arith, nat_tests) in
        rw (a, b) refl

    refuses : (why : Refusal) → refused rows why ≡ limited live rows (refused rows why)
    refuses why = passes (refused rows why) (omega arith) (omega arith)

    drops : (b : Block) → dropped rows b ≡ limited live rows (dropped rows b)
    drops b = passes (dropped rows b) (length-left-le (is_at (block_cmp b)) rows) (live_count-le (drop_row rows b) rows (among_left (is_at (block_cmp b)) rows))

    refused_or : (t : Bool) (why : Refusal) (x y : Outcome) → x ≡ limited live rows y → cond t (refused rows why) x ≡ limited live rows (cond t (refused rows why) y)
    refused_or true why x y e = refuses why
    refused_or false why x y e = e

    or_refused : (t : Bool) (why : Refusal) (x y : Outcome) → x ≡ limited live rows y → cond t x (refused rows why) ≡ limited live rows (cond t y (refused rows why))
    or_refused true why x y e = e
    or_refused false why x y e = refuses why

    adds : (b : Block) (p : WeightedHop) (o : Option Spread) → added (settled live) rows b p o ≡ limited live rows (added placed rows b p o)
    adds b p None = refl
    adds b p (Some s) = refused_or (clashes s.paths p) Exists _ _ (refused_or (nat_le 64 (length s.paths)) PathsFull _ _ refl)

    replaces : (b : Block) (paths : Spread) (reply : Reply) (o : Option Spread) → replaced (settled live) rows b paths reply o ≡ limited live rows (replaced placed rows b paths reply o)
    replaces b paths reply None = refuses NotFound
    replaces b paths reply (Some old) = refl

    shortens : (b : Block) (o : Option Spread) → shortened (settled live) rows b o ≡ limited live rows (shortened placed rows b o)
    shortens b None = drops b
    shortens b (Some paths) = refl

    deletes : (keep : Bool) (b : Block) (g : Option ℕ) (o : Option Spread) → deleted keep (settled live) rows b g o ≡ limited live rows (deleted keep placed rows b g o)
    deletes keep b g None = refuses NotFound
    deletes keep b None (Some s) = drops b
    deletes keep b (Some g) (Some s) = or_refused (list_any (goes_by g) s.paths) NotFound _ _ (shortens b (without keep g s))

    pub tries : {w : _} (profile : ℕ) (command : Command w) → apply profile live rows command ≡ tried profile live rows command
    tries profile (Add prefix path) = adds prefix path (paths_at rows prefix)
    tries profile (Change prefix path) = replaces prefix (spread (path ∷ [])) _ (paths_at rows prefix)
    tries profile (Delete prefix gateway) = deletes (keeps profile) prefix gateway (paths_at rows prefix)
    tries profile Flush = passes _ (length-kept-le (λ row. not (has_via row.1)) rows) (live_count-le (left_by_flush rows) rows (among_kept (λ row. not (has_via row.1)) rows))
    tries profile (Tick ms) = passes _ (omega arith) (omega arith)
    tries profile Sync = passes _ (omega arith) (omega arith)
    tries profile (Algo setting) = passes _ (omega arith) (omega arith)

pub limits_are_tried : (w : ℕ) → LimitsAreTried w
limits_are_tried w profile live rows command is = tries live rows is profile command

pub tables_are_within : (w : ℕ) → TablesAreWithin w
tables_are_within w live plan c = go [] (take c plan.commands) (record { room = omega arith; few = omega arith })
  where
    go : (rows : Table) (commands : List (Command w)) → IsWithin live rows → IsWithin live (fold (λ rs command. (apply plan.profile live rs command).table) rows commands)
    go rows [] is = is
    go rows (command ∷ commands) is =
        go (apply plan.profile live rows command).table commands
        (subst (λ (made : Outcome). IsWithin live made.table) (sym (tries live rows is plan.profile command)) (limited_within live rows (unlimited plan.profile rows command) is))
