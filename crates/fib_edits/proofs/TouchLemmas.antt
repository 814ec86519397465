-- A command leaves the rows of prefixes that it doesn't touch.
use Rattle.std.proofs.Common.{◌≡◌, ◌≢◌, ◌∙◌, ℕ, ◌+◌, Bool, true, false, cond, not, ◌||◌, List, [], ◌∷◌, Option, Some, None, refl, sym, ap, subst, inl, inr, length, filter}
use Rattle.std.specs.Prelude.{nat_lt, nat_le}
use Rattle.std.specs.declared.cmp.Ordering.{Ordering}
use Rattle.std.specs.declared.cmp.Ordering.TheVariants.{Less, Equal, Greater}
use Rattle.std.specs.Ordering.{match_ordering}
use Rattle.std.specs.List.{list_any, slice_get}
use Rattle.std.specs.Map.{keys_of}
use Rattle.std.specs.BTreeSet.{insert_key}
use Rattle.std.specs.BTreeMap.{is_at}
use Rattle.std.proofs.lemmas.Bool.{cases_Bool, false≢true, or_parts, or_from}
use Rattle.prefix_width.specs.Prefix.{Block}
use Rattle.prefix_width.specs.Path.{WeightedHop}
use Rattle.prefix_width.specs.Order.{block_cmp}
use Rattle.nhgrp_slots.specs.PathList.{put_path, clashes, goes_by}
use Rattle.nhgrp_slots.specs.Spread.{Spread, has_via, spread, without}
use Rattle.module_trait.proofs.KeyLemmas.{block_exact, at_is}
use Rattle.rib_store.specs.declared.command.Command.{Command}
use Rattle.rib_store.specs.declared.command.Command.TheVariants.{Add, Change, Delete, Flush, Tick, Sync, Algo}
use Rattle.rib_store.specs.declared.command.Reply.{Reply}
use Rattle.rib_store.specs.declared.command.Reply.TheVariants.{Added, Joined, Changed, Deleted}
use Rattle.rib_store.specs.declared.command.Refusal.TheVariants.{Exists, NotFound, PathsFull, TableFull, TargetsFull}
use Rattle.rib_store.specs.Limits.{routes_max}
use Rattle.rib_store.specs.Plan.{Planned}
use Rattle.rib_store.specs.Profile.{keeps}
use Rattle.rib_store.specs.Table.{Table, Outcome, paths_at, put_row, drop_row, left_by_flush, live_count, refused, limited, placed, settled, dropped, added, changed, shortened, deleted, apply, table_after}
use Rattle.rib_store.proofs.TableLemmas.{table_after_more}
use Rattle.fib_edits.specs.Touching.{is_among, flushed_of, touched_by, SameBut, Gains}
use Rattle.fib_edits.proofs.EditLemmas.{not_at, at_itself}

skip : (row : Block × Spread) (rows : Table) (q : Block) → q ≢ row.0 → paths_at (row ∷ rows) q ≡ paths_at rows q
skip row rows q n = ap (λ b. cond b (Some row.1) (paths_at rows q)) (not_at q row.0 n)

-- a row that is taken out or put in leaves those of other prefixes
other-drop : (rows : Table) (p q : Block) → p ≢ q → paths_at (drop_row rows p) q ≡ paths_at rows q
other-drop [] p q n = refl
other-drop (e ∷ rows) p q n =
    let rest = other-drop rows p q n in
    elim (cases_Bool (is_at (block_cmp p) e.0)) [
      | inl h ↦ ap (λ b. paths_at (cond b rows (e ∷ drop_row rows p)) q) h ∙ sym (skip e rows q (λ x. n (at_is p e.0 h ∙ sym x)))
      | inr h ↦ ap (λ b. paths_at (cond b rows (e ∷ drop_row rows p)) q) h ∙ ap (cond (is_at (block_cmp q) e.0) (Some e.1)) rest
    ]

other-put : (rows : Table) (p q : Block) (paths : Spread) → p ≢ q → paths_at (put_row rows p paths) q ≡ paths_at rows q
other-put [] p q paths n = skip (p, paths) [] q (λ x. n (sym x))
other-put (e ∷ rows) p q paths n = by (block_cmp p e.0) refl (other-put rows p q paths n)
  where
    by : (o : Ordering) → block_cmp p e.0 ≡ o → paths_at (put_row rows p paths) q ≡ paths_at rows q → paths_at (match_ordering o ((p, paths) ∷ e ∷ rows) ((e.0, paths) ∷ rows) (e ∷ put_row rows p paths)) q ≡ paths_at (e ∷ rows) q
    by Less h rest = skip (p, paths) (e ∷ rows) q (λ x. n (sym x))
    by Equal h rest = let other : q ≢ e.0 = λ x. n (block_exact p e.0 h ∙ sym x) in skip (e.0, paths) rows q other ∙ sym (skip e rows q other)
    by Greater h rest = ap (cond (is_at (block_cmp q) e.0) (Some e.1)) rest

-- what a flush doesn't take out stays
left-flush : (rows : Table) (q : Block) → is_among q (flushed_of rows) ≡ false → paths_at (left_by_flush rows) q ≡ paths_at rows q
left-flush [] q none = refl
left-flush (e ∷ rows) q none = by (has_via e.1) none (left-flush rows q)
  where
    by : (t : Bool) → is_among q (keys_of (cond t (e ∷ filter (λ row. has_via row.1) rows) (filter (λ row. has_via row.1) rows))) ≡ false
        → (is_among q (flushed_of rows) ≡ false → paths_at (left_by_flush rows) q ≡ paths_at rows q)
        → paths_at (cond (not t) (e ∷ left_by_flush rows) (left_by_flush rows)) q ≡ paths_at (e ∷ rows) q
    by true h rest =
        let parts = or_parts (is_at (block_cmp q) e.0) (is_among q (flushed_of rows)) h in
        rest parts.1 ∙ sym (ap (λ b. cond b (Some e.1) (paths_at rows q)) parts.0)
    by false h rest = ap (cond (is_at (block_cmp q) e.0) (Some e.1)) (rest h)

-- ---- what comes of a command leaves the row of this prefix

module _ (most : ℕ) (rows : Table) (q : Block) where
  abbrev Stays : Outcome → Type 0
  Stays made = paths_at made.table q ≡ paths_at rows q

  stays_limited : (made : Outcome) → Stays made → Stays (limited most rows made)
  stays_limited made h = by (nat_lt routes_max (length made.table)) (nat_lt most (live_count made.table))
    where
      by : (s t : Bool) → Stays (cond s (refused rows TableFull) (cond t (refused rows TargetsFull) made))
      by true t = refl
      by false true = refl
      by false false = h

  stays_settled : (p : Block) (paths : Spread) (reply : Reply) → p ≢ q → Stays (settled most rows p paths reply)
  stays_settled p paths reply n = stays_limited (placed rows p paths reply) (other-put rows p q paths n)

  stays_dropped : (p : Block) → p ≢ q → Stays (dropped rows p)
  stays_dropped p n = other-drop rows p q n

  stays_added : (p : Block) (path : WeightedHop) (old : Option Spread) → p ≢ q → Stays (added (settled most) rows p path old)
  stays_added p path None n = stays_settled p (spread (path ∷ [])) Added n
  stays_added p path (Some old) n = by (clashes old.paths path) (nat_le 64 (length old.paths))
    where
      by : (s t : Bool) → Stays (cond s (refused rows Exists) (cond t (refused rows PathsFull) (settled most rows p (spread (put_path old.paths path)) Joined)))
      by true t = refl
      by false true = refl
      by false false = stays_settled p (spread (put_path old.paths path)) Joined n

  stays_changed : (p : Block) (path : WeightedHop) (old : Option Spread) → p ≢ q → Stays (changed (settled most) rows p path old)
  stays_changed p path None n = refl
  stays_changed p path (Some old) n = stays_settled p (spread (path ∷ [])) Changed n

  stays_shortened : (p : Block) (left : Option Spread) → p ≢ q → Stays (shortened (settled most) rows p left)
  stays_shortened p None n = stays_dropped p n
  stays_shortened p (Some paths) n = stays_settled p paths Deleted n

  stays_deleted : (keep : Bool) (p : Block) (gateway : Option ℕ) (old : Option Spread) → p ≢ q → Stays (deleted keep (settled most) rows p gateway old)
  stays_deleted keep p gateway None n = refl
  stays_deleted keep p None (Some old) n = stays_dropped p n
  stays_deleted keep p (Some gateway) (Some old) n = by (list_any (goes_by gateway) old.paths)
    where
      by : (s : Bool) → Stays (cond s (shortened (settled most) rows p (without keep gateway old)) (refused rows NotFound))
      by true = stays_shortened p (without keep gateway old) n
      by false = refl

  among_one : (p : Block) → is_among q (p ∷ []) ≡ false → p ≢ q
  among_one p h same = false≢true (sym (or_parts (is_at (block_cmp q) p) false h).0 ∙ subst (λ x. is_at (block_cmp x) p ≡ true) same (at_itself p))

  stays : {w : _} (profile : ℕ) (c : Command w) → is_among q (touched_by rows c) ≡ false → Stays (apply profile most rows c)
  stays profile (Add p path) h = stays_added p path (paths_at rows p) (among_one p h)
  stays profile (Change p path) h = stays_changed p path (paths_at rows p) (among_one p h)
  stays profile (Delete p gateway) h = stays_deleted (keeps profile) p gateway (paths_at rows p) (among_one p h)
  stays profile Flush h = left-flush rows q h
  stays profile (Tick ms) h = refl
  stays profile Sync h = refl
  stays profile (Algo setting) h = refl

-- a prefix that the command doesn't touch keeps its row
pub untouched_row : {w : _} (profile most : ℕ) (rows : Table) (c : Command w) → SameBut (touched_by rows c) rows (apply profile most rows c).table
untouched_row profile most rows c q h = stays most rows q profile c h

-- ---- what was touched since a version

pub touched_none : (rows : Table) → SameBut [] rows rows
touched_none rows q none = refl

-- and by one command more
pub touched_on : {w : _} (profile most : ℕ) (was is : Table) (c : Command w) (old new : List Block) → SameBut old was is → Gains old (touched_by is c) new → SameBut new was (apply profile most is c).table
touched_on profile most was is c old new same gains q none =
    let g = gains q none in
    untouched_row profile most is c q g.1 ∙ same q g.0

-- and by the next command of a plan
pub touched_next : {w : _} (most : ℕ) (plan : Planned w) (was is : Table) (n : ℕ) (c : Command w) (old new : List Block) → is ≡ table_after most plan n → slice_get plan.commands n ≡ Some c
    → SameBut old was is → Gains old (touched_by is c) new → SameBut new was (table_after most plan (n + 1))
touched_next most plan was is n c old new at here same gains =
    subst (SameBut new was) (ap (λ (rows : Table). (apply plan.profile most rows c).table) at ∙ sym (table_after_more most plan n c here)) (touched_on plan.profile most was is c old new same gains)

-- more prefixes do no harm
pub touched_more : (was is : Table) (old new : List Block) → SameBut old was is → Gains old [] new → SameBut new was is
touched_more was is old new same gains q none = same q (gains q none).0

pub gains_one : (old : List Block) (p : Block) (new : List Block) → new ≡ insert_key block_cmp old p → Gains old (p ∷ []) new
gains_one old p new is q none = by old (subst (λ ks. is_among q ks ≡ false) is none)
  where
    by : (ks : List Block) → is_among q (insert_key block_cmp ks p) ≡ false → (is_among q ks ≡ false) × (is_among q (p ∷ []) ≡ false)
    by [] h = (refl, h)
    by (k ∷ ks) h = cases (block_cmp p k) refl h (by ks)
      where
        cases : (o : Ordering) → block_cmp p k ≡ o → is_among q (match_ordering o (p ∷ k ∷ ks) (k ∷ ks) (k ∷ insert_key block_cmp ks p)) ≡ false
            → (is_among q (insert_key block_cmp ks p) ≡ false → (is_among q ks ≡ false) × (is_among q (p ∷ []) ≡ false))
            → (is_among q (k ∷ ks) ≡ false) × (is_among q (p ∷ []) ≡ false)
        cases Less e n rest = let parts = or_parts (is_at (block_cmp q) p) (is_among q (k ∷ ks)) n in (parts.1, or_from (is_at (block_cmp q) p) false parts.0 refl)
        cases Equal e n rest = (n, or_from (is_at (block_cmp q) p) false (subst (λ x. is_at (block_cmp q) x ≡ false) (sym (block_exact p k e)) (or_parts (is_at (block_cmp q) k) (is_among q ks) n).0) refl)
        cases Greater e n rest =
            let parts = or_parts (is_at (block_cmp q) k) (is_among q (insert_key block_cmp ks p)) n in
            let more = rest parts.1 in
            (or_from (is_at (block_cmp q) k) (is_among q ks) parts.0 more.0, more.1)

-- ---- the prefixes that a flush takes out, collected one by one

-- what is collected has what it began with, and all those that a flush takes out but for those that are left
abbrev pub Collects : List Block → Table → Table → List Block → Type 0
Collects start all left now = (q : Block) → is_among q now ≡ false → (is_among q start ≡ false) × (is_among q (flushed_of all) ≡ is_among q (flushed_of left))

among_flushed : (q : Block) (e : Block × Spread) (rest : Table) (t : Bool) → has_via e.1 ≡ t → is_among q (flushed_of (e ∷ rest)) ≡ is_among q (keys_of (cond t (e ∷ filter (λ row. has_via row.1) rest) (filter (λ row. has_via row.1) rest)))
among_flushed q e rest t h = ap (λ b. is_among q (keys_of (cond b (e ∷ filter (λ row. has_via row.1) rest) (filter (λ row. has_via row.1) rest)))) h

pub collect_starts : (start : List Block) (all : Table) → Collects start all all start
collect_starts start all q none = (none, refl)

pub collect_has : (start : List Block) (all left rest : Table) (e : Block × Spread) (now more : List Block) → Collects start all left now → left ≡ e ∷ rest → has_via e.1 ≡ true
    → Gains now (e.0 ∷ []) more → Collects start all rest more
collect_has start all left rest e now more so is via gains q none =
    let g = gains q none in
    let before = so q g.0 in
    (before.0, before.1 ∙ ap (λ rows. is_among q (flushed_of rows)) is ∙ among_flushed q e rest true via ∙ ap (λ b. b || is_among q (flushed_of rest)) (or_parts (is_at (block_cmp q) e.0) false g.1).0)

pub collect_skips : (start : List Block) (all left rest : Table) (e : Block × Spread) (now : List Block) → Collects start all left now → left ≡ e ∷ rest → has_via e.1 ≡ false → Collects start all rest now
collect_skips start all left rest e now so is via q none =
    let before = so q none in
    (before.0, before.1 ∙ ap (λ rows. is_among q (flushed_of rows)) is ∙ among_flushed q e rest false via)

pub collect_ends : (start : List Block) (all left : Table) (now : List Block) → Collects start all left now → left ≡ [] → Gains start (flushed_of all) now
collect_ends start all left now so is q none =
    let before = so q none in
    (before.0, before.1 ∙ ap (λ rows. is_among q (flushed_of rows)) is)

pub collect_keeps : (start : List Block) (all left : Table) (now : List Block) → Collects start all left now → Gains start [] now
collect_keeps start all left now so q none = ((so q none).0, refl)
