-- The replies to the first commands of a plan, one by one.
use Rattle.std.proofs.Common.{◌≡◌, ◌∙◌, inl, inr, ℕ, Bool, zero, suc, ◌<◌, ◌≤◌, cond, nat_lt, nat_le, List, [], ◌∷◌, ◌++◌, Option, Some, None, length, refl, sym, ap, subst, arith, length-append}
use Rattle.std.specs.List.{list_any, slice_get}
use Rattle.std.specs.Prelude.{slice_index_or}
use Rattle.std.specs.Option.{option_to_list, option_map}
use Rattle.std.proofs.lemmas.Bool.{cases_lt, cond_both}
use Rattle.std.proofs.lemmas.Option.{get_or_from_slice_get, same_Some, slice_get_cases}
use Rattle.prefix_width.specs.Prefix.{Block}
use Rattle.prefix_width.specs.Path.{WeightedHop}
use Rattle.nhgrp_slots.specs.PathList.{clashes, goes_by, put_path}
use Rattle.nhgrp_slots.specs.Spread.{Spread, spread, without}
use Rattle.rib_store.specs.Plan.{Planned}
use Rattle.rib_store.specs.Profile.{keeps}
use Rattle.rib_store.specs.Limits.{routes_max}
use Rattle.rib_store.specs.declared.command.Command.{Command}
use Rattle.rib_store.specs.declared.command.Command.TheVariants.{Add, Change, Delete, Flush, Tick, Sync, Algo}
use Rattle.rib_store.specs.declared.command.Reply.{Reply}
use Rattle.rib_store.specs.declared.command.Reply.TheVariants.{Added, Joined, Changed, Deleted, Refused}
use Rattle.rib_store.specs.declared.command.Refusal.{Refusal}
use Rattle.rib_store.specs.declared.command.Refusal.TheVariants.{Exists, NotFound, PathsFull, TableFull, TargetsFull}
use Rattle.rib_store.specs.Table.{Table, added, apply, changed, deleted, live_count, paths_at, placed, put_row, refused, settled, shortened, table_after}
use Rattle.rib_store.proofs.LimitLemmas.{tables_are_within}
use Rattle.plan_cut.proofs.ListingLemmas.{get_front, get_end}
use Rattle.fib_sync.specs.Replies.{reply_at, replies_to}
use Rattle.replay_run.specs.Family.{FlushesAtMost}

-- a command that is there has a reply
reply_there : {w : ℕ} (most : ℕ) (plan : Planned w) (n : ℕ) → n < length plan.commands → (reply : Reply) × (reply_at most plan n ≡ Some reply)
reply_there most plan n within = elim (slice_get_cases plan.commands n).1 [
  | inl p ↦ ((apply plan.profile most (table_after most plan n) p.0).reply, ap (option_map (λ c. (apply plan.profile most (table_after most plan n) c).reply)) p.2)
  | inr q ↦ absurd (omega arith)
]

-- one for each command
pub length-replies : {w : ℕ} (most : ℕ) (plan : Planned w) (n : ℕ) → n ≤ length plan.commands → length (replies_to most plan n) ≡ n
unfolding replies_to
length-replies most plan zero within = refl
length-replies most plan (suc n) within =
    let there = reply_there most plan n (omega arith) in
    let one : length (option_to_list (reply_at most plan n)) ≡ 1 = ap (λ o. length (option_to_list o)) there.1 in
    omega (arith, length-append (replies_to most plan n) (option_to_list (reply_at most plan n)), length-replies most plan n (omega arith))

-- each at its position
pub get-replies : {w : ℕ} (most : ℕ) (plan : Planned w) (n m : ℕ) → n < m → m ≤ length plan.commands → slice_get (replies_to most plan m) n ≡ reply_at most plan n
unfolding replies_to
get-replies most plan n zero below within = absurd (omega arith)
get-replies most plan n (suc m) below within =
    let len = length-replies most plan m (omega arith) in
    let there = reply_there most plan m (omega arith) in
    let whole : replies_to most plan (suc m) ≡ replies_to most plan m ++ there.0 ∷ [] = ap (λ o. replies_to most plan m ++ option_to_list o) there.1 in
    elim (cases_lt n m) [
      | inl lt ↦ ap (λ (rs : List Reply). slice_get rs n) whole ∙ get_front (replies_to most plan m) (there.0 ∷ []) n (omega arith) ∙ get-replies most plan n m lt (omega arith)
      | inr ge ↦
          let same : n ≡ m = omega arith in
          subst (λ k. slice_get (replies_to most plan (suc m)) k ≡ reply_at most plan k) (sym same)
          (ap (λ (rs : List Reply). slice_get rs m) whole ∙ subst (λ k. slice_get (replies_to most plan m ++ there.0 ∷ []) k ≡ Some there.0) len (get_end (replies_to most plan m) there.0) ∙ sym there.1)
    ]

-- the one at a position is the reply to the command there
pub reply_found : {w : ℕ} (most : ℕ) (plan : Planned w) (n m : ℕ) (rs : List Reply) (d : Reply) → rs ≡ replies_to most plan m → n < m → m ≤ length plan.commands → Some (slice_index_or rs n d) ≡ reply_at most plan n
reply_found most plan n m rs d are below within =
    let there = reply_there most plan n (omega arith) in
    let here : slice_get rs n ≡ Some there.0 = ap (λ (xs : List Reply). slice_get xs n) are ∙ get-replies most plan n m below within ∙ there.1 in
    ap Some (get_or_from_slice_get rs n there.0 d here) ∙ sym there.1

-- ---- how many routes a flush takes out

-- what holds of a reply and of every refusal holds of the reply behind the limits
settled_reply : (P : Reply → Type 0) → ((why : Refusal) → P (Refused why)) → (most : ℕ) (rows : Table) (b : Block) (ps : Spread) (reply : Reply) → P reply → P (settled most rows b ps reply).reply
settled_reply P refusal most rows b ps reply h =
    cond_both (nat_lt routes_max (length (put_row rows b ps))) (refused rows TableFull) (cond (nat_lt most (live_count (put_row rows b ps))) (refused rows TargetsFull) (placed rows b ps reply))
    (λ o. P o.reply)
    (λ _. refusal TableFull)
    (λ _. cond_both (nat_lt most (live_count (put_row rows b ps))) (refused rows TargetsFull) (placed rows b ps reply) (λ o. P o.reply) (λ _. refusal TargetsFull) (λ _. h))

-- a table of so many routes flushes no more
pub flushes_few : {w : ℕ} (profile most : ℕ) (rows : Table) (c : Command w) → length rows ≤ routes_max → FlushesAtMost routes_max (apply profile most rows c).reply
flushes_few {w} profile most rows c few = by_command c
  where
    P : Reply → Type 0
    P = FlushesAtMost routes_max

    refusal : (why : Refusal) → P (Refused why)
    refusal why = tt

    settles : (b : Block) (ps : Spread) (reply : Reply) → P reply → P (settled most rows b ps reply).reply
    settles b ps reply h = settled_reply P refusal most rows b ps reply h

    adds : (b : Block) (p : WeightedHop) (o : Option Spread) → P (added (settled most) rows b p o).reply
    adds b p None = settles b (spread (p ∷ [])) Added tt
    adds b p (Some s) =
        cond_both (clashes s.paths p) (refused rows Exists) (cond (nat_le 64 (length s.paths)) (refused rows PathsFull) (settled most rows b (spread (put_path s.paths p)) Joined)) (λ o. P o.reply) (λ _. tt)
        (λ _. cond_both (nat_le 64 (length s.paths)) (refused rows PathsFull) (settled most rows b (spread (put_path s.paths p)) Joined) (λ o. P o.reply) (λ _. tt) (λ _. settles b (spread (put_path s.paths p)) Joined tt))

    changes : (b : Block) (p : WeightedHop) (o : Option Spread) → P (changed (settled most) rows b p o).reply
    changes b p None = tt
    changes b p (Some old) = settles b (spread (p ∷ [])) Changed tt

    shortens : (b : Block) (o : Option Spread) → P (shortened (settled most) rows b o).reply
    shortens b None = tt
    shortens b (Some paths) = settles b paths Deleted tt

    deletes : (keep : Bool) (b : Block) (gateway : Option ℕ) (o : Option Spread) → P (deleted keep (settled most) rows b gateway o).reply
    deletes keep b gateway None = tt
    deletes keep b None (Some s) = tt
    deletes keep b (Some gateway) (Some s) =
        cond_both (list_any (goes_by gateway) s.paths) (shortened (settled most) rows b (without keep gateway s)) (refused rows NotFound) (λ o. P o.reply) (λ _. shortens b (without keep gateway s)) (λ _. tt)

    by_command : (d : Command w) → P (apply profile most rows d).reply
    by_command (Add prefix path) = adds prefix path (paths_at rows prefix)
    by_command (Change prefix path) = changes prefix path (paths_at rows prefix)
    by_command (Delete prefix gateway) = deletes (keeps profile) prefix gateway (paths_at rows prefix)
    by_command Flush = omega arith
    by_command (Tick ms) = tt
    by_command Sync = tt
    by_command (Algo setting) = tt

-- no reply to a command of a plan tells of more routes than a table may have
pub replies_few : {w : ℕ} (most : ℕ) (plan : Planned w) (n : ℕ) (reply : Reply) → Some reply ≡ reply_at most plan n → FlushesAtMost routes_max reply
replies_few {w} most plan n reply e = by_command (slice_get plan.commands n) refl
  where
    by_command : (o : Option (Command w)) → slice_get plan.commands n ≡ o → FlushesAtMost routes_max reply
    by_command None there =
        let none : Some reply ≡ None = e ∙ ap (option_map (λ c. (apply plan.profile most (table_after most plan n) c).reply)) there in
        cc
    by_command (Some c) there =
        let same : reply ≡ (apply plan.profile most (table_after most plan n) c).reply = same_Some _ _ (e ∙ ap (option_map (λ c. (apply plan.profile most (table_after most plan n) c).reply)) there) in
        subst (FlushesAtMost routes_max) (sym same) (flushes_few plan.profile most (table_after most plan n) c (tables_are_within w most plan n).room)
