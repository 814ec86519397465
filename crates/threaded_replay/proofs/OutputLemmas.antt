-- The text of a replay whose gets were answered: its packets, and its last versions.
use Rattle.std.proofs.Common.{◌≡◌, ◌∙◌, ℕ, zero, suc, ◌+◌, ◌<◌, true, false, List, [], ◌∷◌, Option, Some, None, length, refl, sym, ap, arith}
use Rattle.std.specs.Prelude.{reverse, slice_index_or}
use Rattle.std.specs.List.{cons_option, filter_map}
use Rattle.prefix_width.specs.Nexthop.{Hop}
use Rattle.prefix_width.specs.Order.{hop_cmp}
use Rattle.counted_map.specs.Counts.{linked_all, times}
use Rattle.rib_store.specs.Plan.{Planned}
use Rattle.route_lang.specs.declared.line.Line.{Line}
use Rattle.route_lang.specs.declared.line.Line.TheVariants.{Change, Quiet, Get4, Get6}
use Rattle.route_lang.specs.Script.{Reading}
use Rattle.route_lang.specs.Fits.{Positions}
use Rattle.fib_pass.specs.Totals.{all_hit, hops_hit}
use Rattle.fib_pass.specs.Views.{PassView}
use Rattle.replay_run.specs.Output.{given, inet_of, inet6_of, paired}
use Rattle.threaded_replay.specs.Legal.{Family, Inet, Inet6, Get, by_family, gets_from, gets_of, is_in, synced_behind, turns}
use Rattle.threaded_replay.specs.Merging.{given_at, given_by}
use Rattle.threaded_replay.specs.Serving.{nexthop_in}
use Rattle.threaded_replay.proofs.CountLemmas.{added, added_same, all_hits_count, all_turns_count, numbers, same_counted, times-reverse}

-- ---- the gets' nexthops, as lines give them and as numbers do

shifted : (f : ℕ → Option Hop) (b n : ℕ) → filter_map f (numbers (suc b) n) ≡ filter_map (λ j. f (suc j)) (numbers b n)
shifted f b zero = refl
shifted f b (suc n) = ap (cons_option (f (suc b))) (shifted f (suc b) n)

next_given : (most : ℕ) (script : Reading) (family : Family) (get : Get) (gets : List Get) (version : ℕ → ℕ)
    → filter_map (given_at most script (get ∷ gets) version family) (numbers 0 (length (get ∷ gets)))
    ≡ cons_option (given_by most script family (Some get) (version 0)) (filter_map (given_at most script gets (λ j. version (suc j)) family) (numbers 0 (length gets)))
next_given most script family get gets version =
    ap (cons_option (given_by most script family (Some get) (version 0))) (shifted (given_at most script (get ∷ gets) version family) 0 (length gets))

pub given_paired : (most : ℕ) (script : Reading) (lines : List Line) (synced : Positions) (version : ℕ → ℕ)
    → filter_map (given most (inet_of script)) (paired lines version)
    ≡ filter_map (given_at most script (gets_from script synced lines) version Inet) (numbers 0 (length (gets_from script synced lines)))
given_paired most script [] synced version = refl
given_paired most script (Change line inet inet6 ∷ lines) synced version = given_paired most script lines synced version
given_paired most script (Quiet line inet inet6 ∷ lines) synced version = given_paired most script lines (record { inet = synced_behind script.inet synced.inet inet; inet6 = synced_behind script.inet6 synced.inet6 inet6 }) version
given_paired most script (Get4 line addr flow at ∷ lines) synced version =
    let get : Get = record { family = Inet; addr = addr; flow = flow; line = line; at = at; synced = synced.inet } in
    ap (cons_option (given_by most script Inet (Some get) (version 0))) (given_paired most script lines synced (λ j. version (suc j)))
    ∙ sym (next_given most script Inet get (gets_from script synced lines) version)
given_paired most script (Get6 line addr flow at ∷ lines) synced version =
    let get : Get = record { family = Inet6; addr = addr; flow = flow; line = line; at = at; synced = synced.inet6 } in
    ap (cons_option (given_by most script Inet (Some get) (version 0))) (given_paired most script lines synced (λ j. version (suc j)))
    ∙ sym (next_given most script Inet get (gets_from script synced lines) version)

pub given_paired6 : (most : ℕ) (script : Reading) (lines : List Line) (synced : Positions) (version : ℕ → ℕ)
    → filter_map (given most (inet6_of script)) (paired lines version)
    ≡ filter_map (given_at most script (gets_from script synced lines) version Inet6) (numbers 0 (length (gets_from script synced lines)))
given_paired6 most script [] synced version = refl
given_paired6 most script (Change line inet inet6 ∷ lines) synced version = given_paired6 most script lines synced version
given_paired6 most script (Quiet line inet inet6 ∷ lines) synced version = given_paired6 most script lines (record { inet = synced_behind script.inet synced.inet inet; inet6 = synced_behind script.inet6 synced.inet6 inet6 }) version
given_paired6 most script (Get4 line addr flow at ∷ lines) synced version =
    let get : Get = record { family = Inet; addr = addr; flow = flow; line = line; at = at; synced = synced.inet } in
    ap (cons_option (given_by most script Inet6 (Some get) (version 0))) (given_paired6 most script lines synced (λ j. version (suc j)))
    ∙ sym (next_given most script Inet6 get (gets_from script synced lines) version)
given_paired6 most script (Get6 line addr flow at ∷ lines) synced version =
    let get : Get = record { family = Inet6; addr = addr; flow = flow; line = line; at = at; synced = synced.inet6 } in
    ap (cons_option (given_by most script Inet6 (Some get) (version 0))) (given_paired6 most script lines synced (λ j. version (suc j)))
    ∙ sym (next_given most script Inet6 get (gets_from script synced lines) version)

-- ---- packets

-- a get of the other family gives nothing in this one
other : (family k : Family) → by_family family (by_family k true false) (by_family k false true) ≡ false → (v : ℕ) (a b : Option Hop)
    → nexthop_in family (by_family k (record { version = v; inet = a; inet6 = None }) (record { version = v; inet = None; inet6 = b })) ≡ None
other Inet Inet out v a b = cc
other Inet Inet6 out v a b = refl
other Inet6 Inet out v a b = refl
other Inet6 Inet6 out v a b = cc

other_gives_none : (most : ℕ) (script : Reading) (family : Family) (get : Get) (v : ℕ) → is_in family get ≡ false → given_by most script family (Some get) v ≡ None
other_gives_none most script family get v out = other family get.family out v _ _

-- what passes hit that made the gets of their workers is what the gets gave
pub hits_counted : {w : ℕ} (most n : ℕ) (script : Reading) (family : Family) (plan : Planned w) (version : ℕ → ℕ) (passes : List (PassView w)) (given_hops : List Hop) → 0 < n → length passes ≡ n
    → ((i : ℕ) (d : PassView w) → i < n → hops_hit plan (slice_index_or passes i d) ≡ reverse (filter_map (given_at most script (gets_of script) version family) (turns n i family script)))
    → given_hops ≡ filter_map (given_at most script (gets_of script) version family) (numbers 0 (length (gets_of script)))
    → linked_all hop_cmp [] (all_hit plan passes) ≡ linked_all hop_cmp [] given_hops
hits_counted {w} most n script family plan version passes given_hops some count each all =
    same_counted (all_hit plan passes) given_hops (λ h.
    all_hits_count h (hops_hit plan) (λ i. times hop_cmp h (reverse (filter_map (given_at most script (gets_of script) version family) (turns n i family script)))) passes 0
    (λ i d lt. (let e : 0 + i ≡ i = omega arith in rw e (ap (times hop_cmp h) (each i d (omega (arith, lt, count))))))
    ∙ ap (added _ 0) count
    ∙ added_same _ (λ i. times hop_cmp h (filter_map (given_at most script (gets_of script) version family) (turns n i family script))) 0 n
    (λ i. times-reverse h (filter_map (given_at most script (gets_of script) version family) (turns n i family script)))
    ∙ all_turns_count h n family (given_at most script (gets_of script) version family) (gets_of script) 0 some
    (λ i get at out. (let e : 0 + i ≡ i = omega arith in rw (e, at) (other_gives_none most script family get (version i) out)))
    ∙ ap (times hop_cmp h) (sym all))
