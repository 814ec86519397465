-- Nexthops numbered by first appearance: what one more does to them.
use Rattle.std.proofs.Common.{◌≡◌, ◌∙◌, ℕ, ◌+◌, ◌<◌, ◌≤◌, Bool, true, false, cond, not, ◌||◌, List, [], ◌∷◌, ◌++◌, Option, Some, None, length, refl, sym, ap, subst, arith, rules, add-zero, length-append}
use Rattle.std.specs.Prelude.{Contains, filter, is_some, IsSome, ◌↔◌}
use Rattle.std.specs.List.{list_any, position_from, cons_option, filter_map}
use Rattle.std.specs.Ordering.{is_eq}
use Rattle.std.specs.Map.{lookup}
use Rattle.std.specs.BTreeMap.{insert_entry, is_at}
use Rattle.std.proofs.lemmas.Cmp.{eq_by_cmp_equiv}
use Rattle.std.proofs.lemmas.List.{append-nil}
use Rattle.std.proofs.lemmas.List.Elements.{All-push, All-same, filter-append, filter_map-append}
use Rattle.std.proofs.lemmas.List.Sums.{length-filter, count_by-le-length}
use Rattle.std.proofs.lemmas.Map.Views.{Contains-from_any, any-filter_same, list_any-from_Contains}
use Rattle.prefix_width.specs.Nexthop.{Hop}
use Rattle.prefix_width.specs.Order.{hop_cmp}
use Rattle.prefix_width.proofs.OrderLemmas.{hop_total, hop_exact}
use Rattle.counted_map.proofs.CountMapLemmas.{eq_from_is_eq}
use Rattle.rib_store.specs.declared.command.Command.{Command}
use Rattle.rib_store.specs.Limits.{plan_max}
use Rattle.rib_store.specs.Plan.{Planned, named_by, named, is_other, firsts, place_in, number_of, with_first, IsNumbering, IsPlan, IsWrongModule}
use Rattle.rib_store.specs.Profile.{IsProfile}
use Rattle.rib_store.specs.Weights.{IsWeighted}

-- nexthops that the order finds the same are one
pub one_hop : (h k : Hop) → is_eq (hop_cmp h k) ≡ true → h ≡ k
one_hop h k e = hop_exact h k (eq_from_is_eq (hop_cmp h k) e)

same_back : (h k : Hop) → is_eq (hop_cmp h k) ≡ is_eq (hop_cmp k h)
same_back h k = (eq_by_cmp_equiv hop_total).symm h k

-- leaving out what is the same as another leaves a nexthop where it was
any-other : (h x : Hop) (hs : List Hop) → is_eq (hop_cmp h x) ≡ false → list_any (is_at (hop_cmp h)) (filter (is_other x) hs) ≡ list_any (is_at (hop_cmp h)) hs
any-other h x hs apart = any-filter_same (is_at (hop_cmp h)) (is_other x) true (λ k e. ap not (ap (λ y. is_eq (hop_cmp x y)) (sym (one_hop h k e)) ∙ same_back x h ∙ apart)) hs

-- the firsts are what the list has
pub any-firsts : (hs : List Hop) (h : Hop) → list_any (is_at (hop_cmp h)) (firsts hs) ≡ list_any (is_at (hop_cmp h)) hs
any-firsts [] h = refl
any-firsts (x ∷ xs) h = go (is_eq (hop_cmp h x)) refl (any-firsts xs h)
  where
    go : (b : Bool) → is_eq (hop_cmp h x) ≡ b → list_any (is_at (hop_cmp h)) (firsts xs) ≡ list_any (is_at (hop_cmp h)) xs → (b || list_any (is_at (hop_cmp h)) (filter (is_other x) (firsts xs))) ≡ (b || list_any (is_at (hop_cmp h)) xs)
    go true e ih = refl
    go false e ih = any-other h x (firsts xs) e ∙ ih

-- a nexthop has a place where it is in the list
pub placed-any : (t : Hop → Bool) (i : ℕ) (hs : List Hop) → is_some (position_from t i hs) ≡ list_any t hs
placed-any t i [] = refl
placed-any t i (x ∷ xs) =
    let ih = placed-any t (i + 1) xs in
    elim (t x) as (λ b. is_some (cond b (Some i) (position_from t (i + 1) xs)) ≡ (b || list_any t xs)) [ true ↦ refl | false ↦ ih ]

lone-other : (h x : Hop) (b : Bool) → is_eq (hop_cmp h x) ≡ b → filter (is_other x) (h ∷ []) ≡ cond b [] (h ∷ [])
lone-other h x true e = let f : is_eq (hop_cmp x h) ≡ true = same_back x h ∙ e in rw f refl
lone-other h x false e = let f : is_eq (hop_cmp x h) ≡ false = same_back x h ∙ e in rw f refl

firsts_more : (hs : List Hop) (h : Hop) → firsts (hs ++ h ∷ []) ≡ cond (list_any (is_at (hop_cmp h)) (firsts hs)) (firsts hs) (firsts hs ++ h ∷ [])
firsts_more [] h = refl
firsts_more (x ∷ xs) h = ap (λ ys. x ∷ filter (is_other x) ys) (firsts_more xs h) ∙ go (is_eq (hop_cmp h x)) refl
  where
    pushed : (b : Bool) → is_eq (hop_cmp h x) ≡ b → filter (is_other x) (firsts xs ++ h ∷ []) ≡ filter (is_other x) (firsts xs) ++ cond b [] (h ∷ [])
    pushed b e = filter-append (is_other x) (firsts xs) (h ∷ []) ∙ ap (λ ys. filter (is_other x) (firsts xs) ++ ys) (lone-other h x b e)

    go : (b : Bool) → is_eq (hop_cmp h x) ≡ b → x ∷ filter (is_other x) (cond (list_any (is_at (hop_cmp h)) (firsts xs)) (firsts xs) (firsts xs ++ h ∷ [])) ≡ cond (b || list_any (is_at (hop_cmp h)) (filter (is_other x) (firsts xs))) (x ∷ filter (is_other x) (firsts xs)) (x ∷ filter (is_other x) (firsts xs) ++ h ∷ [])
    go true e = known (list_any (is_at (hop_cmp h)) (firsts xs))
      where
        known : (c : Bool) → x ∷ filter (is_other x) (cond c (firsts xs) (firsts xs ++ h ∷ [])) ≡ x ∷ filter (is_other x) (firsts xs)
        known true = refl
        known false = ap (λ ys. x ∷ ys) (pushed true e ∙ append-nil (filter (is_other x) (firsts xs)))
    go false e = rw any-other (unknown (list_any (is_at (hop_cmp h)) (firsts xs)))
      where
        unknown : (c : Bool) → x ∷ filter (is_other x) (cond c (firsts xs) (firsts xs ++ h ∷ [])) ≡ cond c (x ∷ filter (is_other x) (firsts xs)) (x ∷ filter (is_other x) (firsts xs) ++ h ∷ [])
        unknown true = refl
        unknown false = ap (λ ys. x ∷ ys) (pushed false e)

-- one nexthop more makes one first more, if it is new
firsts-append : (hs : List Hop) (h : Hop) → firsts (hs ++ h ∷ []) ≡ with_first (firsts hs) (Some h)
firsts-append hs h = firsts_more hs h ∙ ap (λ b. cond b (firsts hs) (firsts hs ++ h ∷ [])) (sym (placed-any (is_at (hop_cmp h)) 1 (firsts hs)))

absent : (t : Bool) (i : ℕ) (rest : Option ℕ) → cond t (Some i) rest ≡ None → (t ≡ false) × (rest ≡ None)
absent true i rest e = cc
absent false i rest e = (refl, e)

-- the places, once a new nexthop stands behind the others
place-append : (hs : List Hop) (k h : Hop) (i : ℕ) → position_from (is_at (hop_cmp k)) i hs ≡ None → position_from (is_at (hop_cmp h)) i (hs ++ k ∷ []) ≡ cond (is_eq (hop_cmp k h)) (Some (i + length hs)) (position_from (is_at (hop_cmp h)) i hs)
place-append [] k h i none = ap (λ b. cond b (Some i) None) (same_back h k) ∙ ap (λ n. cond (is_eq (hop_cmp k h)) (Some n) None) (sym (add-zero i))
place-append (x ∷ xs) k h i none = go (is_eq (hop_cmp h x)) refl (place-append xs k h (i + 1) first.1)
  where
    first : (is_eq (hop_cmp k x) ≡ false) × (position_from (is_at (hop_cmp k)) (i + 1) xs ≡ None)
    first = absent (is_eq (hop_cmp k x)) i (position_from (is_at (hop_cmp k)) (i + 1) xs) none

    go : (b : Bool) → is_eq (hop_cmp h x) ≡ b → position_from (is_at (hop_cmp h)) (i + 1) (xs ++ k ∷ []) ≡ cond (is_eq (hop_cmp k h)) (Some (i + 1 + length xs)) (position_from (is_at (hop_cmp h)) (i + 1) xs) → cond b (Some i) (position_from (is_at (hop_cmp h)) (i + 1) (xs ++ k ∷ [])) ≡ cond (is_eq (hop_cmp k h)) (Some (i + length (x ∷ xs))) (cond b (Some i) (position_from (is_at (hop_cmp h)) (i + 1) xs))
    go true e ih =
        let f : is_eq (hop_cmp k h) ≡ false = ap (λ y. is_eq (hop_cmp k y)) (one_hop h x e) ∙ first.0 in
        rw f refl
    go false e ih =
        let n : i + 1 + length xs ≡ i + length (x ∷ xs) = omega arith in
        ih ∙ ap (λ m. cond (is_eq (hop_cmp k h)) (Some m) (position_from (is_at (hop_cmp h)) (i + 1) xs)) n

-- a new nexthop behind the others, with its place in the map
pub IsNumbering-append : (hops hops' : List Hop) (numbers numbers' : List (Hop × ℕ)) (k : Hop) (n : ℕ) → IsNumbering hops numbers → lookup (is_at (hop_cmp k)) numbers ≡ None → hops' ≡ hops ++ k ∷ [] → n ≡ length hops' → numbers' ≡ insert_entry hop_cmp numbers k n → ((h : Hop) → lookup (is_at (hop_cmp h)) (insert_entry hop_cmp numbers k n) ≡ cond (is_eq (hop_cmp k h)) (Some n) (lookup (is_at (hop_cmp h)) numbers)) → IsNumbering hops' numbers'
IsNumbering-append hops hops' numbers numbers' k n is none e c i puts h =
    let count : n ≡ 1 + length hops = c ∙ ap length e ∙ more in
    ap (lookup (is_at (hop_cmp h))) i
    ∙ puts h
    ∙ ap (λ o. cond (is_eq (hop_cmp k h)) (Some n) o) (is h)
    ∙ ap (λ m. cond (is_eq (hop_cmp k h)) (Some m) (place_in hops h)) count
    ∙ sym (place-append hops k h 1 (sym (is k) ∙ none))
    ∙ ap (λ hs. place_in hs h) (sym e)
  where
    more : length (hops ++ k ∷ []) ≡ 1 + length hops
    more = omega (arith, length-append {A = Hop})

-- there are no more firsts than nexthops, and no more nexthops than commands
length-firsts : (hs : List Hop) → length (firsts hs) ≤ length hs
length-firsts [] = omega arith
length-firsts (h ∷ hs) =
    let ih = length-firsts hs in
    let f = length-filter (is_other h) (firsts hs) in
    let c = count_by-le-length (is_other h) (firsts hs) in
    omega arith

length-cons_option : (o : Option Hop) (hs : List Hop) → length (cons_option o hs) ≤ length hs + 1
length-cons_option None hs = omega arith
length-cons_option (Some h) hs = omega arith

some_from_true : (o : Option ℕ) → is_some o ≡ true → IsSome o
some_from_true None e = absurd cc
some_from_true (Some n) e = search rules

true_from_some : (o : Option ℕ) → IsSome o → is_some o ≡ true
true_from_some None h = absurd (search rules)
true_from_some (Some n) h = refl

module _ {w : ℕ} where
  length-named : (commands : List (Command w)) → length (filter_map named_by commands) ≤ length commands
  length-named [] = omega arith
  length-named (c ∷ cs) =
      let ih = length-named cs in
      let more = length-cons_option (named_by c) (filter_map named_by cs) in
      omega arith

  -- a plan names no more nexthops than it has commands
  pub hops_within : (plan : Planned w) (hops : List Hop) (numbers : List (Hop × ℕ)) → IsPlan plan hops numbers → length hops ≤ length plan.commands
  hops_within plan hops numbers is =
      let e : length hops ≡ length (firsts (named plan)) = ap length is.order in
      let f = length-firsts (named plan) in
      let n = length-named plan.commands in
      omega arith

  -- one command more makes one first more, if it names a new nexthop
  firsts-named-append : (commands : List (Command w)) (c : Command w) → firsts (filter_map named_by (commands ++ c ∷ [])) ≡ with_first (firsts (filter_map named_by commands)) (named_by c)
  firsts-named-append commands c = ap firsts (filter_map-append named_by commands (c ∷ [])) ∙ more (named_by c)
    where
      more : (o : Option Hop) → firsts (filter_map named_by commands ++ cons_option o []) ≡ with_first (firsts (filter_map named_by commands)) o
      more None = ap firsts (append-nil (filter_map named_by commands))
      more (Some h) = firsts-append (filter_map named_by commands) h

  -- a plan with one command more
  pub IsPlan-with : (plan plan' : Planned w) (hops hops' : List Hop) (numbers numbers' : List (Hop × ℕ)) (c : Command w) → IsPlan plan hops numbers → length plan.commands < plan_max → ¬ (IsWrongModule c) → IsWeighted c → plan'.profile ≡ plan.profile → plan'.commands ≡ plan.commands ++ c ∷ [] → hops' ≡ with_first hops (named_by c) → IsNumbering hops' numbers' → IsPlan plan' hops' numbers'
  IsPlan-with plan plan' hops hops' numbers numbers' c is room right weighted same items e numbering = record {
    profile = subst IsProfile (sym same) is.profile;
    most = let more : length plan'.commands ≡ length (plan.commands ++ c ∷ []) = ap length items in omega (arith, length-append {A = Command w});
    modules = All-same allowed plan'.commands (plan.commands ++ c ∷ []) items (All-push allowed plan.commands c is.modules right);
    weights = All-same IsWeighted plan'.commands (plan.commands ++ c ∷ []) items (All-push IsWeighted plan.commands c is.weights weighted);
    order = e ∙ ap (λ hs. with_first hs (named_by c)) is.order ∙ sym (firsts-named-append plan.commands c) ∙ ap (λ cs. firsts (filter_map named_by cs)) (sym items);
    numbering = numbering;
  }
    where
      allowed : Command w → Type 0
      allowed command = ¬ (IsWrongModule command)

  -- a nexthop has a number where a command names it
  numbered-any : (plan : Planned w) (h : Hop) → is_some (number_of plan h) ≡ list_any (is_at (hop_cmp h)) (named plan)
  numbered-any plan h = placed-any (is_at (hop_cmp h)) 1 (firsts (named plan)) ∙ any-firsts (named plan) h

  pub numbered_if_named : (plan : Planned w) (h : Hop) (o : Option ℕ) → o ≡ number_of plan h → IsSome o ↔ Contains (named plan) h
  numbered_if_named plan h o e = (
    λ s. Contains-from_any one_hop h (named plan) (sym (numbered-any plan h) ∙ sym (ap is_some e) ∙ true_from_some o s),
    λ c. some_from_true o (ap is_some e ∙ numbered-any plan h ∙ list_any-from_Contains (eq_by_cmp_equiv hop_total) h (named plan) c),
  )
