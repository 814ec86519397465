-- A worker's answers, one more at a time.
use Rattle.std.proofs.Common.{◌≡◌, ◌≢◌, ◌∙◌, ◌⊎◌, inl, inr, ℕ, zero, suc, ◌+◌, ◌*◌, ◌<◌, ◌≤◌, true, false, List, [], ◌∷◌, ◌++◌, Option, Some, None, length, refl, sym, ap, subst, arith, add-mul, length-append, append_assoc, append-nil, get_or}
use Rattle.std.specs.Prelude.{option_to_list, reverse}
use Rattle.std.specs.List.{filter_map, slice_get}
use Rattle.std.proofs.lemmas.List.{reverse-append, same_from_push}
use Rattle.std.proofs.lemmas.List.Elements.{filter_map-append}
use Rattle.std.proofs.lemmas.Option.{none-some, same_Some, slice_get_within, slice_get-get_or}
use Rattle.prefix_width.specs.Nexthop.{Hop}
use Rattle.rib_store.specs.Plan.{Planned}
use Rattle.route_lang.specs.Script.{Reading}
use Rattle.threaded_replay.specs.declared.got.Got.{Got}
use Rattle.threaded_replay.specs.Legal.{Family, Inet, Inet6, Get, by_family, is_in}
use Rattle.threaded_replay.specs.Tally.{AnswersSince, IsNew, Tally}
use Rattle.threaded_replay.specs.Serving.{IsRight, IsServed, IsTallied, Serves, entries_from, entry_of, nexthop_in, of_plans}

-- an element of a list that is one longer
pub get_snoc : {X : Type 0} (xs : List X) (x : X) (i : ℕ) (y : X) → slice_get (xs ++ x ∷ []) i ≡ Some y → (slice_get xs i ≡ Some y) ⊎ ((i ≡ length xs) × (y ≡ x))
get_snoc [] x zero y h = inr (refl, sym (same_Some _ _ h))
get_snoc [] x (suc i) y h = absurd (none-some _ h)
get_snoc (z ∷ xs) x zero y h = inl h
get_snoc (z ∷ xs) x (suc i) y h = elim (get_snoc xs x i y h) [ inl a ↦ inl a | inr p ↦ inr (ap suc p.0, p.1) ]

-- a get of the family is in it, and one of the other isn't
same_or_not : (h : Family) (get : Get) → ((h ≡ get.family) × (is_in h get ≡ true)) ⊎ ((h ≢ get.family) × (is_in h get ≡ false))
same_or_not h get = by_cases h get.family
  where
    by_cases : (h k : Family) → ((h ≡ k) × (by_family h (by_family k true false) (by_family k false true) ≡ true)) ⊎ ((h ≢ k) × (by_family h (by_family k true false) (by_family k false true) ≡ false))
    by_cases Inet Inet = inl (refl, refl)
    by_cases Inet Inet6 = inr (λ e. cc, refl)
    by_cases Inet6 Inet = inr (λ e. cc, refl)
    by_cases Inet6 Inet6 = inl (refl, refl)

one_value : {X : Type 0} (o : Option X) (a b : X) → o ≡ Some a → o ≡ Some b → a ≡ b
one_value o a b p q = same_Some a b (sym p ∙ q)

-- ---- one get

same_got : (v : ℕ) (a a' b b' : Option Hop) → a ≡ a' → b ≡ b' → let g : Got = record { version = v; inet = a; inet6 = b } in g ≡ record { version = v; inet = a'; inet6 = b' }
same_got v a a' b b' e f = rw (e, f) refl

module _ (most : ℕ) (plan : Planned 32) (plan6 : Planned 128) (get : Get) (got : Got) where
  -- a get of IPv4, as both passes see it
  pub served_inet : (now next now6 : Tally) → get.family ≡ Inet → got.inet6 ≡ None → AnswersSince most plan get.synced now get.addr get.flow got.version got.inet next
      → IsServed most (of_plans plan plan6) get (λ h. by_family h now now6) got (λ h. by_family h next now6)
  served_inet now next now6 is none a = record {
    right = record {
      since = rw is a.since;
      last = rw is a.answers.last;
      answer = rw is (same_got got.version got.inet _ got.inet6 None a.answers.right none);
    };
    later = rw is a.answers.later;
    seen = rw is a.answers.seen;
    lookups = rw is a.answers.lookups;
    hops = rw is a.answers.hops;
    number = rw is a.answers.number;
    others = λ h d. other h (λ e. d (e ∙ sym is));
  }
    where
      other : (h : Family) → h ≢ Inet → by_family h next now6 ≡ by_family h now now6
      other Inet d = absurd (d refl)
      other Inet6 d = refl

  -- a get of IPv6
  pub served_inet6 : (now now6 next6 : Tally) → get.family ≡ Inet6 → got.inet ≡ None → AnswersSince most plan6 get.synced now6 get.addr get.flow got.version got.inet6 next6
      → IsServed most (of_plans plan plan6) get (λ h. by_family h now now6) got (λ h. by_family h now next6)
  served_inet6 now now6 next6 is none a = record {
    right = record {
      since = rw is a.since;
      last = rw is a.answers.last;
      answer = rw is (same_got got.version got.inet None got.inet6 _ none a.answers.right);
    };
    later = rw is a.answers.later;
    seen = rw is a.answers.seen;
    lookups = rw is a.answers.lookups;
    hops = rw is a.answers.hops;
    number = rw is a.answers.number;
    others = λ h d. other h (λ e. d (e ∙ sym is));
  }
    where
      other : (h : Family) → h ≢ Inet6 → by_family h now next6 ≡ by_family h now now6
      other Inet6 d = absurd (d refl)
      other Inet d = refl

-- ---- entries

pub first_step : (j n : ℕ) → j + 0 * n ≡ j
first_step j n = omega arith

pub next_step : (j n k : ℕ) → j + n + k * n ≡ j + suc k * n
next_step j n k = omega (arith, add-mul k 1 n)

-- one answer more is one entry more, if its get is of the family
entries_snoc : (h : Family) (gets : List Get) (n j : ℕ) (gots : List Got) (got : Got)
    → entries_from h gets n j (gots ++ got ∷ []) ≡ entries_from h gets n j gots ++ entry_of h (j + length gots * n) (slice_get gets (j + length gots * n)) got
entries_snoc h gets n j [] got =
    append-nil (entry_of h j (slice_get gets j) got) ∙ ap (λ k. entry_of h k (slice_get gets k) got) (sym (first_step j n))
entries_snoc h gets n j (x ∷ xs) got =
    ap (λ es. entry_of h j (slice_get gets j) x ++ es) (entries_snoc h gets n (j + n) xs got)
    ∙ sym (append_assoc (entry_of h j (slice_get gets j) x) (entries_from h gets n (j + n) xs) _)
    ∙ ap (λ k. (entry_of h j (slice_get gets j) x ++ entries_from h gets n (j + n) xs) ++ entry_of h k (slice_get gets k) got) (next_step j n (length xs))

-- what a pass has done with one entry more
tallied_on : (h : Family) (w : ℕ) (entries : List (ℕ × Got)) (j : ℕ) (got : Got) (now next : Tally) → IsTallied h w entries now
    → next.number ≡ now.number → next.lookups ≡ now.lookups + 1 → next.seen ≡ got.version → next.hops ≡ option_to_list (nexthop_in h got) ++ now.hops
    → IsTallied h w (entries ++ (j, got) ∷ []) next
tallied_on h w entries j got now next old number lookups seen hops = record {
  number = number ∙ old.number;
  lookups = omega (arith, lookups, old.lookups, length-append entries ((j, got) ∷ []));
  seen = λ front e is. seen ∙ ap (λ (p : ℕ × Got). p.1.version) (same_from_push entries front (j, got) e is).1;
  hops = hops ∙ ap (λ hs. option_to_list (nexthop_in h got) ++ hs) old.hops ∙ sym (one_more (nexthop_in h got) refl);
}
  where
    last_hops : (o : Option Hop) → nexthop_in h got ≡ o → filter_map (λ (e : ℕ × Got). nexthop_in h e.1) ((j, got) ∷ []) ≡ option_to_list o
    last_hops None is = rw is refl
    last_hops (Some hop) is = rw is refl

    reversed : (o : Option Hop) → reverse (option_to_list o) ≡ option_to_list o
    reversed None = refl
    reversed (Some hop) = refl

    one_more : (o : Option Hop) → nexthop_in h got ≡ o → reverse (filter_map (λ (e : ℕ × Got). nexthop_in h e.1) (entries ++ (j, got) ∷ [])) ≡ option_to_list o ++ reverse (filter_map (λ (e : ℕ × Got). nexthop_in h e.1) entries)
    one_more o is =
        let before = filter_map (λ (e : ℕ × Got). nexthop_in h e.1) entries in
        ap reverse (filter_map-append (λ (e : ℕ × Got). nexthop_in h e.1) entries ((j, got) ∷ []))
        ∙ ap (λ hs. reverse (before ++ hs)) (last_hops o is)
        ∙ reverse-append before (option_to_list o)
        ∙ ap (λ hs. hs ++ reverse before) (reversed o)

-- ---- a worker goes on

pub serve : (most : ℕ) (script : Reading) (gets : List Get) (n w : ℕ) (now next : Family → Tally) (gots : List Got) (get : Get) (got : Got)
    → Serves most script gets n w gots now
    → slice_get gets (w + length gots * n) ≡ Some get
    → IsServed most script get now got next
    → Serves most script gets n w (gots ++ got ∷ []) next
serve most script gets n w now next gots get got old at served =
    let right = served.right in let later = served.later in let seen = served.seen in
    let kept : (b : Get) → (now b.family).seen ≤ (next b.family).seen = (λ b. elim (same_or_not b.family get) [
      | inl s ↦ (let P : Family → Type 0 = λ h. (now h).seen ≤ (next h).seen in subst P (sym s.0) (omega (arith, seen, later)))
      | inr d ↦ (let e = ap (λ (t : Tally). t.seen) (served.others b.family d.0) in omega (arith, e))
    ]) in
    let here : (i : ℕ) (b : Get) → i ≡ length gots → slice_get gets (w + i * n) ≡ Some b → b ≡ get = (λ i b e p.
    one_value (slice_get gets (w + length gots * n)) b get (subst (λ k. slice_get gets (w + k * n) ≡ Some b) e p) at) in
    let within : (i : ℕ) (x : Got) → slice_get gots i ≡ Some x → i < length gots = (λ i x e. slice_get_within gots i x e) in
    record {
      each = λ i x e. elim (get_snoc gots got i x e) [
        | inl o ↦ old.each i x o
        | inr p ↦ (get, subst (λ k. slice_get gets (w + k * n) ≡ Some get) (sym p.0) at, subst (λ y. IsRight most script get y) (sym p.1) right)
      ];
      rising = λ i k x y b c lt ex ey eb ec same. elim (get_snoc gots got k y ey) [
        | inl oy ↦ elim (get_snoc gots got i x ex) [
          | inl ox ↦ old.rising i k x y b c lt ox oy eb ec same
          | inr p ↦ (let q = within k y oy in let r = p.0 in absurd (omega arith))
        ]
        | inr py ↦ elim (get_snoc gots got i x ex) [
          | inl ox ↦ (let q = old.below i x b ox eb in
              let r : b.family ≡ get.family = same ∙ ap (λ (z : Get). z.family) (here k c py.0 ec) in
              let s : (now b.family).seen ≡ (now get.family).seen = ap (λ h. (now h).seen) r in
              let t : y.version ≡ got.version = ap (λ (z : Got). z.version) py.1 in
              omega (arith, q, s, t, later))
          | inr p ↦ (let q = p.0 in let r = py.0 in absurd (omega arith))
        ]
      ];
      below = λ i x b ex eb. elim (get_snoc gots got i x ex) [
        | inl ox ↦ (let q = old.below i x b ox eb in let r = kept b in omega arith)
        | inr p ↦ (let r : b.family ≡ get.family = ap (λ (z : Get). z.family) (here i b p.0 eb) in
            let s : (next b.family).seen ≡ (next get.family).seen = ap (λ h. (next h).seen) r in
            let t : x.version ≡ got.version = ap (λ (z : Got). z.version) p.1 in
            omega (arith, s, t, seen))
      ];
      tallied = λ h. rw (entries_snoc h gets n w gots got, at) (elim (same_or_not h get) [
        | inl s ↦ rw s.1 (subst (λ k. IsTallied k w (entries_from k gets n w gots ++ (w + length gots * n, got) ∷ []) (next k)) (sym s.0)
            (tallied_on get.family w (entries_from get.family gets n w gots) (w + length gots * n) got (now get.family) (next get.family) (old.tallied get.family) served.number served.lookups seen served.hops))
        | inr d ↦ rw (d.1, append-nil (entries_from h gets n w gots)) (subst (λ t. IsTallied h w (entries_from h gets n w gots) t) (sym (served.others h d.0)) (old.tallied h))
      ]);
    }

-- the get of a place
pub get_here : (gets : List Get) (i j : ℕ) (d : Get) → i ≡ j → i < length gets → slice_get gets j ≡ Some (get_or gets i d)
get_here gets i j d e lt = subst (λ k. slice_get gets k ≡ Some (get_or gets i d)) e (slice_get-get_or gets i d lt)

-- before its first get
pub serves_none : (most : ℕ) (script : Reading) (gets : List Get) (n w : ℕ) (now : Family → Tally) → ((h : Family) → IsNew w (now h)) → Serves most script gets n w [] now
serves_none most script gets n w now new = record {
  each = λ i got e. absurd (none-some _ e);
  rising = λ i k got later a b lt e f. absurd (none-some _ e);
  below = λ i got get e f. absurd (none-some _ e);
  tallied = λ h. record {
    number = (new h).number;
    lookups = (new h).lookups;
    seen = λ front e is. absurd (no_entry front e is);
    hops = (new h).hops;
  };
}
  where
    no_entry : (front : List (ℕ × Got)) (e : ℕ × Got) → [] ≡ front ++ e ∷ [] → ⊥
    no_entry front e is = let n = ap length is in absurd (omega (arith, n, length-append front (e ∷ [])))
