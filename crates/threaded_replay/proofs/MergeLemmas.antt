-- All workers' answers together, by the gets' numbers.
use Rattle.std.proofs.Common.{◌≡◌, ◌∙◌, inl, inr, ℕ, suc, ◌+◌, ◌*◌, ◌/◌, ◌%◌, ◌<◌, ◌≤◌, List, [], ◌∷◌, ◌++◌, Option, Some, None, length, refl, sym, ap, subst, arith, get_or, length-append}
use Rattle.std.specs.Prelude.{map, reverse}
use Rattle.std.specs.List.{filter_map, slice_get}
use Rattle.std.proofs.lemmas.Bool.{cases_Bool}
use Rattle.std.proofs.lemmas.List.{length-map, same_from_push}
use Rattle.std.proofs.lemmas.Nat.{div-add-mod'}
use Rattle.std.proofs.lemmas.Option.{same_Some, slice_get_cases, slice_get_within, slice_get-get_or, get_or_from_slice_get}
use Rattle.std.proofs.Math.Nat.{add-mul-div_right, add-mul-mod_self_right, div-eq_of_lt, lt_of_mul-lt-mul_right, mod-eq_of_lt, mod-lt}
use Rattle.route_lang.specs.Script.{Reading}
use Rattle.threaded_replay.specs.declared.got.Got.{Got}
use Rattle.threaded_replay.specs.Legal.{Family, Get, by_family, is_in, turns_from}
use Rattle.threaded_replay.specs.Merging.{AreRight, HasMade, given_at, given_by, version_in, version_of}
use Rattle.threaded_replay.specs.Serving.{IsDone, IsRight, entries_from, entry_of, got_at, nexthop_in}
use Rattle.threaded_replay.specs.Tally.{Tally}
use Rattle.threaded_replay.proofs.ServingLemmas.{first_step, next_step}
use Rattle.threaded_replay.proofs.TurnsLemmas.{all_turns}

-- ---- lists

-- a fact of each element
abbrev Each : {X : Type 0} → (X → Type 0) → List X → Type 0
Each P [] = Unit {0}
Each P (x ∷ xs) = P x × Each P xs

each-append : {X : Type 0} (P : X → Type 0) (xs ys : List X) → Each P xs → Each P ys → Each P (xs ++ ys)
each-append P [] ys a b = b
each-append P (x ∷ xs) ys a b = (a.0, each-append P xs ys a.1 b)

each_last : {X : Type 0} (P : X → Type 0) (xs : List X) (x : X) → Each P (xs ++ x ∷ []) → P x
each_last P [] x a = a.0
each_last P (y ∷ xs) x a = each_last P xs x a.1

-- what a list ends with, of which a function gives a list that ends so
ends_so : {X Y : Type 0} (f : X → Y) (xs : List X) (front : List Y) (y : Y) → map f xs ≡ front ++ y ∷ [] → (init : List X) × (x : X) × (xs ≡ init ++ x ∷ []) × (f x ≡ y)
ends_so f [] front y is = let n = ap length is in absurd (omega (arith, n, length-append front (y ∷ [])))
ends_so f (x ∷ []) [] y is = ([], x, refl, (same_from_push [] [] (f x) y is).1)
ends_so f (x ∷ []) (z ∷ front) y is = let n = ap length is in absurd (omega (arith, n, length-append front (y ∷ [])))
ends_so f (x ∷ x' ∷ xs) [] y is = let n = ap length is in absurd (omega (arith, n))
ends_so {X} f (x ∷ x' ∷ xs) (z ∷ front) y is =
    let later : map f (x' ∷ xs) ≡ front ++ y ∷ [] = cc in
    let s = ends_so f (x' ∷ xs) front y later in
    (x ∷ s.0, s.1, ap (λ (l : List X). x ∷ l) s.2, s.3)

same_given : {X Y : Type 0} (f : ℕ → Option Y) (g : X → Option Y) (at : X → ℕ) (xs : List X) → Each (λ x. f (at x) ≡ g x) xs → filter_map f (map at xs) ≡ filter_map g xs
same_given f g at [] each = refl
same_given f g at (x ∷ xs) each = rw (each.0, same_given f g at xs each.1) refl

each_map : {X : Type 0} (P Q : X → Type 0) (xs : List X) → ((x : X) → P x → Q x) → Each P xs → Each Q xs
each_map P Q [] so a = tt
each_map P Q (x ∷ xs) so a = (so x a.0, each_map P Q xs so a.1)

-- ---- entries

-- what holds of each answer at its number holds of each entry
each_entry : (P : ℕ × Got → Type 0) (h : Family) (gets : List Get) (n : ℕ) (gots : List Got) (c : ℕ) → ((k : ℕ) (got : Got) → slice_get gots k ≡ Some got → P (c + k * n, got)) → Each P (entries_from h gets n c gots)
each_entry P h gets n [] c each = tt
each_entry P h gets n (got ∷ gots) c each =
    each-append P (entry_of h c (slice_get gets c) got) (entries_from h gets n (c + n) gots)
    (at_first (slice_get gets c) (subst (λ k. P (k, got)) (first_step c n) (each 0 got refl)))
    (each_entry P h gets n gots (c + n) (λ k x e. subst (λ m. P (m, x)) (sym (next_step c n k)) (each (suc k) x e)))
  where
    at_first : (o : Option Get) → P (c, got) → Each P (entry_of h c o got)
    at_first None p = tt
    at_first (Some get) p = elim (cases_Bool (is_in h get)) [ inl y ↦ rw y (p, tt) | inr o ↦ rw o tt ]

-- ---- all workers

module _ (most : ℕ) (script : Reading) (gets : List Get) (n : ℕ) (gots : List Got) (by : ℕ → List Got) (inet inet6 : ℕ → Tally) (some : 0 < n) (count : length gots ≡ length gets)
    (done : (i : ℕ) → i < n → IsDone most script gets n i (by i) (inet i) (inet6 i))
    (reads : (j : ℕ) (g : Got) → j < length gots → get_or gots j g ≡ get_or (by (j % n)) (j / n) g) where
  parts : (j : ℕ) → j % n + j / n * n ≡ j
  parts j = let e = div-add-mod' j n in omega (arith, e)

  -- the place of an answer among its worker's
  by_worker : (j : ℕ) (g : Got) → slice_get gots j ≡ Some g → slice_get (by (j % n)) (j / n) ≡ Some g
  by_worker j g e =
      let lt = slice_get_within gots j g e in
      let d = done (j % n) (mod-lt j some) in
      let all = d.all in
      let whole = parts j in
      let small : j / n * n < length (by (j % n)) * n = omega (arith, lt, count, all, whole) in
      let within : j / n < length (by (j % n)) = lt_of_mul-lt-mul_right n small in
      slice_get-get_or (by (j % n)) (j / n) g within ∙ ap (λ x. Some x) (sym (reads j g lt) ∙ get_or_from_slice_get gots j g g e)

  -- the place of a worker's answer among all
  pub linked : (i k : ℕ) (g : Got) → i < n → slice_get (by i) k ≡ Some g → slice_get gots (i + k * n) ≡ Some g
  linked i k g lt e =
      let x = (done i lt).serves.each k g e in
      let inside = slice_get_within gets (i + k * n) x.0 x.1 in
      let m : (i + k * n) % n ≡ i = add-mul-mod_self_right i k n ∙ mod-eq_of_lt lt in
      let q0 = add-mul-div_right i k some in
      let q1 = div-eq_of_lt lt in
      let q : (i + k * n) / n ≡ k = omega (arith, q0, q1) in
      let within : i + k * n < length gots = omega (arith, inside, count) in
      slice_get-get_or gots (i + k * n) g within
      ∙ ap (λ y. Some y) (reads (i + k * n) g within ∙ (ap (λ w. get_or (by w) ((i + k * n) / n) g) m ∙ (ap (λ z. get_or (by i) z g) q ∙ get_or_from_slice_get (by i) k g g e)))

  get_by_worker : (j : ℕ) (get : Get) → slice_get gets j ≡ Some get → slice_get gets (j % n + j / n * n) ≡ Some get
  get_by_worker j get e = subst (λ k. slice_get gets k ≡ Some get) (sym (parts j)) e

  pub are_right : AreRight most script gets gots
  are_right = record {
    count = count;
    each = λ j get got at is.
        (let d = done (j % n) (mod-lt j some) in
        let x = d.serves.each (j / n) got (by_worker j got is) in
        subst (λ g. IsRight most script g got) (same_Some _ _ (sym x.1 ∙ get_by_worker j get at)) x.2);
  }

  -- each get has an answer
  answered : (j : ℕ) (get : Get) → slice_get gets j ≡ Some get → (got : Got) × (slice_get gots j ≡ Some got)
  answered j get at = elim (slice_get_cases gots j).1 [
    | inl p ↦ (p.0, p.2)
    | inr p ↦ (let lt = slice_get_within gets j get at in absurd (omega (arith, lt, p.0, count)))
  ]

  pub rising : (j k : ℕ) (a b : Get) → slice_get gets j ≡ Some a → slice_get gets k ≡ Some b → j < k → a.family ≡ b.family → j % n ≡ k % n → version_in gots j ≤ version_in gots k
  rising j k a b ea eb lt fam same =
      let f = answered j a ea in
      let l = answered k b eb in
      let d = done (k % n) (mod-lt k some) in
      let wj = parts j in
      let wk = parts k in
      let gj : slice_get (by (k % n)) (j / n) ≡ Some f.0 = subst (λ w. slice_get (by w) (j / n) ≡ Some f.0) same (by_worker j f.0 f.1) in
      let aj : slice_get gets (k % n + j / n * n) ≡ Some a = subst (λ w. slice_get gets (w + j / n * n) ≡ Some a) same (get_by_worker j a ea) in
      let small : j / n * n < k / n * n = omega (arith, lt, same, wj, wk) in
      let before : j / n < k / n = lt_of_mul-lt-mul_right n small in
      rw (f.1, l.1) (d.serves.rising (j / n) (k / n) f.0 l.0 a b before gj (by_worker k l.0 l.1) aj (get_by_worker k b eb) fam)

  -- what is known of a get and its answer
  abbrev Known : ℕ × Got → Type 0
  Known e = (get : Get) × (slice_get gets e.0 ≡ Some get) × IsRight most script get e.1 × (slice_get gots e.0 ≡ Some e.1)

  pub has_made : (i : ℕ) (h : Family) → i < n → HasMade most n script gets (version_in gots) h i (by_family h (inet i) (inet6 i))
  has_made i h lt =
      let d = done i lt in
      let tallied = d.serves.tallied h in
      let entries = entries_from h gets n i (by i) in
      let turns : turns_from 0 n i h gets ≡ map (λ (e : ℕ × Got). e.0) entries =
      all_turns n i h gets (by i) lt (λ k g e. (let x = d.serves.each k g e in (x.0, x.1))) d.all in
      let known : Each Known entries = each_entry Known h gets n (by i) i (λ k g e. (let x = d.serves.each k g e in (x.0, x.1, x.2, linked i k g lt e))) in
      let given : Each (λ (e : ℕ × Got). given_at most script gets (version_in gots) h e.0 ≡ nexthop_in h e.1) entries =
      each_map Known (λ (e : ℕ × Got). given_at most script gets (version_in gots) h e.0 ≡ nexthop_in h e.1) entries (λ e k. given_so h e k) known in
      record {
        number = tallied.number;
        used = record {
          lookups = tallied.lookups ∙ sym (length-map entries (λ (e : ℕ × Got). e.0)) ∙ ap length (sym turns);
          seen = λ front j is.
              (let s = ends_so (λ (e : ℕ × Got). e.0) entries front j (sym turns ∙ is) in
              let k = each_last Known s.0 s.1 (subst (λ (es : List (ℕ × Got)). Each Known es) s.2 known) in
              tallied.seen s.0 s.1 s.2 ∙ sym (ap version_of k.3) ∙ ap (version_in gots) s.3);
        };
        hops = tallied.hops
            ∙ ap reverse (sym (same_given (given_at most script gets (version_in gots) h) (λ (e : ℕ × Got). nexthop_in h e.1) (λ (e : ℕ × Got). e.0) entries given)
            ∙ ap (filter_map (given_at most script gets (version_in gots) h)) (sym turns));
      }
    where
      given_so : (h : Family) (e : ℕ × Got) → Known e → given_at most script gets (version_in gots) h e.0 ≡ nexthop_in h e.1
      given_so h e k =
          ap (λ o. given_by most script h o (version_in gots e.0)) k.1
          ∙ ap (λ v. nexthop_in h (got_at most script k.0 v)) (ap version_of k.3)
          ∙ ap (nexthop_in h) (sym k.2.answer)
