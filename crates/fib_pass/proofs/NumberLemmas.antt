-- The numbers of a plan's nexthops, each by its place, and the map of them.
use Rattle.std.proofs.Common.{◌≡◌, ℕ, zero, suc, ◌+◌, ◌-◌, ◌<◌, ◌≤◌, Bool, true, false, true≢false, cond, not, List, [], ◌∷◌, Option, Some, None, length, refl, sym, ◌∙◌, ap, subst, arith}
use Rattle.std.specs.Prelude.{filter, slice_get}
use Rattle.std.specs.List.{AllByRecursion, position_from}
use Rattle.std.specs.Map.{lookup}
use Rattle.std.specs.BTreeMap.{insert_entry, is_at}
use Rattle.std.specs.Ordering.{is_eq}
use Rattle.std.proofs.lemmas.Bool.{both_ways, false_from_ne_true}
use Rattle.std.proofs.lemmas.Cmp.{eq_by_cmp_equiv, tied_itself}
use Rattle.std.proofs.lemmas.Option.{none-some, same_Some}
use Rattle.prefix_width.specs.Nexthop.{Hop}
use Rattle.prefix_width.specs.Order.{hop_cmp}
use Rattle.prefix_width.proofs.OrderLemmas.{hop_exact, hop_total}
use Rattle.rib_store.specs.Plan.{IsNumbering, Planned, firsts, is_other, named, number_of}
use Rattle.rib_store.proofs.LawLemmas.{numbers_lead_back}
use Rattle.fib_pass.proofs.FreshLemmas.{number_within}
use Rattle.fib_pass.proofs.MapLemmas.{lookup-put, same_key}

-- ---- the firsts are distinct

-- each nexthop differs from those before it
AreApart : List Hop → Type 0
AreApart [] = Unit {0}
AreApart (x ∷ xs) = AllByRecursion (λ y. is_eq (hop_cmp y x) ≡ false) xs × AreApart xs

all-filter : (P : Hop → Type 0) (f : Hop → Bool) (xs : List Hop) → AllByRecursion P xs → AllByRecursion P (filter f xs)
all-filter P f [] all = all
all-filter P f (x ∷ xs) all =
    let ih = all-filter P f xs all.1 in
    elim (f x) as (λ b. AllByRecursion P (cond b (x ∷ filter f xs) (filter f xs))) [ true ↦ (all.0, ih) | false ↦ ih ]

apart-filter : (f : Hop → Bool) (xs : List Hop) → AreApart xs → AreApart (filter f xs)
unfolding AreApart
apart-filter f [] apart = apart
apart-filter f (x ∷ xs) apart =
    let ih = apart-filter f xs apart.1 in
    let far = all-filter (λ y. is_eq (hop_cmp y x) ≡ false) f xs apart.0 in
    elim (f x) as (λ b. AreApart (cond b (x ∷ filter f xs) (filter f xs))) [ true ↦ (far, ih) | false ↦ ih ]

-- those that are left differ
left_apart : (h : Hop) (xs : List Hop) → AllByRecursion (λ y. is_eq (hop_cmp y h) ≡ false) (filter (is_other h) xs)
left_apart h [] = tt
left_apart h (x ∷ xs) = go (is_eq (hop_cmp h x)) refl (left_apart h xs)
  where
    go : (b : Bool) → is_eq (hop_cmp h x) ≡ b → AllByRecursion (λ y. is_eq (hop_cmp y h) ≡ false) (filter (is_other h) xs) → AllByRecursion (λ y. is_eq (hop_cmp y h) ≡ false) (cond (not b) (x ∷ filter (is_other h) xs) (filter (is_other h) xs))
    go true e ih = ih
    go false e ih = ((eq_by_cmp_equiv hop_total).symm x h ∙ e, ih)

firsts_apart : (hs : List Hop) → AreApart (firsts hs)
unfolding AreApart
firsts_apart [] = tt
firsts_apart (h ∷ hs) = (left_apart h (firsts hs), apart-filter (is_other h) (firsts hs) (firsts_apart hs))

got_apart : (P : Hop → Type 0) (xs : List Hop) (k : ℕ) (x : Hop) → AllByRecursion P xs → slice_get xs k ≡ Some x → P x
got_apart P [] k x all at = absurd (none-some x at)
got_apart P (y ∷ ys) zero x all at = subst P (same_Some y x at) all.0
got_apart P (y ∷ ys) (suc k) x all at = got_apart P ys k x all.1 at

placed : (xs : List Hop) (i k : ℕ) (x : Hop) → AreApart xs → slice_get xs k ≡ Some x → position_from (is_at (hop_cmp x)) i xs ≡ Some (i + k)
unfolding AreApart
placed [] i k x apart at = absurd (none-some x at)
placed (y ∷ ys) i zero x apart at =
    let same : y ≡ x = same_Some y x at in
    let found : is_eq (hop_cmp x y) ≡ true = ap (λ h. is_eq (hop_cmp x h)) same ∙ ap is_eq (tied_itself hop_total x) in
    let z : i + 0 ≡ i = omega arith in
    rw found (ap (λ n. Some n) (sym z))
placed (y ∷ ys) i (suc k) x apart at =
    let other : is_eq (hop_cmp x y) ≡ false = got_apart (λ h. is_eq (hop_cmp h y) ≡ false) ys k x apart.0 at in
    let z : i + 1 + k ≡ i + suc k = omega arith in
    rw other (placed ys (i + 1) k x apart.1 at ∙ ap (λ n. Some n) z)

-- the nexthop at a number's place has the number
pub number_of_place : {w : ℕ} (plan : Planned w) (k : ℕ) (h : Hop) → slice_get (firsts (named plan)) k ≡ Some h → number_of plan h ≡ Some (k + 1)
number_of_place plan k h at =
    let z : 1 + k ≡ k + 1 = omega arith in
    placed (firsts (named plan)) 1 k h (firsts_apart (named plan)) at ∙ ap (λ n. Some n) z

-- ---- the map

-- the map has the numbers up to this one, and no others
pub record AreNumbers {w : ℕ} (plan : Planned w) (n : ℕ) (entries : List (Hop × ℕ)) : Type 0 where
  pub right : (h : Hop) (p : ℕ) → lookup (is_at (hop_cmp h)) entries ≡ Some p → number_of plan h ≡ Some p
  pub there : (h : Hop) (p : ℕ) → number_of plan h ≡ Some p → p ≤ n → lookup (is_at (hop_cmp h)) entries ≡ Some p

module _ {w : ℕ} (plan : Planned w) where
  pub numbers_start : (entries : List (Hop × ℕ)) → entries ≡ [] → AreNumbers plan 0 entries
  numbers_start entries none = subst (AreNumbers plan 0) (sym none) (record {
    right = λ h p at. absurd (none-some p at);
    there = λ h p at low. let some = (numbers_lead_back w plan h p at).0 in absurd (omega arith);
  })

  pub numbers_more : (k : Hop) (n m : ℕ) (entries next : List (Hop × ℕ)) → slice_get (firsts (named plan)) (m - 1) ≡ Some k → m ≡ n + 1 → next ≡ insert_entry hop_cmp entries k m → AreNumbers plan n entries → AreNumbers plan m next
  numbers_more k n m entries next at e put are = subst (AreNumbers plan m) (sym put) (record {
    right = λ h p found. go_right h p (is_eq (hop_cmp k h)) refl (sym (lookup-put hop_cmp hop_total hop_exact entries k m h) ∙ found);
    there = λ h p is low. lookup-put hop_cmp hop_total hop_exact entries k m h ∙ go_there h p is low (is_eq (hop_cmp k h)) refl;
  })
    where
      numbered : number_of plan k ≡ Some m
      numbered = (let z : m - 1 + 1 ≡ m = omega arith in number_of_place plan (m - 1) k at ∙ ap (λ x. Some x) z)

      go_right : (h : Hop) (p : ℕ) (b : Bool) → is_eq (hop_cmp k h) ≡ b → cond b (Some m) (lookup (is_at (hop_cmp h)) entries) ≡ Some p → number_of plan h ≡ Some p
      go_right h p true f g = ap (number_of plan) (sym (same_key hop_cmp hop_exact k h f)) ∙ numbered ∙ g
      go_right h p false f g = are.right h p g

      go_there : (h : Hop) (p : ℕ) → number_of plan h ≡ Some p → p ≤ m → (b : Bool) → is_eq (hop_cmp k h) ≡ b → cond b (Some m) (lookup (is_at (hop_cmp h)) entries) ≡ Some p
      go_there h p is low true f = sym numbered ∙ ap (number_of plan) (same_key hop_cmp hop_exact k h f) ∙ is
      go_there h p is low false f = are.there h p is (below low)
        where
          apart : p ≡ m → ⊥
          apart q =
              let back : slice_get (firsts (named plan)) (p - 1) ≡ Some h = (numbers_lead_back w plan h p is).1 in
              let same : h ≡ k = same_Some h k (sym back ∙ ap (λ x. slice_get (firsts (named plan)) (x - 1)) q ∙ at) in
              true≢false (sym (ap is_eq (tied_itself hop_total k)) ∙ ap (λ x. is_eq (hop_cmp k x)) (sym same) ∙ f)

          below : p ≤ m → p ≤ n
          below l = let ne = apart in omega arith

  pub numbers_done : (n : ℕ) (entries : List (Hop × ℕ)) → n ≡ length (firsts (named plan)) → AreNumbers plan n entries → IsNumbering (firsts (named plan)) entries
  numbers_done n entries e are h = go (number_of plan h) refl
    where
      go : (o : Option ℕ) → number_of plan h ≡ o → lookup (is_at (hop_cmp h)) entries ≡ o
      go None f = none (lookup (is_at (hop_cmp h)) entries) refl
        where
          none : (x : Option ℕ) → lookup (is_at (hop_cmp h)) entries ≡ x → x ≡ None
          none None g = refl
          none (Some p) g = sym (are.right h p g) ∙ f
      go (Some p) f = let within = number_within 2 0 plan h p f in are.there h p f (omega (arith, within.1))
