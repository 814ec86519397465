-- Counts by number, told by nexthop.
use Rattle.std.proofs.Common.{◌≡◌, ℕ, ◌+◌, ◌*◌, ◌^◌, ◌<◌, ◌≤◌, ◌==◌, arith, lit<, cond, true, false, List, [], ◌∷◌, ◌++◌, length, map, take, get_or, refl, sym, ◌∙◌, ap}
use Rattle.std.specs.Prelude.{All, if◌then◌else◌, sum_by}
use Rattle.std.proofs.lemmas.List.{get_or_default, map-append, take_more}
use Rattle.std.proofs.lemmas.List.Sums.{sum_by-le}
use Rattle.fib_pass.specs.declared.totals.PassEnd.{PassEnd}
use Rattle.prefix_width.specs.Nexthop.{Hop}
use Rattle.counted_map.specs.Counts.{Counts}
use Rattle.fib_pass.specs.declared.totals.Packets.{Packets}
use Rattle.fib_pass.specs.Totals.{counted_hops, packets_of}

-- a nexthop with its count, if that is 1 or more
abbrev pub counted_one : Hop → ℕ → Counts Hop
counted_one h n = if n == 0 then [] else (h, n) ∷ []

counted-push : (f : ℕ → ℕ) (xs : List (Hop × ℕ)) (e : Hop × ℕ) → counted_hops f (xs ++ e ∷ []) ≡ counted_hops f xs ++ counted_one e.0 (f e.1)
counted-push f [] e = elim (f e.1 == 0) as (λ b. let one : Counts Hop = (e.0, f e.1) ∷ [] in cond b [] one ≡ cond b [] one) [ true ↦ refl | false ↦ refl ]
counted-push f (x ∷ xs) e =
    let ih = counted-push f xs e in
    elim (f x.1 == 0) as (λ b. let first : Hop × ℕ = (x.0, f x.1) in cond b (counted_hops f (xs ++ e ∷ [])) (first ∷ counted_hops f (xs ++ e ∷ [])) ≡ cond b (counted_hops f xs) (first ∷ counted_hops f xs) ++ counted_one e.0 (f e.1)) [
      | true ↦ ih
      | false ↦ ap (λ (ys : Counts Hop). let first : Hop × ℕ = (x.0, f x.1) in first ∷ ys) ih
    ]

packets_of_more : {w : ℕ} (f : ℕ → ℕ) (order : List (Hop × ℕ)) (at : ℕ) (e : Hop × ℕ) (items next : List (Packets w)) → at < length order → e ≡ get_or order at e
    → items ≡ packets_of (counted_hops f (take at order)) → next ≡ items ++ packets_of (counted_one e.0 (f e.1)) → next ≡ packets_of (counted_hops f (take (at + 1) order))
packets_of_more {w} f order at e items next low is so more =
    let here : take (at + 1) order ≡ take at order ++ e ∷ [] = take_more order at e low ∙ ap (λ (x : Hop × ℕ). take at order ++ x ∷ []) (sym is) in
    more
    ∙ ap (λ (x : List (Packets w)). x ++ packets_of (counted_one e.0 (f e.1))) so
    ∙ sym (map-append {B = Packets w} (λ c. record { nexthop = c.0; count = c.1 }) (counted_hops f (take at order)) (counted_one e.0 (f e.1)))
    ∙ ap packets_of (sym (counted-push f (take at order) e))
    ∙ ap (λ (x : List (Hop × ℕ)). packets_of (counted_hops f x)) (sym here)

-- the packets of one nexthop more
pub packets_more : {w : ℕ} (f : ℕ → ℕ) (order : List (Hop × ℕ)) (at : ℕ) (d e : Hop × ℕ) (items next : List (Packets w)) → at < length order
    → items ≡ packets_of (counted_hops f (take at order)) → next ≡ items ++ packets_of (counted_one (get_or order at d).0 (f (get_or order at e).1)) → next ≡ packets_of (counted_hops f (take (at + 1) order))
packets_more f order at d e items next low so more =
    let same = get_or_default order at e d low in
    packets_of_more f order at (get_or order at d) items next low (get_or_default order at d (get_or order at d) low) so
    (more ∙ ap (λ (x : Hop × ℕ). items ++ packets_of (counted_one (get_or order at d).0 (f x.1))) same)

-- so few lookups fit
pub few_lookups : (ends : List PassEnd) → length ends < 256 → All (λ e. e.lookups ≤ 16777216) ends → sum_by (λ e. e.lookups) ends < 2 ^ 64
few_lookups ends few low =
    let most = sum_by-le (λ (e : PassEnd). e.lookups) 16777216 ends low in
    let big : 4294967296 < 2 ^ 64 = lit< tt in
    let all : length ends * 16777216 ≤ 256 * 16777216 = omega arith in
    omega arith
