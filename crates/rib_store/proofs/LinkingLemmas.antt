-- Several nexthops linked or unlinked in turn, and undone.
use Rattle.std.proofs.Common.{◌≡◌, ℕ, ◌+◌, ◌<◌, ◌≤◌, List, [], ◌∷◌, length, Bool, true, false, cond, refl, sym, ◌∙◌, ap, subst, arith, nat_eq, take, drop, get_or, ◌++◌, suc}
use Rattle.std.proofs.Math.Seq.{drop-cons}
use Rattle.std.proofs.lemmas.List.{take_more, length-take}
use Rattle.std.specs.Ordering.{is_eq}
use Rattle.std.proofs.lemmas.Cmp.{tied_itself}
use Rattle.prefix_width.specs.Nexthop.{Hop}
use Rattle.prefix_width.specs.Path.{WeightedHop}
use Rattle.prefix_width.specs.Order.{hop_cmp}
use Rattle.prefix_width.proofs.OrderLemmas.{hop_total}
use Rattle.nhgrp_slots.specs.PathList.{hops}
use Rattle.counted_map.specs.Counts.{Counts, count_of, linked, unlinked, linked_all, unlinked_all, times, IsCounts}
use Rattle.prefix_width.proofs.OrderLemmas.{hop_exact}
use Rattle.counted_map.proofs.CountMapLemmas.{linked_at, unlinked_at, linked_all_at, unlinked_all_at, IsCounts-linked, IsCounts-unlinked, IsCounts-linked_all, length-linked, same_counts, first_there, rest_there}

times-le : (h : Hop) (ks : List Hop) → times hop_cmp h ks ≤ length ks
times-le h [] = omega arith
times-le h (k ∷ ks) =
    let ih = times-le h ks in
    elim (is_eq (hop_cmp h k)) as (λ b. cond b 1 0 + times hop_cmp h ks ≤ length (k ∷ ks)) [ true ↦ omega arith | false ↦ omega arith ]

length-hops : (ps : List WeightedHop) → length (hops ps) ≡ length ps
length-hops [] = refl
length-hops (p ∷ ps) = let ih = length-hops ps in omega arith

hops-take-le : (ps : List WeightedHop) (i : ℕ) → length (hops (take i ps)) ≤ i
hops-take-le ps i = let a = length-hops (take i ps) in let b = length-take i ps in omega arith

linked_all-push : (m : Counts Hop) (ks : List Hop) (k : Hop) → linked_all hop_cmp m (ks ++ k ∷ []) ≡ linked hop_cmp (linked_all hop_cmp m ks) k
linked_all-push m [] k = refl
linked_all-push m (x ∷ xs) k = linked_all-push (linked hop_cmp m x) xs k

hops-append : (ps qs : List WeightedHop) → hops (ps ++ qs) ≡ hops ps ++ hops qs
hops-append [] qs = refl
hops-append (p ∷ ps) qs = ap (λ xs. p.nexthop ∷ xs) (hops-append ps qs)

length-linked-le : (m : Counts Hop) (k : Hop) → IsCounts hop_cmp m → length (linked hop_cmp m k) ≤ length m + 1
length-linked-le m k is =
    let a : length (linked hop_cmp m k) ≡ length m + cond (nat_eq (count_of hop_cmp m k) 0) 1 0 = length-linked hop_cmp hop_total m k is in
    elim (nat_eq (count_of hop_cmp m k) 0) as (λ b. length (linked hop_cmp m k) ≡ length m + cond b 1 0 → length (linked hop_cmp m k) ≤ length m + 1) [ true ↦ λ x. omega arith | false ↦ λ x. omega arith ] a

length-linked_all-le : (m : Counts Hop) (ks : List Hop) → IsCounts hop_cmp m → length (linked_all hop_cmp m ks) ≤ length m + length ks
length-linked_all-le m [] is = omega arith
length-linked_all-le m (k ∷ ks) is =
    let ih = length-linked_all-le (linked hop_cmp m k) ks (IsCounts-linked hop_cmp hop_total m k is) in
    let a = length-linked-le m k is in
    omega arith

-- the first paths are linked
pub linked_more : (m n : Counts Hop) (ps : List WeightedHop) (i : ℕ) (p : WeightedHop) → n ≡ linked_all hop_cmp m (hops (take i ps)) → i < length ps → p ≡ get_or ps i p → linked hop_cmp n p.nexthop ≡ linked_all hop_cmp m (hops (take (i + 1) ps))
linked_more m n ps i p e h is =
    ap (λ x. linked hop_cmp x p.nexthop) e
    ∙ sym (linked_all-push m (hops (take i ps)) p.nexthop)
    ∙ ap (linked_all hop_cmp m) (sym (hops-append (take i ps) (p ∷ [])))
    ∙ ap (λ xs. linked_all hop_cmp m (hops xs)) (ap (λ q. take i ps ++ q ∷ []) is ∙ sym (take_more ps i p h))

pub room_at : (m n : Counts Hop) (ps : List WeightedHop) (i : ℕ) (k : Hop) → n ≡ linked_all hop_cmp m (hops (take i ps)) → i < length ps → ((h : Hop) → count_of hop_cmp m h + length ps < 4294967295) → count_of hop_cmp n k < 4294967295
room_at m n ps i k e h room =
    let a : count_of hop_cmp n k ≡ count_of hop_cmp m k + times hop_cmp k (hops (take i ps)) = ap (λ x. count_of hop_cmp x k) e ∙ linked_all_at hop_cmp hop_total hop_exact m (hops (take i ps)) k in
    let t = times-le k (hops (take i ps)) in
    let l = hops-take-le ps i in
    let r = room k in
    omega arith

pub size_at : (m n : Counts Hop) (ps : List WeightedHop) (i : ℕ) → n ≡ linked_all hop_cmp m (hops (take i ps)) → i < length ps → IsCounts hop_cmp m → length m + length ps < 4294967295 → length n < 4294967295
size_at m n ps i e h is room =
    let a : length n ≤ length m + length (hops (take i ps)) = subst (λ (x : Counts Hop). length x ≤ length m + length (hops (take i ps))) (sym e) (length-linked_all-le m (hops (take i ps)) is) in
    let l = hops-take-le ps i in
    omega arith

-- the first paths are unlinked: what is left stands there
pub record Unlinking (m n : Counts Hop) (left all : List WeightedHop) : Type 0 where
  pub counts : IsCounts hop_cmp n
  pub there : (h : Hop) → times hop_cmp h (hops left) ≤ count_of hop_cmp n h
  pub joined : unlinked_all hop_cmp n (hops left) ≡ unlinked_all hop_cmp m (hops all)

pub unlinking_first : (n m : Counts Hop) (left all rest : List WeightedHop) (p : WeightedHop) → left ≡ p ∷ rest → Unlinking m n left all → 1 ≤ count_of hop_cmp n p.nexthop
unlinking_first n m left all rest p e u =
    first_there hop_cmp hop_total n p.nexthop (hops rest) (subst (λ (xs : List WeightedHop). (h : Hop) → times hop_cmp h (hops xs) ≤ count_of hop_cmp n h) e u.there)

pub unlinking_more : (n m : Counts Hop) (left all rest : List WeightedHop) (p : WeightedHop) → left ≡ p ∷ rest → Unlinking m n left all → Unlinking m (unlinked hop_cmp n p.nexthop) rest all
unlinking_more n m left all rest p e u =
    let there = subst (λ (xs : List WeightedHop). (h : Hop) → times hop_cmp h (hops xs) ≤ count_of hop_cmp n h) e u.there in
    let first = first_there hop_cmp hop_total n p.nexthop (hops rest) there in
    record {
      counts = IsCounts-unlinked hop_cmp hop_total n p.nexthop u.counts first;
      there = rest_there hop_cmp hop_total hop_exact n p.nexthop (hops rest) u.counts there;
      joined = sym (ap (λ (xs : List WeightedHop). unlinked_all hop_cmp n (hops xs)) e) ∙ u.joined;
    }

one_itself : (k : Hop) → ◌≡◌ {A = ℕ} (cond (is_eq (hop_cmp k k)) 1 0) 1
one_itself k = let f : Bool → ℕ = λ b. cond b 1 0 in ap f (ap is_eq (tied_itself hop_total k))

pub there_after : (m n : Counts Hop) (k : Hop) → n ≡ linked hop_cmp m k → 1 ≤ count_of hop_cmp n k
there_after m n k f =
    let a : count_of hop_cmp n k ≡ count_of hop_cmp m k + cond (is_eq (hop_cmp k k)) 1 0 = ap (λ x. count_of hop_cmp x k) f ∙ linked_at hop_cmp hop_total hop_exact m k k in
    let o = one_itself k in
    omega arith

-- one more and one less
pub undone_one : (m : Counts Hop) (k : Hop) → IsCounts hop_cmp m → unlinked hop_cmp (linked hop_cmp m k) k ≡ m
undone_one m k is =
    let more = IsCounts-linked hop_cmp hop_total m k is in
    let p = there_after m (linked hop_cmp m k) k refl in
    same_counts hop_cmp hop_total hop_exact _ _ (IsCounts-unlinked hop_cmp hop_total _ k more p) is
    (λ q. let a = linked_at hop_cmp hop_total hop_exact m k q in let b = unlinked_at hop_cmp hop_total hop_exact (linked hop_cmp m k) k q more p in omega arith)

pub there_all : (m n : Counts Hop) (ks : List Hop) → n ≡ linked_all hop_cmp m ks → (h : Hop) → times hop_cmp h ks ≤ count_of hop_cmp n h
there_all m n ks f h =
    let a : count_of hop_cmp n h ≡ count_of hop_cmp m h + times hop_cmp h ks = ap (λ x. count_of hop_cmp x h) f ∙ linked_all_at hop_cmp hop_total hop_exact m ks h in
    omega arith

pub undone_all : (m n : Counts Hop) (ks : List Hop) → n ≡ unlinked_all hop_cmp (linked_all hop_cmp m ks) ks → IsCounts hop_cmp m → n ≡ m
undone_all m n ks e is =
    let more = IsCounts-linked_all hop_cmp hop_total m ks is in
    let out = unlinked_all_at hop_cmp hop_total hop_exact (linked_all hop_cmp m ks) ks more (there_all m _ ks refl) in
    e ∙ same_counts hop_cmp hop_total hop_exact _ _ out.0 is
    (λ q. let a = linked_all_at hop_cmp hop_total hop_exact m ks q in let b = out.1 q in omega arith)

pub drop_first : (ps : List WeightedHop) (i : ℕ) (p : WeightedHop) → i < length ps → p ≡ get_or ps i p → drop i ps ≡ p ∷ drop (i + 1) ps
drop_first ps i p h e =
    let d = drop-cons ps i p h in
    let n : i + 1 ≡ suc i = omega arith in
    d ∙ ap (λ q. q ∷ drop (suc i) ps) (sym e) ∙ ap (λ j. p ∷ drop j ps) (sym n)
