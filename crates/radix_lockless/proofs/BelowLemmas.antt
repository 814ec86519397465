-- Prefixes below one another: their bits, and their order.
use Rattle.std.proofs.Common.{◌≡◌, ◌==◌, ℕ, ◌+◌, ◌-◌, ◌*◌, ◌/◌, ◌%◌, ◌^◌, ◌<◌, ◌≤◌, Bool, true, false, eqb, refl, sym, ap, ◌∙◌, arith, inl, inr}
use Rattle.std.proofs.lemmas.Bool.{eqb-true, eqb-false, eq-eqb, cases_Bool, cases_lt}
use Rattle.std.proofs.lemmas.Nat.{pow_pos}
use Rattle.std.proofs.Math.Nat.{div-mul-le_self, lt-div-mul-add, mul-le-mul_right, add-mul, mul-div_cancel, mul-mod_left}
use Rattle.std.specs.declared.cmp.Ordering.TheVariants.{Less, Equal, Greater}
use Rattle.std.specs.Ordering.{nat_cmp, ordering_then}
use Rattle.std.specs.Cmp.{nat_cmp_is}
use Rattle.prefix_width.specs.Prefix.{Block, IsBlock, IsCommonLen, bit_of, contains, head_of, masked_block}
use Rattle.prefix_width.specs.Order.{block_cmp}
use Rattle.prefix_width.proofs.PrefixLemmas.{head_of-head, head_of_fewer}
use Rattle.module_trait.proofs.BlockLemmas.{in_run}
use Rattle.radix_lockless.specs.Trie.{IsBelow}

-- a bit is the last one of the leading bits up to it
bit_is : (w i a : ℕ) → bit_of w i a ≡ (head_of w (i + 1) a % 2 == 1)
bit_is w i a = let e : w - 1 - i ≡ w - (i + 1) = omega arith in ap (λ n. eqb (a / 2 ^ n % 2) 1) e

-- one bit fewer is a half
half : (w i a : ℕ) → i < w → head_of w i a ≡ head_of w (i + 1) a / 2
half w i a h =
    let e : i + 1 - i ≡ 1 = omega arith in
    head_of-head w i (i + 1) a (omega arith) (omega arith) ∙ ap (λ n. head_of w (i + 1) a / 2 ^ n) e

-- addresses with the same leading bits have the same bit at a place among them
pub same_bit : (w i m a b : ℕ) → i < m → m ≤ w → head_of w m a ≡ head_of w m b → bit_of w i a ≡ bit_of w i b
same_bit w i m a b h k e =
    bit_is w i a ∙ ap (λ n. eqb (n % 2) 1) (head_of_fewer w (i + 1) m a b (omega arith) k e) ∙ sym (bit_is w i b)

from_half : (x y : ℕ) → x / 2 ≡ y / 2 → (x % 2 == 1) ≡ (y % 2 == 1) → x ≡ y
from_half x y h e = elim (cases_Bool (y % 2 == 1)) [
  | inl t ↦ (let a = eqb-true _ _ (e ∙ t) in let b = eqb-true _ _ t in omega (arith, a, b, h))
  | inr f ↦ (let a = eqb-false _ _ (e ∙ f) in let b = eqb-false _ _ f in omega (arith, a, b, h))
]

-- the same leading bits and the same bit behind them are the same leading bits, one more
pub one_more : (w i a b : ℕ) → i < w → head_of w i a ≡ head_of w i b → bit_of w i a ≡ bit_of w i b → head_of w (i + 1) a ≡ head_of w (i + 1) b
one_more w i a b h e bit =
    from_half (head_of w (i + 1) a) (head_of w (i + 1) b) (sym (half w i a h) ∙ e ∙ half w i b h) (sym (bit_is w i a) ∙ bit ∙ bit_is w i b)

-- what the lower prefix contains, the upper does
pub child_in : (w : ℕ) (p q : Block) (side : Bool) (a : ℕ) → q.len ≤ w → IsBelow w p q side → contains w q a ≡ true → contains w p a ≡ true
child_in w p q side a k below h =
    eq-eqb _ _ (head_of_fewer w p.len q.len a q.base (let l = below.longer in omega (arith, l)) k (eqb-true _ _ h) ∙ eqb-true _ _ below.covered)

-- and that on its side
pub child_side : (w : ℕ) (p q : Block) (side : Bool) (a : ℕ) → q.len ≤ w → IsBelow w p q side → contains w q a ≡ true → bit_of w p.len a ≡ side
child_side w p q side a k below h = same_bit w p.len q.len a q.base below.longer k (eqb-true _ _ h) ∙ below.on_side

pub below_below : (w : ℕ) (p n r : Block) (side other : Bool) → n.len ≤ w → IsBelow w p n side → IsBelow w n r other → IsBelow w p r side
below_below w p n r side other k up down =
    record {
      longer = (let a = up.longer in let b = down.longer in omega (arith, a, b));
      covered = child_in w p n side r.base k up down.covered;
      on_side = child_side w p n side r.base k up down.covered;
    }

-- a greater quotient is of a greater number
from_quotients : (x y k : ℕ) → 0 < k → x / k < y / k → x < y
from_quotients x y k pos h =
    let a = lt-div-mul-add {a = x} pos in
    let b = div-mul-le_self y k in
    let s : x / k + 1 ≤ y / k = omega arith in
    let m : (x / k + 1) * k ≤ y / k * k = mul-le-mul_right k s in
    let e : (x / k + 1) * k ≡ x / k * k + 1 * k = add-mul (x / k) 1 k in
    let o : 1 * k ≡ k = omega arith in
    omega arith

-- what stands on the right of p comes after what stands on its left
pub sides : (w : ℕ) (p q r : Block) → q.len ≤ w → IsBelow w p q false → IsBelow w p r true → q.base < r.base
sides w p q r k left right =
    let h : p.len < w = (let l = left.longer in omega (arith, l)) in
    let e : head_of w p.len q.base ≡ head_of w p.len r.base = eqb-true _ _ left.covered ∙ sym (eqb-true _ _ right.covered) in
    let q2 : head_of w (p.len + 1) q.base / 2 ≡ head_of w (p.len + 1) r.base / 2 = sym (half w p.len q.base h) ∙ e ∙ half w p.len r.base h in
    let zero = eqb-false _ _ (sym (bit_is w p.len q.base) ∙ left.on_side) in
    let one = eqb-true _ _ (sym (bit_is w p.len r.base) ∙ right.on_side) in
    from_quotients q.base r.base (2 ^ (w - (p.len + 1))) (pow_pos (w - (p.len + 1))) (omega (arith, q2, zero, one))

pub less_base : (p q : Block) → p.base < q.base → block_cmp p q ≡ Less
less_base p q h = ap (λ o. ordering_then o (nat_cmp p.len q.len)) (sym (nat_cmp_is p.base q.base Less h))

pub greater_base : (p q : Block) → q.base < p.base → block_cmp p q ≡ Greater
greater_base p q h = ap (λ o. ordering_then o (nat_cmp p.len q.len)) (sym (nat_cmp_is p.base q.base Greater h))

-- a prefix comes before those below it
pub upper_less : (w : ℕ) (p q : Block) (side : Bool) → IsBlock w p → IsBelow w p q side → block_cmp p q ≡ Less
upper_less w p q side block below = elim (cases_lt p.base q.base) [
  | inl h ↦ less_base p q h
  | inr h ↦
      let run = in_run w p q.base block below.covered in
      let e : p.base ≡ q.base = (let r = run.0 in omega (arith, h, r)) in
      ap (λ o. ordering_then o (nat_cmp p.len q.len)) (sym (nat_cmp_is p.base q.base Equal e)) ∙ sym (nat_cmp_is p.len q.len Less below.longer)
]

pub lower_greater : (w : ℕ) (p q : Block) (side : Bool) → IsBlock w p → IsBelow w p q side → block_cmp q p ≡ Greater
lower_greater w p q side block below = elim (cases_lt p.base q.base) [
  | inl h ↦ greater_base q p h
  | inr h ↦
      let run = in_run w p q.base block below.covered in
      let e : q.base ≡ p.base = (let r = run.0 in omega (arith, h, r)) in
      ap (λ o. ordering_then o (nat_cmp q.len p.len)) (sym (nat_cmp_is q.base p.base Equal e)) ∙ sym (nat_cmp_is q.len p.len Greater below.longer)
]

-- a prefix cut to fewer bits
pub cut_head : (w a n : ℕ) → head_of w n (masked_block w a n).base ≡ head_of w n a
cut_head w a n = mul-div_cancel (head_of w n a) (pow_pos (w - n))

pub cut_block : (w a n : ℕ) → 1 ≤ w → w ≤ 128 → n ≤ w → a < 2 ^ w → IsBlock w (masked_block w a n)
cut_block w a n least most k h =
    (least, most, k, (let l = div-mul-le_self a (2 ^ (w - n)) in omega (arith, l, h)), mul-mod_left (head_of w n a) (2 ^ (w - n)))

-- what shares its bits and is longer is below it
pub below_cut : (w : ℕ) (r : Block) (a n : ℕ) → n < r.len → head_of w n r.base ≡ head_of w n a → IsBelow w (masked_block w a n) r (bit_of w n r.base)
below_cut w r a n h e = record { longer = h; covered = eq-eqb _ _ (e ∙ sym (cut_head w a n)); on_side = refl }

-- behind the bits that two longer prefixes share, their next bits differ
pub next_differ : (w : ℕ) (p q : Block) (n : ℕ) → IsCommonLen w p q n → n < p.len → n < q.len → p.len ≤ w → bit_of w n p.base ≡ bit_of w n q.base → ⊥
next_differ w p q n common hp hq k e =
    let more = common.greatest (n + 1) (omega arith) (omega arith) (one_more w n p.base q.base (omega arith) common.agree e) in
    omega (arith, more)

-- two prefixes below a third on one side share more bits than it has
pub share_more : (w : ℕ) (a p q : Block) (side : Bool) (n : ℕ) → p.len ≤ w → IsBelow w a p side → IsBelow w a q side → IsCommonLen w p q n → a.len < n
share_more w a p q side n k bp bq common =
    let lp = bp.longer in
    let lq = bq.longer in
    let more = common.greatest (a.len + 1) (omega (arith, lp)) (omega (arith, lq)) (one_more w a.len p.base q.base (omega (arith, lp)) (eqb-true _ _ bp.covered ∙ sym (eqb-true _ _ bq.covered)) (bp.on_side ∙ sym bq.on_side)) in
    omega (arith, more)

-- so what they share is below the third too
pub cut_below : (w : ℕ) (a p q : Block) (side : Bool) (n : ℕ) → p.len ≤ w → IsBelow w a p side → IsBelow w a q side → IsCommonLen w p q n → IsBelow w a (masked_block w q.base n) side
cut_below w a p q side n k bp bq common =
    let more = share_more w a p q side n k bp bq common in
    let first = common.first in
    let fits : n ≤ w = omega (arith, first, k) in
    record {
      longer = more;
      covered = eq-eqb _ _ (head_of_fewer w a.len n (masked_block w q.base n).base q.base (omega (arith, more)) fits (cut_head w q.base n) ∙ eqb-true _ _ bq.covered);
      on_side = same_bit w a.len n (masked_block w q.base n).base q.base more fits (cut_head w q.base n) ∙ bq.on_side;
    }
