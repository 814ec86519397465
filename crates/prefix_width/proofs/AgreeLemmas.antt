-- How many leading bits two addresses share, from the leading zeros of their difference.
use Rattle.std.proofs.Common.{◌≡◌, ℕ, ◌-◌, ◌*◌, ◌/◌, ◌%◌, ◌^◌, ◌<◌, ◌≤◌, suc, bit_xor, sym, ap, ◌∙◌, arith, inl, inr}
use Rattle.std.specs.Prelude.{◌↔◌}
use Rattle.std.specs.Int.Bits.{xor_self}
use Rattle.std.specs.Int.Count.{count_leading_zeros}
use Rattle.std.proofs.Math.Nat.{pow-le-pow_right, div-eq_of_lt, lt-div-mul-add, pow-suc}
use Rattle.std.proofs.lemmas.Bool.{cases_lt}
use Rattle.std.proofs.lemmas.Nat.{leading_length, pow_pos, xor_lt, xor_shr}
use Rattle.std.proofs.lemmas.Nat.Bits.{same_from_bits, bit_at_xor, bit_at-zero, bit_at-lt}
use Rattle.prefix_width.specs.Prefix.{head_of}

same_from_xor : (a b : ℕ) → bit_xor a b ≡ 0 → a ≡ b
same_from_xor a b none =
    same_from_bits a b (λ i. omega (arith, sym (bit_at_xor a b i) ∙ ap (λ n. n / 2 ^ i % 2) none ∙ bit_at-zero i, bit_at-lt a i, bit_at-lt b i))

-- a difference below 2 ^ k leaves the bits from k on the same
same_above : (k a b : ℕ) → bit_xor a b < 2 ^ k → a / 2 ^ k ≡ b / 2 ^ k
same_above k a b low = same_from_xor (a / 2 ^ k) (b / 2 ^ k) (sym (xor_shr a b k) ∙ div-eq_of_lt low)

-- and is below it where they are the same
low_from_same : (k a b : ℕ) → a / 2 ^ k ≡ b / 2 ^ k → bit_xor a b < 2 ^ k
low_from_same k a b same =
    let none : bit_xor a b / 2 ^ k ≡ 0 = xor_shr a b k ∙ ap (λ n. bit_xor n (b / 2 ^ k)) same ∙ xor_self (b / 2 ^ k) in
    let near = lt-div-mul-add {a = bit_xor a b} (pow_pos k) in
    omega (arith, near, ap (λ n. n * 2 ^ k) none)

-- twice a smaller power is no greater
twice_pow : (i j : ℕ) → i < j → 2 * 2 ^ i ≤ 2 ^ j
twice_pow i j h =
    let more : 2 ^ (suc i) ≤ 2 ^ j = pow-le-pow_right (omega arith) h in
    omega (arith, more, pow-suc 2 i)

-- the leading zeros of a difference of w bits, as a number of 128 bits, are those above the width and more
pub leading_above : (w a b z : ℕ) → w ≤ 128 → a < 2 ^ w → b < 2 ^ w → z ≡ count_leading_zeros 128 (bit_xor a b) → (128 - w ≤ z) × (z ≤ 128)
leading_above w a b z narrow p q e =
    let wide : 2 ^ w ≤ 2 ^ 128 = pow-le-pow_right (omega arith) narrow in
    let fits = xor_lt w a b p q in
    let length = leading_length 128 (bit_xor a b) (omega (arith, wide, fits)) in
    let sum = length.1 in
    let top = length.3 in (
      elim (cases_lt w length.0) [
        | inl over ↦ absurd (let t = twice_pow w length.0 over in omega (arith, t, top, fits))
        | inr within ↦ omega (arith, sum, within, e)
      ],
      omega (arith, sum, e),
    )

-- those behind the width's first bit are the bits that two addresses share
pub leading_shared : (w a b z n : ℕ) → w ≤ 128 → a < 2 ^ w → b < 2 ^ w → z ≡ count_leading_zeros 128 (bit_xor a b) → n ≤ w → (n ≤ z - (128 - w)) ↔ (head_of w n a ≡ head_of w n b)
leading_shared w a b z n narrow p q e inside =
    let wide : 2 ^ w ≤ 2 ^ 128 = pow-le-pow_right (omega arith) narrow in
    let fits = xor_lt w a b p q in
    let length = leading_length 128 (bit_xor a b) (omega (arith, wide, fits)) in
    let sum = length.1 in
    let low = length.2 in
    let top = length.3 in
    let above = leading_above w a b z narrow p q e in (
      (λ short.
          let more : 2 ^ length.0 ≤ 2 ^ (w - n) = pow-le-pow_right (omega arith) (omega (arith, sum, e, above, short, inside)) in
          same_above (w - n) a b (omega (arith, low, more))),
      (λ same.
          let less = low_from_same (w - n) a b same in
          elim (cases_lt (w - n) length.0) [
            | inl over ↦ absurd (let t = twice_pow (w - n) length.0 over in omega (arith, t, top, less))
            | inr within ↦ omega (arith, sum, e, above, within, inside, narrow)
          ]),
    )
