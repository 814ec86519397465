-- Digits put before what stands behind them.
use Rattle.std.proofs.Common.{◌≡◌, ℕ, ◌+◌, ◌-◌, ◌/◌, ◌%◌, ◌^◌, ◌<◌, ◌≤◌, List, [], ◌∷◌, ◌++◌, length, drop, set, sym, ap, ◌∙◌, arith, append_assoc, decimal}
use Rattle.std.proofs.lemmas.List.{drop-set, length-append}
use Rattle.std.proofs.lemmas.Fmt.{decimal_step, decimal_digit, length-decimal-le, decimal_nonempty}

-- a byte put before the place
pub put_before : (start x y : ℕ) (text : List ℕ) → 0 < start → start ≤ length text → x ≡ y
    → drop (start - 1) (set text (start - 1) x) ≡ y ∷ drop start text
put_before start x y text some within e =
    let back : start - 1 + 1 ≡ start = omega arith in
    drop-set text (start - 1) x (omega arith) ∙ ap (λ n. x ∷ drop n text) back ∙ ap (λ z. z ∷ drop start text) e

-- the last digit before what is written, with the digits that are left
pub put_digit : (n start x : ℕ) (text whole : List ℕ) → 10 ≤ n → n < 2 ^ 32 → 0 < start → start ≤ length text → x ≡ 48 + n % 10
    → decimal n ++ drop start text ≡ whole → decimal (n / 10) ++ drop (start - 1) (set text (start - 1) x) ≡ whole
put_digit n start x text whole ten small some within e h =
    ap (λ ys. decimal (n / 10) ++ ys) (put_before start x (48 + n % 10) text some within e)
    ∙ sym (append_assoc (decimal (n / 10)) ((48 + n % 10) ∷ []) (drop start text))
    ∙ ap (λ ds. ds ++ drop start text) (sym (decimal_step n ten (omega arith))) ∙ h

-- the first digit, which is all that is left
pub put_first : (n start x : ℕ) (text whole : List ℕ) → n < 10 → 0 < start → start ≤ length text → x ≡ 48 + n
    → decimal n ++ drop start text ≡ whole → drop (start - 1) (set text (start - 1) x) ≡ whole
put_first n start x text whole one some within e h =
    put_before start x (48 + n) text some within e ∙ ap (λ ds. ds ++ drop start text) (sym (decimal_digit n one)) ∙ h

-- the digits that are left are one fewer
pub digits_left : (n : ℕ) → 10 ≤ n → n < 2 ^ 32 → length (decimal n) ≡ length (decimal (n / 10)) + 1
digits_left n ten small = ap length (decimal_step n ten (omega arith)) ∙ length-append (decimal (n / 10)) ((48 + n % 10) ∷ [])

pub digits_some : (n : ℕ) → n < 2 ^ 32 → 0 < length (decimal n)
digits_some n small = decimal_nonempty n (omega arith)

-- a number below 2 ^ 32 has ten digits at most
pub digits_few : (n : ℕ) → n < 2 ^ 32 → length (decimal n) ≤ 10
digits_few n small = length-decimal-le 10 n (omega arith) (omega arith) (omega arith)
