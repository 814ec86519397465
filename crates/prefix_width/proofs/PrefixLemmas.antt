-- Prefixes nest or share no address, and those that contain one address are ordered by length.
use Rattle.std.proofs.Common.{◌≡◌, ℕ, ◌+◌, ◌-◌, ◌*◌, ◌/◌, ◌%◌, ◌^◌, ◌<◌, ◌≤◌, IsTrue, sym, ◌∙◌, ap, arith, inl, inr}
use Rattle.std.proofs.Math.Nat.{pow-le-pow_right}
use Rattle.std.proofs.lemmas.Nat.{shr-shr, shr_split, shr_below, row_fits, pow-add, pow_pos}
use Rattle.std.proofs.lemmas.Bool.{cases_lt, cases_Bool}
use Rattle.std.proofs.lemmas.Bool.Decides.{nat_tests}
use Rattle.prefix_width.specs.Prefix.{Block, IsBlock, contains, covers, head_of}
use Rattle.prefix_width.specs.Laws.{OrderedByLength, PrefixesNest}

-- fewer leading bits are those of the leading bits
pub head_of-head : (w l m a : ℕ) → l ≤ m → m ≤ w → head_of w l a ≡ head_of w m a / 2 ^ (m - l)
head_of-head w l m a h k =
    let sum : (w - m) + (m - l) ≡ w - l = omega arith in
    ap (λ n. a / 2 ^ n) (sym sum) ∙ sym (shr-shr a (w - m) (m - l))

-- two addresses that agree in m bits agree in fewer
pub head_of_fewer : (w l m a b : ℕ) → l ≤ m → m ≤ w → head_of w m a ≡ head_of w m b → head_of w l a ≡ head_of w l b
head_of_fewer w l m a b h k e =
    head_of-head w l m a h k ∙ ap (λ n. n / 2 ^ (m - l)) e ∙ sym (head_of-head w l m b h k)

-- an aligned base is its first bits
pub base_from_head : (w l a b : ℕ) → a % 2 ^ (w - l) ≡ 0 → b % 2 ^ (w - l) ≡ 0 → head_of w l a ≡ head_of w l b → a ≡ b
base_from_head w l a b x y e =
    let p : a / 2 ^ (w - l) * 2 ^ (w - l) + a % 2 ^ (w - l) ≡ a = shr_split a (w - l) in
    let q : b / 2 ^ (w - l) * 2 ^ (w - l) + b % 2 ^ (w - l) ≡ b = shr_split b (w - l) in
    let r : a / 2 ^ (w - l) * 2 ^ (w - l) ≡ b / 2 ^ (w - l) * 2 ^ (w - l) = ap (λ n. n * 2 ^ (w - l)) e in
    omega arith

-- where both contain an address, the longer has the first bits of the shorter
pub contained_in_shorter : (w : ℕ) (p q : Block) (a : ℕ) → p.len ≤ q.len → q.len ≤ w → IsTrue (contains w p a) → IsTrue (contains w q a) → head_of w p.len q.base ≡ head_of w p.len p.base
contained_in_shorter w p q a h k x y =
    let ea : head_of w p.len a ≡ head_of w p.len p.base = grind (arith, nat_tests) in
    let eb : head_of w q.len a ≡ head_of w q.len q.base = grind (arith, nat_tests) in
    sym (head_of_fewer w p.len q.len a q.base h k eb) ∙ ea

-- blocks with equal parts are one
same_block : (p q : Block) → p.base ≡ q.base → p.len ≡ q.len → p ≡ q
same_block p q e l = ap (λ n. record { base = n; len = p.len }) e ∙ ap (λ n. record { base = q.base; len = n }) l

pub ordered_by_length : OrderedByLength
ordered_by_length w a p q ip iq x y h =
    let e : head_of w p.len q.base ≡ head_of w p.len p.base = contained_in_shorter w p q a h iq.2 x y in
    let c : IsTrue (covers w p q) = grind (arith, nat_tests) in
    (c, λ l. same_block p q (base_from_head w p.len p.base q.base ip.4 (ap (λ n. q.base % 2 ^ (w - n)) l ∙ iq.4) (sym e)) l)

-- the last address of an aligned block fits the width
pub filled_below : (w k base : ℕ) → k ≤ w → base < 2 ^ w → base % 2 ^ k ≡ 0 → base + (2 ^ k - 1) < 2 ^ w
filled_below w k base h small clear =
    let sum : (w - k) + k ≡ w = omega arith in
    let whole : 2 ^ w ≡ 2 ^ (w - k) * 2 ^ k = ap (λ n. 2 ^ n) (sym sum) ∙ pow-add 2 (w - k) k in
    let small' : base < 2 ^ ((w - k) + k) = rw sum small in
    let top : base / 2 ^ k < 2 ^ (w - k) = shr_below base (w - k) k small' in
    let room : base / 2 ^ k * 2 ^ k + 2 ^ k ≤ 2 ^ (w - k) * 2 ^ k = row_fits (base / 2 ^ k) (2 ^ k) (2 ^ (w - k)) (2 ^ k) top (omega arith) in
    let split : base / 2 ^ k * 2 ^ k + base % 2 ^ k ≡ base = shr_split base k in
    let some : 0 < 2 ^ k = pow_pos k in
    omega arith

-- two prefixes nest or share no address
pub prefixes_nest : PrefixesNest
prefixes_nest w p q ip iq = elim (cases_lt q.len p.len) [
  | inl h ↦ elim (cases_Bool (contains w q p.base)) [
    | inl y ↦ inr (inl (grind (arith, nat_tests)))
    | inr n ↦ inr (inr (λ a x y.
        let e : head_of w q.len p.base ≡ head_of w q.len q.base = contained_in_shorter w q p a (omega arith) ip.2 y x in
        absurd (grind (arith, nat_tests))))
  ]
  | inr h ↦ elim (cases_Bool (contains w p q.base)) [
    | inl y ↦ inl (grind (arith, nat_tests))
    | inr n ↦ inr (inr (λ a x y.
        let e : head_of w p.len q.base ≡ head_of w p.len p.base = contained_in_shorter w p q a h iq.2 x y in
        absurd (grind (arith, nat_tests))))
  ]
]

-- the last address of a block fits its width, and 128 bits
pub last_fits : (w : ℕ) (p : Block) (v h : ℕ) → IsBlock w p → v ≡ p.base → h ≡ 2 ^ (w - p.len) - 1 → (v + h < 2 ^ w) × (v + h < 2 ^ 128)
last_fits w p v h i x y =
    let e : p.base + (2 ^ (w - p.len) - 1) < 2 ^ w = filled_below w (w - p.len) p.base (omega arith) i.3 i.4 in
    let f : 2 ^ w ≤ 2 ^ 128 = pow-le-pow_right (omega arith) i.1 in
    (omega arith, omega arith)
