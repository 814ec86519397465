-- A prefix is the run of addresses from its first to its last, and covering is inclusion.
use Rattle.std.proofs.Common.{◌≡◌, ℕ, ◌+◌, ◌-◌, ◌*◌, ◌^◌, ◌<◌, ◌≤◌, IsTrue, true, ap, ◌∙◌, refl, arith, inl, inr}
use Rattle.std.proofs.lemmas.Bool.{eqb-true, eq-eqb, cases_lt}
use Rattle.std.proofs.lemmas.Bool.Decides.{nat_tests}
use Rattle.std.proofs.lemmas.Nat.{pow_pos}
use Rattle.std.proofs.Math.Pow.{pow-lt}
use Rattle.std.proofs.Math.Nat.{div-mul-le_self, lt-div-mul-add, div-eq_of_lt-le, div-add-mod'}
use Rattle.prefix_width.specs.Prefix.{Block, IsBlock, contains, covers, head_of, last_of}
use Rattle.prefix_width.specs.Laws.{ContainsItsRange, CoversIsInclusion}
use Rattle.prefix_width.proofs.PrefixLemmas.{last_fits, head_of_fewer}

-- a prefix's address is its first bits, with zeros behind
pub base_is_head : (w : ℕ) (p : Block) → IsBlock w p → head_of w p.len p.base * 2 ^ (w - p.len) ≡ p.base
base_is_head w p block = let e = div-add-mod' p.base (2 ^ (w - p.len)) in let z = block.4 in omega arith

-- what a prefix contains lies in its run
pub in_run : (w : ℕ) (p : Block) (a : ℕ) → IsBlock w p → contains w p a ≡ true → (p.base ≤ a) × (a < p.base + 2 ^ (w - p.len))
in_run w p a block h =
    let e : head_of w p.len a ≡ head_of w p.len p.base = eqb-true _ _ h in
    let k : head_of w p.len a * 2 ^ (w - p.len) ≡ p.base = ap (λ q. q * 2 ^ (w - p.len)) e ∙ base_is_head w p block in
    let low = div-mul-le_self a (2 ^ (w - p.len)) in
    let high = lt-div-mul-add {a = a} (pow_pos (w - p.len)) in
    (omega arith, omega arith)

-- and what lies in its run it contains
pub from_run : (w : ℕ) (p : Block) (a : ℕ) → IsBlock w p → p.base ≤ a → a < p.base + 2 ^ (w - p.len) → contains w p a ≡ true
from_run w p a block low high =
    let b = base_is_head w p block in
    eq-eqb _ _ (div-eq_of_lt-le (2 ^ (w - p.len)) (omega arith) (omega arith))

pub contains_its_range : ContainsItsRange
contains_its_range w a p block =
    let some : 0 < 2 ^ (w - p.len) = pow_pos (w - p.len) in
    let fits : p.base + (2 ^ (w - p.len) - 1) < 2 ^ w = (last_fits w p p.base (2 ^ (w - p.len) - 1) block refl refl).0 in (
      fits,
      (
        (λ h. let run = in_run w p a block h in (run.0, omega arith)),
        (λ h. from_run w p a block h.0 (let top : a ≤ p.base + (2 ^ (w - p.len) - 1) = h.1 in omega arith)),
      ),
    )

-- a prefix that covers another contains what the other contains
covered : (w : ℕ) (p q : Block) (a : ℕ) → q.len ≤ w → IsTrue (covers w p q) → IsTrue (contains w q a) → IsTrue (contains w p a)
covered w p q a fits c h =
    let short : p.len ≤ q.len = grind (arith, nat_tests) in
    let base : head_of w p.len q.base ≡ head_of w p.len p.base = grind (arith, nat_tests) in
    let same : head_of w q.len a ≡ head_of w q.len q.base = grind (arith, nat_tests) in
    eq-eqb _ _ (head_of_fewer w p.len q.len a q.base short fits same ∙ base)

-- a prefix that contains what another contains is no longer
no_longer : (w : ℕ) (p q : Block) → IsBlock w p → IsBlock w q → ((a : ℕ) → IsTrue (contains w q a) → IsTrue (contains w p a)) → p.len ≤ q.len
no_longer w p q ip iq all = elim (cases_lt q.len p.len) [
  | inl h ↦
      let some : 0 < 2 ^ (w - q.len) = pow_pos (w - q.len) in
      let wider : 2 ^ (w - p.len) < 2 ^ (w - q.len) = pow-lt (let k = ip.2 in omega arith) in
      let first = in_run w p q.base ip (all q.base (from_run w q q.base iq (omega arith) (omega arith))) in
      let top : contains w p (last_of w q) ≡ true = all (last_of w q) (from_run w q (last_of w q) iq (omega arith) (omega arith)) in
      let last = in_run w p (last_of w q) ip top in
      omega arith
  | inr h ↦ h
]

pub covers_is_inclusion : CoversIsInclusion
covers_is_inclusion w p q ip iq = (
  (λ c a h. covered w p q a iq.2 c h),
  (λ all.
      let short : p.len ≤ q.len = no_longer w p q ip iq all in
      let here : IsTrue (contains w p q.base) = all q.base (eq-eqb _ _ refl) in
      grind (arith, nat_tests)),
)
