-- A prefix is the run of addresses from its first to its last.
use Rattle.std.proofs.Common.{◌≡◌, ℕ, ◌+◌, ◌-◌, ◌*◌, ◌^◌, ◌<◌, ◌≤◌, true, ap, ◌∙◌, arith}
use Rattle.std.proofs.lemmas.Bool.{eqb-true, eq-eqb}
use Rattle.std.proofs.lemmas.Nat.{pow_pos}
use Rattle.std.proofs.Math.Nat.{div-mul-le_self, lt-div-mul-add, div-eq_of_lt-le, div-add-mod'}
use Rattle.prefix_width.specs.Prefix.{Block, IsBlock, contains, head_of}

-- a prefix's address is its first bits, with zeros behind
pub base_is_head : (w : ℕ) (p : Block) → IsBlock w p → head_of w p.len p.base * 2 ^ (w - p.len) ≡ p.base
base_is_head w p block = let e = div-add-mod' p.base (2 ^ (w - p.len)) in let z = block.4 in omega arith

-- what a prefix contains lies in its run
pub in_run : (w : ℕ) (p : Block) (a : ℕ) → IsBlock w p → contains w p a ≡ true → (p.base ≤ a) × (a < p.base + 2 ^ (w - p.len))
in_run w p a block h =
    let e : head_of w p.len a ≡ head_of w p.len p.base = eqb-true _ _ h in
    let k : head_of w p.len a * 2 ^ (w - p.len) ≡ p.base = ap (λ q. q * 2 ^ (w - p.len)) e ∙ base_is_head w p block in
    let low = div-mul-le_self a (2 ^ (w - p.len)) in
    let high = lt-div-mul-add {a = a} (pow_pos (w - p.len)) in
    (omega arith, omega arith)

-- and what lies in its run it contains
pub from_run : (w : ℕ) (p : Block) (a : ℕ) → IsBlock w p → p.base ≤ a → a < p.base + 2 ^ (w - p.len) → contains w p a ≡ true
from_run w p a block low high =
    let b = base_is_head w p block in
    eq-eqb _ _ (div-eq_of_lt-le (2 ^ (w - p.len)) (omega arith) (omega arith))
