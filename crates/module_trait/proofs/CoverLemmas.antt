-- The prefix of a length that covers another is the only one.
use Rattle.std.proofs.Common.{◌≡◌, ℕ, ◌-◌, ◌*◌, ◌^◌, ◌<◌, IsTrue, List, None, refl, sym, ap, ◌∙◌, arith}
use Rattle.std.specs.Prelude.{is_some}
use Rattle.std.proofs.lemmas.Bool.{false≢true}
use Rattle.std.proofs.lemmas.Bool.Decides.{nat_tests}
use Rattle.std.proofs.lemmas.Nat.{pow_pos}
use Rattle.std.proofs.Math.Nat.{mul-div_cancel}
use Rattle.prefix_width.specs.Prefix.{Block, IsBlock, covers, head_of, masked_block}
use Rattle.module_trait.specs.Rows.{AreBlocks}
use Rattle.module_trait.specs.View.{row_at, IsShorterCover}
use Rattle.module_trait.proofs.BlockLemmas.{base_is_head}
use Rattle.module_trait.proofs.KeyLemmas.{block_at, same_block}

-- a prefix cut to fewer bits covers it
pub cut_covers : (w : ℕ) (p : Block) (len : ℕ) → len < p.len → IsTrue (covers w (masked_block w p.base len) p)
cut_covers w p len h =
    let e : head_of w len (head_of w len p.base * 2 ^ (w - len)) ≡ head_of w len p.base = mul-div_cancel (head_of w len p.base) (pow_pos (w - len)) in
    grind (arith, nat_tests)

-- what covers a prefix is the prefix, cut to that length
cover_is_cut : (w : ℕ) (p q : Block) → IsBlock w q → IsTrue (covers w q p) → q ≡ masked_block w p.base q.len
cover_is_cut w p q block h =
    let e : head_of w q.len p.base ≡ head_of w q.len q.base = grind (arith, nat_tests) in
    same_block q (masked_block w p.base q.len) (sym (ap (λ n. n * 2 ^ (w - q.len)) e ∙ base_is_head w q block)) refl

-- so where the cut prefix has no row, no cover of that length has
pub not_there : (w : ℕ) (rows : List (Block × ℕ)) (p q : Block) (len : ℕ) → AreBlocks w rows → row_at rows (masked_block w p.base len) ≡ None → IsShorterCover w rows p q → q.len ≡ len → ⊥
not_there w rows p q len blocks none cover same =
    let block = block_at w rows q blocks cover.there in
    let e : q ≡ masked_block w p.base len = cover_is_cut w p q block cover.covering ∙ ap (masked_block w p.base) same in
    false≢true (sym (ap is_some (ap (row_at rows) e ∙ none)) ∙ cover.there)
