-- The rows from a prefix to its last address are those that it covers.
use Rattle.std.proofs.Common.{◌≡◌, ◌⊎◌, ℕ, ◌+◌, ◌-◌, ◌*◌, ◌/◌, ◌^◌, ◌<◌, ◌≤◌, Bool, true, false, List, [], ◌∷◌, refl, sym, ap, ◌∙◌, arith, inl, inr, not, leb, cond, filter}
use Rattle.std.specs.Prelude.{◌&&◌}
use Rattle.std.proofs.lemmas.Bool.{eqb-true, cases_Bool, cases_order, cases_lt, le-leb, lt-leb, and_right}
use Rattle.std.proofs.lemmas.Nat.{pow_pos}
use Rattle.std.proofs.Math.Nat.{div-mul-le_self, div-one}
use Rattle.std.specs.Ordering.{nat_cmp, ordering_then, is_le, is_lt}
use Rattle.std.specs.Cmp.{nat_cmp_is}
use Rattle.std.specs.declared.cmp.Ordering.{Ordering}
use Rattle.std.specs.declared.cmp.Ordering.TheVariants.{Less, Equal, Greater}
use Rattle.std.specs.declared.ops.Bound.TheVariants.{Included}
use Rattle.std.specs.BTreeMap.Range.{range_contains, entries_between}
use Rattle.std.specs.Map.{keys_of}
use Rattle.std.proofs.lemmas.List.Elements.{All-head, All-tail}
use Rattle.prefix_width.specs.Prefix.{Block, IsBlock, contains, covers, head_of, last_of, masked_block}
use Rattle.prefix_width.specs.Order.{block_cmp}
use Rattle.prefix_width.proofs.PrefixLemmas.{head_of_fewer}
use Rattle.module_trait.specs.Rows.{AreBlocks}
use Rattle.module_trait.proofs.BlockLemmas.{base_is_head, in_run, from_run}

-- the order of two prefixes, from that of their numbers
cmp_less : (p q : Block) → p.base < q.base → block_cmp p q ≡ Less
cmp_less p q h = ap (λ o. ordering_then o (nat_cmp p.len q.len)) (sym (nat_cmp_is p.base q.base Less h))

cmp_greater : (p q : Block) → q.base < p.base → block_cmp p q ≡ Greater
cmp_greater p q h = ap (λ o. ordering_then o (nat_cmp p.len q.len)) (sym (nat_cmp_is p.base q.base Greater h))

cmp_len : (p q : Block) (o : Ordering) → p.base ≡ q.base → o ≡ nat_cmp p.len q.len → block_cmp p q ≡ o
cmp_len p q o e h = ap (λ x. ordering_then x (nat_cmp p.len q.len)) (sym (nat_cmp_is p.base q.base Equal e)) ∙ sym h

-- a prefix above p in its run is no shorter
pub no_shorter : (w : ℕ) (p r : Block) → IsBlock w p → IsBlock w r → p.base < r.base → contains w p r.base ≡ true → p.len ≤ r.len
no_shorter w p r ip ir h inside =
    elim (cases_lt r.len p.len) [
      | inr x ↦ x
      | inl x ↦
          let e : head_of w r.len r.base ≡ head_of w r.len p.base = head_of_fewer w r.len p.len r.base p.base (omega arith) ip.2 (eqb-true _ _ inside) in
          let k : head_of w r.len p.base * 2 ^ (w - r.len) ≡ r.base = ap (λ q. q * 2 ^ (w - r.len)) (sym e) ∙ base_is_head w r ir in
          let low = div-mul-le_self p.base (2 ^ (w - r.len)) in
          absurd (omega (arith, k, low, h))
    ]

-- from p on: no shorter, in its run
begins : (w : ℕ) (p r : Block) → IsBlock w p → IsBlock w r → p.base ≤ r.base → contains w p r.base ≡ true → is_le (block_cmp p r) ≡ leb p.len r.len
begins w p r ip ir above inside =
    elim (cases_lt p.base r.base) [
      | inl h ↦ ap is_le (cmp_less p r h) ∙ sym (le-leb _ _ (no_shorter w p r ip ir h inside))
      | inr h ↦
          let e : p.base ≡ r.base = omega arith in
          elim (cases_order p.len r.len) [
            | inl x ↦ ap is_le (cmp_len p r Equal e (nat_cmp_is p.len r.len Equal x)) ∙ sym (le-leb _ _ (omega arith))
            | inr o ↦ elim o [
              | inl x ↦ ap is_le (cmp_len p r Less e (nat_cmp_is p.len r.len Less x)) ∙ sym (le-leb _ _ (omega arith))
              | inr x ↦ ap is_le (cmp_len p r Greater e (nat_cmp_is p.len r.len Greater x)) ∙ sym (lt-leb _ _ x)
            ]
          ]
    ]

-- up to the prefix of all bits at the last address
ends : (last r : Block) → r.len ≤ last.len → r.base ≤ last.base → is_lt (block_cmp last r) ≡ false
ends last r len upto =
    elim (cases_lt r.base last.base) [
      | inl h ↦ ap is_lt (cmp_greater last r h)
      | inr h ↦
          let e : last.base ≡ r.base = omega arith in
          elim (cases_lt r.len last.len) [
            | inl x ↦ ap is_lt (cmp_len last r Greater e (nat_cmp_is last.len r.len Greater x))
            | inr x ↦ ap is_lt (cmp_len last r Equal e (nat_cmp_is last.len r.len Equal (omega arith)))
          ]
    ]

-- an address outside the run isn't contained
outside : (w : ℕ) (p : Block) (a : ℕ) → IsBlock w p → (a < p.base) ⊎ (p.base + 2 ^ (w - p.len) ≤ a) → contains w p a ≡ false
outside w p a ip out = elim (cases_Bool (contains w p a)) [
  | inl h ↦ (let g = in_run w p a ip h in elim out [ inl x ↦ absurd (omega arith) | inr x ↦ absurd (omega arith) ])
  | inr h ↦ h
]

-- what lies between a prefix and its last address is what it covers
between_is_covered : (w : ℕ) (p last r : Block) → IsBlock w p → IsBlock w r → last.len ≡ w → last.base + 1 ≡ p.base + 2 ^ (w - p.len) → range_contains block_cmp (Included p) (Included last) r ≡ covers w p r
between_is_covered w p last r ip ir len top =
    let pos = pow_pos (w - p.len) in
    let fits = ir.2 in
    elim (cases_lt r.base p.base) [
      | inl below ↦
          ap (λ o. is_le o && not (is_lt (block_cmp last r))) (cmp_greater p r below)
          ∙ sym (and_right (leb p.len r.len) (contains w p r.base) (outside w p r.base ip (inl below)))
      | inr above ↦ elim (cases_lt last.base r.base) [
        | inl past ↦
            ap (λ o. is_le (block_cmp p r) && not (is_lt o)) (cmp_less last r past)
            ∙ and_right (is_le (block_cmp p r)) (not (is_lt Less)) refl
            ∙ sym (and_right (leb p.len r.len) (contains w p r.base) (outside w p r.base ip (inr (omega arith))))
        | inr upto ↦
            let inside = from_run w p r.base ip above (omega arith) in
            ap (λ b. b && not (is_lt (block_cmp last r))) (begins w p r ip ir above inside)
            ∙ ap (λ b. leb p.len r.len && not b) (ends last r (omega arith) upto)
            ∙ ap (λ b. leb p.len r.len && b) (sym inside)
      ]
    ]

filter_same : (w : ℕ) (f g : Block × ℕ → Bool) (rows : List (Block × ℕ)) → AreBlocks w rows → ((r : Block × ℕ) → IsBlock w r.0 → f r ≡ g r) → filter f rows ≡ filter g rows
filter_same w f g [] blocks h = refl
filter_same w f g (r ∷ rows) blocks h =
    ap (λ b. cond b (r ∷ filter f rows) (filter f rows)) (h r (All-head (IsBlock w) r.0 (keys_of rows) blocks))
    ∙ ap (λ xs. cond (g r) (r ∷ xs) xs) (filter_same w f g rows (All-tail (IsBlock w) r.0 (keys_of rows) blocks) h)

-- the prefix of all bits at an address is the address
whole : (w a : ℕ) → head_of w w a * 2 ^ (w - w) ≡ a
whole w a =
    let none : w - w ≡ 0 = omega arith in
    ap (λ n. a / 2 ^ n * 2 ^ n) none ∙ (let e : a / 1 ≡ a = div-one a in omega arith)

-- the rows between them are the rows below the prefix
pub rows_covered : (w : ℕ) (p : Block) (rows : List (Block × ℕ)) → IsBlock w p → AreBlocks w rows → entries_between block_cmp (Included p) (Included (masked_block w (last_of w p) w)) rows ≡ filter (λ r. covers w p r.0) rows
rows_covered w p rows ip blocks =
    let pos = pow_pos (w - p.len) in
    let top : head_of w w (last_of w p) * 2 ^ (w - w) + 1 ≡ p.base + 2 ^ (w - p.len) = (let e = whole w (last_of w p) in omega arith) in
    filter_same w _ _ rows blocks (λ r ir. between_is_covered w p (masked_block w (last_of w p) w) r.0 ip ir refl top)
