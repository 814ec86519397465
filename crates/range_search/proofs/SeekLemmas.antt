-- Whether a start is among those of ascending cells, by bisection; a row's first address is a start.
use Rattle.std.proofs.Common.{◌≡◌, ◌≢◌, ◌⊎◌, ℕ, ◌+◌, ◌<◌, ◌≤◌, zero, suc, cond, List, [], ◌∷◌, Some, refl, sym, ap, ◌∙◌, subst, inl, inr, arith, length}
use Rattle.std.specs.Prelude.{IsSome, is_some}
use Rattle.std.specs.List.{slice_get, AllByRecursion}
use Rattle.std.specs.Map.{keys_of}
use Rattle.std.specs.BTreeMap.{is_at}
use Rattle.std.proofs.lemmas.Bool.{cases_Bool, cases_lt, false≢true}
use Rattle.std.proofs.lemmas.Option.{slice_get_within}
use Rattle.prefix_width.specs.Prefix.{Block}
use Rattle.prefix_width.specs.Order.{block_cmp}
use Rattle.module_trait.specs.Starts.{starts_of, IsUp, IsIn}
use Rattle.module_trait.specs.View.{row_at}
use Rattle.module_trait.proofs.KeyLemmas.{at_is}
use Rattle.module_trait.proofs.StartLemmas.{IsEdge, in-starts}

all_get : (P : ℕ → Type 0) (cells : List (ℕ × ℕ)) (j : ℕ) (d : ℕ × ℕ) → AllByRecursion P (keys_of cells) → slice_get cells j ≡ Some d → P d.0
all_get P [] j d all at = absurd (let w = slice_get_within [] j d at in omega (arith, w))
all_get P (x ∷ cells) zero d all at = (let same : x ≡ d = (let e = at in cc) in subst (λ (c : ℕ × ℕ). P c.0) same all.0)
all_get P (x ∷ cells) (suc j) d all at = all_get P cells j d all.1 at

-- a cell further on begins no sooner
up_get : (cells : List (ℕ × ℕ)) (i j : ℕ) (c d : ℕ × ℕ) → IsUp (keys_of cells) → slice_get cells i ≡ Some c → slice_get cells j ≡ Some d → i ≤ j → c.0 ≤ d.0
up_get [] i j c d up at to h = absurd (let w = slice_get_within [] i c at in omega (arith, w))
up_get (x ∷ cells) zero zero c d up at to h = (let same : c ≡ d = (let e = sym at ∙ to in cc) in subst (λ (y : ℕ × ℕ). c.0 ≤ y.0) same (omega arith))
up_get (x ∷ cells) zero (suc j) c d up at to h =
    let less = all_get (λ y. x.0 < y) cells j d up.0 to in
    let same : x ≡ c = (let e = at in cc) in
    subst (λ (y : ℕ × ℕ). y.0 ≤ d.0) same (omega (arith, less))
up_get (x ∷ cells) (suc i) zero c d up at to h = absurd (omega (arith, h))
up_get (x ∷ cells) (suc i) (suc j) c d up at to h = up_get cells i j c d up.1 at to (omega (arith, h))

-- a cell's start is among the starts
pub get_in : (cells : List (ℕ × ℕ)) (i : ℕ) (c : ℕ × ℕ) → slice_get cells i ≡ Some c → IsIn c.0 (keys_of cells)
get_in [] i c at = absurd (let w = slice_get_within [] i c at in omega (arith, w))
get_in (x ∷ cells) zero c at = inl (let same : c ≡ x = (let e = at in cc) in ap (λ (y : ℕ × ℕ). y.0) same)
get_in (x ∷ cells) (suc i) c at = inr (get_in cells i c at)

-- and each start is a cell's
in_get : (t : ℕ) (cells : List (ℕ × ℕ)) → IsIn t (keys_of cells) → (i : ℕ) × (c : ℕ × ℕ) × (slice_get cells i ≡ Some c) × (t ≡ c.0)
in_get t [] is = absurd is
in_get t (x ∷ cells) is = elim is [
  | inl e ↦ (0, x, refl, e)
  | inr later ↦ (let r = in_get t cells later in (suc r.0, r.1, r.2, r.3))
]

-- a cell that begins at the address is between the places
pub record IsSought (cells : List (ℕ × ℕ)) (value low high : ℕ) : Type 0 where
  pub within : high ≤ length cells
  pub apart : (i : ℕ) (c : ℕ × ℕ) → slice_get cells i ≡ Some c → (i < low) ⊎ (high ≤ i) → c.0 ≢ value

pub sought_first : (cells : List (ℕ × ℕ)) (value high : ℕ) → high ≡ length cells → IsSought cells value 0 high
sought_first cells value high e =
    record {
      within = omega arith;
      apart = λ i c at out. elim out [
        | inl front ↦ absurd (omega (arith, front))
        | inr back ↦ absurd (let w = slice_get_within cells i c at in omega (arith, w, back, e))
      ];
    }

pub sought_right : (cells : List (ℕ × ℕ)) (value low high middle : ℕ) (m : ℕ × ℕ) → IsUp (keys_of cells) → slice_get cells middle ≡ Some m → m.0 < value → IsSought cells value low high → IsSought cells value (middle + 1) high
sought_right cells value low high middle m up at less sought =
    record {
      within = sought.within;
      apart = λ i c to out. elim out [
        | inl front ↦ (λ e. (let l = up_get cells i middle c m up to at (omega (arith, front)) in omega (arith, l, less, e)))
        | inr back ↦ sought.apart i c to (inr back)
      ];
    }

pub sought_left : (cells : List (ℕ × ℕ)) (value low high middle : ℕ) (m : ℕ × ℕ) → IsUp (keys_of cells) → slice_get cells middle ≡ Some m → middle < high → value < m.0 → IsSought cells value low high → IsSought cells value low middle
sought_left cells value low high middle m up at inside more sought =
    record {
      within = (let w = sought.within in omega (arith, w, inside));
      apart = λ i c to out. elim out [
        | inl front ↦ sought.apart i c to (inl front)
        | inr back ↦ (λ e. (let l = up_get cells middle i m c up at to back in omega (arith, l, more, e)))
      ];
    }

pub sought_nowhere : (cells : List (ℕ × ℕ)) (value low high : ℕ) → high ≤ low → IsSought cells value low high → IsIn value (keys_of cells) → ⊥
sought_nowhere cells value low high none sought is =
    let at = in_get value cells is in
    elim (cases_lt at.0 low) [
      | inl front ↦ sought.apart at.0 at.1 at.2 (inl front) (sym at.3)
      | inr back ↦ sought.apart at.0 at.1 at.2 (inr (omega (arith, none, back))) (sym at.3)
    ]

-- the first address of a row is a start
row_edge : (w : ℕ) (rows : List (Block × ℕ)) (q : Block) → IsSome (row_at rows q) → IsEdge w rows q.base
row_edge w [] q some = absurd (false≢true some)
row_edge w (e ∷ rows) q some = elim (cases_Bool (is_at (block_cmp q) e.0)) [
  | inl h ↦ inl (ap (λ (b : Block). b.base) (at_is q e.0 h))
  | inr h ↦ inr (inr (row_edge w rows q (sym (ap (λ b. is_some (cond b (Some e.1) (row_at rows q))) h) ∙ some)))
]

-- so the starts move where no cell begins there
pub starts_move : (w : ℕ) (before view : List (Block × ℕ)) (cells : List (ℕ × ℕ)) (p : Block) → keys_of cells ≡ starts_of w before → IsSome (row_at view p) → (IsIn p.base (keys_of cells) → ⊥) → starts_of w before ≢ starts_of w view
starts_move w before view cells p keys some none same =
    none (subst (IsIn p.base) (sym (keys ∙ same)) (in-starts w view p.base (inr (row_edge w view p some))))
