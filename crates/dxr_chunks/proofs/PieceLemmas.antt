-- Pieces of a list of chunks, one behind the other.
use Rattle.std.proofs.Common.{◌≡◌, ℕ, ◌+◌, ◌*◌, ◌/◌, ◌%◌, ◌<◌, ◌≤◌, min, List, [], ◌∷◌, ◌++◌, Result, Ok, Err, Vec, length, take, drop, get_or, refl, sym, ap, ◌∙◌, arith, subst, append_assoc, append-nil, zero, suc, add-one, take-add, inl, inr}
use Rattle.std.proofs.Math.Nat.{div-add-mod', mod-lt}
use Rattle.std.proofs.lemmas.Bool.{cases_eq}
use Rattle.std.specs.Prelude.{IfOk, alloc_error}
use Rattle.std.specs.Map.{keys_of}
use Rattle.std.specs.declared.alloc.AllocError.{AllocError}
use Rattle.std.specs.declared.alloc.Global.{Global}
use Rattle.std.proofs.lemmas.List.{map-append, take_all, take_more}
use Rattle.dxr_chunks.specs.declared.made.Made.{Made}
use Rattle.dxr_chunks.specs.Chunk.{AreMade}
use Rattle.dxr_chunks.specs.Pieces.{AreWhole, Piece, all_of}

pub all_push : (pieces : List Piece) (piece : Vec (ℕ × Made) Global) → all_of (pieces ++ Ok piece ∷ []) ≡ all_of pieces ++ piece.items
all_push [] piece = append-nil piece.items
all_push ((Ok p) ∷ pieces) piece = ap (λ (xs : List (ℕ × Made)). p.items ++ xs) (all_push pieces piece) ∙ sym (append_assoc p.items (all_of pieces) piece.items)
all_push ((Err e) ∷ pieces) piece = all_push pieces piece

pub whole_push : (pieces : List Piece) (piece : Vec (ℕ × Made) Global) → AreWhole pieces → AreWhole (pieces ++ Ok piece ∷ [])
whole_push [] piece whole = tt
whole_push ((Ok p) ∷ pieces) piece whole = whole_push pieces piece whole
whole_push ((Err e) ∷ pieces) piece whole = absurd whole

-- a piece that does not want memory
whole_at : (pieces : List Piece) (n : ℕ) (d : Piece) → n < length pieces → AreWhole pieces → (part : Vec (ℕ × Made) Global) × (get_or pieces n d ≡ Ok part)
whole_at [] n d within whole = absurd (omega (arith, within))
whole_at ((Ok p) ∷ pieces) zero d within whole = (p, refl)
whole_at ((Ok p) ∷ pieces) (suc n) d within whole = whole_at pieces n d (omega (arith, within)) whole
whole_at ((Err e) ∷ pieces) n d within whole = absurd whole

made_append : (answer : ℕ → ℕ) (xs ys : List (ℕ × Made)) → AreMade answer xs → AreMade answer ys → AreMade answer (xs ++ ys)
made_append answer [] ys all more = more
made_append answer (x ∷ xs) ys all more = (all.0, all.1, made_append answer xs ys all.2 more)

-- what a piece has: chunks that are made, with the numbers of that piece
abbrev pub IsPart : (ℕ → ℕ) → ℕ → List ℕ → ℕ → List (ℕ × Made) → Type 0
IsPart answer size chunks n part = AreMade answer part × (keys_of part ≡ take size (drop (n * size) chunks))

module _ (answer : ℕ → ℕ) (size : ℕ) (chunks : List ℕ) (pieces : List Piece) (whole : AreWhole pieces) (each : (n : ℕ) (d : Piece) → n < length pieces → IfOk (get_or pieces n d) (λ part. IsPart answer size chunks n part.items)) where
  -- the first pieces have the first chunks
  first_pieces : (n : ℕ) → n ≤ length pieces → AreMade answer (all_of (take n pieces)) × (keys_of (all_of (take n pieces)) ≡ take (n * size) chunks)
  first_pieces zero within = (tt, (let e : 0 ≡ 0 * size = omega arith in ap (λ k. take k chunks) e))
  first_pieces (suc n) within =
      let less : n < length pieces = omega (arith, within) in
      let d : Piece = Err alloc_error in
      let at = whole_at pieces n d less whole in
      let part = at.0 in
      let is : IsPart answer size chunks n part.items = subst (λ (p : Piece). IfOk p (λ v. IsPart answer size chunks n v.items)) at.1 (each n d less) in
      let before = first_pieces n (omega (arith, within)) in
      let more : all_of (take (suc n) pieces) ≡ all_of (take n pieces) ++ part.items =
      ap (λ k. all_of (take k pieces)) (sym (add-one n)) ∙ ap all_of (take_more pieces n d less ∙ ap (λ (p : Piece). take n pieces ++ p ∷ []) at.1) ∙ all_push (take n pieces) part in
      let sum : suc n * size ≡ n * size + size = omega arith in (
        subst (AreMade answer) (sym more) (made_append answer (all_of (take n pieces)) part.items before.0 is.0),
        ap keys_of more ∙ map-append (λ e. e.0) (all_of (take n pieces)) part.items ∙ ap (λ ks. ks ++ keys_of part.items) before.1
            ∙ ap (λ ks. take (n * size) chunks ++ ks) is.1 ∙ sym (take-add (n * size) size chunks) ∙ sym (ap (λ k. take k chunks) sum),
      )

  -- and all of them all
  pub all_pieces : length chunks ≤ length pieces * size → AreMade answer (all_of pieces) × (keys_of (all_of pieces) ≡ chunks)
  all_pieces long =
      let rest = first_pieces (length pieces) (omega arith) in
      let same : take (length pieces) pieces ≡ pieces = take_all (length pieces) pieces (omega arith) in (
        subst (λ (ps : List Piece). AreMade answer (all_of ps)) same rest.0,
        ap (λ (ps : List Piece). keys_of (all_of ps)) (sym same) ∙ rest.1 ∙ take_all (length pieces * size) chunks long,
      )

-- as many pieces as there are hold all
pub pieces_hold : (count size pieces : ℕ) → 0 < size → pieces ≡ count / size + min 1 (count % size) → count ≤ pieces * size
pieces_hold count size pieces some is =
    let split : count / size * size + count % size ≡ count = div-add-mod' count size in
    let less = mod-lt count some in
    elim (cases_eq (count % size) 0) [
      | inl none ↦
          let p : pieces ≡ count / size = omega (arith, is, none) in
          subst (λ n. count ≤ n * size) (sym p) (omega (arith, split, none))
      | inr more ↦
          let p : pieces ≡ count / size + 1 = omega (arith, is, more) in
          subst (λ n. count ≤ n * size) (sym p) (omega (arith, split, less))
    ]
