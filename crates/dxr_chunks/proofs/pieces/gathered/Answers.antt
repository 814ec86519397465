use Rattle.std.proofs.Common.{◌≡◌, ◌∙◌, ◌∷◌, ◌++◌, [], ℕ, List, ap, sym, subst}
use Rattle.dxr_chunks.specs.declared.made.Made.{Made}
use Rattle.dxr_chunks.specs.Pieces.{AreWhole, Piece, all_of}
use Rattle.dxr_chunks.proofs.PieceLemmas.{all_push, whole_push}
use Rattle.dxr_chunks.proofs.pieces.gathered.Goals as goal

pub loop-piece-preserved : goal.loop-piece-preserved
loop-piece-preserved c =
    let before = c.loop-piece.yielded in
    let part = c.in_ok-part.part in
    let is = sym c.in_ok-part.was in
    record {
      whole = subst (λ (p : Piece). AreWhole (before ++ p ∷ [])) is (whole_push before part c.loop-piece.invariant.whole);
      all =
          c.in_ok-append.ensures.items ∙ ap (λ (xs : List (ℕ × Made)). xs ++ part.items) c.loop-piece.invariant.all
          ∙ sym (all_push before part) ∙ ap (λ (p : Piece). all_of (before ++ p ∷ [])) is;
    }
