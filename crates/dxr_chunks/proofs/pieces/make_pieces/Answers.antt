use Rattle.std.proofs.Common.{◌≡◌, ◌∙◌, ◌+◌, ◌*◌, ◌/◌, ◌%◌, ◌<◌, ◌≤◌, ℕ, List, arith, drop, get_or, length, min, sym, subst, take}
use Rattle.std.specs.Prelude.{IfOk}
use Rattle.std.specs.Map.{keys_of}
use Rattle.module_trait.specs.Starts.{index_at}
use Rattle.dxr_chunks.specs.declared.made.Made.{Made}
use Rattle.dxr_chunks.specs.Chunk.{AreMade}
use Rattle.dxr_chunks.specs.Pieces.{Piece, all_of}
use Rattle.dxr_chunks.proofs.PieceLemmas.{IsPart, all_pieces, pieces_hold}
use Rattle.dxr_chunks.proofs.pieces.make_pieces.Goals as goal

pub returns-clause-made : goal.returns-clause-made
returns-clause-made g c =
    let answer = index_at 32 c.args.view.now in
    let chunks = c.args.chunks.now in
    let size = length chunks / 8 + 1 in
    let pieces = c.in_ok-pieces.pieces.items in
    let each : (n : ℕ) (d : Piece) → n < length pieces → IfOk (get_or pieces n d) (λ part. IsPart answer size chunks n part.items) =
    λ n d h. (
    let gives = (c.in_ok-pieces.ensures.each n d h).1 in
    subst (λ (xs : List ℕ). IfOk (get_or pieces n d) (λ part. AreMade answer part.items × (keys_of part.items ≡ xs))) gives.argument_is.value gives.call) in
    let count : length pieces ≡ length chunks / size + min 1 (length chunks % size) = (let len = c.in_ok-pieces.ensures.len in omega (arith, len)) in
    let long : length chunks ≤ length pieces * size = pieces_hold (length chunks) size (length pieces) (omega arith) count in
    subst (AreMade answer) (sym c.in_ok-news.ensures.all) (all_pieces answer size chunks pieces c.in_ok-news.ensures.whole each long).0

pub returns-clause-keys : goal.returns-clause-keys
returns-clause-keys g c =
    let answer = index_at 32 c.args.view.now in
    let chunks = c.args.chunks.now in
    let size = length chunks / 8 + 1 in
    let pieces = c.in_ok-pieces.pieces.items in
    let each : (n : ℕ) (d : Piece) → n < length pieces → IfOk (get_or pieces n d) (λ part. IsPart answer size chunks n part.items) =
    λ n d h. (
    let gives = (c.in_ok-pieces.ensures.each n d h).1 in
    subst (λ (xs : List ℕ). IfOk (get_or pieces n d) (λ part. AreMade answer part.items × (keys_of part.items ≡ xs))) gives.argument_is.value gives.call) in
    let count : length pieces ≡ length chunks / size + min 1 (length chunks % size) = (let len = c.in_ok-pieces.ensures.len in omega (arith, len)) in
    let long : length chunks ≤ length pieces * size = pieces_hold (length chunks) size (length pieces) (omega arith) count in
    subst (λ (news : List (ℕ × Made)). keys_of news ≡ chunks) (sym c.in_ok-news.ensures.all) (all_pieces answer size chunks pieces c.in_ok-news.ensures.whole each long).1
