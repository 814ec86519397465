-- Which nodes of tries and chunks of tables stay from one engine to the next.
use Rattle.std.proofs.Common.{◌≡◌, ◌∙◌, ℕ, List, refl, sym, ap, subst}
use Rattle.std.specs.List.Sorted.{IsStrictlySortedBy}
use Rattle.std.specs.Map.{keys_of}
use Rattle.prefix_width.specs.Prefix.{Block}
use Rattle.prefix_width.specs.Order.{block_cmp}
use Rattle.module_trait.specs.Rows.{IsAscending}
use Rattle.rib_store.specs.Table.{Table}
use Rattle.engine_set.specs.declared.engine.Engine.{Engine}
use Rattle.engine_set.specs.declared.engine.Engine.TheVariants.{Scan, Range, Radix, Dxr}
use Rattle.module_trait.specs.Edit.{IndexChange}
use Rattle.dxr_chunks.specs.Table.{Chunked, IsSameAs, KeepsChunk}
use Rattle.engine_set.specs.Engine.{KeepsOthers, SameNodes, kind_of}
use Rattle.fib_edits.specs.Named.{AreNamed, Naming}
use Rattle.fib_edits.proofs.CutLemmas.{IsCut, keys-indexed}
use Rattle.fib_sync.specs.Working.{IsAnew, MayMove}
use Rattle.fib_sync.specs.declared.working.Working.{Working}

-- what is known where a working engine moves on
pub cut_of : {w : ℕ} (old new : Naming) (was is : Table) (touched : List Block) (work : Working w) → MayMove old new was is touched work → AreNamed new is → IsAscending work.view → IsStrictlySortedBy block_cmp (keys_of is) → IsStrictlySortedBy block_cmp touched
    → IsCut old new was is touched
cut_of old new was is touched work m named up_view up_is up_touched = record {
  up_was = subst (IsStrictlySortedBy block_cmp) (ap (λ (rows : List (Block × ℕ)). keys_of rows) m.works.view ∙ keys-indexed old was) up_view;
  up_is = up_is;
  up_touched = up_touched;
  named_old = m.named;
  named_new = named;
  keeps = m.keeps;
  same = m.same;
}

-- a chunk that stays between two tables stays where the first, or the second, has the same chunks as another
kept_left : (a b c : Chunked) → IsSameAs b a → (k : ℕ) → KeepsChunk b c k → KeepsChunk a c k
kept_left a b c same k kept = record {
  cell = kept.cell ∙ sym (same.cells k);
  run = λ key is. kept.run key (sym (same.cells k) ∙ is) ∙ sym (same.runs key);
}

kept_right : (a b c : Chunked) → IsSameAs b c → (k : ℕ) → KeepsChunk a b k → KeepsChunk a c k
kept_right a b c same k kept = record { cell = same.cells k ∙ kept.cell; run = λ key is. same.runs key ∙ kept.run key is }

module _ {w : ℕ} where
  pub others_anew : (edits : List IndexChange) (a b : Engine w) → IsAnew edits (kind_of a) (kind_of b) → KeepsOthers edits a b
  others_anew edits (Radix a) (Radix b) never = absurd (never.tries refl refl)
  others_anew edits (Dxr a) (Dxr b) never = λ few. absurd (few (never.chunks refl refl))
  others_anew edits a b never = tt

  -- the first has the same nodes as another
  pub others_left : (edits : List IndexChange) (a b c : Engine w) → SameNodes b a → kind_of b ≡ kind_of a → KeepsOthers edits b c → KeepsOthers edits a c
  others_left edits (Radix a) (Radix b) (Radix c) same k kept = (kept.0, kept.1, λ key none. kept.2 key none ∙ sym (same key))
  others_left edits (Radix a) (Scan b) (Radix c) same k kept = cc
  others_left edits (Radix a) (Range b) (Radix c) same k kept = cc
  others_left edits (Radix a) (Dxr b) (Radix c) same k kept = cc
  others_left edits (Dxr a) (Dxr b) (Dxr c) same k kept = λ few n within untouched. kept_left a b c same n (kept few n within untouched)
  others_left edits (Dxr a) (Scan b) (Dxr c) same k kept = cc
  others_left edits (Dxr a) (Range b) (Dxr c) same k kept = cc
  others_left edits (Dxr a) (Radix b) (Dxr c) same k kept = cc
  others_left edits a b c same k kept = tt

  -- the second has
  pub others_right : (edits : List IndexChange) (a b c : Engine w) → KeepsOthers edits a b → SameNodes b c → kind_of c ≡ kind_of b → KeepsOthers edits a c
  others_right edits (Radix a) (Radix b) (Radix c) kept same k = (kept.0, kept.1, λ key none. same key ∙ kept.2 key none)
  others_right edits (Radix a) (Scan b) (Radix c) kept same k = cc
  others_right edits (Radix a) (Range b) (Radix c) kept same k = cc
  others_right edits (Radix a) (Dxr b) (Radix c) kept same k = cc
  others_right edits (Dxr a) (Dxr b) (Dxr c) kept same k = λ few n within untouched. kept_right a b c same n (kept few n within untouched)
  others_right edits (Dxr a) (Scan b) (Dxr c) kept same k = cc
  others_right edits (Dxr a) (Range b) (Dxr c) kept same k = cc
  others_right edits (Dxr a) (Radix b) (Dxr c) kept same k = cc
  others_right edits a b c kept same k = tt

  pub same_on : (a b c : Engine w) → SameNodes a b → kind_of b ≡ kind_of a → SameNodes b c → kind_of c ≡ kind_of b → SameNodes a c
  same_on (Radix a) (Radix b) (Radix c) one k two l = λ key. two key ∙ one key
  same_on (Radix a) (Scan b) (Radix c) one k two l = cc
  same_on (Radix a) (Range b) (Radix c) one k two l = cc
  same_on (Radix a) (Dxr b) (Radix c) one k two l = cc
  same_on (Dxr a) (Dxr b) (Dxr c) one k two l = record { cells = λ n. two.cells n ∙ one.cells n; runs = λ key. two.runs key ∙ one.runs key }
  same_on (Dxr a) (Scan b) (Dxr c) one k two l = cc
  same_on (Dxr a) (Range b) (Dxr c) one k two l = cc
  same_on (Dxr a) (Radix b) (Dxr c) one k two l = cc
  same_on a b c one k two l = tt
