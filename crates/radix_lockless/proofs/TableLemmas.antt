-- A table after edits, and its copies.
use Rattle.std.proofs.Common.{◌≡◌, ℕ, ◌+◌, ◌-◌, ◌*◌, ◌<◌, ◌≤◌, List, [], ◌∷◌, length, drop, get_or, Option, All, sym, ap, ◌∙◌, arith, subst, drop-cons, add-one}
use Rattle.std.proofs.Math.Path.{fun_ext}
use Rattle.std.proofs.lemmas.List.Elements.{All-cons, All-nil, All-weaker}
use Rattle.prefix_width.specs.Prefix.{Block}
use Rattle.module_trait.specs.Rows.{AreBlocks, HaveIndexes, IsAscending}
use Rattle.module_trait.specs.View.{row_at, with_row}
use Rattle.module_trait.specs.Edit.{IndexChange, AreOfDistinct, HaveAfter, IsEdit, IsIndex, undone, undone_all}
use Rattle.radix_lockless.specs.declared.node.Node.{Node}
use Rattle.radix_lockless.specs.declared.trie.Trie.{Trie}
use Rattle.radix_lockless.specs.Trie.{DifferAtMost, StandsFor}
use Rattle.radix_lockless.specs.Spot.{IsChange, IsLittle}
use Rattle.radix_lockless.specs.Table.{IsEdited, IsRadixOf, IsSameAs, IsSound, Linked, nodes_of, with_edits, working}
use Rattle.radix_lockless.proofs.EditLemmas.{blocks_from, indexes_edited, redone}
use Rattle.radix_lockless.proofs.PlanLemmas.{differ_more, differ_weaker, nodes_at}
use Rattle.radix_lockless.proofs.TreeLemmas.{rows_blocks}

-- the rows with the edits from a place on are those with the edits behind it, and the one there made
edits_from : (edits : List IndexChange) (i : ℕ) (e : IndexChange) (rows : List (Block × ℕ)) → i < length edits → e ≡ get_or edits i e → with_edits (drop i edits) rows ≡ with_row (with_edits (drop (i + 1) edits) rows) e.prefix e.after
edits_from edits i e rows inside is =
    ap (λ es. with_edits es rows) (drop-cons edits i e inside ∙ ap (λ n. get_or edits i e ∷ drop n edits) (sym (add-one i)))
    ∙ ap (λ x. with_row (with_edits (drop (i + 1) edits) rows) x.prefix x.after) (sym is)

module _ {W : ℕ} where
  -- a trie stands for what another with the same nodes does
  pub stands_alike : (old new : Linked W) → IsSameAs old new → (rows : List (Block × ℕ)) → StandsFor (nodes_of old) old.root rows → StandsFor (nodes_of new) new.root rows
  stands_alike old new same rows stands =
      let nodes : nodes_of new ≡ nodes_of old = fun_ext same.nodes in
      subst (λ (f : ℕ → Option (Node W)). StandsFor f new.root rows) (sym nodes) (subst (λ (r : Option ℕ). StandsFor (nodes_of old) r rows) (sym same.root) stands)

  pub table_alike : (old new : Linked W) → IsSameAs old new → (rows : List (Block × ℕ)) → IsRadixOf rows old → IsRadixOf rows new
  table_alike old new same rows radix = record { blocks = radix.blocks; indexes = radix.indexes; stands = stands_alike old new same rows radix.stands }

  -- edits made in a copy with the same nodes
  pub edited_alike : (old copy new : Linked W) (edits : List IndexChange) → IsSameAs old copy → IsEdited copy new edits → IsEdited old new edits
  edited_alike old copy new edits same edited =
      record {
        rows = λ rows stands. edited.rows rows (stands_alike old copy same rows stands);
        few = (edited.few.0, edited.few.1, λ k h. edited.few.2 k h ∙ same.nodes k);
        pages = omega (arith, edited.pages, same.settled);
      }

  pub sound_edited : (old new : Linked W) (edits : List IndexChange) → IsEdited old new edits → IsSound old → IsSound new
  sound_edited old new edits edited sound = (with_edits edits sound.0, edited.rows sound.0 sound.1)

  -- the edits so far, the last ones, are made
  pub record IsEditedFrom (old new : Trie W) (edits : List IndexChange) (i : ℕ) : Type 0 where
    pub rows : (rows : List (Block × ℕ)) → StandsFor (nodes_at old) old.root rows → StandsFor (nodes_at new) new.root (with_edits (drop i edits) rows)
    pub few : DifferAtMost (3 * (length edits - i)) (nodes_at old) (nodes_at new)
    pub pages : new.nodes.unsettled ≤ old.nodes.unsettled + 3 * (length edits - i)

  pub edited_more : (old mid new : Trie W) (edits : List IndexChange) (i : ℕ) (e : IndexChange) → i < length edits → e ≡ get_or edits i e → IsEditedFrom old mid edits (i + 1) → IsChange mid new e.prefix e.after → IsLittle mid new → IsEditedFrom old new edits i
  edited_more old mid new edits i e inside is so_far change little =
      record {
        rows = λ rows stands. subst (λ (xs : List (Block × ℕ)). StandsFor (nodes_at new) new.root xs) (sym (edits_from edits i e rows inside is)) (change.rows (with_edits (drop (i + 1) edits) rows) (so_far.rows rows stands));
        few = differ_weaker (3 * (length edits - (i + 1)) + 3) (3 * (length edits - i)) (nodes_at old) (nodes_at new) (omega arith) (differ_more (3 * (length edits - (i + 1))) 3 (nodes_at old) (nodes_at mid) (nodes_at new) so_far.few change.few);
        pages = omega (arith, so_far.pages, little.pages);
      }

  pub edited_all : (old new : Trie W) (edits : List IndexChange) → IsEditedFrom old new edits 0 → IsEdited (working old) (working new) edits
  edited_all old new edits so_far =
      record {
        rows = so_far.rows;
        few = differ_weaker (3 * (length edits - 0)) (3 * length edits) (nodes_at old) (nodes_at new) (omega arith) so_far.few;
        pages = omega (arith, so_far.pages);
      }

  -- a table that stood for the view's rows with edits undone stands for the view's with them made
  pub edited_table : (old new : Linked W) (edits : List IndexChange) (view : List (Block × ℕ)) → IsEdited old new edits → IsRadixOf (undone_all edits view) old → IsAscending view → AreBlocks W view → AreOfDistinct edits → HaveAfter edits view → All (λ e. IsEdit e.before e.after) edits → IsRadixOf view new
  edited_table old new edits view edited before up blocks distinct after all =
      let whole = redone edits view up distinct after in
      record {
        blocks = blocks;
        indexes = subst HaveIndexes whole (indexes_edited edits (undone_all edits view) (All-weaker (λ e. IsEdit e.before e.after) (λ e. IsIndex e.after) (λ e h. h.2) edits all) before.indexes);
        stands = subst (λ (rows : List (Block × ℕ)). StandsFor (nodes_of new) new.root rows) whole (edited.rows (undone_all edits view) before.stands);
      }

  pub edited_one : (old new : Linked W) (e : IndexChange) (view : List (Block × ℕ)) → IsEdited old new (e ∷ []) → IsRadixOf (undone e view) old → IsAscending view → AreBlocks W view → row_at view e.prefix ≡ e.after → IsEdit e.before e.after → IsRadixOf view new
  edited_one old new e view edited before up blocks after edit =
      edited_table old new (e ∷ []) view edited before up blocks (λ i j d h k. absurd (omega arith))
      (All-cons (λ x. row_at view x.prefix ≡ x.after) e [] after (All-nil (λ x. row_at view x.prefix ≡ x.after)))
      (All-cons (λ x. IsEdit x.before x.after) e [] edit (All-nil (λ x. IsEdit x.before x.after)))

  -- a trie of rows with indexes
  pub table_of : (table : Linked W) (rows : List (Block × ℕ)) → StandsFor (nodes_of table) table.root rows → HaveIndexes rows → IsRadixOf rows table
  table_of table rows stands indexes =
      record {
        blocks = subst (AreBlocks W) (sym stands.rows_are) (blocks_from W _ (rows_blocks W stands.tree stands.is_trie.trie));
        indexes = indexes;
        stands = stands;
      }
