-- Chunks are put into a store one by one.
use Rattle.std.proofs.Common.{◌≡◌, ◌≢◌, ℕ, ◌+◌, ◌*◌, ◌^◌, ◌<◌, ◌≤◌, List, [], ◌∷◌, ◌++◌, Option, Some, None, length, refl, sym, ap, ◌∙◌, arith, inl, inr, subst, append-nil, append_assoc, take, get_or}
use Rattle.std.proofs.lemmas.List.{take_more}
use Rattle.std.specs.Prelude.{is_some}
use Rattle.std.specs.Map.{keys_of}
use Rattle.std.proofs.lemmas.Bool.{cases_eq}
use Rattle.module_trait.specs.Nodes.{node_at}
use Rattle.module_trait.specs.Starts.{IsIn}
use Rattle.dxr_chunks.specs.declared.cell.Cell.{Cell}
use Rattle.dxr_chunks.specs.declared.cell.Cell.TheVariants.{Direct, Run}
use Rattle.dxr_chunks.specs.declared.made.Made.{Made}
use Rattle.dxr_chunks.specs.declared.made.Made.TheVariants.{Index, Fragments}
use Rattle.dxr_chunks.specs.declared.store.Store.{Store}
use Rattle.dxr_chunks.specs.Chunk.{AreMade, HasTwo, IsChunk, IsKeptAt, IsMade, IsRun, runs_in, runs_of}
use Rattle.dxr_chunks.specs.Form.{working}
use Rattle.dxr_chunks.specs.Fragments.{AreFragments}
use Rattle.dxr_chunks.specs.Store.{HasLinks, IsPut}
use Rattle.dxr_chunks.specs.Table.{Chunked, IsLinked, IsRemade, IsSameAs, KeepsChunk, cell_at, run_at}

-- the run that a chunk's cell leads to
pub run_found : (answer : ℕ → ℕ) (k key : ℕ) (cell : Option Cell) (runs : ℕ → Option (List (ℕ × ℕ))) (run : List (ℕ × ℕ)) → cell ≡ Some (Run key) → runs key ≡ Some run → IsChunk answer k cell runs → AreFragments answer k run
run_found answer k key cell runs run is at chunk =
    let there : IsRun answer k (runs key) = subst (λ (x : Option Cell). IsChunk answer k x runs) is chunk in
    let here : IsRun answer k (Some run) = subst (IsRun answer k) at there in
    here.1

-- ---- chunks that are kept

module _ (answer : ℕ → ℕ) (k : ℕ) (cells cells' : ℕ → Option Cell) (runs runs' : ℕ → Option (List (ℕ × ℕ))) (kept : IsKeptAt k cells cells' runs runs') where
  pub chunk_kept : IsChunk answer k (cells k) runs → IsChunk answer k (cells' k) runs'
  chunk_kept is = subst (λ (x : Option Cell). IsChunk answer k x runs') (sym kept.cell) (by (cells k) refl is)
    where
      by : (c : Option Cell) → cells k ≡ c → IsChunk answer k c runs → IsChunk answer k c runs'
      by None e h = h
      by (Some (Direct i)) e h = h
      by (Some (Run key)) e h = subst (IsRun answer k) (sym (kept.run key e)) h

pub kept_twice : (k : ℕ) (a b c : ℕ → Option Cell) (r s t : ℕ → Option (List (ℕ × ℕ))) → IsKeptAt k a b r s → IsKeptAt k b c s t → IsKeptAt k a c r t
kept_twice k a b c r s t first second = record {
  cell = second.cell ∙ first.cell;
  run = λ key is. second.run key (first.cell ∙ is) ∙ first.run key is;
}

pub kept_same : (k : ℕ) (a b : ℕ → Option Cell) (r s : ℕ → Option (List (ℕ × ℕ))) → b k ≡ a k → ((key : ℕ) → s key ≡ r key) → IsKeptAt k a b r s
kept_same k a b r s cell run = record { cell = cell; run = λ key is. run key }

-- ---- lists of chunks that are made

pub made_push : (answer : ℕ → ℕ) (news : List (ℕ × Made)) (new : ℕ × Made) → AreMade answer news → new.0 < 2 ^ 16 → IsMade answer new.0 new.1 → AreMade answer (news ++ new ∷ [])
made_push answer [] new all fits made = (fits, made, tt)
made_push answer (x ∷ news) new all fits made = (all.0, all.1, made_push answer news new all.2 fits made)

pub made_split : (answer : ℕ → ℕ) (news : List (ℕ × Made)) (new : ℕ × Made) → AreMade answer (news ++ new ∷ []) → AreMade answer news × (new.0 < 2 ^ 16) × IsMade answer new.0 new.1
made_split answer [] new all = (tt, all.0, all.1)
made_split answer (x ∷ news) new all = let rest = made_split answer news new all.2 in ((all.0, all.1, rest.0), rest.1, rest.2)

pub made_other : (f g : ℕ → ℕ) (k : ℕ) (made : Made) → ((x : ℕ) → x < 2 ^ 16 → f (k * 2 ^ 16 + x) ≡ g (k * 2 ^ 16 + x)) → IsMade f k made → IsMade g k made
made_other f g k (Index i) same is = λ x fits. is x fits ∙ same x fits
made_other f g k (Fragments run) same is = (is.0, record { first = is.1.first; alternating = is.1.alternating; few = is.1.few; right = λ x fits. is.1.right x fits ∙ same x fits })

pub all_made_other : (f g : ℕ → ℕ) (news : List (ℕ × Made)) → ((a : ℕ) → a < 2 ^ 32 → f a ≡ g a) → AreMade f news → AreMade g news
all_made_other f g [] same all = tt
all_made_other f g (new ∷ news) same all =
    (all.0, made_other f g new.0 new.1 (λ x fits. same (new.0 * 2 ^ 16 + x) (let k = all.0 in omega (arith, k, fits))) all.1, all_made_other f g news same all.2)

pub runs_push : (news : List (ℕ × Made)) (new : ℕ × Made) → runs_in (news ++ new ∷ []) ≡ runs_in news + runs_of new.1
runs_push [] new = omega arith
runs_push (x ∷ news) new = (let rest = runs_push news new in omega (arith, rest))

pub runs_few : (made : Made) → runs_of made ≤ 1
runs_few (Index i) = omega arith
runs_few (Fragments run) = omega arith

pub runs_more : (news : List (ℕ × Made)) (i : ℕ) (new : ℕ × Made) → i < length news → new ≡ get_or news i new → runs_in (take (i + 1) news) ≡ runs_in (take i news) + runs_of new.1
runs_more news i new within is = ap runs_in (take_more news i new within ∙ ap (λ (x : ℕ × Made). take i news ++ x ∷ []) (sym is)) ∙ runs_push (take i news) new

pub number_fits : (answer : ℕ → ℕ) (news : List (ℕ × Made)) (k : ℕ) → AreMade answer news → IsIn k (keys_of news) → k < 2 ^ 16
number_fits answer [] k all is = absurd is
number_fits answer (new ∷ news) k all is = elim is [
  | inl e ↦ subst (λ n. n < 2 ^ 16) (sym e) all.0
  | inr later ↦ number_fits answer news k all.2 later
]

pub has_two : (answer : ℕ → ℕ) (k : ℕ) (made : Made) → IsMade answer k made → HasTwo made
has_two answer k (Index i) is = tt
has_two answer k (Fragments run) is = is.0

-- ---- a store as chunks are put in

pub remade_none : (store : Store) → HasLinks store → IsRemade (working store) (working store) []
remade_none store links = record {
  linked = links;
  made = λ answer all k is. absurd is;
  others = λ k fits out. record { cell = refl; run = λ key is. refl };
  pages = omega arith;
}

pub remade_more : (old mid new : Store) (done : List (ℕ × Made)) (k : ℕ) (made : Made) → IsRemade (working old) (working mid) done → IsPut mid new k made → IsRemade (working old) (working new) ((k, made) ∷ done)
remade_more old mid new done k made remade put = record {
  linked = put.linked;
  made = λ answer all j is. elim (cases_eq j k) [
    | inl e ↦ subst (λ n. IsChunk answer n (node_at new.cells.slots n) (node_at new.runs.slots)) (sym e) (put.here answer all.1)
    | inr other ↦ elim is [
      | inl e ↦ absurd (other e)
      | inr later ↦
          chunk_kept answer j (node_at mid.cells.slots) (node_at new.cells.slots) (node_at mid.runs.slots) (node_at new.runs.slots)
          (put.others j (number_fits answer done j all.2 later) other) (remade.made answer all.2 j later)
    ]
  ];
  others = λ j fits out.
      kept_twice j (node_at old.cells.slots) (node_at mid.cells.slots) (node_at new.cells.slots) (node_at old.runs.slots) (node_at mid.runs.slots) (node_at new.runs.slots)
      (remade.others j fits (λ later. out (inr later))) (put.others j fits (λ e. out (inl e)));
  pages = (let a = remade.pages in let b = put.pages in omega (arith, a, b));
}

-- the last ones are put in, and the rest are to come
pub record IsRemaking (old new : Store) (all rest : List (ℕ × Made)) : Type 0 where
  pub done : List (ℕ × Made)
  pub split : all ≡ rest ++ done
  pub remade : IsRemade (working old) (working new) done

pub remaking_begins : (store : Store) (all : List (ℕ × Made)) → HasLinks store → IsRemaking store store all all
remaking_begins store all links = record { done = []; split = sym (append-nil all); remade = remade_none store links }

pub remaking_more : (old mid new : Store) (all rest : List (ℕ × Made)) (k : ℕ) (made : Made) → IsRemaking old mid all (rest ++ (k, made) ∷ []) → IsPut mid new k made → IsRemaking old new all rest
remaking_more old mid new all rest k made so_far put = record {
  done = (k, made) ∷ so_far.done;
  split = so_far.split ∙ append_assoc rest ((k, made) ∷ []) so_far.done;
  remade = remade_more old mid new so_far.done k made so_far.remade put;
}

pub remaking_ends : (old new : Store) (all rest : List (ℕ × Made)) → rest ≡ [] → IsRemaking old new all rest → IsRemade (working old) (working new) all
remaking_ends old new all rest none so_far =
    subst (λ (xs : List (ℕ × Made)). IsRemade (working old) (working new) xs) (sym (so_far.split ∙ ap (λ (xs : List (ℕ × Made)). xs ++ so_far.done) none)) so_far.remade

-- ---- a copy with the same cells and runs

pub linked_alike : (old new : Chunked) → IsSameAs old new → IsLinked old → IsLinked new
linked_alike old new same linked = record {
  there = λ k fits. ap is_some (same.cells k) ∙ linked.there k fits;
  run = λ k key fits is. (let found = linked.run k key fits (sym (same.cells k) ∙ is) in (found.0, same.runs key ∙ found.1, found.2));
  apart = λ j k key jf kf h i. linked.apart j k key jf kf (sym (same.cells j) ∙ h) (sym (same.cells k) ∙ i);
  named = λ key some. (let found = linked.named key (sym (ap is_some (same.runs key)) ∙ some) in (found.0, found.1, same.cells found.0 ∙ found.2));
}

pub remade_alike : (old copy new : Chunked) (news : List (ℕ × Made)) → copy.unsettled ≡ 0 → IsSameAs old copy → IsRemade copy new news → IsRemade old new news
remade_alike old copy new news settled same remade = record {
  linked = remade.linked;
  made = remade.made;
  others = λ k fits out.
      kept_twice k (cell_at old) (cell_at copy) (cell_at new) (run_at old) (run_at copy) (run_at new)
      (kept_same k (cell_at old) (cell_at copy) (run_at old) (run_at copy) (same.cells k) same.runs) (remade.others k fits out);
  pages = (let p = remade.pages in omega (arith, p, settled));
}
