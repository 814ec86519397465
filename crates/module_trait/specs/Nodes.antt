-- Nodes by key: a store, its frozen copies, and the pages that they share.
use Rattle.std.specs.Prelude.{◌≡◌, ◌≢◌, ℕ, ◌+◌, ◌*◌, ◌/◌, ◌%◌, ◌^◌, ◌<◌, ◌≤◌, List, [], ◌∷◌, length, map, Option, Some, None, Bool, true, false, slice_index_or, refl, Vec}
use Rattle.std.specs.declared.sync.Arc.{Arc}
use Rattle.std.specs.declared.alloc.Global.{Global}
use Rattle.std.specs.Arc.{arc_value}
use Rattle.std.specs.Coded.{Coded, code_by, coded×, coded_ℕ, coded_list, coded_option}
use Rattle.module_trait.specs.declared.nodes.TheConstants.{KEYS_MAX}

-- what a store is seen as: a node or nothing at each key from 0 on, how many more nodes it has made room for, and how many
-- of its pages were written to since it was settled
pub record Store (T : Type 0) : Type 0 where
  pub slots : List (Option T)
  pub spare : ℕ
  pub unsettled : ℕ

abbrev pub store_code : {T : Type 0} → Coded T → Coded (Store T)
store_code {T} code =
    code_by
    (List (Option T) × (ℕ × ℕ))
    (coded× (coded_list (coded_option code)) (coded× coded_ℕ coded_ℕ))
    (λ s. (s.slots, (s.spare, s.unsettled)))
    (λ p. record { slots = p.0; spare = p.1.0; unsettled = p.1.1 })
    (λ _. refl)

-- what a frozen copy is seen as: the node or nothing at each key of each page, and how many of the pages were made for it
pub record Frozen (T : Type 0) : Type 0 where
  pub pages : List (List (Option T))
  pub made : ℕ

abbrev pub frozen_code : {T : Type 0} → Coded T → Coded (Frozen T)
frozen_code {T} code =
    code_by
    (List (List (Option T)) × ℕ)
    (coded× (coded_list (coded_list (coded_option code))) coded_ℕ)
    (λ f. (f.pages, f.made))
    (λ p. record { pages = p.0; made = p.1 })
    (λ _. refl)

-- a clone equals what it was made from
abbrev pub IsExact : {T : Type 0} → (T → T → Type 0) → Type 0
IsExact {T} is_clone = (x y : T) → is_clone x y → y ≡ x

-- how many pages are marked
abbrev pub marked : List Bool → ℕ
marked [] = 0
marked (true ∷ marks) = marked marks + 1
marked (false ∷ marks) = marked marks

-- no page below this one is marked
abbrev pub AreUnmarked : List Bool → ℕ → Type 0
AreUnmarked marks upto = (page : ℕ) → page < upto → slice_index_or marks page true ≡ false

-- there is room for so many more nodes beside the `len` that are there, and a page for each key
pub record HasRoom (spare capacity len keys : ℕ) : Type 0 where
  pub fits : 0 < spare → len + spare ≤ capacity
  pub within : 0 < spare → capacity ≤ KEYS_MAX
  pub paged : 0 < spare → capacity ≤ keys

module _ {T : Type 0} where
  -- the node at a key of a store
  abbrev pub node_at : List (Option T) → ℕ → Option T
  node_at slots key = slice_index_or slots key None

  -- the node at a key, where the keys are cut into pages of this size
  abbrev pub paged_at : ℕ → List (List (Option T)) → ℕ → Option T
  paged_at size pages key = slice_index_or (slice_index_or pages (key / size) []) (key % size) None

  -- the node at a key of a frozen copy whose pages have this size
  abbrev pub frozen_at : ℕ → Frozen T → ℕ → Option T
  frozen_at size frozen key = paged_at size frozen.pages key

  -- the new slots have this at the key, and every other key keeps what it had
  pub record Updates (old new : List (Option T)) (key : ℕ) (slot : Option T) : Type 0 where
    pub changed : node_at new key ≡ slot
    pub others : (other : ℕ) → other ≢ key → node_at new other ≡ node_at old other

  -- the slots of a page, none where there is no page
  abbrev pub cells_of : Option (Arc (Vec (Option T) Global) Global) → List (Option T)
  cells_of None = []
  cells_of (Some page) = (arc_value {X = Vec (Option T) Global} page).items

  -- those of each page
  abbrev pub contents : List (Option (Arc (Vec (Option T) Global) Global)) → List (List (Option T))
  contents pages = map cells_of pages

  -- the page has the slots of its keys
  abbrev pub IsPageOf : ℕ → List (Option T) → ℕ → List (Option T) → Type 0
  IsPageOf size slots page cells = (i : ℕ) → i < size → slice_index_or cells i None ≡ node_at slots (page * size + i)

  -- each page that is not marked has the slots of its keys, and no key past the pages is in use
  pub record IsKept (size : ℕ) (slots : List (Option T)) (pages : List (List (Option T))) (marks : List Bool) : Type 0 where
    pub positive : 0 < size
    pub fits : length pages * size ≤ 2 ^ 64
    pub same : length marks ≡ length pages
    pub unmarked : (key : ℕ) → slice_index_or marks (key / size) true ≡ false → paged_at size pages key ≡ node_at slots key
    pub above : (key : ℕ) → length pages * size ≤ key → node_at slots key ≡ None

  -- the pages have the same node at each key
  abbrev pub SameNodes : ℕ → List (List (Option T)) → List (Option T) → Type 0
  SameNodes size pages slots = (key : ℕ) → paged_at size pages key ≡ node_at slots key

  -- the pages have no node below this key
  abbrev pub IsBare : ℕ → List (List (Option T)) → ℕ → Type 0
  IsBare size pages upto = (key : ℕ) → key < upto → paged_at size pages key ≡ None

  -- the slots have what the pages have below `done`, and from there up to `upto` each node of the pages
  pub record IsFilled (size : ℕ) (pages : List (List (Option T))) (slots : List (Option T)) (done upto : ℕ) : Type 0 where
    pub below : (key : ℕ) → key < done → node_at slots key ≡ paged_at size pages key
    pub within : (key : ℕ) → done ≤ key → key < upto → (x : T) → paged_at size pages key ≡ Some x → node_at slots key ≡ Some x
    pub past : (key : ℕ) → upto ≤ key → node_at slots key ≡ None
