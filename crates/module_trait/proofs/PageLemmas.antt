-- Pages that are kept beside the slots: writes keep them, pages made anew have the slots of their keys.
use Rattle.std.proofs.Common.{◌≡◌, ◌≢◌, ℕ, zero, suc, ◌+◌, ◌*◌, ◌/◌, ◌%◌, ◌^◌, ◌<◌, ◌≤◌, Bool, true, false, List, [], ◌∷◌, length, get_or, set, take, Option, Some, None, IsSome, unwrap_or, sym, ap, ◌∙◌, inl, inr, arith, ◌++◌, length-append, subst, refl, add-one, replicate, cond, is_some, count_by, Vec}
use Rattle.std.proofs.lemmas.Bool.{cases_eq, cases_lt}
use Rattle.std.proofs.lemmas.Nat.{le-div, div-add-mod', div-mul-add, mod-mul-add}
use Rattle.std.proofs.Math.Nat.{div-mul-le_self, mod-lt, mul-le-mul_right, suc-mul}
use Rattle.std.proofs.lemmas.List.{get_or-set_same, get_or-set_other, get_or_past, length-set, get_or-map, get_or_append_left, get_or_push, map-set, length-map, map-append}
use Rattle.std.proofs.lemmas.List.Sums.{sum_by-set}
use Rattle.std.specs.declared.sync.Arc.{Arc}
use Rattle.std.specs.declared.alloc.Global.{Global}
use Rattle.module_trait.specs.Nodes.{cells_of, contents, marked, node_at, paged_at, IsKept, AreUnmarked, SameNodes, IsPageOf, IsFilled}

-- after a mark, a page without one is another page and had none
pub marked_other : (marks : List Bool) (p q : ℕ) → get_or (set marks p true) q true ≡ false → (q ≢ p) × (get_or marks q true ≡ false)
marked_other [] p q h = absurd (cc)
marked_other (b ∷ rest) zero zero h = absurd (cc)
marked_other (b ∷ rest) zero (suc q) h = (λ e. absurd (omega arith), h)
marked_other (b ∷ rest) (suc p) zero h = (λ e. absurd (omega arith), h)
marked_other (b ∷ rest) (suc p) (suc q) h =
    let later = marked_other rest p q h in
    (λ e. later.0 (omega arith), later.1)

-- a mark more
pub marked_set : (marks : List Bool) (p : ℕ) → marked (set marks p true) ≤ marked marks + 1
marked_set [] p = omega arith
marked_set (true ∷ rest) zero = omega arith
marked_set (false ∷ rest) zero = omega arith
marked_set (true ∷ rest) (suc p) = let more = marked_set rest p in omega arith
marked_set (false ∷ rest) (suc p) = let more = marked_set rest p in omega arith

-- a mark less
pub marked_clear : (marks : List Bool) (p : ℕ) → marked (set marks p false) ≤ marked marks
marked_clear [] p = omega arith
marked_clear (true ∷ rest) zero = omega arith
marked_clear (false ∷ rest) zero = omega arith
marked_clear (true ∷ rest) (suc p) = let more = marked_clear rest p in omega arith
marked_clear (false ∷ rest) (suc p) = let more = marked_clear rest p in omega arith

pub marked_push : (marks : List Bool) → marked (marks ++ false ∷ []) ≡ marked marks
marked_push [] = omega arith
marked_push (true ∷ rest) = let more = marked_push rest in omega arith
marked_push (false ∷ rest) = let more = marked_push rest in omega arith

-- those below the next page
marked_yes : (marks : List Bool) (page : ℕ) → page < length marks → get_or marks page true ≡ true → marked (take (suc page) marks) ≡ marked (take page marks) + 1
marked_yes [] page within read = absurd (omega arith)
marked_yes (true ∷ rest) zero within read = omega arith
marked_yes (false ∷ rest) zero within read = absurd (cc)
marked_yes (true ∷ rest) (suc page) within read = ap (λ n. n + 1) (marked_yes rest page (omega arith) read)
marked_yes (false ∷ rest) (suc page) within read = marked_yes rest page (omega arith) read

marked_no : (marks : List Bool) (page : ℕ) → page < length marks → get_or marks page true ≡ false → marked (take (suc page) marks) ≡ marked (take page marks)
marked_no [] page within read = absurd (omega arith)
marked_no (true ∷ rest) zero within read = absurd (cc)
marked_no (false ∷ rest) zero within read = omega arith
marked_no (true ∷ rest) (suc page) within read = ap (λ n. n + 1) (marked_no rest page (omega arith) read)
marked_no (false ∷ rest) (suc page) within read = marked_no rest page (omega arith) read

pub marked_more : (marks : List Bool) (page : ℕ) → page < length marks → get_or marks page true ≡ true → marked (take (page + 1) marks) ≡ marked (take page marks) + 1
marked_more marks page within read = ap (λ n. marked (take n marks)) (add-one page) ∙ marked_yes marks page within read

pub marked_same : (marks : List Bool) (page : ℕ) → page < length marks → get_or marks page true ≡ false → marked (take (page + 1) marks) ≡ marked (take page marks)
marked_same marks page within read = ap (λ n. marked (take n marks)) (add-one page) ∙ marked_no marks page within read

-- no mark at all
pub marked_none : (marks : List Bool) → AreUnmarked marks (length marks) → marked marks ≡ 0
marked_none [] none = omega arith
marked_none (true ∷ rest) none = absurd (let e : true ≡ false = none zero (omega arith) in cc)
marked_none (false ∷ rest) none = let more = marked_none rest (λ page below. none (suc page) (omega arith)) in omega arith

pub marked_blank : (n : ℕ) → marked (replicate n false) ≡ 0
marked_blank zero = omega arith
marked_blank (suc n) = marked_blank n

-- the page is renewed, so no page up to it is marked
pub unmarked_renew : (marks : List Bool) (page : ℕ) → page < length marks → AreUnmarked marks page → AreUnmarked (set marks page false) (page + 1)
unmarked_renew marks page within unmarked other below =
    elim (cases_eq other page) [
      | inl e ↦ ap (λ n. get_or (set marks page false) n true) e ∙ get_or-set_same marks page false true within
      | inr differs ↦ get_or-set_other marks page other false true differs ∙ unmarked other (omega (arith, differs))
    ]

-- the page was not marked
pub unmarked_next : (marks : List Bool) (page : ℕ) → AreUnmarked marks page → get_or marks page true ≡ false → AreUnmarked marks (page + 1)
unmarked_next marks page unmarked read other below =
    elim (cases_eq other page) [
      | inl same ↦ ap (λ n. get_or marks n true) same ∙ read
      | inr differs ↦ unmarked other (omega (arith, differs))
    ]

-- the keys of a page that is there are small numbers
pub page_fits : (size page count limit : ℕ) → page < count → count * size ≤ limit → page * size + size ≤ limit
page_fits size page count limit within fits =
    let step : page + 1 ≤ count = omega arith in
    let more = mul-le-mul_right size step in
    omega (arith, more)

-- a key in a page that is there is below the keys past all pages
pub below_pages : (size key count : ℕ) → key < count * size → key / size < count
below_pages size key count below =
    elim (cases_lt (key / size) count) [
      | inl less ↦ less
      | inr past ↦ let more = mul-le-mul_right size past in absurd (omega (arith, more, div-mul-le_self key size))
    ]

-- so many pages are few
pub room_for : (size count limit : ℕ) → count ≤ limit / size → count * size ≤ limit
room_for size count limit few =
    let more = mul-le-mul_right size few in
    omega (arith, more, div-mul-le_self limit size)

pub past_pages : (size key count : ℕ) → 0 < size → count ≤ key / size → count * size ≤ key
past_pages size key count positive past =
    let more = mul-le-mul_right size past in
    omega (arith, more, div-mul-le_self key size)

module _ {T : Type 0} where
  -- a write at one key, with a mark on its page, keeps the pages
  pub kept_write : (size : ℕ) (old new : List (Option T)) (pages : List (List (Option T))) (marks : List Bool) (key : ℕ)
      → IsKept size old pages marks → ((other : ℕ) → other ≢ key → node_at new other ≡ node_at old other) → key < length pages * size
      → IsKept size new pages (set marks (key / size) true)
  kept_write size old new pages marks key kept others within = record {
    positive = kept.positive;
    fits = kept.fits;
    same = length-set marks (key / size) true ∙ kept.same;
    unmarked = λ other h.
        let apart = marked_other marks (key / size) (other / size) h in
        kept.unmarked other apart.1 ∙ sym (others other (λ e. apart.0 (ap (λ n. n / size) e)));
    above = λ other h. others other (λ e. absurd (omega (arith, e))) ∙ kept.above other h;
  }

  -- a key in use is not past the pages
  pub in_use : (size : ℕ) (slots : List (Option T)) (pages : List (List (Option T))) (marks : List Bool) (key : ℕ)
      → IsKept size slots pages marks → IsSome (node_at slots key) → key < length pages * size
  in_use size slots pages marks key kept present =
      elim (cases_lt key (length pages * size)) [
        | inl within ↦ within
        | inr past ↦
            let missing : false ≡ true = subst (λ (o : Option T). IsSome o) (kept.above key past) present in
            absurd (cc)
      ]

  -- as many nodes, where one takes another's place
  abbrev weight : Option T → ℕ
  weight o = cond (is_some o) 1 0

  weight_some : (o : Option T) (node : T) → IsSome o → weight o ≡ weight (Some node)
  weight_some None node present = absurd (cc)
  weight_some (Some x) node present = refl

  pub len_set : (slots : List (Option T)) (key : ℕ) (node : T) → IsSome (node_at slots key) → count_by is_some (set slots key (Some node)) ≡ count_by is_some slots
  len_set slots key node present =
      elim (cases_lt key (length slots)) [
        | inl within ↦
            let change = sum_by-set weight slots key (Some node) None within in
            let one = weight_some (get_or slots key None) node present in
            omega (arith, change, one)
        | inr past ↦
            let missing : false ≡ true = subst (λ (o : Option T). IsSome o) (get_or_past slots key None past) present in
            absurd (cc)
      ]

  -- the same for a write over what a key had
  pub kept_set : (size : ℕ) (slots : List (Option T)) (pages : List (List (Option T))) (marks : List Bool) (key : ℕ) (slot : Option T)
      → IsKept size slots pages marks → IsSome (node_at slots key) → IsKept size (set slots key slot) pages (set marks (key / size) true)
  kept_set size slots pages marks key slot kept present =
      kept_write size slots (set slots key slot) pages marks key kept (λ other e. get_or-set_other slots key other slot None e) (in_use size slots pages marks key kept present)

  -- a new page has the slots of its keys
  pub page_at_key : (size page key : ℕ) (slots : List (Option T)) (cells : List (Option T)) → 0 < size → IsPageOf size slots page cells → key / size ≡ page → get_or cells (key % size) None ≡ node_at slots key
  page_at_key size page key slots cells positive page_of e =
      page_of (key % size) (mod-lt key positive) ∙ ap (node_at slots) (ap (λ p. p * size + key % size) (sym e) ∙ div-add-mod' key size)

  -- a page is made anew
  pub kept_renew : (size : ℕ) (slots : List (Option T)) (pages : List (List (Option T))) (marks : List Bool) (page : ℕ) (cells : List (Option T))
      → page < length pages → IsKept size slots pages marks → IsPageOf size slots page cells → IsKept size slots (set pages page cells) (set marks page false)
  kept_renew size slots pages marks page cells within kept page_of =
      let count = length-set pages page cells in
      record {
        positive = kept.positive;
        fits = rw count kept.fits;
        same = length-set marks page false ∙ kept.same ∙ sym count;
        unmarked = λ key h. elim (cases_eq (key / size) page) [
          | inl e ↦
              ap (λ xs. get_or xs (key % size) None) (ap (λ p. get_or (set pages page cells) p []) e ∙ get_or-set_same pages page cells [] within)
              ∙ page_at_key size page key slots cells kept.positive page_of e
          | inr differs ↦
              ap (λ xs. get_or xs (key % size) None) (get_or-set_other pages page (key / size) cells [] differs)
              ∙ kept.unmarked key (sym (get_or-set_other marks page (key / size) false true differs) ∙ h)
        ];
        above = λ key h. kept.above key (rw count at h);
      }

  -- a page without a node is added
  pub kept_more : (size : ℕ) (slots : List (Option T)) (pages : List (List (Option T))) (marks : List Bool)
      → (length pages + 1) * size ≤ 2 ^ 64 → IsKept size slots pages marks → IsKept size slots (pages ++ [] ∷ []) (marks ++ false ∷ [])
  kept_more size slots pages marks room kept =
      let count : length (pages ++ [] ∷ []) ≡ length pages + 1 = length-append pages ([] ∷ []) in
      record {
        positive = kept.positive;
        fits = rw count room;
        same = length-append marks (false ∷ []) ∙ ap (λ n. n + 1) kept.same ∙ sym count;
        unmarked = λ key h. elim (cases_lt (key / size) (length pages)) [
          | inl below ↦
              ap (λ xs. get_or xs (key % size) None) (get_or_append_left pages ([] ∷ []) [] (key / size) below)
              ∙ kept.unmarked key (sym (get_or_append_left marks (false ∷ []) true (key / size) (omega (arith, kept.same))) ∙ h)
          | inr past ↦ elim (cases_eq (key / size) (length pages)) [
            | inl e ↦
                ap (λ xs. get_or xs (key % size) None) (get_or_push pages [] [] (key / size) (sym e))
                ∙ sym (kept.above key (past_pages size key (length pages) kept.positive past))
            | inr differs ↦
                let missing : true ≡ false = sym (get_or_past (marks ++ false ∷ []) (key / size) true (omega (arith, differs, kept.same, length-append marks (false ∷ [])))) ∙ h in
                absurd (cc)
          ]
        ];
        above = λ key h. kept.above key (omega (arith, rw count at h));
      }

  -- a page that copies may share is made anew
  pub renewed : (size : ℕ) (slots : List (Option T)) (pages : List (Option (Arc (Vec (Option T) Global) Global))) (marks : List Bool) (page : ℕ) (handle : Option (Arc (Vec (Option T) Global) Global))
      → page < length marks → IsKept size slots (contents pages) marks → IsPageOf size slots page (cells_of handle) → IsKept size slots (contents (set pages page handle)) (set marks page false)
  renewed size slots pages marks page handle within kept page_of =
      rw map-set (kept_renew size slots (contents pages) marks page (cells_of handle) (omega (arith, kept.same)) kept page_of)

  -- one is added
  pub covered : (size : ℕ) (slots : List (Option T)) (pages pages' : List (Option (Arc (Vec (Option T) Global) Global))) (marks marks' : List Bool)
      → (length pages + 1) * size ≤ 2 ^ 64 → IsKept size slots (contents pages) marks → pages' ≡ pages ++ None ∷ [] → marks' ≡ marks ++ false ∷ []
      → IsKept size slots (contents pages') marks' × (marked marks' ≡ marked marks)
  covered size slots pages pages' marks marks' room kept pages_is marks_is =
      let count : length (contents pages) ≡ length pages = length-map pages (cells_of {T = T}) in (
        rw (pages_is, marks_is, map-append) (kept_more size slots (contents pages) marks (rw count room) kept),
        rw marks_is (marked_push marks),
      )

  -- a page without a mark has the slots of its keys
  pub page_kept : (size : ℕ) (slots : List (Option T)) (pages : List (List (Option T))) (marks : List Bool) (page : ℕ)
      → IsKept size slots pages marks → get_or marks page true ≡ false → IsPageOf size slots page (get_or pages page [])
  page_kept size slots pages marks page kept unmarked i below =
      let same = div-mul-add page size i below in
      let rest = mod-mul-add page size i below in
      let found = kept.unmarked (page * size + i) (ap (λ p. get_or marks p true) same ∙ unmarked) in
      rw (same, rest) at found

  -- the pages so far have the nodes at their keys
  abbrev pub SameBelow : ℕ → List (List (Option T)) → List (Option T) → ℕ → Type 0
  SameBelow size pages slots upto = (key : ℕ) → key / size < upto → paged_at size pages key ≡ node_at slots key

  pub same_more : (size : ℕ) (slots : List (Option T)) (pages : List (List (Option T))) (cells : List (Option T)) (page : ℕ)
      → 0 < size → length pages ≡ page → SameBelow size pages slots page → IsPageOf size slots page cells → SameBelow size (pages ++ cells ∷ []) slots (page + 1)
  same_more size slots pages cells page positive count same page_of key below =
      elim (cases_eq (key / size) page) [
        | inl e ↦
            ap (λ xs. get_or xs (key % size) None) (get_or_push pages cells [] (key / size) (count ∙ sym e))
            ∙ page_at_key size page key slots cells positive page_of e
        | inr differs ↦
            ap (λ xs. get_or xs (key % size) None) (get_or_append_left pages (cells ∷ []) [] (key / size) (omega (arith, differs)))
            ∙ same key (omega (arith, differs))
      ]

  -- one more page of a copy
  pub pushed : (size : ℕ) (slots : List (Option T)) (pages pages' : List (Option (Arc (Vec (Option T) Global) Global))) (page : ℕ) (handle : Option (Arc (Vec (Option T) Global) Global))
      → 0 < size → length pages ≡ page → SameBelow size (contents pages) slots page → IsPageOf size slots page (cells_of handle) → pages' ≡ pages ++ handle ∷ []
      → (length pages' ≡ page + 1) × SameBelow size (contents pages') slots (page + 1)
  pushed size slots pages pages' page handle positive count same page_of is =
      let len : length (contents pages) ≡ page = length-map pages (cells_of {T = T}) ∙ count in (
        ap length is ∙ length-append pages (handle ∷ []) ∙ ap (λ n. n + 1) count,
        rw (is, map-append) (same_more size slots (contents pages) (cells_of handle) page positive len same page_of),
      )

  pub same_all : (size : ℕ) (slots : List (Option T)) (pages made : List (List (Option T))) (marks : List Bool)
      → IsKept size slots pages marks → length made ≡ length pages → SameBelow size made slots (length pages) → SameNodes size made slots
  same_all size slots pages made marks kept count same key =
      elim (cases_lt (key / size) (length pages)) [
        | inl below ↦ same key below
        | inr past ↦
            ap (λ xs. get_or xs (key % size) None) (get_or_past made (key / size) [] (omega arith)) ∙ sym (kept.above key (past_pages size key (length pages) kept.positive past))
      ]

module _ {T : Type 0} where
  -- one more key is filled
  pub filled_more : (size : ℕ) (pages : List (List (Option T))) (filler node : T) (old new : List (Option T)) (key : ℕ)
      → IsFilled size pages old 0 key → node_at new key ≡ Some node → ((other : ℕ) → other ≢ key → node_at new other ≡ node_at old other) → node ≡ unwrap_or (paged_at size pages key) filler
      → IsFilled size pages new 0 (key + 1)
  filled_more size pages filler node old new key fill changed others made = record {
    below = λ k h. absurd (omega arith);
    within = λ k least most x found. elim (cases_eq k key) [
      | inl e ↦ ap (node_at new) e ∙ changed ∙ ap (λ n. Some n) (made ∙ ap (λ o. unwrap_or o filler) (ap (paged_at size pages) (sym e) ∙ found))
      | inr differs ↦ others k differs ∙ fill.within k least (omega (arith, differs)) x found
    ];
    past = λ k h. others k (λ e. absurd (omega (arith, e))) ∙ fill.past k (omega arith);
  }

  -- pages of this size have nothing past their end
  pub bare_past : (size : ℕ) (pages : List (List (Option T))) (key : ℕ) → 0 < size → length pages * size ≤ key → paged_at size pages key ≡ None
  bare_past size pages key positive past = ap (λ xs. get_or xs (key % size) None) (get_or_past pages (key / size) [] (le-div _ _ _ positive past))

module _ {T : Type 0} where
  -- a store made of pages has their nodes
  pub thawed_same : (size : ℕ) (slots : List (Option T)) (pages : List (List (Option T))) (count : ℕ)
      → 0 < size → count ≡ length pages * size → ((key : ℕ) → key < count → paged_at size pages key ≡ node_at slots key) → ((key : ℕ) → count ≤ key → node_at slots key ≡ None) → SameNodes size pages slots
  thawed_same size slots pages count positive whole same past key =
      elim (cases_lt key count) [
        | inl below ↦ same key below
        | inr above ↦ bare_past size pages key positive (omega arith) ∙ sym (past key above)
      ]

  pub thawed_kept : (size : ℕ) (slots : List (Option T)) (pages : List (List (Option T))) (marks : List Bool) (count : ℕ)
      → 0 < size → count ≤ 2 ^ 64 → count ≡ length pages * size → SameNodes size pages slots → ((key : ℕ) → count ≤ key → node_at slots key ≡ None) → length marks ≡ length pages → IsKept size slots pages marks
  thawed_kept size slots pages marks count positive fits whole same past long = record {
    positive = positive;
    fits = omega arith;
    same = long;
    unmarked = λ key h. same key;
    above = λ key h. past key (omega arith);
  }
