-- The chunks that edits touch, in one ascending list.
use Rattle.std.proofs.Common.{◌≡◌, ◌⊎◌, ℕ, suc, ◌+◌, ◌-◌, ◌*◌, ◌/◌, ◌^◌, ◌<◌, ◌≤◌, List, [], ◌∷◌, ◌++◌, length, take, get_or, refl, sym, ap, ◌∙◌, arith, inl, inr, subst}
use Rattle.std.specs.List.{AllByRecursion}
use Rattle.std.specs.BTreeSet.{insert_key}
use Rattle.std.specs.Ordering.{nat_cmp, match_ordering}
use Rattle.std.specs.declared.cmp.Ordering.{Ordering}
use Rattle.std.specs.declared.cmp.Ordering.TheVariants.{Less, Equal, Greater}
use Rattle.std.proofs.lemmas.Bool.{cases_lt}
use Rattle.std.proofs.lemmas.List.{take_more}
use Rattle.prefix_width.specs.Prefix.{Block, IsBlock, last_of}
use Rattle.module_trait.specs.Edit.{IndexChange}
use Rattle.module_trait.specs.Starts.{IsIn, IsUp}
use Rattle.module_trait.proofs.UpLemmas.{up-insert, in-insert, from-insert, all-append, in-all}
use Rattle.module_trait.proofs.BeforeLemmas.{all-from-in}
use Rattle.dxr_chunks.specs.Touch.{AddsTouched, AreTouched, IsBatchVerdict, IsTouched, TouchMoreThan, Touches}

-- ---- lists

-- what ascends and lies in what ascends is no longer
pub fewer_up : (xs ys : List ℕ) → IsUp xs → IsUp ys → ((t : ℕ) → IsIn t xs → IsIn t ys) → length xs ≤ length ys
fewer_up [] ys up up' all = omega arith
fewer_up (x ∷ xs) [] up up' all = absurd (all x (inl refl))
fewer_up (x ∷ xs) (y ∷ ys) up up' all = elim (all x (inl refl)) [
  | inl e ↦
      let rest = fewer_up xs ys up.1 up'.1 (λ t is. elim (all t (inr is)) [
        | inl same ↦ (let above = in-all (λ z. x < z) xs t up.0 is in absurd (omega (arith, above, e, same)))
        | inr later ↦ later
      ]) in
      omega (arith, rest)
  | inr later ↦
      let past = in-all (λ z. y < z) ys x up'.0 later in
      let rest = fewer_up (x ∷ xs) ys up up'.1 (λ t is. elim (all t is) [
        | inl same ↦ elim is [
          | inl e ↦ absurd (omega (arith, past, e, same))
          | inr i ↦ (let above = in-all (λ z. x < z) xs t up.0 i in absurd (omega (arith, past, above, same)))
        ]
        | inr there ↦ there
      ]) in
      omega (arith, rest)
]

-- a number put in makes no list shorter
longer_insert : (xs : List ℕ) (t : ℕ) → length xs ≤ length (insert_key nat_cmp xs t)
longer_insert [] t = omega arith
longer_insert (x ∷ xs) t = by (nat_cmp t x) (longer_insert xs t)
  where
    by : (o : Ordering) → length xs ≤ length (insert_key nat_cmp xs t) → length (x ∷ xs) ≤ length (match_ordering o (t ∷ x ∷ xs) (x ∷ xs) (x ∷ insert_key nat_cmp xs t))
    by Less rest = omega arith
    by Equal rest = omega arith
    by Greater rest = omega (arith, rest)

pub below_insert : (n : ℕ) (xs new : List ℕ) (t : ℕ) → new ≡ insert_key nat_cmp xs t → t < n → AllByRecursion (λ k. k < n) xs → AllByRecursion (λ k. k < n) new
below_insert n xs new t is fits all = all-from-in (λ k. k < n) new (λ k there. elim (from-insert xs t k (subst (IsIn k) is there)) [
  | inl e ↦ omega (arith, e, fits)
  | inr i ↦ in-all (λ z. z < n) xs k all i
])

-- ---- edits one by one

pub touched_push : (edits : List IndexChange) (e : IndexChange) (k : ℕ) → IsTouched (edits ++ e ∷ []) k → IsTouched edits k ⊎ Touches e.prefix k
touched_push [] e k is = elim is [ inl t ↦ inr t | inr none ↦ absurd none ]
touched_push (d ∷ edits) e k is = elim is [
  | inl t ↦ inl (inl t)
  | inr later ↦ elim (touched_push edits e k later) [ inl i ↦ inl (inr i) | inr t ↦ inr t ]
]

pub push_touched : (edits : List IndexChange) (e : IndexChange) (k : ℕ) → IsTouched edits k ⊎ Touches e.prefix k → IsTouched (edits ++ e ∷ []) k
push_touched [] e k is = elim is [ inl none ↦ absurd none | inr t ↦ inl t ]
push_touched (d ∷ edits) e k is = elim is [
  | inl i ↦ elim i [ inl t ↦ inl t | inr later ↦ inr (push_touched edits e k (inl later)) ]
  | inr t ↦ inr (push_touched edits e k (inr t))
]

pub touched_none : (n : ℕ) → AreTouched n [] []
touched_none n = record { up = tt; sound = tt; complete = λ few k is. is }

pub touched_more : (n : ℕ) (edits : List IndexChange) (i : ℕ) (e : IndexChange) (old new : List ℕ) → i < length edits → e ≡ get_or edits i e → AreTouched n (take i edits) old → AddsTouched n e.prefix old new → AreTouched n (take (i + 1) edits) new
touched_more n edits i e old new within is before adds =
    let more : take (i + 1) edits ≡ take i edits ++ e ∷ [] = take_more edits i e within ∙ ap (λ (x : IndexChange). take i edits ++ x ∷ []) (sym is) in
    subst (λ (es : List IndexChange). AreTouched n es new) (sym more) (record {
      up = adds.up before.up;
      sound = all-from-in (IsTouched (take i edits ++ e ∷ [])) new (λ k there. push_touched (take i edits) e k (elim (adds.sound k there) [
        | inl old_one ↦ inl (in-all (IsTouched (take i edits)) old k before.sound old_one)
        | inr t ↦ inr t
      ]));
      complete = λ few k touched. (let longer = adds.more in elim (touched_push (take i edits) e k touched) [
        | inl earlier ↦ adds.kept k (before.complete (omega (arith, few, longer)) k earlier)
        | inr t ↦ adds.complete few k t
      ]);
    })

pub prefixes_more : (edits : List IndexChange) (i : ℕ) (e : IndexChange) → i < length edits → e ≡ get_or edits i e → AllByRecursion (λ d. IsBlock 32 d.prefix) (take i edits) → IsBlock 32 e.prefix → AllByRecursion (λ d. IsBlock 32 d.prefix) (take (i + 1) edits)
prefixes_more edits i e within is before block =
    let more : take (i + 1) edits ≡ take i edits ++ e ∷ [] = take_more edits i e within ∙ ap (λ (x : IndexChange). take i edits ++ x ∷ []) (sym is) in
    subst (AllByRecursion (λ d. IsBlock 32 d.prefix)) (sym more) (all-append (λ d. IsBlock 32 d.prefix) (take i edits) (e ∷ []) before (block, tt))

-- ---- the chunks of one prefix

-- those from the first up to a place are added, or there are more than n
pub record IsAdding (n : ℕ) (first : ℕ) (old new : List ℕ) (chunk : ℕ) : Type 0 where
  pub up : IsUp old → IsUp new
  pub kept : (k : ℕ) → IsIn k old → IsIn k new
  pub sound : (k : ℕ) → IsIn k new → IsIn k old ⊎ ((first ≤ k) × (k < chunk))
  pub reached : (k : ℕ) → first ≤ k → k < chunk → IsIn k new
  pub more : length old ≤ length new

pub adding_begins : (n first : ℕ) (old : List ℕ) → IsAdding n first old old first
adding_begins n first old = record {
  up = λ up. up;
  kept = λ k is. is;
  sound = λ k is. inl is;
  reached = λ k low high. absurd (omega (arith, low, high));
  more = omega arith;
}

pub adding_more : (n first : ℕ) (old mid new : List ℕ) (chunk : ℕ) → first ≤ chunk → new ≡ insert_key nat_cmp mid chunk → IsAdding n first old mid chunk → IsAdding n first old new (chunk + 1)
adding_more n first old mid new chunk past is adding =
    let longer = subst (λ (xs : List ℕ). length mid ≤ length xs) (sym is) (longer_insert mid chunk) in
    record {
      up = λ up. subst IsUp (sym is) (up-insert mid chunk (adding.up up));
      kept = λ k there. subst (IsIn k) (sym is) (in-insert mid chunk k (inr (adding.kept k there)));
      sound = λ k there. elim (from-insert mid chunk k (subst (IsIn k) is there)) [
        | inl e ↦ inr (omega (arith, e, past), omega (arith, e))
        | inr i ↦ elim (adding.sound k i) [
          | inl o ↦ inl o
          | inr range ↦ (let high = range.1 in inr (range.0, omega (arith, high)))
        ]
      ];
      reached = λ k low high. subst (IsIn k) (sym is) (in-insert mid chunk k (elim (cases_lt k chunk) [
        | inl less ↦ inr (adding.reached k low less)
        | inr ge ↦ inl (omega (arith, ge, high))
      ]));
      more = (let m = adding.more in omega (arith, m, longer));
    }

-- all of a prefix's are added
pub adding_ends : (n first last : ℕ) (p : Block) (old new : List ℕ) (chunk : ℕ) → first ≡ p.base / 2 ^ 16 → last ≡ last_of 32 p / 2 ^ 16 → chunk ≤ last + 1 → (n < length new) ⊎ (last + 1 ≤ chunk) → IsAdding n first old new chunk → AddsTouched n p old new
adding_ends n first last p old new chunk from to within stop adding =
    record {
      up = adding.up;
      kept = adding.kept;
      sound = λ k there. elim (adding.sound k there) [
        | inl o ↦ inl o
        | inr range ↦ (let low = range.0 in let high = range.1 in inr (omega (arith, low, from), omega (arith, high, to, within)))
      ];
      complete = λ few k touches. (let low = touches.0 in let high = touches.1 in elim stop [
        | inl many ↦ absurd (omega (arith, few, many))
        | inr whole ↦ adding.reached k (omega (arith, low, from)) (omega (arith, high, to, whole))
      ]);
      more = adding.more;
    }

-- ---- what a batch answers

pub many_touched : (n : ℕ) (edits : List IndexChange) (chunks : List ℕ) → AreTouched n edits chunks → n < length chunks → TouchMoreThan n edits
many_touched n edits chunks touched many = (chunks, touched.up, touched.sound, many)

pub few_touched : (n : ℕ) (edits : List IndexChange) (chunks : List ℕ) → AreTouched n edits chunks → length chunks ≤ n → TouchMoreThan n edits → ⊥
few_touched n edits chunks touched few more =
    let shorter = fewer_up more.0 chunks more.1 touched.up (λ t is. touched.complete few t (in-all (IsTouched edits) more.0 t more.2 is)) in
    let many = more.3 in
    omega (arith, shorter, few, many)
