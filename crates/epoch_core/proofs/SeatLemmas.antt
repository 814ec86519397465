-- What a seat is after a step, from what the step tells.
use Rattle.std.proofs.Common.{true, ◌≡◌, ℕ, ◌+◌, ◌/◌, ◌%◌, ◌<◌, ◌≤◌, List, [], ◌∷◌, Option, Some, sym, ap, ◌∙◌, subst, arith}
use Rattle.atomic_table.specs.Table.{rest}
use Rattle.atomic_table.specs.Seated.{TableId}
use Rattle.atomic_table.specs.declared.shared.Seat.{Seat}
use Rattle.epoch_core.specs.declared.view.Made.{Made}
use Rattle.epoch_core.specs.declared.view.Own.{Own}
use Rattle.epoch_core.specs.declared.view.Role.{Role}
use Rattle.epoch_core.specs.declared.view.Role.TheVariants.{Reader}
use Rattle.epoch_core.specs.declared.view.View.{View}
use Rattle.epoch_core.specs.declared.event.Event.TheVariants as event
use Rattle.epoch_core.specs.History.{OneMore}
use Rattle.epoch_core.specs.Step.{looked_own, announced_own, entered_own, left_own, hit_own, has_index, has_pair, version_in_hand}
use Rattle.prefix_width.specs.Limits.{last_index}
use Rattle.epoch_core.specs.Rule.{IsSized, slot_of, own, own_of, as_reader, index_word}
use Rattle.epoch_core.specs.Plays.{Mine, view, looks, announces, enters, leaves, hits}
use Rattle.epoch_core.specs.SeatViews.{IsReadersSeat}

pub word_room : (K live : ℕ) (z y : TableId) → IsSized K live z → z ≡ y → (n : ℕ) → n < 1040 + (last_index K live + 1) → n < y.words
word_room K live z y sized e n l = subst (λ (k : ℕ). n < k) (sym (ap (λ (u : TableId). u.words) (sym e) ∙ sized.1)) l

pub room : (K live : ℕ) (z y : TableId) → IsSized K live z → z ≡ y → (n : ℕ) → n < 1040 → n < y.words
room K live z y sized e n l = let G : ℕ = last_index K live in word_room K live z y sized e n (omega arith)

module _ {Q C : Type 0} where
  -- the seat t is what s became: reader r with the facts p, and the slots ds in hand
  pub record After (K live : ℕ) (s t : Seat (Option C) (View Q)) (z : TableId) (q : Q) (r : ℕ) (ds : List (ℕ × Option C)) (p : Own) : Type 0 where
    pub reader : IsReadersSeat K live t z q r ds
    pub facts : own t ≡ p
    pub key : t.me.0.key ≡ s.me.0.key
    pub table : t.table_id ≡ s.table_id

  pub is_posed : (s : Seat (Option C) (View Q)) (r : ℕ) (o : Own) (cs : List (ℕ × Option C)) → s.me.0.role ≡ Reader r o → s.me.1 ≡ cs → s ≡ as_reader s r (own s) cs
  is_posed s r o cs a b = let role : s.me.0.role ≡ Reader r (own s) = a ∙ ap (λ (u : Own). Reader r u) (sym (ap (λ (z : Role). own_of z) a)) in
      λ i. let u : Seat (Option C) (View Q) = record s { me = (record { key = s.me.0.key; role = role i; steps = s.me.0.steps }, b i) } in u

  pub role_of : (K live : ℕ) (s : Seat (Option C) (View Q)) (z : TableId) (q : Q) (r : ℕ) (cs : List (ℕ × Option C)) → IsReadersSeat K live s z q r cs → s.me.0.role ≡ Reader r (own s)
  role_of K live s z q r cs was = ap (λ (u : Seat (Option C) (View Q)). u.me.0.role) was.role

  pub carries : (K live : ℕ) (s : Seat (Option C) (View Q)) (z : TableId) (q : Q) (r : ℕ) (cs : List (ℕ × Option C)) → IsReadersSeat K live s z q r cs → s.me.1 ≡ cs
  carries K live s z q r cs was = ap (λ (u : Seat (Option C) (View Q)). u.me.1) was.role

  pub after : (K live : ℕ) (s t : Seat (Option C) (View Q)) (z : TableId) (q : Q) (r : ℕ) (cs ds : List (ℕ × Option C)) (p : Own) → IsReadersSeat K live s z q r cs → t.table_id ≡ s.table_id → t.me.0 ≡ view s.me.0.key (Reader r p) t.me.0.steps → t.me.1 ≡ ds
      → After K live s t z q r ds p
  after K live s t z q r cs ds p was same now slots = let facts : own t ≡ p = ap (λ (v : View Q). own_of v.role) now in let key : t.me.0.key ≡ s.me.0.key = ap (λ (v : View Q). v.key) now in
      let role : t.me.0.role ≡ Reader r (own t) = ap (λ (v : View Q). v.role) now ∙ ap (λ (o : Own). Reader r o) (sym facts) in record {
        reader = record {
          table = same ∙ was.table;
          sized = was.sized;
          number = was.number;
          keyed = key ∙ was.keyed;
          role = λ i. let u : Seat (Option C) (View Q) = record t { me = (record { key = t.me.0.key; role = role i; steps = t.me.0.steps }, slots i) } in u;
        };
        facts = facts;
        key = key;
        table = same;
      }

  module _ (K live : ℕ) (s t : Seat (Option C) (View Q)) (z : TableId) (q : Q) (r : ℕ) (cs : List (ℕ × Option C)) (was : IsReadersSeat K live s z q r cs) (same : t.table_id ≡ s.table_id) where
    pub after_looks : (found : ℕ) → looks s.me found t.me → After K live s t z q r cs (looked_own found (own s)) × (own s).seen ≤ found × found < 4294967296 × OneMore s.me.0.steps (event.Look r) found t.me.0.steps
    after_looks found did = let went = did.2 r (own s) (role_of K live s z q r cs was) in
        (after K live s t z q r cs cs (looked_own found (own s)) was same (went.1 ∙ ap (λ (p : Own). view s.me.0.key (Reader r p) t.me.0.steps) went.2.0) (did.1 ∙ carries K live s z q r cs was), went.2.1, did.0, went.3)

    pub after_announces : announces s.me t.me → After K live s t z q r cs (announced_own (own s)) × OneMore s.me.0.steps (event.Announce r) ((own s).last + 1) t.me.0.steps
    after_announces did = let went = did.1 r (own s) (role_of K live s z q r cs was) in
        (after K live s t z q r cs cs (announced_own (own s)) was same (went.1 ∙ ap (λ (p : Own). view s.me.0.key (Reader r p) t.me.0.steps) went.2) (did.0 ∙ carries K live s z q r cs was), went.3)

    pub after_enters : (lawful : Q → ℕ → C → Type 0) (names : Q → ℕ → List (ℕ × ℕ)) (G found : ℕ) → enters lawful names K G s.me found t.me
        → (c : C) × After K live s t z q r ((slot_of (found % K) r, Some c) ∷ cs) (entered_own found (own s)) × lawful s.me.0.key found c × (own s).seen ≤ found × OneMore s.me.0.steps (event.Enter r) found t.me.0.steps
        × ((i p : ℕ) → has_pair i p (names s.me.0.key found) ≡ true → (0 < i) × (i ≤ G))
    after_enters lawful names G found did = let went = did.1 r (own s) (role_of K live s z q r cs was) in let got = went.2.2 in
        (got.0, after K live s t z q r cs _ (entered_own found (own s)) was same (went.1 ∙ ap (λ (p : Own). view s.me.0.key (Reader r p) t.me.0.steps) went.2.0) (got.1 ∙ ap (λ l. (slot_of (found % K) r, Some got.0) ∷ l) (carries K live s z q r cs was)), got.2, went.2.1, went.3, did.2)

    pub after_hits : (names : Q → ℕ → List (ℕ × ℕ)) (word found i : ℕ) → word ≡ index_word i → hits names word s.me found t.me
        → After K live s t z q r cs (hit_own (found / 4294967296) (own s)) × ((p : ℕ) → has_pair i p (names s.me.0.key (version_in_hand (own s).phase)) ≡ true → found / 4294967296 ≡ p) × OneMore s.me.0.steps (event.Hit r i) found t.me.0.steps
    after_hits names word found i e did = let went = did.1 i e r (own s) (role_of K live s z q r cs was) in
        (after K live s t z q r cs cs (hit_own (found / 4294967296) (own s)) was same (went.1 ∙ ap (λ (p : Own). view s.me.0.key (Reader r p) t.me.0.steps) went.2.0) (did.0 ∙ carries K live s z q r cs was), went.2.1, went.3)

    pub after_leaves : leaves s.me t.me → After K live s t z q r (rest cs) (left_own (own s)) × OneMore s.me.0.steps (event.Leave r) 0 t.me.0.steps
    after_leaves did = let went = did.1 r (own s) (role_of K live s z q r cs was) in
        (after K live s t z q r cs (rest cs) (left_own (own s)) was same (went.1 ∙ ap (λ (p : Own). view s.me.0.key (Reader r p) t.me.0.steps) went.2) (did.0 ∙ ap rest (carries K live s z q r cs was)), went.3)

    -- a slot in hand was exchanged
    pub after_exchange : (i : ℕ) (new : Option C) → t.me ≡ (s.me.0, (i, new) ∷ rest s.me.1) → After K live s t z q r ((i, new) ∷ rest cs) (own s) × (t.me.0.steps ≡ s.me.0.steps)
    after_exchange i new did =
        let now : t.me.0 ≡ s.me.0 = ap (λ (m : Mine Q C). m.0) did in
        let steps : t.me.0.steps ≡ s.me.0.steps = ap (λ (v : View Q). v.steps) now in
        let still : t.me.0 ≡ view s.me.0.key s.me.0.role t.me.0.steps = now ∙ ap (λ (l : List Made). view s.me.0.key s.me.0.role l) (sym steps) in (
          after K live s t z q r cs ((i, new) ∷ rest cs) (own s) was same (still ∙ ap (λ (o : Role). view s.me.0.key o t.me.0.steps) (role_of K live s z q r cs was))
              (ap (λ (m : Mine Q C). m.1) did ∙ ap (λ l. (i, new) ∷ rest l) (carries K live s z q r cs was)),
          steps,
        )

  pub renumber : (K live : ℕ) (s : Seat (Option C) (View Q)) (z : TableId) (q : Q) (r i j : ℕ) (x : Option C) → IsReadersSeat K live s z q r ((i, x) ∷ []) → i ≡ j → IsReadersSeat K live s z q r ((j, x) ∷ [])
  renumber K live s z q r i j x was e = let P : ℕ → Type 0 = λ n. IsReadersSeat K live s z q r ((n, x) ∷ []) in subst P e was

module _ {C : Type 0} where
  -- what `exchange` asks
  pub in_hand_at : (l cs : List (ℕ × Option C)) (i j : ℕ) (x : Option C) → l ≡ (i, x) ∷ cs → j ≡ i → (y : Option C) × (l ≡ (j, y) ∷ rest l)
  in_hand_at l cs i j x e d = (x, e ∙ (λ k. (sym d k, x) ∷ rest (sym e k)))

  pub same_value : (l cs : List (ℕ × Option C)) (i j : ℕ) (x y : Option C) (ds : List (ℕ × Option C)) → l ≡ (i, x) ∷ cs → l ≡ (j, y) ∷ ds → y ≡ x
  same_value l cs i j x y ds e d = let same : (j, y) ∷ ds ≡ (i, x) ∷ cs = sym d ∙ e in ap (λ l. value_or x l) same
    where
      value_or : Option C → List (ℕ × Option C) → Option C
      value_or x [] = x
      value_or x (z ∷ zs) = z.1
