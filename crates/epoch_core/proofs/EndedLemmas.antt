-- The readers that have ended, each once.
use Rattle.std.proofs.Common.{◌≡◌, ℕ, zero, suc, ◌+◌, ◌<◌, ◌≤◌, Bool, true, false, true≢false, cond, eqb, ◌||◌, List, [], ◌∷◌, ◌++◌, map, length, set, get_or, Option, length-append, append-nil, refl, sym, ap, ◌∙◌, subst, ⊎_elim, arith}
use Rattle.std.specs.Prelude.{◌==◌, All, count_by}
use Rattle.std.specs.List.{AllByRecursion, IsDistinct, list_any}
use Rattle.std.proofs.lemmas.Bool.{cases_Bool}
use Rattle.std.proofs.lemmas.Bool.Decides.{nat_tests}
use Rattle.std.proofs.lemmas.List.Sums.{sum_by-cons}
use Rattle.std.proofs.lemmas.Map.Steps.{length-le_from_distinct_below}
use mathlib.Core.Option.{some, some-injective}
use lib.ListN.{get_elem?, length-map}
use lib.Seq.{set-get_or}
use Rattle.atomic_table.specs.Table.{State, keeps, stepped, Allows}
use Rattle.epoch_core.specs.declared.view.ControlOwn.{ControlOwn}
use Rattle.epoch_core.specs.declared.view.Own.{Own}
use Rattle.epoch_core.specs.declared.view.Phase.{Phase}
use Rattle.epoch_core.specs.declared.view.Phase.TheVariants.{Idle}
use Rattle.epoch_core.specs.declared.view.Role.TheVariants.{Reader, Control}
use Rattle.epoch_core.specs.declared.view.View.{View}
use Rattle.epoch_core.specs.World.{World, Word}
use Rattle.epoch_core.specs.Rule.{Ended, Owners, EndedFit, is_among, AreOnce, TallyFits}

neither : (a b : Bool) → a || b ≡ false → (a ≡ false) × (b ≡ false)
neither true b e = absurd (true≢false e)
neither false b e = (refl, e)

abbrev numbers : List Ended → List ℕ
numbers ps = map (λ (p : Ended). p.0) ps

apart : (r : ℕ) (ps : List Ended) → is_among r ps ≡ false → AllByRecursion (λ y. eqb r y ≡ false) (numbers ps)
apart r [] e = tt
apart r (p ∷ ps) e = let n = neither (p.0 == r) (is_among r ps) e in let far = n.0 in (grind (arith, nat_tests), apart r ps n.1)

distinct : (n : ℕ) (ps : List Ended) → AreOnce n ps → IsDistinct eqb (numbers ps)
unfolding IsDistinct
distinct n [] a = tt
distinct n (p ∷ ps) a = (apart p.0 ps a.1, distinct n ps a.2)

below : (n : ℕ) (ps : List Ended) → AreOnce n ps → (q : ℕ) → list_any (eqb q) (numbers ps) ≡ true → q < n
below n [] a q has = absurd (true≢false (sym has))
below n (p ∷ ps) a q has = ⊎_elim
    (λ t. let e : q ≡ p.0 = grind (arith, nat_tests) in let l = a.0 in omega arith)
    (λ f. below n ps a.2 q (rw f at has))
    (cases_Bool (eqb q p.0))

-- readers below n, each there once, are no more than n
pub few_at_once : (n : ℕ) (ps : List Ended) → AreOnce n ps → length ps ≤ n
few_at_once n ps a =
    let few = length-le_from_distinct_below (numbers ps) n (distinct n ps a) (below n ps a) in
    let same : length (numbers ps) ≡ length ps = length-map ps (λ (p : Ended). p.0) in omega arith

-- where they are n, each reader below n is among them
pub all_at_once : (n : ℕ) (ps : List Ended) → AreOnce n ps → n ≤ length ps → (r : ℕ) → r < n → is_among r ps ≡ true
all_at_once n ps a long r l = ⊎_elim
    (λ t. t)
    (λ f. let o : Ended = (r, record { last = 0; seen = 0; phase = Idle; looks = 0; announces = 0; enters = 0; hits = [] }, []) in
    let more = few_at_once n (o ∷ ps) (l, f, a) in absurd (omega arith))
    (cases_Bool (is_among r ps))

-- a reader that is among those that have ended has ended, and stands outside
pub ended_at : (x : World) (owners : Owners) (r : ℕ) (ps : List Ended) → EndedFit x owners ps → is_among r ps ≡ true → (owners.ended r ≡ true) × ((x.reader_at r).own.phase ≡ Idle)
ended_at x owners r [] k has = absurd (true≢false (sym has))
ended_at x owners r (p ∷ ps) k has = ⊎_elim
    (λ t. let e : p.0 ≡ r = grind (arith, nat_tests) in
    (subst (λ (q : ℕ). owners.ended q ≡ true) e k.0, subst (λ (q : ℕ). (x.reader_at q).own.phase ≡ Idle) e (ap (λ (o : Own). o.phase) k.1 ∙ k.2)))
    (λ f. ended_at x owners r ps k.3 (rw f at has))
    (cases_Bool (p.0 == r))

-- a reader that goes on: nothing is tallied
pub none_tallied : (x : World) (owners : Owners) (r readers : ℕ) (ps : List Ended) (word_at word_at' : ℕ → Word) (cs : List (ℕ × ℕ)) → EndedFit x owners ps → AreOnce x.readers ps → readers ≡ x.readers → r < x.readers → owners.ended r ≡ false
    → TallyFits word_at readers (length ps) cs → TallyFits word_at' readers (length ps) cs
none_tallied x owners r readers ps word_at word_at' [] k a e l goes_on t = tt
none_tallied x owners r readers ps word_at word_at' (c ∷ cs) k a e l goes_on t =
    let many = t.0 in
    absurd (true≢false (sym (ended_at x owners r ps k (all_at_once x.readers ps a (omega arith) r l)).0 ∙ goes_on))

-- one more has ended
pub tally_more : (word_at : ℕ → Word) (readers n m : ℕ) (cs : List (ℕ × ℕ)) → n ≤ m → TallyFits word_at readers n cs → TallyFits word_at readers m cs
tally_more word_at readers n m [] l t = tt
tally_more word_at readers n m (c ∷ cs) l t = (let a = t.0 in omega arith, t.1, tally_more word_at readers n m cs l t.2)
