-- The sheet of a fib that is closed, and what it is filled with.
use Rattle.std.proofs.Common.{◌≡◌, ℕ, zero, suc, ◌+◌, ◌<◌, ◌≤◌, List, [], ◌∷◌, ◌++◌, length, map, take, refl, sym, ◌∙◌, ap, subst, arith}
use Rattle.std.specs.Prelude.{All, replicate}
use Rattle.rib_store.specs.Plan.{Planned, firsts, named}
use Rattle.epoch_core.specs.Closing.{readers_of}
use Rattle.epoch_core.specs.Counts.{hits_of, rising_counts}
use Rattle.epoch_core.specs.SeatViews.{ControlView, ReaderView}
use Rattle.fib_pass.specs.declared.closing.Sheet.{Sheet}
use Rattle.fib_pass.specs.declared.totals.PassEnd.{PassEnd}
use Rattle.fib_pass.specs.Closing.{IsSheet}
use Rattle.fib_pass.specs.Totals.{counted_hops, end_of, last_count, packets_hit, packets_of}
use Rattle.fib_pass.specs.Views.{IsPublisher, PassView}
use Rattle.fib_pass.proofs.ApartLemmas.{length-ends, length-seats}
use Rattle.fib_pass.proofs.TotalLemmas.{counted_all, last_rising, order_within, rising_within}

pub put_back : {X : Type 0} (xs ys : List X) (n : ℕ) → length xs ≡ n → take n (xs ++ ys) ≡ xs
put_back {X} xs ys n e = subst (λ m. take m (xs ++ ys) ≡ xs) e (go xs)
  where
    go : (zs : List X) → take (length zs) (zs ++ ys) ≡ zs
    go [] = refl
    go (z ∷ zs) = ap (λ (x : List X). z ∷ x) (go zs)

length-zeros : (n : ℕ) → length (replicate {A = ℕ} n 0) ≡ n
length-zeros zero = refl
length-zeros (suc n) = ap suc (length-zeros n)

-- the publisher's numbers are those of its plan
pub numbers_are : {w : ℕ} (K : ℕ) (plan : Planned w) (seat self : ControlView (Planned w)) → seat ≡ self → IsPublisher K plan seat → seat.own.numbers ≡ length (firsts (named self.key))
numbers_are {w} K plan seat self e is = is.numbers ∙ ap (λ (x : Planned w). length (firsts (named x))) (sym is.keyed ∙ (λ i. (e i).key))

module _ {w : ℕ} (plan : Planned w) (passes : List (PassView w)) (sheet : Sheet w) (is : IsSheet plan passes sheet) where
  length-places : length sheet.places.items ≡ length (firsts (named plan)) + 1
  length-places = ap length is.places ∙ length-zeros (length (firsts (named plan)) + 1)

  pub counts_within : (numbers : ℕ) (g : ℕ → ℕ) (counts : List (ℕ × ℕ)) → numbers ≡ length (firsts (named plan)) → counts ≡ rising_counts g (numbers + 1) → All (λ c. c.0 < length sheet.places.items) counts
  counts_within numbers g counts n e =
      let long : numbers + 1 ≡ length sheet.places.items = ap (λ k. k + 1) n ∙ sym length-places in
      subst (λ (x : List (ℕ × ℕ)). All (λ c. c.0 < length sheet.places.items) x) (sym e)
      (subst (λ m. All (λ c. c.0 < m) (rising_counts g (numbers + 1))) long (rising_within g (numbers + 1)))

  pub order_fits : All (λ e. e.1 < length sheet.places.items) sheet.order.items
  order_fits = order_within plan (length sheet.places.items) sheet.order.items length-places is.numbering is.ordered

  pub few_ends : (readers here : ℕ) (seats : List (ReaderView (Planned w))) → seats ≡ map (λ p. p.seat) passes → length seats ≡ here → here ≡ readers → readers < 256 → length sheet.ends.items < 256
  few_ends readers here seats e n r few =
      let a : length sheet.ends.items ≡ length passes = ap length is.ends ∙ length-ends passes in
      let b : length seats ≡ length passes = ap length e ∙ length-seats passes in
      omega arith

  pub packets_right : (numbers : ℕ) (seats : List (ReaderView (Planned w))) (counts : List (ℕ × ℕ)) → numbers ≡ length (firsts (named plan)) → seats ≡ map (λ p. p.seat) passes
      → counts ≡ rising_counts (λ p. hits_of p (readers_of seats)) (numbers + 1) → packets_of (counted_hops (last_count counts) sheet.order.items) ≡ packets_hit plan passes
  packets_right numbers seats counts n e f =
      ap packets_of (counted_all plan (last_count counts) sheet.order.items passes is.numbering is.ordered (λ p low.
      ap (λ (x : List (ℕ × ℕ)). last_count x p) f
      ∙ last_rising (λ q. hits_of q (readers_of seats)) (numbers + 1) p (omega arith)
      ∙ ap (λ (x : List (ReaderView (Planned w))). hits_of p (readers_of x)) e))
