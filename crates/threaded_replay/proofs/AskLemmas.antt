-- The gets of a script, one line at a time.
use Rattle.std.proofs.Common.{◌≡◌, ◌∙◌, ℕ, zero, suc, ◌+◌, ◌<◌, ◌≤◌, List, [], ◌∷◌, ◌++◌, Option, Some, None, length, drop, refl, sym, ap, subst, arith, add-one, append-nil}
use Rattle.std.specs.List.{slice_get}
use Rattle.std.specs.Prelude.{IfSome}
use Rattle.std.proofs.Common.{inl, inr}
use Rattle.std.proofs.lemmas.Bool.{cases_Bool}
use Rattle.std.proofs.lemmas.List.{drop_all}
use Rattle.std.proofs.lemmas.Option.{none-some, same_Some}
use Rattle.rib_store.specs.Plan.{Planned}
use Rattle.route_lang.specs.declared.line.Line.{Line}
use Rattle.route_lang.specs.declared.line.Line.TheVariants.{Change, Quiet, Get4, Get6}
use Rattle.route_lang.specs.Script.{Reading}
use Rattle.route_lang.specs.Fits.{Positions, HasCommands, IsScript, no_commands}
use Rattle.route_lang.proofs.FitsLemmas.{each_has}
use Rattle.threaded_replay.specs.Legal.{Get, gets_from, gets_of, is_sync, synced_behind}
use Rattle.threaded_replay.specs.Asked.{AreWithin, commands_in}

-- what a list has from a place on
pub from_place : {X : Type 0} (xs : List X) (i : ℕ) (x : X) → slice_get xs i ≡ Some x → drop i xs ≡ x ∷ drop (i + 1) xs
from_place [] zero x here = absurd (none-some _ here)
from_place [] (suc i) x here = absurd (none-some _ here)
from_place (y ∷ xs) zero x here = ap (λ z. z ∷ xs) (same_Some _ _ here)
from_place (y ∷ xs) (suc i) x here = rw add-one (rw add-one at (from_place xs i x here))

-- the line of a place comes first of those that are left
pub at_line : (script : Reading) (i : ℕ) (lines : List Line) (found line : Line) → lines ≡ script.lines → slice_get lines i ≡ Some found → found ≡ line
    → drop i script.lines ≡ line ∷ drop (i + 1) script.lines
at_line script i lines found line same here is =
    from_place script.lines i line (subst (λ ls. slice_get ls i ≡ Some line) same (here ∙ ap Some is))

-- the commands of a quiet line are the plans'
pub quiet_has : (script : Reading) (lines : List Line) (i : ℕ) (found : Line) (number : ℕ) (inet inet6 : Option ℕ) → IsScript script → lines ≡ script.lines → slice_get lines i ≡ Some found
    → found ≡ Quiet number inet inet6 → HasCommands script (Quiet number inet inet6)
quiet_has script lines i found number inet inet6 facts same here is =
    subst (HasCommands script) is (each_has script no_commands script.lines i found facts.fits (subst (λ ls. slice_get ls i ≡ Some found) same here))

-- ---- what every get of a script has

-- a position's sync comes within the plan
within_behind : {w : ℕ} (plan : Planned w) (synced : ℕ) (position : Option ℕ) → synced ≤ length plan.commands → IfSome position (λ pos. pos < length plan.commands) → synced_behind plan synced position ≤ length plan.commands
within_behind plan synced None few has = few
within_behind plan synced (Some pos) few has =
    elim (cases_Bool (is_sync (slice_get plan.commands pos))) [
      | inl y ↦ rw y (omega (arith, has))
      | inr n ↦ rw n few
    ]

within_from : (script : Reading) (lines : List Line) (synced : Positions) → synced.inet ≤ length script.inet.commands → synced.inet6 ≤ length script.inet6.commands
    → ((i : ℕ) (line : Line) → slice_get lines i ≡ Some line → HasCommands script line)
    → (j : ℕ) (get : Get) → slice_get (gets_from script synced lines) j ≡ Some get → get.synced ≤ commands_in script get.family
within_from script [] synced few few6 has j get here = absurd (none-some _ here)
within_from script (Change line inet inet6 ∷ lines) synced few few6 has j get here = within_from script lines synced few few6 (λ i. has (suc i)) j get here
within_from script (Quiet line inet inet6 ∷ lines) synced few few6 has j get here =
    let own = has 0 (Quiet line inet inet6) refl in
    within_from script lines _ (within_behind script.inet synced.inet inet few own.0) (within_behind script.inet6 synced.inet6 inet6 few6 own.1) (λ i. has (suc i)) j get here
within_from script (Get4 line addr flow at ∷ lines) synced few few6 has zero get here = subst (λ (g : Get). g.synced ≤ commands_in script g.family) (same_Some _ _ here) few
within_from script (Get4 line addr flow at ∷ lines) synced few few6 has (suc j) get here = within_from script lines synced few few6 (λ i. has (suc i)) j get here
within_from script (Get6 line addr flow at ∷ lines) synced few few6 has zero get here = subst (λ (g : Get). g.synced ≤ commands_in script g.family) (same_Some _ _ here) few6
within_from script (Get6 line addr flow at ∷ lines) synced few few6 has (suc j) get here = within_from script lines synced few few6 (λ i. has (suc i)) j get here

-- a get's sync line is one of the script's
pub each_within : (script : Reading) → IsScript script → AreWithin script (gets_of script)
each_within script facts = within_from script script.lines no_commands (omega arith) (omega arith) (λ i line here. each_has script no_commands script.lines i line facts.fits here)

few_from : (script : Reading) (lines : List Line) (synced : Positions) → length (gets_from script synced lines) ≤ length lines
few_from script [] synced = omega arith
few_from script (Change line inet inet6 ∷ lines) synced = let few = few_from script lines synced in omega arith
few_from script (Quiet line inet inet6 ∷ lines) synced =
    let few = few_from script lines (record { inet = synced_behind script.inet synced.inet inet; inet6 = synced_behind script.inet6 synced.inet6 inet6 }) in omega arith
few_from script (Get4 line addr flow at ∷ lines) synced = let few = few_from script lines synced in omega arith
few_from script (Get6 line addr flow at ∷ lines) synced = let few = few_from script lines synced in omega arith

-- there are no more gets than lines
pub few_gets : (script : Reading) → IsScript script → length (gets_of script) ≤ 1048576
few_gets script facts = let few = few_from script script.lines no_commands in omega (arith, facts.few)

-- where no line is left, all gets are there
pub all_taken : (script : Reading) (asks : List Get) (synced : Positions) (i : ℕ) → length script.lines ≤ i → asks ++ gets_from script synced (drop i script.lines) ≡ gets_of script → asks ≡ gets_of script
all_taken script asks synced i all is =
    let none : drop i script.lines ≡ [] = drop_all i script.lines all in
    sym (append-nil asks) ∙ ap (λ lines. asks ++ gets_from script synced lines) (sym none) ∙ is
