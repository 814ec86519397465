-- The passes that are left behind the first ones.
use Rattle.std.proofs.Common.{◌≡◌, ◌∙◌, ℕ, ◌+◌, ◌<◌, List, [], ◌∷◌, length, drop, refl, sym, ap, arith, get_or, length-drop}
use Rattle.std.proofs.lemmas.List.{drop_more}
use Rattle.atomic_table.specs.Seated.{TableId}
use Rattle.rib_store.specs.Plan.{Planned}
use Rattle.epoch_core.specs.World.{first_own}
use Rattle.fib_pass.specs.Views.{AreNewPasses, PassView}
use Rattle.threaded_replay.specs.Tally.{IsNew, tally_of}

-- the pass of a number that has done nothing
abbrev pub IsUnused : {w : ℕ} → TableId → Planned w → ℕ → PassView w → Type 0
IsUnused table plan number pass = pass ≡ record { seat = record { table = table; key = plan; number = number; own = first_own; steps = [] }; lookups = 0 }

-- the first pass that is left, and those behind it
pub next_unused : {w : ℕ} (table : TableId) (plan : Planned w) (n : ℕ) (passes : List (PassView w)) (k : ℕ) (left rest : List (PassView w)) (pass : PassView w)
    → AreNewPasses table plan n passes → left ≡ drop k passes → left ≡ pass ∷ rest
    → IsUnused table plan k pass × (rest ≡ drop (k + 1) passes)
next_unused {w} table plan n passes k left rest pass new are first =
    let some : drop k passes ≡ pass ∷ rest = sym are ∙ first in
    let inside : k < length passes = (let many = ap length some in omega (arith, length-drop k passes, many)) in
    let parts : pass ∷ rest ≡ get_or passes k pass ∷ drop (k + 1) passes = sym some ∙ drop_more passes k pass inside in
    let same : pass ≡ get_or passes k pass = cc in
    let behind : rest ≡ drop (k + 1) passes = cc in
    (same ∙ new.new k pass (omega (arith, inside, new.count)), behind)

-- what it has done
pub unused_is_new : {w : ℕ} (table : TableId) (plan : Planned w) (k : ℕ) (pass : PassView w) → IsUnused table plan k pass → IsNew k (tally_of plan pass)
unused_is_new table plan k pass is = rw is (record { number = refl; lookups = refl; hops = refl })
