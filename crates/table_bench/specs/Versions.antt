-- Versions of two lists of live targets in turn, the newest first.
use Rattle.std.specs.Prelude.{ℕ, zero, suc, List, [], ◌∷◌, length}
use Rattle.nhgrp_slots.specs.Target.{target_cmp}
use Rattle.nhgrp_slots.specs.declared.target.Target.{Target}
use Rattle.nhop_index.specs.Indexes.{next_names, fresh_in, newest}

abbrev pub Versions : Type 0
Versions = List (List (Target 32 × ℕ))

-- the versions with one more, of these live targets
abbrev pub after_next : ℕ → List (Target 32) → Versions → Versions
after_next K live versions = next_names target_cmp K versions live ∷ versions

-- the versions with one more of each list
abbrev pub both : ℕ → List (Target 32) → List (Target 32) → Versions → Versions
both K one other versions = after_next K other (after_next K one versions)

-- the versions after so many rounds
unfoldable pub after_rounds : ℕ → List (Target 32) → List (Target 32) → Versions → ℕ → Versions
after_rounds K one other versions zero = versions
after_rounds K one other versions (suc n) = both K one other (after_rounds K one other versions n)

-- how many indexes the newest version has that the one before hadn't
abbrev pub newest_fresh : Versions → ℕ
newest_fresh [] = 0
newest_fresh (names ∷ older) = length (fresh_in (newest older) names)
