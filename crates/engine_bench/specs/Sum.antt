-- The check sum of answers.
use Rattle.std.specs.Prelude.{ℕ, ◌+◌, ◌*◌, ◌%◌, ◌^◌, List, [], ◌∷◌, map}
use Rattle.prefix_width.specs.Prefix.{Block}
use Rattle.module_trait.specs.Starts.{index_at}

-- numbers times their places, added up; the first place is given
abbrev pub weighed : ℕ → List ℕ → ℕ
weighed place [] = 0
weighed place (n ∷ ns) = place * n + weighed (place + 1) ns

-- the check sum of the answers at addresses, where 0 stands for no row
abbrev pub check_sum : ℕ → List (Block × ℕ) → List ℕ → ℕ
check_sum w rows addrs = weighed 1 (map (index_at w rows) addrs) % 2 ^ 64
