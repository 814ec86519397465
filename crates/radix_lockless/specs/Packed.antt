-- How the parts of a node are kept.
use Rattle.std.specs.Prelude.{ℕ, nat_lt, Bool, Option, Some, None, option_map, if◌then◌else◌}
use Rattle.module_trait.specs.declared.nodes.TheConstants.{KEYS_MAX}

-- the key of a number of 32 bits, if it is one
abbrev pub child_of : ℕ → Option ℕ
child_of number = if nat_lt number KEYS_MAX then Some number else None

-- the index, if it is there
abbrev pub index_if : Bool → ℕ → Option ℕ
index_if there index = if there then Some index else None

-- the nodes by key, where each is kept in some form
abbrev pub seen : {P N : Type 0} → (P → N) → (ℕ → Option P) → ℕ → Option N
seen node nodes key = option_map node (nodes key)
