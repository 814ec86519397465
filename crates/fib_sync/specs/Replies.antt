-- The replies to the commands of a plan, where a table has room for so many live targets.
use Rattle.std.specs.Prelude.{ℕ, zero, suc, List, [], ◌++◌, Option, option_map, option_to_list, slice_get}
use Rattle.rib_store.specs.declared.command.Reply.{Reply}
use Rattle.rib_store.specs.Plan.{Planned}
use Rattle.rib_store.specs.Table.{apply, table_after}

-- the reply to the command at a position of a plan
abbrev pub reply_at : {w : ℕ} → ℕ → Planned w → ℕ → Option Reply
reply_at most plan pos = option_map (λ c. (apply plan.profile most (table_after most plan pos) c).reply) (slice_get plan.commands pos)

-- the replies to the first n commands
unfoldable pub replies_to : {w : ℕ} → ℕ → Planned w → ℕ → List Reply
replies_to most plan zero = []
replies_to most plan (suc n) = replies_to most plan n ++ option_to_list (reply_at most plan n)
