-- What a get that is kept for its worker is seen as, and what every get has.
use Rattle.std.specs.Prelude.{◌≡◌, ℕ, ◌≤◌, List, Some, length, slice_get}
use Rattle.route_lang.specs.Fits.{Positions}
use Rattle.route_lang.specs.Script.{Reading}
use Rattle.threaded_replay.specs.declared.ask.Address.{Address}
use Rattle.threaded_replay.specs.declared.ask.Address.TheVariants as address
use Rattle.threaded_replay.specs.declared.ask.Synced.{Synced}
use Rattle.threaded_replay.specs.Legal.{Family, Inet, Inet6, Get, by_family}

abbrev pub family_of : Address → Family
family_of (address.Inet addr) = Inet
family_of (address.Inet6 addr) = Inet6

abbrev pub number_of : Address → ℕ
number_of (address.Inet addr) = addr
number_of (address.Inet6 addr) = addr

abbrev pub positions : Synced → Positions
positions synced = record { inet = synced.inet; inet6 = synced.inet6 }

-- how many commands a family has
abbrev pub commands_in : Reading → Family → ℕ
commands_in script family = by_family family (length script.inet.commands) (length script.inet6.commands)

-- the sync line before each get is one of the script's
abbrev pub AreWithin : Reading → List Get → Type 0
AreWithin script gets = (j : ℕ) (get : Get) → slice_get gets j ≡ Some get → get.synced ≤ commands_in script get.family
