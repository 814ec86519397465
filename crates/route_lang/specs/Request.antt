-- What a line of a script asks for, and of which family.
use Rattle.std.specs.Prelude.{ℕ}
use Rattle.rib_store.specs.declared.command.Command.{Command}
use Rattle.rib_store.specs.declared.command.Command.TheVariants as command

-- a command that both families get
pub data Shared : Type 0 where
  Flush : Shared
  Tick : (ms : ℕ) → Shared
  Sync : Shared

-- a command of one family, one of both, the lookup of an address for a flow, or the profile of the script
pub data Request : Type 0 where
  OfInet : (asked : Command 32) → Request
  OfInet6 : (asked : Command 128) → Request
  OfBoth : (asked : Shared) → Request
  LookUp : (addr flow : ℕ) → Request
  LookUp6 : (addr flow : ℕ) → Request
  OfProfile : (number : ℕ) → Request

-- the command of a family that both families get
abbrev pub command_of : {w : ℕ} → Shared → Command w
command_of Flush = command.Flush
command_of (Tick ms) = command.Tick ms
command_of Sync = command.Sync
