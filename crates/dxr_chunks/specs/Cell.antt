-- How a direct cell is kept: what a chunk's addresses have, an index or a run by its key.
use Rattle.std.specs.Prelude.{ℕ, ◌-◌, nat_lt, if◌then◌else◌}
use Rattle.module_trait.specs.declared.nodes.TheConstants.{KEYS_MAX}
use Rattle.dxr_chunks.specs.declared.cell.Cell.{Cell}
use Rattle.dxr_chunks.specs.declared.cell.Cell.TheVariants.{Direct, Run}

-- the cell that a number of 32 bits keeps: a number that is a key keeps a run's, and one past the keys an index
abbrev pub cell_of : ℕ → Cell
cell_of number = if nat_lt number KEYS_MAX then Run number else Direct (number - KEYS_MAX)
