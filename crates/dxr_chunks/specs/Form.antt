-- The two forms of a table, as one.
use Rattle.std.proofs.Common.{inl, inr}
use Rattle.std.specs.Prelude.{◌+◌}
use Rattle.dxr_chunks.specs.declared.store.Store.{Store}
use Rattle.dxr_chunks.specs.declared.store.FrozenStore.{FrozenStore}
use Rattle.dxr_chunks.specs.declared.form.Form.{Form}
use Rattle.dxr_chunks.specs.declared.form.Form.TheVariants.{Working, Frozen}
use Rattle.dxr_chunks.specs.Table.{Chunked}

-- a store that is written to
abbrev pub working : Store → Chunked
working store = record { cells = inl store.cells.slots; runs = inl store.runs.slots; unsettled = store.cells.unsettled + store.runs.unsettled; made = 0 }

-- a copy that is only read
abbrev pub frozen : FrozenStore → Chunked
frozen store = record { cells = inr store.cells.pages; runs = inr store.runs.pages; unsettled = 0; made = store.cells.made + store.runs.made }

abbrev pub chunked : Form → Chunked
chunked (Working store) = working store
chunked (Frozen store) = frozen store
