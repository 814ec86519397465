-- The best row so far, joined with the longest of the rows that are left, is the longest of all.
use Rattle.std.proofs.Common.{◌≡◌, drop, option_copied}
use Rattle.prefix_width.specs.Longest.{longest, longer}
use Rattle.rib_store.proofs.rows.longest_row.Given as goal

abbrev pub invariant-loop-row : goal.invariant-loop-row
invariant-loop-row g l = longer (option_copied l.best) (longest g.row.W (drop l.row-index l.rows) l.addr) ≡ longest g.row.W l.rows l.addr
