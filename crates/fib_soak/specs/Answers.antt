-- Which answers are those of the rows.
use Rattle.std.specs.Prelude.{◌≡◌, ℕ, ◌-◌, ◌≤◌, List}
use Rattle.prefix_width.specs.Prefix.{Block}
use Rattle.fib_pass.specs.declared.answer.Answer.{Answer}
use Rattle.fib_soak.specs.Rows.{rows_after, scanned}

-- the answer is what a scan gives at its version, where the versions follow one another from a base, a turn each
pub record IsScanned (prefixes : List Block) (base addr flow : ℕ) (answer : Answer 32) : Type 0 where
  pub version : base ≤ answer.version
  pub nexthop : answer.nexthop ≡ scanned (rows_after prefixes (answer.version - base)) addr flow
