-- What a replay by many workers comes to.
use Rattle.std.specs.Prelude.{◌≡◌, ℕ, List}
use Rattle.route_lang.specs.Script.{Reading}
use Rattle.fib_pass.specs.declared.totals.FibTotals.{FibTotals}
use Rattle.fib_pass.specs.Totals.{packets_of}
use Rattle.replay_run.specs.Limits.{targets_max}
use Rattle.replay_run.specs.Output.{inet_of, inet6_of, output, packets_in, paired}
use Rattle.threaded_replay.specs.Legal.{Inet, Inet6, IsLegal, IsUsed, last}

-- the text is the output of the script at versions that n workers may answer its gets at, which it prints; the passes in the
-- totals made these gets and no others, the packets are those of the output, and each family's version is its last
pub record IsThreaded (n : ℕ) (script : Reading) (text : List ℕ) (totals : FibTotals) : Type 0 where
  pub version : ℕ → ℕ
  pub legal : IsLegal targets_max n script version
  pub output : text ≡ output targets_max script version
  pub used : IsUsed n script version Inet totals.inet.passes
  pub used6 : IsUsed n script version Inet6 totals.inet6.passes
  pub packets : totals.inet.packets ≡ packets_of (packets_in targets_max (inet_of script) (paired script.lines version))
  pub packets6 : totals.inet6.packets ≡ packets_of (packets_in targets_max (inet6_of script) (paired script.lines version))
  pub newest : totals.inet.version ≡ last targets_max script Inet
  pub newest6 : totals.inet6.version ≡ last targets_max script Inet6
