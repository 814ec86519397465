-- What a replay by many workers comes to.
use Rattle.std.proofs.Common.{◌≡◌, ℕ, List, sym, subst}
use Rattle.std.specs.Prelude.{Result, Ok, Err, IfOk}
use Rattle.fib_pass.specs.declared.totals.FibTotals.{FibTotals}
use Rattle.fib_pass.specs.declared.totals.PassEnd.{PassEnd}
use Rattle.fib_pass.specs.Totals.{packets_of}
use Rattle.route_lang.specs.Script.{Reading}
use Rattle.replay_run.specs.Output.{inet_of, inet6_of, output, packets_in, paired}
use Rattle.threaded_replay.specs.Legal.{Inet, Inet6, IsLegal, IsUsed, last}
use Rattle.replay_run.specs.Limits.{targets_max}
use Rattle.threaded_replay.specs.Threaded.{IsThreaded}

-- what seven facts of the value in an `Ok` give
pub IfOk-seven : {X E : Type 0} (r : Result X E) (A B C D F G H R : X → Type 0) → ((x : X) → A x → B x → C x → D x → F x → G x → H x → R x)
    → IfOk r A → IfOk r B → IfOk r C → IfOk r D → IfOk r F → IfOk r G → IfOk r H → IfOk r R
IfOk-seven (Ok x) A B C D F G H R so a b c d f g h = so x a b c d f g h
IfOk-seven (Err e) A B C D F G H R so a b c d f g h = tt

pub threaded_is : (n m : ℕ) (script : Reading) (version : ℕ → ℕ) (ends ends6 : List PassEnd) (text : List ℕ) (totals : FibTotals) → n ≡ m
    → IsLegal targets_max n script version → IsUsed n script version Inet ends → IsUsed n script version Inet6 ends6
    → text ≡ output targets_max script version → totals.inet.passes ≡ ends → totals.inet6.passes ≡ ends6
    → totals.inet.packets ≡ packets_of (packets_in targets_max (inet_of script) (paired script.lines version))
    → totals.inet6.packets ≡ packets_of (packets_in targets_max (inet6_of script) (paired script.lines version))
    → totals.inet.version ≡ last targets_max script Inet → totals.inet6.version ≡ last targets_max script Inet6
    → IsThreaded m script text totals
threaded_is n m script version ends ends6 text totals same legal used used6 written passes passes6 packets packets6 newest newest6 = record {
  version = version;
  legal = subst (λ k. IsLegal targets_max k script version) same legal;
  output = written;
  used = subst (λ k. IsUsed k script version Inet totals.inet.passes) same (subst (λ (es : List PassEnd). IsUsed n script version Inet es) (sym passes) used);
  used6 = subst (λ k. IsUsed k script version Inet6 totals.inet6.passes) same (subst (λ (es : List PassEnd). IsUsed n script version Inet6 es) (sym passes6) used6);
  packets = packets;
  packets6 = packets6;
  newest = newest;
  newest6 = newest6;
}
