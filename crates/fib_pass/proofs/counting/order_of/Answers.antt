use Rattle.std.proofs.Common.{List, subst, sym}
use Rattle.std.proofs.lemmas.Result.{IfOk-weaker}
use Rattle.prefix_width.specs.Nexthop.{Hop}
use Rattle.std.proofs.Common.{ℕ}
use Rattle.rib_store.specs.Plan.{IsNumbering, firsts, named}
use Rattle.fib_pass.proofs.counting.order_of.Goals as goal

pub returns-clause-numbering : goal.returns-clause-numbering
returns-clause-numbering g c =
    IfOk-weaker c.entries_of.result _ _ (λ v e. subst (λ (x : List (Hop × ℕ)). IsNumbering (firsts (named c.args.plan.now)) x) (sym e) c.in_ok-numbering.ensures) c.entries_of.ensures.entries
