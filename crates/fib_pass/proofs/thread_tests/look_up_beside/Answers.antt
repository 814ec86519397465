use Rattle.std.proofs.Common.{lit<, ◌≡◌, All, Result, Ok, IfOk, sym, subst}
use Rattle.fib_pass.proofs.thread_tests.look_up_beside.Goals as goal

-- what is so of each success is so of this one
ok_at : {T E : Type 0} (r : Result T E) (x : T) → r ≡ Ok x → (P : T → Type 0) → IfOk r P → P x
ok_at r x e P h = subst (λ s. IfOk s P) e h

pub closed-totals-requires : goal.closed-totals-requires
closed-totals-requires g c =
    let table = c.started-control.result.1.table in
    let mine = c.join-looked.ensures.first table c.started-control.ensures.table in
    let looked = ok_at c.join-looked.result.0 c.expect.result c.expect.ensures (λ v. All (λ l. l.pass.seat.table ≡ table) v.items) mine in
    let given = c.gather-passes.ensures table looked in
    let it = subst (λ t. All (λ p. p.seat.table ≡ t) c.gather-passes.result.passes.items) (sym c.join-looked.ensures.second) given in
    (lit< tt, (lit< tt, it))
