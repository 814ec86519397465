use Rattle.std.proofs.Common.{lit<, ◌≡◌, All, Result, Ok, IfOk, sym, subst}
use Rattle.epoch_core.proofs.thread_tests.hit_beside.Goals as goal

-- what is so of each success is so of this one
ok_at : {T E : Type 0} (r : Result T E) (x : T) → r ≡ Ok x → (P : T → Type 0) → IfOk r P → P x
ok_at r x e P h = subst (λ s. IfOk s P) e h

pub close-requires : goal.close-requires
close-requires g c =
    let table = c.started-control.result.0.table in
    let mine = c.join-control.ensures.second table c.started-control.ensures.table in
    let read = ok_at c.join-control.result.1 c.expect.result c.expect.ensures (λ v. All (λ r. r.seat.table ≡ table) v.items) mine in
    let given = c.gather-all.ensures table read in
    let it = subst (λ t. All (λ s. s.table ≡ t) c.gather-all.result.seats.items) (sym c.join-control.ensures.first) given in
    (lit< tt, (lit< tt, (lit< tt, it)))
