use Rattle.std.proofs.Common.{◌≡◌, ◌≤◌, ◌<◌, arith, length, ap}
use Rattle.std.specs.Vec.{vec_len}
use Rattle.nhop_index.proofs.AgeLemmas.{aged_all}
use Rattle.nhop_index.proofs.ages.age.Goals as goal

pub returns-clause-aged : goal.returns-clause-aged
returns-clause-aged g c =
    let old = c.args.ages.now in
    let count : vec_len old ≡ length old.items = omega (arith, old.ok) in
    let room : length old.items ≤ c.max-len.result = omega (arith, c.max-len.ensures, c.len.ensures, old.ok) in
    aged_all c.args.table.now old.items c.resize.new.self.items c.renew.new.ages.items (vec_len old) c.max-len.result count room c.in_ok-resize.ensures.items
    (λ i used. let h = c.end.ensures.above i used in omega (arith, h, c.max-len.ensures)) c.renew.ensures.len c.renew.ensures.ages
