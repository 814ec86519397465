use Rattle.std.proofs.Common.{arith}
use Rattle.plan_cut.specs.VersionTable.{table_at}
use Rattle.fib_sync.proofs.PictureLemmas.{picture_of}
use Rattle.fib_sync.proofs.making.make_lawful.Goals as goal

pub make-requires : goal.make-requires
make-requires g c =
    let live = c.requires.0 in
    let plan = c.requires.1 in
    let names = c.requires.2 in
    let lawful = c.requires.3 in
    let p = picture_of names c.args.entries lawful.entries (table_at live plan c.args.version) c.args.engine c.args.routes lawful.engine.rows c.len-len.ensures.ascending lawful.engine.indexed lawful.engine.stands lawful.routes in
    (omega arith, (omega arith, p))
