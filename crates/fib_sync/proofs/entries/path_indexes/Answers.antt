use Rattle.std.proofs.Common.{◌≡◌, ◌+◌, arith, length, length-append, refl}
use Rattle.std.proofs.lemmas.Option.{slice_get_read}
use Rattle.fib_sync.specs.Entries.{names_in}
use Rattle.fib_sync.proofs.EntriesLemmas.{is_found, path_more}
use Rattle.fib_sync.proofs.entries.path_indexes.Goals as goal

pub unreachable-requires : goal.unreachable-requires
unreachable-requires g c =
    let ps = c.as_slice-paths.result.now in
    let k = c.loop-path.path-index in
    let p = c.path-item.result in
    let at = slice_get_read ps (length ps) k p refl c.loop-path-test.true c.path-item.is in
    is_found (names_in (g.X.VersionIndexes.indexes c.args.indexes.now)) ps c.args.paths.now k p c.nexthop.result.now c.requires c.as_slice-paths.ensures.items at c.nexthop.ensures (c.nexthop_index.ensures.none c.in_default.is)

pub loop-path-preserved : goal.loop-path-preserved
loop-path-preserved g c =
    let ps = c.as_slice-paths.result.now in
    let k = c.loop-path.path-index in
    let p = c.path-item.result in
    let at = slice_get_read ps (length ps) k p refl c.loop-path-test.true c.path-item.is in
    let name = c.nexthop_index.ensures.found c.in-Some.index c.in-Some.is in
    let before = c.loop-path.invariant in
    let same : length c.push.new.self.items ≡ k + 1 = rw c.in_ok-push.ensures.items (rw length-append (omega (arith, before.same))) in
    record {
      same = same;
      named = rw c.in_ok-push.ensures.items (path_more (names_in (g.X.VersionIndexes.indexes c.args.indexes.now)) ps c.loop-path.of_paths.items c.in-Some.index k p c.nexthop.result.now before.same at c.nexthop.ensures name before.named);
    }
