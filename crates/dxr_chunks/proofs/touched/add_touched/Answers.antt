use Rattle.std.proofs.Common.{◌≡◌, ◌⊎◌, ◌+◌, ◌/◌, ◌^◌, ◌<◌, ◌≤◌, ◌∙◌, arith, ap, inl, inr, subst, length}
use Rattle.prefix_width.specs.Prefix.{last_of}
use Rattle.dxr_chunks.proofs.TouchLemmas.{adding_begins, adding_ends, adding_more, below_insert}
use Rattle.dxr_chunks.proofs.touched.add_touched.Goals as goal

pub loop-chunk-preserved : goal.loop-chunk-preserved
loop-chunk-preserved g c =
    let bound = subst (λ n. c.value-2.result < 2 ^ n) c.requires c.value-2.ensures.bound in
    record {
      adding = adding_more 4096 (c.value.result / 65536) c.args.numbers.now.keys c.loop-chunk.numbers.keys c.insert.new.self.keys c.loop-chunk.chunk c.loop-chunk.auto.chunk c.in_ok-insert.ensures.keys c.loop-chunk.invariant.adding;
      below = λ all. below_insert 65536 c.loop-chunk.numbers.keys c.insert.new.self.keys c.loop-chunk.chunk c.in_ok-insert.ensures.keys (let less = c.loop-chunk-test.true in omega (arith, less, bound)) (c.loop-chunk.invariant.below all);
    }

pub returns-after-loop-chunk-clause-added : goal.returns-after-loop-chunk-clause-added
returns-after-loop-chunk-clause-added g c =
    let first = c.value.ensures.value ∙ c.first.ensures in
    let last = c.value-2.ensures.value ∙ subst (λ n. c.last.result ≡ last_of n c.args.prefix.now) c.requires c.last.ensures in
    let end = c.loop-chunk.auto.chunk-end in
    adding_ends 4096 (c.value.result / 65536) (c.value-2.result / 65536) c.args.prefix.now c.args.numbers.now.keys c.loop-chunk.numbers.keys c.loop-chunk.chunk
    (ap (λ n. n / 65536) first) (ap (λ n. n / 65536) last) (omega (arith, end, first, last)) (inr c.loop-chunk-test.false) c.loop-chunk.invariant.adding

pub returns-then-len-gt-MOST-clause-added : goal.returns-then-len-gt-MOST-clause-added
returns-then-len-gt-MOST-clause-added g c =
    let first = c.value.ensures.value ∙ c.first.ensures in
    let last = c.value-2.ensures.value ∙ subst (λ n. c.last.result ≡ last_of n c.args.prefix.now) c.requires c.last.ensures in
    let end = c.loop-chunk.auto.chunk-end in
    let many : 4096 < length c.loop-chunk.numbers.keys = (let more = c.if-len-gt-MOST.true in let len = c.len.ensures.len in omega (arith, more, len)) in
    adding_ends 4096 (c.value.result / 65536) (c.value-2.result / 65536) c.args.prefix.now c.args.numbers.now.keys c.loop-chunk.numbers.keys c.loop-chunk.chunk
    (ap (λ n. n / 65536) first) (ap (λ n. n / 65536) last) (omega (arith, end, first, last)) (inl many) c.loop-chunk.invariant.adding
