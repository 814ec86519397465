-- What a read gave joins what was read before it. At the end no byte is lost and none is left.
use Rattle.std.proofs.Common.{ℕ, ◌+◌, ◌-◌, ◌<◌, ◌≤◌, ◌++◌, List, Option, take, length, length-append, length-take, arith}
use Rattle.std.proofs.KnownBytes.{Consumes-kept, Consumes-trans}
use Rattle.std.specs.Io.KnownBytes.{Consumes}
use Rattle.outside_io.specs.Whole.{ReadsPast, ReadsWithin}
use Rattle.outside_io.proofs.reading.read_all.Goals as goal

module _ (a b d : Option (List ℕ)) (xs buf : List ℕ) (limit count : ℕ) where
  past : Consumes a b xs → Consumes b d (take count buf) → count ≤ length buf → length buf ≤ limit - length xs + 1 → length xs ≤ limit → limit - length xs < count → ReadsPast limit a d
  past before now some most few more =
      (xs ++ take count buf, omega (arith, length-append xs (take count buf), length-take count buf), Consumes-trans a b d xs (take count buf) before now)

  within : Consumes a b xs → Consumes b d (take count buf) → count ≤ length buf → length xs ≤ limit → count ≤ limit - length xs → ReadsWithin limit a d
  within before now some few enough =
      (xs ++ take count buf, omega (arith, length-append xs (take count buf), length-take count buf), Consumes-trans a b d xs (take count buf) before now)

pub returns-in-End-clause-all : goal.returns-in-End-clause-all
returns-in-End-clause-all g c =
    let ended = c.in-End.ensures.reads in
    (Consumes-kept _ _ _ _ c.reading.invariant.read ended.2, ended.1)

pub returns-in-Some-clause-too_large : goal.returns-in-Some-clause-too_large
returns-in-Some-clause-too_large g c told =
    let took = c.in-Some.ensures.reads in
    past _ _ _ _ _ c.args.limit c.in-Some.count c.reading.invariant.read took.2 took.1 (omega (arith, c.read.auto.buf, c.min-most.ensures, c.len.ensures, length-take c.min-most.result c.reading.piece)) c.reading.invariant.within (omega arith)

pub returns-in_err-extend_from_slice-in-Some-2-clause-wanting_within : goal.returns-in_err-extend_from_slice-in-Some-2-clause-wanting_within
returns-in_err-extend_from_slice-in-Some-2-clause-wanting_within g c told =
    let took = c.in-Some-2.ensures.reads in
    within _ _ _ _ _ c.args.limit c.in-Some-2.count c.reading.invariant.read took.2 took.1 c.reading.invariant.within (omega arith)
