-- What was taken joins what was written.
use Rattle.std.proofs.Common.{◌≡◌, ℕ, ◌+◌, ◌-◌, ◌≤◌, List, Option, take, drop, length, sym, subst, arith}
use Rattle.std.proofs.lemmas.List.{length-drop}
use Rattle.std.proofs.Math.Seq.{take-add, take-length}
use Rattle.std.proofs.KnownBytes.{Appends-trans}
use Rattle.std.specs.Io.KnownBytes.{Appends}
use Rattle.outside_io.proofs.writing.write_all.Goals as goal

-- a slice from a place on, as a call is passed it
from_place : (xs : List ℕ) (place : ℕ) → take (length xs - place) (drop place xs) ≡ drop place xs
from_place xs place = rw (← length-drop place xs) (take-length (drop place xs))

further : (a b c : Option (List ℕ)) (xs : List ℕ) (place n : ℕ) → Appends a b (take place xs) → Appends b c (take n (take (length xs - place) (drop place xs))) → Appends a c (take (place + n) xs)
further a b c xs place n before now =
    let rest = rw (from_place xs place) at now in
    let P : List ℕ → Type 0 = λ bytes. Appends a c bytes in
    subst P (sym (take-add place n xs)) (Appends-trans a b c (take place xs) (take n (drop place xs)) before rest)

in_range : (xs : List ℕ) (place n : ℕ) → place ≤ length xs → n ≤ length (take (length xs - place) (drop place xs)) → place + n ≤ length xs
in_range xs place n before now = omega (arith, length-drop place xs, rw (from_place xs place) at now)

pub writing-preserved : goal.writing-preserved
writing-preserved g c =
    let took = c.in-Took.ensures.writes in
    let xs = c.args.text.now in
    record {
      in_range = in_range xs c.writing.place c.in-Took.count c.writing.invariant.in_range took.1;
      later = omega arith;
      written = further (g.K.Sink.written c.args.sink.now) (g.K.Sink.written c.writing.sink) (g.K.Sink.written c.write.new.self) xs c.writing.place c.in-Took.count c.writing.invariant.written took.2;
    }
