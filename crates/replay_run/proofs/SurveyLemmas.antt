-- A survey goes on by a line, and ends with the numbers of all lines.
use Rattle.std.proofs.Common.{◌≡◌, ◌∙◌, ℕ, ◌+◌, ◌≤◌, Bool, true, false, ◌||◌, cond, List, [], ◌∷◌, ◌++◌, Option, length, drop, append_assoc, add-zero, refl, sym, ap, arith}
use Rattle.std.proofs.lemmas.List.{drop_all}
use Rattle.std.proofs.lemmas.List.Sums.{sum_by-cons}
use Rattle.std.specs.Prelude.{is_some}
use Rattle.std.specs.List.{count_by}
use Rattle.rib_store.specs.declared.command.Reply.{Reply}
use Rattle.plan_cut.specs.PlanCourse.{is_accepted, version_before}
use Rattle.plan_cut.specs.VersionTable.{answer_at}
use Rattle.route_lang.specs.declared.line.Line.{Line}
use Rattle.route_lang.specs.declared.line.Line.TheVariants.{Change, Quiet, Get4, Get6}
use Rattle.route_lang.specs.Script.{Reading}
use Rattle.replay_run.specs.Limits.{targets_max}
use Rattle.replay_run.specs.Output.{line_reply, plan_text}
use Rattle.replay_run.specs.Replay.{IsUnderWay, in_turn}
use Rattle.replay_run.specs.Survey.{changes_text, gets_text, is_answered, is_get, is_refused, is_replied, is_reply, lines_that, survey_text}
use Rattle.replay_run.specs.Surveying.{AreCounted, IsTally}
use Rattle.replay_run.specs.declared.serial_replay.Replay.{Replay}
use Rattle.replay_run.specs.declared.survey.Tally.{Tally}
use Rattle.replay_run.proofs.ReplayLemmas.{one_or_none}

or_false : (b : Bool) → (b || false) ≡ b
or_false true = refl
or_false false = refl

-- no line is counted
pub tally_none : (script : Reading) (tally : Tally) → tally ≡ record { accepted = 0; refused = 0; gets = 0; answered = 0 } → IsTally script 0 tally
tally_none script tally none =
    rw none (record { accepted = omega arith; refused = omega arith; gets = omega arith; answered = omega arith; few = (omega arith, omega arith, omega arith, omega arith) })

module _ (script : Reading) (i : ℕ) (line : Line) (v : ℕ) (here : drop i script.lines ≡ line ∷ drop (i + 1) script.lines)
    (turn : in_turn targets_max script (line ∷ drop (i + 1) script.lines) ≡ (line, v) ∷ in_turn targets_max script (drop (i + 1) script.lines)) where
  -- one line more is counted, if it is such a one
  counted_on : (is : Line × ℕ → Bool) (n new one : ℕ) → AreCounted is script i n → one ≡ cond (is (line, v)) 1 0 → new ≡ n + one → AreCounted is script (i + 1) new
  counted_on is n new one h counts sum =
      let whole : lines_that is script (drop i script.lines) ≡ cond (is (line, v)) 1 0 + lines_that is script (drop (i + 1) script.lines) = ap (lines_that is script) here ∙ ap (count_by is) turn ∙ sum_by-cons (λ (t : Line × ℕ). cond (is t) 1 0) (line, v) (in_turn targets_max script (drop (i + 1) script.lines)) in
      omega (arith, h, counts, sum, whole)

  -- the tally goes on by what the line comes to
  pub tally_on : (old new : Tally) (accepted refused get answered : Bool) → IsTally script i old
      → accepted ≡ is_replied is_accepted script (line, v) → refused ≡ is_replied is_refused script (line, v) → get ≡ is_get (line, v) → answered ≡ is_answered script (line, v)
      → new ≡ record { accepted = old.accepted + cond accepted 1 0; refused = old.refused + cond refused 1 0; gets = old.gets + cond get 1 0; answered = old.answered + cond answered 1 0 }
      → IsTally script (i + 1) new
  tally_on old new accepted refused get answered h a r g w is = record {
    accepted = counted_on (is_replied is_accepted script) old.accepted new.accepted _ h.accepted (ap (λ b. cond b 1 0) a) (ap (λ (t : Tally). t.accepted) is);
    refused = counted_on (is_replied is_refused script) old.refused new.refused _ h.refused (ap (λ b. cond b 1 0) r) (ap (λ (t : Tally). t.refused) is);
    gets = counted_on is_get old.gets new.gets _ h.gets (ap (λ b. cond b 1 0) g) (ap (λ (t : Tally). t.gets) is);
    answered = counted_on (is_answered script) old.answered new.answered _ h.answered (ap (λ b. cond b 1 0) w) (ap (λ (t : Tally). t.answered) is);
    few = (
      omega (arith, h.few.0, ap (λ (t : Tally). t.accepted) is, one_or_none accepted),
      omega (arith, h.few.1, ap (λ (t : Tally). t.refused) is, one_or_none refused),
      omega (arith, h.few.2, ap (λ (t : Tally). t.gets) is, one_or_none get),
      omega (arith, h.few.3, ap (λ (t : Tally). t.answered) is, one_or_none answered),
    );
  }

module _ (script : Reading) (i : ℕ) (old new : Tally) (h : IsTally script i old) where
  pub tally_change : (number : ℕ) (inet inet6 : Option ℕ) (reply : Option Reply) → drop i script.lines ≡ Change number inet inet6 ∷ drop (i + 1) script.lines
      → reply ≡ line_reply targets_max script inet inet6
      → new ≡ record old { accepted = old.accepted + cond (is_reply is_accepted reply) 1 0; refused = old.refused + cond (is_reply is_refused reply) 1 0 }
      → IsTally script (i + 1) new
  tally_change number inet inet6 reply here same is =
      tally_on script i (Change number inet inet6) 0 here refl old new (is_reply is_accepted reply) (is_reply is_refused reply) false false h (ap (is_reply is_accepted) same) (ap (is_reply is_refused) same) refl refl
      (is ∙ same_rest)
    where
      same_rest : record old { accepted = old.accepted + cond (is_reply is_accepted reply) 1 0; refused = old.refused + cond (is_reply is_refused reply) 1 0 }
          ≡ record { accepted = old.accepted + cond (is_reply is_accepted reply) 1 0; refused = old.refused + cond (is_reply is_refused reply) 1 0; gets = old.gets + 0; answered = old.answered + 0 }
      same_rest = simp add-zero

  pub tally_quiet : (number : ℕ) (inet inet6 : Option ℕ) → drop i script.lines ≡ Quiet number inet inet6 ∷ drop (i + 1) script.lines → new ≡ old → IsTally script (i + 1) new
  tally_quiet number inet inet6 here is =
      tally_on script i (Quiet number inet inet6) 0 here refl old new false false false false h refl refl refl refl (is ∙ same_rest)
    where
      same_rest : old ≡ record { accepted = old.accepted + 0; refused = old.refused + 0; gets = old.gets + 0; answered = old.answered + 0 }
      same_rest = simp add-zero

  pub tally_get4 : (number addr flow at : ℕ) (answered : Bool) → drop i script.lines ≡ Get4 number addr flow at ∷ drop (i + 1) script.lines
      → answered ≡ is_some (answer_at targets_max script.inet (version_before targets_max script.inet at) addr flow)
      → new ≡ record old { gets = old.gets + 1; answered = old.answered + cond answered 1 0 }
      → IsTally script (i + 1) new
  tally_get4 number addr flow at answered here got is =
      tally_on script i (Get4 number addr flow at) (version_before targets_max script.inet at) here refl old new false false true answered h refl refl refl (got ∙ sym (or_false _)) (is ∙ same_rest)
    where
      same_rest : record old { gets = old.gets + 1; answered = old.answered + cond answered 1 0 }
          ≡ record { accepted = old.accepted + 0; refused = old.refused + 0; gets = old.gets + 1; answered = old.answered + cond answered 1 0 }
      same_rest = simp add-zero

  pub tally_get6 : (number addr flow at : ℕ) (answered : Bool) → drop i script.lines ≡ Get6 number addr flow at ∷ drop (i + 1) script.lines
      → answered ≡ is_some (answer_at targets_max script.inet6 (version_before targets_max script.inet6 at) addr flow)
      → new ≡ record old { gets = old.gets + 1; answered = old.answered + cond answered 1 0 }
      → IsTally script (i + 1) new
  tally_get6 number addr flow at answered here got is =
      tally_on script i (Get6 number addr flow at) (version_before targets_max script.inet6 at) here refl old new false false true answered h refl refl refl got (is ∙ same_rest)
    where
      same_rest : record old { gets = old.gets + 1; answered = old.answered + cond answered 1 0 }
          ≡ record { accepted = old.accepted + 0; refused = old.refused + 0; gets = old.gets + 1; answered = old.answered + cond answered 1 0 }
      same_rest = simp add-zero

-- what is written of a tally of all lines is what is told of the script
pub survey_is : {L : Type 0} (script : Reading) (i : ℕ) (replay : Replay L) (tally : Tally) (out first second all : List ℕ) → length script.lines ≤ i → IsUnderWay script (drop i script.lines) replay → IsTally script i tally
    → first ≡ out ++ changes_text tally.accepted tally.refused → second ≡ first ++ gets_text tally.gets tally.answered
    → all ≡ (second ++ plan_text targets_max replay.inet.family.plan) ++ plan_text targets_max replay.inet6.family.plan
    → all ≡ out ++ survey_text script
survey_is script i replay tally out first second all past h counts a b c =
    let none : drop i script.lines ≡ [] = drop_all i script.lines past in
    let accepted : tally.accepted ≡ lines_that (is_replied is_accepted script) script script.lines = omega (arith, counts.accepted, ap (lines_that (is_replied is_accepted script) script) none) in
    let refused : tally.refused ≡ lines_that (is_replied is_refused script) script script.lines = omega (arith, counts.refused, ap (lines_that (is_replied is_refused script) script) none) in
    let gets : tally.gets ≡ lines_that is_get script script.lines = omega (arith, counts.gets, ap (lines_that is_get script) none) in
    let answered : tally.answered ≡ lines_that (is_answered script) script script.lines = omega (arith, counts.answered, ap (lines_that (is_answered script) script) none) in
    simp (c, b, a, accepted, refused, gets, answered, h.inet.plan, h.inet6.plan, append_assoc)
