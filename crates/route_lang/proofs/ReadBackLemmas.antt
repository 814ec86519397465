-- The spelled text of a script reads as it.
use Rattle.std.proofs.Common.{◌≡◌, ◌∙◌, ℕ, zero, suc, ◌+◌, ◌≤◌, codes, Bool, true, false, cond, nat_lt, List, [], ◌∷◌, ◌++◌, Option, Some, None, Result, Ok, Err, IfOk, length, map, flat_map, refl, sym, ap, subst, arith, append_assoc}
use Rattle.std.specs.List.{list_all}
use Rattle.std.proofs.lemmas.Bool.Decides.{nat_tests}
use Rattle.std.proofs.lemmas.List.Concat.{flat_map-cons}
use Rattle.rib_store.specs.declared.command.Command.{Command}
use Rattle.route_lang.specs.Text.{lines_of}
use Rattle.route_lang.specs.Reader.Asked.{asked_of, is_profile, in_time}
use Rattle.rib_store.specs.Plan.{Planned, no_plan, plan_under}
use Rattle.rib_store.specs.Profile.{IsProfile}
use Rattle.route_lang.specs.Reader.Lines.{shared_command, plans_behind, entries_of, with_front, then_lines, lines_from, no_plans, script_read}
use Rattle.route_lang.specs.Script.{Reading, is_quiet, command_line, script_of}
use Rattle.route_lang.proofs.AgreementLemmas.{script_agrees}
use Rattle.route_lang.specs.Spelling.{words_if, words_at, line_words, command_words, shared_words, joined, profile_text, spelled_line, spelled, numbered, numbered_from, renumbered, ShownTextReadsBack}
use Rattle.route_lang.proofs.AskedLemmas.{IsAskedAt, asked_at, timely_at}
use Rattle.route_lang.proofs.CommandLemmas.{IsAsked, asked_words, asks_same}
use Rattle.route_lang.proofs.LengthLemmas.{asked_short}
use Rattle.route_lang.proofs.FitsLemmas.{Follows, HaveOneProfile, lines_follow, is_script, seam}
use Rattle.route_lang.proofs.WordsLemmas.{is_word, taken-joined, line_cut}
use Rattle.route_lang.specs.declared.asked.Asked.{Asked}
use Rattle.route_lang.specs.declared.asked.Asked.TheVariants.{Nothing, Inet, Inet6, Both, Get4, Get6, Profile}
use Rattle.route_lang.specs.declared.fault.LineFault.{LineFault}
use Rattle.route_lang.specs.declared.fault.Reason.{Reason}
use Rattle.route_lang.specs.declared.fault.Reason.TheVariants.{TooLarge}
use Rattle.route_lang.specs.declared.line.Line.{Line}
use Rattle.route_lang.specs.declared.line.Line.TheVariants as line
use Rattle.route_lang.specs.declared.script.Plans.{Plans}
use Rattle.route_lang.specs.Limits.{input_limit, lines_limit}

-- the script whose lines are spelled
module _ (whole : Reading) (same : whole.inet.profile ≡ whole.profile) (same6 : whole.inet6.profile ≡ whole.profile) where
  text_of : Line → List ℕ
  text_of here = joined (line_words whole here)

  abbrev read : List Line → Result Reading LineFault
  read lines = Ok (record { inet = whole.inet; inet6 = whole.inet6; lines = lines; profile = whole.profile })

  abbrev texts_of : List Line → List (List ℕ)
  texts_of lines = map (λ here. joined (line_words whole here)) lines

  -- the plans, of the script's profile
  abbrev its_plans : Plans → Bool → Plans
  its_plans plans begun = record { inet = plan_under whole.profile plans.inet; inet6 = plan_under whole.profile plans.inet6; begun = begun }

  -- these lines are spelled line by line, and so read behind these plans from any number with room for them
  record ReadBack (plans : Plans) (lines : List Line) : Type 0 where
    texts : lines_of (flat_map (spelled_line whole) lines) ≡ texts_of lines
    reads : (n : ℕ) (begun : Bool) → n + length lines ≤ lines_limit + 1 → lines_from n (its_plans plans begun) (texts_of lines) ≡ read (numbered_from n lines)

  -- the text of a line before those of others
  texts_more : (here : Line) (lines : List Line) → list_all is_word (line_words whole here) ≡ true → lines_of (flat_map (spelled_line whole) lines) ≡ texts_of lines → lines_of (flat_map (spelled_line whole) (here ∷ lines)) ≡ texts_of (here ∷ lines)
  texts_more here lines are later =
      let rest = flat_map (spelled_line whole) lines in
      let text = joined (line_words whole here) in
      ap lines_of (flat_map-cons (spelled_line whole) here lines ∙ append_assoc text (10 ∷ []) rest)
      ∙ line_cut text rest (taken-joined (line_words whole here) are) ∙ ap (λ ts. text ∷ ts) later

  -- one line, of these words
  line_reads : (n : ℕ) (plans : Plans) (asked : Asked) (here : Line) (lines : List Line) → n ≤ lines_limit → IsAsked asked → is_profile asked ≡ false → line_words whole here ≡ asked_words asked → entries_of n plans asked ≡ numbered n here ∷ []
      → lines_from (n + 1) (plans_behind plans asked) (texts_of lines) ≡ read (numbered_from (n + 1) lines) → lines_from n plans (texts_of (here ∷ lines)) ≡ read (numbered_from n (here ∷ lines))
  line_reads n plans asked here lines few is no_profile words entries later =
      let asks : asked_of n (joined (line_words whole here)) ≡ Ok asked = rw words ((asks_same asked is).1 n few (asked_short asked is)) in
      let timely : in_time plans.begun (Ok asked) ≡ Ok asked = rw no_profile refl in
      let below : Plans → Result Reading LineFault = λ behind. lines_from (n + 1) behind (texts_of lines) in
      ap (λ a. then_lines n plans (in_time plans.begun a) below) asks ∙ ap (λ (a : Result Asked Reason). then_lines n plans a below) timely ∙ ap (with_front (entries_of n plans asked)) later ∙ ap (λ (front : List Line). read (front ++ numbered_from (n + 1) lines)) entries

  more_reads : (plans : Plans) (asked : Asked) (here : Line) (lines : List Line) → IsAsked asked → is_profile asked ≡ false → line_words whole here ≡ asked_words asked → ((n : ℕ) (begun : Bool) → entries_of n (its_plans plans begun) asked ≡ numbered n here ∷ [])
      → ((begun : Bool) → plans_behind (its_plans plans begun) asked ≡ its_plans (plans_behind plans asked) true) → ReadBack (plans_behind plans asked) lines → ReadBack plans (here ∷ lines)
  more_reads plans asked here lines is no_profile words entries behind r = record {
    texts = texts_more here lines (rw words (asks_same asked is).0) r.texts;
    reads = λ n begun few. line_reads n (its_plans plans begun) asked here lines (omega (arith, few)) is no_profile words (entries n begun) (ap (λ more. lines_from (n + 1) more (texts_of lines)) (behind begun) ∙ r.reads (n + 1) true (omega (arith, few)));
  }

  -- the line of a command
  words_of_line : (quiet : Bool) (at : ℕ) (inet inet6 : Option ℕ) → line_words whole (command_line quiet at inet inet6) ≡ words_at whole inet inet6
  words_of_line true at inet inet6 = refl
  words_of_line false at inet inet6 = refl

  numbered_line : (quiet : Bool) (n at : ℕ) (inet inet6 : Option ℕ) → command_line quiet n inet inet6 ≡ numbered n (command_line quiet at inet inet6)
  numbered_line true n at inet inet6 = refl
  numbered_line false n at inet inet6 = refl

  one_line : {A : Type 0} (x y : A) → x ≡ y → x ∷ [] ≡ y ∷ []
  one_line x y e = ap (λ z. z ∷ []) e

  asked_back : (at : ℕ) (plans : Plans) (asked : Asked) (more : Reading) → IsAskedAt at asked → Follows (at + 1) (plans_behind plans asked) more → more.inet ≡ whole.inet → more.inet6 ≡ whole.inet6
      → ReadBack (plans_behind plans asked) more.lines → ReadBack plans (entries_of at plans asked ++ more.lines)
  asked_back at plans Nothing more is f inet inet6 r = record { texts = r.texts; reads = r.reads }
  asked_back at plans (Inet c) more is f inet inet6 r =
      let pos : Option ℕ = Some (length plans.inet.commands) in
      let found = seam plans.inet.commands f.more whole.inet.commands c (ap (λ (p : Planned 32). p.commands) (sym inet) ∙ f.inet) in
      let words = words_of_line (is_quiet c) at pos None ∙ ap (words_if command_words) found in
      more_reads plans (Inet c) (command_line (is_quiet c) at pos None) more.lines is.1 refl words (λ n begun. one_line (command_line (is_quiet c) n pos None) (numbered n (command_line (is_quiet c) at pos None)) (numbered_line (is_quiet c) n at pos None)) (λ begun. refl) r
  asked_back at plans (Inet6 c) more is f inet inet6 r =
      let pos : Option ℕ = Some (length plans.inet6.commands) in
      let found = seam plans.inet6.commands f.more6 whole.inet6.commands c (ap (λ (p : Planned 128). p.commands) (sym inet6) ∙ f.inet6) in
      let words = words_of_line (is_quiet c) at None pos ∙ ap (words_if command_words) found in
      more_reads plans (Inet6 c) (command_line (is_quiet c) at None pos) more.lines is.1 refl words (λ n begun. one_line (command_line (is_quiet c) n None pos) (numbered n (command_line (is_quiet c) at None pos)) (numbered_line (is_quiet c) n at None pos)) (λ begun. refl) r
  asked_back at plans (Both s) more is f inet inet6 r =
      let c : Command 32 = shared_command s in
      let pos : Option ℕ = Some (length plans.inet.commands) in
      let pos6 : Option ℕ = Some (length plans.inet6.commands) in
      let found = seam plans.inet.commands f.more whole.inet.commands c (ap (λ (p : Planned 32). p.commands) (sym inet) ∙ f.inet) in
      let words = words_of_line (is_quiet c) at pos pos6 ∙ ap (words_if shared_words) found in
      more_reads plans (Both s) (command_line (is_quiet c) at pos pos6) more.lines is.1 refl words (λ n begun. one_line (command_line (is_quiet c) n pos pos6) (numbered n (command_line (is_quiet c) at pos pos6)) (numbered_line (is_quiet c) n at pos pos6)) (λ begun. refl) r
  asked_back at plans (Get4 a flow) more is f inet inet6 r = more_reads plans (Get4 a flow) (line.Get4 at a flow (length plans.inet.commands)) more.lines is.1 refl refl (λ n begun. refl) (λ begun. refl) r
  asked_back at plans (Get6 a flow) more is f inet inet6 r = more_reads plans (Get6 a flow) (line.Get6 at a flow (length plans.inet6.commands)) more.lines is.1 refl refl (λ n begun. refl) (λ begun. refl) r
  asked_back at plans (Profile n) more is f inet inet6 r = record { texts = r.texts; reads = r.reads }

  -- the same of an answer that is a script of the same plans
  abbrev IfReadBack : Plans → Result Reading LineFault → Type 0
  IfReadBack plans (Ok script) = script.inet ≡ whole.inet → script.inet6 ≡ whole.inet6 → ReadBack plans script.lines
  IfReadBack plans (Err fault) = Unit {0}

  answer_back : (at : ℕ) (plans : Plans) (asked : Result Asked Reason) (below : Plans → Result Reading LineFault) → IfOk asked (IsAskedAt at) → ((behind : Plans) (more : Reading) → below behind ≡ Ok more → Follows (at + 1) behind more) → ((behind : Plans) → IfReadBack behind (below behind))
      → IfReadBack plans (then_lines at plans asked below)
  answer_back at plans (Err reason) below is follows later = tt
  answer_back at plans (Ok asked) below is follows later = there (below (plans_behind plans asked)) (follows (plans_behind plans asked)) (later (plans_behind plans asked))
    where
      there : (r : Result Reading LineFault) → ((more : Reading) → r ≡ Ok more → Follows (at + 1) (plans_behind plans asked) more) → IfReadBack (plans_behind plans asked) r → IfReadBack plans (with_front (entries_of at plans asked) r)
      there (Err fault) follows later = tt
      there (Ok more) follows later = λ inet inet6. asked_back at plans asked more is (follows more refl) inet inet6 (later inet inet6)

  -- a plan of the script's profile
  its_own : {w : ℕ} (plan own : Planned w) → plan ≡ own → own.profile ≡ whole.profile → plan_under whole.profile plan ≡ own
  its_own plan own is profile = ap (plan_under whole.profile) is ∙ ap (λ p. plan_under p own) (sym profile)

  lines_back : (at : ℕ) (plans : Plans) (texts : List (List ℕ)) → IfReadBack plans (lines_from at plans texts)
  lines_back at plans [] = λ inet inet6. record {
    texts = refl;
    reads = λ n begun few. ap (λ (plan : Planned 32). Ok (record { inet = plan; inet6 = plan_under whole.profile plans.inet6; lines = []; profile = whole.profile })) (its_own plans.inet whole.inet inet same) ∙ ap (λ (plan : Planned 128). Ok (record { inet = whole.inet; inet6 = plan; lines = []; profile = whole.profile })) (its_own plans.inet6 whole.inet6 inet6 same6);
  }
  lines_back at plans (text ∷ texts) =
      let later = λ (behind : Plans). lines_back (at + 1) behind texts in
      answer_back at plans (in_time plans.begun (asked_of at text)) (λ behind. lines_from (at + 1) behind texts) (timely_at at plans.begun (asked_of at text) (asked_at at text)) (λ behind more e. lines_follow (at + 1) behind texts more e) later

  -- the line of the profile, where there is one, and the lines behind it
  opens : (profile : ℕ) → whole.profile ≡ profile → IsProfile profile → length whole.lines + profile ≤ lines_limit + 1 → ReadBack no_plans whole.lines
      → lines_from 1 no_plans (lines_of (profile_text profile ++ flat_map (spelled_line whole) whole.lines)) ≡ read (numbered_from profile whole.lines)
  opens zero e is few r = absurd (omega (arith, is.0))
  opens (suc zero) e is few r =
      ap (lines_from 1 no_plans) r.texts
      ∙ ap (λ p. lines_from 1 (record { inet = no_plan p; inet6 = no_plan p; begun = false }) (texts_of whole.lines)) (sym e)
      ∙ r.reads 1 false (omega (arith, few))
  opens (suc (suc zero)) e is few r =
      let lines = flat_map (spelled_line whole) whole.lines in
      let asks : asked_of 1 (codes "profile 2") ≡ Ok (Profile 2) = (asks_same (Profile 2) is).1 1 (omega arith) (asked_short (Profile 2) is) in
      let below : Plans → Result Reading LineFault = λ behind. lines_from 2 behind (texts_of whole.lines) in
      ap (lines_from 1 no_plans) (line_cut (codes "profile 2") lines refl ∙ ap (λ texts. codes "profile 2" ∷ texts) r.texts)
      ∙ ap (λ a. then_lines 1 no_plans (in_time false a) below) asks
      ∙ ap (λ p. with_front [] (below (record { inet = no_plan p; inet6 = no_plan p; begun = true }))) (sym e)
      ∙ ap (with_front []) (r.reads 2 true (omega (arith, few)))
  opens (suc (suc (suc n))) e is few r = absurd (omega (arith, is.1))

  whole_back : (texts : List (List ℕ)) → lines_from 1 no_plans texts ≡ Ok whole → length (spelled whole) ≤ input_limit → script_read (spelled whole) ≡ Ok (renumbered whole)
  whole_back texts e few =
      let r = subst (IfReadBack no_plans) e (lines_back 1 no_plans texts) refl refl in
      let follows = lines_follow 1 no_plans texts whole e in
      let one : HaveOneProfile no_plans = ((omega arith, omega arith), refl) in
      let small : nat_lt input_limit (length (spelled whole)) ≡ false = too_many (length (spelled whole)) few in
      rw small (opens whole.profile refl (follows.profile one).0 (omega (arith, follows.few one)) r)
    where
      too_many : (n : ℕ) → n ≤ input_limit → nat_lt input_limit n ≡ false
      too_many n few = grind (arith, nat_tests)

pub shown_text_reads_back : ShownTextReadsBack
shown_text_reads_back bytes script e few = sym (script_agrees (spelled script)) ∙ small (nat_lt input_limit (length bytes)) (script_agrees bytes ∙ e)
  where
    small : (large : Bool) → cond large (Err (record { line = 0; reason = TooLarge })) (lines_from 1 no_plans (lines_of bytes)) ≡ Ok script → script_read (spelled script) ≡ Ok (renumbered script)
    small true e = cc
    small false e = let is = is_script (lines_of bytes) script e in whole_back script is.inet is.inet6 (lines_of bytes) e few
