-- The laws of the script grammar hold.
use Rattle.std.proofs.Common.{◌≡◌, ◌⊎◌, ◌∙◌, ℕ, List, [], ◌∷◌, ◌++◌, Option, Some, None, Result, Ok, Err, inl, inr, refl, sym, ap, append_assoc, append-nil}
use Rattle.std.specs.Prelude.{All, map, option_map}
use Rattle.std.specs.List.{cons_option, filter_map, slice_get}
use Rattle.std.specs.Result.{result_err, result_map_both, result_ok, result_transpose}
use Rattle.std.proofs.lemmas.Grind.{flat_map-append}
use Rattle.std.proofs.lemmas.List.{map-append}
use Rattle.std.proofs.lemmas.List.Elements.{All-nil, All-cons, filter_map-append}
use Rattle.route_lang.specs.Grammar.{unless_faulty, asked_for}
use Rattle.route_lang.specs.Laws.{FirstFaultDecides, SkippedLineIsNone, BeginsWith, LinesBeforeAgree}
use Rattle.route_lang.specs.Request.{Request}
use Rattle.route_lang.specs.Script.{Reading, inet_commands, inet6_commands, inet_plan, inet6_plan, profile_of, line_behind, lines_behind, made_of, answer_of, unless_late, in_turn, script_from}
use Rattle.route_lang.specs.declared.fault.LineFault.{LineFault}
use Rattle.route_lang.specs.declared.fault.Reason.{Reason}
use Rattle.route_lang.proofs.AgreementLemmas.{profile_stays}

-- what lines ask for, unless one is faulty
abbrev script_unless : Option LineFault → Reading → Result Reading LineFault
script_unless fault script = unless_faulty fault (Ok script)

abbrev script_by : List (Result (ℕ × Request) LineFault) → Result Reading LineFault
script_by answers = script_unless (slice_get (filter_map result_err answers) 0) (made_of (filter_map result_ok answers))

-- ---- answers behind others

abbrev turned_behind : List (Result (ℕ × Request) LineFault) → List (Result (ℕ × Request) LineFault) → List (Result (ℕ × Request) LineFault)
turned_behind [] later = in_turn later
turned_behind (first ∷ answers) later = map unless_late later

turned_joined : (answers later : List (Result (ℕ × Request) LineFault)) → in_turn (answers ++ later) ≡ in_turn answers ++ turned_behind answers later
turned_joined [] later = refl
turned_joined (first ∷ answers) later = ap (λ turned. first ∷ turned) (map-append unless_late answers later)

lines_joined : (lines later : List (ℕ × List ℕ)) → in_turn (filter_map answer_of (lines ++ later)) ≡ in_turn (filter_map answer_of lines) ++ turned_behind (filter_map answer_of lines) (filter_map answer_of later)
lines_joined lines later = ap in_turn (filter_map-append answer_of lines later) ∙ turned_joined (filter_map answer_of lines) (filter_map answer_of later)

-- ---- the first fault

fault_stays : (faults later : List LineFault) (script whole : Reading) (fault : LineFault) → script_unless (slice_get faults 0) script ≡ Err fault → script_unless (slice_get (faults ++ later) 0) whole ≡ Err fault
fault_stays [] later script whole fault e = cc
fault_stays (first ∷ faults) later script whole fault e = e

pub first_fault_decides : FirstFaultDecides
first_fault_decides lines later fault e =
    let first = in_turn (filter_map answer_of lines) in
    let rest = turned_behind (filter_map answer_of lines) (filter_map answer_of later) in
    let whole = made_of (filter_map result_ok (first ++ rest)) in
    ap script_by (lines_joined lines later)
    ∙ ap (λ faults. script_unless (slice_get faults 0) whole) (filter_map-append result_err first rest)
    ∙ fault_stays (filter_map result_err first) (filter_map result_err rest) (made_of (filter_map result_ok first)) whole fault e

-- ---- lines that are skipped

-- what a line answers, given what it asks for
abbrev answer_at : ℕ → Result (Option Request) Reason → Option (Result (ℕ × Request) LineFault)
answer_at n asked = result_transpose (result_map_both (option_map (λ request. (n, request))) (λ reason. record { line = n; reason = reason }) asked)

passed_over : {Y : Type 0} (h : ℕ × List ℕ → Option Y) (before after : List (ℕ × List ℕ)) (here : ℕ × List ℕ) → h here ≡ None → filter_map h (before ++ here ∷ after) ≡ filter_map h (before ++ after)
passed_over h [] after here e = ap (λ o. cons_option o (filter_map h after)) e
passed_over h (first ∷ before) after here e = ap (cons_option (h first)) (passed_over h before after here e)

pub skipped_line_is_none : SkippedLineIsNone
skipped_line_is_none before after number text e = ap (λ answers. script_by (in_turn answers)) (passed_over answer_of before after (number, text) (ap (answer_at number) e))

-- ---- the lines before

first_joined : {A : Type 0} (o : Option A) (xs ys : List A) → cons_option o (xs ++ ys) ≡ cons_option o xs ++ ys
first_joined None xs ys = refl
first_joined (Some x) xs ys = refl

lines_join : (done first later : List (ℕ × Request)) → lines_behind done (first ++ later) ≡ lines_behind done first ++ lines_behind (done ++ first) later
lines_join done [] later = ap (λ all. lines_behind all later) (sym (append-nil done))
lines_join done (here ∷ first) later =
    let more = done ++ here ∷ [] in
    ap (cons_option (line_behind done here)) (lines_join more first later ∙ ap (λ all. lines_behind more first ++ lines_behind all later) (append_assoc done (here ∷ []) first))
    ∙ first_joined (line_behind done here) (lines_behind more first) (lines_behind (done ++ here ∷ first) later)

no_fault : (faults later : List LineFault) (script made whole : Reading) → script_unless (slice_get (faults ++ later) 0) made ≡ Ok whole → (script_unless (slice_get faults 0) script ≡ Ok script) × (whole ≡ made)
no_fault [] [] script made whole e = (refl, cc)
no_fault [] (fault ∷ later) script made whole e = cc
no_fault (fault ∷ faults) later script made whole e = cc

nothing_asked : (n : ℕ) (asked : Result (Option Request) Reason) → answer_at n asked ≡ None → asked ≡ Ok None
nothing_asked n (Err reason) e = cc
nothing_asked n (Ok None) e = refl
nothing_asked n (Ok (Some request)) e = cc

none_first : {A : Type 0} (o : Option A) (xs : List A) → cons_option o xs ≡ [] → (o ≡ None) × (xs ≡ [])
none_first None xs e = (refl, e)
none_first (Some x) xs e = cc

-- lines without an answer are blank or comments
nothing_answered : (lines : List (ℕ × List ℕ)) → filter_map answer_of lines ≡ [] → All (λ here. asked_for here.0 here.1 ≡ Ok None) lines
nothing_answered [] e = All-nil (λ (here : ℕ × List ℕ). asked_for here.0 here.1 ≡ Ok None)
nothing_answered (here ∷ lines) e =
    let parts = none_first (answer_of here) (filter_map answer_of lines) e in
    All-cons (λ (here : ℕ × List ℕ). asked_for here.0 here.1 ≡ Ok None) here lines (nothing_asked here.0 (asked_for here.0 here.1) parts.0) (nothing_answered lines parts.1)

-- where no line is faulty, the first answer says the profile
profile_agrees : (lines : List (ℕ × List ℕ)) (answers : List (Result (ℕ × Request) LineFault)) (rest : List (ℕ × Request)) (script : Reading) → filter_map answer_of lines ≡ answers → script_unless (slice_get (filter_map result_err (in_turn answers)) 0) script ≡ Ok script
    → All (λ here. asked_for here.0 here.1 ≡ Ok None) lines ⊎ (profile_of (filter_map result_ok (in_turn answers) ++ rest) ≡ profile_of (filter_map result_ok (in_turn answers)))
profile_agrees lines [] rest script e fine = inl (nothing_answered lines e)
profile_agrees lines (Ok first ∷ answers) rest script e fine = inr (profile_stays first (filter_map result_ok (map unless_late answers) ++ rest) (filter_map result_ok (map unless_late answers)))
profile_agrees lines (Err fault ∷ answers) rest script e fine = cc

with_profile : (lines : List (ℕ × List ℕ)) (first rest : List (ℕ × Request)) (whole : Reading) → whole ≡ made_of (first ++ rest) → All (λ here. asked_for here.0 here.1 ≡ Ok None) lines ⊎ (profile_of (first ++ rest) ≡ profile_of first)
    → All (λ here. asked_for here.0 here.1 ≡ Ok None) lines ⊎ (whole.profile ≡ (made_of first).profile)
with_profile lines first rest whole e (inl blank) = inl blank
with_profile lines first rest whole e (inr same) = inr (ap (λ (script : Reading). script.profile) e ∙ same)

pub lines_before_agree : LinesBeforeAgree
lines_before_agree lines later whole e =
    let before = in_turn (filter_map answer_of lines) in
    let behind = turned_behind (filter_map answer_of lines) (filter_map answer_of later) in
    let first = filter_map result_ok before in
    let rest = filter_map result_ok behind in
    let joined = ap script_by (lines_joined lines later)
    ∙ ap (λ faults. script_unless (slice_get faults 0) (made_of (filter_map result_ok (before ++ behind)))) (filter_map-append result_err before behind)
    ∙ ap (λ asked. script_unless (slice_get (filter_map result_err before ++ filter_map result_err behind) 0) (made_of asked)) (filter_map-append result_ok before behind) in
    let parts = no_fault (filter_map result_err before) (filter_map result_err behind) (made_of first) (made_of (first ++ rest)) whole (sym joined ∙ e) in
    record {
      script = made_of first;
      read = parts.0;
      more = (inet_plan rest).commands;
      more6 = (inet6_plan rest).commands;
      later = lines_behind first rest;
      inet = ap (λ (script : Reading). script.inet.commands) parts.1 ∙ flat_map-append (λ (here : ℕ × Request). inet_commands here.1) first rest;
      inet6 = ap (λ (script : Reading). script.inet6.commands) parts.1 ∙ flat_map-append (λ (here : ℕ × Request). inet6_commands here.1) first rest;
      lines = ap (λ (script : Reading). script.lines) parts.1 ∙ lines_join [] first rest;
      profile = with_profile lines first rest whole parts.1 (profile_agrees lines (filter_map answer_of lines) rest (made_of first) refl parts.0);
    }
