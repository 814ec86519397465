-- What the reader and the generator get line by line is what the definitions say of all lines.
use Rattle.std.proofs.Common.{◌≡◌, ◌∙◌, ℕ, zero, suc, ◌+◌, ◌%◌, ◌==◌, Bool, true, false, cond, nat_lt, List, [], ◌∷◌, ◌++◌, Option, Some, None, Result, Ok, Err, length, flat_map, refl, sym, ap, append_assoc, append-nil}
use Rattle.std.specs.List.{cons_option, enumerate_from, filter_map, slice_get}
use Rattle.std.specs.Prelude.{map, option_map}
use Rattle.std.specs.Result.{result_err, result_map_both, result_ok, result_transpose}
use Rattle.std.proofs.lemmas.Grind.{flat_map-append}
use Rattle.rib_store.specs.declared.command.Command.{Command}
use Rattle.route_lang.specs.Reader.Asked.{asked_of, is_profile, in_time, request_by, requested, shared_request}
use Rattle.route_lang.specs.Generator.{draw, state_after, DrawnLine, drawn_line, drawn_lines, generated}
use Rattle.route_lang.specs.Grammar.{unless_faulty}
use Rattle.route_lang.specs.Limits.{input_limit}
use Rattle.route_lang.specs.Reader.Lines.{plans_behind, entries_of, with_front, then_lines, lines_from, script_read}
use Rattle.route_lang.specs.Reader.Draws.{AskedDraw, asked_line, led_by, generated_from, script_drawn}
use Rattle.route_lang.specs.Request.{Request, OfInet, OfInet6, OfBoth, LookUp, LookUp6, OfProfile}
use Rattle.route_lang.specs.Script.{Reading, inet_commands, inet6_commands, inet_plan, inet6_plan, profile_of, line_behind, lines_behind, answer_of, unless_late, in_turn, input_too_large, script_of}
use Rattle.route_lang.specs.Text.{lines_of}
use Rattle.route_lang.proofs.AskedAgreementLemmas.{asked_agrees}
use Rattle.route_lang.specs.declared.asked.Asked.{Asked}
use Rattle.route_lang.specs.declared.asked.Asked.TheVariants.{Nothing, Inet, Inet6, Both, Get4, Get6, Profile}
use Rattle.route_lang.specs.declared.asked.Shared.TheVariants as shared
use Rattle.route_lang.specs.declared.fault.LineFault.{LineFault}
use Rattle.route_lang.specs.declared.fault.Reason.{Reason}
use Rattle.route_lang.specs.declared.line.Line.{Line}
use Rattle.route_lang.specs.declared.script.Plans.{Plans}

-- what lines ask for, unless one is faulty
abbrev script_unless : Option LineFault → Reading → Result Reading LineFault
script_unless fault script = unless_faulty fault (Ok script)

-- ---- one request more

-- whether there is a request
abbrev is_begun : List (ℕ × Request) → Bool
is_begun [] = false
is_begun (first ∷ done) = true

-- the plans of these requests
abbrev plans_of : List (ℕ × Request) → Plans
plans_of done = record { inet = inet_plan done; inet6 = inet6_plan done; begun = is_begun done }

-- the plans of a profile and these commands, where there is a request
abbrev plans_with : ℕ → List (Command 32) → List (Command 128) → Plans
plans_with profile cs cs6 = record { inet = record { profile = profile; commands = cs }; inet6 = record { profile = profile; commands = cs6 }; begun = true }

begun_more : (done : List (ℕ × Request)) (here : ℕ × Request) → is_begun (done ++ here ∷ []) ≡ true
begun_more [] here = refl
begun_more (first ∷ done) here = refl

-- the first request alone says of what profile a script is
pub profile_stays : (first : ℕ × Request) (some others : List (ℕ × Request)) → profile_of (first ∷ some) ≡ profile_of (first ∷ others)
profile_stays (n, OfInet c) some others = refl
profile_stays (n, OfInet6 c) some others = refl
profile_stays (n, OfBoth s) some others = refl
profile_stays (n, LookUp addr flow) some others = refl
profile_stays (n, LookUp6 addr flow) some others = refl
profile_stays (n, OfProfile profile) some others = refl

profile_more : (done : List (ℕ × Request)) (n : ℕ) (r : Request) → profile_of ((n, r) ∷ []) ≡ 1 → profile_of (done ++ (n, r) ∷ []) ≡ profile_of done
profile_more [] n r e = e
profile_more (first ∷ done) n r e = profile_stays first (done ++ (n, r) ∷ []) done

one_more : {A B : Type 0} (f : A → List B) (xs : List A) (x : A) → flat_map f (xs ++ x ∷ []) ≡ flat_map f xs ++ f x
one_more f xs x = flat_map-append f xs (x ∷ []) ∙ ap (λ ys. flat_map f xs ++ ys) (append-nil (f x))

plans_more : (done : List (ℕ × Request)) (n : ℕ) (r : Request) → profile_of ((n, r) ∷ []) ≡ 1
    → plans_of (done ++ (n, r) ∷ []) ≡ plans_with (profile_of done) ((inet_plan done).commands ++ inet_commands r) ((inet6_plan done).commands ++ inet6_commands r)
plans_more done n r e =
    let more = done ++ (n, r) ∷ [] in
    ap (λ begun. record { inet = inet_plan more; inet6 = inet6_plan more; begun = begun }) (begun_more done (n, r))
    ∙ ap (λ profile. plans_with profile (inet_plan more).commands (inet6_plan more).commands) (profile_more done n r e)
    ∙ ap (λ cs. plans_with (profile_of done) cs (inet6_plan more).commands) (one_more (λ (here : ℕ × Request). inet_commands here.1) done (n, r))
    ∙ ap (λ cs6. plans_with (profile_of done) ((inet_plan done).commands ++ inet_commands r) cs6) (one_more (λ (here : ℕ × Request). inet6_commands here.1) done (n, r))

-- none of this family's
no_inet : (done : List (ℕ × Request)) (cs6 : List (Command 128)) → plans_with (profile_of done) ((inet_plan done).commands ++ []) cs6 ≡ plans_with (profile_of done) (inet_plan done).commands cs6
no_inet done cs6 = ap (λ cs. plans_with (profile_of done) cs cs6) (append-nil (inet_plan done).commands)

no_inet6 : (done : List (ℕ × Request)) (cs : List (Command 32)) → plans_with (profile_of done) cs ((inet6_plan done).commands ++ []) ≡ plans_with (profile_of done) cs (inet6_plan done).commands
no_inet6 done cs = ap (λ cs6. plans_with (profile_of done) cs cs6) (append-nil (inet6_plan done).commands)

-- these requests and that of a line, where it has one
abbrev taken : List (ℕ × Request) → ℕ → Option Request → List (ℕ × Request)
taken done n None = done
taken done n (Some r) = done ++ (n, r) ∷ []

-- the plans behind a line are those of the requests with its own
plans_agree : (done : List (ℕ × Request)) (n : ℕ) (asked : Asked) → in_time (is_begun done) (Ok asked) ≡ Ok asked → plans_behind (plans_of done) asked ≡ plans_of (taken done n (request_by asked))
plans_agree done n Nothing e = refl
plans_agree done n (Inet c) e = sym (plans_more done n (OfInet c) refl ∙ no_inet6 done _)
plans_agree done n (Inet6 c) e = sym (plans_more done n (OfInet6 c) refl ∙ no_inet done _)
plans_agree done n (Both shared.Flush) e = sym (plans_more done n (OfBoth (shared_request shared.Flush)) refl)
plans_agree done n (Both (shared.Tick ms)) e = sym (plans_more done n (OfBoth (shared_request (shared.Tick ms))) refl)
plans_agree done n (Both shared.Sync) e = sym (plans_more done n (OfBoth (shared_request shared.Sync)) refl)
plans_agree done n (Get4 addr flow) e = sym (plans_more done n (LookUp addr flow) refl ∙ no_inet done _ ∙ no_inet6 done _)
plans_agree done n (Get6 addr flow) e = sym (plans_more done n (LookUp6 addr flow) refl ∙ no_inet done _ ∙ no_inet6 done _)
plans_agree [] n (Profile profile) e = refl
plans_agree (first ∷ done) n (Profile profile) e = cc

-- the line of a request, where there is one
abbrev line_if : List (ℕ × Request) → ℕ → Option Request → List Line
line_if done n None = []
line_if done n (Some r) = cons_option (line_behind done (n, r)) []

entries_agree : (done : List (ℕ × Request)) (n : ℕ) (asked : Asked) → entries_of n (plans_of done) asked ≡ line_if done n (request_by asked)
entries_agree done n Nothing = refl
entries_agree done n (Inet c) = refl
entries_agree done n (Inet6 c) = refl
entries_agree done n (Both shared.Flush) = refl
entries_agree done n (Both (shared.Tick ms)) = refl
entries_agree done n (Both shared.Sync) = refl
entries_agree done n (Get4 addr flow) = refl
entries_agree done n (Get6 addr flow) = refl
entries_agree done n (Profile profile) = refl

-- ---- the lines behind others

abbrev reading_with : List Line → List (ℕ × Request) → Reading
reading_with lines asked = record { inet = inet_plan asked; inet6 = inet6_plan asked; lines = lines; profile = profile_of asked }

-- what is made of these requests behind those
abbrev made_behind : List (ℕ × Request) → List (ℕ × Request) → Reading
made_behind done later = reading_with (lines_behind done later) (done ++ later)

alone_first : {A : Type 0} (o : Option A) (xs : List A) → cons_option o [] ++ xs ≡ cons_option o xs
alone_first None xs = refl
alone_first (Some x) xs = refl

made_first : (done later : List (ℕ × Request)) (n : ℕ) (r : Request) → led_by (cons_option (line_behind done (n, r)) []) (made_behind (done ++ (n, r) ∷ []) later) ≡ made_behind done ((n, r) ∷ later)
made_first done later n r =
    let more = done ++ (n, r) ∷ [] in
    ap (λ lines. reading_with lines (more ++ later)) (alone_first (line_behind done (n, r)) (lines_behind more later))
    ∙ ap (reading_with (lines_behind done ((n, r) ∷ later))) (append_assoc done ((n, r) ∷ []) later)

-- the answers behind these requests
abbrev turned : Bool → List (Result (ℕ × Request) LineFault) → List (Result (ℕ × Request) LineFault)
turned true answers = map unless_late answers
turned false answers = in_turn answers

turned_first : (done : List (ℕ × Request)) (first : Result (ℕ × Request) LineFault) (later : List (Result (ℕ × Request) LineFault)) → unless_late first ≡ first → turned (is_begun done) (first ∷ later) ≡ first ∷ map unless_late later
turned_first [] first later e = refl
turned_first (here ∷ done) first later e = ap (λ answer. answer ∷ map unless_late later) e

-- the script that answers make behind these requests
abbrev script_by : List (ℕ × Request) → List (Result (ℕ × Request) LineFault) → Result Reading LineFault
script_by done answers = script_unless (slice_get (filter_map result_err answers) 0) (made_behind done (filter_map result_ok answers))

front_agrees : (done : List (ℕ × Request)) (n : ℕ) (r : Request) (answers : List (Result (ℕ × Request) LineFault))
    → with_front (cons_option (line_behind done (n, r)) []) (script_by (done ++ (n, r) ∷ []) answers) ≡ script_by done (Ok (n, r) ∷ answers)
front_agrees done n r answers = by_fault (slice_get (filter_map result_err answers) 0)
  where
    by_fault : (fault : Option LineFault)
        → with_front (cons_option (line_behind done (n, r)) []) (script_unless fault (made_behind (done ++ (n, r) ∷ []) (filter_map result_ok answers))) ≡ script_unless fault (made_behind done ((n, r) ∷ filter_map result_ok answers))
    by_fault (Some fault) = refl
    by_fault None = ap Ok (made_first done (filter_map result_ok answers) n r)

no_front : (r : Result Reading LineFault) → with_front [] r ≡ r
no_front (Ok script) = refl
no_front (Err fault) = refl

-- what a line answers, given what it asks for
abbrev answer_at : ℕ → Result (Option Request) Reason → Option (Result (ℕ × Request) LineFault)
answer_at n asked = result_transpose (result_map_both (option_map (λ request. (n, request))) (λ reason. record { line = n; reason = reason }) asked)

-- what the lines below agree with, whatever is before them
abbrev BelowAgrees : (Plans → Result Reading LineFault) → List (Result (ℕ × Request) LineFault) → Type 0
BelowAgrees below answers = (more : List (ℕ × Request)) → below (plans_of more) ≡ script_by more (turned (is_begun more) answers)

-- a line whose request is in time
taken_line : (done : List (ℕ × Request)) (n : ℕ) (asked : Asked) (r : Request) (answers : List (Result (ℕ × Request) LineFault)) (below : Plans → Result Reading LineFault)
    → request_by asked ≡ Some r → in_time (is_begun done) (Ok asked) ≡ Ok asked → turned (is_begun done) (Ok (n, r) ∷ answers) ≡ Ok (n, r) ∷ map unless_late answers → BelowAgrees below answers
    → then_lines n (plans_of done) (in_time (is_begun done) (Ok asked)) below ≡ script_by done (turned (is_begun done) (cons_option (answer_at n (Ok (request_by asked))) answers))
taken_line done n asked r answers below is timely first h =
    let more = done ++ (n, r) ∷ [] in
    let entries = entries_of n (plans_of done) asked in
    ap (λ (a : Result Asked Reason). then_lines n (plans_of done) a below) timely
    ∙ ap (λ plans. with_front entries (below plans)) (plans_agree done n asked timely ∙ ap (λ o. plans_of (taken done n o)) is)
    ∙ ap (with_front entries) (h more ∙ ap (λ begun. script_by more (turned begun answers)) (begun_more done (n, r)))
    ∙ ap (λ front. with_front front (script_by more (map unless_late answers))) (entries_agree done n asked ∙ ap (line_if done n) is)
    ∙ front_agrees done n r (map unless_late answers)
    ∙ ap (script_by done) (sym first)
    ∙ ap (λ o. script_by done (turned (is_begun done) (cons_option (answer_at n (Ok o)) answers))) (sym is)

line_agrees : (done : List (ℕ × Request)) (n : ℕ) (asked : Result Asked Reason) (answers : List (Result (ℕ × Request) LineFault)) (below : Plans → Result Reading LineFault) → BelowAgrees below answers
    → then_lines n (plans_of done) (in_time (is_begun done) asked) below ≡ script_by done (turned (is_begun done) (cons_option (answer_at n (requested asked)) answers))
line_agrees [] n (Err reason) answers below h = refl
line_agrees (first ∷ done) n (Err reason) answers below h = refl
line_agrees done n (Ok Nothing) answers below h = no_front (below (plans_of done)) ∙ h done
line_agrees done n (Ok (Inet c)) answers below h = taken_line done n (Inet c) (OfInet c) answers below refl refl (turned_first done (Ok (n, OfInet c)) answers refl) h
line_agrees done n (Ok (Inet6 c)) answers below h = taken_line done n (Inet6 c) (OfInet6 c) answers below refl refl (turned_first done (Ok (n, OfInet6 c)) answers refl) h
line_agrees done n (Ok (Both s)) answers below h = taken_line done n (Both s) (OfBoth (shared_request s)) answers below refl refl (turned_first done (Ok (n, OfBoth (shared_request s))) answers refl) h
line_agrees done n (Ok (Get4 addr flow)) answers below h = taken_line done n (Get4 addr flow) (LookUp addr flow) answers below refl refl (turned_first done (Ok (n, LookUp addr flow)) answers refl) h
line_agrees done n (Ok (Get6 addr flow)) answers below h = taken_line done n (Get6 addr flow) (LookUp6 addr flow) answers below refl refl (turned_first done (Ok (n, LookUp6 addr flow)) answers refl) h
line_agrees [] n (Ok (Profile profile)) answers below h = taken_line [] n (Profile profile) (OfProfile profile) answers below refl refl refl h
line_agrees (first ∷ done) n (Ok (Profile profile)) answers below h = refl

lines_agree : (done : List (ℕ × Request)) (n : ℕ) (texts : List (List ℕ)) → lines_from n (plans_of done) texts ≡ script_by done (turned (is_begun done) (filter_map answer_of (enumerate_from n texts)))
lines_agree [] n [] = refl
lines_agree (first ∷ done) n [] = sym (ap (λ asked. script_unless None (reading_with [] asked)) (append-nil (first ∷ done)))
lines_agree done n (text ∷ texts) =
    let answers = filter_map answer_of (enumerate_from (n + 1) texts) in
    line_agrees done n (asked_of n text) answers (λ behind. lines_from (n + 1) behind texts) (λ more. lines_agree more (n + 1) texts)
    ∙ ap (λ asked. script_by done (turned (is_begun done) (cons_option (answer_at n asked) answers))) (asked_agrees n text)

-- the script that is read line by line is the definition's
pub script_agrees : (bytes : List ℕ) → script_read bytes ≡ script_of bytes
script_agrees bytes = ap (λ (script : Result Reading LineFault). cond (nat_lt input_limit (length bytes)) (Err input_too_large) script) (lines_agree [] 1 (lines_of bytes))

-- ---- lines that are drawn

record SameDraw (asked : AskedDraw) (drawn : DrawnLine) : Type 0 where
  request : request_by asked.asked ≡ Some drawn.request
  draws : asked.draws ≡ drawn.draws
  timely : is_profile asked.asked ≡ false

same_draw : (x : ℕ) → SameDraw (asked_line x) (drawn_line x)
same_draw x =
    let kind = draw 1 x % 16 in
    choice (nat_lt kind 8) (kind == 8) (kind == 9) (kind == 10) _ _ _ _ _ _ _ _ _ _
    (record { request = refl; draws = refl; timely = refl }) (record { request = refl; draws = refl; timely = refl }) (record { request = refl; draws = refl; timely = refl }) (record { request = refl; draws = refl; timely = refl }) (record { request = refl; draws = refl; timely = refl })
  where
    choice : (a b c d : Bool) (l m n o p : AskedDraw) (q r s t u : DrawnLine) → SameDraw l q → SameDraw m r → SameDraw n s → SameDraw o t → SameDraw p u
        → SameDraw (cond a l (cond b m (cond c n (cond d o p)))) (cond a q (cond b r (cond c s (cond d t u))))
    choice true b c d l m n o p q r s t u first second third fourth fifth = first
    choice false true c d l m n o p q r s t u first second third fourth fifth = second
    choice false false true d l m n o p q r s t u first second third fourth fifth = third
    choice false false false true l m n o p q r s t u first second third fourth fifth = fourth
    choice false false false false l m n o p q r s t u first second third fourth fifth = fifth

draw_agrees : (done later : List (ℕ × Request)) (at : ℕ) (asked : Asked) (request : Request) (below : Plans → Reading) → request_by asked ≡ Some request → is_profile asked ≡ false
    → ((more : List (ℕ × Request)) → below (plans_of more) ≡ made_behind more later)
    → led_by (entries_of at (plans_of done) asked) (below (plans_behind (plans_of done) asked)) ≡ made_behind done ((at, request) ∷ later)
draw_agrees done later at asked request below e no_profile h =
    let more = done ++ (at, request) ∷ [] in
    let timely : in_time (is_begun done) (Ok asked) ≡ Ok asked = rw no_profile refl in
    ap (λ plans. led_by (entries_of at (plans_of done) asked) (below plans)) (plans_agree done at asked timely ∙ ap (λ o. plans_of (taken done at o)) e)
    ∙ ap (led_by (entries_of at (plans_of done) asked)) (h more)
    ∙ ap (λ front. led_by front (made_behind more later)) (entries_agree done at asked ∙ ap (line_if done at) e)
    ∙ made_first done later at request

draws_agree : (count at : ℕ) (done : List (ℕ × Request)) (x : ℕ) → generated_from count at (plans_of done) x ≡ made_behind done (enumerate_from at (drawn_lines count x))
draws_agree zero at done x = sym (ap (reading_with []) (append-nil done))
draws_agree (suc n) at done x =
    let same = same_draw x in
    let behind = state_after (drawn_line x).draws x in
    draw_agrees done (enumerate_from (at + 1) (drawn_lines n behind)) at (asked_line x).asked (drawn_line x).request (λ plans. generated_from n (at + 1) plans (state_after (asked_line x).draws x)) same.request same.timely
    (λ more. ap (λ k. generated_from n (at + 1) (plans_of more) (state_after k x)) same.draws ∙ draws_agree n (at + 1) more behind)

-- the script that is drawn line by line is the definition's
pub drawn_agrees : (seed count : ℕ) → script_drawn seed count ≡ generated seed count
drawn_agrees seed count = draws_agree count 1 [] seed
