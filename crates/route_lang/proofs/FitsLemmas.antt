-- Every script that the grammar gives keeps its facts, and what a walk over its lines has of them.
use Rattle.std.proofs.Common.{◌≡◌, ◌∙◌, ℕ, ◌+◌, ◌-◌, ◌<◌, ◌≤◌, Bool, true, false, List, [], ◌∷◌, ◌++◌, Option, Some, None, Result, Ok, Err, length, drop, MatchOption, IfOk, not, zero, suc, refl, sym, ap, subst, arith, append_assoc, append-nil, length-append}
use Rattle.std.specs.List.{slice_get}
use Rattle.std.proofs.lemmas.Option.{slice_get_within, slice_get-get_or, get_or_from_slice_get}
use Rattle.std.proofs.lemmas.List.{drop_more}
use Rattle.std.proofs.Math.Seq.{get_or-append_seam}
use Rattle.rib_store.specs.declared.command.Command.{Command}
use Rattle.rib_store.specs.declared.command.Command.TheVariants as command
use Rattle.rib_store.specs.Profile.{IsProfile}
use Rattle.route_lang.specs.Reader.Asked.{asked_of, in_time}
use Rattle.route_lang.proofs.AskedLemmas.{IsAskedAt, asked_at, timely_at}
use Rattle.route_lang.proofs.CommandLemmas.{IsCommand}
use Rattle.rib_store.specs.Plan.{Planned}
use Rattle.route_lang.specs.Reader.Lines.{shared_command, plans_behind, entries_of, with_front, then_lines, lines_from, no_plans}
use Rattle.route_lang.specs.Script.{Reading, is_quiet, command_line}
use Rattle.route_lang.specs.Reader.Asked.{shared_request}
use Rattle.route_lang.specs.Fits.{Positions, behind, positions_behind, Rises, HasAt, FitsLine, Fits, HasCommands, is_algo, IsScript}
use Rattle.route_lang.specs.declared.asked.Asked.{Asked}
use Rattle.route_lang.specs.declared.asked.Asked.TheVariants.{Nothing, Inet, Inet6, Both, Get4, Get6, Profile}
use Rattle.route_lang.specs.declared.asked.Shared.{Shared}
use Rattle.route_lang.specs.declared.asked.Shared.TheVariants as shared
use Rattle.route_lang.specs.declared.line.Line.{Line}
use Rattle.route_lang.specs.declared.line.Line.TheVariants as line
use Rattle.route_lang.specs.declared.fault.LineFault.{LineFault}
use Rattle.route_lang.specs.declared.fault.Reason.{Reason}
use Rattle.route_lang.specs.declared.script.Plans.{Plans}
use Rattle.route_lang.specs.Limits.{lines_limit}

-- ---- the line of a command

-- the command behind a list stands at its length
pub seam : {w : ℕ} (xs more whole : List (Command w)) (c : Command w) → whole ≡ (xs ++ c ∷ []) ++ more → slice_get whole (length xs) ≡ Some c
seam xs more whole c e =
    let long = length-append xs (c ∷ more) in
    rw (e ∙ append_assoc xs (c ∷ []) more)
    (slice_get-get_or (xs ++ c ∷ more) (length xs) c (omega arith) ∙ ap Some (get_or-append_seam xs c more c))

module _ (plan : Planned 32) (plan6 : Planned 128) (at : Positions) (number : ℕ) where
  line_fits : (pos : ℕ) (c : Command 32) → IsCommand 32 c → pos ≡ at.inet → slice_get plan.commands pos ≡ Some c → FitsLine plan plan6 at (command_line (is_quiet c) number (Some pos) None)
  line_fits pos (command.Add prefix path) own e found = (e, rw found refl)
  line_fits pos (command.Change prefix path) own e found = (e, rw found refl)
  line_fits pos (command.Delete prefix gateway) own e found = (e, rw found refl)
  line_fits pos command.Flush own e found = (e, rw found refl)
  line_fits pos (command.Tick ms) own e found = absurd own
  line_fits pos command.Sync own e found = absurd own
  line_fits pos (command.Algo setting) own e found = (e, rw found refl)

  line_fits6 : (pos : ℕ) (c : Command 128) → IsCommand 128 c → pos ≡ at.inet6 → slice_get plan6.commands pos ≡ Some c → FitsLine plan plan6 at (command_line (is_quiet c) number None (Some pos))
  line_fits6 pos (command.Add prefix path) own e found = (e, rw found refl)
  line_fits6 pos (command.Change prefix path) own e found = (e, rw found refl)
  line_fits6 pos (command.Delete prefix gateway) own e found = (e, rw found refl)
  line_fits6 pos command.Flush own e found = (e, rw found refl)
  line_fits6 pos (command.Tick ms) own e found = absurd own
  line_fits6 pos command.Sync own e found = absurd own
  line_fits6 pos (command.Algo setting) own e found = (e, rw found refl)

  both_fit : (pos pos6 : ℕ) (s : Shared) → pos ≡ at.inet → pos6 ≡ at.inet6 → slice_get plan.commands pos ≡ Some (shared_command s) → slice_get plan6.commands pos6 ≡ Some (shared_command s)
      → FitsLine plan plan6 at (command_line (is_quiet {w = 32} (shared_command s)) number (Some pos) (Some pos6))
  both_fit pos pos6 shared.Flush e e6 found found6 = (e, e6, record { shared = shared_request shared.Flush; kind = refl; inet = found; inet6 = found6 })
  both_fit pos pos6 (shared.Tick ms) e e6 found found6 = (e, e6, record { shared = shared_request (shared.Tick ms); kind = refl; inet = found; inet6 = found6 })
  both_fit pos pos6 shared.Sync e e6 found found6 = (e, e6, record { shared = shared_request shared.Sync; kind = refl; inet = found; inet6 = found6 })

  then_fits : (quiet : Bool) (inet inet6 : Option ℕ) (lines : List Line) → FitsLine plan plan6 at (command_line quiet number inet inet6) → Fits plan plan6 (record { inet = behind at.inet inet; inet6 = behind at.inet6 inet6 }) lines → Fits plan plan6 at (command_line quiet number inet inet6 ∷ lines)
  then_fits true inet inet6 lines fits later = (fits, later)
  then_fits false inet inet6 lines fits later = (fits, later)

then_rises : (below number : ℕ) (quiet : Bool) (inet inet6 : Option ℕ) (lines : List Line) → below < number → Rises number lines → Rises below (command_line quiet number inet inet6 ∷ lines)
then_rises below number true inet inet6 lines more rises = (more, rises)
then_rises below number false inet inet6 lines more rises = (more, rises)

-- ---- every script of the grammar

abbrev pub lengths : Plans → Positions
lengths plans = record { inet = length plans.inet.commands; inet6 = length plans.inet6.commands }

-- both plans are of one profile
abbrev pub HaveOneProfile : Plans → Type 0
HaveOneProfile plans = IsProfile plans.inet.profile × (plans.inet6.profile ≡ plans.inet.profile)

-- both plans of a script are of its profile
abbrev pub HasItsProfile : Reading → Type 0
HasItsProfile script = IsProfile script.profile × (script.inet.profile ≡ script.profile) × (script.inet6.profile ≡ script.profile)

-- what the lines from a number on give, behind these plans
pub record Follows (at : ℕ) (plans : Plans) (script : Reading) : Type 0 where
  pub more : List (Command 32)
  pub more6 : List (Command 128)
  pub inet : script.inet.commands ≡ plans.inet.commands ++ more
  pub inet6 : script.inet6.commands ≡ plans.inet6.commands ++ more6
  pub few : HaveOneProfile plans → length script.lines + script.profile ≤ lines_limit + 1 - at + plans.inet.profile
  pub rises : (below : ℕ) → below < at → Rises below script.lines
  pub fits : Fits script.inet script.inet6 (lengths plans) script.lines
  pub profile : HaveOneProfile plans → HasItsProfile script

-- where no line is left
pub none_follow : (at : ℕ) (plans : Plans) → Follows at plans (record { inet = plans.inet; inet6 = plans.inet6; lines = []; profile = plans.inet.profile })
none_follow at plans = record {
  more = [];
  more6 = [];
  inet = sym (append-nil plans.inet.commands);
  inet6 = sym (append-nil plans.inet6.commands);
  few = λ one. omega arith;
  rises = λ below h. tt;
  fits = (refl, refl);
  profile = λ one. (one.0, refl, one.1);
}

-- the same of an answer that is a script
abbrev IfFollows : ℕ → Plans → Result Reading LineFault → Type 0
IfFollows at plans (Ok script) = Follows at plans script
IfFollows at plans (Err fault) = Unit {0}

-- a line before those that follow it
pub behind_line : (at : ℕ) (plans : Plans) (asked : Asked) (more : Reading) → IsAskedAt at asked → Follows (at + 1) (plans_behind plans asked) more → Follows at plans (record more { lines = entries_of at plans asked ++ more.lines })
behind_line at plans Nothing more is r =
    record { more = r.more; more6 = r.more6; inet = r.inet; inet6 = r.inet6; few = λ one. omega (arith, r.few one, is.0); rises = λ below h. r.rises below (omega arith); fits = r.fits; profile = r.profile }
behind_line at plans (Inet c) more is r =
    let longer : length (plans.inet.commands ++ c ∷ []) ≡ length plans.inet.commands + 1 = length-append plans.inet.commands (c ∷ []) in
    let later = rw longer at r.fits in
    let found = seam plans.inet.commands r.more more.inet.commands c r.inet in
    record {
      more = c ∷ r.more;
      more6 = r.more6;
      inet = r.inet ∙ append_assoc plans.inet.commands (c ∷ []) r.more;
      inet6 = r.inet6;
      few = λ one. omega (arith, r.few one, is.0);
      rises = λ below h. then_rises below at (is_quiet c) (Some (length plans.inet.commands)) None more.lines h (r.rises at (omega arith));
      fits = then_fits more.inet more.inet6 (lengths plans) at (is_quiet c) (Some (length plans.inet.commands)) None more.lines (line_fits more.inet more.inet6 (lengths plans) at (length plans.inet.commands) c is.1 refl found) later;
      profile = r.profile;
    }
behind_line at plans (Inet6 c) more is r =
    let longer : length (plans.inet6.commands ++ c ∷ []) ≡ length plans.inet6.commands + 1 = length-append plans.inet6.commands (c ∷ []) in
    let later = rw longer at r.fits in
    let found = seam plans.inet6.commands r.more6 more.inet6.commands c r.inet6 in
    record {
      more = r.more;
      more6 = c ∷ r.more6;
      inet = r.inet;
      inet6 = r.inet6 ∙ append_assoc plans.inet6.commands (c ∷ []) r.more6;
      few = λ one. omega (arith, r.few one, is.0);
      rises = λ below h. then_rises below at (is_quiet c) None (Some (length plans.inet6.commands)) more.lines h (r.rises at (omega arith));
      fits = then_fits more.inet more.inet6 (lengths plans) at (is_quiet c) None (Some (length plans.inet6.commands)) more.lines (line_fits6 more.inet more.inet6 (lengths plans) at (length plans.inet6.commands) c is.1 refl found) later;
      profile = r.profile;
    }
behind_line at plans (Both s) more is r =
    let c : Command 32 = shared_command s in
    let c6 : Command 128 = shared_command s in
    let longer : length (plans.inet.commands ++ shared_command s ∷ []) ≡ length plans.inet.commands + 1 = length-append plans.inet.commands (shared_command s ∷ []) in
    let longer6 : length (plans.inet6.commands ++ shared_command s ∷ []) ≡ length plans.inet6.commands + 1 = length-append plans.inet6.commands (shared_command s ∷ []) in
    let later = rw (longer, longer6) at r.fits in
    let found = seam plans.inet.commands r.more more.inet.commands c r.inet in
    let found6 = seam plans.inet6.commands r.more6 more.inet6.commands c6 r.inet6 in
    record {
      more = c ∷ r.more;
      more6 = c6 ∷ r.more6;
      inet = r.inet ∙ append_assoc plans.inet.commands (c ∷ []) r.more;
      inet6 = r.inet6 ∙ append_assoc plans.inet6.commands (c6 ∷ []) r.more6;
      few = λ one. omega (arith, r.few one, is.0);
      rises = λ below h. then_rises below at (is_quiet c) (Some (length plans.inet.commands)) (Some (length plans.inet6.commands)) more.lines h (r.rises at (omega arith));
      fits = then_fits more.inet more.inet6 (lengths plans) at (is_quiet c) (Some (length plans.inet.commands)) (Some (length plans.inet6.commands)) more.lines (both_fit more.inet more.inet6 (lengths plans) at (length plans.inet.commands) (length plans.inet6.commands) s refl refl found found6) later;
      profile = r.profile;
    }
behind_line at plans (Get4 addr flow) more is r =
    record { more = r.more; more6 = r.more6; inet = r.inet; inet6 = r.inet6; few = λ one. omega (arith, r.few one, is.0); rises = λ below h. (h, r.rises at (omega arith)); fits = (refl, r.fits); profile = r.profile }
behind_line at plans (Get6 addr flow) more is r =
    record { more = r.more; more6 = r.more6; inet = r.inet; inet6 = r.inet6; few = λ one. omega (arith, r.few one, is.0); rises = λ below h. (h, r.rises at (omega arith)); fits = (refl, r.fits); profile = r.profile }
behind_line at plans (Profile n) more is r =
    let one : HaveOneProfile (plans_behind plans (Profile n)) = (is.1, refl) in
    record { more = r.more; more6 = r.more6; inet = r.inet; inet6 = r.inet6; few = λ before. omega (arith, r.few one, is.0, is.1.1, before.0.0); rises = λ below h. r.rises below (omega arith); fits = r.fits; profile = λ before. r.profile one }

behind_answer : (at : ℕ) (plans : Plans) (asked : Result Asked Reason) (below : Plans → Result Reading LineFault) (script : Reading) → IfOk asked (IsAskedAt at) → ((behind : Plans) (more : Reading) → below behind ≡ Ok more → Follows (at + 1) behind more) → then_lines at plans asked below ≡ Ok script → Follows at plans script
behind_answer at plans (Err reason) below script is later e = cc
behind_answer at plans (Ok asked) below script is later e = below_line (below (plans_behind plans asked)) (later (plans_behind plans asked)) e
  where
    below_line : (r : Result Reading LineFault) → ((more : Reading) → r ≡ Ok more → Follows (at + 1) (plans_behind plans asked) more) → with_front (entries_of at plans asked) r ≡ Ok script → Follows at plans script
    below_line (Err fault) later e = cc
    below_line (Ok more) later e = subst (λ (o : Result Reading LineFault). IfFollows at plans o) e (behind_line at plans asked more is (later more refl))

pub lines_follow : (at : ℕ) (plans : Plans) (texts : List (List ℕ)) (script : Reading) → lines_from at plans texts ≡ Ok script → Follows at plans script
lines_follow at plans [] script e = subst (λ (o : Result Reading LineFault). IfFollows at plans o) e (none_follow at plans)
lines_follow at plans (text ∷ texts) script e =
    let later = λ (behind : Plans) (more : Reading) (f : lines_from (at + 1) behind texts ≡ Ok more). lines_follow (at + 1) behind texts more f in
    behind_answer at plans (in_time plans.begun (asked_of at text)) (λ behind. lines_from (at + 1) behind texts) script (timely_at at plans.begun (asked_of at text) (asked_at at text)) later e

-- what follows nothing, from line 1 on
pub follows_is_script : (script : Reading) → Follows 1 no_plans script → IsScript script
follows_is_script script r =
    let one : HaveOneProfile no_plans = ((omega arith, omega arith), refl) in
    let its = r.profile one in
    record { few = omega (arith, r.few one, its.0.0); rises = r.rises 0 (omega arith); fits = r.fits; profile = its.0; inet = its.1; inet6 = its.2 }

pub is_script : (texts : List (List ℕ)) (script : Reading) → lines_from 1 no_plans texts ≡ Ok script → IsScript script
is_script texts script e = follows_is_script script (lines_follow 1 no_plans texts script e)

-- the script that a reader has where no line is left
pub read_is_script : (texts rest : List (List ℕ)) (number : ℕ) (plans : Plans) (front : List Line) (script : Reading) → with_front front (lines_from number plans rest) ≡ lines_from 1 no_plans texts → rest ≡ []
    → script ≡ record { inet = plans.inet; inet6 = plans.inet6; lines = front; profile = plans.inet.profile } → IsScript script
read_is_script texts rest number plans front script so_far ended same =
    let read : List Line → Result Reading LineFault = λ l. Ok (record { inet = plans.inet; inet6 = plans.inet6; lines = l; profile = plans.inet.profile }) in
    let whole : lines_from 1 no_plans texts ≡ read front = sym so_far ∙ ap (λ r. with_front front (lines_from number plans r)) ended ∙ ap read (append-nil front) in
    subst IsScript (sym same) (is_script texts (record { inet = plans.inet; inet6 = plans.inet6; lines = front; profile = plans.inet.profile }) whole)

-- ---- for a walk over the lines of a script

-- the line of a number, and the lines behind it, from positions that the lines fit
pub fits_step : (plan : Planned 32) (plan6 : Planned 128) (at : Positions) (lines : List Line) (i : ℕ) (here : Line) → slice_get lines i ≡ Some here → Fits plan plan6 at (drop i lines) → FitsLine plan plan6 at here × Fits plan plan6 (positions_behind at here) (drop (i + 1) lines)
fits_step plan plan6 at lines i here e fits =
    let first = drop_more lines i here (slice_get_within lines i here e) in
    let same = get_or_from_slice_get lines i here here e in
    let at_first = rw (first, same) at fits in
    (at_first.0, at_first.1)

-- the position of a command is inside its plan
pub has_at_inside : {w : ℕ} (plan : Planned w) (pos : ℕ) (test : Command w → Bool) → HasAt plan pos test → pos < length plan.commands
has_at_inside {w} plan pos test has = there (slice_get plan.commands pos) refl has
  where
    there : (o : Option (Command w)) → slice_get plan.commands pos ≡ o → MatchOption o ⊥ (λ c. test c ≡ true) → pos < length plan.commands
    there None e has = absurd has
    there (Some c) e has = slice_get_within plan.commands pos c e

-- a line's commands are there
line_has : (script : Reading) (at : Positions) (here : Line) → FitsLine script.inet script.inet6 at here → HasCommands script here
line_has script at (line.Change number (Some pos) None) fits = (has_at_inside script.inet pos (λ c. not (is_quiet c)) fits.1, tt)
line_has script at (line.Change number None (Some pos)) fits = (tt, has_at_inside script.inet6 pos (λ c. not (is_quiet c)) fits.1)
line_has script at (line.Change number (Some pos) (Some pos6)) fits = (slice_get_within script.inet.commands pos _ fits.2.inet, slice_get_within script.inet6.commands pos6 _ fits.2.inet6)
line_has script at (line.Change number None None) fits = absurd fits
line_has script at (line.Quiet number (Some pos) None) fits = (has_at_inside script.inet pos is_algo fits.1, tt)
line_has script at (line.Quiet number None (Some pos)) fits = (tt, has_at_inside script.inet6 pos is_algo fits.1)
line_has script at (line.Quiet number (Some pos) (Some pos6)) fits = (slice_get_within script.inet.commands pos _ fits.2.inet, slice_get_within script.inet6.commands pos6 _ fits.2.inet6)
line_has script at (line.Quiet number None None) fits = absurd fits
line_has script at (line.Get4 number addr flow before) fits = tt
line_has script at (line.Get6 number addr flow before) fits = tt

-- so are those of each line, from positions that the lines fit
pub each_has : (script : Reading) (at : Positions) (lines : List Line) (i : ℕ) (here : Line) → Fits script.inet script.inet6 at lines → slice_get lines i ≡ Some here → HasCommands script here
each_has script at [] i here fits e = cc
each_has script at (first ∷ lines) zero here fits e = let same : first ≡ here = cc in subst (HasCommands script) same (line_has script at first fits.0)
each_has script at (first ∷ lines) (suc i) here fits e = each_has script (positions_behind at first) lines i here fits.1 e
