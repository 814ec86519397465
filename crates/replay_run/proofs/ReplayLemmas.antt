-- A replay under way goes on by a line, and ends with the output.
use Rattle.std.proofs.Common.{◌≡◌, ◌∙◌, ◌⊎◌, inl, inr, ℕ, ◌+◌, ◌<◌, ◌≤◌, Bool, true, false, cond, List, [], ◌∷◌, ◌++◌, Option, Some, None, MatchOption, length, drop, option_to_list, refl, sym, ap, arith, append_assoc, append-nil, nat_eq}
use Rattle.std.specs.List.{flat_map, filter_map, slice_get, cons_option}
use Rattle.std.specs.Option.{option_and_then}
use Rattle.std.specs.List.Sorted.{IsStrictlySortedBy}
use Rattle.std.specs.Ordering.{is_eq}
use Rattle.std.proofs.lemmas.List.{drop_more}
use Rattle.std.proofs.lemmas.List.Concat.{flat_map-cons}
use Rattle.std.proofs.lemmas.List.Elements.{All-nil}
use Rattle.std.proofs.lemmas.Option.{slice_get_within, get_or_from_slice_get}
use Rattle.prefix_width.specs.Nexthop.{Hop}
use Rattle.prefix_width.specs.Order.{hop_cmp}
use Rattle.prefix_width.proofs.OrderLemmas.{hop_total, hop_exact}
use Rattle.counted_map.specs.Counts.{Counts, IsCounts, count_of, linked_all}
use Rattle.counted_map.proofs.CountMapLemmas.{IsCounts-linked, length-linked, linked_at}
use Rattle.rib_store.specs.declared.command.Command.{Command}
use Rattle.rib_store.specs.Plan.{Planned}
use Rattle.rib_store.specs.declared.command.Reply.{Reply}
use Rattle.plan_cut.specs.PlanCourse.{version_before}
use Rattle.plan_cut.specs.VersionTable.{answer_at}
use Rattle.route_lang.specs.declared.line.Line.{Line}
use Rattle.route_lang.specs.declared.line.Line.TheVariants.{Change, Quiet, Get4, Get6}
use Rattle.route_lang.specs.Fits.{Positions, FitsLine, HasAt, IsScript}
use Rattle.route_lang.specs.Limits.{lines_limit}
use Rattle.route_lang.specs.Script.{Reading}
use Rattle.replay_run.specs.Family.{Followed, IsNext}
use Rattle.replay_run.specs.Limits.{targets_max}
use Rattle.replay_run.specs.Line.{packets_text}
use Rattle.replay_run.specs.Output.{Get, Part, inet_of, inet6_of, answered, given, line_reply, line_text, one_reply, packets_in, plan_text, replied, reply_of, serial_output}
use Rattle.replay_run.specs.Replay.{HasBegun, HasRoom, HasRunLine, IsPartUnderWay, IsUnderWay, in_turn, lines_text}
use Rattle.replay_run.specs.declared.family_replay.FamilyReplay.{FamilyReplay}
use Rattle.replay_run.specs.declared.serial_replay.Replay.{Replay}

-- the lines from a place on begin with the line there
pub lines_from_place : (lines : List Line) (i : ℕ) (line : Line) → slice_get lines i ≡ Some line → drop i lines ≡ line ∷ drop (i + 1) lines
lines_from_place lines i line e =
    drop_more lines i line (slice_get_within lines i line e) ∙ ap (λ l. l ∷ drop (i + 1) lines) (get_or_from_slice_get lines i line line e)

-- the lines from a place on, where the line there is known
pub lines_at : (script : Reading) (i : ℕ) (lines : List Line) (found line : Line) → lines ≡ script.lines → slice_get lines i ≡ Some found → found ≡ line → drop i script.lines ≡ line ∷ drop (i + 1) script.lines
lines_at script i lines found line same here is =
    ap (drop i) (sym same) ∙ lines_from_place lines i found here ∙ ap (λ l. l ∷ drop (i + 1) lines) is ∙ ap (λ ls. line ∷ drop (i + 1) ls) same

-- ---- positions

-- a command that is there stands within the plan
there : {w : ℕ} (plan : Planned w) (pos at : ℕ) (test : Command w → Bool) → pos ≡ at → HasAt plan pos test → (pos ≡ at) × (at < length plan.commands)
there plan pos at test same h = (same, rw same at (by_command (slice_get plan.commands pos) refl h))
  where
    by_command : (o : Option _) → slice_get plan.commands pos ≡ o → MatchOption o ⊥ (λ c. test c ≡ true) → pos < length plan.commands
    by_command None e h = absurd h
    by_command (Some c) e h = slice_get_within plan.commands pos c e

-- the positions of a line are the next ones
pub next : (script : Reading) (at : Positions) (number : ℕ) (inet inet6 : Option ℕ) → FitsLine script.inet script.inet6 at (Change number inet inet6) ⊎ FitsLine script.inet script.inet6 at (Quiet number inet inet6)
    → IsNext inet at.inet (length script.inet.commands) × IsNext inet6 at.inet6 (length script.inet6.commands)
next script at number None None (inl h) = absurd h
next script at number None None (inr h) = absurd h
next script at number None (Some pos) (inl h) = (tt, there script.inet6 pos at.inet6 _ h.0 h.1)
next script at number None (Some pos) (inr h) = (tt, there script.inet6 pos at.inet6 _ h.0 h.1)
next script at number (Some pos) None (inl h) = (there script.inet pos at.inet _ h.0 h.1, tt)
next script at number (Some pos) None (inr h) = (there script.inet pos at.inet _ h.0 h.1, tt)
next script at number (Some pos) (Some pos6) (inl h) = ((h.0, rw h.0 at (slice_get_within script.inet.commands pos _ h.2.inet)), (h.1, rw h.1 at (slice_get_within script.inet6.commands pos6 _ h.2.inet6)))
next script at number (Some pos) (Some pos6) (inr h) = ((h.0, rw h.0 at (slice_get_within script.inet.commands pos _ h.2.inet)), (h.1, rw h.1 at (slice_get_within script.inet6.commands pos6 _ h.2.inet6)))

-- ---- texts and packets

-- what is written for the first line joins what is written for those behind
pub written : {X : Type 0} (f : X → List ℕ) (before after text whole : List ℕ) (x : X) (xs : List X)
    → after ≡ before ++ text → text ≡ f x → before ++ flat_map f (x ∷ xs) ≡ whole → after ++ flat_map f xs ≡ whole
written f before after text whole x xs out same h =
    ap (λ bytes. bytes ++ flat_map f xs) out ∙ append_assoc before text (flat_map f xs)
    ∙ ap (λ bytes. before ++ (bytes ++ flat_map f xs)) same
    ∙ ap (λ bytes. before ++ bytes) (sym (flat_map-cons f x xs)) ∙ h

-- one nexthop more, or none
linked_option : (packets : Counts Hop) (o : Option Hop) (hops : List Hop) → linked_all hop_cmp (linked_all hop_cmp packets (option_to_list o)) hops ≡ linked_all hop_cmp packets (cons_option o hops)
linked_option packets None hops = refl
linked_option packets (Some h) hops = refl

-- the packet of a line joins those of the lines behind it
counted : (before after whole : Counts Hop) (o : Option Hop) (hops : List Hop)
    → after ≡ linked_all hop_cmp before (option_to_list o) → linked_all hop_cmp before (cons_option o hops) ≡ whole → linked_all hop_cmp after hops ≡ whole
counted before after whole o hops packets h =
    ap (λ counts. linked_all hop_cmp counts hops) packets ∙ linked_option before o hops ∙ h

pub one_or_none : (b : Bool) → cond b 1 0 ≤ 1
one_or_none true = omega arith
one_or_none false = omega arith

-- room for one packet less behind a line
room_behind : (packets : Counts Hop) (o : Option Hop) (line : Line) (rest : List Line) → HasRoom packets (length (line ∷ rest)) → HasRoom (linked_all hop_cmp packets (option_to_list o)) (length rest)
room_behind packets None line rest room = record { counts = room.counts; each = λ q. let r = room.each q in omega arith; all = let r = room.all in omega arith }
room_behind packets (Some h) line rest room = record {
  counts = IsCounts-linked hop_cmp hop_total packets h room.counts;
  each = λ q. omega (arith, room.each q, linked_at hop_cmp hop_total hop_exact packets h q, one_or_none (is_eq (hop_cmp q h)));
  all = omega (arith, room.all, length-linked hop_cmp hop_total packets h room.counts, one_or_none (nat_eq (count_of hop_cmp packets h) 0));
}

-- ---- a family goes on by a line

part_on : {w K live : ℕ} (part : Part w) (script : Reading) (line : Line) (v : ℕ) (rest : List Line) (before after : FamilyReplay w K live)
    → in_turn live script (line ∷ rest) ≡ (line, v) ∷ in_turn live script rest → IsPartUnderWay part script (line ∷ rest) before
    → after.family.plan ≡ before.family.plan → after.packets ≡ linked_all hop_cmp before.packets (option_to_list (given live part (line, v)))
    → IsPartUnderWay part script rest after
part_on {w} {K} {live} part script line v rest before after turn h plan packets = record {
  plan = plan ∙ h.plan;
  packets = counted before.packets after.packets _ (given live part (line, v)) (filter_map (given live part) (in_turn live script rest)) packets
      (ap (λ lines. linked_all hop_cmp before.packets (filter_map (given live part) lines)) (sym turn) ∙ h.packets);
  room = rw packets (room_behind before.packets (given live part (line, v)) line rest h.room);
}

-- what a family answers behind so many commands of its plan
pub answer_is : {w : ℕ} (live : ℕ) (plan same : Planned w) (n at addr flow : ℕ) → plan ≡ same → n ≡ at
    → answer_at live plan (version_before live plan n) addr flow ≡ answer_at live same (version_before live same at) addr flow
answer_is live plan same n at addr flow e f =
    ap (λ p. answer_at live p (version_before live p n) addr flow) e ∙ ap (λ k. answer_at live same (version_before live same k) addr flow) f

line_is : {w : ℕ} (live : ℕ) (plan same : Planned w) (n at line addr flow : ℕ) → plan ≡ same → n ≡ at
    → answered live plan (version_before live plan n) line addr flow ≡ answered live same (version_before live same at) line addr flow
line_is live plan same n at line addr flow e f =
    ap (λ p. answered live p (version_before live p n) line addr flow) e ∙ ap (λ k. answered live same (version_before live same k) line addr flow) f

-- the family of a get
part_got : {w K live : ℕ} (part : Part w) (script : Reading) (line : Line) (addr flow at : ℕ) (rest : List Line) (before after : FamilyReplay w K live)
    → in_turn live script (line ∷ rest) ≡ (line, version_before live part.plan at) ∷ in_turn live script rest → part.get_of line ≡ Some (record { addr = addr; flow = flow })
    → IsPartUnderWay part script (line ∷ rest) before → before.family.commands ≡ at
    → after.family ≡ before.family → after.packets ≡ linked_all hop_cmp before.packets (option_to_list (answer_at live before.family.plan (version_before live before.family.plan before.family.commands) addr flow))
    → IsPartUnderWay part script rest after
part_got {w} {K} {live} part script line addr flow at rest before after turn get h here family packets =
    part_on part script line (version_before live part.plan at) rest before after turn h (ap (λ (f : Followed w). f.plan) family)
    (packets ∙ ap (λ o. linked_all hop_cmp before.packets (option_to_list o)) (answer_is live before.family.plan part.plan before.family.commands at addr flow h.plan here ∙ sym (ap (option_and_then (λ (get : Get). answer_at live part.plan (version_before live part.plan at) get.addr get.flow)) get)))

-- ---- the replay goes on by a line

-- the replies of both families are those of the script
pub replies_are : (script : Reading) (plan : Planned 32) (plan6 : Planned 128) (inet inet6 : Option ℕ) → plan ≡ script.inet → plan6 ≡ script.inet6
    → one_reply (reply_of targets_max plan inet) (reply_of targets_max plan6 inet6) ≡ line_reply targets_max script inet inet6
replies_are script plan plan6 inet inet6 e f =
    ap (λ p. one_reply (reply_of targets_max p inet) (reply_of targets_max plan6 inet6)) e ∙ ap (λ p. one_reply (reply_of targets_max script.inet inet) (reply_of targets_max p inet6)) f

module _ {L : Type 0} where
  pub after_change : (script : Reading) (number : ℕ) (inet inet6 : Option ℕ) (rest : List Line) (before after : Replay L)
      → IsUnderWay script (Change number inet inet6 ∷ rest) before
      → HasRunLine inet before.inet after.inet → HasRunLine inet6 before.inet6 after.inet6
      → IsUnderWay script rest after
  after_change script number inet inet6 rest before after h run run6 =
      let line = Change number inet inet6 in
      record {
        inet = part_on (inet_of script) script line 0 rest before.inet after.inet refl h.inet run.plan run.packets;
        inet6 = part_on (inet6_of script) script line 0 rest before.inet6 after.inet6 refl h.inet6 run6.plan run6.packets;
        fits = rw (run.commands, run6.commands) h.fits.1;
      }

  pub after_quiet : (script : Reading) (number : ℕ) (inet inet6 : Option ℕ) (rest : List Line) (before after : Replay L)
      → IsUnderWay script (Quiet number inet inet6 ∷ rest) before
      → HasRunLine inet before.inet after.inet → HasRunLine inet6 before.inet6 after.inet6
      → IsUnderWay script rest after
  after_quiet script number inet inet6 rest before after h run run6 =
      let line = Quiet number inet inet6 in
      record {
        inet = part_on (inet_of script) script line 0 rest before.inet after.inet refl h.inet run.plan run.packets;
        inet6 = part_on (inet6_of script) script line 0 rest before.inet6 after.inet6 refl h.inet6 run6.plan run6.packets;
        fits = rw (run.commands, run6.commands) h.fits.1;
      }

  pub after_get4 : (script : Reading) (number addr flow at : ℕ) (rest : List Line) (before after : Replay L)
      → IsUnderWay script (Get4 number addr flow at ∷ rest) before
      → after.inet6 ≡ before.inet6 → after.inet.family ≡ before.inet.family
      → after.inet.packets ≡ linked_all hop_cmp before.inet.packets (option_to_list (answer_at targets_max before.inet.family.plan (version_before targets_max before.inet.family.plan before.inet.family.commands) addr flow))
      → IsUnderWay script rest after
  after_get4 script number addr flow at rest before after h other family packets =
      let line = Get4 number addr flow at in
      let here : before.inet.family.commands ≡ at = sym h.fits.0 in
      record {
        inet = part_got (inet_of script) script line addr flow at rest before.inet after.inet refl refl h.inet here family packets;
        inet6 = part_on (inet6_of script) script line (version_before targets_max script.inet at) rest before.inet6 after.inet6 refl h.inet6 (rw other refl) (rw other refl);
        fits = rw (family, other) h.fits.1;
      }

  pub after_get6 : (script : Reading) (number addr flow at : ℕ) (rest : List Line) (before after : Replay L)
      → IsUnderWay script (Get6 number addr flow at ∷ rest) before
      → after.inet ≡ before.inet → after.inet6.family ≡ before.inet6.family
      → after.inet6.packets ≡ linked_all hop_cmp before.inet6.packets (option_to_list (answer_at targets_max before.inet6.family.plan (version_before targets_max before.inet6.family.plan before.inet6.family.commands) addr flow))
      → IsUnderWay script rest after
  after_get6 script number addr flow at rest before after h other family packets =
      let line = Get6 number addr flow at in
      let here : before.inet6.family.commands ≡ at = sym h.fits.0 in
      record {
        inet = part_on (inet_of script) script line (version_before targets_max script.inet6 at) rest before.inet after.inet refl h.inet (rw other refl) (rw other refl);
        inet6 = part_got (inet6_of script) script line addr flow at rest before.inet6 after.inet6 refl refl h.inet6 here family packets;
        fits = rw (other, family) h.fits.1;
      }

-- ---- what is written for a line

module _ {L : Type 0} (script : Reading) (rest : List Line) (before : Replay L) (out new : List ℕ) where
  pub text_change : (number : ℕ) (inet inet6 : Option ℕ) (reply : Option Reply) → IsUnderWay script (Change number inet inet6 ∷ rest) before
      → reply ≡ one_reply (reply_of targets_max before.inet.family.plan inet) (reply_of targets_max before.inet6.family.plan inet6)
      → new ≡ out ++ replied number reply
      → new ++ lines_text script rest ≡ out ++ lines_text script (Change number inet inet6 ∷ rest)
  text_change number inet inet6 reply h same told =
      written (line_text targets_max script) out new _ _ (Change number inet inet6, 0) (in_turn targets_max script rest) told
      (ap (replied number) (same ∙ replies_are script before.inet.family.plan before.inet6.family.plan inet inet6 h.inet.plan h.inet6.plan)) refl

  pub text_quiet : (number : ℕ) (inet inet6 : Option ℕ) → new ≡ out → new ++ lines_text script rest ≡ out ++ lines_text script (Quiet number inet inet6 ∷ rest)
  text_quiet number inet inet6 same =
      written (line_text targets_max script) out new [] _ (Quiet number inet inet6, 0) (in_turn targets_max script rest) (same ∙ sym (append-nil out)) refl refl

  pub text_get4 : (number addr flow at : ℕ) → IsUnderWay script (Get4 number addr flow at ∷ rest) before
      → new ≡ out ++ answered targets_max before.inet.family.plan (version_before targets_max before.inet.family.plan before.inet.family.commands) number addr flow
      → new ++ lines_text script rest ≡ out ++ lines_text script (Get4 number addr flow at ∷ rest)
  text_get4 number addr flow at h told =
      written (line_text targets_max script) out new _ _ (Get4 number addr flow at, version_before targets_max script.inet at) (in_turn targets_max script rest) told
      (line_is targets_max before.inet.family.plan script.inet before.inet.family.commands at number addr flow h.inet.plan (sym h.fits.0)) refl

  pub text_get6 : (number addr flow at : ℕ) → IsUnderWay script (Get6 number addr flow at ∷ rest) before
      → new ≡ out ++ answered targets_max before.inet6.family.plan (version_before targets_max before.inet6.family.plan before.inet6.family.commands) number addr flow
      → new ++ lines_text script rest ≡ out ++ lines_text script (Get6 number addr flow at ∷ rest)
  text_get6 number addr flow at h told =
      written (line_text targets_max script) out new _ _ (Get6 number addr flow at, version_before targets_max script.inet6 at) (in_turn targets_max script rest) told
      (line_is targets_max before.inet6.family.plan script.inet6 before.inet6.family.commands at number addr flow h.inet6.plan (sym h.fits.0)) refl

-- ---- the beginning and the end

pub no_counts : IsCounts hop_cmp []
unfolding IsStrictlySortedBy
no_counts = record { order = tt; some = All-nil (λ n. 1 ≤ n) }

part_first : {w K live : ℕ} (part : Part w) (script : Reading) (replay : FamilyReplay w K live) → length script.lines ≤ lines_limit → HasBegun part.plan replay → IsPartUnderWay part script script.lines replay
part_first part script replay few new = record {
  plan = new.plan;
  packets = rw new.packets refl;
  room = rw new.packets (record { counts = no_counts; each = λ q. omega (arith, few); all = omega (arith, few) });
}

pub at_first : {L : Type 0} (script : Reading) (replay : Replay L) → IsScript script → HasBegun script.inet replay.inet → HasBegun script.inet6 replay.inet6 → IsUnderWay script script.lines replay
at_first script replay facts new new6 = record {
  inet = part_first (inet_of script) script replay.inet facts.few new;
  inet6 = part_first (inet6_of script) script replay.inet6 facts.few new6;
  fits = rw (new.commands, new6.commands) facts.fits;
}

-- what is written behind the last line ends the output
pub at_last : {L : Type 0} (script : Reading) (replay : Replay L) (lines first second out : List ℕ) → IsUnderWay script [] replay → lines ≡ lines_text script script.lines
    → first ≡ lines ++ flat_map (packets_text 32) replay.inet.packets → second ≡ first ++ flat_map (packets_text 128) replay.inet6.packets
    → out ≡ (second ++ plan_text targets_max replay.inet.family.plan) ++ plan_text targets_max replay.inet6.family.plan → out ≡ serial_output targets_max script
at_last script replay lines first second out h text a b c =
    let packets : replay.inet.packets ≡ packets_in targets_max (inet_of script) (in_turn targets_max script script.lines) = h.inet.packets in
    let packets6 : replay.inet6.packets ≡ packets_in targets_max (inet6_of script) (in_turn targets_max script script.lines) = h.inet6.packets in
    simp (c, b, a, text, packets, packets6, h.inet.plan, h.inet6.plan, append_assoc)
