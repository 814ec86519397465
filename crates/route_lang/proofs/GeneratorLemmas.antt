-- Generated scripts keep what every script keeps, and grow line by line.
use Rattle.std.proofs.Common.{◌≡◌, ◌∙◌, ℕ, zero, suc, ◌+◌, ◌-◌, ◌*◌, ◌/◌, ◌%◌, ◌^◌, ◌<◌, ◌≤◌, ◌==◌, Bool, true, false, cond, nat_lt, List, ◌++◌, lit<, inl, refl, sym, ap, arith, append_assoc, append-nil}
use Rattle.std.proofs.Math.Nat.{mod-lt}
use Rattle.prefix_width.specs.Prefix.{IsBlock}
use Rattle.route_lang.specs.declared.asked.Asked.{Asked}
use Rattle.route_lang.specs.declared.line.Line.{Line}
use Rattle.route_lang.specs.declared.script.Plans.{Plans}
use Rattle.route_lang.specs.Reader.Lines.{plans_behind, entries_of, no_plans}
use Rattle.route_lang.specs.Script.{Reading}
use Rattle.route_lang.specs.Fits.{IsScript}
use Rattle.route_lang.specs.Generator.{next_state, state_after, draw, drawn_prefix, drawn_path}
use Rattle.route_lang.specs.Reader.Draws.{AskedDraw, asked_line, led_by, generated_from, script_drawn}
use Rattle.route_lang.specs.Limits.{lines_limit}
use Rattle.route_lang.proofs.BoundLemmas.{masked_fits}
use Rattle.route_lang.proofs.SpellingLemmas.{IsPath}
use Rattle.route_lang.proofs.CommandLemmas.{IsAsked}
use Rattle.route_lang.proofs.FitsLemmas.{Follows, none_follow, behind_line, follows_is_script}

-- ---- one line

prefix_fits : (p q : ℕ) → IsBlock 32 (drawn_prefix p q)
prefix_fits p q = masked_fits 32 (167772160 + q % 4096 * 4096) (12 + p % 9) (inl refl) (omega arith) (omega arith)

path_fits : (s : ℕ) → IsPath 32 (drawn_path s)
path_fits s = record {
  hop = (omega arith, omega arith, omega arith, tt);
  weight = (omega arith, omega arith, λ drops. absurd drops);
  settings = record { iface = omega arith; mtu = lit< tt; least = omega arith; weight = omega arith };
}

draw_fits : (x : ℕ) → next_state x / 2 ^ 32 < 2 ^ 32
draw_fits x = upper (next_state x) (mod-lt (x * 6364136223846793005 + 1442695040888963407) (lit< tt))
  where
    upper : (n : ℕ) → n < 2 ^ 64 → n / 2 ^ 32 < 2 ^ 32
    upper n fits = omega arith

address_fits : (p : ℕ) → 167772160 + p % 16777216 < 2 ^ 32
address_fits p = omega arith

line_is_asked : (x : ℕ) → IsAsked (asked_line x).asked
line_is_asked x =
    let kind = draw 1 x % 16 in
    let prefix = prefix_fits (draw 2 x) (draw 3 x) in
    let path = path_fits (draw 4 x) in
    choice (nat_lt kind 8) (kind == 8) (kind == 9) (kind == 10) _ _ _ _ _
    (prefix, path) (prefix, path) (prefix, tt) (lit< tt) (address_fits (draw 2 x), draw_fits (state_after 2 x))
  where
    choice : (a b c d : Bool) (l m n o p : AskedDraw) → IsAsked l.asked → IsAsked m.asked → IsAsked n.asked → IsAsked o.asked → IsAsked p.asked → IsAsked (cond a l (cond b m (cond c n (cond d o p)))).asked
    choice true b c d l m n o p first second third fourth fifth = first
    choice false true c d l m n o p first second third fourth fifth = second
    choice false false true d l m n o p first second third fourth fifth = third
    choice false false false true l m n o p first second third fourth fifth = fourth
    choice false false false false l m n o p first second third fourth fifth = fifth

-- ---- the whole

generated_follows : (n at : ℕ) (plans : Plans) (x : ℕ) → at + n ≤ lines_limit + 1 → Follows at plans (generated_from n at plans x)
generated_follows zero at plans x few = none_follow at plans
generated_follows (suc n) at plans x few =
    let line = asked_line x in
    let later = generated_follows n (at + 1) (plans_behind plans line.asked) (state_after line.draws x) (omega arith) in
    behind_line at plans line.asked (generated_from n (at + 1) (plans_behind plans line.asked) (state_after line.draws x)) (omega arith, line_is_asked x) later

-- a generated script is one
pub generated_is_script : (seed count : ℕ) → count ≤ lines_limit → IsScript (script_drawn seed count)
generated_is_script seed count few = follows_is_script (script_drawn seed count) (generated_follows count 1 no_plans seed (omega arith))

line_joins : (left at : ℕ) (plans : Plans) (front : List Line) (x : ℕ)
    → led_by (front ++ entries_of at plans (asked_line x).asked) (generated_from left (at + 1) (plans_behind plans (asked_line x).asked) (state_after (asked_line x).draws x))
    ≡ led_by front (generated_from (suc left) at plans x)
line_joins left at plans front x =
    let line = asked_line x in
    let below = generated_from left (at + 1) (plans_behind plans line.asked) (state_after line.draws x) in
    ap (λ lines. record below { lines = lines }) (append_assoc front (entries_of at plans line.asked) below.lines)

-- the lines so far with one more, before those that are left
pub one_more_line : (count before : ℕ) (plans more_plans : Plans) (front more_front : List Line) (x y : ℕ) (asked : Asked) → before < count
    → asked ≡ (asked_line x).asked → y ≡ state_after (asked_line x).draws x
    → more_plans ≡ plans_behind plans asked → more_front ≡ front ++ entries_of (before + 1) plans asked
    → led_by more_front (generated_from (count - (before + 1)) (before + 1 + 1) more_plans y) ≡ led_by front (generated_from (count - before) (before + 1) plans x)
one_more_line count before plans more_plans front more_front x y asked left drawn state more joined =
    let one : count - before ≡ suc (count - (before + 1)) = omega arith in
    rw (joined, more, drawn, state, one) (line_joins (count - (before + 1)) (before + 1) plans front x)

-- the lines so far, where none is left
pub all_lines : (left at : ℕ) (plans : Plans) (front : List Line) (x : ℕ) (script : Reading) → left ≡ 0 → led_by front (generated_from left at plans x) ≡ script → record { inet = plans.inet; inet6 = plans.inet6; lines = front; profile = plans.inet.profile } ≡ script
all_lines left at plans front x script none e =
    let read : List Line → Reading = λ lines. record { inet = plans.inet; inet6 = plans.inet6; lines = lines; profile = plans.inet.profile } in
    ap read (sym (append-nil front)) ∙ ap (λ n. led_by front (generated_from n at plans x)) (sym none) ∙ e
