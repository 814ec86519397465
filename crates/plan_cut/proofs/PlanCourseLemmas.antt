-- What the command at a position of a plan is to the plan's course.
use Rattle.std.proofs.Common.{◌≡◌, ◌∙◌, ℕ, ◌+◌, ◌≤◌, not, Some, length, refl, sym, ap, add-one}
use Rattle.std.specs.List.{slice_get}
use Rattle.std.proofs.Common.{inl, inr}
use Rattle.std.specs.Prelude.{◌==◌}
use Rattle.std.proofs.lemmas.Bool.{cases_Bool, eqb-true, eq-eqb, true≢false}
use Rattle.std.proofs.lemmas.List.Sums.{fold_more}
use Rattle.std.proofs.lemmas.Option.{slice_get_within, get_or_from_slice_get}
use Rattle.prefix_width.specs.declared.module.Kind.{Kind}
use Rattle.prefix_width.specs.declared.module.Setting.{Setting}
use Rattle.prefix_width.specs.declared.module.Setting.TheVariants.{Auto}
use Rattle.prefix_width.specs.declared.module.Kind.TheVariants.{Scan, Range, Radix, Dxr}
use Rattle.prefix_width.specs.declared.module.Setting.TheVariants.{Fixed}
use Rattle.prefix_width.specs.Choice.{SettingSuits, choose, is_kind}
use Rattle.rib_store.specs.declared.command.Command.{Command}
use Rattle.rib_store.specs.declared.command.Command.TheVariants.{Add, Change, Delete, Flush, Tick, Sync, Algo}
use Rattle.rib_store.specs.declared.command.Reply.{Reply}
use Rattle.rib_store.specs.Plan.{IsWrongModule, Planned}
use Rattle.rib_store.specs.Table.{Table, apply, table_after}
use Rattle.rib_store.proofs.TableLemmas.{table_after_more}
use Rattle.plan_cut.specs.Course.{IsCommand}
use Rattle.plan_cut.specs.Versions.{Version, differs_at}
use Rattle.plan_cut.specs.Standing.{beat_of}
use Rattle.plan_cut.specs.PlanCourse.{is_accepted, beat_in, changed_in, set_by, setting_after, beat_at, changed_at, course_of, version_at, version_before}
use Rattle.plan_cut.proofs.StandingLemmas.{latest_within}
use Rattle.plan_cut.proofs.ListingLemmas.{latest_number}

-- the command behind the first m of a plan
module _ {w : _} (live : ℕ) (plan : Planned w) (m : ℕ) (command : Command w) (here : slice_get plan.commands m ≡ Some command) where
  -- the table behind it
  pub table_on : table_after live plan (m + 1) ≡ (apply plan.profile live (table_after live plan m) command).table
  table_on = table_after_more live plan m command here

  -- the setting behind it
  pub setting_on : setting_after plan (m + 1) ≡ set_by (setting_after plan m) command
  setting_on =
      fold_more set_by Auto plan.commands m command (slice_get_within plan.commands m command here)
      ∙ ap (set_by (setting_after plan m)) (get_or_from_slice_get plan.commands m command command here)

  pub beat_on : (course_of live plan).beat (m + 1) ≡ beat_of command
  unfolding beat_at
  beat_on = rw add-one (ap beat_in here)

  pub changed_on : (course_of live plan).changed (m + 1) ≡ is_accepted (apply plan.profile live (table_after live plan m) command).reply
  unfolding changed_at
  changed_on = rw add-one (ap (changed_in plan.profile live (table_after live plan m)) here)

  -- what a step of the cutter asks to know of it, by its reply
  pub is_command_on : (reply : Reply) → reply ≡ (apply plan.profile live (table_after live plan m) command).reply → IsCommand (course_of live plan) (m + 1) (is_accepted reply) (beat_of command)
  is_command_on reply e = record {
    same_change = changed_on ∙ ap is_accepted (sym e);
    same_beat = beat_on;
  }

  -- the choice behind it, by the setting and the table that there are then
  pub choice_on : (kind : Kind) (setting : Setting) (rows : Table) → setting ≡ set_by (setting_after plan m) command → rows ≡ (apply plan.profile live (table_after live plan m) command).table →
      (course_of live plan).choice (m + 1) kind ≡ choose w (Some kind) setting (length rows)
  choice_on kind setting rows s r =
      ap (λ t. choose w (Some kind) t (length (table_after live plan (m + 1)))) (setting_on ∙ sym s)
      ∙ ap (λ t. choose w (Some kind) setting (length t)) (table_on ∙ sym r)

  -- whether it differs from the current module
  pub differs_on : (last : Version) (setting : Setting) (rows : Table) → setting ≡ set_by (setting_after plan m) command → rows ≡ (apply plan.profile live (table_after live plan m) command).table →
      differs_at (course_of live plan) (m + 1) last ≡ not (is_kind (choose w (Some last.kind) setting (length rows)) last.kind)
  differs_on last setting rows s r = ap (λ k. not (is_kind k last.kind)) (choice_on last.kind setting rows s r)

-- no more commands are counted than were run, and no more versions made
pub version_at_count : {w : _} (live : ℕ) (plan : Planned w) (m : ℕ) → (version_at live plan m).count ≤ m
version_at_count live plan m = latest_within (course_of live plan) m

pub version_before_bound : {w : _} (live : ℕ) (plan : Planned w) (m : ℕ) → version_before live plan m ≤ m
version_before_bound live plan m = latest_number (course_of live plan) m

-- a command that a plan may have leaves a setting that suits the width
pub setting_suits_on : {w : ℕ} (command : Command w) (setting : Setting) → ¬ (IsWrongModule command) → SettingSuits w setting → SettingSuits w (set_by setting command)
setting_suits_on (Add prefix path) setting right suits = suits
setting_suits_on (Change prefix path) setting right suits = suits
setting_suits_on (Delete prefix gateway) setting right suits = suits
setting_suits_on Flush setting right suits = suits
setting_suits_on (Tick ms) setting right suits = suits
setting_suits_on Sync setting right suits = suits
setting_suits_on (Algo Auto) setting right suits = tt
setting_suits_on (Algo (Fixed Scan)) setting right suits = tt
setting_suits_on (Algo (Fixed Range)) setting right suits = tt
setting_suits_on (Algo (Fixed Radix)) setting right suits = tt
setting_suits_on {w} (Algo (Fixed Dxr)) setting right suits = elim (cases_Bool (w == 32)) [
  | inl is ↦ eqb-true w 32 is
  | inr off ↦ absurd (right (refl, λ e. let is = eq-eqb w 32 e in true≢false (sym is ∙ off)))
]
