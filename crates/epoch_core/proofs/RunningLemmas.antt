-- Each step at the running table takes the shown world where its event takes it.
use Rattle.std.proofs.Common.{ℕ, List, ◌+◌, ◌<◌, ◌≤◌, refl, ap, arith, [], ◌∷◌, ◌++◌, sym, subst}
use Rattle.epoch_core.specs.declared.event.Event.TheVariants as event
use Rattle.epoch_core.specs.declared.view.Role.{Role}
use Rattle.epoch_core.specs.declared.view.Role.TheVariants.{Reader, Control}
use Rattle.std.specs.Prelude.{slice_index}
use Rattle.atomic_table.specs.Table.{stepped}
use Rattle.epoch_core.specs.Follows.{JoinFollows}
use Rattle.epoch_core.specs.Plays.{learnt, learning_step, ending, scanned_control, reassigned_control}
use Rattle.epoch_core.specs.Running.{EachStepFollows}
use Rattle.epoch_core.specs.Step.{step}
use Rattle.epoch_core.proofs.TruthLemmas.{true_scan, true_look, true_enter, true_hit, true_reassign}
use Rattle.epoch_core.proofs.ClosingLemmas.{closing, none_left}
use Rattle.epoch_core.proofs.CountLemmas.{all_counted}
use Rattle.epoch_core.proofs.ControlSteps.{scanning, publishing}
use Rattle.epoch_core.proofs.EntrySteps.{entering, leaving}
use Rattle.epoch_core.proofs.ReaderSteps.{fits_at, looking, announcing}
use Rattle.epoch_core.proofs.WordSteps.{hitting, reassigning, tallying, tallied_true}
use Rattle.epoch_core.proofs.SeatSteps.{opens, tells, learns, ends}
use Rattle.epoch_core.specs.Rule.{announcement_word, index_word}

pub each_step_follows : {Q C : Type 0} (K G : ℕ) (two : 2 ≤ K) (lawful : Q → ℕ → C → Type 0) (names : Q → ℕ → List (ℕ × ℕ)) (key : Q) → EachStepFollows K G lawful names key
each_step_follows K G two lawful names key = record {
  shown = λ s h. (h.sound, h.each_place);
  one_history = λ s h. record {
    leads = h.ran;
    readers = λ seat r v o at is. (fits_at K G two lawful names key s h seat v (Reader r o) is at).2;
    control = λ seat v d at is. (fits_at K G two lawful names key s h seat v (Control d) is at).2.0;
  };
  true_scan = λ s s' id v v' d d' r n go is is' l one. true_scan K G two lawful names key s s' go.before go.after go.seated id v v' go.there go.now d d' r one.0 n is is' l one.1;
  true_look = λ s s' id v v' o o' r n go is is' one. true_look K G two lawful names key s s' go.before go.after go.seated id v v' go.there go.now r o o' one.0 n is is' one.1;
  true_enter = λ s s' id v v' o o' r n go is is' one. true_enter K G two lawful names key s s' go.before go.after go.seated id v v' go.there go.now r o o' one.0 n is is' one.1;
  true_hit = λ s s' id v v' o o' r i n go is is' one. true_hit K G two lawful names key s s' go.before go.after go.seated id v v' go.there go.now r i o o' one.0 n is is' one.1;
  true_reassign = λ s s' id v v' d d' i p n go is is' one. true_reassign K G two lawful names key s s' go.before go.after go.seated id v v' go.there go.now d d' i p one.0 n is is' one.1;
  no_feigned_scan = λ slots id g me d is more may s h seated deep at small.
      let n : ℕ = slice_index s.words (announcement_word d.passed) in
      let r = may s h deep at small in
      let told = r.4 d is in
      let inside : d.passed < h.world.readers = let e = (fits_at K G two lawful names key s h id me.0 (Control d) is at).1.readers_are in omega arith in
      let s' = stepped s (announcement_word d.passed) n id me.1 r.0 r.1 in
      true_scan K G two lawful names key s s' h r.3 seated id me.0 r.0 at refl d (scanned_control K (g n) d) d.passed told.1.3.0 (g n) is (ap (λ v. v.role) told.0) inside told.1.3.1;
  no_feigned_look = λ slots id r g me o is may s h seated deep at small.
      let n : ℕ = slice_index s.words 0 in
      let did = may s h deep at small in
      let told = did.4.2 r o is in
      true_look K G two lawful names key s (stepped s 0 n id me.1 did.0 did.1) h did.3 seated id me.0 did.0 at refl r o told.0 told.3.0 (g n) is (ap (λ v. v.role) told.1) told.3.1;
  no_feigned_enter = λ slots id r g me o is may s h seated deep at small.
      let n : ℕ = slice_index s.words 0 in
      let did = may s h deep at small in
      let told = did.4.1 r o is in
      true_enter K G two lawful names key s (stepped s 0 n id me.1 did.0 did.1) h did.3 seated id me.0 did.0 at refl r o told.0 told.3.0 (g n) is (ap (λ v. v.role) told.1) told.3.1;
  no_feigned_hit = λ slots id r i f g me o is may s h seated deep at small.
      let n : ℕ = slice_index s.words (index_word i) in
      let did = may s h deep at small in
      let told = did.4.1 i refl r o is in
      true_hit K G two lawful names key s (stepped s (index_word i) (f n) id me.1 did.0 did.1) h did.3 seated id me.0 did.0 at refl r i o told.0 told.3.0 (g n) is (ap (λ v. v.role) told.1) told.3.1;
  no_feigned_reassign = λ slots id i p f g me d is may s h seated deep at small.
      let n : ℕ = slice_index s.words (index_word i) in
      let did = may s h deep at small in
      let told = did.4.1 i p refl refl d is in
      true_reassign K G two lawful names key s (stepped s (index_word i) (f n) id me.1 did.0 did.1) h did.3 seated id me.0 did.0 at refl d (reassigned_control i p (g n) d) i p told.1.2.0 (g n) is (ap (λ v. v.role) told.0) told.1.2.1;
  look = λ slots id r me o is out. looking K G two lawful names key slots id me r o is out;
  announce = λ slots id r me o is out. announcing K G two lawful names key slots id me r o is out;
  enter = λ slots id r a me o is out. entering K G two lawful names key slots id me r o a is out;
  leave = λ slots id r a v me o c cs is out holds fair. leaving K G two lawful names key slots id me r o a v c cs is out holds fair;
  scan = λ slots id me d is more. scanning K G two lawful names key slots id me d is more;
  publish = λ slots id me d cs is all hands count fair low distinct old. publishing K G two lawful names key slots id me d cs is all hands count fair low distinct old;
  hit = λ slots id r i a v me o is out named few. hitting K G two lawful names key slots id me r i o a v is out named few;
  reassign = λ slots id i p me d is all low high bound free apart untallied. reassigning K G two lawful names key slots id i p me d is all low high bound free apart untallied;
  tell = λ id v d is. tells K G two lawful names key id v d is;
  learn = λ id r other k version v u spent o is out note gone.
      subst (λ (z : Role × Role). JoinFollows K G lawful names key id v other u (record { key = v.key; role = learnt z.0 z.1; steps = v.steps ++ learning_step z.0 z.1 ∷ [] }) spent (λ w. step K G w (event.Join r k)) (λ es. es ++ event.Join r k ∷ [])) (λ i. (sym is i, sym note i)) (learns K G two lawful names key id v r o other u k version spent is out note gone);
  make_seat = λ id v d is more. opens K G two lawful names key id v d is more;
  end_seat = λ id r other v u spent d o is reads out gone.
      subst (λ (z : Role × Role). JoinFollows K G lawful names key id v other u (record v { role = ending z.0 z.1 u.steps }) spent (λ w. w) (λ es. es)) (λ i. (sym is i, sym reads i)) (ends K G two lawful names key id v d other u r o spent is reads out gone);
  close = λ slots id me d is. closing K G two lawful names key slots id me d is;
  all_counted = λ s h id v d at is many p. all_counted K G two lawful names key s h id v d at is many p;
  tally = λ slots id i me d is many high. tallying K G two lawful names key slots id i me d is many high;
  true_tally = λ s h id v d at is i n high has. tallied_true K G two lawful names key s h id v d at is i n high has;
  none_left = λ s h id v d at is many. none_left K G two lawful names key s h id v d at is many;
}
