-- The lines of a script, each with its text, and the gets among them.
use Rattle.std.proofs.Common.{◌≡◌, ◌∙◌, inl, inr, ℕ, suc, ◌+◌, ◌<◌, List, [], ◌∷◌, ◌++◌, Option, Some, length, drop, refl, sym, ap, subst, arith, length-drop, append_assoc, get_or}
use Rattle.std.specs.Prelude.{IfOk, Result, Ok, Err}
use Rattle.std.specs.Option.{option_map}
use Rattle.std.specs.List.{flat_map, slice_get}
use Rattle.std.proofs.lemmas.List.{drop_more}
use Rattle.std.proofs.lemmas.Option.{none-some, same_Some, slice_get_cases, slice_get_within, slice_get-get_or}
use Rattle.rib_store.specs.Limits.{routes_max}
use Rattle.rib_store.specs.Plan.{Planned}
use Rattle.rib_store.specs.Table.{apply, table_after}
use Rattle.rib_store.specs.declared.command.Reply.{Reply}
use Rattle.rib_store.proofs.LimitLemmas.{tables_are_within}
use Rattle.fib_sync.specs.Replies.{reply_at, replies_to}
use Rattle.route_lang.specs.declared.line.Line.{Line}
use Rattle.route_lang.specs.declared.line.Line.TheVariants.{Change, Quiet, Get4, Get6}
use Rattle.route_lang.specs.Script.{Reading}
use Rattle.route_lang.specs.Fits.{HasCommands, IsScript, no_commands}
use Rattle.route_lang.proofs.FitsLemmas.{each_has}
use Rattle.replay_run.specs.Family.{FlushesAtMost}
use Rattle.replay_run.specs.Line.{get_text, numbered}
use Rattle.replay_run.specs.Output.{answered, line_reply, line_text, paired, replied}
use Rattle.replay_run.proofs.ReplyLemmas.{flushes_few, get-replies}
use Rattle.threaded_replay.specs.Legal.{Inet, Inet6, Get, gets_from, gets_of, synced_behind}
use Rattle.threaded_replay.specs.declared.got.Got.{Got}
use Rattle.threaded_replay.specs.Merging.{AreRight, version_in, version_of}
use Rattle.threaded_replay.specs.Printing.{IsAtGet, text_behind}

-- ---- replies

-- the reply at a position is that to its command
pub reply_is : {w : ℕ} (most : ℕ) (plan : Planned w) (replies : List Reply) (pos : ℕ) (reply : Reply) → replies ≡ replies_to most plan (length plan.commands) → pos < length plan.commands
    → slice_get replies pos ≡ Some reply → Some reply ≡ reply_at most plan pos
reply_is most plan replies pos reply all within here =
    sym here ∙ ap (λ (rs : List Reply). slice_get rs pos) all ∙ get-replies most plan pos (length plan.commands) within (omega arith)

-- it flushes no more routes than a table has room for
pub flushes : {w : ℕ} (most : ℕ) (plan : Planned w) (pos : ℕ) (reply : Reply) → Some reply ≡ reply_at most plan pos → FlushesAtMost routes_max reply
flushes {w} most plan pos reply is = elim (slice_get_cases plan.commands pos).1 [
  | inl p ↦
      (let made : Some reply ≡ Some (apply plan.profile most (table_after most plan pos) p.0).reply = is ∙ ap (option_map (λ c. (apply plan.profile most (table_after most plan pos) c).reply)) p.2 in
      subst (λ r. FlushesAtMost routes_max r) (sym (same_Some _ _ made)) (flushes_few plan.profile most (table_after most plan pos) p.0 (tables_are_within w most plan pos).room))
  | inr p ↦ absurd (none-some reply (sym (is ∙ ap (option_map (λ c. (apply plan.profile most (table_after most plan pos) c).reply)) p.1)))
]

-- the commands of a line are the plans'
pub has_commands : (script : Reading) (lines : List Line) (i : ℕ) (found line : Line) → IsScript script → lines ≡ script.lines → slice_get lines i ≡ Some found → found ≡ line → HasCommands script line
has_commands script lines i found line facts same here is =
    subst (HasCommands script) is (each_has script no_commands script.lines i found facts.fits (subst (λ ls. slice_get ls i ≡ Some found) same here))

-- the answer of a get is written so
pub answered_inet : (most : ℕ) (script : Reading) (gots : List Got) (j line addr flow at synced : ℕ) (got : Got) → AreRight most script (gets_of script) gots
    → slice_get (gets_of script) j ≡ Some (record { family = Inet; addr = addr; flow = flow; line = line; at = at; synced = synced }) → slice_get gots j ≡ Some got
    → numbered line (get_text 32 addr got.version got.inet) ≡ answered most script.inet (version_in gots j) line addr flow
answered_inet most script gots j line addr flow at synced got right get is =
    let whole = (right.each j _ got get is).answer in
    ap (λ nexthop. numbered line (get_text 32 addr got.version nexthop)) (ap (λ (g : Got). g.inet) whole)
    ∙ ap (λ v. answered most script.inet v line addr flow) (sym (ap version_of is))

pub answered_inet6 : (most : ℕ) (script : Reading) (gots : List Got) (j line addr flow at synced : ℕ) (got : Got) → AreRight most script (gets_of script) gots
    → slice_get (gets_of script) j ≡ Some (record { family = Inet6; addr = addr; flow = flow; line = line; at = at; synced = synced }) → slice_get gots j ≡ Some got
    → numbered line (get_text 128 addr got.version got.inet6) ≡ answered most script.inet6 (version_in gots j) line addr flow
answered_inet6 most script gots j line addr flow at synced got right get is =
    let whole = (right.each j _ got get is).answer in
    ap (λ nexthop. numbered line (get_text 128 addr got.version nexthop)) (ap (λ (g : Got). g.inet6) whole)
    ∙ ap (λ v. answered most script.inet6 v line addr flow) (sym (ap version_of is))

-- a place of the gets has an answer
pub has_answer : (most : ℕ) (script : Reading) (gots : List Got) (j : ℕ) (get : Get) → AreRight most script (gets_of script) gots → slice_get (gets_of script) j ≡ Some get → j < length gots
has_answer most script gots j get right is = let inside = slice_get_within (gets_of script) j get is in omega (arith, inside, right.count)

-- what holds anyway
pub IfOk-any : {X E : Type 0} (r : Result X E) (P : Type 0) → P → IfOk r (λ x. P)
IfOk-any (Ok x) P p = p
IfOk-any (Err e) P p = tt

-- what was written goes on with what is left
pub text_on : (old new text behind left : List ℕ) → new ≡ old ++ text → behind ≡ text ++ left → new ++ left ≡ old ++ behind
text_on old new text behind left is splits = ap (λ bs. bs ++ left) is ∙ append_assoc old text left ∙ ap (λ bs. old ++ bs) (sym splits)

-- four texts in turn
pub four_on : (o a b c d o1 o2 o3 o4 : List ℕ) → o1 ≡ o ++ a → o2 ≡ o1 ++ b → o3 ≡ o2 ++ c → o4 ≡ o3 ++ d → o4 ≡ o ++ (a ++ (b ++ (c ++ d)))
four_on o a b c d o1 o2 o3 o4 e1 e2 e3 e4 = e4 ∙ ap (λ x. x ++ d) (e3 ∙ ap (λ x. x ++ c) (e2 ∙ ap (λ x. x ++ b) e1)) ∙ simp append_assoc

-- ---- texts

-- versions that are the same give the same pairs
paired_same : (lines : List Line) (f g : ℕ → ℕ) → ((j : ℕ) → f j ≡ g j) → paired lines f ≡ paired lines g
paired_same [] f g same = refl
paired_same (Change line inet inet6 ∷ lines) f g same = ap (λ ps. (Change line inet inet6, 0) ∷ ps) (paired_same lines f g same)
paired_same (Quiet line inet inet6 ∷ lines) f g same = ap (λ ps. (Quiet line inet inet6, 0) ∷ ps) (paired_same lines f g same)
paired_same (Get4 line addr flow at ∷ lines) f g same = rw (same 0, paired_same lines (λ j. f (suc j)) (λ j. g (suc j)) (λ j. same (suc j))) refl
paired_same (Get6 line addr flow at ∷ lines) f g same = rw (same 0, paired_same lines (λ j. f (suc j)) (λ j. g (suc j)) (λ j. same (suc j))) refl

module _ (most : ℕ) (script : Reading) (version : ℕ → ℕ) (i j line : ℕ) where
  -- the versions of the gets behind one
  on : (lines : List Line) → paired lines (λ k. version (j + suc k)) ≡ paired lines (λ k. version (j + 1 + k))
  on lines = paired_same lines _ _ (λ k. ap version (let e : j + suc k ≡ j + 1 + k = omega arith in e))

  first : version (j + 0) ≡ version j
  first = ap version (let e : j + 0 ≡ j = omega arith in e)

  pub change_text : (inet inet6 : Option ℕ) → drop i script.lines ≡ Change line inet inet6 ∷ drop (i + 1) script.lines
      → text_behind most script i version j ≡ replied line (line_reply most script inet inet6) ++ text_behind most script (i + 1) version j
  change_text inet inet6 here = ap (λ (ls : List Line). flat_map (line_text most script) (paired ls (λ k. version (j + k)))) here

  pub quiet_text : (inet inet6 : Option ℕ) → drop i script.lines ≡ Quiet line inet inet6 ∷ drop (i + 1) script.lines
      → text_behind most script i version j ≡ text_behind most script (i + 1) version j
  quiet_text inet inet6 here = ap (λ (ls : List Line). flat_map (line_text most script) (paired ls (λ k. version (j + k)))) here

  pub get4_text : (addr flow at : ℕ) → drop i script.lines ≡ Get4 line addr flow at ∷ drop (i + 1) script.lines
      → text_behind most script i version j ≡ answered most script.inet (version j) line addr flow ++ text_behind most script (i + 1) version (j + 1)
  get4_text addr flow at here =
      ap (λ (ls : List Line). flat_map (line_text most script) (paired ls (λ k. version (j + k)))) here
      ∙ ap (λ ps. answered most script.inet (version (j + 0)) line addr flow ++ flat_map (line_text most script) ps) (on (drop (i + 1) script.lines))
      ∙ ap (λ v. answered most script.inet v line addr flow ++ text_behind most script (i + 1) version (j + 1)) first

  pub get6_text : (addr flow at : ℕ) → drop i script.lines ≡ Get6 line addr flow at ∷ drop (i + 1) script.lines
      → text_behind most script i version j ≡ answered most script.inet6 (version j) line addr flow ++ text_behind most script (i + 1) version (j + 1)
  get6_text addr flow at here =
      ap (λ (ls : List Line). flat_map (line_text most script) (paired ls (λ k. version (j + k)))) here
      ∙ ap (λ ps. answered most script.inet6 (version (j + 0)) line addr flow ++ flat_map (line_text most script) ps) (on (drop (i + 1) script.lines))
      ∙ ap (λ v. answered most script.inet6 v line addr flow ++ text_behind most script (i + 1) version (j + 1)) first

-- ---- gets

-- what a list has at a place from which it goes on so
at_place : {X : Type 0} (xs rest : List X) (n : ℕ) (x : X) → drop n xs ≡ x ∷ rest → (slice_get xs n ≡ Some x) × (drop (n + 1) xs ≡ rest)
at_place xs rest n x here =
    let inside : n < length xs = (let many = ap length here in omega (arith, length-drop n xs, many)) in
    let parts : x ∷ rest ≡ get_or xs n x ∷ drop (n + 1) xs = sym here ∙ drop_more xs n x inside in
    let same : get_or xs n x ≡ x = cc in
    let behind : drop (n + 1) xs ≡ rest = cc in
    (slice_get-get_or xs n x inside ∙ ap (λ y. Some y) same, behind)

module _ (script : Reading) (i j line : ℕ) where
  pub at_change : (inet inet6 : Option ℕ) → drop i script.lines ≡ Change line inet inet6 ∷ drop (i + 1) script.lines → IsAtGet script i j → IsAtGet script (i + 1) j
  at_change inet inet6 here (synced, is) = (synced, is ∙ ap (λ (ls : List Line). gets_from script synced ls) here)

  pub at_quiet : (inet inet6 : Option ℕ) → drop i script.lines ≡ Quiet line inet inet6 ∷ drop (i + 1) script.lines → IsAtGet script i j → IsAtGet script (i + 1) j
  at_quiet inet inet6 here (synced, is) =
      (record { inet = synced_behind script.inet synced.inet inet; inet6 = synced_behind script.inet6 synced.inet6 inet6 }, is ∙ ap (λ (ls : List Line). gets_from script synced ls) here)

  pub at_get4 : (addr flow at : ℕ) → drop i script.lines ≡ Get4 line addr flow at ∷ drop (i + 1) script.lines → IsAtGet script i j
      → (synced : ℕ) × (slice_get (gets_of script) j ≡ Some (record { family = Inet; addr = addr; flow = flow; line = line; at = at; synced = synced })) × IsAtGet script (i + 1) (j + 1)
  at_get4 addr flow at here (synced, is) =
      let whole = is ∙ ap (λ (ls : List Line). gets_from script synced ls) here in
      let place = at_place (gets_of script) (gets_from script synced (drop (i + 1) script.lines)) j (record { family = Inet; addr = addr; flow = flow; line = line; at = at; synced = synced.inet }) whole in
      (synced.inet, place.0, (synced, place.1))

  pub at_get6 : (addr flow at : ℕ) → drop i script.lines ≡ Get6 line addr flow at ∷ drop (i + 1) script.lines → IsAtGet script i j
      → (synced : ℕ) × (slice_get (gets_of script) j ≡ Some (record { family = Inet6; addr = addr; flow = flow; line = line; at = at; synced = synced })) × IsAtGet script (i + 1) (j + 1)
  at_get6 addr flow at here (synced, is) =
      let whole = is ∙ ap (λ (ls : List Line). gets_from script synced ls) here in
      let place = at_place (gets_of script) (gets_from script synced (drop (i + 1) script.lines)) j (record { family = Inet6; addr = addr; flow = flow; line = line; at = at; synced = synced.inet6 }) whole in
      (synced.inet6, place.0, (synced, place.1))
