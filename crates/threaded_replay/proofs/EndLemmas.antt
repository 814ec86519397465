-- What a family comes to whose gets were answered.
use Rattle.std.proofs.Common.{◌≡◌, ◌∙◌, ℕ, ◌<◌, List, [], ◌∷◌, ◌++◌, Some, length, refl, sym, ap, subst, arith}
use Rattle.std.specs.List.{filter_map, flat_map, slice_get}
use Rattle.std.proofs.lemmas.List.{length-map}
use Rattle.std.proofs.lemmas.List.Elements.{All-weaker}
use Rattle.std.proofs.lemmas.Option.{same_Some}
use Rattle.prefix_width.specs.Nexthop.{Hop}
use Rattle.rib_store.specs.Plan.{Planned}
use Rattle.rib_store.specs.Table.{table_after}
use Rattle.plan_cut.specs.PlanCourse.{course_of, last_version, versions_of}
use Rattle.plan_cut.specs.VersionTable.{commands_of}
use Rattle.plan_cut.specs.Versions.{Version}
use Rattle.plan_cut.proofs.ListingLemmas.{get-versions-final}
use Rattle.engine_set.specs.Engine.{kind_of}
use Rattle.engine_set.specs.Image.{Picture}
use Rattle.counted_map.specs.Counts.{Counts}
use Rattle.fib_sync.specs.Control.{Controlled}
use Rattle.fib_sync.specs.Lawful.{IsLawful, Names}
use Rattle.fib_sync.specs.Replies.{replies_to}
use Rattle.fib_sync.specs.VersionNames.{names_at}
use Rattle.fib_pass.specs.declared.totals.Packets.{Packets}
use Rattle.route_lang.specs.declared.line.Line.{Line}
use Rattle.fib_pass.specs.Totals.{end_of, packets_hit, packets_of}
use Rattle.fib_pass.specs.Views.{PassView}
use Rattle.route_lang.specs.Script.{Reading}
use Rattle.replay_run.specs.Line.{fib_text, packets_text}
use Rattle.replay_run.specs.Output.{Part, given, inet_of, inet6_of, line_text, output, packets_in, packets_lines, paired, plan_text}
use Rattle.threaded_replay.specs.declared.fib.Fib.{Fib}
use Rattle.threaded_replay.specs.Fibs.{IsRunFib}
use Rattle.threaded_replay.specs.Legal.{Family, gets_of}
use Rattle.replay_run.specs.Limits.{banks, targets_max}
use Rattle.threaded_replay.specs.Merging.{given_at}
use Rattle.threaded_replay.proofs.CountLemmas.{numbers}
use Rattle.threaded_replay.proofs.ProducingLemmas.{last_published}
use Rattle.threaded_replay.specs.Printing.{EndsSo, HasAllReplies}
use Rattle.threaded_replay.proofs.OutputLemmas.{hits_counted}

-- the image of the last version is written as the plan says
last_text : {w : ℕ} (most : ℕ) (plan : Planned w) (names : Names w) (v : ℕ) (image : Picture w) → IsLawful most plan names v image → v ≡ (last_version most plan).number
    → fib_text w image.version image.routes (kind_of image.engine) ≡ plan_text most plan
last_text {w} most plan names v image is last =
    let there : slice_get (versions_of most plan) v ≡ Some (last_version most plan) =
    subst (λ n. slice_get (versions_of most plan) n ≡ Some (last_version most plan)) (sym last) (get-versions-final (course_of most plan)) in
    let own : Version = record { number = image.version; count = image.count; kind = kind_of image.engine } in
    let same : own ≡ last_version most plan = same_Some own (last_version most plan) (sym is.listed ∙ there) in
    ap (λ n. fib_text w image.version n (kind_of image.engine)) (is.routes ∙ ap (λ o. length (table_after most plan (commands_of o))) is.listed)
    ∙ ap (λ (u : Version). fib_text w u.number (length (table_after most plan u.count)) u.kind) same

module _ {w : ℕ} (n : ℕ) (script : Reading) (version : ℕ → ℕ) (family : Family) (part : Part w) (old new : Fib w) (run : IsRunFib n script version family part.plan old new) where
  -- all commands have replies
  pub all_replies : HasAllReplies new.control
  all_replies =
      let at = run.through.abreast in
      let all : new.control.commands ≡ length new.control.plan.commands = run.through.all ∙ ap (λ (p : Planned w). length p.commands) (sym at.of_plan) in
      at.is_control.replies ∙ ap (λ k. replies_to targets_max new.control.plan k) all

  pub ends_so : 0 < n
      → filter_map (given targets_max part) (paired script.lines version) ≡ filter_map (given_at targets_max script (gets_of script) version family) (numbers 0 (length (gets_of script)))
      → EndsSo script version part new
  ends_so some gives =
      let at = run.through.abreast in
      let count : length new.passes.items ≡ n = sym (length-map {A = PassView w} new.passes.items end_of) ∙ run.used.passes in
      let counted = hits_counted targets_max n script family part.plan version new.passes.items (filter_map (given targets_max part) (paired script.lines version)) some count run.hops gives in
      let newest : new.publisher.own.version ≡ (last_version targets_max part.plan).number = last_published banks targets_max old.publisher.table part.plan n new.control new.publisher run.through in
      record {
        tied = All-weaker (λ (p : PassView w). (p.seat.table ≡ old.publisher.table) × (p.seat.key ≡ part.plan)) (λ (p : PassView w). p.seat.table ≡ new.publisher.table) (λ p h. h.0 ∙ sym at.at_table) new.passes.items run.passes;
        enough = omega (arith, count, at.counted);
        packets = ap (λ (p : Planned w). packets_hit p new.passes.items) at.keyed ∙ ap packets_of counted;
        newest = newest;
        text = last_text targets_max part.plan (names_at banks targets_max new.control.plan new.control.image.version) new.control.image.version new.control.image
            (subst (λ (p : Planned w). IsLawful targets_max p (names_at banks targets_max new.control.plan new.control.image.version) new.control.image.version new.control.image) at.of_plan at.is_control.image.lawful)
            (sym at.version ∙ newest);
      }

-- ---- the whole text

-- packets are written as counts are
flat_packets : (w : ℕ) (counts : Counts Hop) → flat_map (λ (p : Packets w). packets_text w (p.nexthop, p.count)) (packets_of counts) ≡ flat_map (packets_text w) counts
flat_packets w [] = refl
flat_packets w (e ∷ es) = ap (λ text. packets_text w e ++ text) (flat_packets w es)

same_packets : {w : ℕ} (part : Part w) (pairs : List (Line × ℕ)) (packets hit : List (Packets w)) → packets ≡ hit → hit ≡ packets_of (packets_in targets_max part pairs)
    → flat_map (λ (p : Packets w). packets_text w (p.nexthop, p.count)) packets ≡ packets_lines targets_max part pairs
same_packets {w} part pairs packets hit are so =
    ap (flat_map (λ (p : Packets w). packets_text w (p.nexthop, p.count))) (are ∙ so) ∙ flat_packets w (packets_in targets_max part pairs)

last_is : {w : ℕ} (control own : Controlled w) (text : List ℕ) → control ≡ own → fib_text w own.image.version own.image.routes (kind_of own.image.engine) ≡ text
    → fib_text w control.image.version control.image.routes (kind_of control.image.engine) ≡ text
last_is {w} control own text same is = ap (λ (c : Controlled w). fib_text w c.image.version c.image.routes (kind_of c.image.engine)) same ∙ is

joined : (l l' a a' b b' c c' d d' : List ℕ) → l ≡ l' → a ≡ a' → b ≡ b' → c ≡ c' → d ≡ d' → l ++ (a ++ (b ++ (c ++ d))) ≡ l' ++ (a' ++ (b' ++ (c' ++ d')))
joined l l' a a' b b' c c' d d' el ea eb ec ed = cc

pub whole_text : (script : Reading) (version : ℕ → ℕ) (inet : Fib 32) (inet6 : Fib 128) (packets : List (Packets 32)) (packets6 : List (Packets 128)) (control : Controlled 32) (control6 : Controlled 128) (empty lines all : List ℕ)
    → EndsSo script version (inet_of script) inet → EndsSo script version (inet6_of script) inet6
    → packets ≡ packets_hit inet.publisher.key inet.passes.items → packets6 ≡ packets_hit inet6.publisher.key inet6.passes.items
    → control ≡ inet.control → control6 ≡ inet6.control
    → empty ≡ [] → lines ≡ empty ++ flat_map (line_text targets_max script) (paired script.lines version)
    → all ≡ lines ++ (flat_map (λ (p : Packets 32). packets_text 32 (p.nexthop, p.count)) packets
    ++ (flat_map (λ (p : Packets 128). packets_text 128 (p.nexthop, p.count)) packets6
    ++ (fib_text 32 control.image.version control.image.routes (kind_of control.image.engine)
    ++ fib_text 128 control6.image.version control6.image.routes (kind_of control6.image.engine))))
    → all ≡ output targets_max script version
whole_text script version inet inet6 packets packets6 control control6 empty lines all ends ends6 are are6 own own6 none written whole =
    let pairs = paired script.lines version in
    whole
    ∙ joined _ _ _ _ _ _ _ _ _ _
    (written ∙ ap (λ t. t ++ flat_map (line_text targets_max script) pairs) none)
    (same_packets (inet_of script) pairs packets _ are ends.packets)
    (same_packets (inet6_of script) pairs packets6 _ are6 ends6.packets)
    (last_is control inet.control _ own ends.text)
    (last_is control6 inet6.control _ own6 ends6.text)
