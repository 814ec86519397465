-- Each option that clap's parse of the command took has a number in its range.
use Rattle.std.proofs.Common.{◌≡◌, ◌<◌, ◌∙◌, ℕ, Bool, true, false, cond, drop, length, List, [], ◌∷◌, map, Option, Some, None, Result, Ok, Err, refl, sym, ap, subst, inl, inr, codes, slice_index_or, arith, ◌==◌, zero, suc, true≢false}
use Rattle.std.specs.Prelude.{option_map, slice_get, unwrap_or, pos}
use Rattle.std.specs.List.{All, list_all}
use Rattle.std.specs.Borrow.{Bor}
use Rattle.std.specs.Str.{bytes_eq}
use Rattle.std.specs.Str.Parse.{IsNumeral, ParsesUnsigned, starts_with_minus, without_leading_plus}
use Rattle.std.proofs.Math.ListN.{get_or-map}
use Rattle.std.proofs.lemmas.Bool.{cases_lt, eqb-true, ne_eqb, not-true}
use Rattle.std.proofs.lemmas.List.{length-map}
use Rattle.std.proofs.lemmas.Int.{ints}
use Rattle.std.proofs.lemmas.List.Elements.{All-get_or}
use Rattle.std.proofs.lemmas.Slice.Eq.{bytes_eq-Decides}
use Rattle.std.proofs.lemmas.Str.Parse.{digit_from_value}
use Rattle.clap.specs.Lexer.{without_minus}
use Rattle.clap.specs.Built.{IsAuto, IsParsedFrom, NamesNoGroup, SameRules}
use Rattle.clap.specs.Facts.{EntryPasses, HasReading, PassesArg, ValuesPass, args_of, groups_of, parser_of, parser_of_value}
use Rattle.clap.specs.Matches.{ReadsOne, found_of, matched_of, one_text}
use Rattle.clap.specs.Simple.{App, app_of, has_plain_fields}
use Rattle.clap.specs.Values.{Accepts, IsSignedIn, read_as, reading_of}
use Rattle.clap.specs.Walk.{Rule, is_empty, is_simple_arg, one_of, rows_of, rule_of}
use Rattle.clap.specs.declared.builder.arg.Arg.{Arg}
use Rattle.clap.specs.declared.builder.command.Command.{Command}
use Rattle.clap.specs.declared.builder.command.Command.TheViews.{out-Command}
use Rattle.clap.specs.declared.builder.value_parser.Reading.{Reading}
use Rattle.clap.specs.declared.builder.value_parser.Reading.TheVariants.{WithoutMinus}
use Rattle.clap.specs.declared.builder.value_parser.ValueParser.{ValueParser}
use Rattle.clap.specs.declared.builder.value_parser.ValueParser.TheVariants as vp
use Rattle.clap.specs.declared.parser.matches.ArgMatches.{ArgMatches}
use Rattle.clap.specs.declared.parser.matches.Found.{Found}
use Rattle.clap.specs.declared.parser.matches.MatchedArg.{MatchedArg}
use Rattle.clap.proofs.CallerLemmas.{entry_by_id}
use Rattle.clap.proofs.TakesLemmas.{each_rule}
use Rattle.clap.proofs.WalkLemmas.{both, one_text-rows}
use Rattle.command_line.specs.Words.{fibrun, mode_rule, number_rule, number_of, IsNumberIn, HasNumbers}

-- ---- the text of a number that passed its range, without its sign

without_minus-cond : (t : List ℕ) → without_minus t ≡ cond (starts_with_minus t) (drop 1 t) t
without_minus-cond [] = refl
without_minus-cond (x ∷ xs) = go (x == 45)
  where
    go : (b : Bool) → unwrap_or (cond b (Some xs) None) (x ∷ xs) ≡ cond b xs (x ∷ xs)
    go true = refl
    go false = refl

no_plus : (ds : List ℕ) → IsNumeral 10 ds → without_leading_plus ds ≡ ds
no_plus [] h = refl
no_plus (d ∷ ds) h =
    let plus : (d == 43) ≡ false = ne_eqb _ _ (λ e. omega (arith, digit_from_value d h.1.0)) in
    ap (λ (b : Bool). drop (cond b 1 0) (d ∷ ds)) plus

number_read : (low high : ℕ) (t : List ℕ) → IsSignedIn (pos low) (pos high) t → IsNumberIn low high (Some (without_minus t))
number_read low high t passed = subst (λ (u : List ℕ). IsNumberIn low high (Some u)) (sym (without_minus-cond t)) (go (starts_with_minus t) refl)
  where
    go : (b : Bool) → starts_with_minus t ≡ b → IsNumberIn low high (Some (cond (starts_with_minus t) (drop 1 t) t))
    go true minus =
        let low_ok = rw minus at passed.2 in
        let numeral : IsNumeral 10 (drop 1 t) = rw minus at passed.0 in
        rw (minus, no_plus (drop 1 t) numeral) (numeral, (omega (arith, ints), omega (arith, ints)))
    go false minus =
        let low_ok = rw minus at passed.2 in
        let high_ok = rw minus at passed.3 in
        let numeral : IsNumeral 10 (without_leading_plus t) = rw minus at passed.0 in
        rw minus (numeral, (omega (arith, ints), omega (arith, ints)))

-- what is read of an option is the number that its text writes
pub read_number : (E : Type 0) (G : List ℕ → Result ℕ E → Type 0) (o : Option (List ℕ)) (r : Option ℕ) → (o ≡ None → r ≡ None)
    → ((t : List ℕ) → o ≡ Some t → ReadsOne G t r) → ((t : List ℕ) (x : Result ℕ E) → G t x → ParsesUnsigned 32 10 t x)
    → IsNumberIn 0 4294967295 o → r ≡ option_map number_of o
read_number E G None r none some parses h = none refl
read_number E G (Some t) r none some parses h = go r (some t refl)
  where
    go : (r : Option ℕ) → ReadsOne G t r → r ≡ Some (number_of t)
    go (Some n) read = ap (λ (k : ℕ). Some k) (parses t (Ok n) read).1
    go None read =
        let most = h.1.1 in
        absurd (parses t (Err read.0) read.1 (h.0, omega arith))

-- ---- the text that a parse holds for an option, which only that option's range may have passed

module _ (c : Command) (f : Found) (id : List ℕ) (low high : ℕ)
    (values : ValuesPass c f) (no_groups : groups_of c ≡ []) (named : id ≡ [] → ⊥)
    (only : (x : Arg) (j : ℕ) → j < length (args_of c) → slice_index_or (args_of c) j x ≡ x → bytes_eq x.id.now id ≡ true → parser_of x ≡ vp.Signed (pos low) (pos high)) where
  value_passes : (t : List ℕ) → PassesArg c id t → IsSignedIn (pos low) (pos high) t
  value_passes t pass = subst (λ (p : ValueParser). Accepts pass.1.ignore_case p t) (only pass.1 pass.0 pass.2 pass.3 pass.4.0) pass.4.1

  is_read : (r : Reading) → HasReading c id r → r ≡ WithoutMinus
  is_read r any = sym any.4.1 ∙ ap reading_of (only any.1 any.0 any.2 any.3 any.4.0)

  first_read : (how : Reading) (vs : List (Bor (List ℕ))) → All (λ v. PassesArg c id v.now) vs → how ≡ WithoutMinus
      → IsNumberIn low high (option_map (λ s. read_as how s.now) (slice_get vs 0))
  first_read how [] all is = tt
  first_read how (v ∷ vs) all is =
      let pass = All-get_or (λ v. PassesArg c id v.now) (v ∷ vs) 0 v (omega arith) all in
      subst (λ (r : Reading). IsNumberIn low high (Some (read_as r v.now))) (sym is) (number_read low high v.now (value_passes v.now pass))

  entry_read : (x : MatchedArg) → matched_of f id ≡ Some x → IsNumberIn low high (option_map (λ s. read_as x.reading s.now) (slice_get x.vals.items 0))
  entry_read x found =
      let got = entry_by_id (EntryPasses c) f.entries.items id x values found in
      let same_x : got.0.1 ≡ x = got.1 in
      let key_id : got.0.0.now ≡ id = (bytes_eq-Decides got.0.0.now id).0 got.2 in
      let no_group : got.0.1.is_group ≡ true → ⊥ = λ g. elim (got.3.3 g) [
        | inl empty ↦ named (sym key_id ∙ empty)
        | inr lots ↦
            let bad : 0 < 0 = rw no_groups at lots in
            absurd (omega arith)
      ] in
      let all : All (λ v. PassesArg c id v.now) x.vals.items = elim got.3.0 [
        | inl g ↦ absurd (no_group g)
        | inr vals ↦ subst (λ (w : List ℕ). All (λ v. PassesArg c w v.now) x.vals.items) key_id (rw same_x at vals)
      ] in
      let is : x.reading ≡ WithoutMinus = elim got.3.4 [
        | inl g ↦ absurd (no_group g)
        | inr h ↦ ap (λ (y : MatchedArg). y.reading) (sym same_x) ∙ is_read got.0.1.reading (subst (λ (w : List ℕ). HasReading c w got.0.1.reading) key_id h)
      ] in
      first_read x.reading x.vals.items all is

  option_read : IsNumberIn low high (one_text f id)
  option_read = go (matched_of f id) refl
    where
      go : (o : Option MatchedArg) → matched_of f id ≡ o → IsNumberIn low high (one_text f id)
      go None e = rw e tt
      go (Some x) e = rw e (entry_read x e)

-- ---- the command of the program

-- what holds of each of its rules
each : (P : Rule → Type 0) → P mode_rule → P (number_rule (codes "workers") 1 64) → P (number_rule (codes "seed") 0 4294967295) → P (number_rule (codes "count") 1 1048576)
    → (k : ℕ) (d : Rule) → k < 4 → P (slice_index_or fibrun.top.rules k d)
each P mode workers seed count zero d lt = mode
each P mode workers seed count (suc zero) d lt = workers
each P mode workers seed count (suc (suc zero)) d lt = seed
each P mode workers seed count (suc (suc (suc zero))) d lt = count
each P mode workers seed count (suc (suc (suc (suc k)))) d lt = absurd (omega arith)

-- an argument of this id has the parser of a range
abbrev HasRange : List ℕ → ℕ → ℕ → Rule → Type 0
HasRange id low high rule = bytes_eq rule.id id ≡ true → rule.parser ≡ Some (vp.Signed (pos low) (pos high))

none_of : {X : Type 0} (xs : List X) → is_empty xs ≡ true → xs ≡ []
none_of [] e = refl
none_of (x ∷ xs) e =
    let none : length (x ∷ xs) ≡ 0 = eqb-true _ _ e in
    absurd (omega arith)

module _ (old : Command) (m : ArgMatches) (p : IsParsedFrom old m) (is : app_of old ≡ fibrun) where
  rules_are : map rule_of (args_of old) ≡ fibrun.top.rules
  rules_are = ap (λ (a : App). a.top.rules) is

  four : length (args_of old) ≡ 4
  four = sym (length-map (args_of old) rule_of) ∙ ap length rules_are

  rule_at : (k : ℕ) (x : Arg) → rule_of (slice_index_or (args_of old) k x) ≡ slice_index_or fibrun.top.rules k (rule_of x)
  rule_at k x = sym (get_or-map rule_of (args_of old) k x) ∙ ap (λ (rules : List Rule). slice_index_or rules k (rule_of x)) rules_are

  simple : All (λ a. is_simple_arg a ≡ true) (args_of old)
  simple = each_rule (λ (r : Rule). r.is_simple) (args_of old) (ap (list_all (λ (r : Rule). r.is_simple)) rules_are)

  names_no_group : NamesNoGroup old
  names_no_group k d lt = none_of _ (both _ _ (both _ _ (both _ _ (simple k d lt)).1).1).0

  plain_fields : has_plain_fields (out-Command old) ≡ true
  plain_fields = ap (λ (a : App). a.top.is_plain) is

  no_globals : (out-Command old).has_globals ≡ false
  no_globals = not-true _ (both _ _ (both _ _ (both _ _ plain_fields).1).1).0

  no_groups_built : groups_of p.built ≡ []
  no_groups_built = (p.from.same_groups names_no_group).1 ∙ none_of _ (both _ _ plain_fields).0

  module _ (id : List ℕ) (low high : ℕ) (named : id ≡ [] → ⊥)
      (ranges : (k : ℕ) (d : Rule) → k < 4 → HasRange id low high (slice_index_or fibrun.top.rules k d))
      (no_help : bytes_eq (codes "help") id ≡ false) (no_version : bytes_eq (codes "version") id ≡ false) where
    only : (x : Arg) (j : ℕ) → j < length (args_of p.built) → slice_index_or (args_of p.built) j x ≡ x → bytes_eq x.id.now id ≡ true
        → parser_of x ≡ vp.Signed (pos low) (pos high)
    only x j high_j at same = elim (cases_lt j (length (args_of old))) [
      | inl under ↦
          let a = slice_index_or (args_of old) j x in
          let kept : SameRules a x = subst (λ (w : Arg). SameRules a w) at (p.from.kept j x under).1 in
          let rule : rule_of a ≡ slice_index_or fibrun.top.rules j (rule_of x) = rule_at j x in
          let same_id : bytes_eq (rule_of a).id id ≡ true = ap (λ b. bytes_eq b.now id) (sym kept.id) ∙ same in
          let below : j < 4 = subst (λ n. j < n) four under in
          let range : HasRange id low high (rule_of a) = subst (HasRange id low high) (sym rule) (ranges j (rule_of x) below) in
          ap parser_of_value (kept.parser _ (range same_id))
      | inr over ↦
          elim (subst IsAuto at (p.from.extra j x over high_j)) [
            | inl help ↦ absurd (true≢false (sym same ∙ (ap (λ t. bytes_eq t id) help ∙ no_help)))
            | inr version ↦ absurd (true≢false (sym same ∙ (ap (λ t. bytes_eq t id) version ∙ no_version)))
          ]
    ]

    number_found : IsNumberIn low high (one_of id (rows_of (found_of m)))
    number_found =
        let parsed = p.parsed (p.from.globals ∙ no_globals) in
        subst (IsNumberIn low high) (one_text-rows (found_of m) id)
        (option_read p.built (found_of m) id low high parsed.values no_groups_built named only)

  pub numbers_found : HasNumbers (rows_of (found_of m))
  numbers_found = record {
    workers = number_found (codes "workers") 1 64 (λ e. cc) (each (HasRange (codes "workers") 1 64) (λ e. cc) (λ e. refl) (λ e. cc) (λ e. cc)) refl refl;
    seed = number_found (codes "seed") 0 4294967295 (λ e. cc) (each (HasRange (codes "seed") 0 4294967295) (λ e. cc) (λ e. cc) (λ e. refl) (λ e. cc)) refl refl;
    count = number_found (codes "count") 1 1048576 (λ e. cc) (each (HasRange (codes "count") 1 1048576) (λ e. cc) (λ e. cc) (λ e. cc) (λ e. refl)) refl refl;
  }
