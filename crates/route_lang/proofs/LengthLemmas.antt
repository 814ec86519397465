-- No spelled line is longer than a script's line may be.
use Rattle.std.proofs.Common.{◌≡◌, ◌∙◌, ◌==◌, ℕ, zero, suc, ◌+◌, ◌*◌, ◌^◌, ◌<◌, ◌≤◌, Bool, true, false, cond, nat_lt, List, [], ◌∷◌, ◌++◌, Option, Some, None, length, take, drop, flat_map, codes, decimal, lit<, inl, inr, refl, sym, ap, subst, arith, length-append, append_assoc}
use Rattle.std.specs.Int.{w128, to_be_bytes}
use Rattle.std.specs.Net.Addr.{segments_of}
use Rattle.std.specs.Net.Text.{hex, groups_text, longest_zero_run, compressed_text, hex_groups_text, dotted_text}
use Rattle.std.proofs.lemmas.Fmt.{length-decimal-le}
use Rattle.std.proofs.lemmas.List.{length-drop, length-take}
use Rattle.prefix_width.specs.Prefix.{Block, IsBlock}
use Rattle.prefix_width.specs.Path.{WeightedHop}
use Rattle.prefix_width.specs.declared.nexthop.NhKind.{NhKind}
use Rattle.prefix_width.specs.declared.nexthop.NhKind.TheVariants as kind
use Rattle.prefix_width.specs.declared.module.Kind.TheVariants.{Scan, Range, Radix, Dxr}
use Rattle.prefix_width.specs.declared.module.Setting.TheVariants.{Auto, Fixed}
use Rattle.addr_text.specs.Address.{IsFamilyWidth, address_text, dotted_of, colon_hex_of}
use Rattle.addr_text.specs.PrefixText.{prefix_text}
use Rattle.addr_text.proofs.OctetLemmas.{bytes_high_first_fit}
use Rattle.rib_store.specs.declared.command.Command.TheVariants as command
use Rattle.route_lang.specs.Spelling.{option_words, setting_words, target_words, gateway_words, spaced, joined}
use Rattle.route_lang.proofs.SpellingLemmas.{AreSettings, IsPath}
use Rattle.route_lang.proofs.CommandLemmas.{IsAsked, asked_words}
use Rattle.route_lang.specs.declared.asked.Asked.{Asked}
use Rattle.route_lang.specs.declared.asked.Asked.TheVariants.{Nothing, Inet, Inet6, Both, Get4, Get6, Profile}
use Rattle.route_lang.specs.declared.asked.Shared.TheVariants as shared
use Rattle.route_lang.specs.Limits.{line_limit}

-- ---- addresses

hex_length : (n : ℕ) → length (hex n) ≤ 4
unfolding hex
hex_length n = omega (arith, length-drop {A = ℕ})

more_length : (groups : List ℕ) → length (flat_map (λ t. 58 ∷ hex t) groups) ≤ 5 * length groups
more_length [] = omega arith
more_length (g ∷ groups) =
    let later = more_length groups in
    let first = hex_length g in
    let long = length-append (58 ∷ hex g) (flat_map (λ t. 58 ∷ hex t) groups) in
    omega arith

groups_length : (groups : List ℕ) → length (groups_text groups) ≤ 5 * length groups
groups_length [] = omega arith
groups_length (g ∷ groups) =
    let later = more_length groups in
    let first = hex_length g in
    let long = length-append (hex g) (flat_map (λ t. 58 ∷ hex t) groups) in
    omega arith

compressed_length : (groups : List ℕ) (run : ℕ × ℕ) → length groups ≤ 8 → length (compressed_text groups run) ≤ 82
compressed_length groups run few = choice (nat_lt 1 run.1)
  where
    choice : (t : Bool) → length (cond t (groups_text (take run.0 groups) ++ codes "::" ++ groups_text (drop (run.0 + run.1) groups)) (groups_text groups)) ≤ 82
    choice true =
        let head = groups_length (take run.0 groups) in
        let tail = groups_length (drop (run.0 + run.1) groups) in
        let head_few = length-take run.0 groups in
        let tail_few = length-drop (run.0 + run.1) groups in
        let front = length-append (groups_text (take run.0 groups)) (codes "::") in
        let long = length-append (groups_text (take run.0 groups) ++ codes "::") (groups_text (drop (run.0 + run.1) groups)) in
        omega arith
    choice false = let all = groups_length groups in omega arith

colon_hex_length : (a : ℕ) → length (colon_hex_of a) ≤ 82
unfolding colon_hex_of hex_groups_text
colon_hex_length a = compressed_length (segments_of (to_be_bytes w128 a)) (longest_zero_run (segments_of (to_be_bytes w128 a))) (omega arith)

octet_length : (n : ℕ) → n < 256 → length (decimal n) ≤ 3
octet_length n small = length-decimal-le 3 n (lit< tt) (omega arith) (omega arith)

four_length : (a b c d : ℕ) → a < 256 → b < 256 → c < 256 → d < 256 → length (dotted_text a b c d) ≤ 82
four_length a b c d ha hb hc hd =
    let la = octet_length a ha in
    let lb = octet_length b hb in
    let lc = octet_length c hc in
    let ld = octet_length d hd in
    simp length-append (omega arith)

dotted_length : (a : ℕ) → length (dotted_of a) ≤ 82
unfolding dotted_of
dotted_length a = four_length _ _ _ _ (bytes_high_first_fit 4 a 0) (bytes_high_first_fit 4 a 1) (bytes_high_first_fit 4 a 2) (bytes_high_first_fit 4 a 3)

address_length : (w a : ℕ) → IsFamilyWidth w → length (address_text w a) ≤ 82
address_length w a family =
    let P : ℕ → Type 0 = λ w. length (address_text w a) ≤ 82 in
    elim family [ inl e ↦ subst P (sym e) (dotted_length a) | inr e ↦ subst P (sym e) (colon_hex_length a) ]

prefix_length : (w : ℕ) (b : Block) → IsFamilyWidth w → IsBlock w b → length (prefix_text w b) ≤ 86
prefix_length w b family is =
    let front = address_length w b.base family in
    let len : b.len < 10 ^ 3 = omega (arith, is.1, is.2) in
    let digits = length-decimal-le 3 b.len (lit< tt) len (omega arith) in
    let long = length-append (address_text w b.base) (47 ∷ decimal b.len) in
    omega arith

-- ---- words

spaced_append : (xs ys : List (List ℕ)) → spaced (xs ++ ys) ≡ spaced xs ++ spaced ys
spaced_append [] ys = refl
spaced_append (x ∷ xs) ys = ap (λ rest. (32 ∷ x) ++ rest) (spaced_append xs ys) ∙ sym (append_assoc (32 ∷ x) (spaced xs) (spaced ys))

word_length : (word : List ℕ) (words : List (List ℕ)) → length (spaced (word ∷ words)) ≡ 1 + length word + length (spaced words)
word_length word words = length-append (32 ∷ word) (spaced words) ∙ omega arith

number_length : (n : ℕ) → n < 2 ^ 32 → length (decimal n) ≤ 10
number_length n small = length-decimal-le 10 n (lit< tt) (omega arith) (omega arith)

option_length : (option : List ℕ) (absent n : ℕ) → n < 2 ^ 32 → length option ≤ 7 → length (spaced (option_words option absent n)) ≤ 19
option_length option absent n small short = choice (n == absent)
  where
    choice : (t : Bool) → length (spaced (cond t [] (option ∷ decimal n ∷ []))) ≤ 19
    choice true = omega arith
    choice false = omega (arith, word_length option (decimal n ∷ []), word_length (decimal n) [], number_length n small)

settings_length : (p : WeightedHop) → AreSettings p → length (spaced (setting_words p)) ≤ 57
settings_length p are =
    let iface = option_words (codes "-if") 0 p.nexthop.iface in
    let mtu = option_words (codes "-mtu") 0 p.nexthop.mtu in
    let weight = option_words (codes "-weight") 1 p.weight in
    let one = option_length (codes "-if") 0 p.nexthop.iface (omega (arith, are.iface)) (omega arith) in
    let two = option_length (codes "-mtu") 0 p.nexthop.mtu are.mtu (omega arith) in
    let three = option_length (codes "-weight") 1 p.weight (omega (arith, are.weight)) (omega arith) in
    rw (spaced_append iface (mtu ++ weight), spaced_append mtu weight) (omega (arith, length-append (spaced iface) (spaced mtu ++ spaced weight), length-append (spaced mtu) (spaced weight)))

target_length : (w : ℕ) (k : NhKind) (p : WeightedHop) → IsFamilyWidth w → AreSettings p → length (spaced (target_words w k p)) ≤ 140
target_length w kind.Via p family are = omega (arith, word_length (address_text w p.nexthop.gateway) (setting_words p), address_length w p.nexthop.gateway family, settings_length p are)
target_length w kind.Direct p family are = omega (arith, settings_length p are)
target_length w kind.Blackhole p family are = omega arith
target_length w kind.Reject p family are = omega arith

route_length : (w : ℕ) (name family_name : List ℕ) (b : Block) (p : WeightedHop) → length name ≤ 6 → length family_name ≤ 6 → IsFamilyWidth w → IsBlock w b → IsPath w p → length (joined (name ∷ family_name ∷ prefix_text w b ∷ target_words w p.nexthop.kind p)) ≤ line_limit
route_length w name family_name b p short short_family family is path =
    omega (arith, length-append name (spaced (family_name ∷ prefix_text w b ∷ target_words w p.nexthop.kind p)), word_length family_name (prefix_text w b ∷ target_words w p.nexthop.kind p), word_length (prefix_text w b) (target_words w p.nexthop.kind p), prefix_length w b family is, target_length w p.nexthop.kind p family path.settings)

delete_length : (w : ℕ) (family_name : List ℕ) (b : Block) (g : Option ℕ) → length family_name ≤ 6 → IsFamilyWidth w → IsBlock w b → length (joined (codes "delete" ∷ family_name ∷ prefix_text w b ∷ gateway_words w g)) ≤ line_limit
delete_length w family_name b None short family is =
    omega (arith, length-append (codes "delete") (spaced (family_name ∷ prefix_text w b ∷ [])), word_length family_name (prefix_text w b ∷ []), word_length (prefix_text w b) [], prefix_length w b family is)
delete_length w family_name b (Some g) short family is =
    omega (arith, length-append (codes "delete") (spaced (family_name ∷ prefix_text w b ∷ address_text w g ∷ [])), word_length family_name (prefix_text w b ∷ address_text w g ∷ []), word_length (prefix_text w b) (address_text w g ∷ []), word_length (address_text w g) [], prefix_length w b family is, address_length w g family)

get_length : (w : ℕ) (family_name : List ℕ) (a f : ℕ) → length family_name ≤ 6 → IsFamilyWidth w → f < 2 ^ 32 → length (joined (codes "get" ∷ family_name ∷ address_text w a ∷ option_words (codes "flow") 0 f)) ≤ line_limit
get_length w family_name a f short family small =
    omega (arith, length-append (codes "get") (spaced (family_name ∷ address_text w a ∷ option_words (codes "flow") 0 f)), word_length family_name (address_text w a ∷ option_words (codes "flow") 0 f), word_length (address_text w a) (option_words (codes "flow") 0 f), address_length w a family, option_length (codes "flow") 0 f small (omega arith))

-- no line that is spelled of what is asked is too long
pub asked_short : (asked : Asked) → IsAsked asked → length (joined (asked_words asked)) ≤ line_limit
asked_short Nothing is = omega arith
asked_short (Inet (command.Add b p)) is = route_length 32 (codes "add") (codes "-inet") b p (omega arith) (omega arith) (inl refl) is.0 is.1
asked_short (Inet (command.Change b p)) is = route_length 32 (codes "change") (codes "-inet") b p (omega arith) (omega arith) (inl refl) is.0 is.1
asked_short (Inet (command.Delete b g)) is = delete_length 32 (codes "-inet") b g (omega arith) (inl refl) is.0
asked_short (Inet command.Flush) is = omega arith
asked_short (Inet (command.Tick ms)) is = absurd is
asked_short (Inet command.Sync) is = absurd is
asked_short (Inet (command.Algo Auto)) is = omega arith
asked_short (Inet (command.Algo (Fixed Scan))) is = omega arith
asked_short (Inet (command.Algo (Fixed Range))) is = omega arith
asked_short (Inet (command.Algo (Fixed Radix))) is = omega arith
asked_short (Inet (command.Algo (Fixed Dxr))) is = omega arith
asked_short (Inet6 (command.Add b p)) is = route_length 128 (codes "add") (codes "-inet6") b p (omega arith) (omega arith) (inr refl) is.0 is.1
asked_short (Inet6 (command.Change b p)) is = route_length 128 (codes "change") (codes "-inet6") b p (omega arith) (omega arith) (inr refl) is.0 is.1
asked_short (Inet6 (command.Delete b g)) is = delete_length 128 (codes "-inet6") b g (omega arith) (inr refl) is.0
asked_short (Inet6 command.Flush) is = omega arith
asked_short (Inet6 (command.Tick ms)) is = absurd is
asked_short (Inet6 command.Sync) is = absurd is
asked_short (Inet6 (command.Algo Auto)) is = omega arith
asked_short (Inet6 (command.Algo (Fixed Scan))) is = omega arith
asked_short (Inet6 (command.Algo (Fixed Range))) is = omega arith
asked_short (Inet6 (command.Algo (Fixed Radix))) is = omega arith
asked_short (Inet6 (command.Algo (Fixed Dxr))) is = omega arith
asked_short (Both shared.Flush) is = omega arith
asked_short (Both (shared.Tick ms)) is = omega (arith, word_length (decimal ms) [], number_length ms is)
asked_short (Both shared.Sync) is = omega arith
asked_short (Get4 a f) is = get_length 32 (codes "-inet") a f (omega arith) (inl refl) is.1
asked_short (Get6 a f) is = get_length 128 (codes "-inet6") a f (omega arith) (inr refl) is.1
asked_short (Profile zero) is = absurd (omega (arith, is.0))
asked_short (Profile (suc zero)) is = omega arith
asked_short (Profile (suc (suc zero))) is = omega arith
asked_short (Profile (suc (suc (suc n)))) is = absurd (omega (arith, is.1))
