-- A number is the sum of its octets, and octets make groups of 16 bits and come back from them.
use Rattle.std.proofs.Common.{◌≡◌, ℕ, zero, suc, ◌+◌, ◌-◌, ◌*◌, ◌/◌, ◌%◌, ◌^◌, ◌<◌, ◌≤◌, List, [], ◌∷◌, length, get_or, refl, ap, ◌∙◌, arith}
use Rattle.std.proofs.Math.Nat.{pow-suc, pow-succ', pow-zero, div-div-eq-div-mul, div-lt_iff_lt-mul, one-le-pow}
use Rattle.std.specs.Int.{w128, byte_at, byte_worth, bytes_high_first, sum_through, to_be_bytes, from_be_bytes}
use Rattle.std.specs.Net.Addr.{segments_of, octets_of}

-- the octet at place i from the low end, and its worth, as quotients and powers
byte_at_is : (i n : ℕ) → byte_at i n ≡ n / 256 ^ i % 256
byte_at_is zero n = rw (pow-zero 256) (omega arith)
byte_at_is (suc i) n = refl

byte_worth_is : (i b : ℕ) → byte_worth i b ≡ b * 256 ^ i
byte_worth_is zero b = rw (pow-zero 256) (omega arith)
byte_worth_is (suc i) b = refl

byte_at_fits : (i n : ℕ) → byte_at i n < 256
byte_at_fits i n = rw (byte_at_is i n) (omega arith)

get_or-bytes_high_first : (k i n : ℕ) → i < k → get_or (bytes_high_first k n) i 0 ≡ byte_at (k - 1 - i) n
get_or-bytes_high_first zero i n h = absurd (omega arith)
get_or-bytes_high_first (suc k) zero n h = let same : k ≡ suc k - 1 - 0 = omega arith in ap (λ j. byte_at j n) same
get_or-bytes_high_first (suc k) (suc i) n h =
    let same : k - 1 - i ≡ suc k - 1 - suc i = omega arith in
    get_or-bytes_high_first k i n (omega arith) ∙ ap (λ j. byte_at j n) same

pub bytes_high_first_fit : (k n i : ℕ) → get_or (bytes_high_first k n) i 0 < 256
bytes_high_first_fit zero n i = omega arith
bytes_high_first_fit (suc k) n zero = byte_at_fits k n
bytes_high_first_fit (suc k) n (suc i) = bytes_high_first_fit k n i

-- two octets under one power
regrouped : (r s p : ℕ) → r * (p * 256) + s * p ≡ (r * 256 + s) * p
regrouped r s p = omega arith

-- what stands above octet m + 1 and octet m make what stands above octet m
joined : (n m : ℕ) → n / 256 ^ suc m * 256 ^ suc m + n / 256 ^ m % 256 * 256 ^ m ≡ n / 256 ^ m * 256 ^ m
joined n m =
    let q = n / 256 ^ m in
    let split : q / 256 * 256 + q % 256 ≡ q = omega arith in
    rw (pow-suc 256 m, ← div-div-eq-div-mul n (256 ^ m) 256) (regrouped (q / 256) (q % 256) (256 ^ m) ∙ ap (λ x. x * 256 ^ m) split)

-- the octet at place i of the k + 1 octets, with its worth
abbrev term : ℕ → ℕ → ℕ → ℕ
term k n i = byte_worth (k - i) (get_or (bytes_high_first (suc k) n) i 0)

term_is : (k n i : ℕ) → i ≤ k → term k n i ≡ n / 256 ^ (k - i) % 256 * 256 ^ (k - i)
term_is k n i h =
    let same : suc k - 1 - i ≡ k - i = omega arith in
    let octet : get_or (bytes_high_first (suc k) n) i 0 ≡ n / 256 ^ (k - i) % 256 =
    get_or-bytes_high_first (suc k) i n (omega arith) ∙ ap (λ j. byte_at j n) same ∙ byte_at_is (k - i) n in
    byte_worth_is (k - i) _ ∙ ap (λ b. b * 256 ^ (k - i)) octet

-- the highest octet is all that stands above the others
top_octet : (k n : ℕ) → n < 256 ^ suc k → n / 256 ^ k % 256 ≡ n / 256 ^ k
top_octet k n h =
    let small : n / 256 ^ k < 256 = (div-lt_iff_lt-mul {k = 256 ^ k} {x = n} {y = 256} (one-le-pow k 256 (omega arith))).1 (rw (pow-succ' 256 k) at h) in
    omega arith

-- the first octets are the number without what stands below them
front_sum : (k n j : ℕ) → n < 256 ^ suc k → j ≤ k → sum_through (term k n) j ≡ n / 256 ^ (k - j) * 256 ^ (k - j)
front_sum k n zero h le =
    let same : k - 0 ≡ k = omega arith in
    term_is k n 0 le ∙ rw (same, top_octet k n h) refl
front_sum k n (suc j) h le =
    let same : k - j ≡ suc (k - suc j) = omega arith in
    let front = front_sum k n j h (omega arith) in
    rw (front, term_is k n (suc j) le, same) (joined n (k - suc j))

-- the octets of a number of 128 bits make it again
pub from_be_bytes-to_be_bytes_16 : (n : ℕ) → n < 2 ^ 128 → from_be_bytes w128 (to_be_bytes w128 n) ≡ n
from_be_bytes-to_be_bytes_16 n h =
    let fits : n < 256 ^ suc 15 = omega arith in
    front_sum 15 n 15 fits (omega arith) ∙ omega arith

-- ---- groups of 16 bits

-- groups made of octets give them back
pub octets_of-segments_of : (k : ℕ) (octets : List ℕ) → length octets ≡ k + k → ((i : ℕ) → get_or octets i 0 < 256)
    → octets_of (segments_of octets) ≡ octets
octets_of-segments_of k [] even fit = refl
octets_of-segments_of k (a ∷ []) even fit = absurd (omega arith)
octets_of-segments_of k (a ∷ b ∷ octets) even fit =
    let low : b < 256 = fit 1 in
    let high_is : (a * 256 + b) / 256 ≡ a = omega arith in
    let low_is : (a * 256 + b) % 256 ≡ b = omega arith in
    rw (high_is, low_is, octets_of-segments_of (k - 1) octets (omega arith) (λ i. fit (suc (suc i)))) refl

pub segments_of_fit : (octets : List ℕ) → ((i : ℕ) → get_or octets i 0 < 256) → (i : ℕ) → get_or (segments_of octets) i 0 < 2 ^ 16
segments_of_fit [] fit i = omega arith
segments_of_fit (a ∷ []) fit i = omega arith
segments_of_fit (a ∷ b ∷ octets) fit zero =
    let high : a < 256 = fit 0 in
    let low : b < 256 = fit 1 in
    omega arith
segments_of_fit (a ∷ b ∷ octets) fit (suc i) = segments_of_fit octets (λ j. fit (suc (suc j))) i
