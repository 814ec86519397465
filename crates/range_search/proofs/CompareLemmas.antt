-- Starts compared one by one.
use Rattle.std.proofs.Common.{◌≡◌, ◌≢◌, ℕ, ◌+◌, ◌<◌, ◌≤◌, List, [], ◌∷◌, ◌++◌, Some, sym, ap, ◌∙◌, length, get_or, take}
use Rattle.std.specs.List.{slice_get}
use Rattle.std.specs.Map.{keys_of}
use Rattle.std.proofs.lemmas.List.{take_more, take_all, map-append, get_or-map}
use Rattle.std.proofs.lemmas.Option.{slice_get_within, get_or_from_slice_get}

keys_more : (xs : List (ℕ × ℕ)) (i : ℕ) (d : ℕ × ℕ) → i < length xs → keys_of (take (i + 1) xs) ≡ keys_of (take i xs) ++ (get_or xs i d).0 ∷ []
keys_more xs i d h = ap keys_of (take_more xs i d h) ∙ map-append (λ e. e.0) (take i xs) (get_or xs i d ∷ [])

-- one more pair of equal starts
pub agree_more : (xs ys : List (ℕ × ℕ)) (i : ℕ) (x d : ℕ × ℕ) → slice_get xs i ≡ Some x → i < length ys → x.0 ≡ (get_or ys i d).0 → keys_of (take i xs) ≡ keys_of (take i ys) → keys_of (take (i + 1) xs) ≡ keys_of (take (i + 1) ys)
agree_more xs ys i x d at h e before =
    keys_more xs i x (slice_get_within xs i x at)
    ∙ ap (λ c. keys_of (take i xs) ++ c.0 ∷ []) (get_or_from_slice_get xs i x x at)
    ∙ ap (λ n. keys_of (take i xs) ++ n ∷ []) e
    ∙ ap (λ ks. ks ++ (get_or ys i d).0 ∷ []) before
    ∙ sym (keys_more ys i d h)

-- all of them
pub agree_all : (xs ys : List (ℕ × ℕ)) (n : ℕ) → length xs ≤ n → length ys ≤ n → keys_of (take n xs) ≡ keys_of (take n ys) → keys_of xs ≡ keys_of ys
agree_all xs ys n h k e = sym (ap keys_of (take_all n xs h)) ∙ e ∙ ap keys_of (take_all n ys k)

-- one pair that differs
pub differ_at : (xs ys : List (ℕ × ℕ)) (i : ℕ) (x d : ℕ × ℕ) → slice_get xs i ≡ Some x → i < length ys → x.0 ≢ (get_or ys i d).0 → keys_of xs ≢ keys_of ys
differ_at xs ys i x d at h n e =
    n (ap (λ c. c.0) (sym (get_or_from_slice_get xs i x x at)) ∙ sym (get_or-map (λ c. c.0) xs i x 0 (slice_get_within xs i x at)) ∙ ap (λ ks. get_or ks i 0) e ∙ get_or-map (λ c. c.0) ys i d 0 h)
