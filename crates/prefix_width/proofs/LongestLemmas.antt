-- What `longest` finds has the property of the longest match.
use Rattle.std.proofs.Common.{◌≡◌, ℕ, ◌≤◌, Bool, true, false, cond, nat_lt, List, [], ◌∷◌, Option, Some, None, refl, arith}
use Rattle.std.specs.Prelude.{Contains}
use Rattle.std.proofs.lemmas.Bool.{both_ways, ltb-true, ltb-false}
use Rattle.std.proofs.lemmas.List.Elements.{All-nil, All-cons, All-weaker, Contains-append_left, Contains-append_right, Contains-push}
use Rattle.prefix_width.specs.Prefix.{Block, contains}
use Rattle.prefix_width.specs.Longest.{longer, longest, IsLongest}

here : {X : Type 0} (x : X) (xs : List X) → Contains (x ∷ xs) x
here x xs = Contains-append_left (x ∷ []) xs x (Contains-push [] x)

there : {X : Type 0} (y : X) (xs : List X) (x : X) → Contains xs x → Contains (y ∷ xs) x
there y xs x h = Contains-append_right (y ∷ []) xs x h

-- the row at hand against the best of the others
chosen : {X : Type 0} (w a : ℕ) (r : Block × X) (rs : List (Block × X)) (s : Block × X) (c : Bool) → nat_lt r.0.len s.0.len ≡ c → contains w r.0 a ≡ true → IsLongest w rs a (Some s) → IsLongest w (r ∷ rs) a (cond c (Some s) (Some r))
chosen w a r rs s true e i h =
    (there r rs s h.0, h.1, All-cons (λ row. contains w row.0 a ≡ true → row.0.len ≤ s.0.len) r rs (λ _. let l = ltb-true r.0.len s.0.len e in omega arith) h.2)
chosen w a r rs s false e i h =
    let k : s.0.len ≤ r.0.len = ltb-false r.0.len s.0.len e in
    (here r rs, i, All-cons (λ row. contains w row.0 a ≡ true → row.0.len ≤ r.0.len) r rs (λ _. omega arith) (All-weaker (λ row. contains w row.0 a ≡ true → row.0.len ≤ s.0.len) (λ row. contains w row.0 a ≡ true → row.0.len ≤ r.0.len) (λ x f t. let g : x.0.len ≤ s.0.len = f t in omega arith) rs h.2))

step : {X : Type 0} (w a : ℕ) (r : Block × X) (rs : List (Block × X)) (b : Bool) (o : Option (Block × X)) → contains w r.0 a ≡ b → IsLongest w rs a o → IsLongest w (r ∷ rs) a (longer (cond b (Some r) None) o)
step w a r rs false None e h = All-cons (λ row. contains w row.0 a ≡ false) r rs e h
step w a r rs false (Some s) e h =
    (there r rs s h.0, h.1, All-cons (λ row. contains w row.0 a ≡ true → row.0.len ≤ s.0.len) r rs (λ t. absurd (both_ways _ e t)) h.2)
step w a r rs true None e h =
    (here r rs, e, All-cons (λ row. contains w row.0 a ≡ true → row.0.len ≤ r.0.len) r rs (λ _. omega arith) (All-weaker (λ row. contains w row.0 a ≡ false) (λ row. contains w row.0 a ≡ true → row.0.len ≤ r.0.len) (λ x f t. absurd (both_ways _ f t)) rs h))
step w a r rs true (Some s) e h = chosen w a r rs s (nat_lt r.0.len s.0.len) refl e h

-- what `longest` finds has the property
pub longest_is : {X : Type 0} (w : ℕ) (rows : List (Block × X)) (a : ℕ) → IsLongest w rows a (longest w rows a)
longest_is w [] a = All-nil (λ row. contains w row.0 a ≡ false)
longest_is w (r ∷ rs) a = step w a r rs (contains w r.0 a) (longest w rs a) refl (longest_is w rs a)
