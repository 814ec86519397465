-- Laws of containment and of the longest match.
use Rattle.std.specs.Prelude.{◌≡◌, ℕ, ◌^◌, ◌<◌, ◌≤◌, ◌⊎◌, ◌↔◌, List, IsTrue}
use Rattle.prefix_width.specs.Prefix.{Block, IsBlock, contains, covers, last_of}
use Rattle.prefix_width.specs.Longest.{longest, IsLongest}

-- no address is in both prefixes
abbrev pub AreApart : ℕ → Block → Block → Type 0
AreApart w p q = (a : ℕ) → IsTrue (contains w p a) → IsTrue (contains w q a) → ⊥

-- two prefixes nest or share no address
abbrev pub PrefixesNest : Type 0
PrefixesNest =
    (w : ℕ) (p q : Block) → IsBlock w p → IsBlock w q
    → IsTrue (covers w p q) ⊎ (IsTrue (covers w q p) ⊎ AreApart w p q)

-- prefixes that contain one address are ordered by length: the shorter covers the longer, and one length is one prefix
abbrev pub OrderedByLength : Type 0
OrderedByLength =
    (w a : ℕ) (p q : Block) → IsBlock w p → IsBlock w q → IsTrue (contains w p a) → IsTrue (contains w q a)
    → p.len ≤ q.len → IsTrue (covers w p q) × (p.len ≡ q.len → p ≡ q)

-- a prefix contains the addresses from its own to its last one, and no other
abbrev pub ContainsItsRange : Type 0
ContainsItsRange =
    (w a : ℕ) (p : Block) → IsBlock w p
    → (last_of w p < 2 ^ w) × (IsTrue (contains w p a) ↔ ((p.base ≤ a) × (a ≤ last_of w p)))

-- a prefix covers another exactly where it contains every address of the other
abbrev pub CoversIsInclusion : Type 0
CoversIsInclusion =
    (w : ℕ) (p q : Block) → IsBlock w p → IsBlock w q
    → IsTrue (covers w p q) ↔ ((a : ℕ) → IsTrue (contains w q a) → IsTrue (contains w p a))

-- of rows of any kind `longest` finds one that contains the address and than which no such row is longer, or there is none
abbrev pub FindsLongest : Type 0 → Type 0
FindsLongest X = (w a : ℕ) (rows : List (Block × X)) → IsLongest w rows a (longest w rows a)
