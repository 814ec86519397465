-- The way from the root down to a place in a trie.
use Rattle.std.specs.Prelude.{◌≡◌, ℕ, ◌+◌, ◌<◌, ◌==◌, true, false, Option}
use Rattle.prefix_width.specs.Prefix.{Block, contains}
use Rattle.radix_lockless.specs.Trie.{Tree, IsBelow, one_if, times}
use Rattle.radix_lockless.specs.Trie.Tree.{Empty, Fork}

-- what stands around a place: nothing, or the node above with its other child, and what stands around that
pub data Path : Type 0 where
  Top : Path
  OnLeft : (key : ℕ) (prefix : Block) (index : Option ℕ) (right : Tree) (up : Path) → Path
  OnRight : (key : ℕ) (prefix : Block) (index : Option ℕ) (left : Tree) (up : Path) → Path

-- the whole, with this tree at the place
abbrev pub plug : Path → Tree → Tree
plug Top t = t
plug (OnLeft key prefix index right up) t = plug up (Fork key prefix index t right)
plug (OnRight key prefix index left up) t = plug up (Fork key prefix index left t)

-- how often a key is around the place
abbrev pub times_around : ℕ → Path → ℕ
times_around k Top = 0
times_around k (OnLeft key prefix index right up) = one_if (k == key) + (times k right + times_around k up)
times_around k (OnRight key prefix index left up) = one_if (k == key) + (times k left + times_around k up)

-- the prefix is below every node on the way, on the side that the way takes
abbrev pub IsOnWay : ℕ → Block → Path → Type 0
IsOnWay w q Top = Unit {0}
IsOnWay w q (OnLeft key prefix index right up) = IsBelow w prefix q false × IsOnWay w q up
IsOnWay w q (OnRight key prefix index left up) = IsBelow w prefix q true × IsOnWay w q up

-- the way ends here: the topmost prefix isn't a shorter one that covers q
abbrev pub EndsAt : ℕ → Block → Tree → Type 0
EndsAt w q Empty = Unit {0}
EndsAt w q (Fork key prefix index left right) = prefix.len < q.len → contains w prefix q.base ≡ true → ⊥
