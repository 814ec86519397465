-- Scripts of drawn numbers: the numbers that follow a seed, the line that a few of them give, and so many lines in turn.
use Rattle.std.specs.Prelude.{ℕ, zero, suc, ◌+◌, ◌*◌, ◌/◌, ◌%◌, ◌^◌, ◌==◌, nat_lt, List, [], ◌∷◌, None, if◌then◌else◌}
use Rattle.std.specs.List.{enumerate_from}
use Rattle.prefix_width.specs.Prefix.{Block, masked_block}
use Rattle.prefix_width.specs.Path.{WeightedHop}
use Rattle.prefix_width.specs.declared.nexthop.NhKind.TheVariants.{Via}
use Rattle.rib_store.specs.declared.command.Command.TheVariants as command
use Rattle.route_lang.specs.Request.{Request, OfInet, OfBoth, LookUp, Tick}
use Rattle.route_lang.specs.Script.{Reading, made_of}

-- ---- draws

-- the state behind a state
abbrev pub next_state : ℕ → ℕ
next_state x = (x * 6364136223846793005 + 1442695040888963407) % 2 ^ 64

-- the state behind so many draws
abbrev pub state_after : ℕ → ℕ → ℕ
state_after zero x = x
state_after (suc n) x = state_after n (next_state x)

-- the i-th number drawn behind a state, i from 1
abbrev pub draw : ℕ → ℕ → ℕ
draw i x = state_after i x / 2 ^ 32

-- ---- one line

-- a prefix of 12 to 20 bits in 10.0.0.0/8, its length by the first of two numbers and its address by the second
abbrev pub drawn_prefix : ℕ → ℕ → Block
drawn_prefix p q = masked_block 32 (167772160 + q % 4096 * 4096) (12 + p % 9)

-- a path of weight 1 to 4 to one of the eight gateways from 192.0.2.1 on
abbrev pub drawn_path : ℕ → WeightedHop
drawn_path s = record { nexthop = record { kind = Via; gateway = 3221225985 + s % 8; iface = 0; mtu = 0 }; weight = 1 + s / 8 % 4 }

-- what a line asks for, and how many numbers are drawn for it
pub record DrawnLine : Type 0 where
  pub request : Request
  pub draws : ℕ

-- the line behind a state: of sixteen, eight add, one changes, one deletes, one lets time pass, and five look up
abbrev pub drawn_line : ℕ → DrawnLine
drawn_line x =
    let kind = draw 1 x % 16 in
    if nat_lt kind 8 then record { request = OfInet (command.Add (drawn_prefix (draw 2 x) (draw 3 x)) (drawn_path (draw 4 x))); draws = 4 }
    else if kind == 8 then record { request = OfInet (command.Change (drawn_prefix (draw 2 x) (draw 3 x)) (drawn_path (draw 4 x))); draws = 4 }
    else if kind == 9 then record { request = OfInet (command.Delete (drawn_prefix (draw 2 x) (draw 3 x)) None); draws = 3 }
    else if kind == 10 then record { request = OfBoth (Tick 10); draws = 1 }
    else record { request = LookUp (167772160 + draw 2 x % 16777216) (draw 3 x); draws = 3 }

-- ---- the whole

-- the requests of so many lines behind a state
abbrev pub drawn_lines : ℕ → ℕ → List Request
drawn_lines zero x = []
drawn_lines (suc n) x = (drawn_line x).request ∷ drawn_lines n (state_after (drawn_line x).draws x)

-- the script of so many lines that a seed gives, numbered from 1
abbrev pub generated : ℕ → ℕ → Reading
generated seed count = made_of (enumerate_from 1 (drawn_lines count seed))
