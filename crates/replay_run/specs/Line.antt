-- The texts of a replay's output, each a line of its own or a part of one.
use Rattle.std.specs.Prelude.{ℕ, ◌==◌, List, [], ◌++◌, Option, Some, None, codes, decimal, if◌then◌else◌}
use Rattle.prefix_width.specs.declared.nexthop.NhKind.{NhKind}
use Rattle.prefix_width.specs.declared.nexthop.NhKind.TheVariants.{Via, Direct, Blackhole, Reject}
use Rattle.prefix_width.specs.declared.module.Kind.{Kind}
use Rattle.prefix_width.specs.declared.module.Kind.TheVariants.{Scan, Range, Radix, Dxr}
use Rattle.prefix_width.specs.Nexthop.{Hop}
use Rattle.addr_text.specs.Address.{address_text}
use Rattle.rib_store.specs.declared.command.Reply.{Reply}
use Rattle.rib_store.specs.declared.command.Reply.TheVariants.{Added, Joined, Changed, Deleted, Flushed, Nothing, Refused}
use Rattle.rib_store.specs.declared.command.Refusal.{Refusal}
use Rattle.rib_store.specs.declared.command.Refusal.TheVariants.{Exists, NotFound, PathsFull, TableFull, TargetsFull}

-- a line: its number, the text and a line feed
abbrev pub numbered : ℕ → List ℕ → List ℕ
numbered line text = decimal line ++ (codes " " ++ (text ++ codes "\n"))

-- ---- replies

abbrev pub refusal_text : Refusal → List ℕ
refusal_text Exists = codes "exists"
refusal_text NotFound = codes "not found"
refusal_text PathsFull = codes "paths full"
refusal_text TableFull = codes "table full"
refusal_text TargetsFull = codes "targets full"

abbrev pub reply_text : Reply → List ℕ
reply_text Added = codes "added"
reply_text Joined = codes "joined"
reply_text Changed = codes "changed"
reply_text Deleted = codes "deleted"
reply_text (Flushed routes) = codes "flushed " ++ decimal routes
reply_text Nothing = []
reply_text (Refused refusal) = codes "refused " ++ refusal_text refusal

-- the line of a reply; a command that asks nothing of the table has none
abbrev pub reply_line : ℕ → Reply → List ℕ
reply_line line Nothing = []
reply_line line reply = numbered line (reply_text reply)

-- ---- gets

-- the interface and the MTU, 0 for what is not given
abbrev pub link_text : Hop → List ℕ
link_text h = codes " if " ++ (decimal h.iface ++ (codes " mtu " ++ decimal h.mtu))

abbrev pub kind_text : NhKind → ℕ → Hop → List ℕ
kind_text Via w h = codes "via " ++ (address_text w h.gateway ++ link_text h)
kind_text Direct w h = codes "direct" ++ link_text h
kind_text Blackhole w h = codes "blackhole"
kind_text Reject w h = codes "reject"

abbrev pub nexthop_text : ℕ → Hop → List ℕ
nexthop_text w h = kind_text h.kind w h

abbrev pub target_text : ℕ → Option Hop → List ℕ
target_text w None = codes "none"
target_text w (Some h) = nexthop_text w h

-- what a get answers: the address, the version, and the nexthop
abbrev pub get_text : ℕ → ℕ → ℕ → Option Hop → List ℕ
get_text w addr version nexthop =
    address_text w addr ++ (codes " version " ++ (decimal version ++ (codes " " ++ target_text w nexthop)))

-- ---- behind the lines

abbrev pub family_name : ℕ → List ℕ
family_name w = if w == 32 then codes "inet" else codes "inet6"

abbrev pub module_name : Kind → List ℕ
module_name Scan = codes "scan"
module_name Range = codes "range"
module_name Radix = codes "radix"
module_name Dxr = codes "dxr"

-- the packets of a nexthop
abbrev pub packets_text : ℕ → Hop × ℕ → List ℕ
packets_text w packets =
    codes "packets " ++ (family_name w ++ (codes " " ++ (decimal packets.1 ++ (codes " " ++ (nexthop_text w packets.0 ++ codes "\n")))))

-- a version's number, how many routes its table has, and its module
abbrev pub version_text : ℕ → ℕ → Kind → List ℕ
version_text version routes kind =
    codes " version " ++ (decimal version ++ (codes " routes " ++ (decimal routes ++ (codes " algo " ++ module_name kind))))

-- the last version of a family
abbrev pub fib_text : ℕ → ℕ → ℕ → Kind → List ℕ
fib_text w version routes kind = codes "fib " ++ (family_name w ++ (version_text version routes kind ++ codes "\n"))
