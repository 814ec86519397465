-- Choice of a module: preferences by the number of routes, and the margin that a better one has to have.
use Rattle.std.specs.Prelude.{◌≡◌, ℕ, ◌+◌, ◌-◌, ◌/◌, max, Bool, true, false, ◌==◌, nat_lt, nat_le, if◌then◌else◌, Option, Some, None}
use Rattle.prefix_width.specs.declared.module.Kind.{Kind}
use Rattle.prefix_width.specs.declared.module.Kind.TheVariants.{Scan, Range, Radix, Dxr}
use Rattle.prefix_width.specs.declared.module.Setting.{Setting}
use Rattle.prefix_width.specs.declared.module.Setting.TheVariants.{Auto, Fixed}

-- how well a module suits n routes of w bits
abbrev pub preference : ℕ → ℕ → Kind → ℕ
preference w n Scan = 50
preference w n Range = max 1 (253 - n / 4)
preference w n Radix = if nat_lt n 100000 then 200 else 100
preference w n Dxr = if w == 32 then (if nat_lt n 1000 then 150 else 240) else 0

-- the greatest preference
abbrev pub greatest : ℕ → ℕ → ℕ
greatest w n = max (preference w n Scan) (max (preference w n Range) (max (preference w n Radix) (preference w n Dxr)))

-- whether no module has a greater preference
abbrev pub is_greatest : ℕ → ℕ → Kind → Bool
is_greatest w n kind = preference w n kind == greatest w n

-- the module of the greatest preference; of several the first of scan, range, radix, dxr
abbrev pub best : ℕ → ℕ → Kind
best w n =
    if is_greatest w n Scan then Scan
    else if is_greatest w n Range then Range
    else if is_greatest w n Radix then Radix
    else Dxr

-- by how much the greatest preference has to be above that of the current module
abbrev pub margin : ℕ
margin = 10

-- whether the greatest preference is that of this module plus the margin, or more
abbrev pub is_outdone : ℕ → ℕ → Kind → Bool
is_outdone w n kind = nat_le (preference w n kind + margin) (greatest w n)

-- the module that is chosen for n routes: the one that is set, else the best where there is no current one or it is outdone
abbrev pub choose : ℕ → Option Kind → Setting → ℕ → Kind
choose w current (Fixed kind) n = kind
choose w None Auto n = best w n
choose w (Some kind) Auto n = if is_outdone w n kind then best w n else kind

-- dxr is for 32 bits alone
abbrev pub Suits : ℕ → Kind → Type 0
Suits w Scan = Unit {0}
Suits w Range = Unit {0}
Suits w Radix = Unit {0}
Suits w Dxr = w ≡ 32

-- the current module, if there is one, suits the width
abbrev pub CurrentSuits : ℕ → Option Kind → Type 0
CurrentSuits w None = Unit {0}
CurrentSuits w (Some kind) = Suits w kind

-- the module that is set, if there is one, suits the width
abbrev pub SettingSuits : ℕ → Setting → Type 0
SettingSuits w Auto = Unit {0}
SettingSuits w (Fixed kind) = Suits w kind

-- whether two modules are the same
abbrev pub is_kind : Kind → Kind → Bool
is_kind Scan Scan = true
is_kind Range Range = true
is_kind Radix Radix = true
is_kind Dxr Dxr = true
is_kind a b = false
