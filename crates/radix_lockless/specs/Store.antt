-- What is kept in one of two widths.
use Rattle.std.specs.Prelude.{ℕ, nat_le, if◌then◌else◌}

-- the narrow one where addresses take 32 bits at most, else the wide one
abbrev pub by_width : {S : Type 0} → ℕ → S → S → S
by_width w narrow wide = if nat_le w 32 then narrow else wide
