-- The flags of the calls on a name. Bits other than these three are ignored.
use Rattle.std.specs.Prelude.{ℕ, Bool, ◌==◌, not, bit_and}
use Rattle.gix_validate.specs.declared.path.ComponentOptions.{ComponentOptions}

-- the flag, which is one bit, is among the flags
abbrev pub has_flag : ℕ → ℕ → Bool
has_flag flag flags = not (bit_and flags flag == 0)

-- the switches that are on
abbrev pub options_of : ℕ → ComponentOptions
options_of flags = record {
  protect_windows = has_flag 1 flags;
  protect_hfs = has_flag 2 flags;
  protect_ntfs = has_flag 4 flags;
}
