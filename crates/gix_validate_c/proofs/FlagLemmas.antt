-- Bits of the flags past the third don't change the switches.
use Rattle.gix_validate.proofs.Common.{◌/◌, ◌^◌, refl, ◌≡◌, ℕ, ◌%◌, arith, and_pow}
use Rattle.gix_validate_c.specs.Flags.{has_flag, options_of}

-- a flag among the low three bits is found in what they give
low : (flags k flag : ℕ) → flag ≡ 2 ^ k → flags % 8 / flag % 2 ≡ flags / flag % 2
    → has_flag flag flags ≡ has_flag flag (flags % 8)
low flags k flag e same = grind (arith, and_pow flags k, and_pow (flags % 8) k)

pub low_flags : (flags : ℕ) → options_of (flags % 8) ≡ options_of flags
low_flags flags = rw (
  low flags 0 1 refl (omega arith),
  low flags 1 2 refl (omega arith),
  low flags 2 4 refl (omega arith),
)
