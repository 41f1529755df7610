-- How the sixteen bytes of a block are taken from a text, and what a scan says of the offsets of a text.
use Rattle.std.specs.Prelude.{◌≡◌, ℕ, ◌+◌, ◌-◌, ◌%◌, ◌<◌, Bool, true, false, not, ◌==◌, nat_lt}
use Rattle.std.specs.Prelude.{if◌then◌else◌, List, slice_index, Option, MatchOption}
use Rattle.gix_validate.specs.declared.lanes.TheConstants.{LANES}

-- the block has n bytes of the text from the first offset on and n from the second, again and again
abbrev pub HasParts : ℕ → ℕ → ℕ → List ℕ → List ℕ → Type 0
HasParts n first second x block = (k : ℕ) → k < LANES → slice_index block k
    ≡ slice_index x (if nat_lt (k % (n + n)) n then first + k % (n + n) else second + (k % (n + n) - n))

-- the byte is not zero
abbrev pub is_nonzero : ℕ → Bool
is_nonzero b = not (b == 0)

-- no offset before n is a hit
abbrev pub NoneBelow : (ℕ → Bool) → ℕ → Type 0
NoneBelow hit n = (k : ℕ) → k < n → hit k ≡ false

-- the offset, one of so many, is a hit, and none before it is
pub record IsFirst (hit : ℕ → Bool) (offsets i : ℕ) : Type 0 where
  pub within : i < offsets
  pub here : hit i ≡ true
  pub none : NoneBelow hit i

-- the first hit of so many offsets, or that none before offset n is one
abbrev pub Finds : (ℕ → Bool) → ℕ → ℕ → Option ℕ → Type 0
Finds hit offsets n found = MatchOption found (NoneBelow hit n) (λ i. IsFirst hit offsets i)

-- whether the bytes of two texts at this offset are a hit
abbrev pub at_both : (ℕ → ℕ → Bool) → List ℕ → List ℕ → ℕ → Bool
at_both hit x y k = hit (slice_index x k) (slice_index y k)
