-- What a search for a slash says of the offsets of a text.
use Rattle.std.specs.Prelude.{◌≡◌, ℕ, ◌<◌, ◌≤◌, true, false, List, length, slice_index}
use Rattle.std.specs.Prelude.{if◌then◌else◌}
use Rattle.std.specs.Int.{bit_at}
use Rattle.gix_validate.specs.Pieces.{is_slash}

-- no byte from one offset to another, that one not included, is a slash
abbrev pub NoSlash : List ℕ → ℕ → ℕ → Type 0
NoSlash x start end = (k : ℕ) → start ≤ k → k < end → is_slash (slice_index x k) ≡ false

-- a slash is at the offset, and none from the start to there
pub record IsFirstSlash (x : List ℕ) (start at : ℕ) : Type 0 where
  pub ordered : start ≤ at
  pub within : at < length x
  pub here : is_slash (slice_index x at) ≡ true
  pub none : NoSlash x start at

-- a bit for each slash of the text: the lowest bit is for its first byte
abbrev pub MarksSlashes : List ℕ → ℕ → Type 0
MarksSlashes x bits = (k : ℕ) → bit_at bits k ≡ (if is_slash (slice_index x k) then 1 else 0)
