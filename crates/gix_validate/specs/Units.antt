-- How bytes read as UTF-8: Unicode's Table 3-7 of the whole sequences, and the units of a text by it.
use Rattle.std.specs.Prelude.{ℕ, zero, suc, ◌+◌, Bool, ◌==◌, ◌&&◌, nat_le, if◌then◌else◌, max, List}
use Rattle.std.specs.Prelude.{[], ◌∷◌, length, take, drop, Option, Some, None, unwrap_or}

-- the byte is at least the first of the two and at most the second
abbrev pub is_within : ℕ × ℕ → ℕ → Bool
is_within range b = nat_le range.0 b && nat_le b range.1

-- Unicode's Table 3-7: a row for each kind of whole sequence, with the range of each of its bytes.
unfoldable pub whole_sequences : List (List (ℕ × ℕ))
whole_sequences =
    ((0x00, 0x7F) ∷ [])
    ∷ ((0xC2, 0xDF) ∷ (0x80, 0xBF) ∷ [])
    ∷ ((0xE0, 0xE0) ∷ (0xA0, 0xBF) ∷ (0x80, 0xBF) ∷ [])
    ∷ ((0xE1, 0xEC) ∷ (0x80, 0xBF) ∷ (0x80, 0xBF) ∷ [])
    ∷ ((0xED, 0xED) ∷ (0x80, 0x9F) ∷ (0x80, 0xBF) ∷ [])
    ∷ ((0xEE, 0xEF) ∷ (0x80, 0xBF) ∷ (0x80, 0xBF) ∷ [])
    ∷ ((0xF0, 0xF0) ∷ (0x90, 0xBF) ∷ (0x80, 0xBF) ∷ (0x80, 0xBF) ∷ [])
    ∷ ((0xF1, 0xF3) ∷ (0x80, 0xBF) ∷ (0x80, 0xBF) ∷ (0x80, 0xBF) ∷ [])
    ∷ ((0xF4, 0xF4) ∷ (0x80, 0x8F) ∷ (0x80, 0xBF) ∷ (0x80, 0xBF) ∷ []) ∷ []

-- how long a front of the text fits the row, a byte for each range
abbrev pub fitting_len : List (ℕ × ℕ) → List ℕ → ℕ
fitting_len [] x = 0
fitting_len (range ∷ row) [] = 0
fitting_len (range ∷ row) (b ∷ x) = if is_within range b then 1 + fitting_len row x else 0

-- the length of the whole sequence that the text begins with, if it begins with one
abbrev pub whole_len : List (List (ℕ × ℕ)) → List ℕ → Option ℕ
whole_len [] x = None
whole_len (row ∷ rows) x = if fitting_len row x == length row then Some (length row) else whole_len rows x

-- the length of the longest front of the text that begins a whole sequence
abbrev pub begun_len : List (List (ℕ × ℕ)) → List ℕ → ℕ
begun_len [] x = 0
begun_len (row ∷ rows) x = max (fitting_len row x) (begun_len rows x)

-- The length of the first unit of a text that isn't empty: the whole sequence in front; else the longest
-- front that begins one; else one byte.
unfoldable pub first_unit_len : List ℕ → ℕ
first_unit_len x = unwrap_or (whole_len whole_sequences x) (max 1 (begun_len whole_sequences x))

-- First units, taken off at most so many times.
unfoldable pub units_within : ℕ → List ℕ → List (List ℕ)
units_within zero x = []
units_within (suc n) [] = []
units_within (suc n) (b ∷ x) =
    take (first_unit_len (b ∷ x)) (b ∷ x) ∷ units_within n (drop (first_unit_len (b ∷ x)) (b ∷ x))

-- The units of a text: the first unit taken off until nothing is left.
abbrev pub units : List ℕ → List (List ℕ)
units x = units_within (length x) x
