-- Single bytes, and how a text begins, ends and what it holds. A text is a list of bytes.
use Rattle.std.specs.Prelude.{ℕ, ◌+◌, Bool, true, false, ◌==◌, ◌&&◌, ◌||◌, nat_lt, nat_le, nat_eq}
use Rattle.std.specs.Prelude.{if◌then◌else◌, List, [], ◌∷◌, map, codes}
use Rattle.std.specs.List.{list_any, starts_with, ends_with}
use Rattle.std.specs.Str.{byte}

-- the byte is one of the set
abbrev pub is_among : List ℕ → ℕ → Bool
is_among set b = list_any (λ c. b == c) set

-- A bad byte of reference names: a control byte, DEL, or one of these. (`*` has a fault of its own.)
unfoldable pub is_bad : ℕ → Bool
is_bad b = nat_lt b 0x20 || (b == 0x7F || is_among (codes " :?[\\^~") b)

-- `A` to `Z` as `a` to `z`, and each other byte as itself
unfoldable pub lower_byte : ℕ → ℕ
lower_byte b = if nat_le (byte "A") b && nat_le b (byte "Z") then b + 32 else b

-- a text without ASCII case
abbrev pub lower : List ℕ → List ℕ
lower x = map lower_byte x

abbrev pub is_empty : List ℕ → Bool
is_empty [] = true
is_empty (b ∷ x) = false

-- the text begins with this front
abbrev pub begins : List ℕ → List ℕ → Bool
begins x front = starts_with nat_eq x front

-- the text ends in this back
abbrev pub ends : List ℕ → List ℕ → Bool
ends x back = ends_with nat_eq x back

-- the part is somewhere in the text
abbrev pub holds : List ℕ → List ℕ → Bool
holds [] part = is_empty part
holds (b ∷ x) part = begins (b ∷ x) part || holds x part
