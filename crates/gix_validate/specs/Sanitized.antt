-- The sanitised text: what a text is repaired to, piece by piece, so that it is a partial name.
use Rattle.std.specs.Prelude.{◌≡◌, ◌≢◌, ◌⊎◌, ℕ, ◌-◌, Bool, true, false, ◌==◌, ◌&&◌, ◌||◌, not}
use Rattle.std.specs.Prelude.{IsTrue, if◌then◌else◌, List, [], ◌∷◌, ◌++◌, length, take, map, filter}
use Rattle.std.specs.Prelude.{codes, Option, Some, None, ⊤}
use Rattle.std.specs.List.{list_all}
use Rattle.std.specs.Str.{byte, bytes_eq}
use Rattle.gix_validate.specs.Bytes.{is_bad, is_empty, ends}
use Rattle.gix_validate.specs.Pieces.{pieces, joined}
use Rattle.gix_validate.specs.Tag.{is_good_piece}

-- A run of a piece: all the dots in a row at one offset, or one other byte.
pub data Run : Type 0 where
  Dots : Run
  Other : ℕ → Run

-- the runs of a piece with one dot more in front of it
abbrev pub dot_before : List Run → List Run
dot_before (Dots ∷ after) = Dots ∷ after
dot_before after = Dots ∷ after

-- the runs of a piece, in order
abbrev pub runs : List ℕ → List Run
runs [] = []
runs (b ∷ p) = if b == byte "." then dot_before (runs p) else Other b ∷ runs p

-- the last byte of a run
abbrev pub last_of : Run → ℕ
last_of Dots = byte "."
last_of (Other b) = b

-- the byte itself, or a dash for a byte that may not be in a name
abbrev pub allowed : ℕ → ℕ
allowed b = if is_bad b || b == byte "*" then byte "-" else b

-- the one byte that a run gives, by the byte before it in the piece, if there is one
abbrev pub byte_of : Option ℕ → Run → ℕ
byte_of None Dots = byte "-"
byte_of (Some before) Dots = byte "."
byte_of None (Other b) = allowed b
byte_of (Some before) (Other b) = if before == byte "@" && b == byte "{" then byte "-" else allowed b

-- what runs give, where this byte, if there is one, is before the first of them
abbrev pub bytes_of : Option ℕ → List Run → List ℕ
bytes_of before [] = []
bytes_of before (run ∷ after) = byte_of before run ∷ bytes_of (Some (last_of run)) after

-- the piece cleaned: a byte for each of its runs
unfoldable pub cleaned : List ℕ → List ℕ
cleaned p = bytes_of None (runs p)

-- the text is `.lock` any number of times, none included
abbrev pub is_locks : List ℕ → Bool
is_locks [] = true
is_locks (a ∷ b ∷ c ∷ d ∷ e ∷ t) = bytes_eq (a ∷ b ∷ c ∷ d ∷ e ∷ []) (codes ".lock") && is_locks t
is_locks _ = false

-- the shortest front of the text after which only `.lock` follows, any number of times, none included
unfoldable pub cut : List ℕ → List ℕ
cut [] = []
cut (b ∷ t) = if is_locks (b ∷ t) then [] else b ∷ cut t

-- the pieces that are not empty, in order
abbrev pub nonempty_pieces : List ℕ → List (List ℕ)
nonempty_pieces x = filter (λ p. not (is_empty p)) (pieces x)

-- what becomes of these pieces, in order: each is cleaned, and then cut
abbrev pub mended_pieces : List ℕ → List (List ℕ)
mended_pieces x = map (λ p. cut (cleaned p)) (nonempty_pieces x)

-- a dash in place of the last byte
abbrev pub dash_last : List ℕ → List ℕ
dash_last t = take (length t - 1) t ++ codes "-"

-- the first repair: a dot at the end becomes a dash
abbrev pub repaired_dot : List ℕ → List ℕ
repaired_dot t = if ends t (codes ".") then dash_last t else t

-- the second: `@` alone becomes a dash
abbrev pub repaired_at : List ℕ → List ℕ
repaired_at t = if bytes_eq t (codes "@") then codes "-" else t

-- the third: nothing becomes a dash
abbrev pub repaired_nothing : List ℕ → List ℕ
repaired_nothing t = if is_empty t then codes "-" else t

-- The sanitised text: the pieces mended and joined, and then the three repairs in their order.
unfoldable pub sanitized : List ℕ → List ℕ
sanitized x = repaired_nothing (repaired_at (repaired_dot (joined (mended_pieces x))))

-- the texts, with a dash in place of the last byte of the last of them
abbrev pub dash_last_of : List (List ℕ) → List (List ℕ)
dash_last_of [] = []
dash_last_of (p ∷ []) = dash_last p ∷ []
dash_last_of (p ∷ q ∷ ps) = p ∷ dash_last_of (q ∷ ps)

-- Of the first pieces those that may be in a tag name are the second ones, one for one.
-- Only the last may have a dash for its last byte.
abbrev pub KeepsGood : List (List ℕ) → List (List ℕ) → Type 0
KeepsGood (p ∷ []) (t ∷ []) = IsTrue (is_good_piece p) → (t ≡ p) ⊎ (t ≡ dash_last p)
KeepsGood (p ∷ q ∷ ps) (t ∷ ts) = (IsTrue (is_good_piece p) → t ≡ p) × KeepsGood (q ∷ ps) ts
KeepsGood ps ts = ⊤

-- Each nonempty piece of x gives one nonempty piece of t, in order: the mended piece,
-- and itself if it may be in a tag name. Only the last byte of t may have become a dash besides.
pub record KeepsPieces (x t : List ℕ) : Type 0 where
  pub as_many : length (pieces t) ≡ length (nonempty_pieces x)
  pub none_empty : IsTrue (list_all (λ p. not (is_empty p)) (pieces t))
  pub kept : KeepsGood (nonempty_pieces x) (pieces t)
  pub mended : (pieces t ≡ mended_pieces x) ⊎ (pieces t ≡ dash_last_of (mended_pieces x))

-- The text t is made from x piece by piece, and is one dash where x has no nonempty piece.
pub record IsPiecewise (x t : List ℕ) : Type 0 where
  pub some : nonempty_pieces x ≢ [] → KeepsPieces x t
  pub none : nonempty_pieces x ≡ [] → t ≡ codes "-"
