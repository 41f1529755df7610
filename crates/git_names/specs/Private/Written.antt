-- What is written piece by piece.
use Rattle.std.specs.Prelude.{ℕ, if◌then◌else◌, List, ◌∷◌, ◌++◌}
use Rattle.std.specs.Str.{byte}
use Rattle.gix_validate.specs.Bytes.{is_empty}

-- the text and then the piece, with a slash between them if both have a byte
abbrev pub appended : List ℕ → List ℕ → List ℕ
appended t p = if is_empty p then t else (if is_empty t then p else t ++ byte "/" ∷ p)
