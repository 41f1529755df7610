-- How the bytes of a name are shown in an error's text.
use Rattle.std.specs.Prelude.{ℕ, ◌/◌, ◌%◌, ◌==◌, ◌&&◌, nat_le, if◌then◌else◌, List, [], ◌∷◌, ◌++◌}
use Rattle.std.specs.Prelude.{codes, slice_index, flat_map}
use Rattle.std.specs.Str.{byte}

-- a hexadecimal digit, in lower case
abbrev pub hex_digit : ℕ → ℕ
hex_digit n = slice_index (codes "0123456789abcdef") n

-- how one byte is shown
abbrev pub escape_of : ℕ → List ℕ
escape_of b =
    if b == 0x00 then codes "\\0" else
    if b == 0x09 then codes "\\t" else
    if b == 0x0A then codes "\\n" else
    if b == 0x0D then codes "\\r" else
    if b == byte "\"" then codes "\\\"" else
    if b == byte "\\" then codes "\\\\" else
    if nat_le 0x20 b && nat_le b 0x7E then b ∷ []
    else codes "\\x" ++ hex_digit (b / 16) ∷ hex_digit (b % 16) ∷ []

-- the escape of each byte in order, between two double quotes
abbrev pub quoted : List ℕ → List ℕ
quoted x = codes "\"" ++ flat_map escape_of x ++ codes "\""
