-- How Git quotes a name: as `quote_c_style` of its quote.c does with core.quotePath, which is on by default.
use Rattle.std.specs.Prelude.{ℕ, ◌+◌, ◌/◌, ◌%◌, ◌==◌, ◌&&◌, nat_le, if◌then◌else◌}
use Rattle.std.specs.Prelude.{List, [], ◌∷◌, ◌++◌, codes, flat_map}
use Rattle.std.specs.Str.{byte}

abbrev pub octal_digit : ℕ → ℕ
octal_digit n = byte "0" + n

-- always three octal digits
abbrev pub octal_of : ℕ → List ℕ
octal_of b = octal_digit (b / 64) ∷ octal_digit (b / 8 % 8) ∷ octal_digit (b % 8) ∷ []

-- how one byte is shown: by the letter that C has for it, as itself, or by its octal digits
abbrev pub git_escape_of : ℕ → List ℕ
git_escape_of b =
    if b == 0x07 then codes "\\a" else
    if b == 0x08 then codes "\\b" else
    if b == 0x09 then codes "\\t" else
    if b == 0x0A then codes "\\n" else
    if b == 0x0B then codes "\\v" else
    if b == 0x0C then codes "\\f" else
    if b == 0x0D then codes "\\r" else
    if b == byte "\"" then codes "\\\"" else
    if b == byte "\\" then codes "\\\\" else
    if nat_le 0x20 b && nat_le b 0x7E then b ∷ []
    else codes "\\" ++ octal_of b

-- the escape of each byte in order, between two double quotes
abbrev pub git_quoted : List ℕ → List ℕ
git_quoted name = codes "\"" ++ flat_map git_escape_of name ++ codes "\""
