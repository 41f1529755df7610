-- The submodules' sections of a `.gitmodules` file: where each begins, and its name.
-- Files and names are lists of bytes, and offsets are in bytes.
-- Each `[` that begins a submodule's section is one of them, wherever it is in the file,
-- in a comment or a value too: what Git reads from a `[` on depends on the bytes after it alone.
-- So nothing else of the file has to be understood, and no section that Git sees is missed.
use Rattle.std.specs.Prelude.{ℕ, ◌+◌, Bool, true, false, ◌==◌, ◌&&◌, ◌||◌, not, nat_le}
use Rattle.std.specs.Prelude.{if◌then◌else◌, List, [], ◌∷◌, ◌++◌, take, drop, codes, Option, Some}
use Rattle.std.specs.Prelude.{None, option_map, map}
use Rattle.std.specs.Str.{byte, bytes_eq}
use Rattle.std.specs.Char.{to_ascii_lowercase}

-- ---- names

-- NUL, a newline or 0xFF: where Git ends a name or stops, in one way of its reading or another
abbrev pub is_never_in_name : ℕ → Bool
is_never_in_name b = b == 0x00 || b == 0x0A || b == 0xFF

-- no bytes of a name are left where `]` follows the double quote
abbrev pub closed : List ℕ → Option (List ℕ)
closed [] = None
closed (b ∷ bytes) = if b == byte "]" then Some [] else None

-- The bytes before the `"]` that closes a name, with their backslashes,
-- if a name that can be read begins here. A double quote after a backslash does not close it.
-- (`escaped`: the byte before is a backslash that escapes.)
abbrev pub escaped_name : Bool → List ℕ → Option (List ℕ)
escaped_name escaped [] = None
escaped_name escaped (b ∷ bytes) =
    if is_never_in_name b then None else
    if not escaped && b == byte "\"" then closed bytes else
    option_map (λ name. b ∷ name) (escaped_name (not escaped && b == byte "\\") bytes)

-- The name's own bytes: a backslash makes the byte after it one of them, and is none itself.
abbrev pub unescaped : Bool → List ℕ → List ℕ
unescaped escaped [] = []
unescaped escaped (b ∷ bytes) =
    if not escaped && b == byte "\\" then unescaped true bytes else b ∷ unescaped false bytes

-- ---- headers

-- what a `[` begins: a submodule's section of this name, one that can't be read, or nothing of a submodule
pub data Header : Type 0 where
  Named : (name : List ℕ) → Header
  Unreadable : Header
  Other : Header

-- a space, a tab or a carriage return
abbrev pub is_blank : ℕ → Bool
is_blank b = b == byte " " || b == 0x09 || b == 0x0D

-- the bytes without the blanks that they begin with
abbrev pub without_blanks : List ℕ → List ℕ
without_blanks [] = []
without_blanks (b ∷ bytes) = if is_blank b then without_blanks bytes else b ∷ bytes

-- a letter, a digit or `-`: what the word of a section is made of
abbrev pub is_word_byte : ℕ → Bool
is_word_byte b =
    nat_le (byte "a") b && nat_le b (byte "z") || nat_le (byte "A") b && nat_le b (byte "Z")
    || nat_le (byte "0") b && nat_le b (byte "9") || b == byte "-"

-- the section of a name, as far as there is one
abbrev pub named : Option (List ℕ) → Header
named None = Unreadable
named (Some escaped) = Named (unescaped false escaped)

-- what follows the blanks: a name after a double quote, or else the section can't be read
abbrev pub quoted_header : List ℕ → Header
quoted_header [] = Unreadable
quoted_header (b ∷ bytes) = if b == byte "\"" then named (escaped_name false bytes) else Unreadable

-- what follows the word `submodule`: blanks and more, the end of the section, or more of another word
abbrev pub header_after_word : List ℕ → Header
header_after_word [] = Unreadable
header_after_word (b ∷ bytes) =
    if is_blank b then quoted_header (without_blanks bytes) else
    if b == byte "]" || is_word_byte b then Other else
    Unreadable

-- What a `[` before these bytes begins. The word `submodule` may be in any letter case.
unfoldable pub header_after_bracket : List ℕ → Header
header_after_bracket bytes =
    if bytes_eq (map to_ascii_lowercase (take 9 bytes)) (codes "submodule")
    then header_after_word (drop 9 bytes)
    else Other

-- ---- a file

-- the section that begins at this offset, if one does: a name, or `None` where it can't be read
abbrev pub begun : ℕ → Header → List (ℕ × Option (List ℕ))
begun offset (Named name) = (offset, Some name) ∷ []
begun offset Unreadable = (offset, None) ∷ []
begun offset Other = []

-- The submodules' sections of a file of which these bytes are left at this offset:
-- of each `[` in them, in order.
abbrev pub sections : ℕ → List ℕ → List (ℕ × Option (List ℕ))
sections offset [] = []
sections offset (b ∷ bytes) =
    if b == byte "[" then begun offset (header_after_bracket bytes) ++ sections (offset + 1) bytes
    else sections (offset + 1) bytes
