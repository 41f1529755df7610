-- How a section of a submodule is spelled in a file,
-- and that the sections found are those that are spelled, whatever is before and after them.
-- What may be in a name, a blank and a word is said here again, so that a slip in one of the two shows.
use Rattle.std.specs.Prelude.{◌≡◌, ◌≢◌, ◌↔◌, ◌⊎◌, ℕ, ◌<◌, Bool, true, false, ◌==◌, List, [], ◌∷◌}
use Rattle.std.specs.Prelude.{◌++◌, codes, map, length, Option, Some, Contains}
use Rattle.std.specs.Char.{to_ascii_lowercase}
use Rattle.std.specs.List.{AllByRecursion, AllPairs, list_any}
use Rattle.std.specs.Str.{byte}
use Rattle.gitmodules.specs.Sections.{sections}

-- a byte of a name, and whether a backslash is before it
abbrev pub SpelledByte : Type 0
SpelledByte = Bool × ℕ

abbrev pub MayBeInName : ℕ → Type 0
MayBeInName b = (b ≢ 0x00) × (b ≢ 0x0A) × (b ≢ 0xFF)

-- Each byte that may be in a name may have a backslash, and a double quote and a backslash must.
abbrev pub IsSpelled : SpelledByte → Type 0
IsSpelled (true, b) = MayBeInName b
IsSpelled (false, b) = MayBeInName b × (b ≢ byte "\"") × (b ≢ byte "\\")

abbrev pub spelled_name : List SpelledByte → List ℕ
spelled_name [] = []
spelled_name ((true, b) ∷ name) = byte "\\" ∷ b ∷ spelled_name name
spelled_name ((false, b) ∷ name) = b ∷ spelled_name name

abbrev pub name_of : List SpelledByte → List ℕ
name_of [] = []
name_of ((escaped, b) ∷ name) = b ∷ name_of name

-- a space, a tab or a carriage return
abbrev pub IsBlank : ℕ → Type 0
IsBlank b = (b ≡ 0x20) ⊎ (b ≡ 0x09) ⊎ (b ≡ 0x0D)

-- a section as Git reads it: `[`, the word in any letter case, blanks, the name between double quotes, `]`
pub record IsSection (word blanks : List ℕ) (name : List SpelledByte) : Type 0 where
  pub is_word : map to_ascii_lowercase word ≡ codes "submodule"
  pub has_blanks : blanks ≢ []
  pub are_blanks : AllByRecursion IsBlank blanks
  pub is_spelled : AllByRecursion IsSpelled name

abbrev pub section_bytes : List ℕ → List ℕ → List SpelledByte → List ℕ
section_bytes word blanks name = byte "[" ∷ word ++ blanks ++ byte "\"" ∷ spelled_name name ++ codes "\"]"

-- the file has a section of this name at this offset
pub record SectionAt (file : List ℕ) (offset : ℕ) (name : List ℕ) : Type 0 where
  pub before : List ℕ
  pub after : List ℕ
  pub word : List ℕ
  pub blanks : List ℕ
  pub spelled : List SpelledByte
  pub is_section : IsSection word blanks spelled
  pub is_file : file ≡ before ++ section_bytes word blanks spelled ++ after
  pub is_offset : length before ≡ offset
  pub is_name : name_of spelled ≡ name

-- `]`, and the bytes of a word
abbrev pub ends_or_goes_on : List ℕ
ends_or_goes_on = codes "]-0123456789ABCDEFGHIJKLMNOPQRSTUVWXYZabcdefghijklmnopqrstuvwxyz"

-- the bytes begin with one of these,
-- so the word `submodule` before them is a section without a name, or part of another word
abbrev pub is_other : List ℕ → Bool
is_other [] = false
is_other (b ∷ bytes) = list_any (λ c. b == c) ends_or_goes_on

-- the file has a `[` at this offset, and then the word `submodule`, and what follows is no other section
pub record HeaderAt (file : List ℕ) (offset : ℕ) : Type 0 where
  pub before : List ℕ
  pub after : List ℕ
  pub word : List ℕ
  pub is_word : map to_ascii_lowercase word ≡ codes "submodule"
  pub is_file : file ≡ before ++ byte "[" ∷ word ++ after
  pub is_offset : length before ≡ offset
  pub is_not_other : is_other after ≡ false

-- a section that is spelled out is found:
-- its name is among the sections of each file that has it, at its offset
abbrev pub IsEachSectionFound : Type 0
IsEachSectionFound =
    (before after word blanks : List ℕ) (name : List SpelledByte) → IsSection word blanks name
    → Contains (sections 0 (before ++ section_bytes word blanks name ++ after))
    (length before, Some (name_of name))

-- each name that is found is spelled out at its offset
abbrev pub IsEachNameSpelled : Type 0
IsEachNameSpelled =
    (file : List ℕ) (offset : ℕ) (name : List ℕ)
    → Contains (sections 0 file) (offset, Some name) → SectionAt file offset name

-- the offsets that are given are those of the headers, whether they can be read or not
abbrev pub IsEachHeaderGiven : Type 0
IsEachHeaderGiven =
    (file : List ℕ) (offset : ℕ)
    → HeaderAt file offset ↔ ((name : Option (List ℕ)) × Contains (sections 0 file) (offset, name))

-- the three blanks
abbrev pub blanks : List ℕ
blanks = 0x20 ∷ 0x09 ∷ 0x0D ∷ []

-- A byte alone between the word and the name is one of these, or else there is no section of the name:
-- so Git reads each byte (tests/headers).
abbrev pub IsNamedAfterEachBlank : Type 0
IsNamedAfterEachBlank =
    (b : ℕ) → Contains (sections 0 (codes "[submodule" ++ b ∷ codes "\"x\"]")) (0, Some (codes "x"))
    ↔ (list_any (λ c. b == c) blanks ≡ true)

-- each offset is given once, in order
abbrev pub IsInOrder : Type 0
IsInOrder = (file : List ℕ) → AllPairs (λ a b. a.0 < b.0) (sections 0 file)
