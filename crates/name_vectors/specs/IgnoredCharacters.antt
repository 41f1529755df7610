-- The characters that HFS+ ignores, by their numbers in Unicode.
use Rattle.std.specs.Prelude.{ℕ, Bool, true, not, ◌&&◌, List, [], ◌∷◌, map, bytes_eq, encode_utf8}
use Rattle.std.specs.List.{list_any}

-- U+200C to U+200F, U+202A to U+202E, U+206A to U+206F, and U+FEFF
abbrev pub ignored_characters : List ℕ
ignored_characters =
    0x200C ∷ 0x200D ∷ 0x200E ∷ 0x200F
    ∷ 0x202A ∷ 0x202B ∷ 0x202C ∷ 0x202D ∷ 0x202E
    ∷ 0x206A ∷ 0x206B ∷ 0x206C ∷ 0x206D ∷ 0x206E ∷ 0x206F
    ∷ 0xFEFF
    ∷ []

-- the same in UTF-8
abbrev pub ignored_sequences : List (List ℕ)
ignored_sequences = map encode_utf8 ignored_characters

-- no two of the texts are alike
abbrev pub are_distinct : List (List ℕ) → Bool
are_distinct [] = true
are_distinct (x ∷ xs) = not (list_any (bytes_eq x) xs) && are_distinct xs
