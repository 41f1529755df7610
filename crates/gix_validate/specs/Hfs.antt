-- The HFS form of a name: what is left of it on a file system that ignores sixteen characters.
use Rattle.std.specs.Prelude.{ℕ, Bool, false, ◌==◌, ◌&&◌, ◌||◌, if◌then◌else◌, List, [], ◌∷◌}
use Rattle.gix_validate.specs.Units.{is_within}

-- The three bytes are one of the sixteen ignored characters in UTF-8: U+200C to U+200F, U+202A to U+202E,
-- U+206A to U+206F, and U+FEFF.
unfoldable pub is_ignored : ℕ → ℕ → ℕ → Bool
is_ignored a b c =
    a == 0xE2 && b == 0x80 && is_within (0x8C, 0x8F) c
    || a == 0xE2 && b == 0x80 && is_within (0xAA, 0xAE) c
    || a == 0xE2 && b == 0x81 && is_within (0xAA, 0xAF) c
    || a == 0xEF && b == 0xBB && c == 0xBF

-- The text without the ignored characters in it.
-- All are deleted at once: a character that only the deletion makes isn't deleted in turn.
unfoldable pub hfs_form : List ℕ → List ℕ
hfs_form [] = []
hfs_form (a ∷ []) = a ∷ []
hfs_form (a ∷ b ∷ []) = a ∷ b ∷ []
hfs_form (a ∷ b ∷ c ∷ x) = if is_ignored a b c then hfs_form x else a ∷ hfs_form (b ∷ c ∷ x)

-- the unit is an ignored character
abbrev pub is_ignored_unit : List ℕ → Bool
is_ignored_unit (a ∷ b ∷ c ∷ []) = is_ignored a b c
is_ignored_unit _ = false
