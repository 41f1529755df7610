-- The pieces of a text, which are the texts between its slashes, and the names in a buffer.
use Rattle.std.specs.Prelude.{ℕ, Bool, ◌==◌, not, if◌then◌else◌, List, [], ◌∷◌}
use Rattle.std.specs.List.{slice_split, join_with_byte, list_all}
use Rattle.std.specs.Str.{byte}
use Rattle.gix_validate.specs.Bytes.{is_empty}

abbrev pub is_slash : ℕ → Bool
is_slash b = b == byte "/"

-- the texts between the slashes, in order: one more than there are slashes, and some may be empty
abbrev pub pieces : List ℕ → List (List ℕ)
pieces x = slice_split is_slash x

-- the texts in order, with one slash between each two
abbrev pub joined : List (List ℕ) → List ℕ
joined texts = join_with_byte (byte "/") texts

abbrev pub has_no_slash : List ℕ → Bool
has_no_slash x = list_all (λ b. not (is_slash b)) x

-- the texts in order, without the last one if that is empty
abbrev pub less_empty_last : List (List ℕ) → List (List ℕ)
less_empty_last [] = []
less_empty_last (text ∷ []) = if is_empty text then [] else text ∷ []
less_empty_last (text ∷ next ∷ more) = text ∷ less_empty_last (next ∷ more)

-- the names that the byte ends, and then what follows the last such byte, if that isn't empty
unfoldable pub names_in : ℕ → List ℕ → List (List ℕ)
names_in end buffer = less_empty_last (slice_split (λ b. b == end) buffer)
