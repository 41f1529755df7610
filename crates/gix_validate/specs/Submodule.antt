-- Submodule names: which texts are one, and the fault of those that aren't.
use Rattle.std.specs.Prelude.{ℕ, Bool, ◌==◌, ◌&&◌, ◌||◌, not, List, [], ◌∷◌, codes, Option}
use Rattle.std.specs.List.{list_any, slice_split}
use Rattle.std.specs.Str.{byte, bytes_eq}
use Rattle.gix_validate.specs.declared.submodule.NameError.{NameError}
use Rattle.gix_validate.specs.declared.submodule.NameError.TheVariants.{Empty, ParentComponent}
use Rattle.gix_validate.specs.Bytes.{is_empty}
use Rattle.gix_validate.specs.Faults.{when, first_of}

-- a byte that ends a part: a slash of either kind
abbrev pub is_separator : ℕ → Bool
is_separator b = b == byte "/" || b == byte "\\"

-- the texts between the separators, in order; some may be empty
abbrev pub parts : List ℕ → List (List ℕ)
parts x = slice_split is_separator x

-- some part is `..`, which names the folder above
abbrev pub has_parent_part : List ℕ → Bool
has_parent_part x = list_any (λ part. bytes_eq part (codes "..")) (parts x)

-- The text is a submodule name.
unfoldable pub is_submodule_name : List ℕ → Bool
is_submodule_name x = not (is_empty x) && not (has_parent_part x)

-- The fault of a text: the first of these that applies.
unfoldable pub fault_of : List ℕ → Option NameError
fault_of x = first_of (when (is_empty x) Empty ∷ when (has_parent_part x) ParentComponent ∷ [])

-- what an error prints
abbrev pub text_of : NameError → List ℕ
text_of Empty = codes "Submodule names cannot be empty"
text_of ParentComponent = codes "Submodules names must not contains '..'"
