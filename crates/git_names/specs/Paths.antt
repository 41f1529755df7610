-- Paths: their parts are components, the last one under the mode, the others, which are folders, without one.
use Rattle.std.specs.Prelude.{ℕ, ◌+◌, ◌==◌, Bool, true, ◌&&◌, not, List, [], ◌∷◌, length, codes, Option, None}
use Rattle.std.specs.Prelude.{option_map}
use Rattle.std.specs.List.{list_any, position}
use Rattle.gix_validate.specs.Bytes.{is_empty}
use Rattle.gix_validate.specs.Component.{fault_of as component_fault_of, is_component}
use Rattle.gix_validate.specs.Component.{text_of as component_text_of}
use Rattle.gix_validate.specs.Faults.{when, ◌orelse◌}
use Rattle.gix_validate.specs.Pieces.{pieces}
use Rattle.gix_validate.specs.declared.path.ComponentMode.{ComponentMode}
use Rattle.gix_validate.specs.declared.path.ComponentOptions.{ComponentOptions}
use Rattle.git_names.specs.declared.paths.PathError.{PathError}
use Rattle.git_names.specs.declared.paths.PathError.TheVariants.{EmptyPart, InvalidPart, Nul}

-- these parts are components: the last one under the mode, the others without one
abbrev pub are_components : ComponentOptions → Option ComponentMode → List (List ℕ) → Bool
are_components options mode [] = true
are_components options mode (last ∷ []) = is_component options mode last
are_components options mode (part ∷ next ∷ more) =
    is_component options None part && are_components options mode (next ∷ more)

-- the parts of the text, which are its pieces, are components
unfoldable pub has_valid_parts : ComponentOptions → Option ComponentMode → List ℕ → Bool
has_valid_parts options mode x = are_components options mode (pieces x)

abbrev pub is_nul : ℕ → Bool
is_nul b = b == 0

-- The text is a path: its parts are components, and it has no NUL.
unfoldable pub is_path : ComponentOptions → Option ComponentMode → List ℕ → Bool
is_path options mode x = has_valid_parts options mode x && not (list_any is_nul x)

-- the fault of a part that begins at this offset: that it is empty, or else its fault as a component
abbrev pub part_fault_of : ComponentOptions → Option ComponentMode → ℕ → List ℕ → Option PathError
part_fault_of options mode at part =
    when (is_empty part) (EmptyPart at)
    orelse option_map (λ e. InvalidPart at e) (component_fault_of options mode part)

-- the fault of the first of these parts that has one, where the first of them begins at this offset, and each
-- other one after a slash
abbrev pub fault_from : ComponentOptions → Option ComponentMode → ℕ → List (List ℕ) → Option PathError
fault_from options mode at [] = None
fault_from options mode at (last ∷ []) = part_fault_of options mode at last
fault_from options mode at (part ∷ next ∷ more) =
    part_fault_of options None at part
    orelse fault_from options mode (at + (length part + 1)) (next ∷ more)

-- the fault of the first part that has one
unfoldable pub parts_fault_of : ComponentOptions → Option ComponentMode → List ℕ → Option PathError
parts_fault_of options mode x = fault_from options mode 0 (pieces x)

-- The fault of a path: that of its first part that has one, or else that it has a NUL, at the first one.
unfoldable pub fault_of : ComponentOptions → Option ComponentMode → List ℕ → Option PathError
fault_of options mode x =
    parts_fault_of options mode x orelse option_map (λ at. Nul at) (position is_nul x)

-- where the part begins, or the NUL is
abbrev pub offset_of : PathError → ℕ
offset_of (EmptyPart at) = at
offset_of (InvalidPart at e) = at
offset_of (Nul at) = at

-- What an error prints.
abbrev pub text_of : PathError → List ℕ
text_of (EmptyPart at) = codes "A path must not be empty, start or end with a slash, or have two in a row"
text_of (InvalidPart at e) = component_text_of e
text_of (Nul at) = codes "A path must not have a NUL byte"
