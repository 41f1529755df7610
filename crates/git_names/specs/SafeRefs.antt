-- Reference names that a store may use as paths: no name leads to another file of the repository.
use Rattle.std.specs.Prelude.{Bool, ◌&&◌, ◌||◌, not, ℕ, List, codes, Option, None, option_map}
use Rattle.std.specs.List.{list_all}
use Rattle.gix_validate.specs.Bytes.{begins}
use Rattle.gix_validate.specs.Faults.{when, ◌orelse◌}
use Rattle.gix_validate.specs.Reference.{full_fault_of, is_full_name, is_standalone_byte}
use Rattle.gix_validate.specs.Reference.{text_of as name_text_of}
use Rattle.gix_validate.specs.declared.path.ComponentOptions.{ComponentOptions}
use Rattle.git_names.specs.Paths.{fault_of as path_fault_of, is_path, text_of as path_text_of}
use Rattle.git_names.specs.declared.references.SafeRefError.{SafeRefError}
use Rattle.git_names.specs.declared.references.SafeRefError.TheVariants.{Name, OutsideRefs, Piece}

-- the text is below `refs/`, or each of its bytes may stand alone, as in `FETCH_HEAD`
unfoldable pub is_set_apart : List ℕ → Bool
is_set_apart x = begins x (codes "refs/") || list_all is_standalone_byte x

-- The text is a safe reference name: a full name that is set apart, and each of its pieces is a component.
unfoldable pub is_safe_ref : ComponentOptions → List ℕ → Bool
is_safe_ref options x = is_full_name x && is_set_apart x && is_path options None x

-- The fault of a text: that of the full name, or else that it isn't set apart, or else that of the first
-- piece that isn't a component.
unfoldable pub fault_of : ComponentOptions → List ℕ → Option SafeRefError
fault_of options x =
    option_map (λ e. Name e) (full_fault_of x)
    orelse when (not (is_set_apart x)) OutsideRefs
    orelse option_map (λ e. Piece e) (path_fault_of options None x)

-- What an error prints.
abbrev pub text_of : SafeRefError → List ℕ
text_of (Name e) = name_text_of e
text_of OutsideRefs = codes "Reference name must be below 'refs/', or all uppercased, like 'HEAD'"
text_of (Piece e) = path_text_of e
