-- Submodule names as paths: under a switch each part is a component, and isn't `.` or `..` in disguise.
use Rattle.std.specs.Prelude.{ℕ, ◌+◌, Bool, ◌&&◌, ◌||◌, not, List, [], ◌∷◌, length, codes, Option, None}
use Rattle.std.specs.Prelude.{option_map, if◌then◌else◌}
use Rattle.std.specs.List.{list_any}
use Rattle.std.specs.Str.{bytes_eq}
use Rattle.gix_validate.specs.Bytes.{is_empty}
use Rattle.gix_validate.specs.Faults.{when, ◌orelse◌}
use Rattle.gix_validate.specs.Hfs.{hfs_form}
use Rattle.gix_validate.specs.Ntfs.{ntfs_form}
use Rattle.gix_validate.specs.Pieces.{pieces}
use Rattle.gix_validate.specs.Submodule.{fault_of as name_fault_of, is_submodule_name}
use Rattle.gix_validate.specs.Submodule.{text_of as name_text_of}
use Rattle.gix_validate.specs.declared.path.ComponentOptions.{ComponentOptions}
use Rattle.git_names.specs.Paths.{fault_of as path_fault_of, is_path, text_of as path_text_of}
use Rattle.git_names.specs.declared.submodules.SubmoduleError.{SubmoduleError}
use Rattle.git_names.specs.declared.submodules.SubmoduleError.TheVariants.{Disguised, Name, Part}

-- some switch is on
abbrev pub is_protected : ComponentOptions → Bool
is_protected options = options.protect_windows || options.protect_hfs || options.protect_ntfs

-- A part that a file system takes for `.` or `..`: its HFS form is one of these, or its NTFS form is empty,
-- as it is of dots and spaces alone.
unfoldable pub is_disguised : ComponentOptions → List ℕ → Bool
is_disguised options part =
    (options.protect_hfs && (bytes_eq (hfs_form part) (codes ".") || bytes_eq (hfs_form part) (codes "..")))
    || (options.protect_ntfs && is_empty (ntfs_form part))

-- The text is a submodule name, and under a switch it is a path without a disguised part.
unfoldable pub is_submodule : ComponentOptions → List ℕ → Bool
is_submodule options x =
    is_submodule_name x
    && (not (is_protected options)
    || (is_path options None x && not (list_any (is_disguised options) (pieces x))))

-- where the first disguised one of these parts begins, if there is one, where the first of them begins at
-- this offset, and each other one after a slash
abbrev pub disguised_from : ComponentOptions → ℕ → List (List ℕ) → Option ℕ
disguised_from options at [] = None
disguised_from options at (part ∷ more) =
    when (is_disguised options part) at orelse disguised_from options (at + (length part + 1)) more

-- the fault of a text as a path without a disguised part
abbrev pub protected_fault_of : ComponentOptions → List ℕ → Option SubmoduleError
protected_fault_of options x =
    option_map (λ e. Part e) (path_fault_of options None x)
    orelse option_map (λ at. Disguised at) (disguised_from options 0 (pieces x))

-- The fault of a text: that of the submodule name. Under a switch it is else that of the path, or else that a
-- part is disguised.
unfoldable pub fault_of : ComponentOptions → List ℕ → Option SubmoduleError
fault_of options x =
    option_map (λ e. Name e) (name_fault_of x)
    orelse (if is_protected options then protected_fault_of options x else None)

-- What an error prints.
abbrev pub text_of : SubmoduleError → List ℕ
text_of (Name e) = name_text_of e
text_of (Part e) = path_text_of e
text_of (Disguised at) = codes "A part of a submodule name must not be taken for '.' or '..'"
