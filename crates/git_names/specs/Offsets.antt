-- Where in a name its error is: at the byte that is wrong, or where that begins which makes the name invalid.
use Rattle.std.specs.Prelude.{ℕ, ◌+◌, ◌-◌, Bool, ◌==◌, ◌&&◌, ◌||◌, not, if◌then◌else◌, List, [], ◌∷◌, length}
use Rattle.std.specs.Prelude.{take, drop, slice_index, Option, Some, None}
use Rattle.std.specs.List.{position, suffix_len}
use Rattle.std.specs.Str.{byte}
use Rattle.gix_validate.specs.Faults.{at_first_offset, when}
use Rattle.gix_validate.specs.Pieces.{is_slash}
use Rattle.gix_validate.specs.Reference.{carried, is_standalone_byte}
use Rattle.gix_validate.specs.Submodule.{is_separator}
use Rattle.gix_validate.specs.Tag.{fault_offset_of as tag_fault_offset_of}
use Rattle.gix_validate.specs.Windows.{is_illegal_byte}
use Rattle.gix_validate.specs.declared.path.ComponentError.{ComponentError}
use Rattle.gix_validate.specs.declared.path.ComponentError.TheVariants as component
use Rattle.gix_validate.specs.declared.path.ComponentOptions.{ComponentOptions}
use Rattle.gix_validate.specs.declared.reference.NameError.{NameError}
use Rattle.gix_validate.specs.declared.reference.NameError.TheVariants as name
use Rattle.gix_validate.specs.declared.submodule.NameError.{NameError as SubmoduleNameError}
use Rattle.gix_validate.specs.declared.submodule.NameError.TheVariants as parent
use Rattle.git_names.specs.declared.branches.ShortNameError.TheVariants as short
use Rattle.git_names.specs.declared.faults.Reason.{Reason}
use Rattle.git_names.specs.declared.faults.Reason.TheVariants as reason
use Rattle.git_names.specs.declared.paths.PathError.{PathError}
use Rattle.git_names.specs.declared.paths.PathError.TheVariants as whole
use Rattle.git_names.specs.declared.references.SafeRefError.TheVariants as safe
use Rattle.git_names.specs.declared.submodules.SubmoduleError.TheVariants as submodule

-- the offset, or another one where there is none
abbrev pub at_or : ℕ → Option ℕ → ℕ
at_or other None = other
at_or other (Some at) = at

-- where the fault of a tag name is
abbrev pub tag_offset_of : List ℕ → ℕ
tag_offset_of x = at_or 0 (tag_fault_offset_of x)

-- where the `.lock` begins whose fault is at this offset: at the slash after it, or at its last byte
abbrev pub lock_start : List ℕ → ℕ → ℕ
lock_start x at = if is_slash (slice_index x at) then at - 5 else at - 4

-- where a fault of a reference name is: the first byte that may not stand alone, the place where `.lock`
-- begins, or the byte that is the fault of the tag name. That a whole name is reserved is at its start.
abbrev pub reference_offset_of : List ℕ → NameError → ℕ
reference_offset_of x (name.Reserved whole) = 0
reference_offset_of x name.SomeLowercase = at_or 0 (position (λ b. not (is_standalone_byte b)) x)
reference_offset_of x name.LockFileSuffix = lock_start x (tag_offset_of x)
reference_offset_of x (name.InvalidByte b) = tag_offset_of x
reference_offset_of x name.StartsWithSlash = tag_offset_of x
reference_offset_of x name.RepeatedSlash = tag_offset_of x
reference_offset_of x name.RepeatedDot = tag_offset_of x
reference_offset_of x name.ReflogPortion = tag_offset_of x
reference_offset_of x name.Asterisk = tag_offset_of x
reference_offset_of x name.StartsWithDot = tag_offset_of x
reference_offset_of x name.EndsWithDot = tag_offset_of x
reference_offset_of x name.EndsWithSlash = tag_offset_of x
reference_offset_of x name.Empty = tag_offset_of x

-- a byte that separates the parts of a path under these options
abbrev pub separates : ComponentOptions → ℕ → Bool
separates options b = b == byte "/" || (options.protect_windows && b == byte "\\")

abbrev pub is_dot_or_space : ℕ → Bool
is_dot_or_space b = b == byte "." || b == byte " "

-- where the dots and spaces at the end begin
abbrev pub end_start : List ℕ → ℕ
end_start x = length x - suffix_len is_dot_or_space x

-- the first colon after the first byte
abbrev pub colon_of_prefix : List ℕ → ℕ
colon_of_prefix [] = 0
colon_of_prefix (b ∷ x) = 1 + at_or 0 (position (λ c. c == byte ":") x)

-- where a fault of a component is: the separator, the colon of a prefix, the first byte that is illegal on
-- Windows, or else where the dots and spaces at its end begin. Other faults are of the whole component.
abbrev pub component_offset_of : ComponentOptions → List ℕ → ComponentError → ℕ
component_offset_of options x component.PathSeparator = at_or 0 (position (separates options) x)
component_offset_of options x component.WindowsPathPrefix = colon_of_prefix x
component_offset_of options x component.WindowsIllegalCharacter =
    at_or (end_start x) (position is_illegal_byte x)
component_offset_of options x component.Empty = 0
component_offset_of options x component.WindowsReservedName = 0
component_offset_of options x component.DotGitDir = 0
component_offset_of options x component.SymlinkedGitModules = 0
component_offset_of options x component.Relative = 0

-- what there is from the offset to the next slash
abbrev pub part_at : List ℕ → ℕ → List ℕ
part_at x at = let rest = drop at x in take (at_or (length rest) (position is_slash rest)) rest

-- where a fault of a path is: in the part that has it, where that part would be, or at the NUL
abbrev pub path_offset_of : ComponentOptions → List ℕ → PathError → ℕ
path_offset_of options x (whole.EmptyPart at) = at
path_offset_of options x (whole.InvalidPart at e) = at + component_offset_of options (part_at x at) e
path_offset_of options x (whole.Nul at) = at

-- a part `..` is at the offset: two dots, between separators or the ends of the text
abbrev pub has_parent_at : List ℕ → ℕ → Bool
has_parent_at x at =
    (at == 0 || is_separator (slice_index x (at - 1)))
    && slice_index x at == byte "." && slice_index x (at + 1) == byte "."
    && (at + 2 == length x || is_separator (slice_index x (at + 2)))

-- the offset, if a part `..` is there
abbrev pub parent_at : List ℕ → ℕ → Option ℕ
parent_at x at = when (has_parent_at x at) at

-- where a fault of a submodule name is: the first part `..`
abbrev pub submodule_offset_of : List ℕ → SubmoduleNameError → ℕ
submodule_offset_of x parent.Empty = 0
submodule_offset_of x parent.ParentComponent =
    at_or 0 (at_first_offset (parent_at x) (length x))

-- Where the reason for which a name is invalid is.
abbrev pub offset_of : ComponentOptions → List ℕ → Reason → ℕ
offset_of options x (reason.Short (short.Name e)) = reference_offset_of x e
offset_of options x (reason.Short short.StartsWithDash) = 0
offset_of options x (reason.Reference e) = reference_offset_of x e
offset_of options x (reason.TagName e) = reference_offset_of x (carried e)
offset_of options x (reason.SafeRef (safe.Name e)) = reference_offset_of x e
offset_of options x (reason.SafeRef safe.OutsideRefs) = 0
offset_of options x (reason.SafeRef (safe.Piece e)) = path_offset_of options x e
offset_of options x (reason.Path e) = path_offset_of options x e
offset_of options x (reason.Component e) = component_offset_of options x e
offset_of options x (reason.Submodule (submodule.Name e)) = submodule_offset_of x e
offset_of options x (reason.Submodule (submodule.Part e)) = path_offset_of options x e
offset_of options x (reason.Submodule (submodule.Disguised at)) = at
