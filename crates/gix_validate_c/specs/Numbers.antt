-- The numbers that C sees: those of the faults of all types, and the version.
use Rattle.std.specs.Prelude.{ℕ, ◌+◌, ◌*◌, Option, Some, None}
use Rattle.gix_validate.specs.declared.path.ComponentError.{ComponentError}
use Rattle.gix_validate.specs.declared.reference.NameError.{NameError as ReferenceError}
use Rattle.gix_validate.specs.declared.submodule.NameError.{NameError as SubmoduleError}
use Rattle.gix_validate.specs.declared.tag.NameError.{NameError as TagError}
use Rattle.gix_validate.specs.declared.tag.NameError.TheVariants as tag
use Rattle.gix_validate.specs.declared.reference.NameError.TheVariants as reference
use Rattle.gix_validate.specs.declared.submodule.NameError.TheVariants as submodule
use Rattle.gix_validate.specs.declared.path.ComponentError.TheVariants as path
use Rattle.git_names.specs.declared.branches.ShortNameError.{ShortNameError}
use Rattle.git_names.specs.declared.branches.ShortNameError.TheVariants as short
use Rattle.git_names.specs.declared.paths.PathError.{PathError}
use Rattle.git_names.specs.declared.paths.PathError.TheVariants as whole
use Rattle.git_names.specs.declared.references.SafeRefError.{SafeRefError}
use Rattle.git_names.specs.declared.references.SafeRefError.TheVariants as safe
use Rattle.git_names.specs.declared.submodules.SubmoduleError.{SubmoduleError as ProtectedError}
use Rattle.git_names.specs.declared.submodules.SubmoduleError.TheVariants as protected
use Rattle.git_names.specs.declared.faults.Reason.{Reason}
use Rattle.git_names.specs.declared.faults.Reason.TheVariants as reason

-- the number of a fault, or 0 where there is none
abbrev pub code_by : {E : Type 0} → (E → ℕ) → Option E → ℕ
code_by number None = 0
code_by number (Some fault) = number fault

-- The numbers of the faults of tag names.
abbrev pub tag_number : TagError → ℕ
tag_number (tag.InvalidByte b) = 1
tag_number tag.StartsWithSlash = 2
tag_number tag.RepeatedSlash = 3
tag_number tag.RepeatedDot = 4
tag_number tag.LockFileSuffix = 5
tag_number tag.ReflogPortion = 6
tag_number tag.Asterisk = 7
tag_number tag.StartsWithDot = 8
tag_number tag.EndsWithDot = 9
tag_number tag.EndsWithSlash = 10
tag_number tag.Empty = 11

-- Those of reference names: faults of tag names keep their numbers, and there are two more.
abbrev pub reference_number : ReferenceError → ℕ
reference_number (reference.InvalidByte b) = 1
reference_number reference.StartsWithSlash = 2
reference_number reference.RepeatedSlash = 3
reference_number reference.RepeatedDot = 4
reference_number reference.LockFileSuffix = 5
reference_number reference.ReflogPortion = 6
reference_number reference.Asterisk = 7
reference_number reference.StartsWithDot = 8
reference_number reference.EndsWithDot = 9
reference_number reference.EndsWithSlash = 10
reference_number reference.Empty = 11
reference_number reference.SomeLowercase = 12
reference_number (reference.Reserved name) = 13

-- Those of submodule names.
abbrev pub submodule_number : SubmoduleError → ℕ
submodule_number submodule.Empty = 11
submodule_number submodule.ParentComponent = 14

-- Those of path components.
abbrev pub component_number : ComponentError → ℕ
component_number path.Empty = 11
component_number path.PathSeparator = 15
component_number path.WindowsPathPrefix = 16
component_number path.WindowsReservedName = 17
component_number path.WindowsIllegalCharacter = 18
component_number path.DotGitDir = 19
component_number path.SymlinkedGitModules = 20
component_number path.Relative = 21

-- Those of short names of branches: faults of reference names keep their numbers, and there is one more.
abbrev pub short_name_number : ShortNameError → ℕ
short_name_number (short.Name e) = reference_number e
short_name_number short.StartsWithDash = 22

-- Those of whole paths: faults of components keep their numbers, and there are two more.
abbrev pub path_number : PathError → ℕ
path_number (whole.InvalidPart at e) = component_number e
path_number (whole.EmptyPart at) = 23
path_number (whole.Nul at) = 24

-- Those of safe reference names: faults of reference names and of paths keep theirs, and there is one more.
abbrev pub safe_ref_number : SafeRefError → ℕ
safe_ref_number (safe.Name e) = reference_number e
safe_ref_number safe.OutsideRefs = 25
safe_ref_number (safe.Piece e) = path_number e

-- Those of submodules under switches: faults of submodule names and of paths keep theirs, and there is
-- one more.
abbrev pub protected_submodule_number : ProtectedError → ℕ
protected_submodule_number (protected.Name e) = submodule_number e
protected_submodule_number (protected.Part e) = path_number e
protected_submodule_number (protected.Disguised at) = 26

-- the number of the reason for which a name isn't of a kind
abbrev pub reason_number : Reason → ℕ
reason_number (reason.Short e) = short_name_number e
reason_number (reason.Reference e) = reference_number e
reason_number (reason.TagName e) = tag_number e
reason_number (reason.SafeRef e) = safe_ref_number e
reason_number (reason.Path e) = path_number e
reason_number (reason.Component e) = component_number e
reason_number (reason.Submodule e) = protected_submodule_number e

-- a version as one number
abbrev pub version_number : ℕ → ℕ → ℕ → ℕ
version_number major minor patch = major * 1000000 + minor * 1000 + patch
