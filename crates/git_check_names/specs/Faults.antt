-- Which names are of a kind, and what is wrong with another one.
use Rattle.std.specs.Prelude.{ℕ, ◌+◌, ◌==◌, Bool, ◌&&◌, not, if◌then◌else◌, List, [], ◌∷◌, length, codes}
use Rattle.std.specs.Prelude.{Option, None, option_map}
use Rattle.std.specs.List.{list_all, list_any, position}
use Rattle.std.specs.Str.{bytes_eq}
use Rattle.gix_validate.specs.Bytes.{is_empty}
use Rattle.gix_validate.specs.Component.{is_component, fault_of as component_fault_of}
use Rattle.gix_validate.specs.Faults.{when, ◌orelse◌}
use Rattle.gix_validate.specs.Pieces.{pieces}
use Rattle.gix_validate.specs.Reference.{carried}
use Rattle.gix_validate.specs.declared.path.ComponentError.{ComponentError}
use Rattle.gix_validate.specs.declared.path.ComponentOptions.{ComponentOptions}
use Rattle.gix_validate.specs.declared.reference.NameError.{NameError as ReferenceError}
use Rattle.gix_validate.specs.declared.path.ComponentError.TheVariants as part
use Rattle.gix_validate.specs.declared.reference.NameError.TheVariants as reference
use Rattle.gix_validate.specs.declared.submodule.NameError.TheVariants as parent
use Rattle.git_names.specs.Kinds
use Rattle.git_names.specs.Offsets.{component_offset_of}
use Rattle.git_names.specs.Paths.{is_nul}
use Rattle.git_names.specs.declared.faults.Fault.{Fault}
use Rattle.git_names.specs.declared.faults.Kind.{Kind}
use Rattle.git_names.specs.declared.faults.Kind.TheVariants as kind
use Rattle.git_names.specs.declared.faults.Reason.{Reason}
use Rattle.git_names.specs.declared.faults.Reason.TheVariants as reason
use Rattle.git_names.specs.declared.branches.ShortNameError.TheVariants as short
use Rattle.git_names.specs.declared.paths.PathError.{PathError}
use Rattle.git_names.specs.declared.paths.PathError.TheVariants as whole
use Rattle.git_names.specs.declared.references.SafeRefError.TheVariants as safe
use Rattle.git_names.specs.declared.submodules.SubmoduleError.TheVariants as submodule
use Rattle.programs.specs.Accepted.{without_windows}
use Rattle.git_check_names.specs.Options.{Options}

-- ---- paths and components, of which some are accepted

-- the switches for a component: its name may be one of those to which the rules of Windows don't apply
abbrev pub protections_for : Options → List ℕ → ComponentOptions
protections_for options name =
    if list_any (λ accepted. bytes_eq accepted name) options.accepted
    then without_windows options.protections
    else options.protections

-- the part is a component under the switches for it
abbrev pub is_part : Options → List ℕ → Bool
is_part options part = is_component (protections_for options part) None part

-- the fault of a part of a path that begins at this offset
abbrev pub part_fault_of : Options → ℕ → List ℕ → Option Fault
part_fault_of options at part =
    when (is_empty part) (record { reason = reason.Path (whole.EmptyPart at); offset = at })
    orelse option_map (λ e. record {
      reason = reason.Path (whole.InvalidPart at e);
      offset = at + component_offset_of (protections_for options part) part e;
    }) (component_fault_of (protections_for options part) None part)

-- the fault of the first of these parts that has one, where the first of them begins at this offset, and each
-- other one after a slash
abbrev pub parts_fault_of : Options → ℕ → List (List ℕ) → Option Fault
parts_fault_of options at [] = None
parts_fault_of options at (part ∷ more) =
    part_fault_of options at part orelse parts_fault_of options (at + (length part + 1)) more

-- that a path has a NUL, at the first one
abbrev pub nul_fault_of : List ℕ → Option Fault
nul_fault_of name =
    option_map (λ at. record { reason = reason.Path (whole.Nul at); offset = at }) (position is_nul name)

-- the text is a path, each of whose parts is checked under the switches for it
abbrev pub is_accepting_path : Options → List ℕ → Bool
is_accepting_path options name =
    list_all (is_part options) (pieces name) && not (list_any is_nul name)

-- the fault of a text as such a path
abbrev pub path_fault_of : Options → List ℕ → Option Fault
path_fault_of options name = parts_fault_of options 0 (pieces name) orelse nul_fault_of name

-- ---- names of any kind

-- The text is a name of this kind, by its grammar.
abbrev pub is_name : Options → Kind → List ℕ → Bool
is_name options kind.Path name =
    if options.lists == 0 then Kinds.is_name options.protections kind.Path name
    else is_accepting_path options name
is_name options kind.Component name = is_part options name
is_name options kind name = Kinds.is_name options.protections kind name

-- The fault of a text as a name of this kind.
abbrev pub fault_of : Options → Kind → List ℕ → Option Fault
fault_of options kind.Path name =
    if options.lists == 0 then Kinds.fault_of options.protections kind.Path name
    else path_fault_of options name
fault_of options kind.Component name = Kinds.fault_of (protections_for options name) kind.Component name
fault_of options kind name = Kinds.fault_of options.protections kind name

-- ---- the names of errors

abbrev pub reference_word : ReferenceError → List ℕ
reference_word (reference.InvalidByte b) = codes "InvalidByte"
reference_word reference.StartsWithSlash = codes "StartsWithSlash"
reference_word reference.RepeatedSlash = codes "RepeatedSlash"
reference_word reference.RepeatedDot = codes "RepeatedDot"
reference_word reference.LockFileSuffix = codes "LockFileSuffix"
reference_word reference.ReflogPortion = codes "ReflogPortion"
reference_word reference.Asterisk = codes "Asterisk"
reference_word reference.StartsWithDot = codes "StartsWithDot"
reference_word reference.EndsWithDot = codes "EndsWithDot"
reference_word reference.EndsWithSlash = codes "EndsWithSlash"
reference_word reference.Empty = codes "Empty"
reference_word reference.SomeLowercase = codes "SomeLowercase"
reference_word (reference.Reserved name) = codes "Reserved"

abbrev pub component_word : ComponentError → List ℕ
component_word part.Empty = codes "Empty"
component_word part.PathSeparator = codes "PathSeparator"
component_word part.WindowsPathPrefix = codes "WindowsPathPrefix"
component_word part.WindowsReservedName = codes "WindowsReservedName"
component_word part.WindowsIllegalCharacter = codes "WindowsIllegalCharacter"
component_word part.DotGitDir = codes "DotGitDir"
component_word part.SymlinkedGitModules = codes "SymlinkedGitModules"
component_word part.Relative = codes "Relative"

abbrev pub path_word : PathError → List ℕ
path_word (whole.EmptyPart at) = codes "EmptyPart"
path_word (whole.InvalidPart at e) = component_word e
path_word (whole.Nul at) = codes "Nul"

abbrev pub reason_word : Reason → List ℕ
reason_word (reason.Short (short.Name e)) = reference_word e
reason_word (reason.Short short.StartsWithDash) = codes "StartsWithDash"
reason_word (reason.Reference e) = reference_word e
reason_word (reason.TagName e) = reference_word (carried e)
reason_word (reason.SafeRef (safe.Name e)) = reference_word e
reason_word (reason.SafeRef safe.OutsideRefs) = codes "OutsideRefs"
reason_word (reason.SafeRef (safe.Piece e)) = path_word e
reason_word (reason.Path e) = path_word e
reason_word (reason.Component e) = component_word e
reason_word (reason.Submodule (submodule.Name parent.Empty)) = codes "Empty"
reason_word (reason.Submodule (submodule.Name parent.ParentComponent)) = codes "ParentComponent"
reason_word (reason.Submodule (submodule.Part e)) = path_word e
reason_word (reason.Submodule (submodule.Disguised at)) = codes "Disguised"
