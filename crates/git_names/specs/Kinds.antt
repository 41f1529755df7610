-- Which names are of a kind, and what is wrong with others, and where.
use Rattle.std.specs.Prelude.{ℕ, Bool, List, Option, Some, None, option_map}
use Rattle.gix_validate.specs.declared.path.ComponentMode.TheVariants.{Symlink as OfSymlink}
use Rattle.gix_validate.specs.declared.path.ComponentOptions.{ComponentOptions}
use Rattle.gix_validate.specs.Component
use Rattle.gix_validate.specs.Reference
use Rattle.gix_validate.specs.Tag
use Rattle.git_names.specs.Offsets.{offset_of}
use Rattle.git_names.specs.Paths
use Rattle.git_names.specs.SafeRefs
use Rattle.git_names.specs.ShortNames
use Rattle.git_names.specs.Submodules
use Rattle.git_names.specs.declared.faults.Fault.{Fault}
use Rattle.git_names.specs.declared.faults.Kind.{Kind}
use Rattle.git_names.specs.declared.faults.Kind.TheVariants as kind
use Rattle.git_names.specs.declared.faults.Reason.{Reason}
use Rattle.git_names.specs.declared.faults.Reason.TheVariants as reason

-- The text is a name of this kind, by its grammar.
abbrev pub is_name : ComponentOptions → Kind → List ℕ → Bool
is_name options kind.Branch x = ShortNames.is_short_name x
is_name options kind.BranchRef x = Reference.is_branch_name x
is_name options kind.Tag x = ShortNames.is_short_tag x
is_name options kind.Reference x = Reference.is_full_name x
is_name options kind.Partial x = Reference.is_partial_name x
is_name options kind.TagName x = Tag.is_tag_name x
is_name options kind.SafeRef x = SafeRefs.is_safe_ref options x
is_name options kind.Path x = Paths.is_path options None x
is_name options kind.SymlinkPath x = Paths.is_path options (Some OfSymlink) x
is_name options kind.Component x = Component.is_component options None x
is_name options kind.Symlink x = Component.is_component options (Some OfSymlink) x
is_name options kind.Submodule x = Submodules.is_submodule options x

-- why a text is no name of this kind
abbrev pub reason_of : ComponentOptions → Kind → List ℕ → Option Reason
reason_of options kind.Branch x = option_map (λ e. reason.Short e) (ShortNames.fault_of x)
reason_of options kind.BranchRef x = option_map (λ e. reason.Reference e) (Reference.branch_fault_of x)
reason_of options kind.Tag x = option_map (λ e. reason.Short e) (ShortNames.fault_of x)
reason_of options kind.Reference x = option_map (λ e. reason.Reference e) (Reference.full_fault_of x)
reason_of options kind.Partial x = option_map (λ e. reason.Reference e) (Reference.partial_fault_of x)
reason_of options kind.TagName x = option_map (λ e. reason.TagName e) (Tag.fault_of x)
reason_of options kind.SafeRef x = option_map (λ e. reason.SafeRef e) (SafeRefs.fault_of options x)
reason_of options kind.Path x = option_map (λ e. reason.Path e) (Paths.fault_of options None x)
reason_of options kind.SymlinkPath x =
    option_map (λ e. reason.Path e) (Paths.fault_of options (Some OfSymlink) x)
reason_of options kind.Component x = option_map (λ e. reason.Component e) (Component.fault_of options None x)
reason_of options kind.Symlink x =
    option_map (λ e. reason.Component e) (Component.fault_of options (Some OfSymlink) x)
reason_of options kind.Submodule x = option_map (λ e. reason.Submodule e) (Submodules.fault_of options x)

-- What a reason prints.
abbrev pub text_of : Reason → List ℕ
text_of (reason.Short e) = ShortNames.text_of e
text_of (reason.Reference e) = Reference.text_of e
text_of (reason.TagName e) = Tag.text_of e
text_of (reason.SafeRef e) = SafeRefs.text_of e
text_of (reason.Path e) = Paths.text_of e
text_of (reason.Component e) = Component.text_of e
text_of (reason.Submodule e) = Submodules.text_of e

-- The fault of a text as a name of this kind: the reason, and where that is.
abbrev pub fault_of : ComponentOptions → Kind → List ℕ → Option Fault
fault_of options kind x =
    option_map (λ e. record { reason = e; offset = offset_of options x e }) (reason_of options kind x)
