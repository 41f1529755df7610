-- Path components: the twelve conditions under which a name is refused, in their order.
use Rattle.std.specs.Prelude.{ℕ, Bool, true, ◌==◌, ◌&&◌, ◌||◌, not, is_none, is_some, List, [], ◌∷◌}
use Rattle.std.specs.Prelude.{slice_index, codes, Option}
use Rattle.std.specs.List.{list_all}
use Rattle.std.specs.Str.{byte, bytes_eq}
use Rattle.gix_validate.specs.declared.path.ComponentError.TheVariants.{Empty, PathSeparator}
use Rattle.gix_validate.specs.declared.path.ComponentError.TheVariants.{WindowsPathPrefix}
use Rattle.gix_validate.specs.declared.path.ComponentError.TheVariants.{WindowsReservedName}
use Rattle.gix_validate.specs.declared.path.ComponentError.TheVariants.{WindowsIllegalCharacter}
use Rattle.gix_validate.specs.declared.path.ComponentError.TheVariants.{DotGitDir}
use Rattle.gix_validate.specs.declared.path.ComponentError.TheVariants.{SymlinkedGitModules}
use Rattle.gix_validate.specs.declared.path.ComponentError.TheVariants.{Relative}
use Rattle.gix_validate.specs.declared.path.ComponentError.{ComponentError}
use Rattle.gix_validate.specs.declared.path.ComponentMode.{ComponentMode}
use Rattle.gix_validate.specs.declared.path.ComponentOptions.{ComponentOptions}
use Rattle.gix_validate.specs.Bytes.{is_empty, is_among, lower}
use Rattle.gix_validate.specs.Faults.{when, first_of}
use Rattle.gix_validate.specs.Units.{first_unit_len}
use Rattle.gix_validate.specs.Hfs.{hfs_form}
use Rattle.gix_validate.specs.Ntfs.{ntfs_form, is_git_form, is_modules_form}
use Rattle.gix_validate.specs.Windows.{is_device, is_illegal}

-- every switch on, which is the default
abbrev pub all_protections : ComponentOptions
all_protections = record { protect_windows = true; protect_hfs = true; protect_ntfs = true }

-- The conditions, a line each, under options, and a mode if there is one. (The one mode is that of a symlink.
-- After the last byte `slice_index` finds 0, which is not a colon.)
unfoldable pub conditions : ComponentOptions → Option ComponentMode → List ℕ → List (Option ComponentError)
conditions options mode x =
    let windows = options.protect_windows in
    let hfs = options.protect_hfs in
    let ntfs = options.protect_ntfs in
    let symlink = is_some mode in
    when (is_empty x) Empty
    ∷ when (bytes_eq x (codes ".") || bytes_eq x (codes "..")) Relative
    ∷ when (is_among x (byte "/") || (windows && is_among x (byte "\\"))) PathSeparator
    ∷ when (windows && slice_index x (first_unit_len x) == byte ":") WindowsPathPrefix
    ∷ when (hfs && bytes_eq (lower (hfs_form x)) (codes ".git")) DotGitDir
    ∷ when (hfs && symlink && bytes_eq (lower (hfs_form x)) (codes ".gitmodules")) SymlinkedGitModules
    ∷ when (ntfs && is_git_form (lower (ntfs_form x))) DotGitDir
    ∷ when (ntfs && symlink && is_modules_form (lower (ntfs_form x))) SymlinkedGitModules
    ∷ when (windows && ntfs && is_device x) WindowsReservedName
    ∷ when (windows && ntfs && is_illegal x) WindowsIllegalCharacter
    ∷ when (not hfs && not ntfs && bytes_eq (lower x) (codes ".git")) DotGitDir
    ∷ when (not hfs && not ntfs && symlink && bytes_eq (lower x) (codes ".gitmodules")) SymlinkedGitModules
    ∷ []

-- The fault of a component: the first condition that holds.
unfoldable pub fault_of : ComponentOptions → Option ComponentMode → List ℕ → Option ComponentError
fault_of options mode x = first_of (conditions options mode x)

-- The text is a component: none of the conditions holds.
unfoldable pub is_component : ComponentOptions → Option ComponentMode → List ℕ → Bool
is_component options mode x = list_all is_none (conditions options mode x)

-- What an error prints.
abbrev pub text_of : ComponentError → List ℕ
text_of Empty = codes "A path component must not be empty"
text_of PathSeparator = codes "Path separators like / or \\ are not allowed"
text_of WindowsPathPrefix = codes "Windows path prefixes are not allowed"
text_of WindowsReservedName = codes "Windows device-names may have side-effects and are not allowed"
text_of WindowsIllegalCharacter = codes "Trailing spaces or dots, and the following characters anywhere, are forbidden in Windows paths, along with non-printable ones: <>:\"|?*"
text_of DotGitDir = codes "The .git name may never be used"
text_of SymlinkedGitModules = codes "The .gitmodules file must not be a symlink"
text_of Relative = codes "Relative components '.' and '..' are disallowed"
