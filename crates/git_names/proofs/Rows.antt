-- Paths and short names of branches: the definitions computed on literals.
use Rattle.gix_validate.proofs.Common.{[], ◌∷◌, ◌++◌, ◌≡◌, ℕ, List, Option, Some, None, codes}
use Rattle.gix_validate.proofs.Common.{false, map, option_map, refl, true}
use Rattle.gix_validate.proofs.OnLiterals.{names_on_literals, components_on_literals}
use Rattle.gix_validate.proofs.Rows.Tables.{Gives, Judges}
use Rattle.gix_validate.specs.Component.{all_protections}
use Rattle.gix_validate.specs.Reference.{reserved}
use Rattle.gix_validate.specs.declared.path.ComponentError.TheVariants.{DotGitDir, Relative}
use Rattle.gix_validate.specs.declared.path.ComponentError.TheVariants.{SymlinkedGitModules}
use Rattle.gix_validate.specs.declared.path.ComponentError.TheVariants.{PathSeparator}
use Rattle.gix_validate.specs.declared.path.ComponentError.TheVariants.{WindowsIllegalCharacter}
use Rattle.gix_validate.specs.declared.path.ComponentError.TheVariants.{WindowsReservedName}
use Rattle.gix_validate.specs.declared.path.ComponentMode.TheVariants.{Symlink}
use Rattle.gix_validate.specs.declared.path.ComponentOptions.{ComponentOptions}
use Rattle.gix_validate.specs.declared.reference.NameError.TheVariants as reference
use Rattle.gix_validate.specs.declared.submodule.NameError.TheVariants.{ParentComponent}
use Rattle.gix_validate.specs.Tag.{fault_offset_of as tag_fault_offset_of}
use Rattle.git_names.specs.Kinds.{fault_of}
use Rattle.git_names.specs.Paths.{is_path, fault_of as path_fault_of, has_valid_parts}
use Rattle.git_names.specs.Paths.{parts_fault_of, text_of as path_text_of}
use Rattle.git_names.specs.SafeRefs.{fault_of as safe_fault_of, is_safe_ref, is_set_apart}
use Rattle.git_names.specs.Submodules.{fault_of as submodule_fault_of, is_disguised, is_submodule}
use Rattle.git_names.specs.ShortNames.{full_name, is_short_name, fault_of as short_fault_of}
use Rattle.git_names.specs.ShortNames.{text_of as short_text_of}
use Rattle.git_names.specs.Suggestions.{repaired, suggested_piece, suggestion, trimmed}
use Rattle.git_names.specs.declared.branches.ShortNameError.TheVariants.{Name, StartsWithDash}
use Rattle.git_names.specs.declared.faults.Kind.{Kind}
use Rattle.git_names.specs.declared.faults.Kind.TheVariants as kind
use Rattle.git_names.specs.declared.paths.PathError.TheVariants.{EmptyPart, InvalidPart, Nul}
use Rattle.git_names.specs.declared.references.SafeRefError.TheVariants as safe
use Rattle.git_names.specs.declared.references.SafeRefError.TheVariants.{OutsideRefs, Piece}
use Rattle.git_names.specs.declared.submodules.SubmoduleError.TheVariants as submodule
use Rattle.git_names.specs.declared.submodules.SubmoduleError.TheVariants.{Disguised, Part}

-- paths of symlinks under every switch
paths : Judges (path_fault_of all_protections (Some Symlink)) (is_path all_protections (Some Symlink))
    ((codes "src/main.rs", None)
    ∷ (codes "main.rs", None)
    ∷ (codes ".gitmodules/a", None)  -- a folder is no symlink
    ∷ (codes "a/.gitmodules", Some (InvalidPart 2 SymlinkedGitModules))
    ∷ (codes "src/.git/NUL", Some (InvalidPart 4 DotGitDir))  -- the first of two
    ∷ (codes "a/../b//c", Some (InvalidPart 2 Relative))
    ∷ (codes "a//b/..", Some (EmptyPart 2))
    ∷ (codes "a/", Some (EmptyPart 2))
    ∷ (codes "/a", Some (EmptyPart 0))
    ∷ ([], Some (EmptyPart 0))
    ∷ [])
unfolding is_path has_valid_parts path_fault_of parts_fault_of components_on_literals
paths = (refl, refl)

-- with no switch on, a NUL is refused all the same
no_protections : ComponentOptions
no_protections = record { protect_windows = false; protect_hfs = false; protect_ntfs = false }

nul_paths : Judges (path_fault_of no_protections None) (is_path no_protections None)
    ((0x61 ∷ 0 ∷ codes "/b", Some (Nul 1))
    ∷ (codes ".git" ++ 0 ∷ codes "x", Some (Nul 4))
    ∷ (codes ".git/" ++ 0 ∷ [], Some (InvalidPart 0 DotGitDir))
    ∷ (codes "git~1", None)
    ∷ [])
unfolding is_path has_valid_parts path_fault_of parts_fault_of components_on_literals no_protections
nul_paths = (refl, refl)

-- reference names that a store may use as paths, under every switch
safe_refs : Judges (safe_fault_of all_protections) (is_safe_ref all_protections)
    ((codes "refs/heads/main", None)
    ∷ (codes "FETCH_HEAD", None)
    ∷ (codes "hooks/post-update", Some OutsideRefs)
    ∷ (codes "refs/heads/aux.c", Some (Piece (InvalidPart 11 WindowsReservedName)))
    ∷ (codes "refs/heads/a./b", Some (Piece (InvalidPart 11 WindowsIllegalCharacter)))
    ∷ (codes "main", Some (safe.Name reference.SomeLowercase))
    ∷ [])
unfolding is_safe_ref safe_fault_of is_set_apart is_path has_valid_parts path_fault_of parts_fault_of
    names_on_literals components_on_literals
safe_refs = (refl, refl)

-- submodule names under every switch
submodules : Judges (submodule_fault_of all_protections) (is_submodule all_protections)
    ((codes "vendor/lib", None)
    ∷ (codes "a/../b", Some (submodule.Name ParentComponent))
    ∷ (codes ".", Some (Part (InvalidPart 0 Relative)))
    ∷ (codes "a/.. /b", Some (Part (InvalidPart 2 WindowsIllegalCharacter)))
    ∷ (codes "a/.." ++ 0xE2 ∷ 0x80 ∷ 0x8C ∷ codes "/b", Some (Disguised 2))
    ∷ (codes "C:\\win", Some (Part (InvalidPart 0 PathSeparator)))
    ∷ (codes "a//b", Some (Part (EmptyPart 2)))
    ∷ [])
unfolding is_submodule submodule_fault_of is_disguised is_path has_valid_parts path_fault_of parts_fault_of
    names_on_literals components_on_literals
submodules = (refl, refl)

-- on NTFS alone, what is before a colon counts, without spaces and dots at its end
ntfs_alone : ComponentOptions
ntfs_alone = record { protect_windows = false; protect_hfs = false; protect_ntfs = true }

disguised_parts : Gives (is_disguised ntfs_alone)
    ((codes ".. ", true)
    ∷ (codes ".. .", true)
    ∷ (codes "....", true)
    ∷ (codes "..:foo", true)
    ∷ (codes "..::$INDEX_ALLOCATION", true)
    ∷ (codes "..a", false)
    ∷ [])
unfolding is_disguised ntfs_alone components_on_literals
disguised_parts = refl

-- short names of branches
short_names : Judges short_fault_of is_short_name
    ((codes "main", None)
    ∷ (codes "a/b-", None)
    ∷ (codes "@", None)  -- reserved only as a reference
    ∷ (codes "a/HEAD", None)
    ∷ (codes "HEAD", Some (Name (reserved (codes "HEAD"))))
    ∷ (codes "-d", Some StartsWithDash)
    ∷ (codes "- ", Some (Name (reference.InvalidByte 0x20)))  -- before the dash
    ∷ ([], Some (Name reference.Empty))
    ∷ (codes "/a", Some (Name reference.StartsWithSlash))
    ∷ (codes "@{-1}", Some (Name reference.ReflogPortion))
    ∷ (codes ".lock", Some (Name reference.StartsWithDot))
    ∷ [])
unfolding is_short_name short_fault_of full_name names_on_literals
short_names = (refl, refl)

-- suggestions for branches
suggestions : Gives suggestion
    ((codes "Fix: it's done..", Some (codes "Fix-it's-done"))
    ∷ (codes "feature/ABC: [x] done?", Some (codes "feature/ABC-x]-done"))
    ∷ (codes ".hidden", Some (codes "hidden"))
    ∷ (codes "x.lock.", Some (codes "x"))
    ∷ (codes "  leading and trailing  ", Some (codes "leading-and-trailing"))
    ∷ (codes "a--b", Some (codes "a--b"))  -- valid
    ∷ (codes "-a--b/../@{c..d.lock", Some (codes "a-b/@-c.d"))
    ∷ (codes "@", Some (codes "@"))  -- valid, too
    ∷ (codes "HEAD", None)
    ∷ (codes "~", None)
    ∷ (codes "...", None)
    ∷ (codes "/", None)
    ∷ ([], None)
    ∷ [])
unfolding suggestion repaired suggested_piece trimmed is_short_name full_name names_on_literals
suggestions = refl

full_names : Gives full_name ((codes "main", codes "refs/heads/main") ∷ ([], codes "refs/heads/") ∷ [])
unfolding full_name
full_names = refl

-- where a name's error is, as a name of a kind, under every switch
faults : (kind : Kind) → List ℕ → Option ℕ
faults kind x = option_map (λ f. f.offset) (fault_of all_protections kind x)

offsets : map (λ (row : Kind × List ℕ). faults row.0 row.1)
    ((kind.Branch, codes "main")
    ∷ (kind.Branch, codes "a b")
    ∷ (kind.Branch, codes "HEAD")
    ∷ (kind.Branch, codes "-d")
    ∷ (kind.Branch, codes "topic.lock")
    ∷ (kind.Reference, codes "HEAd")  -- the first byte that may not stand alone
    ∷ (kind.Reference, codes "x.lock/y")
    ∷ (kind.SafeRef, codes "hooks/a")
    ∷ (kind.SafeRef, codes "refs/heads/a./b")
    ∷ (kind.Component, codes "aux.c:1")
    ∷ (kind.Component, codes "a?b")
    ∷ (kind.Component, codes "ab. .")  -- the dots and spaces at the end
    ∷ (kind.Component, codes "a\\b")
    ∷ (kind.Component, codes "C:a")
    ∷ (kind.Path, codes "src/a?b/c")
    ∷ (kind.Path, codes "src//b")
    ∷ (kind.Submodule, codes "a\\..")
    ∷ (kind.Submodule, codes "a..b/../..")
    ∷ [])
    ≡ None ∷ Some 1 ∷ Some 0 ∷ Some 0 ∷ Some 5 ∷ Some 3 ∷ Some 1 ∷ Some 0 ∷ Some 12 ∷ Some 0 ∷ Some 1 ∷ Some 2
    ∷ Some 1 ∷ Some 1 ∷ Some 5 ∷ Some 4 ∷ Some 2 ∷ Some 5 ∷ []
unfolding faults tag_fault_offset_of short_fault_of safe_fault_of is_set_apart submodule_fault_of
    is_disguised is_path has_valid_parts path_fault_of parts_fault_of names_on_literals components_on_literals
offsets = refl

-- what errors print: the error of the part or of the name, and two texts more
printed_of_paths : Gives path_text_of
    ((EmptyPart 7, codes "A path must not be empty, start or end with a slash, or have two in a row")
    ∷ (InvalidPart 7 DotGitDir, codes "The .git name may never be used")
    ∷ [])
printed_of_paths = refl

printed_of_short_names : Gives short_text_of
    ((StartsWithDash, codes "Branch or tag name cannot start with a dash, as it may be mistaken for an option")
    ∷ (Name (reserved (codes "HEAD")), codes "Reference name is reserved and cannot be used: \"HEAD\"")
    ∷ [])
printed_of_short_names = refl
