-- The definitions of the calls, computed on literals.
use Rattle.gix_validate.proofs.Common.{◌≡◌, refl, true, false, List, [], ◌∷◌, ◌++◌, map}
use Rattle.gix_validate.proofs.Common.{range_with_len, Some, None, codes, byte}
use Rattle.gix_validate.proofs.Rows.Tables.{Gives}
use Rattle.gix_validate.specs.declared.tag.NameError.TheVariants as tag
use Rattle.gix_validate.specs.declared.reference.NameError.TheVariants as reference
use Rattle.gix_validate.specs.declared.submodule.NameError.TheVariants as submodule
use Rattle.gix_validate.specs.declared.path.ComponentError.TheVariants as path
use Rattle.gix_validate.specs.declared.tag.NameError.{NameError as TagError}
use Rattle.gix_validate.specs.declared.path.ComponentError.{ComponentError}
use Rattle.gix_validate.specs.Component.{all_protections}
use Rattle.gix_validate.specs.Reference.{carried, reserved}
use Rattle.gix_validate.specs.Pieces.{names_in}
use Rattle.gix_validate.specs.Private.Classes.{switches}
use Rattle.gix_validate_c.specs.Numbers.{tag_number, reference_number, submodule_number}
use Rattle.gix_validate_c.specs.Numbers.{component_number, code_by, safe_ref_number}
use Rattle.gix_validate_c.specs.Numbers.{protected_submodule_number}
use Rattle.gix_validate_c.specs.Kinds.{kind_of, offset_or}
use Rattle.gix_validate_c.specs.Numbers.{short_name_number, path_number, version_number}
use Rattle.git_names.specs.declared.branches.ShortNameError.TheVariants as short
use Rattle.git_names.specs.declared.paths.PathError.TheVariants as whole
use Rattle.git_names.specs.declared.faults.Kind.TheVariants as kind
use Rattle.git_names.specs.declared.references.SafeRefError.TheVariants as safe
use Rattle.git_names.specs.declared.submodules.SubmoduleError.TheVariants as protected
use Rattle.gix_validate_c.specs.Flags.{options_of}
use Rattle.gix_validate_c.specs.Texts.{text_by, with_text}

-- The faults of tag names in the order of their numbers, which never change.
abbrev tag_faults : List TagError
tag_faults =
    tag.InvalidByte 0x20 ∷ tag.StartsWithSlash ∷ tag.RepeatedSlash
    ∷ tag.RepeatedDot ∷ tag.LockFileSuffix ∷ tag.ReflogPortion
    ∷ tag.Asterisk ∷ tag.StartsWithDot ∷ tag.EndsWithDot ∷ tag.EndsWithSlash ∷ tag.Empty ∷ []

-- Those that path components alone have, in the order of their numbers.
abbrev component_faults : List ComponentError
component_faults =
    path.PathSeparator ∷ path.WindowsPathPrefix ∷ path.WindowsReservedName
    ∷ path.WindowsIllegalCharacter ∷ path.DotGitDir
    ∷ path.SymlinkedGitModules ∷ path.Relative ∷ []

-- numbers from 1 on, in this order: a fault that several types share has one number
numbers_of_tags : map tag_number tag_faults ≡ range_with_len 1 11
numbers_of_tags = refl

numbers_of_references : map reference_number
    (map carried tag_faults ++ reference.SomeLowercase ∷ reserved (codes "@") ∷ []) ≡ range_with_len 1 13
numbers_of_references = refl

numbers_of_submodules : map submodule_number (submodule.Empty ∷ submodule.ParentComponent ∷ []) ≡ 11 ∷ 14 ∷ []
numbers_of_submodules = refl

numbers_of_components : map component_number (path.Empty ∷ component_faults) ≡ 11 ∷ range_with_len 15 7
numbers_of_components = refl

numbers_of_short_names : map short_name_number (short.StartsWithDash ∷ short.Name reference.Empty ∷ [])
    ≡ 22 ∷ 11 ∷ []
numbers_of_short_names = refl

numbers_of_paths : map path_number (whole.EmptyPart 7 ∷ whole.InvalidPart 7 path.Relative ∷ whole.Nul 7 ∷ [])
    ≡ 23 ∷ 21 ∷ 24 ∷ []
numbers_of_paths = refl

numbers_of_safe_refs : map safe_ref_number
    (safe.Name reference.Empty ∷ safe.OutsideRefs ∷ safe.Piece (whole.InvalidPart 5 path.DotGitDir) ∷ [])
    ≡ 11 ∷ 25 ∷ 19 ∷ []
numbers_of_safe_refs = refl

numbers_of_protected_submodules : map protected_submodule_number
    (protected.Name submodule.ParentComponent ∷ protected.Part (whole.Nul 1) ∷ protected.Disguised 2 ∷ [])
    ≡ 14 ∷ 24 ∷ 26 ∷ []
numbers_of_protected_submodules = refl

-- the kinds in the order of their numbers, which never change, and numbers of none
kinds : Gives kind_of
    ((0, Some kind.Branch)
    ∷ (1, Some kind.BranchRef)
    ∷ (2, Some kind.Tag)
    ∷ (3, Some kind.Reference)
    ∷ (4, Some kind.Partial)
    ∷ (5, Some kind.TagName)
    ∷ (6, Some kind.SafeRef)
    ∷ (7, Some kind.Path)
    ∷ (8, Some kind.SymlinkPath)
    ∷ (9, Some kind.Component)
    ∷ (10, Some kind.Symlink)
    ∷ (11, Some kind.Submodule)
    ∷ (12, None)
    ∷ (0xFFFFFFFF, None)
    ∷ [])
kinds = refl

-- what else is a number
no_fault : code_by tag_number None ≡ 0
no_fault = refl

offsets : Gives (offset_or 5)
    ((Some 3, 3)
    ∷ (Some 0, 0)
    ∷ (None, 5)  -- the length
    ∷ [])
offsets = refl

version : version_number 2 1 3 ≡ 2001003
version = refl

-- flags, and the switches that are on
switches_of_flags : Gives options_of
    ((0, switches false false false)
    ∷ (1, switches true false false)  -- Windows
    ∷ (2, switches false true false)  -- HFS+
    ∷ (4, switches false false true)  -- NTFS
    ∷ (7, all_protections)
    ∷ (0xFFFFFFF8, switches false false false)  -- other bits
    ∷ [])
switches_of_flags = refl

-- buffers in which the text `abc` is written, and what is in them then
buffers : Gives (with_text (codes "abc"))
    ((codes "12", codes "12")  -- too short
    ∷ (codes "123", codes "abc")  -- as long
    ∷ (codes "12345", codes "abc45")  -- longer
    ∷ [])
buffers = refl

no_text : text_by (λ (fault : TagError). codes "abc") None ≡ []
no_text = refl

-- buffers whose names end at a newline, and their names
names_in_lines : Gives (names_in (byte "\n"))
    (([], [])  -- no name
    ∷ (codes "\n", [] ∷ [])  -- an empty name
    ∷ (codes "\n\n", [] ∷ [] ∷ [])  -- two empty names
    ∷ (codes "a\n", codes "a" ∷ [])  -- one name
    ∷ (codes "a", codes "a" ∷ [])  -- the last name without its end
    ∷ (codes "\na", [] ∷ codes "a" ∷ [])  -- an empty name first
    ∷ (codes "a\n\nb", codes "a" ∷ [] ∷ codes "b" ∷ [])  -- an empty name between two
    ∷ (codes "a\r\nb\r", codes "a\r" ∷ codes "b\r" ∷ [])  -- a carriage return stays
    ∷ [])
unfolding names_in
names_in_lines = refl

-- any byte can end the names
names_in_parts : Gives (names_in (byte "/"))
    ((codes "refs/heads\n", codes "refs" ∷ codes "heads\n" ∷ [])
    ∷ (codes "refs/", codes "refs" ∷ [])
    ∷ (codes "//a", [] ∷ [] ∷ codes "a" ∷ [])
    ∷ [])
unfolding names_in
names_in_parts = refl
