-- Reference names: which texts are a partial, a full or a branch name, and the fault of those that aren't.
use Rattle.std.specs.Prelude.{ℕ, Bool, ◌==◌, ◌&&◌, ◌||◌, not, nat_le, List, [], ◌∷◌, ◌++◌, codes}
use Rattle.std.specs.Prelude.{Option, option_map}
use Rattle.std.specs.List.{list_all, list_any}
use Rattle.std.specs.Str.{byte, bytes_eq}
use Rattle.gix_validate.specs.declared.tag.NameError.{NameError as TagError}
use Rattle.gix_validate.specs.Tag.{fault_of, is_tag_name}
use Rattle.gix_validate.specs.declared.tag.NameError.TheVariants as tag
use Rattle.gix_validate.specs.declared.reference.NameError.TheVariants.{InvalidByte}
use Rattle.gix_validate.specs.declared.reference.NameError.TheVariants.{StartsWithSlash}
use Rattle.gix_validate.specs.declared.reference.NameError.TheVariants.{RepeatedSlash, RepeatedDot}
use Rattle.gix_validate.specs.declared.reference.NameError.TheVariants.{LockFileSuffix}
use Rattle.gix_validate.specs.declared.reference.NameError.TheVariants.{ReflogPortion, Asterisk}
use Rattle.gix_validate.specs.declared.reference.NameError.TheVariants.{StartsWithDot, EndsWithDot}
use Rattle.gix_validate.specs.declared.reference.NameError.TheVariants.{EndsWithSlash, Empty}
use Rattle.gix_validate.specs.declared.reference.NameError.TheVariants.{SomeLowercase, Reserved}
use Rattle.gix_validate.specs.declared.reference.NameError.{NameError}
use Rattle.gix_validate.specs.Faults.{when, ◌orelse◌}
use Rattle.gix_validate.specs.Pieces.{is_slash}
use Rattle.gix_validate.specs.Quoted.{quoted}

-- a byte of a name that stands alone, as `HEAD` or `FETCH_HEAD` does
abbrev pub is_standalone_byte : ℕ → Bool
is_standalone_byte b = (nat_le (byte "A") b && nat_le b (byte "Z")) || b == byte "_"

-- the text has a slash, or each of its bytes may stand alone
abbrev pub has_slash_or_stands_alone : List ℕ → Bool
has_slash_or_stands_alone x = list_any is_slash x || list_all is_standalone_byte x

-- The text is a partial name: a tag name, but not `@`.
unfoldable pub is_partial_name : List ℕ → Bool
is_partial_name x = is_tag_name x && not (bytes_eq x (codes "@"))

-- The text is a full name: a partial name that has a slash, or may stand alone.
unfoldable pub is_full_name : List ℕ → Bool
is_full_name x = is_partial_name x && has_slash_or_stands_alone x

-- The text is the full name of a branch: a full name, but not `refs/heads/HEAD`.
unfoldable pub is_branch_name : List ℕ → Bool
is_branch_name x = is_full_name x && not (bytes_eq x (codes "refs/heads/HEAD"))

-- the fault that a name is reserved, with all of its bytes
abbrev pub reserved : List ℕ → NameError
reserved name = Reserved (record { items = name })

-- the fault of a tag name, as one of a reference name: the same variant, with the same byte
abbrev pub carried : TagError → NameError
carried (tag.InvalidByte b) = InvalidByte b
carried tag.StartsWithSlash = StartsWithSlash
carried tag.RepeatedSlash = RepeatedSlash
carried tag.RepeatedDot = RepeatedDot
carried tag.LockFileSuffix = LockFileSuffix
carried tag.ReflogPortion = ReflogPortion
carried tag.Asterisk = Asterisk
carried tag.StartsWithDot = StartsWithDot
carried tag.EndsWithDot = EndsWithDot
carried tag.EndsWithSlash = EndsWithSlash
carried tag.Empty = Empty

-- The fault of a text as a partial name: that of the tag name, or else that it is `@`.
unfoldable pub partial_fault_of : List ℕ → Option NameError
partial_fault_of x =
    option_map carried (fault_of x) orelse when (bytes_eq x (codes "@")) (reserved (codes "@"))

-- The fault of a text as a full name: that of the partial name, or else that it has no slash
-- and a byte that may not stand alone.
unfoldable pub full_fault_of : List ℕ → Option NameError
full_fault_of x = partial_fault_of x orelse when (not (has_slash_or_stands_alone x)) SomeLowercase

-- The fault of a text as the name of a branch: that of the full name, or else that it is `refs/heads/HEAD`.
unfoldable pub branch_fault_of : List ℕ → Option NameError
branch_fault_of x =
    full_fault_of x orelse when (bytes_eq x (codes "refs/heads/HEAD")) (reserved (codes "refs/heads/HEAD"))

-- what an error prints
abbrev pub text_of : NameError → List ℕ
text_of (InvalidByte b) = codes "Reference name contains invalid byte: " ++ quoted (b ∷ [])
text_of StartsWithSlash = codes "Reference name cannot start with a slash"
text_of RepeatedSlash = codes "Reference name cannot contain repeated slashes"
text_of RepeatedDot = codes "Reference name cannot contain repeated dots"
text_of LockFileSuffix = codes "Reference name cannot end with '.lock'"
text_of ReflogPortion = codes "Reference name cannot contain '@{'"
text_of Asterisk = codes "Reference name cannot contain '*'"
text_of StartsWithDot = codes "Reference name cannot start with a dot"
text_of EndsWithDot = codes "Reference name cannot end with a dot"
text_of EndsWithSlash = codes "Reference name cannot end with a slash"
text_of Empty = codes "Reference name cannot be empty"
text_of SomeLowercase = codes "Standalone references must be all uppercased, like 'HEAD'"
text_of (Reserved name) = codes "Reference name is reserved and cannot be used: " ++ quoted name.items
