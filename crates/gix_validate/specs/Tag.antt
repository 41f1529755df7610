-- Tag names: which texts are one, and the fault of those that aren't.
use Rattle.std.specs.Prelude.{ℕ, ◌+◌, ◌-◌, Bool, ◌==◌, ◌&&◌, ◌||◌, not, List, [], ◌∷◌, ◌++◌, length}
use Rattle.std.specs.Prelude.{take, drop, slice_index, codes, Option, Some, None, option_map}
use Rattle.std.specs.List.{list_all, list_any}
use Rattle.std.specs.Str.{byte, bytes_eq}
use Rattle.gix_validate.specs.declared.tag.NameError.TheVariants.{InvalidByte, StartsWithSlash}
use Rattle.gix_validate.specs.declared.tag.NameError.TheVariants.{RepeatedSlash, RepeatedDot}
use Rattle.gix_validate.specs.declared.tag.NameError.TheVariants.{LockFileSuffix, ReflogPortion}
use Rattle.gix_validate.specs.declared.tag.NameError.TheVariants.{Asterisk, StartsWithDot}
use Rattle.gix_validate.specs.declared.tag.NameError.TheVariants.{EndsWithDot, EndsWithSlash, Empty}
use Rattle.gix_validate.specs.declared.tag.NameError.{NameError}
use Rattle.gix_validate.specs.Bytes.{is_bad, is_empty, begins, ends, holds}
use Rattle.gix_validate.specs.Pieces.{pieces}
use Rattle.gix_validate.specs.Faults.{when, first_of, at_first_offset}
use Rattle.gix_validate.specs.Quoted.{quoted}

-- The piece may be in a tag name.
unfoldable pub is_good_piece : List ℕ → Bool
is_good_piece p =
    not (is_empty p)
    && not (list_any (λ b. is_bad b || b == byte "*") p)
    && not (begins p (codes "."))
    && not (holds p (codes ".."))
    && not (holds p (codes "@{"))
    && not (ends p (codes ".lock"))

-- The text is a tag name: each of its pieces may be in one, and it doesn't end in a dot.
unfoldable pub is_tag_name : List ℕ → Bool
is_tag_name x = list_all is_good_piece (pieces x) && not (ends x (codes "."))

-- The table of the faults at one offset of a text, a line each. The text is cut at the offset into all
-- before it, the byte at it, and all after it.
unfoldable pub fault_table : List ℕ → ℕ → List ℕ → List (Option NameError)
fault_table before b after =
    when (is_bad b) (InvalidByte b)
    ∷ when (b == byte "*") Asterisk
    ∷ when (b == byte "." && ends before (codes ".")) RepeatedDot
    ∷ when (b == byte "." && ends before (codes "/")) StartsWithDot
    ∷ when (b == byte "{" && ends before (codes "@")) ReflogPortion
    ∷ when (b == byte "/" && ends before (codes "/")) RepeatedSlash
    ∷ when (b == byte "/" && ends before (codes ".lock")) LockFileSuffix
    ∷ when (is_empty after && ends (before ++ b ∷ []) (codes ".lock")
    && not (bytes_eq (before ++ b ∷ []) (codes ".lock"))) LockFileSuffix
    ∷ []

-- the lines of the table at offset i of x, where x has that offset
unfoldable pub faults_at : List ℕ → ℕ → List (Option NameError)
faults_at x i = fault_table (take i x) (slice_index x i) (drop (i + 1) x)

-- A fault of a text: the error, and the offset that it is at.
pub record Fault : Type 0 where
  pub error : NameError
  pub offset : ℕ

-- the error of a line of a table, if the line applies, at the offset
infixl 68 ◌at◌
abbrev pub ◌at◌ : Option NameError → ℕ → Option Fault
None at i = None
(Some e) at i = Some (record { error = e; offset = i })

-- the fault at offset i of x, if a line of the table applies there
abbrev pub fault_at : List ℕ → ℕ → Option Fault
fault_at x i = first_of (faults_at x i) at i

-- The first fault of a text: the first of these that applies. A fault of the end is at the last byte.
unfoldable pub first_fault : List ℕ → Option Fault
first_fault x = first_of (
    when (is_empty x) Empty at 0
    ∷ when (ends x (codes "/")) EndsWithSlash at (length x - 1)
    ∷ when (begins x (codes "/")) StartsWithSlash at 0
    ∷ at_first_offset (fault_at x) (length x)
    ∷ when (begins x (codes ".")) StartsWithDot at 0
    ∷ when (ends x (codes ".")) EndsWithDot at (length x - 1) ∷ [])

-- the error of the first fault
unfoldable pub fault_of : List ℕ → Option NameError
fault_of x = option_map Fault.error (first_fault x)

-- the offset of the first fault
unfoldable pub fault_offset_of : List ℕ → Option ℕ
fault_offset_of x = option_map Fault.offset (first_fault x)

-- What an error prints.
abbrev pub text_of : NameError → List ℕ
text_of (InvalidByte b) =
    codes "A ref must not contain invalid bytes or ascii control characters: " ++ quoted (b ∷ [])
text_of StartsWithSlash = codes "A reference name must not start with a slash '/'"
text_of RepeatedSlash =
    codes "Multiple slashes in a row are not allowed as they may change the reference's meaning"
text_of RepeatedDot = codes "A ref must not contain '..' as it may be mistaken for a range"
text_of LockFileSuffix = codes "A ref must not end with '.lock'"
text_of ReflogPortion = codes "A ref must not contain '@{' which is a part of a ref-log"
text_of Asterisk = codes "A ref must not contain '*' character"
text_of StartsWithDot = codes "A ref must not start with a '.'"
text_of EndsWithDot = codes "A ref must not end with a '.'"
text_of EndsWithSlash = codes "A ref must not end with a '/'"
text_of Empty = codes "A ref must not be empty"
