-- The definitions of tag names, computed on literals.
use Rattle.gix_validate.proofs.Common.{refl, [], ◌∷◌, Some, None, codes}
use Rattle.gix_validate.proofs.OnLiterals.{names_on_literals}
use Rattle.gix_validate.proofs.Rows.Tables.{Gives, Judges}
use Rattle.gix_validate.specs.declared.tag.NameError.TheVariants.{InvalidByte, StartsWithSlash}
use Rattle.gix_validate.specs.declared.tag.NameError.TheVariants.{RepeatedSlash, RepeatedDot}
use Rattle.gix_validate.specs.declared.tag.NameError.TheVariants.{LockFileSuffix, ReflogPortion}
use Rattle.gix_validate.specs.declared.tag.NameError.TheVariants.{Asterisk, StartsWithDot}
use Rattle.gix_validate.specs.declared.tag.NameError.TheVariants.{EndsWithDot, EndsWithSlash, Empty}
use Rattle.gix_validate.specs.Quoted.{quoted}
use Rattle.gix_validate.specs.Tag.{◌at◌, first_fault, fault_of, is_tag_name}

-- an accepted text, and one for each fault: where several rules are broken, which comes first
faults : Judges fault_of is_tag_name
    ((codes "a./b", None)  -- dot before slash
    ∷ ([], Some Empty)  -- nothing
    ∷ (codes "a*/", Some EndsWithSlash)  -- asterisk then slash last
    ∷ (codes "/.a", Some StartsWithSlash)  -- slash then dot
    ∷ (codes ".a b", Some (InvalidByte 0x20))  -- bad byte before first dot
    ∷ (codes "a*", Some Asterisk)  -- asterisk
    ∷ (codes "..a.", Some RepeatedDot)  -- dots first and last
    ∷ (codes "a/.lock/b", Some StartsWithDot)  -- lock piece begins with dot
    ∷ (codes "@@{", Some ReflogPortion)  -- reflog after two
    ∷ (codes "a//*", Some RepeatedSlash)  -- slashes before asterisk
    ∷ (codes "a.lock/*", Some LockFileSuffix)  -- lock before asterisk
    ∷ (codes "a.", Some EndsWithDot)  -- dot last
    ∷ [])
unfolding names_on_literals
faults = (refl, refl)

-- A text for each line of the order, with its fault and the offset.
-- An offset that is wrong in the definition and in the body alike is refused by this proof alone.
faults_at_offsets : Gives first_fault
    (([], Some Empty at 0)  -- nothing
    ∷ (codes "refs/", Some EndsWithSlash at 4)  -- last slash
    ∷ (codes "/tags", Some StartsWithSlash at 0)  -- first slash
    ∷ (codes "v1 a", Some (InvalidByte 0x20) at 2)  -- least offset
    ∷ (codes "v1.lock", Some LockFileSuffix at 6)  -- lock at the end
    ∷ (codes ".tags", Some StartsWithDot at 0)  -- first dot
    ∷ (codes "tags.", Some EndsWithDot at 4)  -- last dot
    ∷ (codes ".a.", Some StartsWithDot at 0)  -- first dot before last
    ∷ (codes "/a.", Some StartsWithSlash at 0)  -- slash before dot
    ∷ (codes "a/.", Some StartsWithDot at 2)  -- least before last
    ∷ (codes "v1", None)  -- no fault
    ∷ [])
unfolding names_on_literals
faults_at_offsets = refl

-- bytes, and the same quoted
quoted_bytes : Gives quoted
    ((0x20 ∷ [], codes "\" \"")  -- a space
    ∷ (0x1B ∷ [], codes "\"\\x1b\"")  -- escape byte
    ∷ (0x7F ∷ [], codes "\"\\x7f\"")  -- delete byte
    ∷ (0x22 ∷ 0x5C ∷ [], codes "\"\\\"\\\\\"")  -- quote and backslash
    ∷ (0x00 ∷ [], codes "\"\\0\"")  -- nul byte
    ∷ (0x09 ∷ [], codes "\"\\t\"")  -- tab byte
    ∷ (0x0A ∷ [], codes "\"\\n\"")  -- line feed byte
    ∷ (0x0D ∷ [], codes "\"\\r\"")  -- carriage return byte
    ∷ ([], codes "\"\"")  -- no bytes
    ∷ (0x7E ∷ [], codes "\"~\"")  -- tilde byte
    ∷ (0x80 ∷ 0xFF ∷ [], codes "\"\\x80\\xff\"")  -- high half
    ∷ [])
quoted_bytes = refl
