-- The faults of references that are those of the tag name: their numbers and offsets.
use Rattle.gix_validate.proofs.Common.{◌≡◌, ℕ, ◌<◌, List, Option, Some, None, refl, arith, nat_tests}
use Rattle.gix_validate.proofs.Common.{option_map}
use Rattle.gix_validate.specs.Reference.{branch_fault_of, carried, full_fault_of, partial_fault_of}
use Rattle.gix_validate.specs.Tag.{Fault, fault_of as tag_fault_of, fault_offset_of, first_fault}
use Rattle.gix_validate.specs.declared.tag.NameError.{NameError as TagError}
use Rattle.gix_validate.specs.declared.tag.NameError.TheVariants as tag
use Rattle.git_names.specs.Offsets.{reference_offset_of, tag_offset_of}
use Rattle.git_names.specs.ShortNames.{fault_of as short_fault_of}
use Rattle.gix_validate_c.specs.Kinds.{kind_of, number_by, offset_by}
use Rattle.gix_validate_c.specs.Numbers.{reference_number, tag_number}

carried_number : (e : TagError) → reference_number (carried e) ≡ tag_number e
carried_number (tag.InvalidByte b) = refl
carried_number tag.StartsWithSlash = refl
carried_number tag.RepeatedSlash = refl
carried_number tag.RepeatedDot = refl
carried_number tag.LockFileSuffix = refl
carried_number tag.ReflogPortion = refl
carried_number tag.Asterisk = refl
carried_number tag.StartsWithDot = refl
carried_number tag.EndsWithDot = refl
carried_number tag.EndsWithSlash = refl
carried_number tag.Empty = refl

carried_offset : (x : List ℕ) (e : TagError) → (e ≡ tag.LockFileSuffix → ⊥)
    → reference_offset_of x (carried e) ≡ tag_offset_of x
carried_offset x (tag.InvalidByte b) other = refl
carried_offset x tag.StartsWithSlash other = refl
carried_offset x tag.RepeatedSlash other = refl
carried_offset x tag.RepeatedDot other = refl
carried_offset x tag.LockFileSuffix other = absurd (other refl)
carried_offset x tag.ReflogPortion other = refl
carried_offset x tag.Asterisk other = refl
carried_offset x tag.StartsWithDot other = refl
carried_offset x tag.EndsWithDot other = refl
carried_offset x tag.EndsWithSlash other = refl
carried_offset x tag.Empty other = refl

both : (found : Option Fault) (e : TagError) (at : ℕ)
    → option_map {U = TagError × ℕ} (λ fault. (fault.error, fault.offset)) found ≡ Some (e, at)
    → found ≡ Some (record { error = e; offset = at })
both None e at is = grind (arith, is)
both (Some fault) e at is = grind (arith, is)

-- of the first six kinds, which ignore flags
pub number_by_tag : (kind flags : ℕ) (x : List ℕ) (e : TagError) (at : ℕ) → kind < 6
    → option_map {U = TagError × ℕ} (λ fault. (fault.error, fault.offset)) (first_fault x) ≡ Some (e, at)
    → number_by (kind_of kind) flags x ≡ tag_number e
unfolding short_fault_of branch_fault_of full_fault_of partial_fault_of tag_fault_of
number_by_tag kind flags x e at small is =
    let found = both (first_fault x) e at is in grind (arith, nat_tests, found, carried_number e)

pub offset_by_tag : (kind flags : ℕ) (x : List ℕ) (e : TagError) (at : ℕ) → kind < 6
    → option_map {U = TagError × ℕ} (λ fault. (fault.error, fault.offset)) (first_fault x) ≡ Some (e, at)
    → (e ≡ tag.LockFileSuffix → ⊥) → offset_by (kind_of kind) flags x ≡ at
unfolding short_fault_of branch_fault_of full_fault_of partial_fault_of tag_fault_of fault_offset_of
offset_by_tag kind flags x e at small is other =
    let found = both (first_fault x) e at is in grind (arith, nat_tests, found, carried_offset x e other)
