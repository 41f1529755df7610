-- The names that were read are those of the sections so far.
use Rattle.gix_validate.proofs.Common.{◌≡◌, ℕ, List, [], ◌∷◌, ◌++◌, map, Option, None, Some, All}
use Rattle.gix_validate.proofs.Common.{append_assoc, arith, map-append, All-push}
use Rattle.bstr.specs.declared.bstring.BString.{BString}
use Rattle.bstr.specs.Owned.{bstring_bytes}
use Rattle.gix_validate.specs.Submodule.{fault_of}
use Rattle.gitmodules.specs.SubmoduleNames.{IsAccepted}

pub record ReadSoFar (all left : List (ℕ × Option (List ℕ))) (names : List BString) : Type 0 where
  pub before : List (ℕ × Option (List ℕ))
  pub splits : all ≡ before ++ left
  pub names_are : map (λ name. Some (bstring_bytes name)) names ≡ map (λ section. section.1) before
  pub accepted : All (λ name. fault_of (bstring_bytes name) ≡ None) names
  pub sections_accepted : All IsAccepted before

section_accepted : (section : ℕ × Option (List ℕ)) (name : List ℕ)
    → section.1 ≡ Some name → fault_of name ≡ None → IsAccepted section
section_accepted (offset, Some own) name is fine = grind arith
section_accepted (offset, None) name is fine = absurd cc

pub read_one_more : (all left rest : List (ℕ × Option (List ℕ)))
    (names : List BString) (section : ℕ × Option (List ℕ)) (name : BString)
    → left ≡ section ∷ rest → section.1 ≡ Some (bstring_bytes name) → fault_of (bstring_bytes name) ≡ None
    → ReadSoFar all left names → ReadSoFar all rest (names ++ name ∷ [])
read_one_more all left rest names section name first is fine so_far = record {
  before = so_far.before ++ section ∷ [];
  splits = grind (arith, so_far.splits, first, append_assoc);
  names_are = grind (arith, so_far.names_are, map-append);
  accepted = All-push (λ own. fault_of (bstring_bytes own) ≡ None) names name so_far.accepted fine;
  sections_accepted =
      All-push IsAccepted so_far.before section so_far.sections_accepted
      (section_accepted section (bstring_bytes name) is fine);
}
