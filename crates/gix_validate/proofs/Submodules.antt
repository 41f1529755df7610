-- Without two dots in a row no part is `..`.
use Rattle.gix_validate.proofs.Common.{◌≡◌, suc, ◌-◌, false, List, [], ◌∷◌, length, arith, byte}
use Rattle.gix_validate.proofs.Common.{◌==◌, ◌&&◌, nat_tests, ℕ}
use Rattle.gix_validate.proofs.Blocks.Lanes.{at_pair}
use Rattle.gix_validate.specs.Submodule.{has_parent_part}
use Rattle.gix_validate.specs.Private.Scan.{NoneBelow}

-- one byte more in front
parent_further : (a b : ℕ) (x : List ℕ) → (a == byte "." && b == byte ".") ≡ false
    → has_parent_part (b ∷ x) ≡ false → has_parent_part (a ∷ b ∷ x) ≡ false
parent_further a b x none rest = grind (arith, nat_tests)

pub without_two_dots : (x : List ℕ)
    → NoneBelow (at_pair (λ a b. a == byte "." && b == byte ".") x) (length x - 1)
    → has_parent_part x ≡ false
without_two_dots [] none = grind arith
without_two_dots (a ∷ []) none = grind arith
without_two_dots (a ∷ b ∷ x) none =
    let rest = without_two_dots (b ∷ x) (λ k small. grind (arith, none (suc k))) in
    parent_further a b x (none 0 (omega arith)) rest
