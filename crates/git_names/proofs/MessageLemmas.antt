-- A name without a slash.
use Rattle.gix_validate.proofs.Common.{◌≡◌, ℕ, List, [], ◌∷◌, None, Some, true, false, refl, arith, nat_tests}
use Rattle.gix_validate.specs.Pieces.{has_no_slash, is_slash}
use Rattle.std.specs.List.{position}

pub no_slash : (x : List ℕ) → position is_slash x ≡ None → has_no_slash x ≡ true
no_slash [] none = refl
no_slash (b ∷ x) none = grind (arith, nat_tests, none, no_slash x)

pub some_slash : (x : List ℕ) (at : ℕ) → position is_slash x ≡ Some at → has_no_slash x ≡ false
some_slash [] at some = absurd (grind (arith, some))
some_slash (b ∷ x) at some = grind (arith, nat_tests, some, some_slash x)

pub ruleset slashes = (no_slash, some_slash)
