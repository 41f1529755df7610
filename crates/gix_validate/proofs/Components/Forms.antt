-- The front of a text before a cut, less what is trimmed from its end:
-- what one byte more in front does to it.
use Rattle.gix_validate.proofs.Common.{◌≡◌, ℕ, Bool, true, false, ◌&&◌, cond, List, [], ◌∷◌, ◌++◌}
use Rattle.gix_validate.proofs.Common.{arith, before_first, length-reverse, prefix_len-append}
use Rattle.gix_validate.proofs.Common.{suffix_len-le-length, reverse_onto, nat_tests}
use Rattle.gix_validate.specs.Bytes.{is_empty}
use Rattle.gix_validate.specs.Ntfs.{without_end}

-- what is before a cut, less what is trimmed from its end
abbrev pub form : (ℕ → Bool) → (ℕ → Bool) → List ℕ → List ℕ
form cut trim x = without_end trim (before_first cut x)

pub without_end_at : (trim : ℕ → Bool) (b : ℕ) (x : List ℕ)
    → without_end trim (b ∷ x) ≡ cond (trim b && is_empty (without_end trim x)) [] (b ∷ without_end trim x)
without_end_at trim b x = grind (arith, suffix_len-le-length, reverse_onto, prefix_len-append, length-reverse)

-- A byte in front: a cut leaves nothing, a byte to be trimmed goes where nothing follows it, and others stay.
pub form_at : (cut trim : ℕ → Bool) (b : ℕ) (x : List ℕ)
    → form cut trim (b ∷ x)
    ≡ cond (cut b) [] (cond (trim b && is_empty (form cut trim x)) [] (b ∷ form cut trim x))
form_at cut trim b x = grind (arith, without_end_at)

-- What follows a cut doesn't matter.
pub form_cut : (cut trim : ℕ → Bool) (c : ℕ) (more : List ℕ) → cut c ≡ true → (x : List ℕ)
    → form cut trim (x ++ c ∷ more) ≡ form cut trim x
form_cut cut trim c more cuts [] = grind (arith, nat_tests, form_at)
form_cut cut trim c more cuts (b ∷ x) = grind (arith, nat_tests, form_at, form_cut cut trim c more cuts x)

-- Nor does a byte to be trimmed at the end.
pub form_trimmed : (cut trim : ℕ → Bool) (c : ℕ) → cut c ≡ false → trim c ≡ true → (x : List ℕ)
    → form cut trim (x ++ c ∷ []) ≡ form cut trim x
form_trimmed cut trim c stays goes [] = grind (arith, nat_tests, form_at)
form_trimmed cut trim c stays goes (b ∷ x) =
    grind (arith, nat_tests, form_at, form_trimmed cut trim c stays goes x)
