-- The first unit is as long as what `bstr` decodes first: for both,
-- the first byte says in which ranges the bytes after it have to be.
use Rattle.gix_validate.proofs.Common.{◌≡◌, ℕ, ◌+◌, cond, nat_lt, List, [], ◌∷◌, sym, ◌∙◌, arith}
use Rattle.gix_validate.proofs.Common.{◌==◌, nat_tests}
use Rattle.gix_validate.proofs.Components.FirstUnit.{row_for, unit_by_row}
use Rattle.bstr.specs.Utf8.{second, decoded}
use Rattle.gix_validate.specs.Units.{is_within, fitting_len, whole_sequences}
use Rattle.gix_validate.specs.ComponentLaws.{FirstUnitIsDecoded}

-- the ranges of the bytes after the first one, as `bstr` has them: that of the second byte, and all of them
abbrev second_range : ℕ → ℕ × ℕ
second_range b =
    cond (b == 0xE0) (0xA0, 0xBF) (
    cond (b == 0xED) (0x80, 0x9F) (
    cond (b == 0xF0) (0x90, 0xBF) (
    cond (b == 0xF4) (0x80, 0x8F) (0x80, 0xBF))))

abbrev ranges : ℕ → List (ℕ × ℕ)
ranges b =
    cond (nat_lt b 0xC2) [] (
    cond (nat_lt 0xF4 b) [] (
    second_range b ∷ cond (nat_lt b 0xE0) [] ((0x80, 0xBF) ∷ cond (nat_lt b 0xF0) [] ((0x80, 0xBF) ∷ []))))

-- the table's row for the byte has the same
row_fits : (b : ℕ) (x : List ℕ)
    → fitting_len (row_for whole_sequences b) (b ∷ x) ≡ 1 + fitting_len (ranges b) x
unfolding whole_sequences
row_fits b x = grind (arith, nat_tests)

second_is : (b c : ℕ) → second b c ≡ is_within (second_range b) c
second_is b c = grind (arith, nat_tests)

decoded_of_three : (b c d : ℕ) → (decoded (b ∷ c ∷ d ∷ [])).size ≡ 1 + fitting_len (ranges b) (c ∷ d ∷ [])
decoded_of_three b c d = rw (second_is b c) (grind (arith, nat_tests))

decoded_of_more : (b c d e : ℕ) (x : List ℕ)
    → (decoded (b ∷ c ∷ d ∷ e ∷ x)).size ≡ 1 + fitting_len (ranges b) (c ∷ d ∷ e ∷ x)
decoded_of_more b c d e x = rw (second_is b c) (grind (arith, nat_tests))

decoded_by_ranges : (b : ℕ) (x : List ℕ) → (decoded (b ∷ x)).size ≡ 1 + fitting_len (ranges b) x
decoded_by_ranges b [] = grind arith
decoded_by_ranges b (c ∷ []) = rw (second_is b c) (grind arith)
decoded_by_ranges b (c ∷ d ∷ []) = decoded_of_three b c d
decoded_by_ranges b (c ∷ d ∷ e ∷ x) = decoded_of_more b c d e x

pub first_unit_law : (x : List ℕ) → FirstUnitIsDecoded x
first_unit_law [] some = grind arith
first_unit_law (b ∷ x) some = unit_by_row (b ∷ x) (omega arith) ∙ row_fits b x ∙ sym (decoded_by_ranges b x)
