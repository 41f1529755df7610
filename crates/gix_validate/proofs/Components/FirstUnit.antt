-- The first unit by the row of the table that has its first byte.
use Rattle.gix_validate.proofs.Common.{◌≡◌, ℕ, zero, suc, ◌<◌, ◌≤◌, Bool, true, cond, List, []}
use Rattle.gix_validate.proofs.Common.{◌∷◌, length, drop, get_or, ◌⊎◌, ◌∙◌, refl, sym, ap, arith}
use Rattle.gix_validate.proofs.Common.{at_drop_all, nat_tests, take, list_all, nat_lt, false}
use Rattle.gix_validate.proofs.Common.{false≢true}
use Rattle.gix_validate.specs.Units.{is_within, fitting_len, whole_sequences, first_unit_len}

abbrev pub begins_row : List (ℕ × ℕ) → ℕ → Bool
begins_row [] b = true
begins_row (range ∷ row) b = is_within range b

-- the first row that the byte begins, or one that has just the byte
abbrev pub row_for : List (List (ℕ × ℕ)) → ℕ → List (ℕ × ℕ)
row_for [] b = (b, b) ∷ []
row_for (row ∷ rows) b = cond (begins_row row b) row (row_for rows b)

begun_by_row : (b : ℕ) (x : List ℕ) → first_unit_len (b ∷ x) ≡ fitting_len (row_for whole_sequences b) (b ∷ x)
unfolding first_unit_len whole_sequences
begun_by_row b x = grind (arith, nat_tests)

begun_of_one : (b : ℕ) (x : List ℕ) → (b < 0xC2) ⊎ (0xF4 < b) → first_unit_len (b ∷ x) ≡ 1
unfolding first_unit_len whole_sequences
begun_of_one b x outside = grind (arith, nat_tests)

pub unit_by_row : (x : List ℕ) → 1 ≤ length x
    → first_unit_len x ≡ fitting_len (row_for whole_sequences (get_or x 0 0)) x
unit_by_row [] some = absurd (omega arith)
unit_by_row (b ∷ x) some = begun_by_row b x

pub unit_of_one : (x : List ℕ) → (get_or x 0 0 < 0xC2) ⊎ (0xF4 < get_or x 0 0) → first_unit_len x ≡ 1
unfolding first_unit_len whole_sequences
unit_of_one [] outside = refl
unit_of_one (b ∷ x) outside = begun_of_one b x outside

pub unit_of_none : (x : List ℕ) → length x < 1 → first_unit_len x ≡ 1
unfolding first_unit_len whole_sequences
unit_of_none x none = grind arith

-- the range of the first byte of a row
abbrev pub first_range : List (ℕ × ℕ) → ℕ × ℕ
first_range [] = (1, 0)
first_range (range ∷ row) = range

abbrev pub ends_below : ℕ → List (ℕ × ℕ) → Bool
ends_below b [] = false
ends_below b (range ∷ row) = nat_lt range.1 b

-- The row at an index is that for a byte of its first range, where the rows before it have lower bytes.
row_at : (k : ℕ) (rows : List (List (ℕ × ℕ))) (b : ℕ)
    → list_all (ends_below (first_range (get_or rows k [])).0) (take k rows) ≡ true
    → (first_range (get_or rows k [])).0 ≤ b → b ≤ (first_range (get_or rows k [])).1
    → row_for rows b ≡ get_or rows k []
row_at _ [] b lower least most = absurd (omega arith)
row_at zero ([] ∷ rows) b lower least most = refl
row_at zero ((range ∷ row) ∷ rows) b lower least most = grind (arith, nat_tests)
row_at (suc k) ([] ∷ rows) b lower least most = absurd (false≢true lower)
row_at (suc k) ((range ∷ row) ∷ rows) b lower least most = grind (arith, nat_tests, row_at k rows b)

-- the first unit by the row of the table that has its first byte
pub unit_of_row : (k : ℕ) (x : List ℕ) → let row = get_or whole_sequences k [] in
    list_all (ends_below (first_range row).0) (take k whole_sequences) ≡ true → 1 ≤ length x
    → (first_range row).0 ≤ get_or x 0 0 → get_or x 0 0 ≤ (first_range row).1
    → fitting_len row x ≡ first_unit_len x
unit_of_row k x lower some least most =
    sym (unit_by_row x some
    ∙ ap (λ row. fitting_len row x) (row_at k whole_sequences (get_or x 0 0) lower least most))

-- what the search takes from here for a row
pub ruleset by_row = (nat_tests, unit_by_row)

-- nothing is left of a text past its end
pub fits_past : (row : List (ℕ × ℕ)) (x : List ℕ) (i : ℕ) → length x ≤ i
    → fitting_len (drop i row) (drop i x) ≡ 0
fits_past row x i past = at_drop_all (fitting_len (drop i row)) x i past ∙ nothing (drop i row)
  where
    nothing : (row : List (ℕ × ℕ)) → fitting_len row [] ≡ 0
    nothing [] = refl
    nothing (range ∷ row) = refl
