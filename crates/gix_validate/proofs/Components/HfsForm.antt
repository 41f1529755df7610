-- The HFS form: what the bytes in front do to it, and that it is the units without the ignored characters.
use Rattle.gix_validate.proofs.Common.{◌≡◌, ℕ, suc, ◌+◌, ◌-◌, ◌<◌, ◌≤◌, Bool, true, false, ◌&&◌}
use Rattle.gix_validate.proofs.Common.{not, nat_le, eqb, List, [], ◌∷◌, ◌++◌, length, take, drop}
use Rattle.gix_validate.proofs.Common.{get_or, ◌⊎◌, refl, inl, inr, arith, list_all, list_any}
use Rattle.gix_validate.proofs.Common.{filter, concat, bytes_eq, cases_Bool, nat_tests}
use Rattle.gix_validate.proofs.Common.{common_steps, ◌||◌, length-drop}
use Rattle.gix_validate.specs.Units.{is_within, fitting_len, whole_sequences, first_unit_len}
use Rattle.gix_validate.specs.Units.{units_within}
use Rattle.gix_validate.proofs.Texts.LetterCase.{lower_byte-is}
use Rattle.gix_validate.proofs.Components.FirstUnit.{row_for, unit_by_row}
use Rattle.gix_validate.specs.Bytes.{lower, lower_byte}
use Rattle.gix_validate.specs.Hfs.{is_ignored, hfs_form, is_ignored_unit}

-- a byte that is second or later in a whole sequence
abbrev pub is_next : ℕ → Bool
is_next b = is_within (0x80, 0xBF) b

-- the range has such bytes alone
abbrev pub is_tail_range : ℕ × ℕ → Bool
is_tail_range range = nat_le 0x80 range.0 && nat_le range.1 0xBF

-- each range of the row but the first one
abbrev pub has_tail_ranges : List (ℕ × ℕ) → Bool
has_tail_ranges [] = true
has_tail_ranges (range ∷ row) = list_all is_tail_range row

next-take_fitting : (row : List (ℕ × ℕ)) → list_all is_tail_range row ≡ true → (x : List ℕ)
    → list_all is_next (take (fitting_len row x) x) ≡ true
next-take_fitting (range ∷ row) on (b ∷ x) = elim (cases_Bool (is_within range b)) [
  | inl fits ↦ rw fits (grind (arith, next-take_fitting row))
  | inr differs ↦ rw differs refl
]
next-take_fitting _ on _ = grind arith

-- the bytes of the front of n bytes that follow its first one
abbrev HasTail : ℕ → List ℕ → Type 0
HasTail n x = list_all is_next (take (n - 1) x) ≡ true

HasTail-fitting : (row : List (ℕ × ℕ)) → has_tail_ranges row ≡ true → (b : ℕ) (x : List ℕ)
    → HasTail (fitting_len row (b ∷ x)) x
HasTail-fitting [] on b x = refl
HasTail-fitting (range ∷ row) on b x = grind (arith, next-take_fitting row)

row_has_tail : (rows : List (List (ℕ × ℕ))) → list_all has_tail_ranges rows ≡ true → (b : ℕ)
    → has_tail_ranges (row_for rows b) ≡ true
row_has_tail [] on b = refl
row_has_tail (row ∷ rows) on b = grind (arith, row_has_tail rows)

HasTail-first_unit : (b : ℕ) (x : List ℕ) → HasTail (first_unit_len (b ∷ x)) x
unfolding whole_sequences
HasTail-first_unit b x =
    rw (unit_by_row (b ∷ x) (omega arith)) (HasTail-fitting _ (row_has_tail whole_sequences refl b) b x)

first_unit_len-pos : (x : List ℕ) → 1 ≤ first_unit_len x
unfolding first_unit_len whole_sequences
first_unit_len-pos x = grind (arith, nat_tests)

-- the text begins with an ignored character
abbrev pub begins_ignored : List ℕ → Bool
begins_ignored (a ∷ b ∷ c ∷ x) = is_ignored a b c
begins_ignored _ = false

-- a byte that begins no ignored character stays
hfs_form-kept : (a : ℕ) (x : List ℕ) → begins_ignored (a ∷ x) ≡ false → hfs_form (a ∷ x) ≡ a ∷ hfs_form x
unfolding hfs_form
hfs_form-kept a x none = grind arith

hfs_form-next : (n : ℕ) (x : List ℕ) → list_all is_next (take n x) ≡ true
    → hfs_form x ≡ take n x ++ hfs_form (drop n x)
unfolding is_ignored
hfs_form-next (suc n) (a ∷ x) next = grind (arith, hfs_form-kept, hfs_form-next n x)
hfs_form-next _ _ next = grind arith

-- a front that is an ignored character begins the text with one
begins_from_unit : (n : ℕ) (x : List ℕ) → is_ignored_unit (take n x) ≡ true → begins_ignored x ≡ true
begins_from_unit (suc (suc (suc n))) x h = grind arith
begins_from_unit _ x h = grind arith

three_bytes : (a b c : ℕ) (x : List ℕ) → (a ≡ 0xE2) ⊎ (a ≡ 0xEF) → is_next b ≡ true → is_next c ≡ true
    → first_unit_len (a ∷ b ∷ c ∷ x) ≡ 3
unfolding first_unit_len whole_sequences
three_bytes a b c x lead second third = grind (arith, nat_tests)

-- an ignored character is a unit
three : (a b c : ℕ) (x : List ℕ) → is_ignored a b c ≡ true → first_unit_len (a ∷ b ∷ c ∷ x) ≡ 3
unfolding is_ignored
three a b c x is = three_bytes a b c x (grind arith) (grind arith) (grind arith)

-- a front whose later bytes begin nothing stays whole
hfs_form-front : (n b : ℕ) (x : List ℕ) → 1 ≤ n → HasTail n x → begins_ignored (b ∷ x) ≡ false
    → hfs_form (b ∷ x) ≡ take n (b ∷ x) ++ hfs_form (drop n (b ∷ x))
hfs_form-front n b x some goes begins = grind (arith, hfs_form-kept, hfs_form-next)

-- the first unit is kept or not, and the form of the rest follows
hfs_form-unit : (b : ℕ) (x : List ℕ) (units : List (List ℕ))
    → hfs_form (drop (first_unit_len (b ∷ x)) (b ∷ x))
    ≡ concat (filter (λ unit. not (is_ignored_unit unit)) units)
    → hfs_form (b ∷ x)
    ≡ concat (filter (λ unit. not (is_ignored_unit unit)) (take (first_unit_len (b ∷ x)) (b ∷ x) ∷ units))
unfolding hfs_form
hfs_form-unit b x units rest = grind (
  arith,
  nat_tests,
  first_unit_len-pos,
  three,
  hfs_form-front,
  HasTail-first_unit,
  begins_from_unit,
)

-- The HFS form is the kept units, wherever there are enough steps to reach the end.
pub hfs_form-units : (n : ℕ) (x : List ℕ) → length x ≤ n
    → hfs_form x ≡ concat (filter (λ unit. not (is_ignored_unit unit)) (units_within n x))
unfolding units_within hfs_form
hfs_form-units (suc n) (b ∷ x) enough =
    hfs_form-unit b x _
    (hfs_form-units n _ (simp length-drop (omega (arith, first_unit_len-pos (b ∷ x)))))
hfs_form-units _ _ enough = grind arith

-- one byte of the form and one of a word, put off
pub both_begin : (x rest word : List ℕ) (b i : ℕ) → i < length word → hfs_form x ≡ b ∷ hfs_form rest
    → bytes_eq (lower (hfs_form x)) (drop i word)
    ≡ (eqb (lower_byte b) (get_or word i 0) && bytes_eq (lower (hfs_form rest)) (drop (i + 1) word))
both_begin x rest word b i h e = grind (arith, common_steps)

-- each of the ignored characters begins with one of these bytes
abbrev pub is_lead : ℕ → Bool
is_lead b = eqb b 0xE2 || eqb b 0xEF

-- a name without the first byte of an ignored character is its own form
pub hfs_form_same : (x : List ℕ) → list_any is_lead x ≡ false → hfs_form x ≡ x
unfolding hfs_form is_ignored
hfs_form_same (a ∷ b ∷ c ∷ x) none = grind (arith, hfs_form_same (b ∷ c ∷ x))
hfs_form_same _ none = refl

-- what a comparison with a word takes from above
pub ruleset word_steps = (both_begin, lower_byte-is, nat_tests, common_steps)
