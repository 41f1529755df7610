-- The first name in a buffer, by the index of the first byte that ends a name.
use Rattle.gix_validate.proofs.Common.{◌≡◌, ◌≢◌, ℕ, ◌+◌, ◌<◌, true, false, List, [], ◌∷◌, ◌==◌}
use Rattle.gix_validate.proofs.Common.{length, take, get_or, drop, refl, arith, false_from_ne_true}
use Rattle.gix_validate.proofs.Common.{position_or_len_is, All-from_get_or, slice_split_first}
use Rattle.gix_validate.proofs.Common.{slice_split_none, length-slice_split}
use Rattle.gix_validate.specs.Pieces.{names_in}

-- the first name ends before the first such byte
pub names_in-cut : (end : ℕ) (buffer : List ℕ) (k : ℕ) → k < length buffer
    → ((j : ℕ) → j < k → (get_or buffer j 0 == end) ≡ true → ⊥) → (get_or buffer k 0 == end) ≡ true
    → names_in end buffer ≡ take k buffer ∷ names_in end (drop (k + 1) buffer)
unfolding names_in
names_in-cut end buffer k high before here =
    let at = position_or_len_is (λ b. b == end) buffer k 0 (omega (arith, high))
    (λ j below. false_from_ne_true _ (before j below)) (λ _. here) in
    grind (
      arith,
      at,
      slice_split_first (λ b. b == end) buffer 0,
      length-slice_split (λ b. b == end) (drop (k + 1) buffer),
    )

-- a buffer without such a byte is one name, unless it is empty
pub names_in-last : (end : ℕ) (buffer : List ℕ) → buffer ≢ []
    → ((k : ℕ) → k < length buffer → (get_or buffer k 0 == end) ≡ true → ⊥)
    → names_in end buffer ≡ buffer ∷ names_in end []
unfolding names_in
names_in-last end buffer some nowhere =
    let none =
    All-from_get_or (λ c. (c == end) ≡ false) buffer 0 (λ k below. false_from_ne_true _ (nowhere k below)) in
    grind (arith, slice_split_none (λ c. c == end) buffer none)

-- an empty buffer has no name
pub names_in-none : (end : ℕ) (buffer : List ℕ) → length buffer ≡ 0 → names_in end buffer ≡ []
unfolding names_in
names_in-none end [] empty = refl
names_in-none end (b ∷ buffer) empty = absurd (omega arith)
