-- Letter case: what `lower` leaves as it is, and words against a text in any letter case.
use Rattle.gix_validate.proofs.Common.{true, false, eqb, ◌≡◌, ℕ, ◌+◌, ◌-◌, ◌<◌, Bool, not, nat_eq}
use Rattle.gix_validate.proofs.Common.{List, [], ◌∷◌, reverse, length, take, refl, inl, inr, arith}
use Rattle.gix_validate.proofs.Common.{list_any, list_all, prefix_len, before_first, byte, bytes_eq}
use Rattle.gix_validate.proofs.Common.{cases_lt, agree_below, agree_below_at, and_parts, length-map}
use Rattle.gix_validate.proofs.Common.{take-map, drop-map, bytes_eq-Decides, and-false}
use Rattle.gix_validate.proofs.Common.{to_ascii_lowercase}
use mathlib.Core.List.{reverse_aux}
use Rattle.gix_validate.specs.Bytes.{lower_byte, lower, ends, begins}
use Rattle.gix_validate.specs.Ntfs.{without_end}

pub lower_byte-is : (b : ℕ) → to_ascii_lowercase b ≡ lower_byte b
unfolding lower_byte
lower_byte-is b = grind arith

pub eqb_turned : (a b : ℕ) → eqb a b ≡ eqb b a
eqb_turned a b = grind arith

bytes_eq-turned : (x y : List ℕ) → bytes_eq x y ≡ bytes_eq y x
bytes_eq-turned x y = grind (arith, bytes_eq-Decides)

-- a text begins with a word where its front of that length is the word
pub begins_word : (x word : List ℕ)
    → begins (lower x) (lower word) ≡ bytes_eq (lower (take (length word) x)) (lower word)
begins_word x word = grind (arith, length-map, take-map, bytes_eq-turned)

-- a text that is shorter doesn't
pub begins_short : (x word : List ℕ) → length x < length word → begins (lower x) (lower word) ≡ false
begins_short x [] h = absurd (omega arith)
begins_short [] (w ∷ word) h = refl
begins_short (b ∷ x) (w ∷ word) h =
    rw (begins_short x word (omega arith)) (and-false (eqb (lower_byte w) (lower_byte b)))

-- a test gives one answer at each letter and at its small letter
abbrev pub SkipsCase : (ℕ → Bool) → Type 0
SkipsCase p = agree_below (λ k. p (k + byte "a")) (λ k. p (k + byte "A")) 26 ≡ true

pub test-lower_byte : (p : ℕ → Bool) → SkipsCase p → (b : ℕ) → p (lower_byte b) ≡ p b
unfolding lower_byte
test-lower_byte p skips b = elim (cases_lt b (byte "A")) [
  | inl small ↦ grind arith
  | inr large ↦
      let here : b - byte "A" + byte "A" ≡ b = omega arith in
      let there : b - byte "A" + byte "a" ≡ b + 32 = omega arith in
      grind (arith, agree_below_at (λ k. p (k + byte "a")) (λ k. p (k + byte "A")) 26 (b - byte "A") skips)
]

pub lower-lower : (x : List ℕ) → lower (lower x) ≡ lower x
unfolding lower_byte
lower-lower [] = refl
lower-lower (b ∷ x) = grind (arith, lower-lower x)

pub list_any-lower : (p : ℕ → Bool) → SkipsCase p → (x : List ℕ) → list_any p (lower x) ≡ list_any p x
list_any-lower p skips [] = refl
list_any-lower p skips (b ∷ x) = rw (test-lower_byte p skips b, list_any-lower p skips x)

pub prefix_len-lower : (p : ℕ → Bool) → SkipsCase p → (x : List ℕ) → prefix_len p (lower x) ≡ prefix_len p x
prefix_len-lower p skips [] = refl
prefix_len-lower p skips (b ∷ x) = rw (test-lower_byte p skips b, prefix_len-lower p skips x)

-- no byte of the word is a letter
abbrev pub has_no_letter : List ℕ → Bool
has_no_letter word =
    list_all (λ c. agree_below (λ k. nat_eq (k + byte "a") c) (λ k. nat_eq (k + byte "A") c) 26) word

pub bytes_eq-lower : (word : List ℕ) → has_no_letter word ≡ true → (x : List ℕ)
    → bytes_eq (lower x) word ≡ bytes_eq x word
bytes_eq-lower [] none [] = refl
bytes_eq-lower [] none (b ∷ x) = refl
bytes_eq-lower (c ∷ word) none [] = refl
bytes_eq-lower (c ∷ word) none (b ∷ x) =
    let parts = and_parts _ _ none in
    rw (test-lower_byte (λ a. nat_eq a c) parts.0 b, bytes_eq-lower word parts.1 x)

reverse_aux-map : (x done : List ℕ) → reverse_aux (lower x) (lower done) ≡ lower (reverse_aux x done)
reverse_aux-map [] done = refl
reverse_aux-map (b ∷ x) done = reverse_aux-map x (b ∷ done)

pub reverse-lower : (x : List ℕ) → reverse (lower x) ≡ lower (reverse x)
reverse-lower x = reverse_aux-map x []

pub before_first-lower : (p : ℕ → Bool) → SkipsCase (λ b. not (p b)) → (x : List ℕ)
    → before_first p (lower x) ≡ lower (before_first p x)
before_first-lower p skips x =
    rw (prefix_len-lower (λ b. not (p b)) skips x) (take-map lower_byte (prefix_len (λ b. not (p b)) x) x)

pub without_end-lower : (p : ℕ → Bool) → SkipsCase p → (x : List ℕ)
    → without_end p (lower x) ≡ lower (without_end p x)
without_end-lower p skips x = grind (arith, length-map, take-map, reverse-lower, prefix_len-lower)

-- a word without letters is an end of both or of neither
pub ends-lower : (word : List ℕ) → has_no_letter word ≡ true → (x : List ℕ)
    → ends (lower x) word ≡ ends x word
ends-lower word none x = grind (arith, length-map, drop-map, bytes_eq-turned, bytes_eq-lower)
