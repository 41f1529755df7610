-- A form against a word, without ASCII case: byte by byte from the front, and what then is left of the form.
use Rattle.gix_validate.proofs.Common.{◌≡◌, ℕ, ◌+◌, ◌<◌, ◌≤◌, Bool, true, false, ◌&&◌, cond, eqb}
use Rattle.gix_validate.proofs.Common.{List, [], ◌∷◌, ◌++◌, get_or, length, drop, refl, arith}
use Rattle.gix_validate.proofs.Common.{codes, append-nil, not, ◌==◌, list_all, byte, bytes_eq}
use Rattle.gix_validate.proofs.Common.{nat_tests, common_steps}
use Rattle.gix_validate.proofs.Components.Forms.{form, form_at}
use Rattle.gix_validate.proofs.Texts.LetterCase.{test-lower_byte, eqb_turned}
use Rattle.gix_validate.specs.Bytes.{is_empty, is_among, lower, lower_byte, begins}

-- a byte that ends no form and isn't cut from its end
abbrev pub stays_in_form : ℕ → Bool
stays_in_form b = not (is_among (codes " .:\\") b)

-- plain bytes are neither a cut nor trimmed
abbrev pub KeepsPlain : (ℕ → Bool) → (ℕ → Bool) → Type 0
KeepsPlain cut trim = (b : ℕ) → stays_in_form b ≡ true → (cut b ≡ false) × (trim b ≡ false)

pub none_left : (x : List ℕ) → bytes_eq (lower x) [] ≡ is_empty x
none_left x = grind arith

pub plain_head : (cut trim : ℕ → Bool) → KeepsPlain cut trim → (b : ℕ) (x : List ℕ) → stays_in_form b ≡ true
    → form cut trim (b ∷ x) ≡ b ∷ form cut trim x
plain_head cut trim keeps b x plain = grind (arith, form_at)

pub word_head : (cut trim : ℕ → Bool) → KeepsPlain cut trim
    → (b : ℕ) (x : List ℕ) (w : ℕ) (ws : List ℕ) → stays_in_form w ≡ true
    → bytes_eq (lower (form cut trim (b ∷ x))) (lower_byte w ∷ ws)
    ≡ (eqb (lower_byte b) (lower_byte w) && bytes_eq (lower (form cut trim x)) ws)
word_head cut trim keeps b x w ws plain = grind (
  arith,
  nat_tests,
  plain_head,
  test-lower_byte stays_in_form refl b,
  test-lower_byte stays_in_form refl w,
)

-- A word of plain bytes, and more after it.
pub word_front : (cut trim : ℕ → Bool) → KeepsPlain cut trim
    → (word x ws : List ℕ) → list_all stays_in_form word ≡ true
    → bytes_eq (lower (form cut trim x)) (lower word ++ ws)
    ≡ (begins (lower x) (lower word) && bytes_eq (lower (form cut trim (drop (length word) x))) ws)
word_front cut trim keeps [] x ws plain = grind arith
word_front cut trim keeps (w ∷ word) [] ws plain = grind arith
word_front cut trim keeps (w ∷ word) (b ∷ x) ws plain =
    grind (arith, word_head, eqb_turned, word_front cut trim keeps word x ws)

-- what is left of a form after a word
pub form_left : (cut trim : ℕ → Bool) (x : List ℕ) (i : ℕ) → i < length x
    → is_empty (form cut trim (drop i x)) ≡ cond (cut (get_or x i 0)) true
    (cond (trim (get_or x i 0)) (is_empty (form cut trim (drop (i + 1) x))) false)
form_left cut trim x i h = grind (arith, common_steps, form_at)

pub form_all_left : (cut trim : ℕ → Bool) (x : List ℕ) (i : ℕ) → length x ≤ i
    → is_empty (form cut trim (drop i x)) ≡ true
form_all_left cut trim x i h = grind (arith, common_steps)

pub form_word : (cut trim : ℕ → Bool) → KeepsPlain cut trim
    → (word x : List ℕ) → list_all stays_in_form word ≡ true
    → bytes_eq (lower (form cut trim x)) (lower word)
    ≡ (begins (lower x) (lower word) && is_empty (form cut trim (drop (length word) x)))
form_word cut trim keeps word x plain = grind (arith, append-nil, word_front cut trim keeps word x [] plain)

pub ntfs_keeps : KeepsPlain (is_among (codes ":\\")) (is_among (codes " ."))
ntfs_keeps b plain = grind arith

pub device_keeps : KeepsPlain (is_among (codes ".:")) (λ b. b == byte " ")
device_keeps b plain = grind arith
