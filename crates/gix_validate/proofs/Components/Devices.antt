-- Device forms: which text ends one, and which names have the form of a device's name.
use Rattle.gix_validate.proofs.Common.{◌≡◌, ℕ, ◌+◌, ◌-◌, ◌%◌, ◌<◌, ◌≤◌, bit_and, Bool, true, false}
use Rattle.gix_validate.proofs.Common.{◌&&◌, ◌||◌, cond, eqb, List, [], ◌∷◌, ◌++◌, length, drop}
use Rattle.gix_validate.proofs.Common.{get_or, refl, sym, ap, ◌∙◌, arith, codes, IsTrue, ◌==◌, map}
use Rattle.gix_validate.proofs.Common.{nat_le, list_all, list_any, byte, bytes_eq, nat_tests}
use Rattle.gix_validate.proofs.Common.{bytes_eq-Decides, or-false, common_steps, get_or-drop}
use Rattle.gix_validate.proofs.Common.{drop-drop, take_all, length-drop, length-map}
use Rattle.gix_validate.proofs.Texts.Words.{stays_in_form, device_keeps, word_head, none_left}
use Rattle.gix_validate.proofs.Texts.Words.{form_left, form_all_left, form_word}
use Rattle.gix_validate.specs.declared.path.windows.TheConstants.{BY_LETTER, DEVICES}
use Rattle.gix_validate.specs.Bytes.{is_empty, is_among, lower, lower_byte, begins}
use Rattle.gix_validate.specs.Ntfs.{is_digit}
use Rattle.gix_validate.specs.Windows.{device_form, devices, is_device, is_device_form}

abbrev pub is_device_cut : ℕ → Bool
is_device_cut b = is_among (codes ".:") b

abbrev pub is_device_trimmed : ℕ → Bool
is_device_trimmed b = b == byte " "

pub device_left : (x : List ℕ) (i : ℕ) → i < length x
    → is_empty (device_form (drop i x)) ≡ (is_device_cut (get_or x i 0)
    || (is_device_trimmed (get_or x i 0) && is_empty (device_form (drop (i + 1) x))))
unfolding device_form
device_left x i h = grind (arith, form_left is_device_cut is_device_trimmed x i h)

pub device_all_left : (x : List ℕ) (i : ℕ) → length x ≤ i → is_empty (device_form (drop i x)) ≡ true
unfolding device_form
device_all_left = form_all_left is_device_cut is_device_trimmed

pub device_word : (word x : List ℕ) → IsTrue (list_all stays_in_form word)
    → bytes_eq (lower (device_form x)) (lower word)
    ≡ (begins (lower x) (lower word) && is_empty (device_form (drop (length word) x)))
unfolding device_form
device_word = form_word is_device_cut is_device_trimmed device_keeps

-- ---- a name by its first three letters

-- a form against a word whose first byte is no capital
in_front : (x : List ℕ) (w : ℕ) (ws : List ℕ) → 1 ≤ w → lower_byte w ≡ w → stays_in_form w ≡ true
    → bytes_eq (lower (device_form x)) (w ∷ ws)
    ≡ (eqb (lower_byte (get_or x 0 0)) w && bytes_eq (lower (device_form (drop 1 x))) ws)
unfolding device_form lower_byte
in_front [] w ws some small plain = grind arith
in_front (b ∷ x) w ws some small plain =
    rw small at (word_head is_device_cut is_device_trimmed device_keeps b x w ws plain)

-- the byte is the small letter or its capital
abbrev pub is_letter : ℕ → ℕ → Bool
is_letter b l = eqb b l || eqb b (l - 32)

-- the first three bytes are these letters in any case
unfoldable pub are_letters : List ℕ → List ℕ → Bool
are_letters x word =
    is_letter (get_or x 0 0) (get_or word 0 0)
    && (is_letter (get_or x 1 0) (get_or word 1 0) && is_letter (get_or x 2 0) (get_or word 2 0))

is_small : ℕ → Bool
is_small l = nat_le (byte "a") l && nat_le l (byte "z")

letter_head : (x : List ℕ) (l : ℕ) (ws : List ℕ) → is_small l ≡ true
    → bytes_eq (lower (device_form x)) (l ∷ ws)
    ≡ (is_letter (get_or x 0 0) l && bytes_eq (lower (device_form (drop 1 x))) ws)
unfolding lower_byte is_small
letter_head x l ws small = grind (arith, in_front)

abbrev is_word : List ℕ → Bool
is_word word = eqb (length word) 3 && list_all is_small word

letters_head : (x word ws : List ℕ) → is_word word ≡ true
    → bytes_eq (lower (device_form x)) (word ++ ws)
    ≡ (are_letters x word && bytes_eq (lower (device_form (drop 3 x))) ws)
unfolding are_letters
letters_head x (l ∷ m ∷ n ∷ []) ws word = grind (arith, letter_head)
letters_head x _ ws word = grind arith

-- which of the six words may have letters with these low bits, a bit for each
unfoldable pub bits : ℕ → ℕ → ℕ → ℕ
bits first second third =
    bit_and (bit_and (get_or (get_or BY_LETTER 0 []) first 0) (get_or (get_or BY_LETTER 1 []) second 0))
    (get_or (get_or BY_LETTER 2 []) third 0)

abbrev pub bits_of : List ℕ → ℕ
bits_of x = bits (get_or x 0 0 % 32) (get_or x 1 0 % 32) (get_or x 2 0 % 32)

-- the form is one of the words
abbrev pub is_any : List (List ℕ) → List ℕ → Bool
is_any words x = list_any (bytes_eq (lower (device_form x))) words

one_stem : (x word : List ℕ) (ends rest : List (List ℕ)) → is_word word ≡ true
    → is_any (map (λ end. word ++ end) ends ++ rest) x
    ≡ ((are_letters x word && is_any ends (drop 3 x)) || is_any rest x)
one_stem x word [] rest is = grind arith
one_stem x word (end ∷ ends) rest is = grind (arith, letters_head x word end, one_stem x word ends rest is)

-- words, each with what may follow it
abbrev pub Stems : Type 0
Stems = List (List ℕ × List (List ℕ))

abbrev names_of : Stems → List (List ℕ)
names_of [] = []
names_of (stem ∷ stems) = map (λ end. stem.0 ++ end) stem.1 ++ names_of stems

by_stems : (x : List ℕ) (stems : Stems) → list_all (λ stem. is_word stem.0) stems ≡ true
    → is_any (names_of stems) x ≡ list_any (λ stem. are_letters x stem.0 && is_any stem.1 (drop 3 x)) stems
by_stems x [] are = refl
by_stems x (stem ∷ stems) are = grind (arith, one_stem x stem.0 stem.1 (names_of stems), by_stems x stems)

abbrev pub digits : List ℕ → List (List ℕ)
digits d = map (λ digit. digit ∷ []) d

abbrev pub device_stems : Stems
device_stems =
    (codes "aux", [] ∷ []) ∷ (codes "nul", [] ∷ []) ∷ (codes "prn", [] ∷ [])
    ∷ (codes "con", [] ∷ codes "in$" ∷ codes "out$" ∷ [])
    ∷ (codes "com", digits (codes "123456789")) ∷ (codes "lpt", digits (codes "0123456789")) ∷ []

pub device_by_letters : (x : List ℕ)
    → is_device x ≡ list_any (λ stem. are_letters x stem.0 && is_any stem.1 (drop 3 x)) device_stems
unfolding is_device is_device_form devices lower_byte is_small
device_by_letters x = by_stems x device_stems refl

-- a name that begins otherwise than with one of these words
pub device_unlettered : (x : List ℕ) → list_any (λ stem. are_letters x stem.0) device_stems ≡ false
    → is_device x ≡ false
device_unlettered x none = grind (arith, device_by_letters)

pub device_short : (x : List ℕ) → length x < 3 → is_device x ≡ false
unfolding are_letters
device_short x short = grind (arith, common_steps, device_by_letters)

pub ruleset by_letters = (take_all, length-drop, none_left, or-false, device_by_letters, device_short)

-- no word has the letters where the tables have no bit for it
no_word : (x : List ℕ) (l m n : ℕ) → is_word (l ∷ m ∷ n ∷ []) ≡ true → bit_and (bits_of x) DEVICES ≡ 0
    → 1 ≤ bit_and (bits_of (l ∷ m ∷ n ∷ [])) DEVICES → are_letters x (l ∷ m ∷ n ∷ []) ≡ false
unfolding are_letters is_small
no_word x l m n is none some = grind (arith, nat_tests)

pub no_stem : (x : List ℕ) → bit_and (bits_of x) DEVICES ≡ 0 → is_device x ≡ false
unfolding bits is_small
no_stem x none = grind (arith, nat_tests, device_by_letters, no_word)

-- without bits no front of `.git`
low_bits : (b l : ℕ) → lower_byte b ≡ l → b % 32 ≡ l % 32
unfolding lower_byte
low_bits b l e = grind arith

pub front_bits : (x rest : List ℕ) → bits_of x ≡ 0
    → bytes_eq (lower x) (byte "." ∷ byte "g" ∷ byte "i" ∷ rest) ≡ false
unfolding bits
front_bits (a ∷ b ∷ c ∷ x) rest none = grind (arith, nat_tests, low_bits)
front_bits _ rest none = grind arith

pub same_length : (x word : List ℕ) → bytes_eq (lower x) word ≡ true → length x ≡ length word
same_length x word e = grind (arith, bytes_eq-Decides, length-map)

-- what the tables say of a device, of `.git` and of `.gitmodules`
pub ruleset special_bits = (nat_tests, device_short, no_stem, front_bits, same_length)

digit_first : (x set : List ℕ) → list_all is_digit set ≡ true
    → is_any (digits set) x ≡ (list_any (eqb (get_or x 0 0)) set && is_empty (device_form (drop 1 x)))
unfolding lower_byte
digit_first x [] are = grind arith
digit_first x (d ∷ set) are = grind (arith, in_front, digit_first x set)

pub ends_in_digit : (x : List ℕ)
    → is_any (digits (codes "0123456789")) x ≡ (nat_le (byte "0") (get_or x 0 0)
    && nat_le (get_or x 0 0) (byte "9") && is_empty (device_form (drop 1 x)))
ends_in_digit x = grind (arith, nat_tests, digit_first x (codes "0123456789") refl)

pub ends_in_nonzero_digit : (x : List ℕ)
    → is_any (digits (codes "123456789")) x ≡ (nat_le (byte "1") (get_or x 0 0)
    && nat_le (get_or x 0 0) (byte "9") && is_empty (device_form (drop 1 x)))
ends_in_nonzero_digit x = grind (arith, nat_tests, digit_first x (codes "123456789") refl)
