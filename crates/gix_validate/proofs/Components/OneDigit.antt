-- What follows `com` and `lpt`: a digit from some digit on, after which the form adds nothing.
use Rattle.gix_validate.proofs.Common.{◌≡◌, ℕ, ◌-◌, ◌<◌, ◌≤◌, Bool, false, ◌&&◌, nat_le, List}
use Rattle.gix_validate.proofs.Common.{length, take, drop, get_or, refl, ap, ◌∙◌, arith, byte}
use Rattle.gix_validate.proofs.Common.{take_all, length-drop, get_or_past}
use Rattle.std.proofs.lemmas.Bool.{le-leb, lt-leb, and_right}
use Rattle.gix_validate.specs.Bytes.{is_empty}
use Rattle.gix_validate.specs.Windows.{device_form}

abbrev pub is_one_digit : ℕ → List ℕ → Bool
is_one_digit low x =
    nat_le low (get_or x 0 0) && nat_le (get_or x 0 0) (byte "9") && is_empty (device_form (drop 1 x))

pub digit_then : (low : ℕ) (x : List ℕ) (r : Bool) → low ≤ get_or x 0 0 → get_or x 0 0 ≤ byte "9"
    → r ≡ is_empty (device_form (take (length x - 1) (drop 1 x))) → r ≡ is_one_digit low x
digit_then low x r above below is =
    let whole = take_all (length x - 1) (drop 1 x) (omega (arith, length-drop 1 x)) in
    rw (le-leb low _ above, le-leb _ (byte "9") below) (is ∙ ap (λ y. is_empty (device_form y)) whole)

pub no_digit_below : (low : ℕ) (x : List ℕ) → get_or x 0 0 < low → is_one_digit low x ≡ false
no_digit_below low x below = rw (lt-leb low _ below) refl

pub no_digit_above : (low : ℕ) (x : List ℕ) → byte "9" < get_or x 0 0 → is_one_digit low x ≡ false
no_digit_above low x above =
    rw (and_right (nat_le low (get_or x 0 0)) (nat_le (get_or x 0 0) (byte "9")) (lt-leb _ _ above)) refl

pub no_digit_past : (low : ℕ) (x : List ℕ) → 0 < low → length x < 1 → is_one_digit low x ≡ false
no_digit_past low x some short = no_digit_below low x (rw (get_or_past x 0 0 (omega arith)) some)
