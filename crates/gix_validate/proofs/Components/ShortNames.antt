-- NTFS forms that stand for `.gitmodules`: all but `.gitmodules` itself have eight plain bytes.
use Rattle.gix_validate.proofs.Common.{◌≡◌, ℕ, suc, ◌+◌, ◌<◌, ◌≤◌, Bool, true, false, ◌&&◌, ◌||◌}
use Rattle.gix_validate.proofs.Common.{eqb, List, [], ◌∷◌, ◌++◌, length, take, drop, get_or, refl}
use Rattle.gix_validate.proofs.Common.{sym, ap, ◌∙◌, arith, codes, ◌⊎◌, inl, inr, ◌==◌, nat_le}
use Rattle.gix_validate.proofs.Common.{slice_index, list_all, list_any, range_with_len, byte}
use Rattle.gix_validate.proofs.Common.{bytes_eq, take-map, drop-map, length-map, get_or-drop}
use Rattle.gix_validate.proofs.Common.{drop-drop, take-append-drop, length-take-le, at_drop_more}
use Rattle.gix_validate.proofs.Common.{list_all-append, bytes_eq-Decides, or_cases, and_parts}
use Rattle.gix_validate.proofs.Common.{false≢true, nat_tests, common_steps}
use Rattle.gix_validate.proofs.Texts.LetterCase.{SkipsCase, test-lower_byte}
use Rattle.gix_validate.proofs.Texts.Words.{stays_in_form}
use Rattle.gix_validate.proofs.Components.NtfsForm.{ntfs_form-at, ntfs_form-none, dot_stays}
use Rattle.gix_validate.proofs.Components.NtfsForm.{ntfs_other}
use Rattle.std.proofs.lemmas.List.FromFn.{get_or-range_with_len}
use Rattle.gix_validate.specs.Bytes.{is_empty, lower, lower_byte}
use Rattle.gix_validate.specs.Ntfs.{ntfs_form, is_modules_form, is_short_name, is_digit}

bool_same : (s t : Bool) → (s ≡ true → t ≡ true) → (t ≡ true → s ≡ true) → s ≡ t
bool_same s t forward back = grind arith

digits_are_plain : (x : List ℕ) → list_all is_digit x ≡ true → list_all stays_in_form x ≡ true
digits_are_plain [] digits = grind arith
digits_are_plain (b ∷ x) digits = grind (arith, digits_are_plain x)

list_all-parts : (p : ℕ → Bool) (k : ℕ) (x : List ℕ)
    → list_all p x ≡ (list_all p (take k x) && list_all p (drop k x))
list_all-parts p k x = ap (list_all p) (sym (take-append-drop k x)) ∙ list_all-append p (take k x) (drop k x)

-- a tilde, a digit from 1 to 9, and digits
abbrev pub is_tilde_number : List ℕ → Bool
is_tilde_number x =
    slice_index x 0 == byte "~"
    && (nat_le (byte "1") (slice_index x 1) && nat_le (slice_index x 1) (byte "9"))
    && list_all is_digit (drop 2 x)

number_is_plain : (x : List ℕ) → is_tilde_number x ≡ true → list_all stays_in_form x ≡ true
number_is_plain x number = grind (arith, nat_tests, digits_are_plain)

short_by_parts : (k : ℕ) (f : List ℕ)
    → is_short_name k f
    ≡ (length f == 8 && (bytes_eq (take k f) (take k (codes "gi7eba")) && is_tilde_number (drop k f)))
short_by_parts k f = rw (get_or-drop k f 0 0, get_or-drop k f 1 0, drop-drop 2 k f) (grind arith)

short_is_plain : (k : ℕ) (w : List ℕ) → is_short_name k w ≡ true
    → (length w ≡ 8) × (list_all stays_in_form w ≡ true)
short_is_plain k w short =
    let letters = list_all-parts stays_in_form k (codes "gi7eba") in
    grind (
      arith,
      bytes_eq-Decides,
      short_by_parts k w,
      list_all-parts stays_in_form k w,
      number_is_plain (drop k w),
    )

any_gives : {P : Type 0} (p : ℕ → Bool) → ((k : ℕ) → p k ≡ true → P)
    → (ks : List ℕ) → list_any p ks ≡ true → P
any_gives p gives [] any = absurd (false≢true any)
any_gives p gives (k ∷ ks) any =
    elim (or_cases (p k) _ any) [ inl at ↦ gives k at | inr rest ↦ any_gives p gives ks rest ]

numbered_is_plain : (w : List ℕ)
    → list_any (λ digit. bytes_eq w (codes "gitmod~" ++ digit ∷ [])) (codes "1234") ≡ true
    → (length w ≡ 8) × (list_all stays_in_form w ≡ true)
numbered_is_plain w any = grind (arith, bytes_eq-Decides)

not_eleven : (w : List ℕ) → length w ≡ 8 → bytes_eq w (codes ".gitmodules") ≡ false
not_eleven w eight = grind (arith, bytes_eq-Decides)

other_is_plain : (w : List ℕ) → bytes_eq w (codes ".gitmodules") ≡ false → is_modules_form w ≡ true
    → (length w ≡ 8) × (list_all stays_in_form w ≡ true)
unfolding is_modules_form
other_is_plain w other modules =
    elim (or_cases _ (list_any (λ k. is_short_name k w) (range_with_len 0 7)) modules) [
      | inl numbered ↦ numbered_is_plain w (rw other at numbered)
      | inr short ↦ any_gives (λ k. is_short_name k w) (λ k. short_is_plain k w) (range_with_len 0 7) short
    ]

front_further : (b : ℕ) (x : List ℕ) → ntfs_form x ≡ take (length (ntfs_form x)) x
    → is_empty (ntfs_form (drop (length (ntfs_form x)) x)) ≡ true
    → (ntfs_form (b ∷ x) ≡ take (length (ntfs_form (b ∷ x))) (b ∷ x))
    × (is_empty (ntfs_form (drop (length (ntfs_form (b ∷ x))) (b ∷ x))) ≡ true)
front_further b x is none = grind (arith, ntfs_form-at)

-- the form is a front of the text, and nothing of it is in what follows that front
form_is_front : (x : List ℕ)
    → (ntfs_form x ≡ take (length (ntfs_form x)) x)
    × (is_empty (ntfs_form (drop (length (ntfs_form x)) x)) ≡ true)
form_is_front [] = grind (arith, ntfs_form-none)
form_is_front (b ∷ x) = let front = form_is_front x in front_further b x front.0 front.1

-- plain bytes after which nothing of the form is left are the form
plain_front : (n : ℕ) (x : List ℕ) → list_all stays_in_form (take n x) ≡ true
    → is_empty (ntfs_form (drop n x)) ≡ true → ntfs_form x ≡ take n x
plain_front (suc n) (b ∷ x) plain none = grind (arith, ntfs_form-at, plain_front n x)
plain_front _ _ plain none = grind arith

list_all-lower : (p : ℕ → Bool) → SkipsCase p → (x : List ℕ) → list_all p (lower x) ≡ list_all p x
list_all-lower p skips [] = refl
list_all-lower p skips (b ∷ x) = rw (test-lower_byte p skips b, list_all-lower p skips x) refl

eight_long : (x : List ℕ) → eqb (lower_byte (get_or x 0 0)) (byte ".") ≡ false
    → is_modules_form (lower (ntfs_form x)) ≡ true → length (ntfs_form x) ≡ 8
eight_long x other modules = grind (arith, common_steps, other_is_plain, ntfs_form-none, ntfs_other)

-- A name that begins with no dot stands for `.gitmodules` if and only if its first eight bytes do,
-- and the form ends after them.
pub modules_elsewhere : (x : List ℕ) → eqb (lower_byte (get_or x 0 0)) (byte ".") ≡ false → 8 ≤ length x
    → is_modules_form (lower (ntfs_form x))
    ≡ (is_modules_form (lower (take 8 x)) && is_empty (ntfs_form (drop 8 x)))
modules_elsewhere x other long =
    let eight : length (lower (take 8 x)) ≡ 8 = length-map (take 8 x) lower_byte ∙ length-take-le 8 x long in
    bool_same _ _ (λ modules. grind (arith, eight_long, form_is_front x)) (λ both.
    let parts = and_parts (is_modules_form (lower (take 8 x))) (is_empty (ntfs_form (drop 8 x))) both in
    let plain = (other_is_plain (lower (take 8 x)) (not_eleven _ eight) parts.0).1 in
    ap (λ f. is_modules_form (lower f))
    (plain_front 8 x (sym (list_all-lower stays_in_form refl (take 8 x)) ∙ plain) parts.1) ∙ parts.0)

-- With fewer bytes it never does.
pub modules_too_short : (x : List ℕ) → eqb (lower_byte (get_or x 0 0)) (byte ".") ≡ false → length x < 8
    → is_modules_form (lower (ntfs_form x)) ≡ false
modules_too_short x other short = grind (arith, eight_long, form_is_front)

whole_is_modules : (w : List ℕ) → bytes_eq w (codes ".gitmodules") ≡ true → is_modules_form w ≡ true
unfolding is_modules_form
whole_is_modules w whole = rw whole refl

dot_or_none : (x : List ℕ)
    → (lower (ntfs_form (byte "." ∷ x)) ≡ []) ⊎ (get_or (lower (ntfs_form (byte "." ∷ x))) 0 0 ≡ byte ".")
unfolding lower_byte
dot_or_none x = grind (arith, ntfs_form-at)

-- A name that begins with a dot does if and only if the form of what follows is `gitmodules`.
pub modules_at_dot : (x : List ℕ) → get_or x 0 0 ≡ byte "."
    → is_modules_form (lower (ntfs_form x)) ≡ bytes_eq (lower (ntfs_form (drop 1 x))) (codes "gitmodules")
modules_at_dot x at =
    grind (arith, nat_tests, common_steps, other_is_plain, whole_is_modules, dot_or_none, dot_stays)

number_lower : (x : List ℕ) → is_tilde_number (lower x) ≡ is_tilde_number x
unfolding lower_byte
number_lower x = grind (arith, list_all-lower is_digit refl (drop 2 x))

-- A short name in any letter case by its parts: so many letters of `gi7eba`, and a tilde with a number.
pub hashed_name : (k : ℕ) (w : List ℕ) → length w ≡ 8 → k < 7
    → is_short_name k (lower w)
    ≡ (bytes_eq (lower (take k w)) (lower (take k (codes "gi7eba"))) && is_tilde_number (drop k w))
unfolding lower_byte
hashed_name k w eight few =
    let letters = take-map lower_byte k (codes "gi7eba") in
    rw (
      short_by_parts k (lower w),
      length-map w lower_byte,
      eight,
      take-map lower_byte k w,
      drop-map lower_byte k w,
      number_lower (drop k w),
      ← letters,
    ) refl

-- Eight bytes stand for `.gitmodules` if and only if they are one of its short names, of either kind.
pub eight_is_short : (w : List ℕ) → length w ≡ 8
    → is_modules_form (lower w)
    ≡ (list_any (λ digit. bytes_eq (lower w) (codes "gitmod~" ++ digit ∷ [])) (codes "1234")
    || list_any (λ k. is_short_name k (lower w)) (range_with_len 0 7))
unfolding is_modules_form
eight_is_short w eight = grind (arith, length-map, not_eleven)

-- a short name with so many letters or more
unfoldable pub is_short_from : ℕ → List ℕ → Bool
is_short_from k w = list_any (λ j. is_short_name j w) (drop k (range_with_len 0 7))

-- With no letter or more it is any of the seven kinds.
pub short_from_none : (w : List ℕ)
    → is_short_from 0 w ≡ list_any (λ j. is_short_name j w) (range_with_len 0 7)
unfolding is_short_from
short_from_none w = refl

-- With k letters or more: with k letters, or with more.
pub short_step : (k : ℕ) (w : List ℕ) → k < 7
    → is_short_from k w ≡ (is_short_name k w || is_short_from (k + 1) w)
unfolding is_short_from
short_step k w few =
    let at : get_or (range_with_len 0 7) k 0 ≡ k = omega (arith, get_or-range_with_len 0 7 k 0 few) in
    at_drop_more (list_any (λ j. is_short_name j w)) (range_with_len 0 7) k 0 few
    ∙ ap (λ j. is_short_name j w || is_short_from (k + 1) w) at

-- No short name has seven letters.
pub short_end : (k : ℕ) (w : List ℕ) → 7 ≤ k → is_short_from k w ≡ false
unfolding is_short_from
short_end k w past = grind (arith, common_steps)

-- what stands for `.gitmodules`, by its first byte
pub ruleset modules_by_first = (common_steps, modules_at_dot, modules_elsewhere, modules_too_short)

-- a name that is found with k letters, and one that isn't
pub short_found : (k : ℕ) (w : List ℕ) → k < 7 → is_short_from 0 w ≡ is_short_from k w
    → is_short_name k w ≡ true → list_any (λ j. is_short_name j w) (range_with_len 0 7) ≡ true
short_found k w few upto at =
    sym (short_from_none w) ∙ upto ∙ short_step k w few ∙ ap (λ b. b || is_short_from (k + 1) w) at

pub short_passed : (k : ℕ) (w : List ℕ) → k < 7 → is_short_from 0 w ≡ is_short_from k w
    → is_short_name k w ≡ false → is_short_from 0 w ≡ is_short_from (k + 1) w
short_passed k w few upto other =
    upto ∙ short_step k w few ∙ ap (λ b. b || is_short_from (k + 1) w) other
