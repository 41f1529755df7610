-- How a text ends: as an equation, by its bytes, and by its last piece.
use Rattle.gix_validate.proofs.Common.{◌≡◌, ◌≢◌, ℕ, ◌-◌, ◌<◌, ◌≤◌, true, false, cond, eqb, List, []}
use Rattle.gix_validate.proofs.Common.{◌∷◌, ◌++◌, length, take, get_or, refl, ◌∙◌, arith}
use Rattle.gix_validate.proofs.Common.{length-append, bytes_eq-Decides, take-append-drop, drop_at}
use Rattle.gix_validate.proofs.Common.{list_all-append, false_from_ne_true, codes, byte}
use Rattle.gix_validate.proofs.Common.{common_steps, nat_tests}
use Rattle.gix_validate.specs.Bytes.{is_empty, ends}
use Rattle.gix_validate.specs.Pieces.{is_slash, has_no_slash}

pub ends-true : (x back : List ℕ) → ends x back ≡ true → x ≡ take (length x - length back) x ++ back
ends-true x back h = grind (arith, bytes_eq-Decides, take-append-drop)

pub ends-false : (x back : List ℕ) → ((f : List ℕ) → x ≢ f ++ back) → ends x back ≡ false
ends-false x back other =
    false_from_ne_true (ends x back) (λ h. other (take (length x - length back) x) (ends-true x back h))

pub ends-no : (x back : List ℕ) → ends x back ≡ false → (f : List ℕ) → x ≢ f ++ back
ends-no x back h f e = grind (arith, length-append, bytes_eq-Decides, drop_at)

-- the last byte, read
pub ends_read : (x : List ℕ) (c : ℕ) → 0 < length x → ends x (c ∷ []) ≡ eqb (get_or x (length x - 1) 0) c
ends_read x c some = grind (arith, common_steps)

-- the offsets of the bytes of `.lock`
pub lock_read : (x : List ℕ) → ends x (codes ".lock") ≡ true
    → (5 ≤ length x) × (get_or x (length x - 5) 0 ≡ byte ".")
    × (get_or x (length x - 4) 0 ≡ byte "l") × (get_or x (length x - 1) 0 ≡ byte "k")
lock_read x h =
    let e : x ≡ take (length x - 5) x ++ codes ".lock" = ends-true x (codes ".lock") h in
    grind (arith, common_steps)

-- what follows the last slash, or the whole text where there is none
unfoldable pub last_piece : List ℕ → List ℕ
last_piece [] = []
last_piece (b ∷ x) = cond (has_no_slash x) (cond (is_slash b) x (b ∷ x)) (last_piece x)

pub last_piece_push : (y : List ℕ) (b : ℕ)
    → last_piece (y ++ b ∷ []) ≡ cond (is_slash b) [] (last_piece y ++ b ∷ [])
unfolding last_piece
last_piece_push [] b = grind arith
last_piece_push (c ∷ y) b = grind (arith, list_all-append, last_piece_push y b)

pub last_piece_apart : (y : List ℕ) → has_no_slash (last_piece y) ≡ true
unfolding last_piece
last_piece_apart [] = refl
last_piece_apart (b ∷ y) = grind (arith, last_piece_apart y)

-- where the text is long enough, its first byte has no say in how it ends
pub ends_cons : (f : List ℕ) (b : ℕ) (y : List ℕ) → length f ≤ length y → ends (b ∷ y) f ≡ ends y f
ends_cons f b y h = grind (arith, nat_tests)

ends_after_slash : (f : List ℕ) → has_no_slash f ≡ true → (b : ℕ) (y : List ℕ) → has_no_slash (b ∷ y) ≡ false
    → ends (b ∷ y) f ≡ ends y f
ends_after_slash f apart b y slash = grind (arith, bytes_eq-Decides)

-- A back without a slash is the end of a text where it is the end of its last piece.
pub ends_last_piece : (f : List ℕ) → has_no_slash f ≡ true → (y : List ℕ) → ends (last_piece y) f ≡ ends y f
unfolding last_piece
ends_last_piece f apart [] = refl
ends_last_piece f apart (b ∷ y) = grind (arith, ends_after_slash, ends_last_piece f apart y)

-- In a text that has begun, a slash is last if the last piece is empty.
pub slash_last : (y : List ℕ) → is_empty y ≡ false → ends y (codes "/") ≡ is_empty (last_piece y)
unfolding last_piece
slash_last [] some = grind arith
slash_last (b ∷ []) some = grind arith
slash_last (b ∷ c ∷ y) some =
    ends_cons (codes "/") b (c ∷ y) (omega arith) ∙ grind (arith, slash_last (c ∷ y) refl)
