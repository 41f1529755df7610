-- Pieces and joined texts: each gives the other back.
use Rattle.gix_validate.proofs.Common.{◌≡◌, ℕ, ◌-◌, ◌<◌, true, false, List, [], ◌∷◌, ◌++◌, length}
use Rattle.gix_validate.proofs.Common.{refl, arith, length-append, append_assoc, take-append-add}
use Rattle.gix_validate.proofs.Common.{list_all, byte, nat_tests}
use Rattle.gix_validate.proofs.Sanitizing.MendedPieces.{dash_last-good, dash_last-apart}
use Rattle.gix_validate.proofs.Sanitizing.MendedPieces.{is_good_piece-empty}
use Rattle.gix_validate.specs.Bytes.{is_empty}
use Rattle.gix_validate.specs.Pieces.{joined, has_no_slash}
use Rattle.gix_validate.specs.Tag.{is_good_piece}
use Rattle.gix_validate.specs.Sanitized.{dash_last, dash_last_of}

-- Good pieces stay good with a dash for the last byte of the last of them.
pub dash_last_of-good : (ps : List (List ℕ)) → list_all is_good_piece ps ≡ true
    → list_all is_good_piece (dash_last_of ps) ≡ true
dash_last_of-good [] h = refl
dash_last_of-good (p ∷ ps) h = grind (arith, dash_last-good, dash_last_of-good ps)

pub dash_last_of-apart : (ps : List (List ℕ)) → list_all has_no_slash ps ≡ true
    → list_all has_no_slash (dash_last_of ps) ≡ true
dash_last_of-apart [] h = refl
dash_last_of-apart (p ∷ ps) h = grind (arith, dash_last-apart, dash_last_of-apart ps)

pub length-dash_last_of : (ps : List (List ℕ)) → length (dash_last_of ps) ≡ length ps
length-dash_last_of [] = refl
length-dash_last_of (p ∷ ps) = grind (arith, length-dash_last_of ps)

-- a text with more in front
dash_after : (s t : List ℕ) → 0 < length t → dash_last (s ++ t) ≡ s ++ dash_last t
dash_after s t some = grind (arith, length-append s t, take-append-add s t (length t - 1), append_assoc)

joined_some : (p : List ℕ) (ps : List (List ℕ)) → is_empty p ≡ false → 0 < length (joined (p ∷ ps))
joined_some p ps h = grind (arith, nat_tests)

pub good_nonempty : (p : List ℕ) → is_good_piece p ≡ true → is_empty p ≡ false
good_nonempty p h = grind (arith, is_good_piece-empty)

pub dash_last_of-cons : (q : List ℕ) (ps : List (List ℕ))
    → (r : List ℕ) × (rs : List (List ℕ)) × (dash_last_of (q ∷ ps) ≡ r ∷ rs)
dash_last_of-cons q [] = (_, _, refl)
dash_last_of-cons q (p ∷ ps) = (_, _, refl)

-- Joined, they are the joined text with a dash for its last byte.
pub joined-dash_last_of : (p : List ℕ) (ps : List (List ℕ)) → list_all is_good_piece (p ∷ ps) ≡ true
    → joined (dash_last_of (p ∷ ps)) ≡ dash_last (joined (p ∷ ps))
joined-dash_last_of p [] h = refl
joined-dash_last_of p (q ∷ ps) h =
    let t = joined (q ∷ ps) in
    grind (
      arith,
      good_nonempty,
      joined_some q ps,
      dash_after p (byte "/" ∷ t),
      dash_after (byte "/" ∷ []) t,
      joined-dash_last_of q ps,
    )
