-- NTFS forms: which text ends one, and which names have a given form.
use Rattle.gix_validate.proofs.Common.{◌≡◌, ℕ, zero, suc, Bool, true, false, ◌&&◌, cond, eqb, List}
use Rattle.gix_validate.proofs.Common.{[], ◌∷◌, length, drop, get_or, refl, arith, codes, IsTrue}
use Rattle.gix_validate.proofs.Common.{not, ◌==◌, nat_tests, list_all, byte, bytes_eq}
use Rattle.gix_validate.specs.Private.Scan.{IsFirst, NoneBelow, at_both}
use Rattle.gix_validate.proofs.Components.Forms.{form_at}
use Rattle.gix_validate.proofs.Texts.Words.{stays_in_form, ntfs_keeps, form_word}
use Rattle.gix_validate.specs.Bytes.{is_empty, is_among, lower, lower_byte, begins}
use Rattle.gix_validate.specs.Ntfs.{ntfs_form, is_git_form}

abbrev pub is_ntfs_cut : ℕ → Bool
is_ntfs_cut b = is_among (codes ":\\") b

abbrev pub is_ntfs_trimmed : ℕ → Bool
is_ntfs_trimmed b = is_among (codes " .") b

pub ntfs_form-none : is_empty (ntfs_form []) ≡ true
unfolding ntfs_form
ntfs_form-none = refl

pub ntfs_form-at : (b : ℕ) (x : List ℕ)
    → ntfs_form (b ∷ x)
    ≡ cond (is_ntfs_cut b) [] (cond (is_ntfs_trimmed b && is_empty (ntfs_form x)) [] (b ∷ ntfs_form x))
unfolding ntfs_form
ntfs_form-at b x = form_at is_ntfs_cut is_ntfs_trimmed b x

-- a byte that is neither a space nor a dot
abbrev is_kept : ℕ → ℕ → Bool
is_kept a b = not (a == byte " ") && not (b == byte ".")

-- Spaces and dots in front leave it to the first other byte whether there is a form.
pub ntfs_ended : (x : List ℕ) (i : ℕ) → IsFirst (at_both is_kept x x) (length x) i
    → is_empty (ntfs_form x) ≡ is_ntfs_cut (get_or x i 0)
ntfs_ended [] i first = grind (arith, first.within)
ntfs_ended (b ∷ x) zero first = grind (arith, nat_tests, ntfs_form-at, first.here)
ntfs_ended (b ∷ x) (suc i) first =
    let later : IsFirst (at_both is_kept x x) (length x) i =
    record {
      within = omega (arith, first.within);
      here = first.here;
      none = λ k small. first.none (suc k) (omega (arith, small));
    } in
    grind (arith, nat_tests, ntfs_form-at, first.none 0, ntfs_ended x i later)

pub ntfs_all_trimmed : (x : List ℕ) → NoneBelow (at_both is_kept x x) (length x)
    → is_empty (ntfs_form x) ≡ true
ntfs_all_trimmed [] none = ntfs_form-none
ntfs_all_trimmed (b ∷ x) none = grind (
  arith,
  nat_tests,
  ntfs_form-at,
  none 0,
  ntfs_all_trimmed x (λ k small. none (suc k) (omega (arith, small))),
)

pub ntfs_word : (word x : List ℕ) → IsTrue (list_all stays_in_form word)
    → bytes_eq (lower (ntfs_form x)) (lower word)
    ≡ (begins (lower x) (lower word) && is_empty (ntfs_form (drop (length word) x)))
unfolding ntfs_form
ntfs_word = form_word is_ntfs_cut is_ntfs_trimmed ntfs_keeps

-- a dot in front stays where something of the form follows it
pub dot_stays : (x : List ℕ) (w : ℕ) (ws : List ℕ)
    → bytes_eq (lower (ntfs_form (byte "." ∷ x))) (byte "." ∷ w ∷ ws)
    ≡ bytes_eq (lower (ntfs_form x)) (w ∷ ws)
unfolding lower_byte
dot_stays x w ws = grind (arith, nat_tests, ntfs_form-at)

-- a form that begins otherwise than with a dot or the word's first letter
pub ntfs_other : (b : ℕ) (x : List ℕ) (w : ℕ) (ws : List ℕ) → eqb (lower_byte b) w ≡ false
    → bytes_eq (lower (ntfs_form (b ∷ x))) (w ∷ ws) ≡ false
ntfs_other b x w ws other = grind (arith, ntfs_form-at)

-- a form that stands for `.git` begins with a dot or with a `g`
pub git_by_first : (x : List ℕ) → is_git_form (lower (ntfs_form x))
    ≡ cond (eqb (get_or x 0 0) (byte ".")) (bytes_eq (lower (ntfs_form (drop 1 x))) (codes "git"))
    (eqb (lower_byte (get_or x 0 0)) (byte "g") && bytes_eq (lower (ntfs_form x)) (codes "git~1"))
unfolding is_git_form lower_byte
git_by_first x = grind (arith, nat_tests, ntfs_form-none, ntfs_form-at)
