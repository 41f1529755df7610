-- The laws of the sanitised text.
use Rattle.gix_validate.proofs.Common.{◌≡◌, ◌≢◌, ◌⊎◌, ℕ, ◌≤◌, max, true, false, List, [], ◌∷◌}
use Rattle.gix_validate.proofs.Common.{length, map, refl, sym, ap, ◌∙◌, arith, length-append}
use Rattle.gix_validate.proofs.Common.{length-take, codes, not, ◌↔◌, IsTrue, filter, list_all, byte}
use Rattle.gix_validate.proofs.Common.{bytes_eq, and_from, not_from_false, cond_both}
use Rattle.gix_validate.proofs.Common.{false_from_ne_true, same_from_push, length-map}
use Rattle.gix_validate.proofs.Common.{nil_from_length, join_with_byte-slice_split}
use Rattle.gix_validate.proofs.Common.{bytes_eq-Decides, common_steps, nat_tests}
use Rattle.gix_validate.proofs.Texts.Endings.{ends-false}
use Rattle.gix_validate.proofs.Texts.Pieces.{pieces_apart, pieces-joined}
use Rattle.gix_validate.proofs.Sanitizing.MendedPieces.{mend_good, mend-own, mend_apart}
use Rattle.gix_validate.proofs.Sanitizing.MendedPieces.{length-mend, is_good_piece-empty}
use Rattle.gix_validate.proofs.Texts.Joined.{dash_last_of-good, dash_last_of-apart}
use Rattle.gix_validate.proofs.Texts.Joined.{length-dash_last_of, dash_last_of-cons}
use Rattle.gix_validate.proofs.Texts.Joined.{joined-dash_last_of, good_nonempty}
use Rattle.gix_validate.specs.Sanitized.{cleaned, cut, nonempty_pieces, mended_pieces, dash_last}
use Rattle.gix_validate.specs.Sanitized.{dash_last_of, repaired_dot, repaired_at, repaired_nothing}
use Rattle.gix_validate.specs.Sanitized.{sanitized, KeepsGood, IsPiecewise}
use Rattle.gix_validate.specs.Reference.{is_partial_name}
use Rattle.gix_validate.specs.Bytes.{is_bad, is_empty, ends}
use Rattle.gix_validate.specs.Pieces.{pieces, joined, has_no_slash}
use Rattle.gix_validate.specs.Tag.{is_good_piece, is_tag_name}

-- what becomes of these pieces
abbrev pub mended_of : List (List ℕ) → List (List ℕ)
mended_of ps = map (λ p. cut (cleaned p)) (filter (λ p. not (is_empty p)) ps)

mended_of-good : (ps : List (List ℕ)) → list_all is_good_piece (mended_of ps) ≡ true
mended_of-good [] = refl
mended_of-good (p ∷ ps) = grind (arith, mend_good, mended_of-good ps)

mended_of-apart : (ps : List (List ℕ)) → list_all has_no_slash ps ≡ true
    → list_all has_no_slash (mended_of ps) ≡ true
mended_of-apart [] h = refl
mended_of-apart (p ∷ ps) h = grind (arith, mend_apart p, mended_of-apart ps)

mended_of-own : (ps : List (List ℕ)) → list_all is_good_piece ps ≡ true → mended_of ps ≡ ps
mended_of-own [] h = grind arith
mended_of-own (p ∷ ps) h = grind (arith, good_nonempty, mend-own, mended_of-own ps)

-- The repaired text of good pieces: a partial name, whose pieces are these, save for a dash at the end.
record Repaired (ms : List (List ℕ)) (t : List ℕ) : Type 0 where
  good : list_all is_good_piece (pieces t) ≡ true
  no_dot : ends t (codes ".") ≡ false
  no_at : bytes_eq t (codes "@") ≡ false
  from : (pieces t ≡ ms) ⊎ (pieces t ≡ dash_last_of ms)

repaired_from : (ms : List (List ℕ)) (j : List ℕ) → pieces j ≡ ms → pieces (dash_last j) ≡ dash_last_of ms
    → list_all is_good_piece ms ≡ true → is_empty j ≡ false
    → Repaired ms (repaired_nothing (repaired_at (repaired_dot j)))
repaired_from ms j split dashed good some =
    grind
    (arith, common_steps, dash_last_of-good, bytes_eq-Decides, ends-false, same_from_push, false_from_ne_true)

repaired_pieces : (ms : List (List ℕ)) → ms ≢ []
    → list_all is_good_piece ms ≡ true → list_all has_no_slash ms ≡ true
    → Repaired ms (repaired_nothing (repaired_at (repaired_dot (joined ms))))
repaired_pieces [] some good apart = absurd (some refl)
repaired_pieces (p ∷ ps) some good apart =
    let split = pieces-joined (p ∷ ps) some apart in
    let dashed : pieces (dash_last (joined (p ∷ ps))) ≡ dash_last_of (p ∷ ps) =
    let dashes = pieces-joined (dash_last_of (p ∷ ps))
    (λ none. grind (arith, dash_last_of-cons p ps)) (dash_last_of-apart (p ∷ ps) apart) in
    grind (arith, joined-dash_last_of p ps good) in
    repaired_from (p ∷ ps) (joined (p ∷ ps)) split dashed good (grind (arith, is_good_piece-empty))

sanitized_none : (x : List ℕ) → nonempty_pieces x ≡ [] → sanitized x ≡ codes "-"
unfolding sanitized
sanitized_none x none =
    ap (λ v. repaired_nothing (repaired_at (repaired_dot (joined (map (λ p. cut (cleaned p)) v))))) none

sanitized_some : (x : List ℕ) → nonempty_pieces x ≢ [] → Repaired (mended_pieces x) (sanitized x)
unfolding sanitized
sanitized_some x some =
    repaired_pieces (mended_pieces x)
    (λ none. some (nil_from_length (nonempty_pieces x)
    (grind (arith, length-map (nonempty_pieces x) (λ p. cut (cleaned p))))))
    (mended_of-good (pieces x)) (mended_of-apart (pieces x) (pieces_apart x))

-- The sanitised text is a partial name.
pub sanitized-partial : (x : List ℕ) → is_partial_name (sanitized x) ≡ true
unfolding is_partial_name is_tag_name is_good_piece is_bad
sanitized-partial x = grind (arith, nat_tests, sanitized_none, sanitized_some, and_from, not_from_false)

-- A partial name stays as it is.
pub sanitized-own : (x : List ℕ) → is_partial_name x ≡ true → sanitized x ≡ x
unfolding is_partial_name is_tag_name sanitized
sanitized-own x h = grind (arith, mended_of-own, join_with_byte-slice_split (byte "/") x)

pub sanitized-unchanged : (x : List ℕ) → (sanitized x ≡ x) ↔ IsTrue (is_partial_name x)
sanitized-unchanged x = (λ e. ap is_partial_name (sym e) ∙ sanitized-partial x, sanitized-own x)

-- Sanitising again changes nothing.
pub sanitized-sanitized : (x : List ℕ) → sanitized (sanitized x) ≡ sanitized x
sanitized-sanitized x = sanitized-own (sanitized x) (sanitized-partial x)

none_empty_from : (ps : List (List ℕ)) → list_all is_good_piece ps ≡ true
    → list_all (λ p. not (is_empty p)) ps ≡ true
none_empty_from [] h = refl
none_empty_from (p ∷ ps) h = grind (arith, good_nonempty p, none_empty_from ps)

keeps : (ps : List (List ℕ))
    → KeepsGood ps (map (λ p. cut (cleaned p)) ps)
    × KeepsGood ps (dash_last_of (map (λ p. cut (cleaned p)) ps))
keeps (p ∷ q ∷ ps) = grind (arith, mend-own, keeps (q ∷ ps))
keeps _ = grind (arith, mend-own)

-- The text is made piece by piece.
pub sanitized-piecewise : (x : List ℕ) → IsPiecewise x (sanitized x)
sanitized-piecewise x = record {
  some = λ some. (let r = sanitized_some x some in record {
    as_many = grind (arith, length-dash_last_of, length-map (nonempty_pieces x) (λ p. cut (cleaned p)));
    none_empty = none_empty_from (pieces (sanitized x)) r.good;
    kept = grind (arith, r.from, keeps (nonempty_pieces x));
    mended = r.from;
  });
  none = sanitized_none x;
}

length-joined_mended : (ps : List (List ℕ)) → length (joined (mended_of ps)) ≤ length (joined ps)
length-joined_mended [] = omega arith
length-joined_mended ([] ∷ ps) = grind (arith, length-joined_mended ps)
length-joined_mended ((b ∷ p) ∷ []) = length-mend (b ∷ p)
length-joined_mended ((b ∷ p) ∷ q ∷ ps) =
    grind (arith, length-append, length-mend (b ∷ p), length-joined_mended (q ∷ ps))

-- The text has a byte, and is no longer than the input where that has one.
pub length-sanitized : (x : List ℕ) → (1 ≤ length (sanitized x)) × (length (sanitized x) ≤ max 1 (length x))
unfolding sanitized
length-sanitized x = grind (
  arith,
  nat_tests,
  length-joined_mended,
  join_with_byte-slice_split (byte "/") x,
  cond_both,
  length-append,
  length-take,
)

-- what the repair takes from above
pub ruleset sanitized_laws =
    (sanitized-partial, sanitized-unchanged, sanitized-sanitized, sanitized-piecewise, length-sanitized)
