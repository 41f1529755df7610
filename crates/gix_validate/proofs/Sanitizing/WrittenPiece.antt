-- What was written, and the rest that is not yet read, decide the mended pieces of the whole text.
use Rattle.gix_validate.proofs.Common.{◌≡◌, ℕ, ◌-◌, true, false, cond, List, [], ◌∷◌, ◌++◌, length}
use Rattle.gix_validate.proofs.Common.{take, refl, sym, arith, length-append, append_assoc}
use Rattle.gix_validate.proofs.Common.{append-nil, codes, if◌then◌else◌, Option, Some, None, byte}
use Rattle.gix_validate.proofs.Common.{take_at, nat_tests}
use Rattle.gix_validate.proofs.Sanitizing.MendedPieces.{added, added_by, cleaned_some}
use Rattle.gix_validate.proofs.Sanitizing.MendedPieces.{cleaned-added}
use Rattle.gix_validate.proofs.Sanitizing.LockSuffixes.{is_locks-slash}
use Rattle.gix_validate.proofs.Sanitizing.Laws.{mended_of}
use Rattle.gix_validate.proofs.Texts.Pieces.{joined-push}
use Rattle.gix_validate.specs.Bytes.{is_empty}
use Rattle.gix_validate.specs.Pieces.{is_slash, pieces, joined}
use Rattle.gix_validate.specs.Sanitized.{cut, mended_pieces}

-- the byte before in the piece, if it isn't the slash before the piece
abbrev pub in_piece : ℕ → Option ℕ
in_piece previous = if is_slash previous then None else Some previous

-- texts joined, with a slash after the last one
abbrev slashed : List (List ℕ) → List ℕ
slashed [] = []
slashed (p ∷ ps) = joined (p ∷ ps) ++ codes "/"

-- a piece that leaves something, cut
abbrev kept : List ℕ → List (List ℕ)
kept piece = cond (is_empty piece) [] (cut piece ∷ [])

-- the written text once a piece ends, if the piece has a byte: cut, with a slash after it
abbrev pub closed : List ℕ → ℕ → List ℕ
closed written previous = cond (is_slash previous) written (cut written ++ codes "/")

-- the written text at the end: cut, or else the last slash taken back
abbrev pub finished : List ℕ → ℕ → List ℕ
finished written previous = cond (is_slash previous) (take (length written - 1) written) (cut written)

-- these texts, and after them what becomes of the written piece with the rest of
-- it and of the pieces after it
abbrev mended_from : List (List ℕ) → List ℕ → Option ℕ → List (List ℕ) → List (List ℕ)
mended_from texts piece before [] = texts ++ kept piece
mended_from texts piece before (p ∷ ps) = texts ++ (kept (piece ++ added_by before p) ++ mended_of ps)

-- A slash and what is before it are never cut.
cut-slash : (s p : List ℕ) → cut (s ++ byte "/" ∷ p) ≡ s ++ byte "/" ∷ cut p
unfolding cut
cut-slash [] p = grind (arith, is_locks-slash [] p)
cut-slash (b ∷ s) p = grind (arith, is_locks-slash (b ∷ s) p, cut-slash s p)

cut-slashed : (texts : List (List ℕ)) (piece : List ℕ)
    → cut (slashed texts ++ piece) ≡ slashed texts ++ cut piece
cut-slashed texts piece = grind (arith, nat_tests, append_assoc, cut-slash)

closed-slashed : (texts : List (List ℕ)) (piece : List ℕ) (previous : ℕ) → is_empty piece ≡ is_slash previous
    → closed (slashed texts ++ piece) previous ≡ slashed (texts ++ kept piece) ++ []
closed-slashed texts piece previous begun =
    grind (arith, nat_tests, cut-slashed, append-nil, append_assoc, joined-push)

finished-slashed : (texts : List (List ℕ)) (piece : List ℕ) (previous : ℕ)
    → is_empty piece ≡ is_slash previous
    → finished (slashed texts ++ piece) previous ≡ joined (texts ++ kept piece)
finished-slashed texts piece previous begun =
    grind (arith, nat_tests, cut-slashed, append-nil, append_assoc, joined-push, take_at, length-append)

mended_from-start : (texts ps : List (List ℕ)) → mended_from texts [] None ps ≡ texts ++ mended_of ps
mended_from-start texts ps = grind (arith, nat_tests, cleaned-added, cleaned_some)

mended_from-next : (texts : List (List ℕ)) (piece : List ℕ) (before : Option ℕ) (ps : List (List ℕ))
    → mended_from texts piece before ([] ∷ ps) ≡ mended_from (texts ++ kept piece) [] None ps
mended_from-next texts piece before ps = grind (arith, append-nil, append_assoc, mended_from-start)

-- After what is written, and this byte, the rest still gives what the whole gives.
pub record GivesWhole (whole written : List ℕ) (previous : ℕ) (rest : List ℕ) : Type 0 where
  pub texts : List (List ℕ)
  pub piece : List ℕ
  pub is : written ≡ slashed texts ++ piece
  pub begun : is_empty piece ≡ is_slash previous
  pub gives : mended_from texts piece (in_piece previous) (pieces rest) ≡ mended_pieces whole

pub GivesWhole-start : (text : List ℕ) → GivesWhole text [] (byte "/") text
GivesWhole-start text =
    record { texts = []; piece = []; is = refl; begun = refl; gives = mended_from-start [] (pieces text) }

-- A byte of a piece adds to it.
pub GivesWhole-byte : (whole written : List ℕ) (previous b : ℕ) (rest : List ℕ)
    → GivesWhole whole written previous (b ∷ rest) → is_slash b ≡ false
    → GivesWhole whole (written ++ added (in_piece previous) b) b rest
GivesWhole-byte whole written previous b rest so_far other =
    grind (arith, nat_tests, added, append_assoc, append-nil)

-- A slash ends the piece.
pub GivesWhole-slash : (whole written : List ℕ) (previous b : ℕ) (rest : List ℕ)
    → GivesWhole whole written previous (b ∷ rest) → is_slash b ≡ true
    → GivesWhole whole (closed written previous) b rest
GivesWhole-slash whole written previous b rest so_far slash = record {
  texts = so_far.texts ++ kept so_far.piece;
  piece = [];
  is = grind (arith, closed-slashed, so_far.is, so_far.begun);
  begun = sym slash;
  gives = grind (
    arith,
    nat_tests,
    slash,
    mended_from-next so_far.texts so_far.piece (in_piece previous) (pieces rest),
    so_far.gives,
  );
}

-- Where no rest is left, the last piece ends.
pub GivesWhole-end : (whole written : List ℕ) (previous : ℕ) → GivesWhole whole written previous []
    → finished written previous ≡ joined (mended_pieces whole)
GivesWhole-end whole written previous so_far = grind (arith, nat_tests, finished-slashed, append-nil)
