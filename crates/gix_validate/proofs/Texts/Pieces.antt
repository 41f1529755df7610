-- Texts without a slash are the pieces of what they join to.
use Rattle.gix_validate.proofs.Common.{◌≡◌, ◌≢◌, ℕ, true, List, [], ◌∷◌, ◌++◌, append_assoc}
use Rattle.gix_validate.proofs.Common.{list_all, byte}
use Rattle.gix_validate.specs.Pieces.{pieces, joined, has_no_slash}
use native.Mathlib.Omega.{arith}

-- a text has a piece
pub pieces_some : (x : List ℕ) → pieces x ≢ []
pieces_some [] = grind arith
pieces_some (b ∷ x) = grind arith

-- no piece has a slash
pub pieces_apart : (x : List ℕ) → list_all has_no_slash (pieces x) ≡ true
pieces_apart [] = grind arith
pieces_apart (b ∷ x) = grind (arith, pieces_apart x)

-- the first piece ends at the first slash
pub pieces_front : (t rest : List ℕ) → has_no_slash t ≡ true → pieces (t ++ byte "/" ∷ rest) ≡ t ∷ pieces rest
pieces_front [] rest h = grind arith
pieces_front (b ∷ t) rest h = grind (arith, pieces_front t rest)

-- a text without a slash is its one piece
pub pieces_alone : (t : List ℕ) → has_no_slash t ≡ true → pieces t ≡ t ∷ []
pieces_alone [] h = grind arith
pieces_alone (b ∷ t) h = grind (arith, pieces_alone t)

-- texts without a slash are the pieces of what they join to
pub pieces-joined : (texts : List (List ℕ)) → texts ≢ [] → list_all has_no_slash texts ≡ true
    → pieces (joined texts) ≡ texts
pieces-joined [] some h = grind arith
pieces-joined (t ∷ []) some h = grind (arith, pieces_alone)
pieces-joined (t ∷ u ∷ texts) some h = grind (arith, pieces_front, pieces-joined (u ∷ texts))

-- one text more after the others
pub joined-push : (text : List ℕ) (texts : List (List ℕ)) (last : List ℕ)
    → joined (text ∷ (texts ++ last ∷ [])) ≡ joined (text ∷ texts) ++ (byte "/" ∷ last)
joined-push text [] last = grind arith
joined-push text (next ∷ texts) last = grind (arith, append_assoc, joined-push next texts last)
