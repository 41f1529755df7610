-- The first slash of a text: what a search for it finds, and what it means for the pieces.
use Rattle.gix_validate.proofs.Common.{◌≡◌, ◌≢◌, ℕ, ◌+◌, true, not, List, [], ◌∷◌, ◌++◌, length}
use Rattle.gix_validate.proofs.Common.{take, drop, arith, All-from_get_or}
use Rattle.gix_validate.proofs.Common.{slice_split_none, slice_split_first}
use Rattle.gix_validate.proofs.Common.{join_with_byte-slice_split, position_or_len_is}
use Rattle.gix_validate.proofs.Common.{AllPass-from_list_all, list_all-from_AllPass, list_all}
use Rattle.gix_validate.proofs.Common.{after_first, position_or_len, byte}
use Rattle.gix_validate.proofs.Common.{false, ap}
use Rattle.std.proofs.lemmas.List.Folds.{list_all_at}
use Rattle.bstr.specs.Find.{Nowhere, NoneBefore, Passes, is_byte}
use Rattle.gix_validate.specs.Pieces.{is_slash, pieces, has_no_slash}

-- a search that finds no slash
pub nowhere_slash : (x : List ℕ) → Nowhere (Passes (is_byte 47) x) 0 (length x) → has_no_slash x ≡ true
nowhere_slash x nowhere =
    list_all-from_AllPass (λ b. not (is_slash b)) x
    (All-from_get_or (λ b. not (is_slash b) ≡ true) x 0 (λ k within. grind (arith, nowhere k)))

-- a search that finds the first slash
abbrev pub FindsSlash : List ℕ → ℕ → Type 0
FindsSlash x k = NoneBefore (Passes (is_byte 47) x) 0 (length x) k × Passes (is_byte 47) x k

pub found_slash : (x : List ℕ) (k : ℕ) → FindsSlash x k → has_no_slash x ≡ false
found_slash x k found = list_all_at (λ b. not (is_slash b)) x k 0 found.0.high (ap not found.1)

first_slash : (x : List ℕ) (k : ℕ) → FindsSlash x k → position_or_len is_slash x ≡ k
first_slash x k found = grind (arith, position_or_len_is)

pub after_found : (x : List ℕ) (k : ℕ) → FindsSlash x k → drop (k + 1) x ≡ after_first is_slash x
after_found x k found = grind (arith, first_slash)

pub pieces_found : (x : List ℕ) (k : ℕ) → FindsSlash x k → pieces x ≡ take k x ∷ pieces (drop (k + 1) x)
pieces_found x k found = grind (arith, first_slash, slice_split_first)

-- a text without a slash is its one piece
pub pieces_alone : (x : List ℕ) → has_no_slash x ≡ true → pieces x ≡ x ∷ []
pieces_alone x none = grind (arith, slice_split_none, AllPass-from_list_all)

-- no piece has a slash
pub pieces_apart : (x : List ℕ) → list_all has_no_slash (pieces x) ≡ true
pieces_apart [] = grind arith
pieces_apart (b ∷ x) = grind (arith, pieces_apart x)

-- a text has a piece
pieces_some : (x : List ℕ) → pieces x ≢ []
pieces_some [] = grind arith
pieces_some (b ∷ x) = grind arith

-- a text whose later pieces are those of a text is its first piece, a slash, and that text
pub whole_from_pieces : (x p rest : List ℕ) → pieces x ≡ p ∷ pieces rest → x ≡ p ++ byte "/" ∷ rest
whole_from_pieces x p rest e =
    grind (arith, join_with_byte-slice_split 47 x, join_with_byte-slice_split 47 rest, pieces_some)
