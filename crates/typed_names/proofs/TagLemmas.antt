-- The pieces of a tag name, and that what follows its first slash is a tag name.
use Rattle.gix_validate.proofs.Common.{◌≡◌, ◌≢◌, ℕ, suc, true, not, IsTrue, List, [], ◌∷◌, ◌++◌}
use Rattle.gix_validate.proofs.Common.{length, length-append, arith, codes}
use Rattle.gix_validate.proofs.Common.{join_with_byte-slice_split, AllPass-from_list_all}
use Rattle.gix_validate.proofs.Common.{drop-append-add, All, byte}
use Rattle.gix_validate.specs.Bytes.{ends}
use Rattle.gix_validate.specs.Pieces.{pieces, joined, has_no_slash}
use Rattle.gix_validate.specs.Tag.{is_good_piece, is_tag_name}
use Rattle.typed_names.proofs.SlashLemmas.{pieces_apart, whole_from_pieces}

-- no piece of a tag name is empty
pub tag_pieces_some : (x : List ℕ) → IsTrue (is_tag_name x) → All (λ piece. piece ≢ []) (pieces x)
unfolding is_good_piece is_tag_name
tag_pieces_some x valid = grind (arith, AllPass-from_list_all)

-- no piece of a text has a slash
pub pieces_have_no_slash : (x : List ℕ) → All (λ piece. IsTrue (has_no_slash piece)) (pieces x)
pieces_have_no_slash x = AllPass-from_list_all has_no_slash (pieces x) (pieces_apart x)

-- the pieces of a text, joined, are the text
pub joined-pieces : (x : List ℕ) → joined (pieces x) ≡ x
joined-pieces x = join_with_byte-slice_split 47 x

-- what `TagName::pieces` takes from here
pub ruleset pieces_of_tag = (tag_pieces_some, pieces_have_no_slash, joined-pieces)

-- where a text does not end in a dot, what follows a byte in it does not either
no_dot_at_end : (front back : List ℕ) (s : ℕ) → not (ends (front ++ s ∷ back) (codes ".")) ≡ true
    → not (ends back (codes ".")) ≡ true
no_dot_at_end front [] s h = grind arith
no_dot_at_end front (c ∷ back) s h =
    grind (arith, length-append, drop-append-add front (s ∷ c ∷ back) (suc (length back)))

-- What follows the first slash of a tag name is a tag name.
pub rest_is_tag_name : (x p rest : List ℕ) → pieces x ≡ p ∷ pieces rest → IsTrue (is_tag_name x)
    → IsTrue (is_tag_name rest)
unfolding is_tag_name
rest_is_tag_name x p rest e valid = grind (arith, whole_from_pieces x p rest, no_dot_at_end p rest (byte "/"))
