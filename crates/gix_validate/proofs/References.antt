-- Partial, full and branch names: a slash in a name, and two tag names that a slash joins.
use Rattle.gix_validate.proofs.Common.{◌≡◌, ℕ, true, false, IsTrue, List, [], ◌∷◌, ◌⊎◌, arith, ◌++◌}
use Rattle.gix_validate.proofs.Common.{length, All, Contains, ◌==◌, Option, is_some, list_any, byte}
use Rattle.gix_validate.proofs.Common.{bytes_eq-Decides, list_any_at, list_all-append, codes}
use Rattle.gix_validate.proofs.Common.{list_any-append, Any-from_list_any, AllPass-from_list_all}
use Rattle.gix_validate.proofs.Common.{list_all-from_AllPass, common_steps, nat_tests, ◌↔◌}
use Rattle.gix_validate.proofs.Blocks.Parts.{none_at}
use Rattle.gix_validate.proofs.Texts.Pieces.{pieces_some}
use Rattle.gix_validate.proofs.Texts.Endings.{ends_read}
use Rattle.gix_validate.specs.Reference.{is_standalone_byte, has_slash_or_stands_alone}
use Rattle.gix_validate.specs.Reference.{is_full_name, is_partial_name}
use Rattle.gix_validate.specs.Bytes.{ends}
use Rattle.gix_validate.specs.Pieces.{pieces, joined}
use Rattle.gix_validate.specs.Tag.{is_good_piece, is_tag_name}
use Rattle.gix_validate.specs.Private.Scan.{Finds, at_both}

-- The first slash, or none, says whether a text has one.
pub slash_found : (x : List ℕ) (found : Option ℕ)
    → Finds (at_both (λ a b. a == byte "/") x x) (length x) (length x) found
    → is_some found ≡ list_any (λ b. b == byte "/") x
slash_found x found finds = grind (arith, nat_tests, none_at, list_any_at)

-- What the search for a slash says of a text.
pub may_stand : (x : List ℕ) → has_slash_or_stands_alone x ≡ true
    → Contains x (byte "/") ⊎ All (λ b. IsTrue (is_standalone_byte b)) x
may_stand x h = grind (arith, Any-from_list_any, AllPass-from_list_all)

pub may_not_stand : (x : List ℕ) → has_slash_or_stands_alone x ≡ false
    → ¬ (Contains x (byte "/") ⊎ All (λ b. IsTrue (is_standalone_byte b)) x)
may_not_stand x h t = grind (arith, list_any_at, list_all-from_AllPass)

-- A full name is a partial name that has a slash, or whose bytes may each stand alone.
pub full_name_parts : (x : List ℕ) → IsTrue (is_full_name x)
    ↔ (IsTrue (is_partial_name x)
    × (Contains x (byte "/") ⊎ All (λ b. IsTrue (is_standalone_byte b)) x))
unfolding is_full_name
full_name_parts x = grind (arith, may_stand x, may_not_stand x)

-- what a comparison with a reserved name takes
pub ruleset reserved_names = (bytes_eq-Decides)

pub pieces-at_slash : (a b : List ℕ) → pieces (a ++ byte "/" ∷ b) ≡ pieces a ++ pieces b
pieces-at_slash [] b = grind arith
pieces-at_slash (c ∷ a) b = grind (arith, pieces_some, pieces-at_slash a b)

no_dot_at_end : (a b : List ℕ) → IsTrue (is_tag_name b) → ends (a ++ byte "/" ∷ b) (codes ".") ≡ false
unfolding is_tag_name is_good_piece
no_dot_at_end a b hb = grind (arith, common_steps, ends_read)

pub joined_is_full : (a b : List ℕ) → IsTrue (is_tag_name a) → IsTrue (is_tag_name b)
    → IsTrue (is_full_name (joined (a ∷ b ∷ [])))
unfolding is_full_name is_partial_name is_tag_name
joined_is_full a b ha hb =
    grind (arith, common_steps, no_dot_at_end a b, pieces-at_slash a b, list_all-append, list_any-append)
