-- The laws of tag names, proved of their definitions.
use Rattle.gix_validate.proofs.Common.{◌≡◌, ℕ, List, [], ◌∷◌, ◌++◌, eqb, sym, ap, ◌∙◌, arith, byte}
use Rattle.gix_validate.proofs.Common.{nat_tests, join_with_byte-slice_split, common_steps}
use Rattle.gix_validate.proofs.Texts.Pieces.{pieces_some, pieces_apart, pieces-joined}
use Rattle.gix_validate.proofs.TagNames.FaultTable.{lock_ends_in_k}
use Rattle.gix_validate.specs.Bytes.{is_bad, ends}
use Rattle.gix_validate.specs.Pieces.{pieces}
use Rattle.gix_validate.specs.Tag.{fault_table, faults_at}
use Rattle.gix_validate.specs.TagLaws.{HasAtMostOneFaultPerOffset, PiecesAreTheOnlySplit}

ends_push_one : (y : List ℕ) (b c : ℕ) → ends (y ++ b ∷ []) (c ∷ []) ≡ eqb b c
ends_push_one y b c = grind (arith, common_steps)

-- At each offset at most one line of the table applies.
pub one_fault_law : (x : List ℕ) → HasAtMostOneFaultPerOffset x
unfolding faults_at fault_table is_bad
one_fault_law x i inside = grind (arith, nat_tests, lock_ends_in_k, ends_push_one)

-- Slashes split a text in one way.
pub only_split_law : (x : List ℕ) → PiecesAreTheOnlySplit x
only_split_law x = record {
  these = record {
    some = pieces_some x;
    no_slash = pieces_apart x;
    whole = join_with_byte-slice_split (byte "/") x;
  };
  only = λ texts h. sym (pieces-joined texts h.some h.no_slash) ∙ ap pieces h.whole;
}

-- what `name` takes from above
pub ruleset tag_laws = (one_fault_law, only_split_law)
