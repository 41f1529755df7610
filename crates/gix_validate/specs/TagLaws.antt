-- The laws of tag names: their rule leaves nothing open.
-- Faults at one offset need no order, and slashes split a name in one way.
use Rattle.std.specs.Prelude.{◌≡◌, ◌≢◌, ℕ, ◌≤◌, ◌<◌, IsTrue, is_some, count_by, List, [], length}
use Rattle.std.specs.List.{list_all}
use Rattle.gix_validate.specs.Pieces.{pieces, joined, has_no_slash}
use Rattle.gix_validate.specs.Tag.{faults_at}

-- At each offset of the text at most one line of the table of faults applies,
-- so the order of its lines doesn't matter. (A table without lines has this law too.
-- That no line is missing is said by the clauses `answer` and `grammar` of `tag::name` together.)
abbrev pub HasAtMostOneFaultPerOffset : List ℕ → Type 0
HasAtMostOneFaultPerOffset x = (i : ℕ) → i < length x → count_by is_some (faults_at x i) ≤ 1

-- the texts split x at its slashes: there is at least one, none has a slash, and joined they are x
pub record Splits (x : List ℕ) (texts : List (List ℕ)) : Type 0 where
  pub some : texts ≢ []
  pub no_slash : IsTrue (list_all has_no_slash texts)
  pub whole : joined texts ≡ x

-- The pieces of x split it, and no other texts do.
pub record PiecesAreTheOnlySplit (x : List ℕ) : Type 0 where
  pub these : Splits x (pieces x)
  pub only : (texts : List (List ℕ)) → Splits x texts → texts ≡ pieces x
