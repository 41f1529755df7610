-- What a table of rows states. Where a row is wrong, the check names the table,
-- and says what the row has (expected) and what is computed (found), bytes as numbers.
use Rattle.gix_validate.proofs.Common.{◌≡◌, Bool, List, Option, is_none, map}

-- the function gives the second of each row for its first
abbrev pub Gives : {A B : Type 0} → (A → B) → List (A × B) → Type 0
Gives f rows = map (λ row. f row.0) rows ≡ map (λ row. row.1) rows

-- the text of each row has the fault of the row, and the test accepts the texts without one and no other
abbrev pub Judges : {A E : Type 0} → (A → Option E) → (A → Bool) → List (A × Option E) → Type 0
Judges fault_of accepts rows =
    Gives fault_of rows × (map (λ row. accepts row.0) rows ≡ map (λ row. is_none row.1) rows)
