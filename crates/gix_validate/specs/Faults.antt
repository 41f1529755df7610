-- How a table of faults is read: which of its lines apply, and which of them comes first.
use Rattle.std.specs.Prelude.{◌≡◌, ℕ, zero, suc, Bool, cond, List, [], ◌∷◌, Option, Some, None}
use Rattle.std.specs.Prelude.{Result, MatchResult}
use Rattle.bstr.specs.declared.bstr.BStr.{BStr}
use Rattle.bstr.specs.BStr.{bstr_bytes}

-- a line of a table: the fault, where the test passes
abbrev pub when : {A : Type 0} → Bool → A → Option A
when test fault = cond test (Some fault) None

-- the first answer, or the second where the first is `None`
infixr 5 ◌orelse◌
abbrev pub ◌orelse◌ : {A : Type 0} → Option A → Option A → Option A
None orelse other = other
(Some a) orelse other = Some a

-- the first line of a table that applies
abbrev pub first_of : {A : Type 0} → List (Option A) → Option A
first_of [] = None
first_of (line ∷ lines) = line orelse first_of lines

-- what f gives at the first offset at which it gives something, if there is one before offset n
unfoldable pub at_first_offset : {A : Type 0} → (ℕ → Option A) → ℕ → Option A
at_first_offset f zero = None
at_first_offset f (suc n) = at_first_offset f n orelse f n

-- A validator by a rule of faults: it gives back a text without a fault, and otherwise gives the fault.
abbrev pub Validates : {E : Type 0} → (List ℕ → Option E) → List ℕ → Result BStr E → Type 0
Validates fault x result =
    MatchResult result (λ name. (fault x ≡ None) × (bstr_bytes name ≡ x)) (λ e. fault x ≡ Some e)
