-- What the next read of an input gives.
use Rattle.std.specs.Prelude.{◌≡◌, ◌≢◌, ◌⊎◌, ℕ, ◌+◌, ◌<◌, ◌≤◌, false, ◌||◌, List, [], ◌∷◌, ◌++◌, All}
use Rattle.std.specs.Prelude.{codes, length, Option, None, Some}
use Rattle.gix_validate.specs.Bytes.{begins, holds}
use Rattle.gix_validate.specs.Pieces.{names_in, pieces}
use Rattle.programs.specs.Reports.{max_line}
use Rattle.git_check_names.specs.declared.input.Next.{Next}
use Rattle.git_check_names.specs.declared.input.Next.TheVariants.{Name, TooLong, End}

-- What is left of a text after a byte, or nothing if the text has no such byte.
pub record SkipsPast (end : ℕ) (text : List ℕ) (left : Option (List ℕ)) : Type 0 where
  pub skipped : List ℕ
  pub rest : List ℕ
  pub left_is : left ≡ Some rest
  pub none : All (λ b. b ≢ end) skipped
  pub cut : (text ≡ skipped ++ end ∷ rest) ⊎ ((text ≡ skipped) × (rest ≡ []))

-- what was read of a text, whose names such a byte ends, and what is left of it
abbrev pub IsNext : ℕ → List ℕ → Option (List ℕ) → List ℕ → Next → Type 0
IsNext end text left name Name =
    (length name < max_line)
    × ((rest : List ℕ) × (left ≡ Some rest) × (names_in end text ≡ name ∷ names_in end rest))
IsNext end text left name TooLong =
    (first rest : List ℕ) × (left ≡ Some rest) × (names_in end text ≡ first ∷ names_in end rest)
    × (max_line ≤ length first)
IsNext end text left name End = (names_in end text ≡ []) × (left ≡ Some [])

-- the first part of a path and what is after its slash, or the path is one part
abbrev pub IsFirstPart : List ℕ → Option (List ℕ × List ℕ) → Type 0
IsFirstPart path None = pieces path ≡ path ∷ []
IsFirstPart path (Some parts) =
    (pieces path ≡ parts.0 ∷ pieces parts.1) × (length path ≡ length parts.0 + 1 + length parts.1)

-- what is before and after the first colon of a name, which says whether the name has a colon and a blank
abbrev pub IsCutAtColon : List ℕ → Option (List ℕ × List ℕ) → Type 0
IsCutAtColon name None = holds name (codes ": ") ≡ false
IsCutAtColon name (Some parts) =
    (holds name (codes ": ") ≡ (begins parts.1 (codes " ") || holds parts.1 (codes ": ")))
    × (length parts.1 < length name)
