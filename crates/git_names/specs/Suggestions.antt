-- The suggestion for a branch: what a name becomes, piece by piece, if it isn't the short name of one.
use Rattle.std.specs.Prelude.{ℕ, Bool, true, ◌==◌, ◌&&◌, ◌||◌, not, if◌then◌else◌, List, [], ◌∷◌, ◌++◌}
use Rattle.std.specs.Prelude.{codes, map, filter, false, reverse, Option, Some, None}
use Rattle.std.specs.List.{list_all}
use Rattle.std.specs.Str.{byte, bytes_eq}
use Rattle.gix_validate.specs.Bytes.{is_bad, is_empty}
use Rattle.gix_validate.specs.Pieces.{joined, pieces}
use Rattle.git_names.specs.ShortNames.{is_short_name}

-- A byte that a dash replaces: one that a name may not have, a dash, and `{` right after `@`.
abbrev pub becomes_dash : Bool → ℕ → Bool
becomes_dash after_at b = is_bad b || b == byte "*" || b == byte "-" || (after_at && b == byte "{")

-- the text with a dash for each such byte
abbrev pub dashed : Bool → List ℕ → List ℕ
dashed after_at [] = []
dashed after_at (b ∷ t) =
    (if becomes_dash after_at b then byte "-" else b) ∷ dashed (b == byte "@") t

abbrev pub is_dot_or_dash : ℕ → Bool
is_dot_or_dash b = b == byte "." || b == byte "-"

-- no byte is before this one, or the same one
abbrev pub is_first_or_again : Option ℕ → ℕ → Bool
is_first_or_again None b = true
is_first_or_again (Some a) b = a == b

-- the byte goes: a dot or dash with none before it, or the same one
abbrev pub goes : Option ℕ → ℕ → Bool
goes before b = is_dot_or_dash b && is_first_or_again before b

-- The text without dots and dashes at its start, and with one for dots in a row, and for dashes in a row.
-- (The option has the byte that is kept before the text, if there is one.)
abbrev pub thinned : Option ℕ → List ℕ → List ℕ
thinned before [] = []
thinned before (b ∷ t) =
    (if goes before b then [] else b ∷ []) ++ thinned (if goes before b then before else Some b) t

-- A text, read from its end, without the dots, dashes and `.lock`s that it ends in, as often as they are
-- there.
abbrev pub stripped : List ℕ → List ℕ
stripped [] = []
stripped (a ∷ b ∷ c ∷ d ∷ e ∷ t) =
    if is_dot_or_dash a then stripped (b ∷ c ∷ d ∷ e ∷ t)
    else (if bytes_eq (a ∷ b ∷ c ∷ d ∷ e ∷ []) (codes "kcol.") then stripped t else a ∷ b ∷ c ∷ d ∷ e ∷ t)
stripped (a ∷ t) = if is_dot_or_dash a then stripped t else a ∷ t

-- the text without what is stripped from its end
unfoldable pub trimmed : List ℕ → List ℕ
trimmed t = reverse (stripped (reverse t))

-- what becomes of a piece
unfoldable pub suggested_piece : List ℕ → List ℕ
suggested_piece p = trimmed (thinned None (dashed false p))

-- what becomes of a name: of its pieces those that something is left of, joined
unfoldable pub repaired : List ℕ → List ℕ
repaired x = joined (filter (λ p. not (is_empty p)) (map suggested_piece (pieces x)))

-- nothing, or a name of its own in Git
abbrev pub is_no_branch : List ℕ → Bool
is_no_branch t = is_empty t || bytes_eq t (codes "@") || bytes_eq t (codes "HEAD")

-- The suggestion: a short name is its own. For other names it is what becomes of them, if that is one.
unfoldable pub suggestion : List ℕ → Option (List ℕ)
suggestion x =
    if is_short_name x then Some x else (if is_no_branch (repaired x) then None else Some (repaired x))

-- the text has only bytes that no piece may begin or end with, or that a dash replaces
abbrev pub has_nothing_to_keep : List ℕ → Bool
has_nothing_to_keep x = list_all (λ p. list_all is_dot_or_dash (dashed false p)) (pieces x)
