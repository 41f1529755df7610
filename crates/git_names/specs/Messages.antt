-- What is said of an invalid name: the text of its error, and where in the name that is.
use Rattle.std.specs.Prelude.{ℕ, ◌-◌, ◌||◌, nat_le, not, if◌then◌else◌, List, [], ◌∷◌, ◌++◌, codes, length}
use Rattle.std.specs.Prelude.{slice_index, take}
use Rattle.std.specs.Fmt.{decimal}
use Rattle.std.specs.List.{suffix_len}
use Rattle.gix_validate.specs.Bytes.{is_empty}
use Rattle.gix_validate.specs.Pieces.{has_no_slash, is_slash}
use Rattle.gix_validate.specs.Quoted.{escape_of, quoted}
use Rattle.git_names.specs.Kinds.{text_of}
use Rattle.git_names.specs.Offsets.{part_at}
use Rattle.git_names.specs.declared.faults.Fault.{Fault}

-- where the piece begins that an offset is in: after the last slash before it
abbrev pub piece_start : List ℕ → ℕ → ℕ
piece_start x at = at - suffix_len (λ b. not (is_slash b)) (take at x)

-- what stands between the slashes around an offset
abbrev pub piece_around : List ℕ → ℕ → List ℕ
piece_around x at = part_at x (piece_start x at)

-- the piece that an offset is in, if the name has several, and no slash there
abbrev pub piece_of : List ℕ → ℕ → List ℕ
piece_of x at = if has_no_slash x || is_slash (slice_index x at) then [] else piece_around x at

-- a piece, if it isn't empty
abbrev pub in_piece : List ℕ → List ℕ
in_piece [] = []
in_piece (b ∷ piece) = codes ", in " ++ quoted (b ∷ piece)

-- where in a name an offset is: the byte, its offset and its piece, or that it is at the end
unfoldable pub place_of : List ℕ → ℕ → List ℕ
place_of x at =
    if is_empty x then []
    else if nat_le (length x) at then codes " (at the end)"
    else codes " ('" ++ escape_of (slice_index x at) ++ codes "' at byte " ++ decimal at
    ++ in_piece (piece_of x at) ++ codes ")"

-- The text of the reason, and after it the place. Of an empty name there is no place.
abbrev pub message_of : List ℕ → Fault → List ℕ
message_of x fault = text_of fault.reason ++ place_of x fault.offset
