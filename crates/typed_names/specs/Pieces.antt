-- What an iterator over pieces has left.
use Rattle.std.specs.Prelude.{ℕ, List, [], Option, Some, None}
use Rattle.bstr.specs.declared.bstr.BStr.{BStr}
use Rattle.bstr.specs.BStr.{bstr_bytes}
use Rattle.gix_validate.specs.Pieces.{pieces}

-- the pieces of the text that is left, if any is
abbrev pub pieces_left : Option BStr → List (List ℕ)
pieces_left None = []
pieces_left (Some text) = pieces (bstr_bytes text)
