-- Clear texts, recognised by each two adjacent bytes and by the end: each is a tag name,
-- and most tag names are clear.
use Rattle.std.specs.Prelude.{◌≡◌, ℕ, ◌<◌, Bool, false, ◌==◌, ◌&&◌, ◌||◌, List, [], ◌∷◌, length}
use Rattle.std.specs.Prelude.{codes, Option}
use Rattle.std.specs.Str.{byte}
use Rattle.gix_validate.specs.Private.Scan.{NoneBelow, at_both}
use Rattle.gix_validate.specs.Bytes.{is_bad, is_among, ends}
use Rattle.gix_validate.specs.declared.tag.NameError.{NameError}
use Rattle.gix_validate.specs.Faults.{first_of}
use Rattle.gix_validate.specs.Tag.{fault_table}

-- the byte may have a fault by what is before it; no other byte ever has one
abbrev pub may_be_faulty : ℕ → Bool
may_be_faulty b = is_bad b || is_among (codes "*./{") b

-- the fault of a byte by what is before it, where something follows
unfoldable pub fault_of_byte : List ℕ → ℕ → Option NameError
fault_of_byte before b = first_of (fault_table before b (0 ∷ []))

-- After the byte before it, the byte may have a fault, or lead to one: a bad byte, `*` or `{`;
-- a dot or slash after a dot or slash; an `l` after a dot, as in `.lock`, whose fault is at a later byte.
unfoldable pub is_suspect : ℕ → ℕ → Bool
is_suspect before b =
    is_bad b || is_among (codes "*{") b || (is_among (codes "./") before && is_among (codes "./") b)
    || (before == byte "." && b == byte "l")

-- whether the byte at this offset is suspect after the one before it, or the first byte after a slash
abbrev pub suspect_at : List ℕ → ℕ → Bool
suspect_at x i = at_both is_suspect (byte "/" ∷ x) x i

-- The text has a byte, none that is suspect, and no slash or dot at its end.
pub record IsClear (x : List ℕ) : Type 0 where
  pub some : 0 < length x
  pub quiet : NoneBelow (suspect_at x) (length x)
  pub end : (ends x (codes ".") || ends x (codes "/")) ≡ false
