-- The classes of the bytes of a name, a bit for each, and what they say about the name.
use Rattle.std.specs.Prelude.{◌≡◌, ℕ, Bool, ◌==◌, ◌&&◌, ◌||◌, not, nat_lt, if◌then◌else◌, List}
use Rattle.std.specs.Prelude.{codes, map, bit_and}
use Rattle.std.specs.List.{list_any}
use Rattle.std.specs.Str.{byte}
use Rattle.gix_validate.specs.declared.path.classes.TheConstants.{CONTROL, QUOTE_OR_STAR}
use Rattle.gix_validate.specs.declared.path.classes.TheConstants.{COLON_ANGLE_OR_MARK, BACKSLASH}
use Rattle.gix_validate.specs.declared.path.classes.TheConstants.{PIPE, IGNORABLE_LEAD, SLASH}
use Rattle.gix_validate.specs.declared.path.classes.TheConstants.{TILDE}
use Rattle.gix_validate.specs.declared.path.ComponentOptions.{ComponentOptions}
use Rattle.gix_validate.specs.Bytes.{is_among, is_empty, ends}
use Rattle.gix_validate.specs.Windows.{is_illegal_byte}

-- the options with these three switches
abbrev pub switches : Bool → Bool → Bool → ComponentOptions
switches windows hfs ntfs = record { protect_windows = windows; protect_hfs = hfs; protect_ntfs = ntfs }

-- The class of a byte. A byte for which no condition asks has none.
unfoldable pub class_of : ℕ → ℕ
class_of b =
    if nat_lt b 0x20 then CONTROL
    else if is_among (codes "\"*") b then QUOTE_OR_STAR
    else if is_among (codes ":<>?") b then COLON_ANGLE_OR_MARK
    else if b == byte "|" then PIPE
    else if b == byte "\\" then BACKSLASH
    else if b == byte "/" then SLASH
    else if b == byte "~" then TILDE
    else if b == 0xE2 || b == 0xEF then IGNORABLE_LEAD
    else 0

-- the class of the byte has a bit of the mask
abbrev pub has_class : ℕ → ℕ → Bool
has_class mask b = not (bit_and (class_of b) mask == 0)

-- one of the classes has a bit of the mask
unfoldable pub any_class : ℕ → List ℕ → Bool
any_class mask classes = list_any (λ class. not (bit_and class mask == 0)) classes

-- under each mask the classes say what those of the bytes of the text say
abbrev pub HaveClassesOf : List ℕ → List ℕ → Type 0
HaveClassesOf classes x = (mask : ℕ) → any_class mask classes ≡ any_class mask (map class_of x)

-- A byte that has a class: one that Windows forbids or that separates a path, a short name's tilde,
-- or the first byte of what HFS+ ignores.
unfoldable pub is_classed : ℕ → Bool
is_classed b = is_illegal_byte b || (is_among (codes "/\\~") b || (b == 0xE2 || b == 0xEF))

-- The name is not empty, doesn't end in a dot or a space, and has no such byte.
-- Only devices, `.git` and `.gitmodules` are refused.
unfoldable pub has_ordinary_bytes : List ℕ → Bool
has_ordinary_bytes x =
    not (is_empty x) && not (ends x (codes ".") || ends x (codes " ")) && not (list_any is_classed x)
