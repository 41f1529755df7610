-- The names that `--accept` gives, and the switches for them.
use Rattle.std.specs.Prelude.{ℕ, List, take, flat_map, false}
use Rattle.std.specs.Borrow.{Bor}
use Rattle.gix_validate.specs.Pieces.{pieces}
use Rattle.gix_validate.specs.declared.path.ComponentOptions.{ComponentOptions}
use Rattle.programs.specs.declared.accepted.AcceptedNames.{AcceptedNames}

-- how many lists of names there can be
abbrev pub max_lists : ℕ
max_lists = 16

-- the names in lists: the texts between the slashes of each
abbrev pub names_in : AcceptedNames → List (List ℕ)
names_in names = flat_map (λ (list : Bor (List ℕ)). pieces list.now) (take names.len names.lists)

-- how many lists gave them
abbrev pub lists_in : AcceptedNames → ℕ
lists_in names = names.len

-- the switches without that for Windows
abbrev pub without_windows : ComponentOptions → ComponentOptions
without_windows on =
    record { protect_windows = false; protect_hfs = on.protect_hfs; protect_ntfs = on.protect_ntfs }
