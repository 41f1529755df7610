-- The laws of path components: what else holds of an accepted name, what never changes an answer, and what
-- forms and units are in other words.
use Rattle.std.specs.Prelude.{◌≡◌, ◌≢◌, ℕ, false, not, IsTrue, List, [], ◌∷◌, ◌++◌, codes, Option}
use Rattle.std.specs.Prelude.{None}
use Rattle.std.specs.List.{concat, filter}
use Rattle.std.specs.Str.{byte}
use Rattle.bstr.specs.Utf8.{decoded}
use Rattle.gix_validate.specs.declared.path.ComponentMode.{ComponentMode}
use Rattle.gix_validate.specs.declared.path.ComponentOptions.{ComponentOptions}
use Rattle.gix_validate.specs.Bytes.{lower}
use Rattle.gix_validate.specs.Pieces.{has_no_slash}
use Rattle.gix_validate.specs.Units.{first_unit_len, units}
use Rattle.gix_validate.specs.Hfs.{hfs_form, is_ignored_unit}
use Rattle.gix_validate.specs.Windows.{is_device}
use Rattle.gix_validate.specs.Component.{fault_of}

-- every switch off
abbrev pub no_protections : ComponentOptions
no_protections = record { protect_windows = false; protect_hfs = false; protect_ntfs = false }

-- every switch that is on in the first options is on in the second
pub record HasOnlySwitchesOf (fewer options : ComponentOptions) : Type 0 where
  pub windows : IsTrue fewer.protect_windows → IsTrue options.protect_windows
  pub hfs : IsTrue fewer.protect_hfs → IsTrue options.protect_hfs
  pub ntfs : IsTrue fewer.protect_ntfs → IsTrue options.protect_ntfs

-- the name has no fault under any part of the switches, with the mode and without it
abbrev pub IsValidUnderFewerSwitches : ComponentOptions → Option ComponentMode → List ℕ → Type 0
IsValidUnderFewerSwitches options mode x =
    (fewer : ComponentOptions) → HasOnlySwitchesOf fewer options
    → (fault_of fewer mode x ≡ None) × (fault_of fewer None x ≡ None)

-- the name and the same with small ASCII letters have the same fault, or both have none
abbrev pub FaultIgnoresCase : ComponentOptions → Option ComponentMode → List ℕ → Type 0
FaultIgnoresCase options mode x = fault_of options mode x ≡ fault_of options mode (lower x)

-- The first unit of a text that isn't empty is as long as what `bstr` decodes first: a character, or what it
-- replaces by U+FFFD.
abbrev pub FirstUnitIsDecoded : List ℕ → Type 0
FirstUnitIsDecoded x = x ≢ [] → first_unit_len x ≡ (decoded x).size

-- the HFS form is the units without the ignored characters, put one after the other
abbrev pub FormIsKeptUnits : List ℕ → Type 0
FormIsKeptUnits x = hfs_form x ≡ concat (filter (λ unit. not (is_ignored_unit unit)) (units x))

-- the name is not empty, is neither `.` nor `..`, has no slash, and is not `.git` in any ASCII letter case
pub record IsBasicName (x : List ℕ) : Type 0 where
  pub not_empty : x ≢ []
  pub not_here : x ≢ codes "."
  pub not_above : x ≢ codes ".."
  pub no_slash : IsTrue (has_no_slash x)
  pub not_git : lower x ≢ codes ".git"

-- the name and the same with small ASCII letters are both devices, or both are not
abbrev pub DeviceIgnoresCase : List ℕ → Type 0
DeviceIgnoresCase x = is_device x ≡ is_device (lower x)

-- A dot or a colon and whatever follows it, and a space at the end, don't change whether a name is a device.
pub record DeviceGoesByForm (x : List ℕ) : Type 0 where
  pub dot : (more : List ℕ) → is_device (x ++ byte "." ∷ more) ≡ is_device x
  pub colon : (more : List ℕ) → is_device (x ++ byte ":" ∷ more) ≡ is_device x
  pub space : is_device (x ++ byte " " ∷ []) ≡ is_device x
