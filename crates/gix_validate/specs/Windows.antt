-- Devices, recognised by the device form of a name, and names that are illegal on Windows.
use Rattle.std.specs.Prelude.{ℕ, Bool, ◌==◌, ◌||◌, nat_lt, List, [], ◌∷◌, ◌++◌, map, codes}
use Rattle.std.specs.List.{before_first, list_any}
use Rattle.std.specs.Str.{byte, bytes_eq}
use Rattle.gix_validate.specs.Bytes.{is_among, lower, ends}
use Rattle.gix_validate.specs.Ntfs.{without_end}

-- The front before the first dot or colon, or the whole name where there is neither,
-- without the spaces at its end.
unfoldable pub device_form : List ℕ → List ℕ
device_form x = without_end (λ b. b == byte " ") (before_first (is_among (codes ".:")) x)

-- the word with each of these digits after it
abbrev pub numbered : List ℕ → List ℕ → List (List ℕ)
numbered word digits = map (λ digit. word ++ digit ∷ []) digits

-- the names of the devices, twenty-five of them
unfoldable pub devices : List (List ℕ)
devices =
    codes "AUX" ∷ codes "NUL" ∷ codes "PRN" ∷ codes "CON" ∷ codes "CONIN$" ∷ codes "CONOUT$"
    ∷ numbered (codes "COM") (codes "123456789") ++ numbered (codes "LPT") (codes "0123456789")

-- The form is the name of a device, without ASCII case.
unfoldable pub is_device_form : List ℕ → Bool
is_device_form form = list_any (λ name. bytes_eq (lower form) (lower name)) devices

-- The name is a device: its device form is the name of one.
unfoldable pub is_device : List ℕ → Bool
is_device x = is_device_form (device_form x)

-- a byte that makes a name illegal on Windows at any offset
unfoldable pub is_illegal_byte : ℕ → Bool
is_illegal_byte b = nat_lt b 0x20 || is_among (codes "<>:\"|?*") b

-- The name has such a byte, or ends in a dot or a space.
unfoldable pub is_illegal : List ℕ → Bool
is_illegal x = list_any is_illegal_byte x || (ends x (codes ".") || ends x (codes " "))
