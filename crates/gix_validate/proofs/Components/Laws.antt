-- The laws of path components, proved of their definitions.
use Rattle.gix_validate.proofs.Common.{◌≡◌, ℕ, ◌+◌, Bool, true, false, is_none, is_some, Option}
use Rattle.gix_validate.proofs.Common.{None, List, [], ◌∷◌, length, refl, sym, arith, codes}
use Rattle.gix_validate.proofs.Common.{slice_index, IsTrue, ◌==◌, list_all, byte, bytes_eq}
use Rattle.gix_validate.proofs.Common.{false≢true, and_parts, agree_below, bytes_eq-Decides}
use Rattle.gix_validate.proofs.Common.{nat_tests}
use Rattle.gix_validate.proofs.Texts.LetterCase.{test-lower_byte, lower-lower, list_any-lower}
use Rattle.gix_validate.proofs.Texts.LetterCase.{bytes_eq-lower, before_first-lower}
use Rattle.gix_validate.proofs.Texts.LetterCase.{without_end-lower, ends-lower}
use Rattle.gix_validate.proofs.OnLiterals.{components_on_literals}
use Rattle.gix_validate.proofs.Components.Forms.{form_cut, form_trimmed}
use Rattle.gix_validate.proofs.Components.HfsForm.{hfs_form-units}
use Rattle.gix_validate.specs.Units.{is_within, fitting_len, whole_len, begun_len, whole_sequences}
use Rattle.gix_validate.specs.Units.{first_unit_len}
use Rattle.gix_validate.specs.ComponentLaws.{HasOnlySwitchesOf, IsValidUnderFewerSwitches}
use Rattle.gix_validate.specs.ComponentLaws.{FaultIgnoresCase, FormIsKeptUnits, IsBasicName}
use Rattle.gix_validate.specs.ComponentLaws.{DeviceIgnoresCase, DeviceGoesByForm}
use Rattle.gix_validate.specs.declared.path.ComponentError.{ComponentError}
use Rattle.gix_validate.specs.declared.path.ComponentMode.{ComponentMode}
use Rattle.gix_validate.specs.declared.path.ComponentOptions.{ComponentOptions}
use Rattle.gix_validate.specs.Bytes.{lower, lower_byte, is_among}
use Rattle.gix_validate.specs.Faults.{first_of}
use Rattle.gix_validate.specs.Pieces.{has_no_slash}
use Rattle.gix_validate.specs.Hfs.{is_ignored, hfs_form}
use Rattle.gix_validate.specs.Ntfs.{ntfs_form, is_git_form, is_modules_form}
use Rattle.gix_validate.specs.Component.{conditions, fault_of, is_component}
use Rattle.gix_validate.specs.Windows.{device_form, is_device_form, is_device, is_illegal_byte}
use Rattle.gix_validate.specs.Windows.{is_illegal}
use Rattle.std.proofs.Math.ListN.{get_or-map}

-- The first unit is as long in lower case: no range of the table parts a letter from its small letter.
skips : ℕ × ℕ → Bool
skips range = agree_below (λ k. is_within range (k + byte "a")) (λ k. is_within range (k + byte "A")) 26

fitting_len-lower : (row : List (ℕ × ℕ)) → list_all skips row ≡ true → (x : List ℕ)
    → fitting_len row (lower x) ≡ fitting_len row x
unfolding skips
fitting_len-lower (range ∷ row) ok (b ∷ x) =
    let parts = and_parts _ _ ok in
    rw (test-lower_byte (is_within range) parts.0 b, fitting_len-lower row parts.1 x)
fitting_len-lower _ ok _ = refl

table-lower : (rows : List (List (ℕ × ℕ))) → list_all (list_all skips) rows ≡ true → (x : List ℕ)
    → (whole_len rows (lower x) ≡ whole_len rows x) × (begun_len rows (lower x) ≡ begun_len rows x)
table-lower [] ok x = grind arith
table-lower (row ∷ rows) ok x = grind (arith, fitting_len-lower, table-lower rows)

prefix-lower : (x : List ℕ)
    → (slice_index (lower x) (first_unit_len (lower x)) == byte ":")
    ≡ (slice_index x (first_unit_len x) == byte ":")
unfolding first_unit_len whole_sequences skips lower_byte
prefix-lower x =
    let same = table-lower whole_sequences refl x in
    rw (same.0, same.1, get_or-map lower_byte x (first_unit_len x) 0)
    (test-lower_byte (λ b. b == byte ":") refl _)

-- No byte of an ignored character is a letter,
-- so the HFS form of the lower case is the lower case of the HFS form.
is_ignored-lower : (a b c : ℕ) → is_ignored (lower_byte a) (lower_byte b) (lower_byte c) ≡ is_ignored a b c
unfolding is_ignored lower_byte
is_ignored-lower a b c = grind (arith, nat_tests)

hfs_form-lower : (x : List ℕ) → hfs_form (lower x) ≡ lower (hfs_form x)
unfolding hfs_form
hfs_form-lower (a ∷ b ∷ c ∷ x) = grind (arith, is_ignored-lower, hfs_form-lower x, hfs_form-lower (b ∷ c ∷ x))
hfs_form-lower _ = refl

ntfs_form-lower : (x : List ℕ) → ntfs_form (lower x) ≡ lower (ntfs_form x)
unfolding ntfs_form
ntfs_form-lower x = grind (arith, before_first-lower, without_end-lower)

pub device_case_law : (x : List ℕ) → DeviceIgnoresCase x
unfolding is_device is_device_form device_form
device_case_law x = sym (rw (
  before_first-lower (is_among (codes ".:")) refl x,
  without_end-lower (λ b. b == byte " ") refl _,
  lower-lower,
))

is_illegal-lower : (x : List ℕ) → is_illegal (lower x) ≡ is_illegal x
unfolding is_illegal is_illegal_byte
is_illegal-lower x =
    rw (list_any-lower is_illegal_byte refl x, ends-lower (codes ".") refl x, ends-lower (codes " ") refl x)

-- A change of letter case changes neither acceptance nor the fault.
pub case_law : (options : ComponentOptions) (mode : Option ComponentMode) (x : List ℕ)
    → FaultIgnoresCase options mode x
unfolding fault_of conditions
case_law options mode x = grind (
  arith,
  bytes_eq-lower,
  list_any-lower,
  prefix-lower,
  device_case_law,
  is_illegal-lower,
  lower-lower,
  hfs_form-lower,
  ntfs_form-lower,
)

pub device_form_law : (x : List ℕ) → DeviceGoesByForm x
unfolding is_device device_form
device_form_law x = grind (arith, nat_tests, form_cut, form_trimmed)

-- Names with the same form are all devices, or all are not.
pub same_form_law : (x y : List ℕ) → device_form y ≡ device_form x → is_device y ≡ is_device x
unfolding is_device
same_form_law x y same = rw same refl

all_none-first_of : (lines : List (Option ComponentError)) → list_all is_none lines ≡ is_none (first_of lines)
all_none-first_of [] = refl
all_none-first_of (line ∷ lines) = grind (arith, all_none-first_of lines)

-- A text is a component if and only if it has no fault.
pub component_grammar_law : (options : ComponentOptions) (mode : Option ComponentMode) (x : List ℕ)
    → is_component options mode x ≡ is_none (fault_of options mode x)
unfolding is_component fault_of
component_grammar_law options mode x = all_none-first_of (conditions options mode x)

-- None of the conditions holds, each by itself.
abbrev pub AllNone : List (Option ComponentError) → Type 0
AllNone [] = Unit {0}
AllNone (line ∷ lines) = (line ≡ None) × AllNone lines

AllNone-from_first : (lines : List (Option ComponentError)) → first_of lines ≡ None → AllNone lines
AllNone-from_first [] none = tt
AllNone-from_first (line ∷ lines) none = grind (arith, AllNone-from_first lines)

pub first_from_AllNone : (lines : List (Option ComponentError)) → AllNone lines → None ≡ first_of lines
first_from_AllNone [] none = refl
first_from_AllNone (line ∷ lines) none = rw none.0 (first_from_AllNone lines none.1)

-- A name that is plainly a word has forms that stand for it too.
git_forms : (x : List ℕ) → bytes_eq (lower x) (codes ".git") ≡ true
    → (bytes_eq (lower (hfs_form x)) (codes ".git") ≡ true) × (is_git_form (lower (ntfs_form x)) ≡ true)
unfolding components_on_literals
git_forms x plain = rw (sym (hfs_form-lower x), sym (ntfs_form-lower x)) (grind (arith, bytes_eq-Decides))

modules_forms : (x : List ℕ) → bytes_eq (lower x) (codes ".gitmodules") ≡ true
    → (bytes_eq (lower (hfs_form x)) (codes ".gitmodules") ≡ true)
    × (is_modules_form (lower (ntfs_form x)) ≡ true)
unfolding components_on_literals
modules_forms x plain = rw (sym (hfs_form-lower x), sym (ntfs_form-lower x)) (grind (arith, bytes_eq-Decides))

none_under_fewer : (options fewer : ComponentOptions) (mode other : Option ComponentMode)
    → HasOnlySwitchesOf fewer options
    → (IsTrue (is_some other) → IsTrue (is_some mode)) → (x : List ℕ) → AllNone (conditions options mode x)
    → fault_of fewer other x ≡ None
unfolding conditions fault_of
none_under_fewer options fewer mode other part less x none = grind (arith, git_forms, modules_forms)

-- What is accepted is accepted under fewer switches, and without the mode.
pub fewer_law : (options : ComponentOptions) (mode : Option ComponentMode) (x : List ℕ)
    → fault_of options mode x ≡ None → IsValidUnderFewerSwitches options mode x
unfolding fault_of
fewer_law options mode x none = grind (arith, nat_tests, AllNone-from_first, none_under_fewer, false≢true)

has_no_slash-from_none : (x : List ℕ) → is_among x (byte "/") ≡ false → has_no_slash x ≡ true
has_no_slash-from_none [] none = grind arith
has_no_slash-from_none (b ∷ x) none = grind (arith, has_no_slash-from_none x)

-- What is accepted is nonempty, neither `.` nor `..`, has no slash, and isn't `.git` in any case.
pub basic_law : (options : ComponentOptions) (mode : Option ComponentMode) (x : List ℕ)
    → fault_of options mode x ≡ None → IsBasicName x
unfolding fault_of conditions
basic_law options mode x none = grind (arith, has_no_slash-from_none, git_forms)

-- The HFS form is the units without the ignored characters, put one after the other.
pub units_law : (x : List ℕ) → FormIsKeptUnits x
units_law x = hfs_form-units (length x) x (omega arith)
