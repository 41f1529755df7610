-- Ordinary names: no condition but the one on devices refuses one.
use Rattle.gix_validate.proofs.Common.{◌≡◌, ℕ, ◌-◌, ◌<◌, ◌≤◌, Bool, true, false, ◌&&◌, ◌||◌, Option}
use Rattle.gix_validate.proofs.Common.{Some, List, [], ◌∷◌, ◌++◌, length, get_or, refl, ◌∙◌}
use Rattle.gix_validate.proofs.Common.{arith, codes, slice_index, is_some, ◌==◌, list_any, byte}
use Rattle.gix_validate.proofs.Common.{bytes_eq, or_parts, bytes_eq-Decides, nat_tests}
use Rattle.gix_validate.proofs.Common.{list_any_none, list_any_at, common_steps, and-false}
use Rattle.gix_validate.proofs.Components.Laws.{case_law}
use Rattle.gix_validate.proofs.OnLiterals.{components_on_literals}
use Rattle.gix_validate.proofs.Texts.LetterCase.{list_any-lower}
use Rattle.gix_validate.proofs.Texts.Endings.{ends_read}
use Rattle.gix_validate.proofs.Components.HfsForm.{is_lead, hfs_form_same}
use Rattle.gix_validate.proofs.Components.Forms.{form, form_at}
use Rattle.gix_validate.specs.declared.path.ComponentError.TheVariants.{WindowsReservedName}
use Rattle.gix_validate.specs.declared.path.ComponentError.TheVariants.{PathSeparator, DotGitDir}
use Rattle.gix_validate.specs.declared.path.ComponentError.TheVariants.{SymlinkedGitModules}
use Rattle.gix_validate.specs.declared.path.ComponentMode.{ComponentMode}
use Rattle.gix_validate.specs.declared.path.ComponentOptions.{ComponentOptions}
use Rattle.gix_validate.specs.Private.Classes.{is_classed}
use Rattle.gix_validate.specs.Bytes.{is_among, ends, lower}
use Rattle.gix_validate.specs.Faults.{when}
use Rattle.gix_validate.specs.Units.{first_unit_len}
use Rattle.gix_validate.specs.Ntfs.{ntfs_form, is_git_form, is_modules_form, is_short_name}
use Rattle.gix_validate.specs.Windows.{is_device, is_illegal, is_illegal_byte}
use Rattle.gix_validate.specs.Component.{conditions, fault_of}

abbrev is_tilde : ℕ → Bool
is_tilde b = b == byte "~"

-- what a name without classed bytes has none of
unclassed : (x : List ℕ) → list_any is_classed x ≡ false
    → (list_any is_illegal_byte x ≡ false) × (list_any is_lead x ≡ false)
    × (is_among x (byte "/") ≡ false) × (is_among x (byte "\\") ≡ false)
    × (list_any is_tilde x ≡ false)
unfolding is_classed
unclassed [] none = grind arith
unclassed (b ∷ x) none = grind (arith, unclassed x)

uncut_byte : (b : ℕ) → is_classed b ≡ false → is_among (codes ":\\") b ≡ false
unfolding is_classed is_illegal_byte
uncut_byte b none = grind arith

uncut : (x : List ℕ) → list_any is_classed x ≡ false → list_any (is_among (codes ":\\")) x ≡ false
uncut [] none = refl
uncut (b ∷ x) none =
    let parts = or_parts (is_classed b) (list_any is_classed x) none in
    rw (uncut_byte b parts.0) (uncut x parts.1)

-- a name with no illegal byte has no prefix
pub legal_no_prefix : (x : List ℕ) (n : ℕ) → list_any is_illegal_byte x ≡ false
    → (slice_index x n == byte ":") ≡ false
unfolding is_illegal_byte
legal_no_prefix x n legal = grind (arith, common_steps, list_any_at)

form_further : (cut trim : ℕ → Bool) (b c : ℕ) (x : List ℕ) → cut b ≡ false
    → form cut trim (c ∷ x) ≡ c ∷ x → form cut trim (b ∷ c ∷ x) ≡ b ∷ c ∷ x
form_further cut trim b c x stays rest = grind (arith, form_at cut trim b (c ∷ x))

-- a form from which nothing is cut
form_same : (cut trim : ℕ → Bool) (b : ℕ) (x : List ℕ) → list_any cut (b ∷ x) ≡ false
    → trim (get_or (b ∷ x) (length x) 0) ≡ false → form cut trim (b ∷ x) ≡ b ∷ x
form_same cut trim b [] none last = grind arith
form_same cut trim b (c ∷ x) none last =
    let parts = or_parts (cut b) (list_any cut (c ∷ x)) none in
    form_further cut trim b c x parts.0 (form_same cut trim c x parts.1 last)

own_form : (b : ℕ) (x : List ℕ) → (ends (b ∷ x) (codes ".") || ends (b ∷ x) (codes " ")) ≡ false
    → list_any is_classed (b ∷ x) ≡ false → ntfs_form (b ∷ x) ≡ b ∷ x
unfolding ntfs_form
own_form b x end classed =
    form_same (is_among (codes ":\\")) (is_among (codes " .")) b x
    (uncut (b ∷ x) classed) (grind (arith, ends_read (b ∷ x)))

other_word : (f word : List ℕ) → list_any is_tilde f ≡ false → list_any is_tilde word ≡ true
    → bytes_eq f word ≡ false
other_word f word none some = grind (arith, bytes_eq-Decides)

no_short_name : (k : ℕ) (f : List ℕ) → list_any is_tilde f ≡ false → is_short_name k f ≡ false
no_short_name k f none = grind (arith, common_steps, list_any_at is_tilde f k 0)

no_form : (f : List ℕ) → list_any is_tilde f ≡ false → bytes_eq f (codes ".git") ≡ false
    → bytes_eq f (codes ".gitmodules") ≡ false → (is_git_form f ≡ false) × (is_modules_form f ≡ false)
unfolding is_git_form is_modules_form
no_form f clean git modules =
    let digits = list_any_none (λ digit. bytes_eq f (codes "gitmod~" ++ digit ∷ [])) (codes "1234") (λ k d h.
    other_word f _ clean refl) in
    let short = list_any_none (λ k. is_short_name k f) (0 ∷ 1 ∷ 2 ∷ 3 ∷ 4 ∷ 5 ∷ 6 ∷ []) (λ k d h.
    no_short_name _ f clean) in
    (rw (git, other_word f (codes "git~1") clean refl) refl, rw (modules, digits, short) refl)

-- a text that ends otherwise is another text
other_end : (x : List ℕ) → ends x (codes ".") ≡ false
    → (bytes_eq x (codes ".") || bytes_eq x (codes "..")) ≡ false
other_end x other = grind (arith, bytes_eq-Decides)

pub ordinary_fault : (options : ComponentOptions) (mode : Option ComponentMode) (x : List ℕ) → 1 ≤ length x
    → (ends x (codes ".") || ends x (codes " ")) ≡ false → list_any is_classed x ≡ false
    → bytes_eq (lower x) (codes ".git") ≡ false → bytes_eq (lower x) (codes ".gitmodules") ≡ false
    → fault_of options mode x
    ≡ when (options.protect_windows && options.protect_ntfs && is_device x) WindowsReservedName
unfolding fault_of conditions is_illegal
ordinary_fault options mode [] some end classed git modules = absurd (omega arith)
ordinary_fault options mode (b ∷ x) some end classed git modules =
    let ends = or_parts (ends (b ∷ x) (codes ".")) (ends (b ∷ x) (codes " ")) end in
    let none = unclassed (b ∷ x) classed in
    let forms = no_form (lower (b ∷ x)) (list_any-lower is_tilde refl (b ∷ x) ∙ none.4) git modules in
    rw (
      other_end (b ∷ x) ends.0,
      none.2,
      none.3,
      legal_no_prefix (b ∷ x) (first_unit_len (b ∷ x)) none.0,
      hfs_form_same (b ∷ x) none.1,
      own_form b x end classed,
      forms.0,
      forms.1,
      git,
      modules,
      none.0,
      ends.0,
      ends.1,
    ) (simp and-false (grind arith))

fault_of_git : (options : ComponentOptions) (mode : Option ComponentMode)
    → (fault_of options mode (codes ".git") ≡ Some DotGitDir)
    × (fault_of options mode (codes ".gitmodules") ≡ when (is_some mode) SymlinkedGitModules)
unfolding components_on_literals
fault_of_git options mode = grind arith

-- `.git` and `.gitmodules` in any letter case
pub special_fault : (options : ComponentOptions) (mode : Option ComponentMode) (x : List ℕ)
    → (bytes_eq (lower x) (codes ".git") ≡ true → fault_of options mode x ≡ Some DotGitDir)
    × (bytes_eq (lower x) (codes ".gitmodules") ≡ true
    → fault_of options mode x ≡ when (is_some mode) SymlinkedGitModules)
special_fault options mode x =
    grind (arith, case_law options mode x, bytes_eq-Decides, fault_of_git options mode)

pub ruleset faults_of_ordinary = (ordinary_fault, special_fault)

pub separator_fault : (options : ComponentOptions) (mode : Option ComponentMode) (x : List ℕ)
    → (is_among x (byte "/") || (options.protect_windows && is_among x (byte "\\"))) ≡ true
    → fault_of options mode x ≡ Some PathSeparator
unfolding fault_of conditions
separator_fault options mode x has = grind (arith, nat_tests, bytes_eq-Decides)

-- A name of one or two bytes is `.` or `..` if its first and its last are dots.
pub relative_by_ends : (x : List ℕ) → 1 ≤ length x → length x < 3
    → (bytes_eq x (codes ".") || bytes_eq x (codes ".."))
    ≡ (get_or x 0 0 == byte "." && get_or x (length x - 1) 0 == byte ".")
relative_by_ends (p ∷ []) some few = grind arith
relative_by_ends (p ∷ q ∷ []) some few = grind arith
relative_by_ends _ some few = absurd (omega arith)

-- what the search for the first fault takes from above
pub ruleset first_faults = (separator_fault, ordinary_fault)
