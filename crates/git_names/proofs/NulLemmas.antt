-- Paths: the laws of the parts, and that no component has a NUL where Windows and NTFS are protected.
use Rattle.gix_validate.proofs.Common.{◌≡◌, ◌≢◌, All, ℕ, ◌≤◌, ◌<◌, true, false, None, Some, Option}
use Rattle.gix_validate.proofs.Common.{List, [], ◌∷◌, length, not, arith, is_none, list_any}
use Rattle.gix_validate.proofs.Common.{nat_tests, list_any-append, refl}
use Rattle.gix_validate.proofs.Common.{join_with_byte-slice_split, byte}
use Rattle.gix_validate.specs.Component.{conditions, is_component}
use Rattle.gix_validate.specs.ComponentLaws.{IsBasicName}
use Rattle.gix_validate.specs.Pieces.{joined, pieces}
use Rattle.gix_validate.specs.Windows.{is_illegal, is_illegal_byte}
use Rattle.gix_validate.specs.declared.path.ComponentError.TheVariants.{Empty}
use Rattle.gix_validate.specs.declared.path.ComponentMode.{ComponentMode}
use Rattle.gix_validate.specs.declared.path.ComponentOptions.{ComponentOptions}
use Rattle.std.specs.List.{position}
use Rattle.git_names.proofs.PathLemmas.{parts_basic_law, parts_grammar_law, parts_other_law}
use Rattle.git_names.proofs.PathLemmas.{parts_within_law}
use Rattle.git_names.specs.Paths.{are_components, fault_of, has_valid_parts, is_nul, is_path, offset_of}
use Rattle.git_names.specs.Paths.{parts_fault_of}
use Rattle.git_names.specs.declared.paths.PathError.{PathError}
use Rattle.git_names.specs.declared.paths.PathError.TheVariants.{InvalidPart}

-- a place or none
found : (x : List ℕ) → is_none (position is_nul x) ≡ not (list_any is_nul x)
found [] = refl
found (b ∷ x) = grind (arith, nat_tests, found x)

found_within : (x : List ℕ) (at : ℕ) → position is_nul x ≡ Some at → at < length x
found_within [] at some = grind (arith, some)
found_within (b ∷ x) at some = grind (arith, nat_tests, some, found_within x)

-- A text is a path if and only if it has no fault.
pub path_grammar_law : (options : ComponentOptions) (mode : Option ComponentMode) (x : List ℕ)
    → is_path options mode x ≡ is_none (fault_of options mode x)
unfolding fault_of is_path
path_grammar_law options mode x = grind (arith, parts_grammar_law options mode x, found x)

pub path_basic_law : (options : ComponentOptions) (mode : Option ComponentMode) (x : List ℕ)
    → fault_of options mode x ≡ None → All IsBasicName (pieces x)
unfolding fault_of
path_basic_law options mode x none = parts_basic_law options mode x (grind (arith, none))

pub path_other_law : (options : ComponentOptions) (mode : Option ComponentMode) (x : List ℕ) (k : ℕ)
    → fault_of options mode x ≢ Some (InvalidPart k Empty)
unfolding fault_of
path_other_law options mode x k e = grind (arith, e, parts_other_law options mode x k)

pub path_within_law : (options : ComponentOptions) (mode : Option ComponentMode) (x : List ℕ) (e : PathError)
    → fault_of options mode x ≡ Some e → offset_of e ≤ length x
unfolding fault_of
path_within_law options mode x e some = grind (arith, some, parts_within_law options mode x, found_within x)

-- a NUL is illegal on Windows
nul_illegal : (x : List ℕ) → list_any is_illegal_byte x ≡ false → list_any is_nul x ≡ false
unfolding is_illegal_byte
nul_illegal [] h = refl
nul_illegal (b ∷ x) h = grind (arith, nat_tests, nul_illegal x)

component_no_nul : (options : ComponentOptions) (mode : Option ComponentMode) (x : List ℕ)
    → options.protect_windows ≡ true → options.protect_ntfs ≡ true → is_component options mode x ≡ true
    → list_any is_nul x ≡ false
unfolding is_component conditions is_illegal
component_no_nul options mode x windows ntfs valid =
    grind (arith, nat_tests, valid, windows, ntfs, nul_illegal x)

joined_no_nul : (options : ComponentOptions) (mode : Option ComponentMode) (ps : List (List ℕ))
    → options.protect_windows ≡ true → options.protect_ntfs ≡ true → are_components options mode ps ≡ true
    → list_any is_nul (joined ps) ≡ false
joined_no_nul options mode [] windows ntfs valid = refl
joined_no_nul options mode (p ∷ []) windows ntfs valid =
    component_no_nul options mode p windows ntfs (grind (arith, valid))
joined_no_nul options mode (p ∷ q ∷ ps) windows ntfs valid = grind (
  arith,
  valid,
  list_any-append is_nul p (byte "/" ∷ joined (q ∷ ps)),
  component_no_nul options None p windows ntfs,
  joined_no_nul options mode (q ∷ ps) windows ntfs,
)

-- No path has a NUL where Windows and NTFS are protected.
pub no_nul : (options : ComponentOptions) (mode : Option ComponentMode) (x : List ℕ)
    → parts_fault_of options mode x ≡ None → options.protect_windows ≡ true → options.protect_ntfs ≡ true
    → position is_nul x ≡ None
unfolding has_valid_parts
no_nul options mode x valid windows ntfs =
    let parts : are_components options mode (pieces x) ≡ true =
    grind (arith, valid, parts_grammar_law options mode x) in
    let none = joined_no_nul options mode (pieces x) windows ntfs parts in
    let same : joined (pieces x) ≡ x = join_with_byte-slice_split (byte "/") x in
    grind (arith, found x, none, same)

-- what `path` takes from here
pub ruleset path_laws = (path_grammar_law, path_basic_law, path_other_law, path_within_law)
