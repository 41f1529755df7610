-- Offsets of errors: the first offset that has something, and that a path's error is within the path.
use Rattle.gix_validate.proofs.Common.{◌≡◌, ℕ, zero, suc, ◌+◌, ◌<◌, ◌≤◌, Bool, true, false, None}
use Rattle.gix_validate.proofs.Common.{Some, List, [], ◌∷◌, length, refl}
use Rattle.gix_validate.proofs.Common.{arith, add-one, nat_tests}
use Rattle.gix_validate.specs.Faults.{at_first_offset}
use Rattle.gix_validate.proofs.Common.{byte, join_with_byte-slice_split, length-append, ◌==◌}
use Rattle.gix_validate.specs.Pieces.{joined, pieces}
use Rattle.gix_validate.specs.Windows.{is_illegal_byte}
use Rattle.gix_validate.specs.declared.path.ComponentError.{ComponentError}
use Rattle.gix_validate.specs.declared.path.ComponentError.TheVariants as component
use Rattle.gix_validate.proofs.Common.{drop, length-drop, length-take, not}
use Rattle.gix_validate.proofs.TagNames.ClearTexts.{offset_within as tag_offset_within}
use Rattle.gix_validate.specs.Pieces.{is_slash}
use Rattle.gix_validate.specs.Reference.{is_standalone_byte}
use Rattle.gix_validate.specs.Tag.{fault_offset_of as tag_fault_offset_of}
use Rattle.gix_validate.specs.declared.path.ComponentOptions.{ComponentOptions}
use Rattle.gix_validate.specs.declared.reference.NameError.{NameError}
use Rattle.gix_validate.specs.declared.reference.NameError.TheVariants as name
use Rattle.gix_validate.specs.declared.submodule.NameError.{NameError as SubmoduleNameError}
use Rattle.gix_validate.specs.declared.submodule.NameError.TheVariants as parent
use Rattle.std.specs.List.{position}
use Rattle.git_names.proofs.NulLemmas.{path_within_law}
use Rattle.git_names.specs.Paths.{offset_of}
use Rattle.git_names.specs.SafeRefs.{fault_of as safe_fault_of}
use Rattle.git_names.specs.Submodules.{disguised_from, fault_of as submodule_fault_of}
use Rattle.git_names.specs.declared.paths.PathError.{PathError}
use Rattle.git_names.specs.declared.paths.PathError.TheVariants as whole
use Rattle.git_names.specs.declared.references.SafeRefError.TheVariants.{Piece}
use Rattle.git_names.specs.declared.submodules.SubmoduleError.TheVariants.{Disguised, Part}
use Rattle.git_names.specs.Offsets.{at_or, component_offset_of, end_start, has_parent_at, lock_start}
use Rattle.git_names.specs.Offsets.{parent_at, part_at, path_offset_of, reference_offset_of, separates}
use Rattle.git_names.specs.Offsets.{submodule_offset_of, tag_offset_of}
use Rattle.gix_validate.proofs.Common.{ap, Option}

pub position_within : (p : ℕ → Bool) (x : List ℕ) (at : ℕ) → position p x ≡ Some at → at < length x
position_within p [] at some = grind (arith, some)
position_within p (b ∷ x) at some = grind (arith, nat_tests, some, position_within p x)

pub parent_start : (x : List ℕ) → at_first_offset (parent_at x) 0 ≡ None
unfolding at_first_offset
parent_start x = refl

pub parent_more : (x : List ℕ) (i : ℕ) → at_first_offset (parent_at x) i ≡ None → has_parent_at x i ≡ false
    → at_first_offset (parent_at x) (i + 1) ≡ None
unfolding at_first_offset
parent_more x i none here = rw add-one (rw (none, here) refl)

pub parent_found : (x : List ℕ) (i n : ℕ) → at_first_offset (parent_at x) i ≡ None → has_parent_at x i ≡ true
    → i < n → at_first_offset (parent_at x) n ≡ Some i
unfolding at_first_offset
parent_found x i zero none here below = absurd (omega arith)
parent_found x i (suc n) none here below = grind (arith, none, here, parent_found x i n none here)

-- what a search for `..` takes
pub ruleset parents = (parent_start, parent_more, parent_found)

pub safe_start : (options : ComponentOptions) (x : List ℕ) (e : PathError)
    → safe_fault_of options x ≡ Some (Piece e) → offset_of e ≤ length x
unfolding safe_fault_of
safe_start options x e some = grind (arith, some, path_within_law options None x e)

pub submodule_start : (options : ComponentOptions) (x : List ℕ) (e : PathError)
    → submodule_fault_of options x ≡ Some (Part e) → offset_of e ≤ length x
unfolding submodule_fault_of
submodule_start options x e some = grind (arith, some, path_within_law options None x e)

disguise_from : (options : ComponentOptions) (at : ℕ) (ps : List (List ℕ)) (i : ℕ)
    → disguised_from options at ps ≡ Some i → i ≤ at + length (joined ps)
disguise_from options at [] i some = grind (arith, some)
disguise_from options at (p ∷ []) i some = grind (arith, some)
disguise_from options at (p ∷ q ∷ ps) i some =
    grind (arith, some, length-append, disguise_from options (at + (length p + 1)) (q ∷ ps) i)

pub disguise_start : (options : ComponentOptions) (x : List ℕ) (at : ℕ)
    → submodule_fault_of options x ≡ Some (Disguised at) → at ≤ length x
unfolding submodule_fault_of
disguise_start options x at some = grind (
  arith,
  some,
  disguise_from options 0 (pieces x) at,
  ap length (join_with_byte-slice_split (byte "/") x),
)

-- what a check of a path takes
pub ruleset starts_within = (safe_start, submodule_start, disguise_start, path_within_law)

at_or_within : (other : ℕ) (found : Option ℕ) (n : ℕ) → other ≤ n → ((at : ℕ) → found ≡ Some at → at ≤ n)
    → at_or other found ≤ n
at_or_within other None n within below = within
at_or_within other (Some at) n within below = omega (arith, below at refl)

or_within : (x : List ℕ) (p : ℕ → Bool) (other : ℕ) → other ≤ length x → at_or other (position p x) ≤ length x
or_within x p other within =
    at_or_within other (position p x) (length x) within
    (λ at some. omega (arith, position_within p x at some))

-- No offset of a component's fault is past its end.
pub component_within : (options : ComponentOptions) (x : List ℕ) (e : ComponentError)
    → component_offset_of options x e ≤ length x
component_within options x component.PathSeparator = or_within x (separates options) 0 (omega arith)
component_within options [] component.WindowsPathPrefix = omega arith
component_within options (b ∷ x) component.WindowsPathPrefix =
    omega (arith, or_within x (λ c. c == byte ":") 0 (omega arith))
component_within options x component.WindowsIllegalCharacter =
    or_within x is_illegal_byte (end_start x) (omega arith)
component_within options x component.Empty = omega arith
component_within options x component.WindowsReservedName = omega arith
component_within options x component.DotGitDir = omega arith
component_within options x component.SymlinkedGitModules = omega arith
component_within options x component.Relative = omega arith

pub tag_within : (x : List ℕ) → tag_offset_of x ≤ length x
tag_within x =
    at_or_within 0 (tag_fault_offset_of x) (length x) (omega arith)
    (λ at some. omega (arith, tag_offset_within x at some))

lock_within : (x : List ℕ) (at n : ℕ) → at ≤ n → lock_start x at ≤ n
lock_within x at n within = grind (arith, nat_tests)

-- No offset of a reference name's fault is past its end.
pub reference_within : (x : List ℕ) (e : NameError) → reference_offset_of x e ≤ length x
reference_within x (name.Reserved whole) = omega arith
reference_within x name.SomeLowercase = or_within x (λ b. not (is_standalone_byte b)) 0 (omega arith)
reference_within x name.LockFileSuffix = lock_within x (tag_offset_of x) (length x) (tag_within x)
reference_within x (name.InvalidByte b) = tag_within x
reference_within x name.StartsWithSlash = tag_within x
reference_within x name.RepeatedSlash = tag_within x
reference_within x name.RepeatedDot = tag_within x
reference_within x name.ReflogPortion = tag_within x
reference_within x name.Asterisk = tag_within x
reference_within x name.StartsWithDot = tag_within x
reference_within x name.EndsWithDot = tag_within x
reference_within x name.EndsWithSlash = tag_within x
reference_within x name.Empty = tag_within x

part_within : (x : List ℕ) (at : ℕ) → at ≤ length x → at + length (part_at x at) ≤ length x
part_within x at within =
    let rest = drop at x in
    omega (
      arith,
      length-drop at x,
      length-take (at_or (length rest) (position is_slash rest)) rest,
      within,
    )

-- No offset of a path's fault is past its end.
pub path_offset_within : (options : ComponentOptions) (x : List ℕ) (e : PathError) → offset_of e ≤ length x
    → path_offset_of options x e ≤ length x
path_offset_within options x (whole.EmptyPart at) within = within
path_offset_within options x (whole.InvalidPart at e) within =
    omega (arith, part_within x at within, component_within options (part_at x at) e)
path_offset_within options x (whole.Nul at) within = within

parent_within : (x : List ℕ) (n i : ℕ) → at_first_offset (parent_at x) n ≡ Some i → i < n
unfolding at_first_offset
parent_within x zero i some = grind (arith, some)
parent_within x (suc n) i some = grind (arith, some, parent_within x n i)

-- No offset of a submodule name's fault is past its end.
pub submodule_within : (x : List ℕ) (e : SubmoduleNameError) → submodule_offset_of x e ≤ length x
submodule_within x parent.Empty = omega arith
submodule_within x parent.ParentComponent =
    at_or_within 0 (at_first_offset (parent_at x) (length x)) (length x) (omega arith)
    (λ at some. omega (arith, parent_within x (length x) at some))
