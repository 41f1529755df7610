-- Paths: what is left of one, from an offset on, and that a text is a path if and only if it has no fault.
use Rattle.gix_validate.proofs.Common.{◌≡◌, ◌≢◌, All, ℕ, ◌+◌, Bool, true, false, None, Some, Option}
use Rattle.gix_validate.proofs.Common.{List, [], ◌∷◌, length, ◌&&◌}
use Rattle.gix_validate.proofs.Common.{◌≤◌, ◌-◌, take, drop, length-drop, length-take-le, refl}
use Rattle.gix_validate.proofs.Common.{arith, is_none, All-cons}
use Rattle.gix_validate.proofs.Common.{ap, ◌∙◌, take_rest, length-append}
use Rattle.gix_validate.proofs.Common.{join_with_byte-slice_split}
use Rattle.gix_validate.proofs.Components.Laws.{component_grammar_law, basic_law}
use Rattle.gix_validate.proofs.Texts.Pieces.{pieces_some}
use Rattle.gix_validate.specs.Component.{conditions, fault_of as component_fault_of, is_component}
use Rattle.gix_validate.specs.ComponentLaws.{IsBasicName}
use Rattle.gix_validate.specs.Pieces.{pieces, joined}
use Rattle.gix_validate.specs.Faults.{when, first_of}
use Rattle.gix_validate.specs.declared.path.ComponentError.{ComponentError}
use Rattle.gix_validate.specs.declared.path.ComponentError.TheVariants.{Empty, PathSeparator}
use Rattle.gix_validate.specs.declared.path.ComponentError.TheVariants.{WindowsPathPrefix}
use Rattle.gix_validate.specs.declared.path.ComponentError.TheVariants.{WindowsReservedName}
use Rattle.gix_validate.specs.declared.path.ComponentError.TheVariants.{WindowsIllegalCharacter}
use Rattle.gix_validate.specs.declared.path.ComponentError.TheVariants.{DotGitDir}
use Rattle.gix_validate.specs.declared.path.ComponentError.TheVariants.{SymlinkedGitModules}
use Rattle.gix_validate.specs.declared.path.ComponentError.TheVariants.{Relative}
use Rattle.gix_validate.specs.declared.path.ComponentMode.{ComponentMode}
use Rattle.gix_validate.specs.declared.path.ComponentOptions.{ComponentOptions}
use Rattle.std.proofs.lemmas.List.Elements.{All-nil}
use Rattle.git_names.proofs.SlashLemmas.{last_piece_from, piece_from}
use Rattle.git_names.specs.Private.Slashes.{IsFirstSlash, NoSlash}
use Rattle.git_names.specs.Paths.{are_components, has_valid_parts, part_fault_of, fault_from, parts_fault_of}
use Rattle.git_names.specs.Paths.{offset_of}
use Rattle.git_names.specs.declared.paths.PathError.{PathError}
use Rattle.git_names.specs.declared.paths.PathError.TheVariants.{InvalidPart}

-- no component is empty
empty_component : (options : ComponentOptions) (mode : Option ComponentMode)
    → is_component options mode [] ≡ false
unfolding is_component conditions
empty_component options mode = refl

-- a part is a component if and only if it has no fault
part_grammar : (options : ComponentOptions) (mode : Option ComponentMode) (at : ℕ) (part : List ℕ)
    → is_component options mode part ≡ is_none (part_fault_of options mode at part)
part_grammar options mode at [] = empty_component options mode
part_grammar options mode at (b ∷ part) = grind (arith, component_grammar_law options mode (b ∷ part))

grammar_from : (options : ComponentOptions) (mode : Option ComponentMode) (at : ℕ) (texts : List (List ℕ))
    → are_components options mode texts ≡ is_none (fault_from options mode at texts)
grammar_from options mode at [] = refl
grammar_from options mode at (last ∷ []) = part_grammar options mode at last
grammar_from options mode at (part ∷ next ∷ more) = grind (
  arith,
  part_grammar options None at part,
  grammar_from options mode (at + (length part + 1)) (next ∷ more),
)

-- A text is a path if and only if it has no fault.
pub parts_grammar_law : (options : ComponentOptions) (mode : Option ComponentMode) (x : List ℕ)
    → has_valid_parts options mode x ≡ is_none (parts_fault_of options mode x)
unfolding parts_fault_of has_valid_parts
parts_grammar_law options mode x = grammar_from options mode 0 (pieces x)

-- a part without a fault is a basic name
basic_part : (options : ComponentOptions) (mode : Option ComponentMode) (at : ℕ) (part : List ℕ)
    → part_fault_of options mode at part ≡ None → IsBasicName part
basic_part options mode at [] none = grind arith
basic_part options mode at (b ∷ part) none = basic_law options mode (b ∷ part) (grind arith)

basic_from : (options : ComponentOptions) (mode : Option ComponentMode) (at : ℕ) (texts : List (List ℕ))
    → fault_from options mode at texts ≡ None → All IsBasicName texts
basic_from options mode at [] none = All-nil IsBasicName
basic_from options mode at (last ∷ []) none =
    All-cons IsBasicName last [] (basic_part options mode at last none) (All-nil IsBasicName)
basic_from options mode at (part ∷ next ∷ more) none =
    All-cons IsBasicName part (next ∷ more) (basic_part options None at part (grind arith))
    (basic_from options mode (at + (length part + 1)) (next ∷ more) (grind arith))

-- The parts of a path are basic names.
pub parts_basic_law : (options : ComponentOptions) (mode : Option ComponentMode) (x : List ℕ)
    → parts_fault_of options mode x ≡ None → All IsBasicName (pieces x)
unfolding parts_fault_of
parts_basic_law options mode x none = basic_from options mode 0 (pieces x) none

-- a line that doesn't find that a name is empty, and lines of which each doesn't
abbrev Others : List (Option ComponentError) → Type 0
Others [] = Unit {0}
Others (line ∷ lines) = (line ≢ Some Empty) × Others lines

other_line : (t : Bool) (e : ComponentError) → e ≢ Empty → when t e ≢ Some Empty
other_line true e other same = other (grind (arith, same))
other_line false e other same = grind (arith, same)

other_lines : (lines : List (Option ComponentError)) → Others lines → first_of lines ≢ Some Empty
other_lines [] others same = grind (arith, same)
other_lines (None ∷ lines) others same = other_lines lines others.1 same
other_lines (Some e ∷ lines) others same = others.0 same

-- no component but the empty one is refused as empty
other_component : (options : ComponentOptions) (mode : Option ComponentMode) (b : ℕ) (x : List ℕ)
    → component_fault_of options mode (b ∷ x) ≢ Some Empty
unfolding component_fault_of conditions
other_component options mode b x = other_lines (conditions options mode (b ∷ x)) (
  λ e. grind (arith, e),
  (
    other_line _ Relative (λ e. grind (arith, e)),
    (
      other_line _ PathSeparator (λ e. grind (arith, e)),
      (
        other_line _ WindowsPathPrefix (λ e. grind (arith, e)),
        (
          other_line _ DotGitDir (λ e. grind (arith, e)),
          (
            other_line _ SymlinkedGitModules (λ e. grind (arith, e)),
            (
              other_line _ DotGitDir (λ e. grind (arith, e)),
              (
                other_line _ SymlinkedGitModules (λ e. grind (arith, e)),
                (
                  other_line _ WindowsReservedName (λ e. grind (arith, e)),
                  (
                    other_line _ WindowsIllegalCharacter (λ e. grind (arith, e)),
                    (
                      other_line _ DotGitDir (λ e. grind (arith, e)),
                      (
                        other_line _ SymlinkedGitModules (λ e. grind (arith, e)),
                        tt,
                      ),
                    ),
                  ),
                ),
              ),
            ),
          ),
        ),
      ),
    ),
  ),
)

other_part : (options : ComponentOptions) (mode : Option ComponentMode) (at : ℕ) (part : List ℕ) (k : ℕ)
    → part_fault_of options mode at part ≢ Some (InvalidPart k Empty)
other_part options mode at [] k e = grind (arith, e)
other_part options mode at (b ∷ part) k e = grind (arith, e, other_component options mode b part)

other_from : (options : ComponentOptions) (mode : Option ComponentMode) (at : ℕ)
    (texts : List (List ℕ)) (k : ℕ)
    → fault_from options mode at texts ≢ Some (InvalidPart k Empty)
other_from options mode at [] k e = grind (arith, e)
other_from options mode at (last ∷ []) k e = other_part options mode at last k e
other_from options mode at (part ∷ next ∷ more) k e = grind (
  arith,
  e,
  other_part options None at part k,
  other_from options mode (at + (length part + 1)) (next ∷ more) k,
)

-- An empty part has a fault of its own, and never that of a component.
pub parts_other_law : (options : ComponentOptions) (mode : Option ComponentMode) (x : List ℕ) (k : ℕ)
    → parts_fault_of options mode x ≢ Some (InvalidPart k Empty)
unfolding parts_fault_of
parts_other_law options mode x k e = other_from options mode 0 (pieces x) k e

-- the rest of a path, from the offset on, has the fault of the whole
pub record LeftOf (options : ComponentOptions) (mode : Option ComponentMode) (x : List ℕ)
    (start : ℕ) : Type 0 where
  pub within : start ≤ length x
  pub fault : parts_fault_of options mode x ≡ fault_from options mode start (pieces (drop start x))

pub LeftOf-start : (options : ComponentOptions) (mode : Option ComponentMode) (x : List ℕ)
    → LeftOf options mode x 0
unfolding parts_fault_of
LeftOf-start options mode x = record { within = grind arith; fault = refl }

-- a part that is a component passes the fault on
fault_next : (options : ComponentOptions) (mode : Option ComponentMode) (at : ℕ) (part : List ℕ)
    (others : List (List ℕ)) → others ≢ [] → is_component options None part ≡ true
    → fault_from options mode at (part ∷ others) ≡ fault_from options mode (at + (length part + 1)) others
fault_next options mode at part [] some valid = absurd (some refl)
fault_next options mode at part (next ∷ more) some valid =
    grind (arith, part_grammar options None at part, valid)

-- after a part that is a component
pub LeftOf-after : (options : ComponentOptions) (mode : Option ComponentMode) (x : List ℕ) (start end : ℕ)
    → LeftOf options mode x start → IsFirstSlash x start end
    → is_component options None (take (end - start) (drop start x)) ≡ true → LeftOf options mode x (end + 1)
LeftOf-after options mode x start end left first valid =
    let part = take (end - start) (drop start x) in
    let long : start + (length part + 1) ≡ end + 1 =
    omega (
      arith,
      first.ordered,
      first.within,
      length-take-le (end - start) (drop start x) (omega (arith, first.within, length-drop start x)),
    ) in
    record {
      within = omega (arith, first.within);
      fault =
          left.fault ∙ ap (fault_from options mode start) (piece_from x start end first)
          ∙ fault_next options mode start part (pieces (drop (end + 1) x))
          (pieces_some (drop (end + 1) x)) valid
          ∙ ap (λ at. fault_from options mode at (pieces (drop (end + 1) x))) long;
    }

-- at a part that is none
fault_here : (options : ComponentOptions) (mode : Option ComponentMode) (at : ℕ) (part : List ℕ)
    (others : List (List ℕ)) → others ≢ [] → is_component options None part ≡ false
    → fault_from options mode at (part ∷ others) ≡ part_fault_of options None at part
fault_here options mode at part [] some invalid = absurd (some refl)
fault_here options mode at part (next ∷ more) some invalid =
    grind (arith, part_grammar options None at part, invalid)

pub LeftOf-fault : (options : ComponentOptions) (mode : Option ComponentMode) (x : List ℕ) (start end : ℕ)
    → LeftOf options mode x start → IsFirstSlash x start end
    → is_component options None (take (end - start) (drop start x)) ≡ false
    → parts_fault_of options mode x ≡ part_fault_of options None start (take (end - start) (drop start x))
LeftOf-fault options mode x start end left first invalid =
    left.fault ∙ ap (fault_from options mode start) (piece_from x start end first)
    ∙ fault_here options mode start (take (end - start) (drop start x)) (pieces (drop (end + 1) x))
    (pieces_some (drop (end + 1) x)) invalid

-- at the last part
pub LeftOf-last : (options : ComponentOptions) (mode : Option ComponentMode) (x : List ℕ) (start : ℕ)
    → LeftOf options mode x start → NoSlash x start (length x)
    → parts_fault_of options mode x
    ≡ part_fault_of options mode start (take (length x - start) (drop start x))
LeftOf-last options mode x start left none =
    let rest : take (length x - start) (drop start x) ≡ drop start x = grind (arith, take_rest) in
    rw rest (left.fault ∙ ap (fault_from options mode start) (last_piece_from x start left.within none))

-- which has no fault if it is a component
pub LeftOf-none : (options : ComponentOptions) (mode : Option ComponentMode) (x : List ℕ) (start : ℕ)
    → LeftOf options mode x start → NoSlash x start (length x)
    → is_component options mode (take (length x - start) (drop start x)) ≡ true
    → parts_fault_of options mode x ≡ None
LeftOf-none options mode x start left none valid =
    let part = take (length x - start) (drop start x) in
    LeftOf-last options mode x start left none ∙ grind (arith, part_grammar options mode start part, valid)

-- a path is one if its first part is a component, and the rest is a path
first_part : (options : ComponentOptions) (mode : Option ComponentMode) (part : List ℕ)
    (others : List (List ℕ)) → others ≢ []
    → are_components options mode (part ∷ others)
    ≡ (is_component options None part && are_components options mode others)
first_part options mode part [] some = absurd (some refl)
first_part options mode part (next ∷ more) some = refl

pub path_by_first_part : (options : ComponentOptions) (mode : Option ComponentMode) (x : List ℕ) (end : ℕ)
    → IsFirstSlash x 0 end
    → has_valid_parts options mode x
    ≡ (is_component options None (take end x)
    && has_valid_parts options mode (take (length x - (end + 1)) (drop (end + 1) x)))
unfolding has_valid_parts
path_by_first_part options mode x end first =
    let rest : take (length x - (end + 1)) (drop (end + 1) x) ≡ drop (end + 1) x = grind (arith, take_rest) in
    let split : pieces x ≡ take end x ∷ pieces (drop (end + 1) x) = grind (arith, piece_from x 0 end first) in
    rw rest (
    ap (are_components options mode) split
    ∙ first_part options mode (take end x) (pieces (drop (end + 1) x)) (pieces_some (drop (end + 1) x))
    )

-- a part without a slash is one if it is a component
pub path_of_one_part : (options : ComponentOptions) (mode : Option ComponentMode) (x : List ℕ)
    → NoSlash x 0 (length x) → has_valid_parts options mode x ≡ is_component options mode x
unfolding has_valid_parts
path_of_one_part options mode x none =
    ap (are_components options mode) (last_piece_from x 0 (omega arith) none)

-- a part's fault is at the offset at which the part begins
pub fault_begins : (options : ComponentOptions) (mode : Option ComponentMode) (at : ℕ) (part : List ℕ)
    (e : PathError)
    → part_fault_of options mode at part ≡ Some e → offset_of e ≡ at
fault_begins options mode at part e some = grind (arith, some)

-- the offset of the fault of the first of these parts that has one
begins_within : (options : ComponentOptions) (mode : Option ComponentMode) (at : ℕ)
    (texts : List (List ℕ)) (e : PathError)
    → fault_from options mode at texts ≡ Some e → offset_of e ≤ at + length (joined texts)
begins_within options mode at [] e some = grind (arith, some)
begins_within options mode at (last ∷ []) e some = grind (arith, fault_begins options mode at last e some)
begins_within options mode at (part ∷ next ∷ more) e some = grind (
  arith,
  some,
  length-append,
  fault_begins options None at part e,
  begins_within options mode (at + (length part + 1)) (next ∷ more) e,
)

-- A fault is at an offset of the path, or right after it.
pub parts_within_law : (options : ComponentOptions) (mode : Option ComponentMode) (x : List ℕ) (e : PathError)
    → parts_fault_of options mode x ≡ Some e → offset_of e ≤ length x
unfolding parts_fault_of
parts_within_law options mode x e some =
    omega (arith, begins_within options mode 0 (pieces x) e some, ap length (join_with_byte-slice_split 47 x))
