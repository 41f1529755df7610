-- Submodule names: a text is one if and only if it has no fault, and where the first disguised part is.
use Rattle.gix_validate.proofs.Common.{◌≡◌, ℕ, ◌+◌, ◌-◌, ◌<◌, ◌≤◌, ◌&&◌, ◌∙◌, Bool, true, false, not, None}
use Rattle.gix_validate.proofs.Common.{Some, Option, List, [], ◌∷◌, length, take, drop, get_or, refl, sym, ap}
use Rattle.gix_validate.proofs.Common.{arith, is_none, list_any, nat_tests, take_rest, length-drop}
use Rattle.gix_validate.proofs.Common.{length-take-le, if◌then◌else◌, codes, ◌||◌}
use Rattle.gix_validate.proofs.Components.NtfsForm.{is_ntfs_cut, is_ntfs_trimmed}
use Rattle.gix_validate.proofs.Texts.Words.{form_left, form_all_left}
use Rattle.gix_validate.specs.Bytes.{is_empty}
use Rattle.gix_validate.specs.Faults.{when, ◌orelse◌}
use Rattle.gix_validate.specs.Ntfs.{ntfs_form}
use Rattle.gix_validate.specs.Pieces.{pieces}
use Rattle.gix_validate.specs.Submodule.{fault_of as name_fault_of, is_submodule_name}
use Rattle.gix_validate.specs.declared.path.ComponentOptions.{ComponentOptions}
use Rattle.gix_validate.specs.declared.submodule.NameError.{NameError}
use Rattle.git_names.proofs.NulLemmas.{path_grammar_law}
use Rattle.git_names.proofs.SlashLemmas.{last_piece_from, piece_from}
use Rattle.git_names.specs.Private.Slashes.{IsFirstSlash, NoSlash}
use Rattle.git_names.specs.Submodules.{disguised_from, fault_of, is_disguised, is_submodule}

pub name_grammar : (x : List ℕ) → is_submodule_name x ≡ is_none (name_fault_of x)
unfolding is_submodule_name name_fault_of
name_grammar x = grind arith

no_disguise : (options : ComponentOptions) (at : ℕ) (ps : List (List ℕ))
    → is_none (disguised_from options at ps) ≡ not (list_any (is_disguised options) ps)
no_disguise options at [] = refl
no_disguise options at (p ∷ ps) = grind (arith, no_disguise options (at + (length p + 1)) ps)

-- A text is a submodule name if and only if it has no fault.
pub submodule_grammar_law : (options : ComponentOptions) (x : List ℕ)
    → is_submodule options x ≡ is_none (fault_of options x)
unfolding is_submodule fault_of
submodule_grammar_law options x =
    grind (arith, name_grammar x, path_grammar_law options None x, no_disguise options 0 (pieces x))

-- a text that is no submodule name under no protection is none under any
pub other_submodule : (options : ComponentOptions) (x : List ℕ) (e : NameError) → name_fault_of x ≡ Some e
    → is_submodule options x ≡ false
unfolding is_submodule
other_submodule options x e fault = grind (arith, fault, name_grammar x)

-- what is left of a form
pub ntfs_left : (x : List ℕ) (i : ℕ) → i < length x
    → is_empty (ntfs_form (drop i x))
    ≡ (if is_ntfs_cut (get_or x i 0) then true
    else (if is_ntfs_trimmed (get_or x i 0) then is_empty (ntfs_form (drop (i + 1) x)) else false))
unfolding ntfs_form
ntfs_left x i within = form_left is_ntfs_cut is_ntfs_trimmed x i within

pub ntfs_all_left : (x : List ℕ) (i : ℕ) → length x ≤ i → is_empty (ntfs_form (drop i x)) ≡ true
unfolding ntfs_form
ntfs_all_left x i past = form_all_left is_ntfs_cut is_ntfs_trimmed x i past

-- what a loop over a part takes
pub ruleset ntfs_steps = (nat_tests, ntfs_left, ntfs_all_left)

when_else : (t : Bool) (at : ℕ) → (when t at orelse None) ≡ when t at
when_else true at = refl
when_else false at = refl

-- No part before the offset is disguised.
pub record DisguisedFrom (options : ComponentOptions) (x : List ℕ) (start : ℕ) : Type 0 where
  pub within : start ≤ length x
  pub same : disguised_from options start (pieces (drop start x)) ≡ disguised_from options 0 (pieces x)

pub DisguisedFrom-start : (options : ComponentOptions) (x : List ℕ) → DisguisedFrom options x 0
DisguisedFrom-start options x = record { within = omega arith; same = refl }

pub DisguisedFrom-here : (options : ComponentOptions) (x : List ℕ) (start end : ℕ)
    → DisguisedFrom options x start → IsFirstSlash x start end
    → is_disguised options (take (end - start) (drop start x)) ≡ true
    → disguised_from options 0 (pieces x) ≡ Some start
DisguisedFrom-here options x start end from first found =
    let part = take (end - start) (drop start x) in
    sym from.same ∙ ap (disguised_from options start) (piece_from x start end first)
    ∙ grind (arith, found)

pub DisguisedFrom-after : (options : ComponentOptions) (x : List ℕ) (start end : ℕ)
    → DisguisedFrom options x start → IsFirstSlash x start end
    → is_disguised options (take (end - start) (drop start x)) ≡ false → DisguisedFrom options x (end + 1)
DisguisedFrom-after options x start end from first none =
    let part = take (end - start) (drop start x) in
    let rest = pieces (drop (end + 1) x) in
    let long : start + (length part + 1) ≡ end + 1 =
    omega (
      arith,
      first.ordered,
      first.within,
      length-take-le (end - start) (drop start x) (omega (arith, first.within, length-drop start x)),
    ) in
    let skipped : disguised_from options start (part ∷ rest)
    ≡ disguised_from options (start + (length part + 1)) rest =
    grind (arith, none) in
    record {
      within = omega (arith, first.within);
      same =
          sym (ap (disguised_from options start) (piece_from x start end first) ∙ skipped
          ∙ ap (λ at. disguised_from options at rest) long) ∙ from.same;
    }

pub DisguisedFrom-last : (options : ComponentOptions) (x : List ℕ) (start : ℕ)
    → DisguisedFrom options x start → NoSlash x start (length x)
    → disguised_from options 0 (pieces x)
    ≡ when (is_disguised options (take (length x - start) (drop start x))) start
DisguisedFrom-last options x start from none =
    let rest : take (length x - start) (drop start x) ≡ drop start x = grind (arith, take_rest) in
    rw rest (
    sym from.same ∙ ap (disguised_from options start) (last_piece_from x start from.within none)
    ∙ when_else (is_disguised options (drop start x)) start
    )

-- what `submodule` takes from here
pub ruleset submodule_laws = (submodule_grammar_law, path_grammar_law, name_grammar)

-- what a search for a disguised part takes
pub ruleset disguised_parts =
    (DisguisedFrom-start, DisguisedFrom-here, DisguisedFrom-after, DisguisedFrom-last)
