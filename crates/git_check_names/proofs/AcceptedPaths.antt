-- Paths, each of whose parts is checked under switches of its own.
use Rattle.gix_validate.proofs.Common.{◌≡◌, ℕ, ◌+◌, false, not, Option, None, Some, List, []}
use Rattle.gix_validate.proofs.Common.{◌∷◌, length, refl, arith, is_none, list_any, nat_tests, sym}
use Rattle.gix_validate.proofs.Components.Laws.{component_grammar_law}
use Rattle.gix_validate.specs.Component.{conditions, is_component}
use Rattle.gix_validate.specs.Pieces.{pieces}
use Rattle.gix_validate.specs.declared.path.ComponentOptions.{ComponentOptions}
use Rattle.std.specs.List.{list_all, position}
use Rattle.std.specs.Str.{byte}
use Rattle.git_names.specs.Paths.{is_nul}
use Rattle.programs.specs.Lines.{split_once}
use Rattle.git_check_names.specs.Faults.{is_accepting_path, is_part, part_fault_of}
use Rattle.git_check_names.specs.Faults.{parts_fault_of, path_fault_of, protections_for}
use Rattle.git_check_names.specs.Options.{Options}
use Rattle.git_check_names.specs.Private.{IsFirstPart}

-- ---- a text cut at its first slash

-- the texts before and after the first slash, if there is one
abbrev parts_of : List ℕ → Option (List ℕ × List ℕ) → List (List ℕ)
parts_of text None = text ∷ []
parts_of text (Some parts) = parts.0 ∷ pieces parts.1

pieces_cut : (text : List ℕ) → pieces text ≡ parts_of text (split_once (byte "/") text)
pieces_cut [] = refl
pieces_cut (b ∷ text) = grind (arith, pieces_cut text)

length-cut : (text : List ℕ) (parts : List ℕ × List ℕ) → split_once (byte "/") text ≡ Some parts
    → length text ≡ length parts.0 + 1 + length parts.1
length-cut [] parts some = absurd (grind (arith, some))
length-cut (b ∷ text) parts some = grind (arith, nat_tests, some, length-cut text)

first_by : (text : List ℕ) (parts : Option (List ℕ × List ℕ)) → split_once (byte "/") text ≡ parts
    → IsFirstPart text parts
first_by text None is = grind (arith, pieces_cut text, is)
first_by text (Some parts) is = (grind (arith, pieces_cut text, is), length-cut text parts is)

pub is_first_part : (text : List ℕ) (parts : Option (List ℕ × List ℕ)) → parts ≡ split_once (byte "/") text
    → IsFirstPart text parts
is_first_part text parts is = first_by text parts (sym is)

pub ruleset parts_cut = (is_first_part)

-- ---- a text is a path if and only if it has no fault

-- no component is empty
empty_part : (options : ComponentOptions) → is_component options None [] ≡ false
unfolding is_component conditions
empty_part options = refl

part_law : (options : Options) (at : ℕ) (part : List ℕ)
    → is_part options part ≡ is_none (part_fault_of options at part)
part_law options at [] = empty_part (protections_for options [])
part_law options at (b ∷ part) =
    grind (arith, component_grammar_law (protections_for options (b ∷ part)) None (b ∷ part))

parts_law : (options : Options) (at : ℕ) (parts : List (List ℕ))
    → list_all (is_part options) parts ≡ is_none (parts_fault_of options at parts)
parts_law options at [] = refl
parts_law options at (part ∷ more) =
    grind (arith, part_law options at part, parts_law options (at + (length part + 1)) more)

nul_law : (name : List ℕ) → is_none (position is_nul name) ≡ not (list_any is_nul name)
nul_law [] = refl
nul_law (b ∷ name) = grind (arith, nat_tests, nul_law name)

pub accepting_path_law : (options : Options) (name : List ℕ)
    → is_accepting_path options name ≡ is_none (path_fault_of options name)
accepting_path_law options name = grind (arith, parts_law options 0 (pieces name), nul_law name)

pub ruleset path_laws = (accepting_path_law)
