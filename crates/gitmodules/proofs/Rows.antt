-- The sections of worked files, computed.
use Rattle.std.proofs.Common.{◌≡◌, ℕ, List, [], ◌∷◌, ◌++◌, Option, Some, None, codes, refl}
use Rattle.gix_validate.proofs.Common.{All, All-head, arith}
use Rattle.gix_validate.proofs.OnLiterals.{names_on_literals}
use Rattle.gix_validate.specs.Submodule.{fault_of}
use Rattle.gix_validate.specs.declared.submodule.NameError.TheVariants as submodule_fault
use Rattle.gitmodules.specs.declared.names.NamesError.TheVariants as names_error
use Rattle.gitmodules.specs.SubmoduleNames.{IsAccepted, IsErrorOf, IsFirstError}
use Rattle.gitmodules.specs.Sections.{sections, header_after_bracket, Named, Unreadable, Other}
use Rattle.gitmodules.specs.Headers.{header_of, section_pair}
use Rattle.gitmodules.specs.declared.reader.Header.TheVariants as code

-- a section of a name, at its offset
abbrev name_at : ℕ → List ℕ → ℕ × Option (List ℕ)
name_at offset name = (offset, Some name)

-- a section that can't be read, at its offset
abbrev unreadable_at : ℕ → ℕ × Option (List ℕ)
unreadable_at offset = (offset, None)

-- names: of two sections, with escapes, with brackets, and with a backslash last
names_of_sections :
    (sections 0 (codes "[submodule \"a/b\"]\n\tpath = x\n[submodule \"c\"]\n")
    ≡ name_at 0 (codes "a/b") ∷ name_at 28 (codes "c") ∷ [])
    × (sections 0 (codes "[submodule \"a\\\"b\\\\c\"]") ≡ name_at 0 (codes "a\"b\\c") ∷ [])
    × (sections 0 (codes "[submodule \"a]b[c\"]") ≡ name_at 0 (codes "a]b[c") ∷ [])
    × (sections 0 (codes "[submodule \"\\n\\\\\"]") ≡ name_at 0 (codes "n\\") ∷ [])
unfolding header_after_bracket
names_of_sections = (refl, refl, refl, refl)

-- the blanks, each alone and together, and words in other letters
blanks_before_names :
    (sections 0 (codes "[submodule\t\"a\"]\n[submodule\r\"b\"]")
    ≡ name_at 0 (codes "a") ∷ name_at 16 (codes "b") ∷ [])
    × (sections 0 (codes "[Submodule \t\r\"a\"]\n[SUBMODULE\r\t \"b\"]")
    ≡ name_at 0 (codes "a") ∷ name_at 18 (codes "b") ∷ [])
unfolding header_after_bracket
blanks_before_names = (refl, refl)

-- no blanks: NUL, a vertical tab, a form feed, DEL, and the blanks of other alphabets
other_bytes_before_names :
    (sections 0 (codes "[submodule" ++ 0x00 ∷ codes "\"a\"]\n[submodule \u{b}\"a\"]")
    ≡ unreadable_at 0 ∷ unreadable_at 16 ∷ [])
    × (sections 0 (codes "[submodule\u{c}\"a\"]\n[submodule\u{7f}\"a\"]")
    ≡ unreadable_at 0 ∷ unreadable_at 16 ∷ [])
    × (sections 0 (codes "[submodule" ++ 0x85 ∷ codes "\"a\"]\n[submodule" ++ 0xA0 ∷ codes "\"a\"]")
    ≡ unreadable_at 0 ∷ unreadable_at 16 ∷ [])
unfolding header_after_bracket
other_bytes_before_names = (refl, refl, refl)

-- sections in values and names
sections_anywhere :
    (sections 0 (codes "[x]\n\ty = \"[submodule \\\"a\\\"]\"\n") ≡ unreadable_at 10 ∷ [])
    × (sections 0 (codes "[submodule \"[submodule \"a\"]\"]") ≡ unreadable_at 0 ∷ name_at 12 (codes "a") ∷ [])
unfolding header_after_bracket
sections_anywhere = (refl, refl)

-- other sections, and words that only begin with the word
other_sections :
    (sections 0 (codes "[submodules \"a\"]\n[submodule-x \"a\"]\n[submodule2]") ≡ [])
    × (sections 0 (codes "[sub \"submodule\"]\n[ submodule \"a\"]\n[submodul") ≡ [])
    × (sections 0 (codes "[submodule]\n[submoduleX \"a\"]") ≡ [])
unfolding header_after_bracket
other_sections = (refl, refl, refl)

-- sections that can't be read: the old form, no blank, no quotes, no end, and bytes that are in no name
unreadable_sections :
    (sections 0 (codes "[submodule.a]\n[submodule") ≡ unreadable_at 0 ∷ unreadable_at 14 ∷ [])
    × (sections 0 (codes "[submodule\"a\"]\n[submodule a]\n[submodule \n\"a\"]")
    ≡ unreadable_at 0 ∷ unreadable_at 15 ∷ unreadable_at 29 ∷ [])
    × (sections 0 (codes "[submodule \"a\" ]\n[submodule \"a") ≡ unreadable_at 0 ∷ unreadable_at 17 ∷ [])
    × (sections 0 (codes "[submodule \"a\"") ≡ unreadable_at 0 ∷ [])
    × (sections 0 (codes "[submodule ") ≡ unreadable_at 0 ∷ [])
    × (sections 0 (codes "[submodule_x \"a\"]") ≡ unreadable_at 0 ∷ [])
    × (sections 0 (codes "[submodule \"a\nb\"]\n[submodule \"a\\\nb\"]")
    ≡ unreadable_at 0 ∷ unreadable_at 18 ∷ [])
    × (sections 0 (codes "[submodule \"a\\" ++ 0 ∷ codes "\"]") ≡ unreadable_at 0 ∷ [])
    × (sections 0 (codes "[submodule \"a" ++ 0xFF ∷ codes "\"]") ≡ unreadable_at 0 ∷ [])
unfolding header_after_bracket
unreadable_sections = (refl, refl, refl, refl, refl, refl, refl, refl, refl)

-- what the program finds, in the terms of the rule
found_by_the_program :
    (section_pair (record { offset = 7; name = Some (codes "a") }) ≡ name_at 7 (codes "a"))
    × (section_pair (record { offset = 7; name = None }) ≡ unreadable_at 7)
    × (header_of (code.Submodule (Some (codes "a"))) ≡ Named (codes "a"))
    × (header_of (code.Submodule None) ≡ Unreadable)
    × (header_of code.Other ≡ Other)
found_by_the_program = (refl, refl, refl, refl, refl)

-- ---- the names of a whole file

-- a name with a fault has one
fault_is_some : {A : Type 0} (a : A) → ¬ (Some a ≡ None)
fault_is_some a e = grind arith

accepted_sections : IsAccepted (0, Some (codes "a")) × ¬ IsAccepted (0, Some (codes ".."))
    × ¬ IsAccepted (0, None)
unfolding names_on_literals
accepted_sections = (refl, λ e. fault_is_some submodule_fault.ParentComponent e, λ e. e)

-- the fault of the name, at the offset of the section
errors_of_sections :
    IsErrorOf (7, Some (codes "..")) (names_error.Name 7 submodule_fault.ParentComponent)
    × ¬ IsErrorOf (7, Some (codes "..")) (names_error.Name 0 submodule_fault.ParentComponent)
    × ¬ IsErrorOf (7, Some (codes "a")) (names_error.Name 7 submodule_fault.ParentComponent)
    × ¬ IsErrorOf (7, Some (codes "..")) (names_error.Unreadable 7)
unfolding names_on_literals
errors_of_sections = ((refl, refl), λ e. grind (arith, e.0), λ e. grind (arith, e.1), λ e. e)

-- no name, at the offset of the section
errors_of_unreadable :
    IsErrorOf (7, None) (names_error.Unreadable 7)
    × ¬ IsErrorOf (7, None) (names_error.Unreadable 0)
    × ¬ IsErrorOf (7, None) (names_error.Name 7 submodule_fault.Empty)
errors_of_unreadable = (refl, λ e. grind (arith, e), λ e. e)

abbrev Section : Type 0
Section = ℕ × Option (List ℕ)

-- a name with a fault, and then a section that can't be read
abbrev two : List Section
two = (0, Some (codes "..")) ∷ (5, None) ∷ []

first_of_two : (before : List Section) (section : Section) (after : List Section)
    → two ≡ before ++ section ∷ after → All IsAccepted before
    → ¬ IsErrorOf section (names_error.Unreadable 5)
unfolding names_on_literals
first_of_two [] (offset, Some name) after splits accepted gives = gives
first_of_two [] (offset, None) after splits accepted gives = grind (arith, splits)
first_of_two ((offset, Some name) ∷ before) section after splits accepted gives =
    let fine : fault_of name ≡ None = All-head IsAccepted (offset, Some name) before accepted in
    let own : name ≡ codes ".." = grind (arith, splits) in
    fault_is_some submodule_fault.ParentComponent (rw own at fine)
first_of_two ((offset, None) ∷ before) section after splits accepted gives =
    All-head IsAccepted (offset, None) before accepted

first_errors : IsFirstError two (names_error.Name 0 submodule_fault.ParentComponent)
    × ¬ IsFirstError two (names_error.Unreadable 5)
unfolding names_on_literals
first_errors = (
  record {
    before = [];
    section = (0, Some (codes ".."));
    after = (5, None) ∷ [];
    splits = refl;
    accepted = λ k d below. absurd (omega arith);
    gives = (refl, refl);
  },
  λ e. first_of_two e.before e.section e.after e.splits e.accepted e.gives,
)
