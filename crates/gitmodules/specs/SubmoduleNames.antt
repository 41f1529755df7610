-- The sections of a `.gitmodules` file that are accepted, and the first that is not.
use Rattle.std.specs.Prelude.{◌≡◌, ℕ, List, ◌∷◌, ◌++◌, Option, Some, None, All, ⊤}
use Rattle.gix_validate.specs.Submodule.{fault_of}
use Rattle.gitmodules.specs.declared.names.NamesError.{NamesError}
use Rattle.gitmodules.specs.declared.names.NamesError.TheVariants.{Name, Unreadable, Memory}

-- the section can be read, and its name is accepted
abbrev pub IsAccepted : ℕ × Option (List ℕ) → Type 0
IsAccepted (offset, Some name) = fault_of name ≡ None
IsAccepted (offset, None) = ⊥

-- the error that a section gives: the fault of its name, or that it can't be read; or memory runs out
abbrev pub IsErrorOf : ℕ × Option (List ℕ) → NamesError → Type 0
IsErrorOf (offset, Some name) (Name at fault) = (at ≡ offset) × (fault_of name ≡ Some fault)
IsErrorOf (offset, Some name) (Unreadable at) = ⊥
IsErrorOf (offset, None) (Name at fault) = ⊥
IsErrorOf (offset, None) (Unreadable at) = at ≡ offset
IsErrorOf section (Memory _) = ⊤

-- the error of one of these sections, before which all are accepted
pub record IsFirstError (sections : List (ℕ × Option (List ℕ))) (error : NamesError) : Type 0 where
  pub before : List (ℕ × Option (List ℕ))
  pub section : ℕ × Option (List ℕ)
  pub after : List (ℕ × Option (List ℕ))
  pub splits : sections ≡ before ++ section ∷ after
  pub accepted : All IsAccepted before
  pub gives : IsErrorOf section error
