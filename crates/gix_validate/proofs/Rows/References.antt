-- The definitions of reference names, computed on literals.
use Rattle.gix_validate.proofs.Common.{refl, [], ◌∷◌, Some, None, codes}
use Rattle.gix_validate.proofs.OnLiterals.{names_on_literals}
use Rattle.gix_validate.proofs.Rows.Tables.{Gives, Judges}
use Rattle.gix_validate.specs.Reference.{is_partial_name, is_full_name, is_branch_name, reserved}
use Rattle.gix_validate.specs.Reference.{partial_fault_of, full_fault_of, branch_fault_of, text_of}
use Rattle.gix_validate.specs.declared.reference.NameError.TheVariants.{InvalidByte, Empty}
use Rattle.gix_validate.specs.declared.reference.NameError.TheVariants.{SomeLowercase}

-- partial names, `@` in them, and no names
partial_names : Judges partial_fault_of is_partial_name
    ((codes "@", Some (reserved (codes "@")))  -- at alone
    ∷ (codes "a@", None)  -- at last
    ∷ (codes "@/a", None)  -- at first
    ∷ (codes "main", None)  -- small letters alone
    ∷ (codes "a b", Some (InvalidByte 0x20))  -- space
    ∷ ([], Some Empty)  -- nothing
    ∷ [])
unfolding names_on_literals
partial_names = (refl, refl)

full_names : Judges full_fault_of is_full_name
    ((codes "HEAD", None)  -- head
    ∷ (codes "FETCH_HEAD", None)  -- fetch head
    ∷ (codes "a/b", None)  -- folder
    ∷ (codes "refs/heads/HEAD", None)  -- head branch
    ∷ (codes "V1", Some SomeLowercase)  -- digit
    ∷ (codes "A-B", Some SomeLowercase)  -- hyphen
    ∷ (codes "main", Some SomeLowercase)  -- lower alone
    ∷ (0xC3 ∷ 0x89 ∷ [], Some SomeLowercase)  -- two high bytes
    ∷ (codes "@", Some (reserved (codes "@")))  -- at before lowercase
    ∷ (codes "a b", Some (InvalidByte 0x20))  -- space before lowercase
    ∷ [])
unfolding names_on_literals
full_names = (refl, refl)

-- names of branches
branch_names : Judges branch_fault_of is_branch_name
    ((codes "refs/heads/HEAD", Some (reserved (codes "refs/heads/HEAD")))  -- head branch
    ∷ (codes "refs/heads/head", None)  -- lower head branch
    ∷ (codes "refs/heads/HEAD/x", None)  -- below head branch
    ∷ (codes "HEAD", None)  -- head as branch
    ∷ (codes "main", Some SomeLowercase)  -- main as branch
    ∷ [])
unfolding names_on_literals
branch_names = (refl, refl)

-- faults, and what they print
printed : Gives text_of
    ((
      reserved (codes "refs/heads/HEAD"),
      codes "Reference name is reserved and cannot be used: \"refs/heads/HEAD\"",
    )  -- reserved
    ∷ (InvalidByte 0x1B, codes "Reference name contains invalid byte: \"\\x1b\"")  -- escape
    ∷ (SomeLowercase, codes "Standalone references must be all uppercased, like 'HEAD'")  -- lowercase
    ∷ [])
printed = refl
