-- The definitions of submodule names, computed on literals.
use Rattle.gix_validate.proofs.Common.{refl, [], ◌∷◌, Some, None, codes}
use Rattle.gix_validate.proofs.OnLiterals.{names_on_literals}
use Rattle.gix_validate.proofs.Rows.Tables.{Gives, Judges}
use Rattle.gix_validate.specs.Submodule.{parts, is_submodule_name, fault_of}
use Rattle.gix_validate.specs.declared.submodule.NameError.TheVariants.{Empty, ParentComponent}

judged : Judges fault_of is_submodule_name
    (([], Some Empty)  -- nothing
    ∷ (codes "..", Some ParentComponent)  -- parent alone
    ∷ (codes "..\\x", Some ParentComponent)  -- parent first
    ∷ (codes "x/../y", Some ParentComponent)  -- parent between
    ∷ (codes "a\\..", Some ParentComponent)  -- parent last
    ∷ (codes "/", None)  -- slash
    ∷ (codes "\\", None)  -- backslash
    ∷ (codes "...", None)  -- three dots
    ∷ (codes "a/.../b", None)  -- three dots between
    ∷ (codes "a..", None)  -- dots at end
    ∷ (codes "a//b", None)  -- empty part
    ∷ (codes "a\\b", None)  -- two parts
    ∷ [])
unfolding names_on_literals
judged = (refl, refl)

parts_of_texts : Gives parts
    ((codes "a\\b/c", codes "a" ∷ codes "b" ∷ codes "c" ∷ [])  -- at both
    ∷ (codes "/", [] ∷ [] ∷ [])  -- of slash
    ∷ [])
parts_of_texts = refl
