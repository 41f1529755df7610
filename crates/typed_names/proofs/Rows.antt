-- The words of the contracts, computed on the worked names.
use Rattle.gix_validate.proofs.Common.{◌≡◌, ℕ, true, false, refl, List, [], ◌∷◌, Some, None, Ok}
use Rattle.gix_validate.proofs.Common.{Err, codes, after_first, arith}
use Rattle.gix_validate.proofs.OnLiterals.{names_on_literals}
use Rattle.bstr.specs.declared.bstr.BStr.{BStr}
use Rattle.gix_validate.specs.Pieces.{is_slash, has_no_slash}
use Rattle.gix_validate.specs.Tag.{fault_of}
use Rattle.gix_validate.specs.declared.tag.NameError.TheVariants.{Empty, StartsWithDot}
use Rattle.typed_names.specs.Names.{NewChecks}
use Rattle.typed_names.specs.Pieces.{pieces_left}

abbrev text : List ℕ → BStr
text x = record { bytes = record { ref_ptr = (0, 0); now = x } }

-- what an iterator has left
what_is_left :
    (pieces_left None ≡ [])
    × (pieces_left (Some (text (codes "refs/heads/main"))) ≡ codes "refs" ∷ codes "heads" ∷ codes "main" ∷ [])
    × (pieces_left (Some (text (codes "a./b"))) ≡ codes "a." ∷ codes "b" ∷ [])
    × (pieces_left (Some (text (codes "main"))) ≡ codes "main" ∷ [])
what_is_left = (refl, refl, refl, refl)

-- what follows the first slash, and where there is none
after_the_first_slash :
    (after_first is_slash (codes "refs/heads/main") ≡ codes "heads/main")
    × (after_first is_slash (codes "heads/main") ≡ codes "main")
    × (after_first is_slash (codes "a//b") ≡ codes "/b")
    × (after_first is_slash (codes "a/") ≡ [])
    × (has_no_slash (codes "main") ≡ true)
    × (has_no_slash (codes "a./b") ≡ false)
after_the_first_slash = (refl, refl, refl, refl, refl, refl)

-- a text without a fault is kept, and no other text for it
kept_texts :
    let Checks = NewChecks (λ name. name) fault_of in
    Checks (text (codes "a")) (Ok (text (codes "a")))
    × ¬ Checks (text (codes "a")) (Ok (text (codes "b")))
    × ¬ Checks (text (codes ".a")) (Ok (text (codes ".a")))
unfolding names_on_literals
kept_texts = ((refl, refl), λ e. grind (arith, e.1), λ e. grind (arith, e.0))

-- of another its fault is given
given_faults :
    let Checks = NewChecks (λ (name : BStr). name) fault_of in
    Checks (text (codes ".a")) (Err StartsWithDot)
    × ¬ Checks (text (codes ".a")) (Err Empty)
    × ¬ Checks (text (codes "a")) (Err StartsWithDot)
unfolding names_on_literals
given_faults = (refl, λ e. grind (arith, e), λ e. grind (arith, e))
