-- The pieces of literal texts, and literal texts joined.
use Rattle.gix_validate.proofs.Common.{refl, [], ◌∷◌, true, false, codes}
use Rattle.gix_validate.proofs.Rows.Tables.{Gives}
use Rattle.gix_validate.specs.Pieces.{pieces, joined, has_no_slash}

split : Gives pieces
    (([], [] ∷ [])  -- no text
    ∷ (codes "main", codes "main" ∷ [])  -- one piece
    ∷ (codes "refs/heads/main", codes "refs" ∷ codes "heads" ∷ codes "main" ∷ [])  -- three pieces
    ∷ (codes "a//b", codes "a" ∷ [] ∷ codes "b" ∷ [])  -- empty between
    ∷ (codes "/a/", [] ∷ codes "a" ∷ [] ∷ [])  -- empty ends
    ∷ (codes "/", [] ∷ [] ∷ [])  -- slash alone
    ∷ (codes ".../a\\b", codes "..." ∷ codes "a\\b" ∷ [])  -- backslash stays
    ∷ [])
split = refl

put_together : Gives joined
    ((codes "src" ∷ codes ".github" ∷ codes "a.rs" ∷ [], codes "src/.github/a.rs")  -- three joined
    ∷ (codes "a" ∷ [], codes "a")  -- one joined
    ∷ ([] ∷ [] ∷ [], codes "/")  -- two empty joined
    ∷ [])
put_together = refl

without_slash : Gives has_no_slash
    ((codes "a\\b", true)  -- none has
    ∷ (codes "a/b", false)  -- one has
    ∷ [])
without_slash = refl
