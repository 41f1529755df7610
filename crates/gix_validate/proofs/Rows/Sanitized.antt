-- The definitions of the sanitised text, computed on literals.
use Rattle.gix_validate.proofs.Common.{◌≡◌, refl, [], ◌∷◌, inl, inr, arith, false≢true, codes, byte}
use Rattle.gix_validate.proofs.OnLiterals.{names_on_literals}
use Rattle.gix_validate.proofs.Rows.Tables.{Gives}
use Rattle.gix_validate.specs.Sanitized.{Dots, Other, runs, cleaned, cut, dash_last_of}
use Rattle.gix_validate.specs.Sanitized.{mended_pieces, sanitized, KeepsGood, KeepsPieces}

runs_of_pieces : Gives runs
    ((codes "a..b.", Other (byte "a") ∷ Dots ∷ Other (byte "b") ∷ Dots ∷ [])  -- between bytes
    ∷ (codes "...@{", Dots ∷ Other (byte "@") ∷ Other (byte "{") ∷ [])  -- at the start
    ∷ ([], [])  -- of nothing
    ∷ [])
runs_of_pieces = refl

cleaned_pieces : Gives cleaned
    ((codes "..a", codes "-a")  -- dots at start
    ∷ (codes "a..b", codes "a.b")  -- dots inside
    ∷ (codes "a b:c*d~", codes "a-b-c-d-")  -- bad bytes
    ∷ (codes "@{@@{{", codes "@-@@-{")  -- log portion
    ∷ (codes "@..{", codes "@.{")  -- dots before brace
    ∷ (codes "v1.2.3", codes "v1.2.3")  -- plain piece
    ∷ (codes "", codes "")  -- nothing
    ∷ [])
unfolding names_on_literals
cleaned_pieces = refl

cut_pieces : Gives cut
    ((codes "a.lock", codes "a")  -- once
    ∷ (codes "x.lock.lock", codes "x")  -- twice
    ∷ (codes "a.lock.locks", codes "a.lock.locks")  -- only at end
    ∷ (codes "a.lock.b.lock", codes "a.lock.b")  -- inside stays
    ∷ (codes ".lock.lock", codes "")  -- all
    ∷ (codes "x.lock.", codes "x.lock.")  -- dot after
    ∷ (codes "a.LOCK", codes "a.LOCK")  -- other case
    ∷ (codes "a.lo.lock", codes "a.lo")  -- overlapping
    ∷ [])
unfolding names_on_literals
cut_pieces = refl

pieces_mended : mended_pieces (codes "a b//.lock/x.lock.lock") ≡ codes "a-b" ∷ codes "-lock" ∷ codes "x" ∷ []
unfolding names_on_literals
pieces_mended = refl

dash_last_piece : dash_last_of (codes "a" ∷ codes "b." ∷ []) ≡ codes "a" ∷ codes "b-" ∷ []
dash_last_piece = refl

repaired_names : Gives sanitized
    (([], codes "-")  -- empty text
    ∷ (codes "///", codes "-")  -- only slashes
    ∷ (codes "/a//b/", codes "a/b")  -- slashes around
    ∷ (codes "a./b", codes "a./b")  -- dot before slash
    ∷ (codes "a.lock.", codes "a.lock-")  -- lock then dot
    ∷ (codes ".lock.lock", codes "-lock")  -- two locks alone
    ∷ (codes "x.lock..lock/", codes "x")  -- locks and slash
    ∷ (codes "@/@", codes "@/@")  -- two ats
    ∷ (codes "@.lock", codes "-")  -- at before lock
    ∷ (codes "refs//heads/../x.lock.lock/.y*", codes "refs/heads/-/x/-y-")  -- many faults
    ∷ [])
unfolding names_on_literals
repaired_names = refl

piecewise_with_dash : KeepsPieces (codes "a b//c.") (codes "a-b/c-")
unfolding names_on_literals
piecewise_with_dash = record {
  as_many = refl;
  none_empty = refl;
  kept = (λ good. absurd (false≢true good), λ good. inr refl);
  mended = inr refl;
}

piecewise_as_mended : KeepsPieces (codes "a b/c.lock") (codes "a-b/c")
unfolding names_on_literals
piecewise_as_mended = record {
  as_many = refl;
  none_empty = refl;
  kept = (λ good. absurd (false≢true good), λ good. absurd (false≢true good));
  mended = inl refl;
}

fewer_pieces : KeepsPieces (codes "a/*") (codes "a") → ⊥
fewer_pieces keeps = let e : 1 ≡ 2 = keeps.as_many in absurd (omega (arith, e))

good_piece_changed : KeepsGood (codes "a b" ∷ codes "c" ∷ []) (codes "a-b" ∷ codes "x" ∷ []) → ⊥
unfolding names_on_literals
good_piece_changed keeps = grind (arith, keeps.1 refl)

empty_piece : KeepsPieces (codes "a/*") (codes "a/") → ⊥
empty_piece keeps = false≢true keeps.none_empty
