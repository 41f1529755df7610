use Rattle.gix_validate.proofs.Common.{ℕ, bit_and, eqb, not, byte}
use Rattle.gix_validate.proofs.Blocks.Lanes.{both_mask, of_both}
use Rattle.gix_validate.proofs.path.ntfs.KeptPattern.hits.Goals as goal

pub returns : goal.returns
returns c =
    let other = λ (x y : ℕ). not (eqb x y) in
    let law = both_mask bit_and _ of_both other other c.args.front c.args.back
    (byte " ") (byte ".") c.fits-front.0 c.fits-back.0 in
    record { few = law.0; lanes = law.1 }
