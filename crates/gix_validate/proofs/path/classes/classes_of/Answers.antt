-- A short name is its front and its back.
use Rattle.gix_validate.proofs.Common.{◌-◌, length, replicate, get_or, arith}
use Rattle.gix_validate.proofs.Blocks.Parts.{one_covers}
use Rattle.gix_validate.proofs.Blocks.ByteClasses.{classes_of_parts, classes_of_both}
use Rattle.gix_validate.proofs.Blocks.ByteClasses.{classes_of_four}
use Rattle.gix_validate.proofs.path.classes.classes_of.Goals as goal

pub returns-then-name-gt-TWO_BLOCKS : goal.returns-then-name-gt-TWO_BLOCKS
returns-then-name-gt-TWO_BLOCKS c =
    classes_of_four c.args.name.now (length c.args.name.now - 32) _ _ _ _ (omega arith) (omega arith)
    c.classes_at.ensures c.classes_at-then-name-gt-TWO_BLOCKS.ensures
    c.classes_at-then-name-gt-TWO_BLOCKS-2.ensures c.classes_at-then-name-gt-TWO_BLOCKS-3.ensures

pub returns-then-name-le-TWO_BLOCKS : goal.returns-then-name-le-TWO_BLOCKS
returns-then-name-le-TWO_BLOCKS c =
    let n = length c.args.name.now in
    classes_of_both c.min.result c.saturating_sub.result (n - 8) _ _ _ _ _ (omega arith)
    (omega arith) c.halves-front.ensures c.halves-back.ensures
    c.classes_in.ensures c.classes_in-then-name-le-TWO_BLOCKS.ensures

pub returns-then-name-ge4 : goal.returns-then-name-ge4
returns-then-name-ge4 c =
    classes_of_parts 4 (length c.args.name.now - 4) _ _ _
    (omega arith) c.first_and_last_four.ensures c.classes_in-then-name-ge4.ensures

pub returns-then-name-ge2 : goal.returns-then-name-ge2
returns-then-name-ge2 c =
    classes_of_parts 2 (length c.args.name.now - 2) _ _ _
    (omega arith) c.first_and_last_two.ensures c.classes_in-then-name-ge2.ensures

pub returns : goal.returns
returns c =
    classes_of_parts 1 0 (replicate 16 (get_or c.args.name.now 0 0)) _ _
    (omega arith) (one_covers c.args.name.now (omega arith)) c.classes_in-2.ensures
