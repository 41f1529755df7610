use Rattle.gix_validate.proofs.Common.{◌≡◌, ◌-◌, length, replicate, get_or, subst, arith}
use Rattle.gix_validate.proofs.Blocks.Parts.{one_covers}
use Rattle.gix_validate.specs.Private.Scan.{HasParts}
use Rattle.gix_validate.proofs.scan.first_of_few.Goals as goal

pub first_of_parts-requires-clause-back : goal.first_of_parts-requires-clause-back
first_of_parts-requires-clause-back g c =
    subst (λ n. HasParts 4 0 (n - 4) c.args.back.now c.first_and_last_four-then-len-ge4.result)
    c.requires.same c.first_and_last_four-then-len-ge4.ensures

pub first_of_parts-requires-then-len-ge2-clause-back : goal.first_of_parts-requires-then-len-ge2-clause-back
first_of_parts-requires-then-len-ge2-clause-back g c =
    subst (λ n. HasParts 2 0 (n - 2) c.args.back.now c.first_and_last_two-then-len-ge2.result)
    c.requires.same c.first_and_last_two-then-len-ge2.ensures

pub first_of_parts-requires-2-clause-front : goal.first_of_parts-requires-2-clause-front
first_of_parts-requires-2-clause-front g c =
    let none : 0 ≡ length c.args.front.now - 1 = omega arith in
    subst (λ n. HasParts 1 0 n c.args.front.now (replicate 16 (get_or c.args.front.now 0 0))) none
    (one_covers c.args.front.now (omega arith))

pub first_of_parts-requires-2-clause-back : goal.first_of_parts-requires-2-clause-back
first_of_parts-requires-2-clause-back g c =
    let none : 0 ≡ length c.args.front.now - 1 = omega arith in
    subst (λ n. HasParts 1 0 n c.args.back.now (replicate 16 (get_or c.args.back.now 0 0))) none
    (one_covers c.args.back.now (omega arith))
