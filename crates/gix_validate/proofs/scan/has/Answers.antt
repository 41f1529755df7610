use Rattle.gix_validate.proofs.Common.{◌-◌, ◌||◌, length, sym, ap₂, ◌∙◌, arith}
use Rattle.gix_validate.proofs.Blocks.Parts.{any_in_chunk, any_with_chunk, any_to_end}
use Rattle.gix_validate.proofs.scan.has.Goals as goal

pub returns-then-four_have : goal.returns-then-four_have
returns-then-four_have g c = any_in_chunk _ c.args.text.now c.loop-at.at 64 c.if-four_have.ensures

pub loop-at-preserved : goal.loop-at-preserved
loop-at-preserved g c =
    let none = any_with_chunk _ c.args.text.now c.loop-at.at 64
    ∙ ap₂ (λ s t. s || t) c.loop-at.invariant.none (sym c.if-four_have.ensures) in
    record { room = omega arith; none = none }

pub returns : goal.returns
returns g c =
    c.four_have-2.ensures
    ∙ any_to_end _ c.args.text.now (length c.args.text.now - 64) c.loop-at.at 64
    (omega arith) (omega arith) c.loop-at.invariant.none
