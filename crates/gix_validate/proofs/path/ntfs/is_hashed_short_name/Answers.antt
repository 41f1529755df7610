use Rattle.gix_validate.proofs.Common.{◌∙◌, refl, sym}
use Rattle.gix_validate.proofs.Components.ShortNames.{short_found, short_passed, short_from_none}
use Rattle.gix_validate.proofs.Components.ShortNames.{short_end}
use Rattle.gix_validate.specs.Bytes.{lower}
use Rattle.gix_validate.proofs.path.ntfs.is_hashed_short_name.Goals as goal

pub loop-letters-init : goal.loop-letters-init
loop-letters-init c = refl

pub returns-then-has_hash_of : goal.returns-then-has_hash_of
returns-then-has_hash_of c =
    sym (short_found _ (lower c.args.word.now) c.loop-letters-test.true c.loop-letters.invariant
    (sym c.has_hash_of.ensures ∙ c.if-has_hash_of.true))

pub loop-letters-preserved : goal.loop-letters-preserved
loop-letters-preserved c =
    short_passed _ (lower c.args.word.now) c.loop-letters-test.true c.loop-letters.invariant
    (sym c.has_hash_of.ensures ∙ c.if-has_hash_of.false)

pub returns : goal.returns
returns c =
    let w = lower c.args.word.now in
    sym (sym (short_from_none w) ∙ c.loop-letters.invariant ∙ short_end _ w c.loop-letters-test.false)
