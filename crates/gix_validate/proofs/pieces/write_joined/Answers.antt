-- The capacity that was asked for all the parts is enough for each, and each part goes after those before it.
use Rattle.gix_validate.proofs.Common.{[], arith, common_steps}
use Rattle.gix_validate.proofs.Components.JoinedParts.{written, fits}
use Rattle.bstr.specs.declared.bstr.BStr.{BStr}
use Rattle.bstr.specs.BStr.{bstr_bytes}
use Rattle.gix_validate.proofs.pieces.write_joined.Goals as goal

-- what a read past the end gives
abbrev none : BStr
none = record { bytes = record { ref_ptr = (0, 0); now = [] } }

pub returns-in_err-push-clause-succeeds : goal.returns-in_err-push-clause-succeeds
returns-in_err-push-clause-succeeds c =
    let enough = fits bstr_bytes c.args.parts.now c.loop-i.i none c.args.buffer.items
    c.loop-i.buffer.items c.loop-i-test.true c.loop-i.invariant.written in
    grind arith

pub returns-in_err-extend_from_slice-clause-succeeds : goal.returns-in_err-extend_from_slice-clause-succeeds
returns-in_err-extend_from_slice-clause-succeeds c =
    let enough = fits bstr_bytes c.args.parts.now c.loop-i.i none c.args.buffer.items
    c.loop-i.buffer.items c.loop-i-test.true c.loop-i.invariant.written in
    grind (arith, common_steps)

pub loop-i-preserved : goal.loop-i-preserved
loop-i-preserved c =
    let all = written bstr_bytes c.args.parts.now c.loop-i.i none c.args.buffer.items
    c.loop-i.buffer.items c.loop-i-test.true c.loop-i.invariant.written in
    grind (arith, common_steps)
