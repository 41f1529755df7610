use Rattle.gix_validate.proofs.Common.{rules, tests, codes, bytes_eq}
use Rattle.gix_validate.proofs.Common.{YieldsList-from_slice_split, any_from_yields_List}
use Rattle.gix_validate.specs.Submodule.{is_separator}
use Rattle.gix_validate.proofs.submodule.has_parent_by_parts.Goals as goal

pub returns : goal.returns
returns c =
    let split = c.split-parts.ensures in
    let all = YieldsList-from_slice_split _
    is_separator c.args.bytes.now split.rest split.done split.closure (search (rules, tests)) in
    any_from_yields_List (λ part. bytes_eq part (codes "..")) _ _ c.any.result c.any.ensures.ran all
    (search (rules, tests))
