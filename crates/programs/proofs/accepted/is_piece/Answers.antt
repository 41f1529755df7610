use Rattle.gix_validate.proofs.Common.{◌==◌, rules, tests, YieldsList-from_slice_split}
use Rattle.gix_validate.proofs.Common.{any_from_yields_List, bytes_eq}
use Rattle.programs.proofs.accepted.is_piece.Goals as goal

pub returns : goal.returns
returns c =
    let split = c.split-pieces.ensures in
    let all = YieldsList-from_slice_split _
    (λ b. b == 47) c.as_bytes.result.now split.rest split.done split.closure (search (rules, tests)) in
    let found =
    any_from_yields_List (λ piece. bytes_eq piece c.args.name.now) _ _ c.any.result c.any.ensures.ran all
    (search (rules, tests)) in
    rw c.as_bytes.ensures.value at found
