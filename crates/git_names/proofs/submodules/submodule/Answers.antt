use Rattle.gix_validate.proofs.Common.{sym, ◌∙◌}
use Rattle.git_names.proofs.SubmoduleLemmas.{other_submodule}
use Rattle.git_names.proofs.submodules.submodule.Goals as goal

pub returns-in-Err-clause-grammar : goal.returns-in-Err-clause-grammar
returns-in-Err-clause-grammar c =
    let other = other_submodule c.args.options _ c.in-Err.fault c.in-Err.ensures.answer in
    (λ e. other ∙ e, λ valid. sym other ∙ valid)
