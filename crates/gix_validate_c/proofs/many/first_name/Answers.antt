use Rattle.gix_validate.proofs.Common.{rules, arith}
use Rattle.gix_validate.proofs.Texts.NamesIn.{names_in-last}
use Rattle.gix_validate_c.proofs.many.first_name.Goals as goal

pub returns-in-None-clause-names : goal.returns-in-None-clause-names
returns-in-None-clause-names c =
    names_in-last _ _ (search rules) (λ k below. c.in-None.ensures k (omega arith) below)
