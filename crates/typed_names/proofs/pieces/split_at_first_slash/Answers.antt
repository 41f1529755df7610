use Rattle.gix_validate.proofs.Common.{arith, take_rest}
use Rattle.typed_names.proofs.SlashLemmas.{nowhere_slash, pieces_alone, after_found, pieces_found}
use Rattle.typed_names.proofs.SlashLemmas.{found_slash}
use Rattle.typed_names.proofs.pieces.split_at_first_slash.Goals as goal

pub returns-in_err-slash-clause-none : goal.returns-in_err-slash-clause-none
returns-in_err-slash-clause-none c = grind (arith, nowhere_slash)

pub returns-in_err-slash-clause-pieces : goal.returns-in_err-slash-clause-pieces
returns-in_err-slash-clause-pieces c = grind (arith, nowhere_slash, pieces_alone)

pub returns-clause-none : goal.returns-clause-none
returns-clause-none c = grind (arith, found_slash)

pub returns-clause-rest : goal.returns-clause-rest
returns-clause-rest c = grind (arith, after_found, take_rest)

pub returns-clause-pieces : goal.returns-clause-pieces
returns-clause-pieces c = grind (arith, pieces_found, take_rest)
