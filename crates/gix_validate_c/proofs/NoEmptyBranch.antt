-- No branch is empty, so a length of 0 can say that there is no suggestion.
use Rattle.gix_validate.proofs.Common.{◌≡◌, [], false, refl}
use Rattle.gix_validate.proofs.OnLiterals.{names_on_literals}
use Rattle.git_names.specs.ShortNames.{full_name, is_short_name}

pub no_empty_branch : is_short_name [] ≡ false
unfolding is_short_name full_name names_on_literals
no_empty_branch = refl
