-- The repair of a name is valid.
use Rattle.gix_validate.proofs.Common.{◌≡◌, ℕ, List, None, arith, true}
use Rattle.git_names.proofs.SuggestionLaws.{suggestion_valid}
use Rattle.git_names.specs.declared.faults.Kind.{Kind}
use Rattle.git_check_names.proofs.AllValid.{name_law}
use Rattle.git_check_names.specs.Faults.{fault_of, is_name}
use Rattle.git_check_names.specs.Options.{Options}

pub fault_law : (options : Options) (kind : Kind) (name : List ℕ) → fault_of options kind name ≡ None
    → is_name options kind name ≡ true
fault_law options kind name none = grind (arith, none, name_law options kind name)

pub ruleset repair_laws = (suggestion_valid, fault_law)
