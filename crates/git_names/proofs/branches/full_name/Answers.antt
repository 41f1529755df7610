use Rattle.gix_validate.proofs.Common.{ap}
use Rattle.bstr.specs.Owned.{bstring_bytes}
use Rattle.bstr.specs.BStr.{bstr_bytes}
use Rattle.typed_names.specs.Names.{name_bytes}
use Rattle.git_names.proofs.ShortNameLemmas.{IfOk-full_is_branch}
use Rattle.git_names.proofs.branches.full_name.Goals as goal

pub returns-clause-branch : goal.returns-clause-branch
returns-clause-branch c =
    IfOk-full_is_branch bstring_bytes (name_bytes c.args.name) c.join.result c.args.name.valid
    (rw (c.from.ensures, ap bstr_bytes c.as_bstr.ensures.same) at c.join.ensures.bytes)
