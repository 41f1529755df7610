use Rattle.gix_validate.proofs.Common.{arith, nat_tests}
use Rattle.gix_validate.proofs.Components.NtfsForm.{ntfs_ended}
use Rattle.gix_validate.proofs.path.ntfs.ends_ntfs_form.Goals as goal

pub returns-in-58 : goal.returns-in-58
returns-in-58 c =
    grind (arith, nat_tests, ntfs_ended c.args.rest.now c.in-Some.offset c.in-Some.ensures, c.in-58.is)

pub returns-in_default : goal.returns-in_default
returns-in_default c =
    grind (arith, nat_tests, ntfs_ended c.args.rest.now c.in-Some.offset c.in-Some.ensures, c.in_default)
