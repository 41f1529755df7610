-- What a caller unfolds so that the rules of names are computed on literals.
use Rattle.gix_validate.proofs.Common.{⊤}
use Rattle.gix_validate.specs.Windows.{device_form, devices, is_device_form, is_device}
use Rattle.gix_validate.specs.Windows.{is_illegal_byte, is_illegal}
use Rattle.gix_validate.specs.Reference.{is_partial_name, is_full_name, is_branch_name}
use Rattle.gix_validate.specs.Reference.{partial_fault_of, full_fault_of, branch_fault_of}
use Rattle.gix_validate.specs.Bytes.{is_bad, lower_byte}
use Rattle.gix_validate.specs.Component.{conditions, fault_of as component_fault_of, is_component}
use Rattle.gix_validate.specs.Faults.{at_first_offset}
use Rattle.gix_validate.specs.Hfs.{hfs_form, is_ignored}
use Rattle.gix_validate.specs.Ntfs.{ntfs_form, is_git_form, is_modules_form}
use Rattle.gix_validate.specs.Sanitized.{cleaned, cut, sanitized}
use Rattle.gix_validate.specs.Submodule.{is_submodule_name, fault_of as submodule_fault_of}
use Rattle.gix_validate.specs.Tag.{is_good_piece, is_tag_name, fault_table, faults_at, first_fault}
use Rattle.gix_validate.specs.Tag.{fault_of as tag_fault_of}
use Rattle.gix_validate.specs.Units.{first_unit_len, whole_sequences}

-- the rules of tag names, reference names, submodule names and the repair
unfoldable pub names_on_literals : ⊤
unfolding is_bad is_good_piece is_tag_name fault_table faults_at at_first_offset first_fault tag_fault_of
    is_partial_name is_full_name is_branch_name partial_fault_of full_fault_of
    branch_fault_of is_submodule_name submodule_fault_of cleaned cut sanitized
names_on_literals = tt

-- the rules of path components and of devices
unfoldable pub components_on_literals : ⊤
unfolding component_fault_of is_component conditions lower_byte
    first_unit_len whole_sequences hfs_form is_ignored ntfs_form
    is_git_form is_modules_form device_form devices is_device_form is_device is_illegal_byte is_illegal
components_on_literals = tt
