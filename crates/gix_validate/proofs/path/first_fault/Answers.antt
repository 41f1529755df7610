-- What the classes of a short name say of it.
use Rattle.gix_validate.proofs.Common.{arith, nat_tests}
use Rattle.gix_validate.proofs.Blocks.ByteClasses.{classes_tell}
use Rattle.gix_validate.proofs.Components.OrdinaryNames.{first_faults}
use Rattle.gix_validate.specs.Private.Classes.{has_ordinary_bytes}
use Rattle.gix_validate.proofs.path.first_fault.Goals as goal
use Rattle.gix_validate.proofs.path.first_fault.Goals.{then-windows, else-windows}
use Rattle.gix_validate.proofs.path.first_fault.Goals.{else-not-is_empty+else-has_separator}
use Rattle.gix_validate.proofs.path.first_fault.Goals.{then-not-is_empty+then-name-le-MAX_SHORT+else-not-has_class+else-has_class}

pub returns-then-not-ends_illegally : goal.returns-then-not-ends_illegally
returns-then-not-ends_illegally c = c.first_fault_of_ordinary.ensures c.args.options.protect_hfs

pub first_fault_in_order-requires : goal.first_fault_in_order-requires
first_fault_in_order-requires c = elim c.if-not-is_empty.branch [
  | then-not-is_empty+then-name-le-MAX_SHORT+else-not-has_class+else-has_class w ↦
      let tell =
      classes_tell w.classes_of-classes.result c.args.name.now c.type_inv.name w.classes_of-classes.ensures in
      elim w.if-windows.branch [
        | then-windows w' ↦ grind (arith, tell.separator, w'.if-windows, w'.has_class-is)
        | else-windows w' ↦ grind (arith, tell.slash, w'.if-windows, w'.has_class-is)
      ]
  | else-not-is_empty+else-has_separator w ↦ grind (arith, w.has_separator.ensures)
]

pub returns-then-not-may_be_special : goal.returns-then-not-may_be_special
unfolding has_ordinary_bytes
returns-then-not-may_be_special c = grind (arith, nat_tests, classes_tell, first_faults)

pub returns-then-has_class : goal.returns-then-has_class
unfolding has_ordinary_bytes
returns-then-has_class c = grind (arith, nat_tests, classes_tell, first_faults)

pub returns-then-has_separator : goal.returns-then-has_separator
unfolding has_ordinary_bytes
returns-then-has_separator c = grind (arith, nat_tests, classes_tell, first_faults)

pub first_fault_of_ordinary-requires : goal.first_fault_of_ordinary-requires
unfolding has_ordinary_bytes
first_fault_of_ordinary-requires c = grind (arith, nat_tests, classes_tell, first_faults)
