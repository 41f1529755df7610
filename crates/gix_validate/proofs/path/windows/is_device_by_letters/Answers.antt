-- A name by its first three letters.
use Rattle.gix_validate.proofs.Common.{sym, arith, nat_tests}
use Rattle.gix_validate.proofs.Components.Devices.{by_letters, are_letters, device_short}
use Rattle.gix_validate.proofs.Components.Devices.{device_unlettered}
use Rattle.gix_validate.proofs.path.windows.is_device_by_letters.Goals as goal

pub returns-in-97 : goal.returns-in-97
unfolding are_letters
returns-in-97 c = grind (arith, by_letters)

pub returns-in-99 : goal.returns-in-99
unfolding are_letters
returns-in-99 c = grind (arith, by_letters)

pub returns-in-99-2 : goal.returns-in-99-2
unfolding are_letters
returns-in-99-2 c = grind (arith, by_letters)

pub returns-in-108 : goal.returns-in-108
unfolding are_letters
returns-in-108 c = grind (arith, by_letters)

pub returns-in-110 : goal.returns-in-110
unfolding are_letters
returns-in-110 c = grind (arith, by_letters)

pub returns-in-112 : goal.returns-in-112
unfolding are_letters
returns-in-112 c = grind (arith, by_letters)

pub returns-in_default : goal.returns-in_default
returns-in_default c = sym (device_short c.args.name.now c.in_default.len_below)

pub returns-in_default-2 : goal.returns-in_default-2
unfolding are_letters
returns-in_default-2 c = sym (device_unlettered c.args.name.now (grind (arith, nat_tests)))

pub returns-in_default-3 : goal.returns-in_default-3
unfolding are_letters
returns-in_default-3 c = sym (device_unlettered c.args.name.now (grind (arith, nat_tests)))

pub returns-in_default-4 : goal.returns-in_default-4
unfolding are_letters
returns-in_default-4 c = sym (device_unlettered c.args.name.now (grind (arith, nat_tests)))

pub returns-in_default-5 : goal.returns-in_default-5
unfolding are_letters
returns-in_default-5 c = sym (device_unlettered c.args.name.now (grind (arith, nat_tests)))

pub returns-in_default-6 : goal.returns-in_default-6
unfolding are_letters
returns-in_default-6 c = sym (device_unlettered c.args.name.now (grind (arith, nat_tests)))

pub returns-in_default-7 : goal.returns-in_default-7
unfolding are_letters
returns-in_default-7 c = sym (device_unlettered c.args.name.now (grind (arith, nat_tests)))

pub returns-in_default-8 : goal.returns-in_default-8
unfolding are_letters
returns-in_default-8 c = sym (device_unlettered c.args.name.now (grind (arith, nat_tests)))

pub returns-in_default-9 : goal.returns-in_default-9
unfolding are_letters
returns-in_default-9 c = sym (device_unlettered c.args.name.now (grind (arith, nat_tests)))

pub returns-in_default-10 : goal.returns-in_default-10
unfolding are_letters
returns-in_default-10 c = sym (device_unlettered c.args.name.now (grind (arith, nat_tests)))

pub returns-in_default-11 : goal.returns-in_default-11
unfolding are_letters
returns-in_default-11 c = sym (device_unlettered c.args.name.now (grind (arith, nat_tests)))

pub returns-in_default-12 : goal.returns-in_default-12
unfolding are_letters
returns-in_default-12 c = sym (device_unlettered c.args.name.now (grind (arith, nat_tests)))
