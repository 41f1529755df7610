-- A name that is valid for a symbolic link under all switches is accepted.
use Rattle.gix_validate.proofs.Common.{◌≡◌, List, ℕ, Option, Some, None, arith}
use Rattle.gix_validate.specs.declared.path.ComponentMode.{ComponentMode}
use Rattle.gix_validate.specs.declared.path.ComponentMode.TheVariants.{Symlink}
use Rattle.gix_validate.specs.declared.path.ComponentOptions.{ComponentOptions}
use Rattle.gix_validate.specs.Component.{fault_of}
use Rattle.gix_validate.specs.ComponentLaws.{HasOnlySwitchesOf, IsValidUnderFewerSwitches}
use Rattle.check_push.specs.declared.trees.check.Finding.TheVariants.{Accepted}
use Rattle.check_push.specs.Trees.Arguments.{Options, protections_for}
use Rattle.check_push.specs.Trees.Entries.{ParsedEntryHeader}
use Rattle.check_push.specs.Trees.Report.{finding_of}

only_these : (options : Options) (name : List ℕ)
    → HasOnlySwitchesOf (protections_for options name) options.protections
only_these options name = grind arith

in_any_mode : (on : ComponentOptions) (mode : Option ComponentMode) (name : List ℕ)
    → fault_of on (Some Symlink) name ≡ None → fault_of on None name ≡ None → fault_of on mode name ≡ None
in_any_mode on None name linked plain = plain
in_any_mode on (Some Symlink) name linked plain = linked

pub valid_as_symlink : (options : Options) (front : ParsedEntryHeader)
    → IsValidUnderFewerSwitches options.protections (Some Symlink) front.name
    → finding_of options front ≡ Accepted
valid_as_symlink options front valid =
    let on = protections_for options front.name in
    let none = valid on (only_these options front.name) in
    let here = in_any_mode on front.mode front.name none.0 none.1 in
    grind arith
