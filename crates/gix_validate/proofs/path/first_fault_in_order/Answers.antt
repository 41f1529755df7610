-- The first condition that holds, or that none does.
use Rattle.gix_validate.proofs.Common.{◌≡◌, Bool, false, None, drop, take, sym, ap, ◌∙◌, arith}
use Rattle.gix_validate.proofs.Components.Laws.{AllNone, first_from_AllNone}
use Rattle.gix_validate.specs.Bytes.{lower_byte}
use Rattle.gix_validate.specs.Component.{conditions, fault_of}
use Rattle.gix_validate.specs.Faults.{when}
use Rattle.gix_validate.specs.Windows.{is_illegal}
use Rattle.gix_validate.specs.Private.Classes.{switches}
use Rattle.gix_validate.proofs.path.first_fault_in_order.Goals as goal

none_when : {A : Type 0} (test : Bool) (fault : A) → test ≡ false → when test fault ≡ None
none_when test fault is = ap (λ t. when t fault) is

-- each condition was tried, and none holds
pub returns-else-not-hfs-2 : goal.returns-else-not-hfs-2
unfolding fault_of conditions is_illegal lower_byte
returns-else-not-hfs-2 c =
    let lines = conditions (switches c.args.windows c.args.hfs c.args.ntfs) c.args.mode c.args.name.now in
    let later : AllNone (drop 6 lines) = grind arith in
    let quiet : AllNone (drop 3 (take 6 lines)) = grind arith in
    let named = none_when _ _ (sym c.is_relative.ensures ∙ c.if-is_relative.false) in
    let whole = none_when _ _ c.requires in
    first_from_AllNone lines
    (grind arith, (named, (whole, (quiet.0, (quiet.1.0, (quiet.1.1.0, later))))))

pub returns-then-is_empty : goal.returns-then-is_empty
unfolding fault_of conditions
returns-then-is_empty c = grind arith

pub returns-then-is_relative : goal.returns-then-is_relative
unfolding fault_of conditions
returns-then-is_relative c = grind arith

pub returns-then-has_prefix : goal.returns-then-has_prefix
unfolding fault_of conditions
returns-then-has_prefix c = grind arith

pub returns-then-is_modules : goal.returns-then-is_modules
unfolding fault_of conditions
returns-then-is_modules c = grind arith

pub returns-then-is_modules-2 : goal.returns-then-is_modules-2
unfolding fault_of conditions
returns-then-is_modules-2 c = grind arith

pub returns-then-is_device : goal.returns-then-is_device
unfolding fault_of conditions
returns-then-is_device c = grind arith

pub returns-then-eq_ignore_ascii_case : goal.returns-then-eq_ignore_ascii_case
unfolding fault_of conditions is_illegal lower_byte
returns-then-eq_ignore_ascii_case c = grind arith

pub returns-then-eq_ignore_ascii_case-2 : goal.returns-then-eq_ignore_ascii_case-2
unfolding fault_of conditions is_illegal lower_byte
returns-then-eq_ignore_ascii_case-2 c = grind arith
