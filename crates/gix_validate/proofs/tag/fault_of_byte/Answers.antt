-- By the byte before it, where there is one, and by the one line of the table that then says it.
use Rattle.gix_validate.proofs.Common.{◌≡◌, ◌⊎◌, ℕ, ◌-◌, ◌<◌, true, eqb, List, length, get_or, inl}
use Rattle.gix_validate.proofs.Common.{inr, None, Some, byte, codes, refl, arith, nat_tests}
use Rattle.gix_validate.proofs.Common.{nil_from_length}
use Rattle.gix_validate.proofs.Texts.Endings.{ends_read, lock_read}
use Rattle.gix_validate.specs.declared.tag.NameError.TheVariants.{InvalidByte, Asterisk}
use Rattle.gix_validate.specs.declared.tag.NameError.TheVariants.{RepeatedDot, StartsWithDot}
use Rattle.gix_validate.specs.declared.tag.NameError.TheVariants.{ReflogPortion, RepeatedSlash}
use Rattle.gix_validate.specs.declared.tag.NameError.TheVariants.{LockFileSuffix}
use Rattle.gix_validate.specs.Private.Adjacent.{fault_of_byte}
use Rattle.gix_validate.specs.Bytes.{is_bad, ends}
use Rattle.gix_validate.specs.Faults.{when, ◌orelse◌}
use Rattle.gix_validate.specs.Tag.{fault_table}
use Rattle.gix_validate.proofs.tag.fault_of_byte.Goals as goal

after_none : (x : List ℕ) (b : ℕ) → length x < 1 → (b ≡ byte ".") ⊎ (b ≡ byte "{")
    → None ≡ fault_of_byte x b
unfolding fault_of_byte fault_table is_bad
after_none x b none is =
    rw (nil_from_length x (omega arith)) (elim is [ inl dot ↦ rw dot refl | inr brace ↦ rw brace refl ])

dot_after : (x : List ℕ) → 0 < length x
    → fault_of_byte x (byte ".")
    ≡ (when (eqb (get_or x (length x - 1) 0) (byte ".")) RepeatedDot
    orelse when (eqb (get_or x (length x - 1) 0) (byte "/")) StartsWithDot orelse None)
unfolding fault_of_byte fault_table is_bad
dot_after x some = rw (ends_read x (byte ".") some, ends_read x (byte "/") some) refl

brace_after : (x : List ℕ) → 0 < length x
    → fault_of_byte x (byte "{")
    ≡ (when (eqb (get_or x (length x - 1) 0) (byte "@")) ReflogPortion orelse None)
unfolding fault_of_byte fault_table is_bad
brace_after x some = rw (ends_read x (byte "@") some) refl

slash_after : (x : List ℕ)
    → fault_of_byte x (byte "/")
    ≡ (when (ends x (codes "/")) RepeatedSlash orelse when (ends x (codes ".lock")) LockFileSuffix orelse None)
unfolding fault_of_byte fault_table is_bad
slash_after x = refl

bad_itself : (x : List ℕ) (b : ℕ) → is_bad b ≡ true → Some (InvalidByte b) ≡ fault_of_byte x b
unfolding fault_of_byte fault_table
bad_itself x b is = rw is refl

star_itself : (x : List ℕ) (b : ℕ) → b ≡ byte "*" → Some Asterisk ≡ fault_of_byte x b
unfolding fault_of_byte fault_table is_bad
star_itself x b is = rw is refl

pub returns-in-42-default : goal.returns-in-42-default
returns-in-42-default c = star_itself c.args.before.now c.args.byte c.in-42-default.is-0

pub returns-in-46-default : goal.returns-in-46-default
returns-in-46-default c =
    after_none c.args.before.now c.args.byte c.in-46-default.len_below (inl c.in-46-default.is-0)

pub returns-in-46-default-2 : goal.returns-in-46-default-2
returns-in-46-default-2 c = grind (arith, nat_tests, dot_after c.args.before.now)

pub returns-in-46-default-3 : goal.returns-in-46-default-3
returns-in-46-default-3 c =
    after_none c.args.before.now c.args.byte c.in-46-default.len_below (inr c.in-46-default.is-0)

pub returns-in-46-default-4 : goal.returns-in-46-default-4
returns-in-46-default-4 c = grind (arith, nat_tests, brace_after c.args.before.now)

pub returns-in_default : goal.returns-in_default
returns-in_default c = bad_itself c.args.before.now c.args.byte (grind (arith, nat_tests))

pub returns-in-46-default-5 : goal.returns-in-46-default-5
returns-in-46-default-5 c =
    grind (arith, nat_tests, slash_after c.args.before.now, ends_read c.args.before.now (byte "/"))

pub returns-in-46-eq46 : goal.returns-in-46-eq46
returns-in-46-eq46 c = grind (arith, nat_tests, dot_after c.args.before.now)

pub returns-in-46-eq47 : goal.returns-in-46-eq47
returns-in-46-eq47 c = grind (arith, nat_tests, dot_after c.args.before.now)

pub returns-in-123-eq64 : goal.returns-in-123-eq64
returns-in-123-eq64 c = grind (arith, nat_tests, brace_after c.args.before.now)

pub returns-in-47-eq47 : goal.returns-in-47-eq47
returns-in-47-eq47 c =
    grind (arith, nat_tests, slash_after c.args.before.now, ends_read c.args.before.now (byte "/"))
