-- The first line of the rule that applies.
use Rattle.gix_validate.proofs.Common.{◌≡◌, ℕ, ◌-◌, ◌<◌, List, [], ◌∷◌, length, get_or, Option}
use Rattle.gix_validate.proofs.Common.{None, Some, option_map, eqb, eq-eqb, refl, sym, ap, ◌∙◌}
use Rattle.gix_validate.proofs.Common.{arith, byte, Bool, true, false}
use Rattle.std.proofs.lemmas.Bool.{ne_eqb}
use Rattle.gix_validate.proofs.Texts.Endings.{ends_read}
use Rattle.gix_validate.specs.Bytes.{is_empty, begins}
use Rattle.gix_validate.specs.declared.tag.NameError.{NameError}
use Rattle.gix_validate.specs.declared.tag.NameError.TheVariants.{StartsWithSlash, EndsWithSlash}
use Rattle.gix_validate.specs.declared.tag.NameError.TheVariants.{StartsWithDot, EndsWithDot}
use Rattle.gix_validate.specs.Faults.{when, ◌orelse◌, at_first_offset}
use Rattle.gix_validate.specs.Tag.{Fault, ◌at◌, first_fault, fault_at}
use Rattle.gix_validate.proofs.tag.fault_past.Goals as goal

abbrev as_pair : Option Fault → Option (NameError × ℕ)
as_pair o = option_map (λ fault. (fault.error, fault.offset)) o

begun : (x : List ℕ) → 0 < length x → is_empty x ≡ false
begun [] some = absurd (omega arith)
begun (b ∷ x) some = refl

begins_read : (x : List ℕ) (c : ℕ) → 0 < length x → begins x (c ∷ []) ≡ eqb (get_or x 0 0) c
begins_read [] c some = absurd (omega arith)
begins_read (b ∷ x) c some = grind arith

-- the lines of the rule, by the tests of the first and the last byte
lines : Bool → Bool → Option Fault → Bool → Bool → ℕ → Option Fault
lines last_slash first_slash inside first_dot last_dot last =
    when last_slash EndsWithSlash at last
    orelse (when first_slash StartsWithSlash at 0
    orelse (inside
    orelse (when first_dot StartsWithDot at 0 orelse (when last_dot EndsWithDot at last orelse None))))

in_order : (x : List ℕ) → 0 < length x
    → first_fault x
    ≡ lines (eqb (get_or x (length x - 1) 0) (byte "/")) (eqb (get_or x 0 0) (byte "/"))
    (at_first_offset (fault_at x) (length x)) (eqb (get_or x 0 0) (byte "."))
    (eqb (get_or x (length x - 1) 0) (byte ".")) (length x - 1)
unfolding lines first_fault
in_order x some = rw (
  begun x some,
  ends_read x (byte "/") some,
  begins_read x (byte "/") some,
  begins_read x (byte ".") some,
  ends_read x (byte ".") some,
) refl

-- each line, where those before it don't apply
last_slashed : (s t d e : Bool) (o : Option Fault) (n : ℕ) → s ≡ true
    → Some (EndsWithSlash, n) ≡ as_pair (lines s t o d e n)
unfolding lines
last_slashed s t d e o n is = rw is refl

first_slashed : (s t d e : Bool) (o : Option Fault) (n : ℕ) → s ≡ false → t ≡ true
    → Some (StartsWithSlash, 0) ≡ as_pair (lines s t o d e n)
unfolding lines
first_slashed s t d e o n one is = rw (one, is) refl

kept : (o rest : Option Fault) (found : NameError × ℕ) → Some found ≡ as_pair o
    → Some found ≡ as_pair (o orelse rest)
kept None rest found is = cc
kept (Some fault) rest found is = is

inside : (s t d e : Bool) (o : Option Fault) (n : ℕ) (found : NameError × ℕ) → s ≡ false → t ≡ false
    → Some found ≡ as_pair o → Some found ≡ as_pair (lines s t o d e n)
unfolding lines
inside s t d e o n found one two is = rw (one, two) (kept o _ found is)

passed : (o : Option Fault) → None ≡ as_pair o → o ≡ None
passed None is = refl
passed (Some fault) is = cc

first_dotted : (s t d e : Bool) (o : Option Fault) (n : ℕ) → s ≡ false → t ≡ false → None ≡ as_pair o
    → d ≡ true → Some (StartsWithDot, 0) ≡ as_pair (lines s t o d e n)
unfolding lines
first_dotted s t d e o n one two none is = rw (one, two, passed o none, is) refl

last_dotted : (s t d e : Bool) (o : Option Fault) (n : ℕ) → s ≡ false → t ≡ false → None ≡ as_pair o
    → d ≡ false → e ≡ true → Some (EndsWithDot, n) ≡ as_pair (lines s t o d e n)
unfolding lines
last_dotted s t d e o n one two none undotted is = rw (one, two, passed o none, undotted, is) refl

no_line : (s t d e : Bool) (o : Option Fault) (n : ℕ) → s ≡ false → t ≡ false → None ≡ as_pair o
    → d ≡ false → e ≡ false → None ≡ as_pair (lines s t o d e n)
unfolding lines
no_line s t d e o n one two none undotted is = rw (one, two, passed o none, undotted, is) refl

by_lines : (x : List ℕ) (r : Option (NameError × ℕ)) → 0 < length x
    → r ≡ as_pair (lines (eqb (get_or x (length x - 1) 0) (byte "/")) (eqb (get_or x 0 0) (byte "/"))
    (at_first_offset (fault_at x) (length x)) (eqb (get_or x 0 0) (byte "."))
    (eqb (get_or x (length x - 1) 0) (byte ".")) (length x - 1))
    → r ≡ as_pair (first_fault x)
by_lines x r some is = is ∙ ap as_pair (sym (in_order x some))

pub returns-then-bytes-last-eq47 : goal.returns-then-bytes-last-eq47
returns-then-bytes-last-eq47 c =
    by_lines c.args.bytes.now _ c.requires.some
    (last_slashed _ _ _ _ _ _ (eq-eqb _ _ c.if-bytes-last-eq47.true))

pub returns-then-bytes-eq47 : goal.returns-then-bytes-eq47
returns-then-bytes-eq47 c =
    by_lines c.args.bytes.now _ c.requires.some
    (first_slashed _ _ _ _ _ _ (ne_eqb _ _ c.if-bytes-last-eq47.false) (eq-eqb _ _ c.if-bytes-eq47.true))

pub returns-in-Some : goal.returns-in-Some
returns-in-Some c =
    by_lines c.args.bytes.now _ c.requires.some
    (inside _ _ _ _ _ _ _ (ne_eqb _ _ c.if-bytes-last-eq47.false) (ne_eqb _ _ c.if-bytes-eq47.false)
    c.in-Some.ensures)

pub returns-then-bytes-eq46 : goal.returns-then-bytes-eq46
returns-then-bytes-eq46 c =
    by_lines c.args.bytes.now _ c.requires.some
    (first_dotted _ _ _ _ _ _ (ne_eqb _ _ c.if-bytes-last-eq47.false) (ne_eqb _ _ c.if-bytes-eq47.false)
    c.in_default.ensures (eq-eqb _ _ c.if-bytes-eq46.true))

pub returns-then-bytes-last-eq46 : goal.returns-then-bytes-last-eq46
returns-then-bytes-last-eq46 c =
    by_lines c.args.bytes.now _ c.requires.some
    (last_dotted _ _ _ _ _ _ (ne_eqb _ _ c.if-bytes-last-eq47.false) (ne_eqb _ _ c.if-bytes-eq47.false)
    c.in_default.ensures (ne_eqb _ _ c.if-bytes-eq46.false) (eq-eqb _ _ c.if-bytes-last-eq46.true))

pub returns : goal.returns
returns c =
    by_lines c.args.bytes.now _ c.requires.some
    (no_line _ _ _ _ _ _ (ne_eqb _ _ c.if-bytes-last-eq47.false) (ne_eqb _ _ c.if-bytes-eq47.false)
    c.in_default.ensures (ne_eqb _ _ c.if-bytes-eq46.false) (ne_eqb _ _ c.if-bytes-last-eq46.false))
