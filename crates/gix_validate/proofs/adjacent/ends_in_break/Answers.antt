-- By the last byte, if there is one.
use Rattle.gix_validate.proofs.Common.{◌≡◌, ℕ, ◌-◌, ◌||◌, Bool, false, eqb, List, [], ◌∷◌, length}
use Rattle.gix_validate.proofs.Common.{Option, None, Some, Bor, byte, codes, sym, ap, ◌∙◌, refl}
use Rattle.gix_validate.proofs.Common.{arith, nat_tests}
use Rattle.std.specs.Prelude.{option_copied, slice_get}
use Rattle.std.proofs.lemmas.Option.{slice_get-get_or, get_or_from_slice_get}
use Rattle.gix_validate.proofs.Texts.Endings.{ends_read}
use Rattle.gix_validate.specs.Bytes.{ends}
use Rattle.gix_validate.proofs.adjacent.ends_in_break.Goals as goal

abbrev breaks : ℕ → Bool
breaks b = eqb b (byte ".") || eqb b (byte "/")

abbrev last_breaks : Option (Bor ℕ) → Bool
last_breaks None = false
last_breaks (Some b) = breaks b.now

by_last : (x : List ℕ) (last : Option (Bor ℕ)) → option_copied last ≡ slice_get x (length x - 1)
    → (ends x (codes ".") || ends x (codes "/")) ≡ last_breaks last
by_last [] None is = refl
by_last [] (Some b) is = absurd (cc)
by_last (y ∷ x) None is =
    absurd (cc (slice_get-get_or (y ∷ x) (length (y ∷ x) - 1) 0 (omega arith)))
by_last (y ∷ x) (Some b) is =
    rw (ends_read (y ∷ x) (byte ".") (omega arith), ends_read (y ∷ x) (byte "/") (omega arith))
    (ap breaks (get_or_from_slice_get (y ∷ x) (length (y ∷ x) - 1) b.now 0 (sym is)))

pub returns-in-Some-eq46 : goal.returns-in-Some-eq46
returns-in-Some-eq46 c = sym (by_last c.args.text.now _ c.last.ensures.value
    ∙ ap last_breaks c.in-Some-eq46.is ∙ ap breaks c.in-Some-eq46.field-0-test)

pub returns-in-Some-eq46-2 : goal.returns-in-Some-eq46-2
returns-in-Some-eq46-2 c = sym (by_last c.args.text.now _ c.last.ensures.value
    ∙ ap last_breaks c.in-Some-eq46.is ∙ ap breaks c.in-Some-eq46.field-0-test)

pub returns-in_default : goal.returns-in_default
returns-in_default c = grind (arith, nat_tests, by_last c.args.text.now c.last.result c.last.ensures.value)

pub returns-in_default-2 : goal.returns-in_default-2
returns-in_default-2 c = sym (by_last c.args.text.now _ c.last.ensures.value ∙ ap last_breaks c.in_default.is)
