-- The row of the first byte, or no row.
use Rattle.gix_validate.proofs.Common.{◌∙◌, refl, sym, inl, inr, arith}
use Rattle.gix_validate.proofs.Components.FirstUnit.{unit_of_row, unit_of_one, unit_of_none}
use Rattle.gix_validate.specs.Units.{whole_sequences}
use Rattle.gix_validate.proofs.path.units.first_unit_len.Goals as goal

pub returns-in-224 : goal.returns-in-224
unfolding whole_sequences
returns-in-224 c =
    c.fitting_len.ensures ∙ unit_of_row 2 c.args.text.now refl c.in-224.len_at_least
    (omega arith) (omega arith)

pub returns-in-237 : goal.returns-in-237
unfolding whole_sequences
returns-in-237 c =
    c.fitting_len-in-237.ensures ∙ unit_of_row 4 c.args.text.now refl c.in-237.len_at_least
    (omega arith) (omega arith)

pub returns-in-240 : goal.returns-in-240
unfolding whole_sequences
returns-in-240 c =
    c.fitting_len-in-240.ensures ∙ unit_of_row 6 c.args.text.now refl c.in-240.len_at_least
    (omega arith) (omega arith)

pub returns-in-244 : goal.returns-in-244
unfolding whole_sequences
returns-in-244 c =
    c.fitting_len-in-244.ensures ∙ unit_of_row 8 c.args.text.now refl c.in-244.len_at_least
    (omega arith) (omega arith)

pub returns-in-194-to-223 : goal.returns-in-194-to-223
unfolding whole_sequences
returns-in-194-to-223 c =
    c.fitting_len-in-194-to-223.ensures ∙ unit_of_row 1 c.args.text.now refl c.in-194-to-223.len_at_least
    (omega arith) (omega arith)

pub returns-in-238-to-239 : goal.returns-in-238-to-239
unfolding whole_sequences
returns-in-238-to-239 c =
    c.fitting_len-in-238-to-239.ensures ∙ unit_of_row 5 c.args.text.now refl c.in-238-to-239.len_at_least
    (omega arith) (omega arith)

pub returns-in-241-to-243 : goal.returns-in-241-to-243
unfolding whole_sequences
returns-in-241-to-243 c =
    c.fitting_len-in-241-to-243.ensures ∙ unit_of_row 7 c.args.text.now refl c.in-241-to-243.len_at_least
    (omega arith) (omega arith)

pub returns-in_default : goal.returns-in_default
returns-in_default c = sym (unit_of_none _ c.in_default.len_below)

pub returns-in_default-2 : goal.returns-in_default-2
returns-in_default-2 c = sym (unit_of_one _ (inl (omega arith)))

pub returns-in_default-3 : goal.returns-in_default-3
returns-in_default-3 c = sym (unit_of_one _ (inr (omega arith)))
