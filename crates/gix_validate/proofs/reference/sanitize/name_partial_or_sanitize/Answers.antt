-- What the text is says the rest of it, by the laws of the sanitised text.
use Rattle.gix_validate.proofs.Common.{◌≡◌, ◌↔◌, ◌≤◌, ℕ, max, length, List, IsTrue, sym, ap, ◌∙◌}
use Rattle.gix_validate.proofs.Common.{rules}
use Rattle.gix_validate.proofs.Sanitizing.Laws.{sanitized-partial, sanitized-unchanged}
use Rattle.gix_validate.proofs.Sanitizing.Laws.{sanitized-sanitized, sanitized-piecewise}
use Rattle.gix_validate.proofs.Sanitizing.Laws.{length-sanitized}
use Rattle.gix_validate.specs.Reference.{is_partial_name}
use Rattle.gix_validate.specs.Sanitized.{sanitized, IsPiecewise}
use Rattle.gix_validate.proofs.reference.sanitize.name_partial_or_sanitize.Goals as goal

unchanged : (x t : List ℕ) → t ≡ sanitized x → (t ≡ x) ↔ IsTrue (is_partial_name x)
unchanged x t is = rw is (sanitized-unchanged x)

bounds : (x t : List ℕ) → t ≡ sanitized x → (1 ≤ length t) × (length t ≤ max 1 (length x))
bounds x t is = rw is (length-sanitized x)

piecewise : (x t : List ℕ) → t ≡ sanitized x → IsPiecewise x t
piecewise x t is = rw is (sanitized-piecewise x)

pub returns-clause-text : goal.returns-clause-text
returns-clause-text c = search rules

pub returns-clause-partial : goal.returns-clause-partial
returns-clause-partial c = ap is_partial_name (returns-clause-text c) ∙ sanitized-partial _

pub returns-clause-unchanged : goal.returns-clause-unchanged
returns-clause-unchanged c = unchanged _ _ (returns-clause-text c)

pub returns-clause-bounds : goal.returns-clause-bounds
returns-clause-bounds c = bounds _ _ (returns-clause-text c)

pub returns-clause-again : goal.returns-clause-again
returns-clause-again c =
    ap sanitized (returns-clause-text c) ∙ sanitized-sanitized _ ∙ sym (returns-clause-text c)

pub returns-clause-piecewise : goal.returns-clause-piecewise
returns-clause-piecewise c = piecewise _ _ (returns-clause-text c)
