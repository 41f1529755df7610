-- Typed names: the text that each keeps, and what it means that a validator's answer is kept as one.
use Rattle.std.specs.Prelude.{◌≡◌, ℕ, List, Option, Some, None, Result, MatchResult}
use Rattle.bstr.specs.declared.bstr.BStr.{BStr}
use Rattle.bstr.specs.BStr.{bstr_bytes}
use Rattle.typed_names.specs.declared.component.Component.{Component}
use Rattle.typed_names.specs.declared.name.Name.{Name}

-- the text that a name keeps
abbrev pub name_text : {R Fault rule : _} → Name R Fault rule → BStr
name_text name = name.name

-- the text that a component keeps
abbrev pub component_text : Component → BStr
component_text component = component.name

-- the bytes of each
abbrev pub name_bytes : {R Fault rule : _} → Name R Fault rule → List ℕ
name_bytes name = bstr_bytes (name_text name)

abbrev pub component_bytes : Component → List ℕ
component_bytes component = bstr_bytes (component_text component)

-- A validator's answer, by its rule of faults, as a typed name: where the text has no fault, the name keeps
-- that very text; otherwise the fault is given.
abbrev pub NewChecks : {Name E : Type 0} → (Name → BStr) → (List ℕ → Option E) → BStr → Result Name E → Type 0
NewChecks kept fault text result =
    MatchResult result
    (λ name. (fault (bstr_bytes text) ≡ None) × (kept name ≡ text))
    (λ e. fault (bstr_bytes text) ≡ Some e)
