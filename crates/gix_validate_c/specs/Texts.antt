-- What the calls for printed texts write.
use Rattle.std.specs.Prelude.{ℕ, nat_le, if◌then◌else◌, List, [], ◌++◌, length, drop, Option, Some}
use Rattle.std.specs.Prelude.{None}

-- the text of a fault, or nothing where there is none
abbrev pub text_by : {E : Type 0} → (E → List ℕ) → Option E → List ℕ
text_by text None = []
text_by text (Some fault) = text fault

-- the buffer with the text at its front, where the whole text fits, and otherwise the buffer as it was
abbrev pub with_text : List ℕ → List ℕ → List ℕ
with_text text buffer =
    if nat_le (length text) (length buffer) then text ++ drop (length text) buffer else buffer
