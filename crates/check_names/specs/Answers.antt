-- What the program answers: one line for each line of its input. A text and a line are lists of bytes.
use Rattle.std.specs.Prelude.{ℕ, ◌==◌, if◌then◌else◌, List, [], ◌∷◌, ◌++◌, codes, flat_map, Option}
use Rattle.std.specs.Prelude.{Some, None, option_map}
use Rattle.std.specs.Str.{byte, bytes_eq}
use Rattle.gix_validate.specs.Tag
use Rattle.gix_validate.specs.Reference
use Rattle.gix_validate.specs.Submodule
use Rattle.gix_validate.specs.declared.path.ComponentMode.TheVariants.{Symlink}
use Rattle.gix_validate.specs.Component
use Rattle.gix_validate.specs.Component.{all_protections}
use Rattle.gix_validate.specs.Pieces.{names_in}
use Rattle.gix_validate.specs.Windows.{is_device}
use Rattle.gix_validate.specs.Sanitized.{sanitized}

-- the byte LF, which ends a line
abbrev pub line_end : ℕ
line_end = 0x0A

-- the texts that a line end ends, and then what follows the last line end, if that isn't empty
abbrev pub lines : List ℕ → List (List ℕ)
lines text = names_in line_end text

-- what is before the first such byte of a text, and all that follows it, if the text has one
abbrev pub split_once : ℕ → List ℕ → Option (List ℕ × List ℕ)
split_once separator [] = None
split_once separator (b ∷ text) =
    if b == separator then Some ([], text)
    else option_map (λ (parts : List ℕ × List ℕ). (b ∷ parts.0, parts.1)) (split_once separator text)

-- what a line asks for, a kind and a name: the kind is before the first space, the name is all after it
abbrev pub request_of : List ℕ → Option (List ℕ × List ℕ)
request_of line = split_once (byte " ") line

-- the answer where a rule of faults is asked: `ok` where it finds no fault,
-- and otherwise the text of the fault
abbrev pub verdict : {E : Type 0} → Option E → (E → List ℕ) → List ℕ
verdict None text_of = codes "ok"
verdict (Some fault) text_of = codes "error: " ++ text_of fault

-- the kinds, a line each, and what each answers for a name
unfoldable pub kinds : List (List ℕ × (List ℕ → List ℕ))
kinds =
    (codes "tag", λ name. verdict (Tag.fault_of name) Tag.text_of)
    ∷ (codes "partial", λ name. verdict (Reference.partial_fault_of name) Reference.text_of)
    ∷ (codes "ref", λ name. verdict (Reference.full_fault_of name) Reference.text_of)
    ∷ (codes "branch", λ name. verdict (Reference.branch_fault_of name) Reference.text_of)
    ∷ (codes "submodule", λ name. verdict (Submodule.fault_of name) Submodule.text_of)
    ∷ (codes "path", λ name. verdict (Component.fault_of all_protections None name) Component.text_of)
    ∷ (
      codes "symlink",
      λ name. verdict (Component.fault_of all_protections (Some Symlink) name) Component.text_of,
    )
    ∷ (codes "device", λ name. if is_device name then codes "yes" else codes "no")
    ∷ (codes "sanitize", λ name. sanitized name)
    ∷ []

-- the answer to a line of unknown kind
abbrev pub unknown_kind : List ℕ
unknown_kind = codes "unknown kind"

-- what the first of these kinds that has the asked name answers
abbrev pub answer_by : List (List ℕ × (List ℕ → List ℕ)) → List ℕ → List ℕ → List ℕ
answer_by [] kind name = unknown_kind
answer_by (row ∷ rows) kind name = if bytes_eq kind row.0 then row.1 name else answer_by rows kind name

-- the answer to what a line asks for, if it asks for anything
abbrev pub answer_to : Option (List ℕ × List ℕ) → List ℕ
answer_to None = unknown_kind
answer_to (Some request) = answer_by kinds request.0 request.1

-- the answer of a line
unfoldable pub answer_of : List ℕ → List ℕ
answer_of line = answer_to (request_of line)

-- the answers of the lines of a text, each followed by a line end
unfoldable pub answers : List ℕ → List ℕ
answers text = flat_map (λ line. answer_of line ++ line_end ∷ []) (lines text)
