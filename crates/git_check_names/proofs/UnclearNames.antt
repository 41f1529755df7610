-- A search for a colon and a blank in a row.
use Rattle.gix_validate.proofs.Common.{◌≡◌, ◌∙◌, ◌==◌, ℕ, Bool, ◌||◌, true, false, Option, None, Some}
use Rattle.gix_validate.proofs.Common.{List, [], ◌∷◌, refl}
use Rattle.gix_validate.proofs.Common.{arith, codes, nat_tests, length, ◌<◌, sym}
use Rattle.gix_validate.specs.Bytes.{begins, holds}
use Rattle.std.specs.Str.{byte}
use Rattle.programs.specs.Lines.{split_once}
use Rattle.git_check_names.specs.Private.{IsCutAtColon}

-- a first byte that is no colon
other_first : (b : ℕ) (x : List ℕ) → (b == byte ":") ≡ false → holds (b ∷ x) (codes ": ") ≡ holds x (codes ": ")
other_first b x other = grind (arith, other, nat_tests)

none_by : (b : ℕ) (x : List ℕ) (c : Bool) → (b == byte ":") ≡ c → split_once (byte ":") (b ∷ x) ≡ None
    → (split_once (byte ":") x ≡ None → holds x (codes ": ") ≡ false) → holds (b ∷ x) (codes ": ") ≡ false
none_by b x true is none more = absurd (grind (arith, is, none))
none_by b x false is none more = other_first b x is ∙ more (grind (arith, is, none))

no_colon : (x : List ℕ) → split_once (byte ":") x ≡ None → holds x (codes ": ") ≡ false
no_colon [] none = refl
no_colon (b ∷ x) none = none_by b x (b == byte ":") refl none (no_colon x)

-- what is said of what is after the first colon
abbrev IsAfter : List ℕ → List ℕ → Type 0
IsAfter x after =
    (holds x (codes ": ") ≡ (begins after (codes " ") || holds after (codes ": "))) × (length after < length x)

after_by : (b : ℕ) (x : List ℕ) (c : Bool) (found : Option (List ℕ × List ℕ)) (parts : List ℕ × List ℕ)
    → (b == byte ":") ≡ c → split_once (byte ":") x ≡ found → split_once (byte ":") (b ∷ x) ≡ Some parts
    → ((more : List ℕ × List ℕ) → split_once (byte ":") x ≡ Some more → IsAfter x more.1)
    → IsAfter (b ∷ x) parts.1
after_by b x true found parts is f some later =
    let here : parts.1 ≡ x = grind (arith, is, some) in
    (rw here (grind (arith, is, nat_tests)), rw here (omega arith))
after_by b x false None parts is f some later = absurd (grind (arith, is, f, some))
after_by b x false (Some more) parts is f some later =
    let here : parts.1 ≡ more.1 = grind (arith, is, f, some) in
    (other_first b x is ∙ rw here (later more f).0, rw here (omega (arith, (later more f).1)))

after_colon : (x : List ℕ) (parts : List ℕ × List ℕ) → split_once (byte ":") x ≡ Some parts → IsAfter x parts.1
after_colon [] parts some = absurd (grind (arith, some))
after_colon (b ∷ x) parts some =
    after_by b x (b == byte ":") (split_once (byte ":") x) parts refl refl some (after_colon x)

cut_by : (x : List ℕ) (parts : Option (List ℕ × List ℕ)) → split_once (byte ":") x ≡ parts
    → IsCutAtColon x parts
cut_by x None is = no_colon x is
cut_by x (Some parts) is = after_colon x parts is

pub is_cut_at_colon : (x : List ℕ) (parts : Option (List ℕ × List ℕ)) → parts ≡ split_once (byte ":") x
    → IsCutAtColon x parts
is_cut_at_colon x parts is = cut_by x parts (sym is)

pub ruleset names_held = (is_cut_at_colon)
