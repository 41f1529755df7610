-- A name that is read byte by byte.
use Rattle.std.proofs.Common.{◌≡◌, ℕ, ◌+◌, ◌<◌, Bool, false, ◌==◌, ◌&&◌, not, List, [], ◌∷◌, ◌++◌}
use Rattle.std.proofs.Common.{Option, length, take, drop, get_or, true, Result, ◌∙◌, arith}
use Rattle.std.proofs.Common.{append_assoc}
use Rattle.std.proofs.lemmas.Grind.{common_steps}
use Rattle.std.proofs.lemmas.Bool.Decides.{nat_tests}
use Rattle.std.specs.Prelude.{option_map, OnErr}
use Rattle.std.specs.Str.{byte}
use Rattle.gitmodules.specs.Sections.{is_never_in_name, escaped_name, unescaped}

goes : (name : List ℕ) (b : ℕ) (rest : Option (List ℕ))
    → option_map (λ more. name ++ more) (option_map (λ more. b ∷ more) rest)
    ≡ option_map (λ more. (name ++ b ∷ []) ++ more) rest
goes name b rest = grind (arith, nat_tests, append_assoc)

more_of : (escaped : Bool) (b : ℕ) (front rest : List ℕ)
    → is_never_in_name b ≡ false → (not escaped && b == byte "\"") ≡ false
    → option_map (λ more. front ++ more) (escaped_name escaped (b ∷ rest))
    ≡ option_map (λ more. (front ++ b ∷ []) ++ more) (escaped_name (not escaped && b == byte "\\") rest)
more_of escaped b front rest never quote =
    rw (never, quote) (goes front b (escaped_name (not escaped && b == byte "\\") rest))

-- a byte that does not end the name
pub byte_passed : (escaped : Bool) (k : ℕ) (bytes : List ℕ) → k < length bytes
    → is_never_in_name (get_or bytes k 0) ≡ false → (not escaped && get_or bytes k 0 == byte "\"") ≡ false
    → option_map (λ more. take k bytes ++ more) (escaped_name escaped (drop k bytes))
    ≡ option_map (λ more. take (k + 1) bytes ++ more)
    (escaped_name (not escaped && get_or bytes k 0 == byte "\\") (drop (k + 1) bytes))
byte_passed escaped k bytes below never quote = grind (
  arith,
  common_steps,
  more_of escaped (get_or bytes k 0) (take k bytes) (drop (k + 1) bytes) never quote,
)

-- ---- the bytes of the name, one by one

-- a front of the name is appended to the old bytes, and the rest is what the bytes that are left give
abbrev pub IsAppended : List ℕ → List ℕ → Bool → List ℕ → List ℕ → Type 0
IsAppended old items escaped left name =
    (front : List ℕ) × (items ≡ old ++ front) × (front ++ unescaped escaped left ≡ name)

left_at : (k : ℕ) (bytes : List ℕ) → k < length bytes → drop k bytes ≡ get_or bytes k 0 ∷ drop (k + 1) bytes
left_at k bytes below = grind (arith, common_steps)

module _ (old items now bytes name : List ℕ) (escaped : Bool) (k : ℕ) (below : k < length bytes) where
  pub byte_appended : (not escaped && get_or bytes k 0 == byte "\\") ≡ false
      → now ≡ items ++ get_or bytes k 0 ∷ []
      → IsAppended old items escaped (drop k bytes) name → IsAppended old now false (drop (k + 1) bytes) name
  byte_appended own is (front, done, whole) = (
    front ++ get_or bytes k 0 ∷ [],
    grind (arith, append_assoc, is, done),
    grind (arith, append_assoc, rw (left_at k bytes below, own) at whole),
  )

  pub backslash_passed : (not escaped && get_or bytes k 0 == byte "\\") ≡ true → now ≡ items
      → IsAppended old items escaped (drop k bytes) name → IsAppended old now true (drop (k + 1) bytes) name
  backslash_passed escapes is (front, done, whole) =
      (front, is ∙ done, rw (left_at k bytes below, escapes) at whole)

-- what is known of an error
pub on_err : {T E : Type 0} (r : Result T E) (P : Type 0) → P → OnErr r P
on_err r P hh1 = grind (arith, nat_tests)
