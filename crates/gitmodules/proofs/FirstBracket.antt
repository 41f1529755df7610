-- The first `[` of bytes, as a search finds it, and the sections from there on.
use Rattle.std.proofs.Common.{◌≡◌, ◌≢◌, ℕ, ◌+◌, List, [], ◌∷◌, ◌++◌, All, Option, Some, None}
use Rattle.std.proofs.Common.{length, refl, take, drop, arith, length-take, get_or-take, eq-eqb}
use Rattle.std.proofs.lemmas.List.Elements.{All-from_get_or, All-head, All-tail}
use Rattle.std.proofs.lemmas.Bool.Decides.{nat_tests}
use Rattle.std.proofs.lemmas.Grind.{common_steps}
use Rattle.std.specs.Str.{byte}
use Rattle.memchr.specs.Find.{is_byte, IsFirstByte}
use Rattle.gitmodules.specs.Sections.{begun, header_after_bracket, sections}

nowhere : (offset : ℕ) (bytes : List ℕ) → All (λ b. b ≢ byte "[") bytes → sections offset bytes ≡ []
nowhere offset [] none = refl
nowhere offset (b ∷ bytes) none = grind (
  arith,
  nat_tests,
  All-head (λ c. c ≢ byte "[") b bytes none,
  nowhere (offset + 1) bytes (All-tail (λ c. c ≢ byte "[") b bytes none),
)

found : (offset : ℕ) (front rest : List ℕ) → All (λ b. b ≢ byte "[") front
    → sections offset (front ++ byte "[" ∷ rest)
    ≡ begun (offset + length front) (header_after_bracket rest) ++ sections (offset + length front + 1) rest
found offset [] rest none = grind arith
found offset (b ∷ front) rest none = grind (
  arith,
  nat_tests,
  All-head (λ c. c ≢ byte "[") b front none,
  found (offset + 1) front rest (All-tail (λ c. c ≢ byte "[") b front none),
)

-- what a search for the byte says
abbrev pub sections_by : ℕ → List ℕ → Option ℕ → List (ℕ × Option (List ℕ))
sections_by offset bytes None = []
sections_by offset bytes (Some k) =
    begun (offset + k) (header_after_bracket (drop (k + 1) bytes))
    ++ sections (offset + k + 1) (drop (k + 1) bytes)

pub bracket_searched : (offset : ℕ) (bytes : List ℕ) (r : Option ℕ) → IsFirstByte (is_byte (byte "[")) bytes r
    → sections offset bytes ≡ sections_by offset bytes r
bracket_searched offset bytes None none =
    nowhere offset bytes
    (All-from_get_or (λ b. b ≢ byte "[") bytes 0 (λ k below e. none k (omega arith) below (eq-eqb _ _ e)))
bracket_searched offset bytes (Some k) at =
    let cut : bytes ≡ take k bytes ++ byte "[" ∷ drop (k + 1) bytes =
    grind (arith, common_steps, nat_tests) in
    let none : All (λ b. b ≢ byte "[") (take k bytes) =
    All-from_get_or (λ b. b ≢ byte "[") (take k bytes) 0 (λ j below e.
    grind (arith, nat_tests, length-take, get_or-take, at.0.before j)) in
    grind (arith, cut, length-take, found offset (take k bytes) (drop (k + 1) bytes) none)
