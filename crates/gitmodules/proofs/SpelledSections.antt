-- A section that is spelled out, in a file.
use Rattle.std.proofs.Common.{if◌then◌else◌, Bool, add-zero, ◌≡◌, ◌≢◌, ℕ, ◌+◌, true, false, List}
use Rattle.std.proofs.Common.{[], ◌∷◌, ◌++◌, Some, Option, codes, map, length, refl, ap, sym, ◌∙◌}
use Rattle.std.proofs.Common.{arith, append_assoc, take_at, drop_at}
use Rattle.std.proofs.lemmas.List.{length-map}
use Rattle.std.proofs.lemmas.List.Elements.{Contains-append_right}
use Rattle.std.proofs.lemmas.Bool.Decides.{nat_tests}
use Rattle.std.proofs.lemmas.Slice.Eq.{bytes_eq-Decides}
use Rattle.std.specs.Prelude.{Contains}
use Rattle.std.specs.Char.{to_ascii_lowercase}
use Rattle.std.specs.List.{AllByRecursion}
use Rattle.std.specs.Str.{byte}
use Rattle.gitmodules.specs.Sections.{Named, without_blanks, escaped_name, unescaped}
use Rattle.gitmodules.specs.Sections.{header_after_word, header_after_bracket, begun, sections}
use Rattle.gitmodules.specs.Spelled.{SpelledByte, IsSpelled, IsBlank, spelled_name, name_of}
use Rattle.gitmodules.specs.Spelled.{section_bytes, IsEachSectionFound}

name_cut : (name : List SpelledByte) (after : List ℕ) → AllByRecursion IsSpelled name
    → escaped_name false (spelled_name name ++ byte "\"" ∷ byte "]" ∷ after) ≡ Some (spelled_name name)
name_cut [] after is = refl
name_cut ((true, b) ∷ name) after is = grind (arith, nat_tests, name_cut name after is.1)
name_cut ((false, b) ∷ name) after is = grind (arith, nat_tests, name_cut name after is.1)

pub name_read : (name : List SpelledByte) → AllByRecursion IsSpelled name
    → unescaped false (spelled_name name) ≡ name_of name
name_read [] is = refl
name_read ((true, b) ∷ name) is = grind (arith, nat_tests, name_read name is.1)
name_read ((false, b) ∷ name) is = grind (arith, nat_tests, name_read name is.1)

blanks_passed : (blanks after : List ℕ) → AllByRecursion IsBlank blanks
    → without_blanks (blanks ++ byte "\"" ∷ after) ≡ byte "\"" ∷ after
blanks_passed [] after is = refl
blanks_passed (b ∷ blanks) after is = grind (arith, nat_tests, blanks_passed blanks after is.1)

quoted_read : (blanks after : List ℕ) (name : List SpelledByte) → blanks ≢ [] → AllByRecursion IsBlank blanks
    → AllByRecursion IsSpelled name
    → header_after_word (blanks ++ byte "\"" ∷ (spelled_name name ++ byte "\"" ∷ byte "]" ∷ after))
    ≡ Named (name_of name)
quoted_read [] after name some is spelled = absurd (some refl)
quoted_read (b ∷ blanks) after name some is spelled =
    grind (arith, nat_tests, blanks_passed, name_cut, name_read)

pub nine : (word : List ℕ) → map to_ascii_lowercase word ≡ codes "submodule" → length word ≡ 9
nine word is = sym (length-map word to_ascii_lowercase) ∙ ap length is

pub word_read : (word after : List ℕ) → map to_ascii_lowercase word ≡ codes "submodule"
    → header_after_bracket (word ++ after) ≡ header_after_word after
unfolding header_after_bracket
word_read word after is =
    let size = nine word is in
    grind (
      arith,
      take_at word after 9 size,
      drop_at word after 9 size,
      (bytes_eq-Decides (map to_ascii_lowercase word) (codes "submodule")).1,
    )

-- ---- in a file

-- a section of the last bytes is one of all
either : (test : Bool) (front rest : List (ℕ × Option (List ℕ))) (s : ℕ × Option (List ℕ)) → Contains rest s
    → Contains (if test then front ++ rest else rest) s
either true front rest s there = Contains-append_right front rest s there
either false front rest s there = there

pub one_of_all : (offset n : ℕ) (before bytes : List ℕ) (s : ℕ × Option (List ℕ)) → n ≡ offset + length before
    → Contains (sections n bytes) s → Contains (sections offset (before ++ bytes)) s
one_of_all offset n [] bytes s is there = grind (arith, nat_tests, add-zero)
one_of_all offset n (b ∷ before) bytes s is there =
    grind (arith, nat_tests, either, one_of_all (offset + 1) n before bytes s)

-- the first section is one of all
pub first_of_all : (offset : ℕ) (bytes : List ℕ) (name : Option (List ℕ))
    → begun offset (header_after_bracket bytes) ≡ (offset, name) ∷ []
    → Contains (sections offset (byte "[" ∷ bytes)) (offset, name)
first_of_all offset bytes name is = rw is (0, omega arith, refl)

pub each_section_found : IsEachSectionFound
each_section_found before after word blanks name is =
    let rest = blanks ++ byte "\"" ∷ (spelled_name name ++ byte "\"" ∷ byte "]" ∷ after) in
    let read : header_after_bracket (word ++ rest) ≡ Named (name_of name) =
    word_read word rest is.is_word
    ∙ quoted_read blanks after name is.has_blanks is.are_blanks is.is_spelled in
    let whole : before ++ section_bytes word blanks name ++ after ≡ before ++ byte "[" ∷ (word ++ rest) =
    grind (arith, append_assoc) in
    rw whole (one_of_all 0 (length before) before (byte "[" ∷ (word ++ rest)) _ (omega arith)
    (first_of_all (length before) (word ++ rest) (Some (name_of name)) (ap (begun (length before)) read)))
