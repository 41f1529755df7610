-- A section that is found, in the bytes of its file: how its header is spelled.
use Rattle.std.proofs.Common.{◌≡◌, ◌≢◌, ℕ, ◌+◌, ◌<◌, ◌≤◌, ◌==◌, ◌&&◌, ◌||◌, not, if◌then◌else◌}
use Rattle.std.proofs.Common.{Bool, true, false, inl, inr, List, [], ◌∷◌, ◌++◌, All, Some, None}
use Rattle.std.proofs.Common.{Option, unwrap_or, codes, map, length, take, drop, refl, ap, sym, ◌∙◌}
use Rattle.std.proofs.Common.{arith, append_assoc}
use Rattle.std.proofs.lemmas.List.{take-append-drop}
use Rattle.std.proofs.lemmas.Bool.{cases_Bool, cases_lt, agree_below_at, eqb-true}
use Rattle.std.proofs.lemmas.Bool.Decides.{nat_tests}
use Rattle.std.proofs.lemmas.Grind.{common_steps}
use Rattle.std.proofs.lemmas.List.Elements.{Contains-append_cases}
use Rattle.std.proofs.lemmas.Slice.Eq.{bytes_eq-Decides}
use Rattle.std.specs.Prelude.{nat_lt, Contains, option_map}
use Rattle.std.specs.Char.{to_ascii_lowercase}
use Rattle.std.specs.List.{AllByRecursion, AllPairs, list_all, list_any}
use Rattle.std.specs.Str.{byte}
use Rattle.gitmodules.specs.Sections.{Header, Named, Unreadable, Other, is_never_in_name, is_blank}
use Rattle.gitmodules.specs.Sections.{is_word_byte, closed, without_blanks, escaped_name, unescaped}
use Rattle.gitmodules.specs.Sections.{named, quoted_header, header_after_word, header_after_bracket}
use Rattle.gitmodules.specs.Sections.{begun, sections}
use Rattle.gitmodules.specs.Spelled.{SpelledByte, IsSpelled, IsBlank, IsSection, HeaderAt}
use Rattle.gitmodules.specs.Spelled.{ends_or_goes_on, is_other, spelled_name, name_of}
use Rattle.gitmodules.specs.Spelled.{IsEachNameSpelled, IsEachHeaderGiven, IsInOrder}
use Rattle.gitmodules.proofs.SpelledSections.{name_read, word_read, one_of_all, first_of_all}

-- ---- names

-- the bytes of a name, each with whether a backslash is before it
abbrev spell : Bool → List ℕ → List SpelledByte
spell escaped [] = []
spell true (b ∷ name) = (true, b) ∷ spell false name
spell false (b ∷ name) = if b == byte "\\" then spell true name else (false, b) ∷ spell false name

-- the backslash before the bytes
abbrev backslash : Bool → List ℕ
backslash true = byte "\\" ∷ []
backslash false = []

-- the bytes begin with a name, and what closes it, and the name is spelled so
abbrev IsRead : Bool → List ℕ → List ℕ → Type 0
IsRead escaped bytes name =
    (bytes ≡ name ++ byte "\"" ∷ byte "]" ∷ drop (length name + 2) bytes)
    × (backslash escaped ++ name ≡ spelled_name (spell escaped name))
    × AllByRecursion IsSpelled (spell escaped name)

not_closed : (ends closes : Bool) (b : ℕ) (bytes name : List ℕ) (o : Option (List ℕ))
    → (if ends then None else if closes then closed bytes else option_map (λ more. b ∷ more) o) ≡ Some name
    → closes ≡ false → (ends ≡ false) × (o ≡ Some (drop 1 name)) × (name ≡ b ∷ drop 1 name)
not_closed true closes b bytes name o is goes = absurd (cc)
not_closed false true b bytes name o is goes = absurd (cc)
not_closed false false b bytes name None is goes = absurd (cc)
not_closed false false b bytes name (Some more) is goes = grind arith

closed_read : (escaped : Bool) (b : ℕ) (bytes name : List ℕ) → escaped_name escaped (b ∷ bytes) ≡ Some name
    → (not escaped && b == byte "\"") ≡ true → IsRead escaped (b ∷ bytes) name
closed_read true b bytes name is quote = absurd (cc)
closed_read false b [] name is quote = grind (arith, nat_tests)
closed_read false b (d ∷ bytes) name is quote = grind (arith, nat_tests)

goes_on : (escaped : Bool) (b : ℕ) (bytes name : List ℕ)
    → is_never_in_name b ≡ false → (not escaped && b == byte "\"") ≡ false
    → IsRead (not escaped && b == byte "\\") bytes name → IsRead escaped (b ∷ bytes) (b ∷ name)
goes_on true b bytes name never quote rest = grind (arith, nat_tests)
goes_on false b bytes name never quote rest = grind (arith, nat_tests)

name_spelled : (escaped : Bool) (bytes name : List ℕ) → escaped_name escaped bytes ≡ Some name
    → IsRead escaped bytes name
name_spelled escaped [] name is = absurd (cc)
name_spelled escaped (b ∷ bytes) name is = elim (cases_Bool (not escaped && b == byte "\"")) [
  | inl quote ↦ closed_read escaped b bytes name is quote
  | inr goes ↦
      (let (never, some, first) = not_closed (is_never_in_name b) (not escaped && b == byte "\"") b bytes name
      (escaped_name (not escaped && b == byte "\\") bytes) is goes in
      rw first (goes_on escaped b bytes (drop 1 name) never goes
      (name_spelled (not escaped && b == byte "\\") bytes (drop 1 name) some)))
]

-- ---- headers

-- the blanks that bytes begin with
abbrev blanks : List ℕ → List ℕ
blanks [] = []
blanks (b ∷ bytes) = if is_blank b then b ∷ blanks bytes else []

are_blanks : (bytes : List ℕ) → AllByRecursion IsBlank (blanks bytes)
are_blanks [] = tt
are_blanks (b ∷ bytes) = grind (arith, nat_tests, are_blanks bytes)

after_blanks : (bytes : List ℕ) → bytes ≡ blanks bytes ++ without_blanks bytes
after_blanks [] = refl
after_blanks (b ∷ bytes) = grind (arith, nat_tests, after_blanks bytes)

named_is : (o : Option (List ℕ)) (name : List ℕ) → named o ≡ Named name
    → (o ≡ Some (unwrap_or o [])) × (unescaped false (unwrap_or o []) ≡ name)
named_is None name is = absurd (cc)
named_is (Some escaped) name is = (refl, cc)

quoted_is : (bytes name : List ℕ) → quoted_header bytes ≡ Named name
    → (bytes ≡ byte "\"" ∷ drop 1 bytes) × (named (escaped_name false (drop 1 bytes)) ≡ Named name)
quoted_is [] name is = absurd (cc)
quoted_is (b ∷ bytes) name is = grind (arith, nat_tests)

after_word_is : (b : ℕ) (bytes name : List ℕ) → header_after_word (b ∷ bytes) ≡ Named name
    → IsBlank b × (quoted_header (without_blanks bytes) ≡ Named name)
after_word_is b bytes name is = grind (arith, nat_tests)

after_word : (word bytes name : List ℕ) → map to_ascii_lowercase word ≡ codes "submodule"
    → header_after_word bytes ≡ Named name
    → (after blanks : List ℕ) × (spelled : List SpelledByte) × IsSection word blanks spelled
    × (bytes ≡ blanks ++ byte "\"" ∷ (spelled_name spelled ++ byte "\"" ∷ byte "]" ∷ after))
    × (name_of spelled ≡ name)
after_word word [] name is_word is = absurd (cc)
after_word word (b ∷ bytes) name is_word is =
    let (blank, quoted) = after_word_is b bytes name is in
    let (quote, there) = quoted_is (without_blanks bytes) name quoted in
    let rest = drop 1 (without_blanks bytes) in
    let escaped = unwrap_or (escaped_name false rest) [] in
    let (some, own) = named_is (escaped_name false rest) name there in
    let (ends, spelling, all) = name_spelled false rest escaped some in (
      drop (length escaped + 2) rest,
      b ∷ blanks bytes,
      spell false escaped,
      record {
        is_word = is_word;
        has_blanks = λ none. cc;
        are_blanks = (blank, are_blanks bytes);
        is_spelled = all;
      },
      grind (arith, after_blanks bytes, ends, spelling, append_assoc),
      grind (arith, name_read (spell false escaped) all, spelling),
    )

after_bracket : (bytes : List ℕ) → header_after_bracket bytes ≢ Other
    → (map to_ascii_lowercase (take 9 bytes) ≡ codes "submodule")
    × (header_after_bracket bytes ≡ header_after_word (drop 9 bytes))
unfolding header_after_bracket
after_bracket bytes some =
    grind (arith, bytes_eq-Decides (map to_ascii_lowercase (take 9 bytes)) (codes "submodule"))

-- ---- a file

-- where a section of some bytes begins in them
abbrev Begins : ℕ → List ℕ → ℕ × Option (List ℕ) → Type 0
Begins offset bytes s =
    (before after : List ℕ) × (bytes ≡ before ++ byte "[" ∷ after)
    × (offset + length before ≡ s.0) × (begun s.0 (header_after_bracket after) ≡ s ∷ [])

begun_alone : (offset : ℕ) (header : Header) (s : ℕ × Option (List ℕ)) → Contains (begun offset header) s
    → (begun s.0 header ≡ s ∷ []) × (offset ≡ s.0)
begun_alone offset (Named name) s there = grind arith
begun_alone offset Unreadable s there = grind arith
begun_alone offset Other s there = absurd (grind arith)

begins_here : (offset b : ℕ) (bytes : List ℕ) (s : ℕ × Option (List ℕ)) → b ≡ byte "["
    → Contains (begun offset (header_after_bracket bytes)) s → Begins offset (b ∷ bytes) s
begins_here offset b bytes s bracket there =
    let (alone, at) = begun_alone offset (header_after_bracket bytes) s there in
    ([], bytes, ap (λ d. d ∷ bytes) bracket, omega arith, alone)

begins_later : (offset b : ℕ) (bytes : List ℕ) (s : ℕ × Option (List ℕ)) → Begins (offset + 1) bytes s
    → Begins offset (b ∷ bytes) s
begins_later offset b bytes s (before, after, is_bytes, at, is_begun) =
    (b ∷ before, after, ap (λ xs. b ∷ xs) is_bytes, omega arith, is_begun)

begins : (offset : ℕ) (bytes : List ℕ) (s : ℕ × Option (List ℕ)) → Contains (sections offset bytes) s
    → Begins offset bytes s
begins offset [] s there = absurd (grind arith)
begins offset (b ∷ bytes) s there = elim (cases_Bool (b == byte "[")) [
  | inl bracket ↦
      elim (Contains-append_cases (begun offset (header_after_bracket bytes))
      (sections (offset + 1) bytes) s (rw bracket at there)) [
        | inl first ↦ begins_here offset b bytes s (eqb-true b (byte "[") bracket) first
        | inr rest ↦ begins_later offset b bytes s (begins (offset + 1) bytes s rest)
      ]
  | inr other ↦ begins_later offset b bytes s (begins (offset + 1) bytes s (rw other at there))
]

-- ---- what is found is spelled

named_begun : (offset : ℕ) (header : Header) (name : List ℕ) → begun offset header ≡ (offset, Some name) ∷ []
    → header ≡ Named name
named_begun offset (Named own) name is = grind arith
named_begun offset Unreadable name is = grind arith
named_begun offset Other name is = absurd (cc)

some_begun : (offset : ℕ) (header : Header) (s : ℕ × Option (List ℕ)) → begun offset header ≡ s ∷ []
    → header ≢ Other
some_begun offset header s is none = grind arith

pub each_name_spelled : IsEachNameSpelled
each_name_spelled file offset name there =
    let (before, bytes, is_file, at, is_begun) = begins 0 file (offset, Some name) there in
    let (word, read) =
    after_bracket bytes (some_begun offset (header_after_bracket bytes) (offset, Some name) is_begun) in
    let (after, blanks, spelled, section, is_bytes, is_name) =
    after_word (take 9 bytes) (drop 9 bytes) name word
    (sym read ∙ named_begun offset (header_after_bracket bytes) name is_begun) in
    let whole : file ≡ before ++ byte "[" ∷ (take 9 bytes ++ drop 9 bytes) =
    is_file ∙ rw take-append-drop refl in
    record {
      before = before;
      after = after;
      word = take 9 bytes;
      blanks = blanks;
      spelled = spelled;
      is_section = section;
      is_file = grind (arith, whole, is_bytes, append_assoc);
      is_offset = omega arith;
      is_name = is_name;
    }

-- ---- each header is given

named_is_some : (o : Option (List ℕ)) → named o ≢ Other
named_is_some None is = cc
named_is_some (Some name) is = cc

quoted_is_some : (bytes : List ℕ) → quoted_header bytes ≢ Other
quoted_is_some [] is = cc
quoted_is_some (b ∷ bytes) is = grind (arith, nat_tests, named_is_some)

none_above : (bytes : List ℕ) (b : ℕ) → list_all (λ c. nat_lt c 128) bytes ≡ true → 128 ≤ b
    → list_any (λ c. b == c) bytes ≡ false
none_above [] b small above = refl
none_above (c ∷ bytes) b small above = grind (arith, nat_tests, none_above bytes b)

-- the bytes of a word one by one, and by their ranges
ends_word : (b : ℕ) → list_any (λ c. b == c) ends_or_goes_on ≡ (b == byte "]" || is_word_byte b)
ends_word b = elim (cases_lt b 128) [
  | inl below ↦
      agree_below_at (λ b. list_any (λ c. b == c) ends_or_goes_on)
      (λ b. b == byte "]" || is_word_byte b) 128 b refl below
  | inr above ↦ (let other : (b == byte "]" || is_word_byte b) ≡ false = grind (arith, nat_tests) in
      none_above ends_or_goes_on b refl above ∙ sym other)
]

header_is_some : (bytes : List ℕ) → is_other bytes ≡ false → header_after_word bytes ≢ Other
header_is_some [] some is = cc
header_is_some (b ∷ bytes) some is =
    grind (arith, nat_tests, quoted_is_some (without_blanks bytes), rw (ends_word b) at some)

header_is_none : (bytes : List ℕ) → header_after_word bytes ≢ Other → is_other bytes ≡ false
header_is_none [] some = refl
header_is_none (b ∷ bytes) some = ends_word b ∙ grind (arith, nat_tests)

given_by : (header : Header) → header ≢ Other
    → (name : Option (List ℕ)) × ((offset : ℕ) → begun offset header ≡ (offset, name) ∷ [])
given_by (Named name) some = (Some name, λ offset. refl)
given_by Unreadable some = (None, λ offset. refl)
given_by Other some = absurd (some refl)

header_given : (file : List ℕ) (offset : ℕ) → HeaderAt file offset
    → (name : Option (List ℕ)) × Contains (sections 0 file) (offset, name)
header_given file offset at =
    let (name, is) = given_by (header_after_word at.after) (header_is_some at.after at.is_not_other) in
    let bytes = at.word ++ at.after in
    let whole : file ≡ at.before ++ byte "[" ∷ bytes =
    at.is_file ∙ append_assoc at.before (byte "[" ∷ at.word) at.after in
    let first = first_of_all offset bytes name
    (ap (begun offset) (word_read at.word at.after at.is_word) ∙ is offset) in (
      name,
      rw whole (one_of_all 0 offset at.before (byte "[" ∷ bytes)
          (offset, name) (omega (arith, at.is_offset)) first),
    )

given_header : (file : List ℕ) (offset : ℕ) (name : Option (List ℕ))
    → Contains (sections 0 file) (offset, name) → HeaderAt file offset
given_header file offset name there =
    let (before, bytes, is_file, at, is_begun) = begins 0 file (offset, name) there in
    let some = some_begun offset (header_after_bracket bytes) (offset, name) is_begun in
    let (word, read) = after_bracket bytes some in
    let whole : file ≡ before ++ byte "[" ∷ (take 9 bytes ++ drop 9 bytes) =
    is_file ∙ rw take-append-drop refl in
    record {
      before = before;
      after = drop 9 bytes;
      word = take 9 bytes;
      is_word = word;
      is_file = grind (arith, whole, append_assoc);
      is_offset = omega arith;
      is_not_other = header_is_none (drop 9 bytes) (λ none. some (read ∙ none));
    }

pub each_header_given : IsEachHeaderGiven
each_header_given file offset =
    (header_given file offset, λ (name, there). given_header file offset name there)

-- ---- in order

abbrev IsSorted : ℕ → List (ℕ × Option (List ℕ)) → Type 0
IsSorted offset list = All (λ s. offset ≤ s.0) list × AllPairs (λ a b. a.0 < b.0) list

sorted_by : (offset : ℕ) (header : Header) (rest : List (ℕ × Option (List ℕ))) → IsSorted (offset + 1) rest
    → IsSorted offset (begun offset header ++ rest)
sorted_by offset (Named name) rest sorted = grind (arith, common_steps)
sorted_by offset Unreadable rest sorted = grind (arith, common_steps)
sorted_by offset Other rest sorted = (grind arith, sorted.1)

sorted_from : (offset : ℕ) (bytes : List ℕ) → IsSorted offset (sections offset bytes)
sorted_from offset [] = (λ k d below. absurd (omega arith), λ i j d lower below. absurd (omega arith))
sorted_from offset (b ∷ bytes) =
    let more = sorted_from (offset + 1) bytes in
    grind (arith, nat_tests, sorted_by offset (header_after_bracket bytes) _ more, more)

pub in_order : IsInOrder
in_order file = (sorted_from 0 file).1
