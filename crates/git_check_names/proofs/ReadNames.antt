-- The first name of an input, as it is read.
use Rattle.gix_validate.proofs.Common.{◌≡◌, ◌≢◌, ◌⊎◌, inl, inr, ℕ, ◌<◌, ◌≤◌, ◌==◌, false, List, [], ◌∷◌}
use Rattle.gix_validate.proofs.Common.{◌++◌, All, Consumes, Consumes-nil, Consumes-trans}
use Rattle.gix_validate.proofs.Common.{Option, None, Some, length, get_or, refl, arith, nat_tests}
use Rattle.gix_validate.proofs.Common.{append_assoc, append-nil, length-append, length-slice_split}
use Rattle.gix_validate.proofs.Common.{slice_split_none, All-from_get_or, IfSome}
use Rattle.std.proofs.lemmas.List.Splits.{slice_split_at}
use Rattle.std.specs.List.{slice_split}
use Rattle.std.proofs.lemmas.List.Elements.{All-append, All-get_or, All-nil}
use Rattle.gix_validate.specs.Pieces.{names_in, less_empty_last}
use Rattle.programs.specs.Promises.{ReadsBefore}
use Rattle.programs.specs.Reports.{max_line}
use Rattle.programs.specs.declared.input.Found.TheVariants.{Byte, Limit, End}
use Rattle.git_check_names.specs.declared.input.Next.TheVariants as next
use Rattle.git_check_names.specs.Private.{IsNext, SkipsPast}

-- ---- the names of a text

other_byte : (b end : ℕ) → b ≢ end → (b == end) ≡ false
other_byte b end other = grind (arith, nat_tests)

others : (end : ℕ) (front : List ℕ) → All (λ b. b ≢ end) front → All (λ b. (b == end) ≡ false) front
others end front none =
    All-from_get_or (λ b. (b == end) ≡ false) front 0
    (λ k below. other_byte (get_or front k 0) end (All-get_or (λ b. b ≢ end) front k 0 below none))

less_first : (first : List ℕ) (more : List (List ℕ)) → 1 ≤ length more
    → less_empty_last (first ∷ more) ≡ first ∷ less_empty_last more
less_first first [] some = absurd (omega arith)
less_first first (next ∷ more) some = refl

names_first : (end : ℕ) (front rest : List ℕ) → All (λ b. b ≢ end) front
    → names_in end (front ++ end ∷ rest) ≡ front ∷ names_in end rest
unfolding names_in
names_first end front rest none = grind (
  arith,
  nat_tests,
  slice_split_at (λ b. b == end) front end rest (others end front none),
  length-slice_split (λ b. b == end) rest,
  less_first front (slice_split (λ b. b == end) rest),
)

names_last : (end : ℕ) (front : List ℕ) → All (λ b. b ≢ end) front → front ≢ []
    → names_in end front ≡ front ∷ names_in end []
unfolding names_in
names_last end front none some =
    grind (arith, slice_split_none (λ b. b == end) front (others end front none))

-- ---- what a read gives

pub name_read : (end : ℕ) (front : List ℕ) (a b : Option (List ℕ)) → ReadsBefore end max_line a b front Byte
    → IfSome a (λ text. IsNext end text b front next.Name)
name_read end front None b read = tt
name_read end front (Some text) None read = absurd (read.bytes)
name_read end front (Some text) (Some rest) read =
    (read.reach, (rest, refl, grind (arith, append_assoc, names_first end front rest read.none)))

pub last_read : (end : ℕ) (front : List ℕ) (a b : Option (List ℕ)) → ReadsBefore end max_line a b front End
    → 0 < length front → IfSome a (λ text. IsNext end text b front next.Name)
last_read end front None b read some = tt
last_read end front (Some text) None read some = absurd (read.bytes)
last_read end front (Some text) (Some rest) read some =
    (read.reach.0, (rest, refl, grind (arith, append-nil, names_last end front read.none)))

none_in : (end : ℕ) → names_in end [] ≡ []
unfolding names_in
none_in end = refl

pub end_read : (end : ℕ) (front : List ℕ) (a b : Option (List ℕ)) → ReadsBefore end max_line a b front End
    → length front ≡ 0 → IfSome a (λ text. IsNext end text b front next.End)
end_read end front None b read none = tt
end_read end front (Some text) None read none = absurd (read.bytes)
end_read end [] (Some text) (Some rest) read none = grind (arith, none_in end)
end_read end (c ∷ front) (Some text) (Some rest) read none = absurd (omega arith)

-- ---- a name that is too long

-- what was skipped so far
abbrev pub Skipped : ℕ → Option (List ℕ) → Option (List ℕ) → Type 0
Skipped end a b = (done : List ℕ) × All (λ b. b ≢ end) done × Consumes a b done

pub skipped_none : (end : ℕ) (a : Option (List ℕ)) → Skipped end a a
skipped_none end a = ([], All-nil (λ b. b ≢ end), Consumes-nil a)

pub skipped_more : (end : ℕ) (part : List ℕ) (a b c : Option (List ℕ)) → Skipped end a b
    → ReadsBefore end max_line b c part Limit → Skipped end a c
skipped_more end part a b c (done, none, consumed) read = (
  done ++ part,
  All-append (λ b. b ≢ end) done part none read.none,
  Consumes-trans a b c done part consumed read.bytes,
)

-- the text is skipped to the byte
pub skipped_past : (end : ℕ) (part : List ℕ) (a b c : Option (List ℕ)) → Skipped end a b
    → ReadsBefore end max_line b c part Byte → IfSome a (λ text. SkipsPast end text c)
skipped_past end part None b c so read = tt
skipped_past end part (Some text) None c (done, none, consumed) read = absurd consumed
skipped_past end part (Some text) (Some rest) None so read = absurd (read.bytes)
skipped_past end part (Some text) (Some rest) (Some left) (done, none, consumed) read = record {
  skipped = done ++ part;
  rest = left;
  left_is = refl;
  none = All-append (λ b. b ≢ end) done part none read.none;
  cut = inl (grind (arith, append_assoc, read.bytes, consumed));
}

-- the text is skipped to its end
pub skipped_all : (end : ℕ) (part : List ℕ) (a b c : Option (List ℕ)) → Skipped end a b
    → ReadsBefore end max_line b c part End → IfSome a (λ text. SkipsPast end text c)
skipped_all end part None b c so read = tt
skipped_all end part (Some text) None c (done, none, consumed) read = absurd consumed
skipped_all end part (Some text) (Some rest) None so read = absurd (read.bytes)
skipped_all end part (Some text) (Some rest) (Some left) (done, none, consumed) read = record {
  skipped = done ++ part;
  rest = left;
  left_is = refl;
  none = All-append (λ b. b ≢ end) done part none read.none;
  cut = inr (grind (arith, append_assoc, append-nil, read.bytes, read.reach.1, consumed), read.reach.1);
}

long_some : (front skipped : List ℕ) → length front ≡ max_line → front ++ skipped ≢ []
long_some [] skipped long none = absurd (grind (arith, long))
long_some (b ∷ front) skipped long none = absurd (grind (arith, none))

long_names : (end : ℕ) (front skipped rest text after : List ℕ) → text ≡ front ++ after
    → (after ≡ skipped ++ end ∷ rest) ⊎ ((after ≡ skipped) × (rest ≡ []))
    → All (λ b. b ≢ end) (front ++ skipped) → front ++ skipped ≢ []
    → names_in end text ≡ (front ++ skipped) ∷ names_in end rest
long_names end front skipped rest text after is (inl cut) none some =
    grind (arith, append_assoc, is, cut, names_first end (front ++ skipped) rest none)
long_names end front skipped rest text after is (inr cut) none some =
    grind (arith, is, cut.0, cut.1, names_last end (front ++ skipped) none some)

pub long_read : (end : ℕ) (front name : List ℕ) (a b c : Option (List ℕ))
    → ReadsBefore end max_line a b front Limit → IfSome b (λ text. SkipsPast end text c)
    → IfSome a (λ text. IsNext end text c name next.TooLong)
long_read end front name None b c read past = tt
long_read end front name (Some text) None c read past = absurd (read.bytes)
long_read end front name (Some text) (Some rest) c read past =
    let all = All-append (λ b. b ≢ end) front past.skipped read.none past.none in (
      front ++ past.skipped,
      past.rest,
      past.left_is,
      long_names end front past.skipped past.rest text rest read.bytes past.cut all
          (long_some front past.skipped read.reach),
      grind (arith, length-append, read.reach),
    )
