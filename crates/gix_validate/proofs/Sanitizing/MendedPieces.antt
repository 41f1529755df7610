-- One piece: which bytes may follow which in a good one, what cleaning it writes byte by byte,
-- and the laws of the mended piece.
use Rattle.gix_validate.proofs.Common.{◌≡◌, ℕ, Bool, true, false, List, [], ◌∷◌, ◌++◌, arith, ◌≢◌}
use Rattle.gix_validate.proofs.Common.{◌≤◌, length, refl, ◌-◌, take, drop, append_assoc, codes}
use Rattle.gix_validate.proofs.Common.{◌&&◌, ◌||◌, not, ◌==◌, Option, Some, None, if◌then◌else◌}
use Rattle.gix_validate.proofs.Common.{list_any, byte, and_parts, cond_both, common_steps}
use Rattle.gix_validate.proofs.Common.{nat_tests, take-append-drop, same_from_push, list_all-append}
use Rattle.gix_validate.proofs.Texts.Endings.{ends-false, ends-no}
use Rattle.gix_validate.proofs.TagNames.Grammar.{is_refused}
use Rattle.gix_validate.proofs.Sanitizing.LockSuffixes.{cut_front, cut_open, cut-own, length-cut}
use Rattle.gix_validate.specs.Sanitized.{Run, Dots, Other, dot_before, runs, byte_of, bytes_of}
use Rattle.gix_validate.specs.Sanitized.{allowed, cleaned, cut, dash_last}
use Rattle.gix_validate.specs.Bytes.{is_bad, is_empty, ends, holds, begins}
use Rattle.gix_validate.specs.Tag.{is_good_piece}
use Rattle.gix_validate.specs.Pieces.{is_slash, has_no_slash}

-- the byte may follow this one, or first in a piece
abbrev pub may_follow : Option ℕ → ℕ → Bool
may_follow None b = not (is_refused b) && not (begins (b ∷ []) (codes "."))
may_follow (Some a) b =
    not (is_refused b) && (not (begins (a ∷ b ∷ []) (codes "..")) && not (begins (a ∷ b ∷ []) (codes "@{")))

-- each byte of the text may follow the one before it, where this one, if any, is before the first
abbrev pub each_may_follow : Option ℕ → List ℕ → Bool
each_may_follow before [] = true
each_may_follow before (b ∷ p) = may_follow before b && each_may_follow (Some b) p

may_follow_regrouped : (x y z x' y' z' : Bool)
    → ((not x && (not y && not z)) && (not x' && (not y' && not z')))
    ≡ (not (x || x') && (not (y || y') && not (z || z')))
may_follow_regrouped x y z x' y' z' = grind arith

may_begin_regrouped : (x d x' y z e : Bool)
    → (((((true && not (x || x')) && not d) && not y) && not z) && not e)
    ≡ (((not x && not d) && (not x' && (not y && not z))) && not e)
may_begin_regrouped x d x' y z e = grind arith

each_after : (a : ℕ) (p : List ℕ)
    → each_may_follow (Some a) p
    ≡ (not (list_any is_refused p) && (not (holds (a ∷ p) (codes "..")) && not (holds (a ∷ p) (codes "@{"))))
each_after a [] = grind arith
each_after a (b ∷ p) = grind (arith, may_follow_regrouped, each_after b p)

pub is_good_piece-bytes : (p : List ℕ)
    → is_good_piece p ≡ (not (is_empty p) && (each_may_follow None p && not (ends p (codes ".lock"))))
unfolding is_good_piece is_refused
is_good_piece-bytes p = grind (arith, nat_tests, may_begin_regrouped, each_after)

-- A front of such a text is one too.
pub each_may_follow-front : (before : Option ℕ) (f r : List ℕ) → each_may_follow before (f ++ r) ≡ true
    → each_may_follow before f ≡ true
each_may_follow-front before [] r h = grind arith
each_may_follow-front before (b ∷ f) r h = grind (arith, each_may_follow-front (Some b) f r)

dash_follows : (before : Option ℕ) → may_follow before (byte "-") ≡ true
unfolding is_bad is_refused
dash_follows before = grind (arith, nat_tests)

-- A dash may follow each byte, and first.
pub each_may_follow-dash : (before : Option ℕ) (f : List ℕ) → each_may_follow before f ≡ true
    → each_may_follow before (f ++ codes "-") ≡ true
each_may_follow-dash before [] h = grind (arith, dash_follows)
each_may_follow-dash before (b ∷ f) h = grind (arith, each_may_follow-dash (Some b) f)

-- the byte before is this one
abbrev pub is_after : ℕ → Option ℕ → Bool
is_after a None = false
is_after a (Some b) = b == a

-- what a byte adds to its piece, by the byte before it in the piece, if there is one:
-- of the dots in a row the first adds one
abbrev pub added : Option ℕ → ℕ → List ℕ
added before b =
    if b == byte "." then (if is_after (byte ".") before then [] else byte_of before Dots ∷ [])
    else byte_of before (Other b) ∷ []

-- what the bytes of a piece add
abbrev pub added_by : Option ℕ → List ℕ → List ℕ
added_by before [] = []
added_by before (b ∷ p) = added before b ++ added_by (Some b) p

dot_before-twice : (rs : List Run) → dot_before (dot_before rs) ≡ dot_before rs
dot_before-twice rs = grind (arith, nat_tests)

-- The runs of a piece give what its bytes add, and the same after a dot.
runs_added : (p : List ℕ)
    → ((before : Option ℕ) → is_after (byte ".") before ≡ false
    → bytes_of before (runs p) ≡ added_by before p)
    × ((before : Option ℕ)
    → bytes_of before (dot_before (runs p)) ≡ byte_of before Dots ∷ added_by (Some (byte ".")) p)
runs_added [] = grind (arith, nat_tests)
runs_added (b ∷ p) = grind (arith, nat_tests, dot_before-twice, runs_added p)

pub cleaned-added : (p : List ℕ) → cleaned p ≡ added_by None p
unfolding cleaned
cleaned-added p = (runs_added p).0 None refl

length-added : (before : Option ℕ) (p : List ℕ) → length (added_by before p) ≤ length p
length-added before [] = grind arith
length-added before (b ∷ p) = grind (arith, length-added (Some b) p)

added-own : (before : Option ℕ) (b : ℕ) → may_follow before b ≡ true → added before b ≡ b ∷ []
unfolding is_refused
added-own before b h = grind (arith, nat_tests)

-- A piece whose bytes may each follow the one before stays as it is.
added_by-own : (before : Option ℕ) (p : List ℕ) → each_may_follow before p ≡ true → added_by before p ≡ p
added_by-own before [] h = refl
added_by-own before (b ∷ p) h =
    let parts = and_parts (may_follow before b) (each_may_follow (Some b) p) h in
    rw (added-own before b parts.0, added_by-own (Some b) p parts.1)

-- an allowed byte is one that a good piece may have, and is a dot, `@` or `{` only if the byte is
allowed_kept : (b : ℕ) → (is_refused (allowed b) ≡ false) × ((allowed b == byte ".") ≡ (b == byte "."))
    × ((allowed b == byte "@") ≡ (b == byte "@")) × ((allowed b == byte "{") ≡ (b == byte "{"))
unfolding is_bad is_refused
allowed_kept b = grind (arith, nat_tests)

marks_follow : (before : Option ℕ) → is_after (byte ".") before ≡ false
    → may_follow before (byte_of before Dots) ≡ true
unfolding is_bad is_refused
marks_follow before h = grind (arith, nat_tests)

others_follow : (before : Option ℕ) (b : ℕ) → (b == byte ".") ≡ false
    → may_follow before (byte_of before (Other b)) ≡ true
others_follow before b h = grind (arith, nat_tests, allowed_kept, dash_follows)

-- What may follow a byte may follow what is written for it.
follow_written : (before : Option ℕ) (b : ℕ) (t : List ℕ) → each_may_follow (Some b) t ≡ true
    → each_may_follow (Some (byte_of before (if b == byte "." then Dots else Other b))) t ≡ true
follow_written before b [] h = grind arith
follow_written before b (c ∷ t) h = grind (arith, nat_tests, allowed_kept b)

-- Of a cleaned piece each byte may follow the one before.
added_follows : (before : Option ℕ) (p : List ℕ) → each_may_follow before (added_by before p) ≡ true
added_follows before [] = grind arith
added_follows before (b ∷ p) = grind (
  arith,
  nat_tests,
  marks_follow before,
  others_follow before b,
  follow_written before b (added_by (Some b) p),
  added_follows (Some b) p,
)

-- A cleaned piece has no slash where the piece has none.
added-apart : (before : Option ℕ) (p : List ℕ) → has_no_slash p ≡ true
    → has_no_slash (added_by before p) ≡ true
added-apart before [] h = grind arith
added-apart before (b ∷ p) h = grind (arith, nat_tests, added-apart (Some b) p)

-- A piece that is not empty leaves something.
pub cleaned_some : (p : List ℕ) → is_empty p ≡ false → is_empty (cleaned p) ≡ false
cleaned_some p h = grind (arith, nat_tests, common_steps, cleaned-added)

pub is_good_piece-empty : is_good_piece [] ≡ false
unfolding is_good_piece
is_good_piece-empty = refl

-- A cut leaves something of a text that is not empty and whose bytes may each follow the one before.
cut_some : (t : List ℕ) → is_empty t ≡ false → each_may_follow None t ≡ true → is_empty (cut t) ≡ false
unfolding cut
cut_some t h e = grind (arith, nat_tests, cond_both, and_parts)

is_good_piece-from : (p : List ℕ) → is_empty p ≡ false → each_may_follow None p ≡ true
    → ((f : List ℕ) → p ≢ f ++ codes ".lock") → is_good_piece p ≡ true
is_good_piece-from p some follows other =
    grind (arith, is_good_piece-bytes, ends-false p (codes ".lock") other)

-- A piece that is not empty is mended to a good piece.
pub mend_good : (p : List ℕ) → is_empty p ≡ false → is_good_piece (cut (cleaned p)) ≡ true
mend_good p some =
    let follows : each_may_follow None (cleaned p) ≡ true =
    grind (arith, cleaned-added p, added_follows None p) in
    is_good_piece-from (cut (cleaned p)) (cut_some (cleaned p) (cleaned_some p some) follows)
    (grind (
      arith,
      cut_front (cleaned p),
      each_may_follow-front None (cut (cleaned p)) (drop (length (cut (cleaned p))) (cleaned p)),
    )) (cut_open (cleaned p))

-- A good piece stays as it is.
pub mend-own : (p : List ℕ) → is_good_piece p ≡ true → cut (cleaned p) ≡ p
mend-own p good = grind (arith, is_good_piece-bytes, cleaned-added, added_by-own, cut-own, ends-no)

pub mend_apart : (p : List ℕ) → has_no_slash p ≡ true → has_no_slash (cut (cleaned p)) ≡ true
mend_apart p apart =
    let front =
    list_all-append (λ b. not (is_slash b)) (cut (cleaned p)) (drop (length (cut (cleaned p))) (cleaned p)) in
    grind (arith, cleaned-added, added-apart, cut_front (cleaned p))

pub length-mend : (p : List ℕ) → length (cut (cleaned p)) ≤ length p
length-mend p = grind (arith, cleaned-added, length-cut, length-added)

-- A good piece stays one with a dash for its last byte.
pub dash_last-good : (p : List ℕ) → is_good_piece p ≡ true → is_good_piece (dash_last p) ≡ true
dash_last-good p good =
    let f = take (length p - 1) p in
    is_good_piece-from (dash_last p) (grind arith)
    (grind (
      arith,
      is_good_piece-bytes,
      take-append-drop (length p - 1) p,
      each_may_follow-front None f (drop (length p - 1) p),
      each_may_follow-dash None f,
    ))
    (λ g e. grind (arith, same_from_push f (g ++ codes ".loc") (byte "-") (byte "k"), append_assoc))

pub dash_last-apart : (p : List ℕ) → has_no_slash p ≡ true → has_no_slash (dash_last p) ≡ true
dash_last-apart p apart = grind (arith, take-append-drop (length p - 1) p, list_all-append)
