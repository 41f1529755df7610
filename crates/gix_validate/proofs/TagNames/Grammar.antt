-- A text is a tag name if and only if it has no fault.
use Rattle.gix_validate.proofs.Common.{◌≡◌, ℕ, length, Some, Bool, true, false, not, ◌&&◌, ◌||◌}
use Rattle.gix_validate.proofs.Common.{cond, eqb, List, [], ◌∷◌, ◌++◌, refl, append-nil}
use Rattle.gix_validate.proofs.Common.{append_assoc, list_any-append, codes, is_none, ◌==◌}
use Rattle.gix_validate.proofs.Common.{list_all, list_any, byte, nat_tests}
use Rattle.gix_validate.proofs.Texts.Pieces.{pieces_front, pieces_alone}
use Rattle.gix_validate.proofs.Texts.Endings.{last_piece, last_piece_push, ends_last_piece}
use Rattle.gix_validate.proofs.Texts.Endings.{slash_last, last_piece_apart, ends_cons}
use Rattle.gix_validate.proofs.TagNames.FaultTable.{is_none-half, is_none-line, is_none-found}
use Rattle.gix_validate.proofs.TagNames.FaultTable.{fault_of_byte_at, is_none-fault_of_byte, walked}
use Rattle.gix_validate.proofs.TagNames.FaultTable.{has_lock_suffix, at_first_offset_split}
use Rattle.gix_validate.proofs.TagNames.FaultTable.{at_first_offset_walked}
use Rattle.gix_validate.specs.Bytes.{is_bad, is_empty, begins, ends, holds}
use Rattle.gix_validate.specs.Pieces.{is_slash, pieces, has_no_slash}
use Rattle.gix_validate.specs.Tag.{is_good_piece, is_tag_name, ◌at◌, first_fault, fault_of}
use Rattle.gix_validate.specs.Tag.{fault_offset_of}
use Rattle.gix_validate.specs.Private.Adjacent.{fault_of_byte}
use native.Mathlib.Omega.{arith}

-- a byte that no good piece has
unfoldable pub is_refused : ℕ → Bool
is_refused b = is_bad b || b == byte "*"

-- what a piece may not have, but for its end
unfoldable goes_on : List ℕ → Bool
goes_on p =
    not (list_any is_refused p) && not (begins p (codes "."))
    && not (holds p (codes "..")) && not (holds p (codes "@{"))

-- the byte may not follow in the piece
unfoldable breaks : List ℕ → ℕ → Bool
breaks p b =
    is_refused b
    || ((eqb b (byte ".") && (is_empty p || ends p (codes "."))) || (eqb b (byte "{") && ends p (codes "@")))

-- the piece may end there
unfoldable may_end : List ℕ → Bool
may_end p = not (is_empty p) && not (ends p (codes ".lock"))

good_piece_parts : (p : List ℕ) → is_good_piece p ≡ (goes_on p && may_end p)
unfolding is_good_piece goes_on may_end is_refused
good_piece_parts p = grind arith

-- a part of two bytes is in the text already, or comes with the new byte
holds_push : (p : List ℕ) (b a c : ℕ)
    → holds (p ++ b ∷ []) (a ∷ c ∷ []) ≡ (holds p (a ∷ c ∷ []) || (ends p (a ∷ []) && eqb b c))
holds_push [] b a c = grind arith
holds_push (x ∷ []) b a c = grind (arith, nat_tests)
holds_push (x ∷ y ∷ p) b a c = grind (arith, ends_cons (a ∷ []) x (y ∷ p), holds_push (y ∷ p) b a c)

begins_push : (p : List ℕ) (b c : ℕ)
    → begins (p ++ b ∷ []) (c ∷ []) ≡ (begins p (c ∷ []) || (is_empty p && eqb b c))
begins_push [] b c = grind (arith, nat_tests)
begins_push (x ∷ p) b c = grind arith

goes_on_regrouped : (a x g z e c k d m f : Bool)
    → (not (a || (x || false)) && not (g || (z && e)) && not (c || (k && e)) && not (d || (m && f)))
    ≡ ((not a && not g && not c && not d) && not (x || ((e && (z || k)) || (f && m))))
goes_on_regrouped a x g z e c k d m f = grind arith

goes_on_push : (p : List ℕ) (b : ℕ) → goes_on (p ++ b ∷ []) ≡ (goes_on p && not (breaks p b))
unfolding goes_on breaks
goes_on_push p b = rw (
  list_any-append is_refused p (b ∷ []),
  begins_push p b (byte "."),
  holds_push p b (byte ".") (byte "."),
  holds_push p b (byte "@") (byte "{"),
) (grind (arith, goes_on_regrouped))

-- The table says no more of a byte than the piece before it does.
no_fault_of_byte : (y : List ℕ) (b : ℕ) → is_empty y ≡ false
    → is_none (fault_of_byte y b) ≡ cond (is_slash b) (may_end (last_piece y)) (not (breaks (last_piece y) b))
unfolding breaks is_refused is_bad may_end
no_fault_of_byte y b some =
    let end = λ (f : List ℕ) (apart : has_no_slash f ≡ true). ends_last_piece f apart y in
    grind (
      arith,
      nat_tests,
      is_none-fault_of_byte,
      slash_last,
      end (codes ".") refl,
      end (codes "@") refl,
      end (codes ".lock") refl,
    )

nothing_goes_on : goes_on [] ≡ true
unfolding goes_on
nothing_goes_on = refl

-- After what has begun, the pieces are good where the table finds no fault and the last of them may end.
walked_good : (y x : List ℕ) → is_empty y ≡ false
    → list_all is_good_piece (pieces (last_piece y ++ x))
    ≡ (goes_on (last_piece y) && (is_none (walked y x) && may_end (last_piece (y ++ x))))
unfolding walked
walked_good y [] some = grind (arith, append-nil, pieces_alone, good_piece_parts, last_piece_apart)
walked_good y (b ∷ x) some =
    let further = walked_good (y ++ b ∷ []) x in
    grind (
      arith,
      append_assoc,
      pieces_front,
      last_piece_apart,
      good_piece_parts,
      last_piece_push,
      goes_on_push,
      no_fault_of_byte,
      nothing_goes_on,
      further,
    )

-- From the first byte on, which is neither a slash nor a dot.
begun_good : (b : ℕ) (x : List ℕ)
    → list_all is_good_piece (pieces (b ∷ x))
    ≡ ((not (eqb b (byte "/")) && not (eqb b (byte ".")))
    && (is_none (walked [] (b ∷ x)) && may_end (last_piece (b ∷ x))))
unfolding walked is_good_piece breaks is_refused last_piece
begun_good b x = grind (
  arith,
  walked_good (b ∷ []) x refl,
  last_piece_push [] b,
  goes_on_push [] b,
  nothing_goes_on,
  is_none-fault_of_byte [] b,
)

is_none-parts : (x : List ℕ) → is_empty x ≡ false
    → is_none (fault_of x) ≡ (not (ends x (codes "/")) && (not (begins x (codes "/"))
    && ((is_none (walked [] x) && not (has_lock_suffix x))
    && (not (begins x (codes ".")) && not (ends x (codes "."))))))
unfolding fault_of first_fault
is_none-parts x some = grind (
  arith,
  is_none-half,
  is_none-line,
  is_none-found (fault_of_byte_at x) (length x),
  at_first_offset_split,
  at_first_offset_walked,
)

law_begun : (b : ℕ) (x : List ℕ) → is_tag_name (b ∷ x) ≡ is_none (fault_of (b ∷ x))
unfolding is_tag_name may_end
law_begun b x = grind (
  arith,
  nat_tests,
  begun_good,
  is_none-parts,
  slash_last,
  ends_last_piece (codes ".lock") refl (b ∷ x),
)

-- the grammar, and the table with its order: a text is a tag name if and only if it has no fault
pub tag_grammar_law : (x : List ℕ) → is_tag_name x ≡ is_none (fault_of x)
unfolding is_tag_name fault_of first_fault is_good_piece
tag_grammar_law x = grind (arith, nat_tests, law_begun)

-- a text is a tag name if and only if it has no offset of a fault
pub offset_grammar_law : (x : List ℕ) → is_tag_name x ≡ is_none (fault_offset_of x)
unfolding fault_of fault_offset_of
offset_grammar_law x = grind (arith, tag_grammar_law x)

-- and a first fault of both
pub first_fault_law : (x : List ℕ) → is_tag_name x ≡ is_none (first_fault x)
unfolding fault_of
first_fault_law x = grind (arith, tag_grammar_law x)

-- the two halves of the first fault, put together again
pub halves_law : (x : List ℕ) (i : ℕ) → fault_offset_of x ≡ Some i → first_fault x ≡ (fault_of x at i)
unfolding fault_of fault_offset_of
halves_law x i found = grind arith
