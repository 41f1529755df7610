-- Searches for a slash, and what they say of pieces.
use Rattle.gix_validate.proofs.Common.{◌≡◌, ℕ, ◌+◌, ◌-◌, ◌/◌, ◌%◌, ◌^◌, ◌<◌, ◌≤◌, true, false, cond}
use Rattle.gix_validate.proofs.Common.{List, [], ◌∷◌, length, take, drop, get_or, get_or-drop}
use Rattle.gix_validate.proofs.Common.{arith, get_or_past, take_rest, bit_or, nat_le, nat_lt, ◌*◌}
use Rattle.gix_validate.proofs.Common.{bit_at, bit_at_above, bit_at-zero, cases_lt, nat_tests, ap}
use Rattle.gix_validate.proofs.Common.{◌∙◌, ◌&&◌, bit_at_or, sym, add-zero}
use Rattle.gix_validate.proofs.Common.{length-drop, position_or_len, position_or_len_is, drop-drop}
use Rattle.gix_validate.proofs.Common.{slice_split_first, slice_split_none, All-from_get_or}
use Rattle.gix_validate.specs.Pieces.{is_slash, pieces}
use Rattle.std.proofs.lemmas.Nat.{pow_pos, shl_whole, shr-shr}
use Rattle.std.proofs.lemmas.Nat.Bits.{bit_at_cat_high, bit_at_cat_low}
use Rattle.git_names.specs.Private.Slashes.{IsFirstSlash, MarksSlashes, NoSlash}

-- the bits of a block whose first lane is at this offset
abbrev pub HasSlashes : List ℕ → ℕ → ℕ → Type 0
HasSlashes x at bits = (k : ℕ) → k < 16 → bit_at bits k ≡ cond (is_slash (get_or x (at + k) 0)) 1 0

-- the same without those before an offset in the block, or right after it
bits_shifted : (bits d k : ℕ) → bit_at (bits / 2 ^ d) k ≡ bit_at bits (d + k)
bits_shifted bits d k = ap (λ n. n % 2) (shr-shr bits d k)

-- nothing is found in a block
pub none_in_block : (x : List ℕ) (start last at bits : ℕ) → last ≤ at → at ≤ last + 16 → bits < 2 ^ 16
    → HasSlashes x last bits → bits / 2 ^ (at - last) ≡ 0 → NoSlash x start at → NoSlash x start (last + 16)
none_in_block x start last at bits order near few lanes empty none k from below = grind (
  arith,
  nat_tests,
  cases_lt k at,
  none k,
  lanes (k - last),
  bits_shifted bits (at - last) (k - at),
  bit_at-zero (k - at),
)

-- the lowest bit is the first slash
pub first_in_block : (x : List ℕ) (start last at bits lane : ℕ) → start ≤ at → last ≤ at → at ≤ last + 16
    → last + 16 ≤ length x → bits < 2 ^ 16 → HasSlashes x last bits
    → bit_at (bits / 2 ^ (at - last)) lane ≡ 1
    → ((k : ℕ) → k < lane → bit_at (bits / 2 ^ (at - last)) k ≡ 0)
    → NoSlash x start at → IsFirstSlash x start (at + lane)
first_in_block x start last at bits lane from order near room few lanes set below none =
    let d = at - last in
    let bit : bit_at bits (d + lane) ≡ 1 = grind (arith, bits_shifted bits d lane) in
    let small : d + lane < 16 = grind (arith, cases_lt (d + lane) 16, bit_at_above bits 16 (d + lane)) in
    record {
      ordered = omega arith;
      within = omega arith;
      here = grind (arith, nat_tests, lanes (d + lane) small);
      none = λ k start k_below. grind (
        arith,
        nat_tests,
        cases_lt k at,
        none k,
        lanes (k - last),
        below (k - at),
        bits_shifted bits d (k - at),
      );
    }

-- the same of a block that begins at the offset
unshifted : (bits at : ℕ) → bits / 2 ^ (at - at) ≡ bits
unshifted bits at = grind arith

pub none_in_next : (x : List ℕ) (start at bits : ℕ) → bits < 2 ^ 16 → HasSlashes x at bits → bits ≡ 0
    → NoSlash x start at → NoSlash x start (at + 16)
none_in_next x start at bits few lanes empty none =
    none_in_block x start at at bits (omega arith) (omega arith) few lanes (unshifted bits at ∙ empty) none

pub first_in_next : (x : List ℕ) (start at bits lane : ℕ) → start ≤ at → at + 16 ≤ length x → bits < 2 ^ 16
    → HasSlashes x at bits → bit_at bits lane ≡ 1 → ((k : ℕ) → k < lane → bit_at bits k ≡ 0)
    → NoSlash x start at → IsFirstSlash x start (at + lane)
first_in_next x start at bits lane from room few lanes set below none =
    first_in_block x start at at bits lane from (omega arith) (omega arith) room few lanes
    (rw (unshifted bits at) set) (λ k small. rw (unshifted bits at) (below k small)) none

-- a block's bits, moved to where the block is in the text
abbrev pub MarksBlock : List ℕ → ℕ → ℕ → Type 0
MarksBlock x at bits = (k : ℕ)
    → bit_at bits k ≡ cond (nat_le at k && (nat_lt k (at + 16) && is_slash (get_or x k 0))) 1 0

pub block_at_start : (x : List ℕ) (bits : ℕ) → bits < 2 ^ 16 → HasSlashes x 0 bits → MarksBlock x 0 bits
block_at_start x bits few lanes k =
    grind (arith, nat_tests, cases_lt k 16, lanes k, bit_at_above bits 16 k)

pub block_moved : (x : List ℕ) (at bits : ℕ) → at ≤ 48 → bits < 2 ^ 16 → HasSlashes x at bits
    → MarksBlock x at (bits * 2 ^ at % 2 ^ 64)
block_moved x at bits room few lanes k =
    let whole : bits * 2 ^ at % 2 ^ 64 ≡ bits * 2 ^ at + 0 =
    shl_whole bits 16 at 64 few (omega (arith, room)) ∙ sym (add-zero (bits * 2 ^ at)) in
    ap (λ n. bit_at n k) whole
    ∙ grind (
      arith,
      nat_tests,
      cases_lt k at,
      cases_lt (k - at) 16,
      bit_at_cat_low bits at 0 k,
      bit_at_cat_high bits at 0 k (pow_pos at),
      bit_at-zero k,
      lanes (k - at),
      bit_at_above bits 16 (k - at),
    )

-- no slash follows the text
no_slash_past : (x : List ℕ) (k : ℕ) → length x ≤ k → is_slash (get_or x k 0) ≡ false
no_slash_past x k past = grind (arith, get_or_past x k 0 past)

-- the blocks that together are the text
pub marked_by_two : (x : List ℕ) (last a b : ℕ) → length x ≡ last + 16 → last ≤ 16 → MarksBlock x 0 a
    → MarksBlock x last b → MarksSlashes x (bit_or a b)
marked_by_two x last a b long few first second k = grind (
  arith,
  nat_tests,
  bit_at_or a b k,
  first k,
  second k,
  cases_lt k (length x),
  no_slash_past x k,
)

pub marked_by_four : (x : List ℕ) (last a b c d : ℕ) → length x ≡ last + 16 → 16 ≤ last → last ≤ 48
    → MarksBlock x 0 a → MarksBlock x last b → MarksBlock x 16 c → MarksBlock x (last - 16) d
    → MarksSlashes x (bit_or (bit_or (bit_or a b) c) d)
marked_by_four x last a b c d long some few first fourth second third k = grind (
  arith,
  nat_tests,
  bit_at_or a b k,
  bit_at_or (bit_or a b) c k,
  bit_at_or (bit_or (bit_or a b) c) d k,
  first k,
  second k,
  third k,
  fourth k,
  cases_lt k (length x),
  no_slash_past x k,
)

-- the lowest bit is the first slash
pub first_marked : (x : List ℕ) (bits lane : ℕ) → MarksSlashes x bits → bit_at bits lane ≡ 1
    → ((k : ℕ) → k < lane → bit_at bits k ≡ 0) → IsFirstSlash x 0 lane
first_marked x bits lane marks set below = record {
  ordered = omega arith;
  within = grind (arith, nat_tests, set, marks lane, cases_lt lane (length x), no_slash_past x lane);
  here = grind (arith, nat_tests, set, marks lane);
  none = λ k from k_below. grind (arith, nat_tests, marks k, below k k_below);
}

pub none_marked : (x : List ℕ) (bits : ℕ) → MarksSlashes x bits → bits ≡ 0 → NoSlash x 0 (length x)
none_marked x bits marks none k from below = grind (arith, nat_tests, marks k, none, bit_at-zero k)

-- what is left of the bits after a slash are those of the text after it
pub marks_after : (x : List ℕ) (bits lane : ℕ) → MarksSlashes x bits
    → MarksSlashes (take (length x - (lane + 1)) (drop (lane + 1) x)) (bits / 2 ^ lane / 2 ^ 1)
marks_after x bits lane marks k =
    ap (λ n. n % 2) (ap (λ n. n / 2 ^ k) (shr-shr bits lane 1) ∙ shr-shr bits (lane + 1) k)
    ∙ marks (lane + 1 + k) ∙ grind (arith, get_or-drop, take_rest)

-- what follows an offset, by the first slash from there on
position_of : (x : List ℕ) (start at : ℕ) → start ≤ at → at ≤ length x → NoSlash x start at
    → (at < length x → is_slash (get_or x at 0) ≡ true) → position_or_len is_slash (drop start x) ≡ at - start
position_of x start at order within none here = position_or_len_is is_slash (drop start x) (at - start) 0
    (omega (arith, length-drop start x))
    (λ k below. grind (arith, get_or-drop, none (start + k)))
    (λ below. grind (arith, get_or-drop, length-drop start x))

-- without a slash, that is the last piece
pub last_piece_from : (x : List ℕ) (start : ℕ) → start ≤ length x → NoSlash x start (length x)
    → pieces (drop start x) ≡ drop start x ∷ []
last_piece_from x start within none = slice_split_none is_slash (drop start x)
    (All-from_get_or (λ b. is_slash b ≡ false) (drop start x) 0
    (λ k below. grind (arith, get_or-drop, length-drop start x, none (start + k))))

-- with one, its first piece ends there
pub piece_from : (x : List ℕ) (start at : ℕ) → IsFirstSlash x start at
    → pieces (drop start x) ≡ take (at - start) (drop start x) ∷ pieces (drop (at + 1) x)
piece_from x start at first = grind (
  arith,
  position_of x start at first.ordered (omega (arith, first.within)) first.none (λ _. first.here),
  slice_split_first is_slash (drop start x) 0,
  length-drop start x,
  drop-drop,
)
