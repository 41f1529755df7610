-- Parts of a text that together are all of it, a short text as one block,
-- and what the lanes of a scan say of offsets.
use Rattle.gix_validate.proofs.Common.{◌≡◌, ℕ, ◌+◌, ◌-◌, ◌%◌, ◌<◌, ◌≤◌, ◌↔◌, Bool, true, false}
use Rattle.gix_validate.proofs.Common.{◌||◌, eqb, List, [], ◌∷◌, ◌++◌, max, length, take, drop}
use Rattle.gix_validate.proofs.Common.{get_or, replicate, refl, ap, ap₂, ◌∙◌, arith, take-add}
use Rattle.gix_validate.proofs.Common.{eqb-true, ◌^◌, cond, ltb, Option, mod-lt, mod-eq_of_lt}
use Rattle.gix_validate.proofs.Common.{agree_below, agree_below_at, cases_lt, get_or-map}
use Rattle.gix_validate.proofs.Common.{get_or-replicate, get_or_append_left, get_or-append_right}
use Rattle.gix_validate.proofs.Common.{drop-drop, take-append-drop, get_or-take, length-take-le}
use Rattle.gix_validate.proofs.Common.{list_any, All-from_get_or, list_any-append, list_any_at}
use Rattle.gix_validate.proofs.Common.{list_any_none, length-chunk, get_or-chunk, common_steps}
use Rattle.gix_validate.proofs.Common.{nat_tests, bit_at, bit_at_above, bit_at-zero}
use Rattle.gix_validate.specs.Bytes.{is_among}
use Rattle.gix_validate.specs.Private.Scan.{HasParts, NoneBelow, IsFirst, Finds, at_both}
use Rattle.gix_validate.proofs.Blocks.Lanes.{at_pair}
use lib.Lanes.{chunk, pick_l}

-- the offset of the byte in lane k of a block that has parts
abbrev pub offset_of : ℕ → ℕ → ℕ → ℕ → ℕ
offset_of n first second k = cond (ltb (k % (n + n)) n) (first + k % (n + n)) (second + (k % (n + n) - n))

-- no element passes if and only if none does at its offset
pub none_at : (p : ℕ → Bool) (v : List ℕ)
    → (list_any p v ≡ false) ↔ ((k : ℕ) → k < length v → p (get_or v k 0) ≡ false)
none_at p v = (
  λ e k h. grind (arith, list_any_at p v k 0),
  λ none. list_any_none p v (All-from_get_or (λ b. p b ≡ false) v 0 none),
)

-- a search for two bytes says whether one is in the text
pub either_among : (a b : ℕ) (x : List ℕ)
    → list_any (λ c. eqb c a || eqb c b) x ≡ (is_among x a || is_among x b)
either_among a b [] = refl
either_among a b (c ∷ x) = grind (arith, nat_tests, either_among a b x)

pub none_of_empty : (a : ℕ) (x : List ℕ) → length x ≡ 0 → is_among x a ≡ false
none_of_empty a [] none = refl
none_of_empty a (b ∷ x) none = absurd (omega arith)

same_none : (s t : Bool) → (s ≡ false → t ≡ false) → (t ≡ false → s ≡ false) → s ≡ t
same_none s t one two = grind arith

pub whole_chunk : (i n : ℕ) (x : List ℕ) → i + n ≡ length x → chunk i n x ≡ drop i x
whole_chunk i n x e = grind (arith, common_steps)

any_split : (p : ℕ → Bool) (x : List ℕ) (i : ℕ)
    → (list_any p (take i x) || list_any p (drop i x)) ≡ list_any p x
any_split p x i = grind (arith, list_any-append p (take i x) (drop i x), take-append-drop)

-- a front, and the part after it
pub any_with_chunk : (p : ℕ → Bool) (x : List ℕ) (i n : ℕ)
    → list_any p (take (i + n) x) ≡ (list_any p (take i x) || list_any p (chunk i n x))
any_with_chunk p x i n = ap (list_any p) (take-add i n x) ∙ list_any-append p (take i x) (chunk i n x)

-- a front and a back that meet or overlap
pub any_overlap : (p : ℕ → Bool) (x : List ℕ) (i j : ℕ) → i ≤ j
    → (list_any p (take j x) || list_any p (drop i x)) ≡ list_any p x
any_overlap p x i j h =
    grind (arith, any_split p x i, any_with_chunk p x i (j - i), any_split p (drop i x) (j - i))

-- a front, and a part that begins in it or right after it
any_extend : (p : ℕ → Bool) (x : List ℕ) (k i n : ℕ) → i ≤ k
    → (list_any p (take k x) || list_any p (chunk i n x)) ≡ list_any p (take (max k (i + n)) x)
any_extend p x k i n h =
    let parts = any_with_chunk p (drop i x) in
    grind (
      arith,
      any_with_chunk p x i n,
      any_with_chunk p x i (k - i),
      parts (k - i) (i + n - k),
      parts n (k - (i + n)),
    )

-- a part at the end, where nothing is found before it
pub any_to_end : (p : ℕ → Bool) (x : List ℕ) (last i n : ℕ) → last ≤ i → last + n ≡ length x
    → list_any p (take i x) ≡ false → list_any p (chunk last n x) ≡ list_any p x
any_to_end p x last i n order long none = grind (arith, whole_chunk, any_overlap)

-- a part in which something is found
pub any_in_chunk : (p : ℕ → Bool) (x : List ℕ) (i n : ℕ) → true ≡ list_any p (chunk i n x)
    → true ≡ list_any p x
any_in_chunk p x i n found = grind (arith, any_with_chunk, any_overlap p x 0 (i + n))

-- ---- a block of parts of a text

read_part : (n first second r : ℕ) (x : List ℕ) → r < n + n → first + n ≤ length x
    → get_or (chunk first n x ++ chunk second n x) r 0
    ≡ get_or x (cond (ltb r n) (first + r) (second + (r - n))) 0
read_part n first second r x small f = grind (
  arith,
  nat_tests,
  get_or_append_left (chunk first n x) (chunk second n x) 0 r,
  get_or-append_right (chunk first n x) (chunk second n x) n r 0,
  length-chunk first n x f,
  get_or-chunk first n x r 0,
  get_or-chunk second n x (r - n) 0,
)

pub has_parts : (n first second : ℕ) (x ks : List ℕ) → 0 < n → first + n ≤ length x → second + n ≤ length x
    → length ks ≡ 16 → agree_below (λ k. eqb (get_or ks k 0) (k % (n + n))) (λ _. true) 16 ≡ true
    → HasParts n first second x (pick_l 0 (chunk first n x ++ chunk second n x) ks)
has_parts n first second x ks some f s long all k small =
    let both = chunk first n x ++ chunk second n x in
    let lane : get_or ks k 0 ≡ k % (n + n) =
    eqb-true _ _ (agree_below_at (λ k. eqb (get_or ks k 0) (k % (n + n))) (λ _. true) 16 k all small) in
    get_or-map (λ j. get_or both j 0) ks k 0 0 (omega arith) ∙ ap (λ j. get_or both j 0) lane
    ∙ read_part n first second (k % (n + n)) x (omega arith) f

-- a block of two parts
any_of_parts : (n a b : ℕ) (x block : List ℕ)
    → (0 < n) × (n + n ≤ 16) × (a + n ≤ length x) × (b + n ≤ length x) × (length block ≡ 16)
    → HasParts n a b x block → (p : ℕ → Bool)
    → list_any p block ≡ (list_any p (chunk a n x) || list_any p (chunk b n x))
any_of_parts n a b x block sizes parts p =
    same_none _ _ (λ none. let lane = (none_at p block).0 none in ap₂ (λ s t. s || t)
    ((none_at p (chunk a n x)).1 (λ k h.
    grind (arith, nat_tests, lane k, parts k, get_or-chunk a n x k 0, length-chunk a n x, mod-eq_of_lt)))
    ((none_at p (chunk b n x)).1 (λ k h. grind (
      arith,
      nat_tests,
      lane (n + k),
      parts (n + k),
      get_or-chunk b n x k 0,
      length-chunk b n x,
      mod-eq_of_lt,
    ))))
    (λ none. grind (arith, nat_tests, none_at, get_or-chunk, length-chunk, mod-lt, mod-eq_of_lt))

-- the first n of m bytes and the last n are all of them, and a block has them
abbrev pub AreAll : ℕ → ℕ → ℕ → Type 0
AreAll n back m = (0 < n) × (n + n ≤ 16) × (back + n ≡ m) × (m ≤ n + n)

pub parts_cover : (n back : ℕ) (x block : List ℕ) → AreAll n back (length x) → length block ≡ 16
    → HasParts n 0 back x block → (p : ℕ → Bool) → list_any p block ≡ list_any p x
parts_cover n back x block all long parts p =
    any_of_parts n 0 back x block (omega arith) parts p
    ∙ grind (arith, any_overlap p x back n, whole_chunk back n x)

-- a front, and the two parts after it
pub any_two_chunks : (p : ℕ → Bool) (x : List ℕ) (i n : ℕ)
    → list_any p (chunk i (n + n) x) ≡ (list_any p (chunk i n x) || list_any p (chunk (i + n) n x))
any_two_chunks p x i n =
    any_with_chunk p (drop i x) n n
    ∙ ap (λ y. list_any p (take n (drop i x)) || list_any p (take n y)) (drop-drop n i x)

-- four parts side by side
pub any_of_four : (p : ℕ → Bool) (x : List ℕ) (i : ℕ) (a b c d : Bool)
    → a ≡ list_any p (chunk i 16 x) → b ≡ list_any p (chunk (i + 16) 16 x)
    → c ≡ list_any p (chunk (i + 32) 16 x) → d ≡ list_any p (chunk (i + 48) 16 x)
    → (((a || b) || c) || d) ≡ list_any p (chunk i 64 x)
any_of_four p x i a b c d ea eb ec ed =
    let last : chunk (i + 32 + 16) 16 x ≡ chunk (i + 48) 16 x = ap (λ k. chunk k 16 x) (omega arith) in
    grind (
      arith,
      ea,
      eb,
      ec,
      ed,
      last,
      any_two_chunks p x i 16,
      any_two_chunks p x (i + 32) 16,
      any_two_chunks p x i 32,
    )

-- The offsets of four parts of eight bytes that together are all of a text of 8 to 32 bytes: the first eight,
-- eight that follow or are the last, eight from sixteen before the end on, and the last eight.
abbrev pub AreShort : ℕ → ℕ → ℕ → ℕ → Type 0
AreShort mid start last m =
    (last + 8 ≡ m) × (mid ≤ last) × (start ≤ last) × (last ≤ mid + 16)
    × (last ≤ start + 8) × (start ≤ mid + 8) × (mid ≤ 8)

pub both_cover : (mid start last : ℕ) (x v w : List ℕ) → AreShort mid start last (length x)
    → (length v ≡ 16) × (length w ≡ 16) → HasParts 8 0 mid x v → HasParts 8 start last x w → (p : ℕ → Bool)
    → (list_any p v || list_any p w) ≡ list_any p x
both_cover mid start last x v w short long pv pw p =
    let front = any_of_parts 8 0 mid x v (omega arith) pv p in
    let back = any_of_parts 8 start last x w (omega arith) pw p in
    let parts = any_extend p x in
    grind (
      arith,
      front,
      back,
      parts 8 mid 8,
      parts (mid + 8) start 8,
      whole_chunk last 8 x,
      any_overlap p x last (max (mid + 8) (start + 8)),
    )

pub one_covers : (x : List ℕ) → length x ≡ 1 → HasParts 1 0 0 x (replicate 16 (get_or x 0 0))
one_covers x one k h = grind (arith, nat_tests, get_or-replicate, mod-lt)

-- ---- offsets

-- the lanes go over the offsets from one on and before another, each first in its own lane
record GoOver (offset lane_of : ℕ → ℕ) (at end : ℕ) : Type 0 where
  within : (k : ℕ) → k < 16 → offset k < end
  seen : (j : ℕ) → at ≤ j → j < end → (lane_of j < 16) × (offset (lane_of j) ≡ j)
  early : (j k : ℕ) → at ≤ j → j < offset k → lane_of j < k

-- an empty mask says that there is no hit before the end, and the first lane with a bit is the first hit
abbrev pub Found : (ℕ → Bool) → (ℕ → ℕ) → ℕ → ℕ → ℕ → Type 0
Found hit offset offsets end mask =
    (mask ≡ 0 → NoneBelow hit end)
    × ((lane : ℕ) → bit_at mask lane ≡ 1
    → ((k : ℕ) → k < lane → bit_at mask k ≡ 0) → IsFirst hit offsets (offset lane))

-- where the mask has a bit for each hit
found : (hit : ℕ → Bool) (offset lane_of : ℕ → ℕ) (offsets at end mask : ℕ)
    → GoOver offset lane_of at end → end ≤ offsets → NoneBelow hit at → mask < 2 ^ 16
    → ((k : ℕ) → k < 16 → bit_at mask k ≡ cond (hit (offset k)) 1 0) → Found hit offset offsets end mask
found hit offset lane_of offsets at end mask over room none few lanes = (
  λ empty j below.
      grind
      (arith, nat_tests, cases_lt j at, over.seen j, none j, lanes (lane_of j), bit_at-zero (lane_of j)),
  λ lane set clear.
      let small : lane < 16 = grind (arith, cases_lt lane 16, bit_at_above mask 16 lane) in
      let within = over.within lane small in
      record {
        within = omega arith;
        here = grind (arith, nat_tests, lanes lane small);
        none = λ j below.
            grind (
              arith,
              nat_tests,
              cases_lt j at,
              none j,
              over.seen j,
              over.early j lane,
              lanes (lane_of j),
              clear (lane_of j),
            );
      },
)

-- sixteen offsets in a row
block_over : (at : ℕ) → GoOver (λ k. at + k) (λ j. j - at) at (at + 16)
block_over at = grind arith

pub block_found : (hit : ℕ → ℕ → Bool) (x y : List ℕ) (at mask : ℕ)
    → at + 16 ≤ length x → NoneBelow (at_both hit x y) at → mask < 2 ^ 16
    → ((k : ℕ) → k < 16
    → bit_at mask k ≡ cond (hit (get_or (chunk at 16 x) k 0) (get_or (chunk at 16 y) k 0)) 1 0)
    → Found (at_both hit x y) (λ k. at + k) (length x) (at + 16) mask
block_found hit x y at mask room none few lanes =
    found (at_both hit x y) (λ k. at + k) (λ j. j - at) _ at _ mask (block_over at) room none few (λ k small.
    grind (arith, lanes k small, get_or-chunk at 16 x k 0, get_or-chunk at 16 y k 0))

-- the first n offsets and the last n
parts_over : (n back m : ℕ) → AreAll n back m
    → GoOver (offset_of n 0 back) (λ j. cond (ltb j n) j (n + (j - back))) 0 m
parts_over n back m all = grind (arith, nat_tests, mod-lt, mod-eq_of_lt)

pub parts_found : (hit : ℕ → ℕ → Bool) (x y v w : List ℕ) (n back mask : ℕ)
    → AreAll n back (length x) → HasParts n 0 back x v → HasParts n 0 back y w
    → mask < 2 ^ 16 → ((k : ℕ) → k < 16 → bit_at mask k ≡ cond (hit (get_or v k 0) (get_or w k 0)) 1 0)
    → Found (at_both hit x y) (offset_of n 0 back) (length x) (length x) mask
parts_found hit x y v w n back mask all px py few lanes =
    found (at_both hit x y) (offset_of n 0 back) _ _ 0 _ mask
    (parts_over n back (length x) all) (omega arith) (λ k h. grind arith) few (λ k small.
    grind (arith, lanes k small, px k small, py k small))

pub in_front : (n back k : ℕ) → k % (n + n) < n → offset_of n 0 back k ≡ k % (n + n)
in_front n back k h = grind (arith, nat_tests)

pub in_back : (n back k : ℕ) → n ≤ k % (n + n) → offset_of n 0 back k ≡ back + (k % (n + n) - n)
in_back n back k h = grind (arith, nat_tests)

-- adjacent bytes: the same found by a condition that is the same at each offset
alike : (p q : ℕ → Bool) (m n : ℕ) (found : Option ℕ) → m ≡ n
    → ((k : ℕ) → k < m → p k ≡ q k) → Finds p m m found → Finds q n n found
alike p q m n found long same finds = grind (arith, nat_tests)

pub pairs_found : (hit : ℕ → ℕ → Bool) (x : List ℕ) (n : ℕ) (found : Option ℕ) → n + 1 ≡ length x
    → Finds (at_both hit (take n x) (chunk 1 n x)) (length (take n x)) (length (take n x)) found
    → Finds (at_pair hit x) n n found
pairs_found hit x n found long finds =
    grind (arith, nat_tests, alike, get_or-take, get_or-chunk, length-take-le)
