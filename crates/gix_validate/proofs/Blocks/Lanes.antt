-- Sixteen lanes: look-ups in a table of sixteen, tests whether some lane passes, and suspect bytes.
use Rattle.gix_validate.proofs.Common.{◌≡◌, ℕ, zero, suc, ◌+◌, ◌/◌, ◌%◌, ◌^◌, ◌<◌, ◌≤◌, Bool, true}
use Rattle.gix_validate.proofs.Common.{false, not, ◌&&◌, ◌||◌, cond, eqb, List, [], ◌∷◌, map}
use Rattle.gix_validate.proofs.Common.{length, get_or, replicate, bit_and, bit_or, refl, sym, ap}
use Rattle.gix_validate.proofs.Common.{ap₂, ◌∙◌, arith, w8, Fits, eqb-true, ◌-◌, ◌↔◌, add-one}
use Rattle.gix_validate.proofs.Common.{bit_xor, ltb, agree_below, agree_below_at, cases_lt}
use Rattle.gix_validate.proofs.Common.{ltb-true, nat_tests, bit_at_above, same_from_bits}
use Rattle.gix_validate.proofs.Common.{get_or-map, get_or_past, length-map, and_mask, le_or_l}
use Rattle.gix_validate.proofs.Common.{le_or_r, get_or-zip2, zip2_splat, zip2-map, length-zip2}
use Rattle.gix_validate.proofs.Common.{mask_l-lt, mask_l-mod, bit_mask_l, bitmask_splat, swz_l}
use Rattle.gix_validate.proofs.Common.{SwzOk, bit_at, list_any, codes, ◌==◌, if◌then◌else◌, byte}
use Rattle.gix_validate.proofs.Common.{false≢true}
use lib.Lanes.{zip2, mask_l, fold_l, top, Each1, sel_l}
use Rattle.gix_validate.specs.declared.adjacent.TheConstants.{CLASSES_BY_LOW_NIBBLE}
use Rattle.gix_validate.specs.declared.adjacent.TheConstants.{CLASSES_BY_HIGH_NIBBLE, SUSPECT_AFTER}
use Rattle.gix_validate.specs.declared.adjacent.TheConstants.{AFTER_DOT, AFTER_SLASH, ANYWHERE}
use Rattle.gix_validate.specs.Private.Scan.{is_nonzero, NoneBelow, IsFirst}
use Rattle.gix_validate.specs.Bytes.{is_bad, is_among, ends}
use Rattle.gix_validate.specs.Private.Adjacent.{is_suspect, may_be_faulty, suspect_at, IsClear}

-- whether the byte at this offset and the next one are a hit
abbrev pub at_pair : (ℕ → ℕ → Bool) → List ℕ → ℕ → Bool
at_pair hit x k = hit (get_or x k 0) (get_or x (k + 1) 0)

-- sixteen lanes of bytes
abbrev pub IsBlock : List ℕ → Type 0
IsBlock v = (length v ≡ 16) × Each1 (Fits w8) v

pub lane_fits : (v : List ℕ) (k : ℕ) → Each1 (Fits w8) v → get_or v k 0 < 256
lane_fits [] k h = omega arith
lane_fits (x ∷ v) zero h = h.0.fits
lane_fits (x ∷ v) (suc k) h = lane_fits v k h.1

-- two ways to go over bytes that agree on each byte
pub same_bytes : (f g : ℕ → ℕ) (v : List ℕ) → Each1 (Fits w8) v
    → agree_below (λ b. eqb (f b) (g b)) (λ _. true) 256 ≡ true → map f v ≡ map g v
same_bytes f g [] fit all = refl
same_bytes f g (b ∷ v) fit all =
    ap₂ (λ (k : ℕ) ks. k ∷ ks)
    (eqb-true _ _ (agree_below_at (λ b. eqb (f b) (g b)) (λ _. true) 256 b all fit.0.fits))
    (same_bytes f g v fit.1 all)

-- A table of sixteen may be read at these offsets, and is read at g of each byte.
abbrev pub Looks : (ℕ → ℕ) → List ℕ → ℕ → List ℕ → Type 0
Looks g v i js = SwzOk w8 16 16 i js × ((t : List ℕ) → swz_l w8 16 t i js ≡ map (λ b. get_or t (g b) 0) v)

looks : (g : ℕ → ℕ) (v : List ℕ) (i : ℕ) → Each1 (Fits w8) v
    → i + length v ≤ 16 → ((b : ℕ) → b < 256 → g b < 16) → Looks g v i (map g v)
looks g [] i fit room small = (tt, λ t. refl)
looks g (b ∷ v) i fit room small =
    let rest = looks g v (suc i) fit.1 (omega arith) small in
    let below = small b fit.0.fits in
    ((grind (arith, nat_tests), rest.0), λ t. grind (arith, nat_tests, rest.1 t))

pub looked_up : (g : ℕ → ℕ) (v js : List ℕ) → IsBlock v → js ≡ map g v → ((b : ℕ) → b < 256 → g b < 16)
    → Looks g v 0 js
looked_up g v js block e small = rw e (looks g v 0 block.1 (omega arith) small)

-- the nibbles
pub low : (v : List ℕ) → IsBlock v → Looks (λ b. b % 16) v 0 (zip2 bit_and v (replicate 16 15))
low v block =
    looked_up _ v _ block (zip2_splat bit_and v 16 15 block.0 ∙ (λ i. map (λ b. and_mask b 4 i) v)) (λ b h.
    omega arith)

pub high : (v : List ℕ) → IsBlock v → Looks (λ b. b / 16) v 0 (zip2 (λ a b. a / 2 ^ b) v (replicate 16 4))
high v block = looked_up _ v _ block (zip2_splat (λ a b. a / 2 ^ b) v 16 4 block.0) (λ b h. omega arith)

pub classes_are : (s t v : List ℕ) → IsBlock v
    → zip2 bit_and (swz_l w8 16 s 0 (zip2 bit_and v (replicate 16 15)))
    (swz_l w8 16 t 0 (zip2 (λ a b. a / 2 ^ b) v (replicate 16 4)))
    ≡ map (λ b. bit_and (get_or s (b % 16) 0) (get_or t (b / 16) 0)) v
classes_are s t v block =
    ap₂ (zip2 bit_and) ((low v block).1 s) ((high v block).1 t)
    ∙ zip2-map bit_and (λ b. get_or s (b % 16) 0) (λ b. get_or t (b / 16) 0) v

-- ---- whether some lane passes

none_lane : (a : ℕ) (v : List ℕ) (k : ℕ) → fold_l bit_or a v ≡ 0 → (a ≡ 0) × (get_or v k 0 ≡ 0)
none_lane a [] k none = (none, refl)
none_lane a (b ∷ v) zero none = grind (arith, none_lane (bit_or a b) v zero, le_or_l a b, le_or_r a b)
none_lane a (b ∷ v) (suc k) none = grind (arith, none_lane (bit_or a b) v k, le_or_l a b)

pub none_nonzero : (v : List ℕ) (k : ℕ) → fold_l bit_or 0 v ≡ 0 → is_nonzero (get_or v k 0) ≡ false
none_nonzero v k none = ap is_nonzero (none_lane 0 v k none).1

-- The mask has a bit for each lane that passes a test against a byte.
pub lane_mask : (t : ℕ → ℕ → Bool) (v : List ℕ) (b : ℕ) → length v ≡ 16
    → let mask = mask_l (map (top 7) (zip2 (λ x y. cond (t x y) 255 0) v (replicate 16 b))) % 2 ^ 64 in
    (mask < 2 ^ 16) × ((k : ℕ) → k < 16 → bit_at mask k ≡ cond (t (get_or v k 0) b) 1 0)
lane_mask t v b long = grind (arith, bitmask_splat w8 t v 16 b, mask_l-lt, bit_mask_l, get_or-map, length-map)

any_bit : (p : ℕ → Bool) (v : List ℕ) → not (eqb (mask_l (map p v)) 0) ≡ list_any p v
any_bit p [] = grind arith
any_bit p (b ∷ v) = grind (arith, any_bit p v)

-- a mask that has a bit for each lane that passes
pub any_marked : (p : ℕ → Bool) (v : List ℕ) (mask : ℕ) → length v ≡ 16 → mask < 2 ^ 16
    → ((k : ℕ) → k < 16 → bit_at mask k ≡ cond (p (get_or v k 0)) 1 0) → not (eqb mask 0) ≡ list_any p v
any_marked p v mask long few lanes = ap (λ m. not (eqb m 0)) (same_from_bits _ _ alike) ∙ any_bit p v
  where
    alike : (k : ℕ) → bit_at mask k ≡ bit_at (mask_l (map p v)) k
    alike k = grind (
      arith,
      cases_lt k 16,
      lanes k,
      bit_at_above mask 16 k,
      get_or_past,
      length-map,
      get_or-map,
      bit_mask_l,
    )

-- an operator on two vectors that were computed lane by lane
pub lane_of : (op : ℕ → ℕ → ℕ) (f g : ℕ → ℕ) (v w left right : List ℕ)
    → (length v ≡ 16) × (length w ≡ 16) → left ≡ map f v → right ≡ map g w
    → (k : ℕ) → k < 16 → get_or (zip2 op left right) k 0 ≡ op (f (get_or v k 0)) (g (get_or w k 0))
lane_of op f g v w left right long el er k h = grind (
  arith,
  get_or-zip2 op left right k 0 0 0,
  get_or-map f v k 0 0,
  get_or-map g w k 0 0,
  length-map v f,
  length-map w g,
)

both_tops : (op : ℕ → ℕ → ℕ) (joined : Bool → Bool → Bool)
    → ((u z : Bool) → top 7 (op (cond u 255 0) (cond z 255 0)) ≡ joined u z)
    → (s t : ℕ → ℕ → Bool) (b c : ℕ) (v w : List ℕ)
    → map (top 7) (zip2 op (zip2 (λ x y. cond (s x y) 255 0) v (replicate (length v) b))
    (zip2 (λ x y. cond (t x y) 255 0) w (replicate (length w) c))) ≡ zip2 (λ x y. joined (s x b) (t y c)) v w
both_tops op joined is s t b c [] w = refl
both_tops op joined is s t b c (x ∷ v) [] = refl
both_tops op joined is s t b c (x ∷ v) (y ∷ w) =
    ap₂ (λ (h : Bool) r. h ∷ r) (is (s x b) (t y c)) (both_tops op joined is s t b c v w)

-- The mask of the lanes for which two tests, each of a vector, are joined: by the bits of both, or of either.
pub both_mask : (op : ℕ → ℕ → ℕ) (joined : Bool → Bool → Bool)
    → ((u z : Bool) → top 7 (op (cond u 255 0) (cond z 255 0)) ≡ joined u z)
    → (s t : ℕ → ℕ → Bool) (v w : List ℕ) (b c : ℕ) → length v ≡ 16 → length w ≡ 16 → let mask =
    mask_l (map (top 7) (zip2 op (zip2 (λ x y. cond (s x y) 255 0) v (replicate 16 b))
    (zip2 (λ x y. cond (t x y) 255 0) w (replicate 16 c)))) % 2 ^ 64 in
    (mask < 2 ^ 16)
    × ((k : ℕ) → k < 16 → bit_at mask k ≡ cond (joined (s (get_or v k 0) b) (t (get_or w k 0) c)) 1 0)
both_mask op joined is s t v w b c lv lw =
    let both = λ (x y : ℕ). joined (s x b) (t y c) in
    let tops = rw (lv, lw) at (both_tops op joined is s t b c v w) in
    let long : length (zip2 both v w) ≡ 16 = length-zip2 both v w (lv ∙ sym lw) ∙ lv in
    rw (tops, mask_l-mod (zip2 both v w) 64 (omega arith)) (
      (rw long at (mask_l-lt (zip2 both v w))),
      λ k within. bit_mask_l (zip2 both v w) k
          ∙ ap (λ z. cond z 1 0) (get_or-zip2 both v w k 0 0 false (omega arith) (omega arith)),
    )

pub of_both : (u z : Bool) → top 7 (bit_and (cond u 255 0) (cond z 255 0)) ≡ (u && z)
of_both u z = grind arith

pub of_either : (u z : Bool) → top 7 (bit_or (cond u 255 0) (cond z 255 0)) ≡ (u || z)
of_either u z = grind arith

-- ---- suspect bytes: what one look at sixteen pairs says, and what looks at all pairs of a text say together

-- how far the byte is from a dot, and at most 15
abbrev reach : ℕ → ℕ
reach b = cond (top 7 (cond (ltb (bit_xor b (byte ".")) 15) 255 0)) (bit_xor b (byte ".")) 15

abbrev reaches : ℕ → List ℕ → List ℕ
reaches n v =
    let from_dot = zip2 bit_xor v (replicate n (byte ".")) in
    sel_l (map (top 7) (zip2 (λ a b. cond (ltb a b) 255 0) from_dot (replicate n 15))) from_dot
    (replicate n 15)

reaches_are : (v : List ℕ) → reaches (length v) v ≡ map reach v
reaches_are [] = refl
reaches_are (b ∷ v) = ap (λ r. reach b ∷ r) (reaches_are v)

-- A table of sixteen may be read at how far each byte is from a dot.
reached : (v : List ℕ) → IsBlock v → Looks reach v 0 (reaches 16 v)
reached v block = looked_up reach v _ block (rw block.0 at (reaches_are v)) (λ b small.
    ltb-true (reach b) 16 (agree_below_at (λ b. ltb (reach b) 16) (λ _. true) 256 b refl small))

pub reaches_ok : (v : List ℕ) → IsBlock v → SwzOk w8 16 16 0 (reaches 16 v)
reaches_ok v block = (reached v block).0

-- the classes that are suspect after the byte
abbrev pub classes_after : ℕ → ℕ
classes_after b = if b == byte "." then AFTER_DOT else if b == byte "/" then AFTER_SLASH else ANYWHERE

-- Read there, the table gives for each byte the classes that are suspect after it.
pub suspect_classes : (v : List ℕ) → IsBlock v
    → swz_l w8 16 SUSPECT_AFTER 0 (reaches 16 v) ≡ map classes_after v
suspect_classes v block =
    (reached v block).1 SUSPECT_AFTER
    ∙ same_bytes (λ b. get_or SUSPECT_AFTER (reach b) 0) classes_after v block.1 refl

-- the classes that both tables have for the byte
abbrev pub class : ℕ → ℕ
class b = bit_and (get_or CLASSES_BY_LOW_NIBBLE (b % 16) 0) (get_or CLASSES_BY_HIGH_NIBBLE (b / 16) 0)

-- `is_suspect` after a dot, a slash or another byte, and what the tables say of it
suspect_if : Bool → Bool → ℕ → Bool
suspect_if dot slash b =
    is_bad b || is_among (codes "*{") b
    || ((dot || (slash || false)) && is_among (codes "./") b) || (dot && b == byte "l")

table_if : Bool → Bool → ℕ → Bool
table_if dot slash b =
    is_nonzero (bit_and (class b) (if dot then AFTER_DOT else if slash then AFTER_SLASH else ANYWHERE))

suspect_tabled : (dot slash : Bool) (b : ℕ) → b < 256 → table_if dot slash b ≡ suspect_if dot slash b
unfolding is_bad suspect_if table_if
suspect_tabled true slash b small =
    agree_below_at (table_if true true) (suspect_if true true) 256 b refl small
suspect_tabled false true b small =
    agree_below_at (table_if false true) (suspect_if false true) 256 b refl small
suspect_tabled false false b small =
    agree_below_at (table_if false false) (suspect_if false false) 256 b refl small

-- In a lane the class of the byte is among those that are suspect after the byte before it,
-- if and only if the byte is suspect.
pub suspect_lane : (before bytes classes after : List ℕ) → IsBlock before → IsBlock bytes
    → classes ≡ map class bytes → after ≡ map classes_after before → (k : ℕ) → k < 16
    → is_nonzero (get_or (zip2 bit_and classes after) k 0) ≡ is_suspect (get_or before k 0) (get_or bytes k 0)
unfolding is_suspect suspect_if table_if
suspect_lane before bytes classes after ba bb ek eb k small =
    ap is_nonzero (lane_of bit_and class classes_after bytes before classes after (bb.0, ba.0) ek eb k small)
    ∙ suspect_tabled (get_or before k 0 == byte ".")
    (get_or before k 0 == byte "/") (get_or bytes k 0) (lane_fits bytes k bb.1)

suspect_regrouped : (w s d l c : Bool)
    → (w || (s || (d || (l || (c || false)))))
    ≡ ((w || (s || (c || false)) || (true && (d || (l || false)))) || false)
suspect_regrouped w s d l c = grind arith

pub first_look : (x : List ℕ) → suspect_at x 0 ≡ may_be_faulty (get_or x 0 0)
unfolding is_suspect
first_look x = grind (arith, nat_tests, suspect_regrouped)

-- A look at the first byte, and at pairs, is a look at each byte of a front.
pub quiet_by_looks : (x : List ℕ) (n : ℕ) → may_be_faulty (get_or x 0 0) ≡ false
    → NoneBelow (at_pair is_suspect x) n → NoneBelow (suspect_at x) (n + 1)
quiet_by_looks x n first pairs = grind (arith, nat_tests, first_look, add-one)

-- A text that has a byte is clear just where these three looks find nothing.
pub clear_by_looks : (x : List ℕ) → 0 < length x
    → IsClear x
    ↔ ((may_be_faulty (get_or x 0 0) ≡ false)
    × ((ends x (codes ".") || ends x (codes "/")) ≡ false) × NoneBelow (at_pair is_suspect x) (length x - 1))
clear_by_looks x some = grind (arith, nat_tests, first_look, add-one, quiet_by_looks)

-- With a suspect pair it is not clear.
pub unclear_by_pair : (x : List ℕ) (i : ℕ) → IsFirst (at_pair is_suspect x) (length x - 1) i
    → (i + 1 ≡ length x) ↔ IsClear x
unclear_by_pair x i found = grind (arith, clear_by_looks, false≢true)
