-- The classes of the bytes of a name: by two tables, by blocks that overlap,
-- and what they say under each mask.
use Rattle.gix_validate.proofs.Common.{◌≡◌, ℕ, suc, ◌+◌, ◌/◌, ◌%◌, ◌<◌, ◌≤◌, Bool, true, not, ◌||◌}
use Rattle.gix_validate.proofs.Common.{eqb, List, [], ◌∷◌, map, length, get_or, replicate, bit_and}
use Rattle.gix_validate.proofs.Common.{bit_or, refl, sym, ap, ap₂, ◌∙◌, arith, w8, Fits, list_any}
use Rattle.gix_validate.proofs.Common.{byte, agree_below, agree_below_at, bit_at_and, bit_at_or}
use Rattle.gix_validate.proofs.Common.{same_from_bits, le_or_l, length-chunk, length-zip2}
use Rattle.gix_validate.proofs.Common.{zip2_splat, get_or-map, length-map, nat_tests}
use Rattle.gix_validate.proofs.Blocks.Parts.{AreAll, parts_cover, AreShort, both_cover}
use Rattle.gix_validate.proofs.Blocks.Parts.{either_among, any_overlap, any_two_chunks, whole_chunk}
use Rattle.gix_validate.proofs.Blocks.Lanes.{same_bytes}
use Rattle.gix_validate.specs.Private.Classes.{class_of, any_class, has_class, HaveClassesOf}
use Rattle.gix_validate.specs.Private.Classes.{is_classed}
use lib.Lanes.{chunk, zip2, Each1}
use Rattle.gix_validate.specs.declared.path.classes.TheConstants.{BY_LOW_NIBBLE, BY_HIGH_NIBBLE}
use Rattle.gix_validate.specs.declared.path.classes.TheConstants.{SLASH, SEPARATORS, ILLEGAL}
use Rattle.gix_validate.specs.declared.path.classes.TheConstants.{ALL_CLASSES}
use Rattle.gix_validate.specs.Private.Scan.{HasParts, is_nonzero}
use Rattle.gix_validate.specs.Windows.{is_illegal_byte}
use Rattle.gix_validate.specs.Bytes.{is_among}

pub classes_by_tables : (v : List ℕ) → Each1 (Fits w8) v
    → map (λ b. bit_and (get_or BY_LOW_NIBBLE (b % 16) 0) (get_or BY_HIGH_NIBBLE (b / 16) 0)) v
    ≡ map class_of v
unfolding class_of is_illegal_byte
classes_by_tables v fit = same_bytes _ class_of v fit refl

any_of_map : (p : ℕ → Bool) (f : ℕ → ℕ) (x : List ℕ) → list_any p (map f x) ≡ list_any (λ b. p (f b)) x
any_of_map p f [] = refl
any_of_map p f (b ∷ x) = ap (λ v. p (f b) || v) (any_of_map p f x)

-- a mask of the classes
pub mask_tested : (mask : ℕ) (v : List ℕ) → length v ≡ 16
    → list_any is_nonzero (zip2 bit_and v (replicate 16 mask)) ≡ any_class mask v
unfolding any_class
mask_tested mask v long =
    ap (list_any is_nonzero) (zip2_splat bit_and v 16 mask long)
    ∙ any_of_map is_nonzero (λ c. bit_and c mask) v

-- a mask of the class in a lane
pub mask_lane : (mask : ℕ) (v classes : List ℕ) → length v ≡ 16 → classes ≡ map class_of v → (k : ℕ) → k < 16
    → is_nonzero (get_or (zip2 bit_and classes (replicate 16 mask)) k 0) ≡ has_class mask (get_or v k 0)
mask_lane mask v classes long are k small = grind (
  arith,
  zip2_splat bit_and classes 16 mask,
  get_or-map (λ c. bit_and c mask) classes k 0 0,
  get_or-map class_of v k 0 0,
  length-map v class_of,
)

pub any_is : (mask : ℕ) (x : List ℕ) → any_class mask (map class_of x) ≡ list_any (has_class mask) x
unfolding any_class
any_is mask x = any_of_map (λ class. not (eqb (bit_and class mask) 0)) class_of x

-- the classes of a block are those of a text of which it has the first n bytes and the last n
pub classes_of_parts : (n back : ℕ) (v x classes : List ℕ) → AreAll n back (length x) × (length v ≡ 16)
    → HasParts n 0 back x v → classes ≡ map class_of v → HaveClassesOf classes x
classes_of_parts n back v x classes all parts are mask =
    ap (any_class mask) are ∙ any_is mask v
    ∙ parts_cover n back x v all.0 all.1 parts (has_class mask) ∙ sym (any_is mask x)

and_or : (a b m : ℕ) → bit_and (bit_or a b) m ≡ bit_or (bit_and a m) (bit_and b m)
and_or a b m = same_from_bits _ _ (λ i. grind (arith, bit_at_and, bit_at_or))

pub any_of_or : (mask : ℕ) (u v : List ℕ) → length u ≡ length v
    → any_class mask (zip2 bit_or u v) ≡ (any_class mask u || any_class mask v)
unfolding any_class
any_of_or mask [] [] e = grind (arith, nat_tests, and_or, le_or_l)
any_of_or mask [] (b ∷ v) e = grind (arith, nat_tests, and_or, le_or_l)
any_of_or mask (a ∷ u) [] e = grind (arith, nat_tests, and_or, le_or_l)
any_of_or mask (a ∷ u) (b ∷ v) e = grind (arith, nat_tests, and_or, le_or_l, any_of_or mask u v)

-- two blocks of which the one has the front of a short text and the other its back
pub classes_of_both : (mid start last : ℕ) (x v w front back : List ℕ)
    → AreShort mid start last (length x) → (length v ≡ 16) × (length w ≡ 16)
    → HasParts 8 0 mid x v → HasParts 8 start last x w → front ≡ map class_of v → back ≡ map class_of w
    → HaveClassesOf (zip2 bit_or front back) x
classes_of_both mid start last x v w front back short long pv pw ev ew mask =
    grind (
      arith,
      any_of_or mask front back,
      length-map v class_of,
      length-map w class_of,
      any_is mask v,
      any_is mask w,
      any_is mask x,
      both_cover mid start last x v w short long pv pw (has_class mask),
    )

-- four blocks of which two are the front of a text and two its back
pub classes_of_four : (x : List ℕ) (last : ℕ) (a b c d : List ℕ) → last + 32 ≡ length x
    → length x ≤ 64 → a ≡ map class_of (chunk 0 16 x) → b ≡ map class_of (chunk 16 16 x)
    → c ≡ map class_of (chunk last 16 x) → d ≡ map class_of (chunk (last + 16) 16 x)
    → HaveClassesOf (zip2 bit_or (zip2 bit_or (zip2 bit_or a b) c) d) x
classes_of_four x last a b c d all short ea eb ec ed mask =
    grind (
      arith,
      any_of_or,
      length-zip2,
      part a 0 (omega arith) ea,
      part b 16 (omega arith) eb,
      part c last (omega arith) ec,
      part d (last + 16) (omega arith) ed,
      any_two_chunks p x 0 16,
      any_two_chunks p x last 16,
      whole_chunk last 32 x all,
      any_overlap p x last 32 (omega arith),
      any_is mask x,
    )
  where
    p : ℕ → Bool
    p = has_class mask

    part : (v : List ℕ) (at : ℕ) → at + 16 ≤ length x → v ≡ map class_of (chunk at 16 x)
        → (length v ≡ 16) × (any_class mask v ≡ list_any p (chunk at 16 x))
    part v at room is = grind (arith, length-map, length-chunk at 16 x, any_is mask (chunk at 16 x))

bytes_alike : (p q : ℕ → Bool) (x : List ℕ) → ((i : ℕ) → Fits w8 (get_or x i 0))
    → ((b : ℕ) → b < 256 → p b ≡ q b) → list_any p x ≡ list_any q x
bytes_alike p q [] fit same = refl
bytes_alike p q (b ∷ x) fit same =
    ap₂ (λ v w. v || w) (same b (fit 0).fits) (bytes_alike p q x (λ i. fit (suc i)) same)

-- the classes tell under a mask what a test of the bytes does that agrees with it on all bytes
tells : (mask : ℕ) (q : ℕ → Bool) (classes x : List ℕ)
    → ((i : ℕ) → Fits w8 (get_or x i 0)) → HaveClassesOf classes x
    → agree_below (has_class mask) q 256 ≡ true → any_class mask classes ≡ list_any q x
tells mask q classes x fit have same =
    have mask ∙ any_is mask x
    ∙ bytes_alike (has_class mask) q x fit (λ b h. agree_below_at (has_class mask) q 256 b same h)

-- what the classes of a name say of it
pub record Tell (classes x : List ℕ) : Type 0 where
  pub classed : any_class ALL_CLASSES classes ≡ list_any is_classed x
  pub slash : any_class SLASH classes ≡ is_among x (byte "/")
  pub separator : any_class SEPARATORS classes ≡ (is_among x (byte "/") || is_among x (byte "\\"))

pub classes_tell : (classes x : List ℕ) → ((i : ℕ) → Fits w8 (get_or x i 0)) → HaveClassesOf classes x
    → Tell classes x
unfolding class_of is_illegal_byte is_classed
classes_tell classes x fit have = record {
  classed = tells ALL_CLASSES _ classes x fit have refl;
  slash = tells SLASH _ classes x fit have refl;
  separator =
      tells SEPARATORS (λ b. eqb b (byte "/") || eqb b (byte "\\")) classes x fit have refl
      ∙ either_among (byte "/") (byte "\\") x;
}

pub illegal_is : (x : List ℕ) → ((i : ℕ) → Fits w8 (get_or x i 0))
    → list_any (has_class ILLEGAL) x ≡ list_any is_illegal_byte x
unfolding class_of is_illegal_byte
illegal_is x fit = bytes_alike (has_class ILLEGAL) is_illegal_byte x fit (λ b h.
    agree_below_at (has_class ILLEGAL) is_illegal_byte 256 b refl h)
