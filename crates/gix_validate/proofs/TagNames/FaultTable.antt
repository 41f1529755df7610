-- The table of the faults at an offset: what each byte may have of them, and,
-- along a text, its last line apart.
use Rattle.gix_validate.proofs.Common.{◌≡◌, ℕ, ◌<◌, Bool, false, not, ◌&&◌, eqb, List, take, get_or}
use Rattle.gix_validate.proofs.Common.{true, refl, Option, None, zero, suc, ◌+◌, ◌-◌, ◌≤◌, [], ◌∷◌}
use Rattle.gix_validate.proofs.Common.{◌++◌, length, arith, Some, agree_below_at, cases_lt, byte}
use Rattle.gix_validate.proofs.Common.{bytes_eq, codes, is_none, option_map, append-nil}
use Rattle.gix_validate.proofs.Common.{append_assoc, take_all, take_more, drop_all, length-drop}
use Rattle.gix_validate.proofs.Common.{nat_tests}
use Rattle.gix_validate.proofs.Texts.Endings.{ends_read, lock_read}
use Rattle.gix_validate.specs.declared.bytes.TheConstants.{MAY_BE_FAULTY}
use Rattle.gix_validate.specs.declared.tag.NameError.{NameError}
use Rattle.gix_validate.specs.declared.tag.NameError.TheVariants.{LockFileSuffix}
use Rattle.gix_validate.specs.Private.Adjacent.{may_be_faulty, fault_of_byte}
use Rattle.gix_validate.specs.Bytes.{is_bad, ends, is_empty}
use Rattle.gix_validate.specs.Faults.{when, ◌orelse◌, first_of, at_first_offset}
use Rattle.gix_validate.specs.Tag.{Fault, ◌at◌, fault_table, faults_at, fault_at}

-- ---- the least offset at which a function gives something

pub orelse_assoc : {A : Type 0} (a b c : Option A) → ((a orelse b) orelse c) ≡ (a orelse (b orelse c))
orelse_assoc a b c = grind arith

pub at_first_offset_more : {A : Type 0} (f : ℕ → Option A) (n : ℕ)
    → at_first_offset f (suc n) ≡ (at_first_offset f n orelse f n)
unfolding at_first_offset
at_first_offset_more f n = refl

-- nothing is found where no offset has something
pub at_first_offset_none : {A : Type 0} (f : ℕ → Option A) (n : ℕ) → ((k : ℕ) → k < n → f k ≡ None)
    → at_first_offset f n ≡ None
unfolding at_first_offset
at_first_offset_none f zero h = refl
at_first_offset_none f (suc n) h = grind (arith, at_first_offset_none f n)

-- equal functions give the same
pub at_first_offset_same : {A : Type 0} (f g : ℕ → Option A) (n : ℕ) → ((i : ℕ) → i < n → f i ≡ g i)
    → at_first_offset f n ≡ at_first_offset g n
unfolding at_first_offset
at_first_offset_same f g zero h = refl
at_first_offset_same f g (suc n) h = grind (arith, at_first_offset_same f g n)

-- equal functions, but for what the last offset has more
pub at_first_offset_last : {A : Type 0} (f g : ℕ → Option A) (n : ℕ) (last : Option A)
    → ((i : ℕ) → i < n → f i ≡ g i) → f n ≡ (g n orelse last)
    → at_first_offset f (suc n) ≡ (at_first_offset g (suc n) orelse last)
at_first_offset_last f g n last same end =
    grind (arith, at_first_offset_more, orelse_assoc, at_first_offset_same f g n same)

-- the first that has something is found
pub at_first_found : {A : Type 0} (f : ℕ → Option A) (n m : ℕ) (a : A) → n < m
    → ((k : ℕ) → k < n → f k ≡ None) → f n ≡ Some a → at_first_offset f m ≡ Some a
unfolding at_first_offset
at_first_found f n zero a within none here = absurd (omega arith)
at_first_found f n (suc m) a within none here =
    grind (arith, cases_lt n m, at_first_offset_none f n none, at_first_found f n m a)

-- ---- the faults of bytes

-- the fault of the byte at offset i by what is before it
abbrev pub fault_of_byte_at : List ℕ → ℕ → Option NameError
fault_of_byte_at x i = fault_of_byte (take i x) (get_or x i 0)

-- no offset before n has a fault by what is before it
abbrev pub NoFaultBelow : List ℕ → ℕ → Type 0
NoFaultBelow x n = (p : ℕ) → p < n → fault_of_byte_at x p ≡ None

-- a text that doesn't end in `k` doesn't end in `.lock`
pub lock_ends_in_k : (y : List ℕ) → ends y (codes "k") ≡ false → ends y (codes ".lock") ≡ false
lock_ends_in_k y other = grind (arith, lock_read, ends_read)

pub is_none-when : {A : Type 0} (t : Bool) (e : A) (o : Option A)
    → is_none (when t e orelse o) ≡ (not t && is_none o)
is_none-when t e o = grind arith

-- what the table says of a byte by what is before it
pub is_none-fault_of_byte : (before : List ℕ) (b : ℕ)
    → is_none (fault_of_byte before b)
    ≡ (not (is_bad b) && (not (eqb b (byte "*")) && (not (eqb b (byte ".") && ends before (codes "."))
    && (not (eqb b (byte ".") && ends before (codes "/"))
    && (not (eqb b (byte "{") && ends before (codes "@"))
    && (not (eqb b (byte "/") && ends before (codes "/"))
    && (not (eqb b (byte "/") && ends before (codes ".lock")) && true)))))))
unfolding fault_of_byte fault_table
is_none-fault_of_byte before b = simp is_none-when

-- The table of bytes says no only of bytes that have no fault, whatever is before them.
pub faulty_tabled : (b : ℕ) → b < 256 → get_or MAY_BE_FAULTY b false ≡ may_be_faulty b
unfolding is_bad
faulty_tabled b small = agree_below_at (λ b. get_or MAY_BE_FAULTY b false) may_be_faulty 256 b refl small

pub quiet : (x : List ℕ) (i : ℕ) → may_be_faulty (get_or x i 0) ≡ false → fault_of_byte_at x i ≡ None
quiet x i h = grind (arith, is_none-fault_of_byte (take i x) (get_or x i 0))

-- the text ends in `.lock`, and isn't that alone
abbrev pub has_lock_suffix : List ℕ → Bool
has_lock_suffix x = ends x (codes ".lock") && not (bytes_eq x (codes ".lock"))

first_of-more : (t1 t2 t3 t4 t5 t6 t7 t8 : Option NameError)
    → first_of (t1 ∷ t2 ∷ t3 ∷ t4 ∷ t5 ∷ t6 ∷ t7 ∷ t8 ∷ [])
    ≡ (first_of (t1 ∷ t2 ∷ t3 ∷ t4 ∷ t5 ∷ t6 ∷ t7 ∷ None ∷ []) orelse t8)
first_of-more t1 t2 t3 t4 t5 t6 t7 t8 = grind arith

fault_inside : (x : List ℕ) (i : ℕ) → i + 1 < length x → first_of (faults_at x i) ≡ fault_of_byte_at x i
unfolding faults_at fault_of_byte fault_table
fault_inside x i small = grind (arith, nat_tests, length-drop (i + 1) x)

-- at the end of the text the last line comes after them
fault_at_end : (x : List ℕ) (i : ℕ) → i + 1 ≡ length x
    → first_of (faults_at x i) ≡ (fault_of_byte_at x i orelse when (has_lock_suffix x) LockFileSuffix)
unfolding faults_at fault_of_byte fault_table
fault_at_end x i last = grind (arith, first_of-more, take_more, take_all, drop_all)

-- the same, at its offset
abbrev pub byte_fault_at : List ℕ → ℕ → Option Fault
byte_fault_at x i = fault_of_byte_at x i at i

at_orelse : (a b : Option NameError) (i : ℕ) → ((a orelse b) at i) ≡ (a at i orelse b at i)
at_orelse a b i = grind arith

-- The fault at the least offset: by the lines that look back alone, and then the last line.
pub at_first_offset_split : (x : List ℕ) → is_empty x ≡ false
    → at_first_offset (fault_at x) (length x)
    ≡ (at_first_offset (byte_fault_at x) (length x)
    orelse when (has_lock_suffix x) LockFileSuffix at (length x - 1))
at_first_offset_split [] some = grind arith
at_first_offset_split (b ∷ x) some =
    at_first_offset_last (fault_at (b ∷ x)) (byte_fault_at (b ∷ x)) (length x) _
    (λ i small. grind (arith, fault_inside (b ∷ x) i))
    (grind (arith, fault_at_end (b ∷ x) (length x), at_orelse))

-- a fault is found where an error is
pub is_none-found : (f : ℕ → Option NameError) (n : ℕ)
    → is_none (at_first_offset (λ i. f i at i) n) ≡ is_none (at_first_offset f n)
unfolding at_first_offset
is_none-found f zero = refl
is_none-found f (suc n) = grind (arith, is_none-found f n)

pub is_none-half : {A : Type 0} (half : Fault → A) (o : Option Fault)
    → is_none (option_map half o) ≡ is_none o
is_none-half half o = grind arith

pub is_none-line : (t : Bool) (e : NameError) (i : ℕ) (o : Option Fault)
    → is_none (when t e at i orelse o) ≡ (not t && is_none o)
is_none-line t e i o = grind arith

-- the faults from here on, what is before growing by each byte
unfoldable pub walked : List ℕ → List ℕ → Option NameError
walked before [] = None
walked before (b ∷ x) = fault_of_byte before b orelse walked (before ++ b ∷ []) x

walked_push : (before x : List ℕ) (b : ℕ)
    → walked before (x ++ b ∷ []) ≡ (walked before x orelse fault_of_byte (before ++ x) b)
unfolding walked
walked_push before [] b = grind (arith, append-nil)
walked_push before (c ∷ x) b = grind (arith, append_assoc, walked_push (before ++ c ∷ []) x b)

walked_more : (x : List ℕ) (n : ℕ) → n < length x
    → walked [] (take (suc n) x) ≡ (walked [] (take n x) orelse fault_of_byte_at x n)
walked_more x n h = grind (arith, take_more, walked_push [] (take n x))

walked_offsets : (x : List ℕ) (n : ℕ) → n ≤ length x
    → at_first_offset (fault_of_byte_at x) n ≡ walked [] (take n x)
unfolding walked
walked_offsets x zero h = at_first_offset_none (fault_of_byte_at x) zero (λ k small. absurd (omega arith))
walked_offsets x (suc n) h = grind (arith, at_first_offset_more, walked_more x n, walked_offsets x n)

pub at_first_offset_walked : (x : List ℕ) → at_first_offset (fault_of_byte_at x) (length x) ≡ walked [] x
at_first_offset_walked x = grind (arith, take_all, walked_offsets)
