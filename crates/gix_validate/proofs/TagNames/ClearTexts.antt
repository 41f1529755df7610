-- What is not suspect has no fault: offset by offset, and so a clear text. The walk over the other bytes.
use Rattle.gix_validate.proofs.Common.{◌≡◌, ℕ, zero, suc, ◌+◌, ◌-◌, ◌<◌, ◌≤◌, true, false, eqb}
use Rattle.gix_validate.proofs.Common.{List, [], ◌∷◌, length, take, get_or, refl, arith, None}
use Rattle.gix_validate.proofs.Common.{add-one, length-take, not, ◌&&◌, Some, inl, inr}
use Rattle.gix_validate.proofs.Common.{false_from_ne_true, cases_lt, take_all, get_or-take}
use Rattle.gix_validate.proofs.Common.{bytes_eq-Decides, codes, option_map, byte, nat_tests}
use Rattle.gix_validate.specs.Private.Adjacent.{is_suspect, suspect_at, IsClear}
use Rattle.gix_validate.specs.Private.Scan.{NoneBelow}
use Rattle.gix_validate.proofs.TagNames.FaultTable.{at_first_offset_none, is_none-fault_of_byte}
use Rattle.gix_validate.proofs.TagNames.FaultTable.{at_first_offset_split, at_first_found, quiet}
use Rattle.gix_validate.proofs.TagNames.FaultTable.{byte_fault_at, fault_of_byte_at, NoFaultBelow}
use Rattle.gix_validate.proofs.Texts.Endings.{ends_read, lock_read}
use Rattle.gix_validate.proofs.TagNames.Grammar.{tag_grammar_law}
use Rattle.gix_validate.specs.declared.tag.NameError.{NameError}
use Rattle.gix_validate.specs.declared.tag.NameError.TheVariants.{Empty, LockFileSuffix}
use Rattle.gix_validate.specs.Bytes.{is_among, ends}
use Rattle.gix_validate.specs.Tag.{Fault, ◌at◌, first_fault, fault_of, fault_offset_of, fault_at}
use Rattle.gix_validate.specs.Reference.{is_partial_name}
use Rattle.gix_validate.specs.Faults.{at_first_offset, when}

-- a byte that isn't suspect has no fault, where no dot or slash follows what it may not follow
no_fault : (x : List ℕ) (i a : ℕ) → is_suspect a (get_or x i 0) ≡ false
    → (is_among (codes "./") a ≡ false
    → (ends (take i x) (codes ".") ≡ false) × (ends (take i x) (codes "/") ≡ false))
    → (get_or x i 0 ≡ byte "/" → ends (take i x) (codes ".lock") ≡ false) → fault_of_byte_at x i ≡ None
unfolding is_suspect
no_fault x i a quiet near lock = grind (arith, nat_tests, is_none-fault_of_byte (take i x) (get_or x i 0))

-- the byte before offset i
pub last_read : (x : List ℕ) (i c : ℕ) → 0 < i → i ≤ length x
    → ends (take i x) (c ∷ []) ≡ eqb (get_or x (i - 1) 0) c
last_read x i c some within = grind (arith, ends_read, get_or-take, length-take)

-- there the `l` is suspect
pub no_lock : (x : List ℕ) (p : ℕ) → p ≤ length x
    → (5 ≤ p → is_suspect (get_or x (p - 5) 0) (get_or x (p - 5 + 1) 0) ≡ false)
    → ends (take p x) (codes ".lock") ≡ false
unfolding is_suspect
no_lock x p within quiet = grind (arith, nat_tests, false_from_ne_true, lock_read, get_or-take, length-take)

-- no byte is suspect after the one before it
pub pair_quiet : (x : List ℕ) (n k : ℕ) → NoneBelow (suspect_at x) n → k + 1 < n
    → is_suspect (get_or x k 0) (get_or x (k + 1) 0) ≡ false
pair_quiet x n k quiet below = rw (add-one k) (rw (add-one k) at (quiet (k + 1) below))

-- Bytes that aren't suspect have no fault.
pub none_to_suspect : (x : List ℕ) (n : ℕ) → n ≤ length x → NoneBelow (suspect_at x) n → NoFaultBelow x n
none_to_suspect x n within quiet zero to =
    no_fault x 0 (byte "/") (quiet 0 to) (λ none. grind arith) (λ slash. refl)
none_to_suspect x n within quiet (suc p) to = no_fault x (suc p) (get_or x p 0) (quiet (suc p) to)
    (λ other. grind (arith, last_read x (suc p)))
    (λ slash. no_lock x (suc p) (omega arith) (λ five. pair_quiet x n (suc p - 5) quiet (omega arith)))

byte_none : (x : List ℕ) (n : ℕ) → NoFaultBelow x n → (k : ℕ) → k < n → byte_fault_at x k ≡ None
byte_none x n none k below = rw (none k below) refl

pub clear_has_no_fault : (x : List ℕ) → IsClear x → fault_of x ≡ None
unfolding fault_of first_fault is_suspect
clear_has_no_fault x clear =
    let n = length x in
    let offsets = at_first_offset_none (byte_fault_at x) n
    (byte_none x n (none_to_suspect x n (omega arith) clear.quiet)) in
    let lock = no_lock x n (omega arith) (λ five. pair_quiet x n (n - 5) clear.quiet (omega arith)) in
    grind
    (arith, nat_tests, take_all, at_first_offset_split, offsets, lock, clear.end, clear.some, clear.quiet 0)

pub clear_has_no_first_fault : (x : List ℕ) → IsClear x → first_fault x ≡ None
unfolding fault_of
clear_has_no_first_fault x clear = grind (arith, clear_has_no_fault x clear)

pub first_fault_of_empty : (x : List ℕ) → length x ≡ 0 → first_fault x ≡ (Some Empty at 0)
unfolding first_fault
first_fault_of_empty x e = grind arith

-- A clear text of two bytes or more is a partial name.
pub clear_is_partial : (x : List ℕ) → 1 < length x → IsClear x → is_partial_name x ≡ true
unfolding is_partial_name
clear_is_partial x long clear = grind (arith, tag_grammar_law, clear_has_no_fault, bytes_eq-Decides)

-- ---- the walk to the least offset

pub none_more : (x : List ℕ) (j : ℕ) → NoFaultBelow x j → fault_of_byte_at x j ≡ None → NoFaultBelow x (j + 1)
none_more x j none here p to =
    elim (cases_lt p j) [ inl early ↦ none p early | inr last ↦ grind (arith, here) ]

-- Where none has a fault by what is before it, the last line of the table says the fault.
-- (A text that ends in `.lock` is longer, or is that.)
pub fault_none : (x : List ℕ) (n : ℕ) → (n ≡ length x) × (0 < n) → NoFaultBelow x n
    → at_first_offset (fault_at x) (length x)
    ≡ (when (ends x (codes ".lock") && not (eqb (length x) 5)) LockFileSuffix at (length x - 1))
fault_none x n all none =
    let offsets = at_first_offset_none (byte_fault_at x) n (byte_none x n none) in
    grind (arith, nat_tests, offsets, at_first_offset_split, bytes_eq-Decides)

-- and else the first that has one
pub fault_found : (x : List ℕ) (j : ℕ) (a : NameError) → j < length x → NoFaultBelow x j
    → fault_of_byte_at x j ≡ Some a → at_first_offset (fault_at x) (length x) ≡ (Some a at j)
fault_found x j a small none here =
    let found = at_first_found (byte_fault_at x) j (length x)
    (record { error = a; offset = j }) small (byte_none x j none) (rw here refl) in
    grind (arith, at_first_offset_split, found)

-- what is found is within the text
offset_below : (x : List ℕ) (n i : ℕ)
    → option_map Fault.offset (at_first_offset (fault_at x) n) ≡ Some i → i < n
unfolding at_first_offset
offset_below x zero i found = grind arith
offset_below x (suc n) i found = grind (arith, offset_below x n i)

pub offset_within : (x : List ℕ) (i : ℕ) → fault_offset_of x ≡ Some i → i ≤ length x - 1
unfolding first_fault fault_offset_of
offset_within x i found = grind (arith, offset_below x (length x))

pub first_fault_within : (x : List ℕ) (fault : Fault) → first_fault x ≡ Some fault
    → fault.offset ≤ length x - 1
unfolding fault_offset_of
first_fault_within x fault found = offset_within x fault.offset (grind (arith, found))

pub ruleset least_fault = (none_more, quiet)
