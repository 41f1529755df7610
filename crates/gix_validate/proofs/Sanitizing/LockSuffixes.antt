-- Laws of the cut of a text: what it leaves is a front that does not end in `.lock`.
use Rattle.gix_validate.proofs.Common.{◌≡◌, ◌≢◌, ℕ, ◌≤◌, ◌-◌, true, false, List, [], ◌∷◌, ◌++◌}
use Rattle.gix_validate.proofs.Common.{length, take, drop, refl, sym, ap, ◌∙◌, arith, length-append}
use Rattle.gix_validate.proofs.Common.{length-take, append_assoc, append-nil, codes, ◌&&◌, byte}
use Rattle.gix_validate.proofs.Common.{bytes_eq, and_parts, false_from_ne_true, take_all, take-take}
use Rattle.gix_validate.proofs.Common.{bytes_eq-Decides, nat_tests, list_all-append}
use Rattle.gix_validate.proofs.Texts.Endings.{ends-true, ends-no}
use Rattle.gix_validate.specs.Bytes.{ends}
use Rattle.gix_validate.specs.Pieces.{has_no_slash}
use Rattle.gix_validate.specs.Sanitized.{cut, is_locks}

after_one : (a : ℕ) (r : List ℕ) → is_locks r ≡ true → is_locks (a ∷ r) ≡ false
after_one a r h = grind arith

after_two : (a b : ℕ) (r : List ℕ) → is_locks r ≡ true → is_locks (a ∷ b ∷ r) ≡ false
after_two a b r h = grind arith

after_three : (a b c : ℕ) (r : List ℕ) → is_locks r ≡ true → is_locks (a ∷ b ∷ c ∷ r) ≡ false
after_three a b c r h = grind arith

after_four : (a b c d : ℕ) (r : List ℕ) → is_locks r ≡ true → is_locks (a ∷ b ∷ c ∷ d ∷ r) ≡ false
after_four a b c d r h = grind arith

-- More `.lock`s follow `.lock`s.
is_locks-append : (x r : List ℕ) → is_locks r ≡ true → is_locks (x ++ r) ≡ is_locks x
is_locks-append [] r h = h
is_locks-append (a ∷ []) r h = after_one a r h
is_locks-append (a ∷ b ∷ []) r h = after_two a b r h
is_locks-append (a ∷ b ∷ c ∷ []) r h = after_three a b c r h
is_locks-append (a ∷ b ∷ c ∷ d ∷ []) r h = after_four a b c d r h
is_locks-append (a ∷ b ∷ c ∷ d ∷ e ∷ t) r h =
    ap (λ v. bytes_eq (a ∷ b ∷ c ∷ d ∷ e ∷ []) (codes ".lock") && v) (is_locks-append t r h)

is_locks-apart : (x : List ℕ) → is_locks x ≡ true → has_no_slash x ≡ true
is_locks-apart [] h = refl
is_locks-apart (a ∷ b ∷ c ∷ d ∷ e ∷ t) h = grind (arith, bytes_eq-Decides, and_parts, is_locks-apart t)
is_locks-apart _ h = grind arith

pub is_locks-slash : (x r : List ℕ) → is_locks (x ++ byte "/" ∷ r) ≡ false
is_locks-slash x r = grind (arith, is_locks-apart (x ++ byte "/" ∷ r), list_all-append, false_from_ne_true)

-- `.lock`s at the end are cut as well.
pub cut-append : (t r : List ℕ) → is_locks r ≡ true → cut (t ++ r) ≡ cut t
unfolding cut
cut-append [] [] h = refl
cut-append [] (c ∷ r) h = grind arith
cut-append (b ∷ t) r h = grind (arith, is_locks-append (b ∷ t) r h, cut-append t r h)

-- The text is what is left, and then `.lock`s.
pub cut_front : (t : List ℕ)
    → (t ≡ cut t ++ drop (length (cut t)) t) × (is_locks (drop (length (cut t)) t) ≡ true)
unfolding cut
cut_front [] = (refl, refl)
cut_front (b ∷ t) = grind (arith, cut_front t)

pub length-cut : (t : List ℕ) → length (cut t) ≤ length t
length-cut t = grind (arith, cut_front t, length-append)

-- `.lock`s that do not end in one are none.
locks_none : (x : List ℕ) → is_locks x ≡ true → ((f : List ℕ) → x ≢ f ++ codes ".lock") → x ≡ []
locks_none [] h other = refl
locks_none (a ∷ b ∷ c ∷ d ∷ e ∷ t) h other =
    let parts = and_parts (bytes_eq (a ∷ b ∷ c ∷ d ∷ e ∷ []) (codes ".lock")) (is_locks t) h in
    let none =
    locks_none t parts.1 (λ f same. other (a ∷ b ∷ c ∷ d ∷ e ∷ f) (ap (λ v. a ∷ b ∷ c ∷ d ∷ e ∷ v) same)) in
    grind (arith, bytes_eq-Decides, other [])
locks_none _ h other = grind arith

-- A text that does not end in `.lock` is left as it is.
pub cut-own : (t : List ℕ) → ((f : List ℕ) → t ≢ f ++ codes ".lock") → cut t ≡ t
cut-own t other =
    let front = cut_front t in
    let none =
    locks_none (drop (length (cut t)) t) front.1 (λ f e. other (cut t ++ f) (grind (arith, append_assoc))) in
    grind (arith, append-nil)

-- What is left does not end in `.lock`.
pub cut_open : (t f : List ℕ) → cut t ≢ f ++ codes ".lock"
cut_open t f e = grind (arith, cut_front t, cut-append, length-cut, length-append)

pub cut_lock : (t : List ℕ) (n : ℕ) → n ≤ length t → ends (take n t) (codes ".lock") ≡ true
    → (5 ≤ n) × (cut (take (n - 5) t) ≡ cut (take n t))
cut_lock t n within lock = grind (
  arith,
  ends-true (take n t) (codes ".lock"),
  length-take,
  length-append,
  take-take,
  cut-append (take (n - 5) t) (codes ".lock") refl,
)

pub cut_none : (t : List ℕ) → ends t (codes ".lock") ≡ false → cut t ≡ t
cut_none t none = cut-own t (ends-no t (codes ".lock") none)

-- what a loop that cuts one `.lock` after the other needs
pub ruleset lock_by_lock = (nat_tests, length-take, take_all, cut_lock, cut_none)
