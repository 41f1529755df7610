-- The text is mended and repaired within one buffer: what is written is before the offset that is read next.
use Rattle.gix_validate.proofs.Common.{◌≡◌, ◌≢◌, ℕ, zero, suc, ◌+◌, ◌-◌, ◌≤◌, ◌<◌, true, false}
use Rattle.gix_validate.proofs.Common.{List, [], ◌∷◌, ◌++◌, length, take, drop, set, get_or, refl}
use Rattle.gix_validate.proofs.Common.{sym, ap, inl, inr, add-one, arith, length-set, append-nil}
use Rattle.gix_validate.proofs.Common.{max, codes, ◌==◌, if◌then◌else◌, Option, Some, None, byte}
use Rattle.gix_validate.proofs.Common.{cases_Bool, nat_tests, take_more, take_more_set, drop_all}
use Rattle.gix_validate.proofs.Common.{drop-set-lt, drop-drop, drop_more, take-append-le}
use Rattle.gix_validate.proofs.Common.{length-take}
use Rattle.gix_validate.proofs.Texts.Endings.{ends-no}
use Rattle.gix_validate.proofs.TagNames.ClearTexts.{no_lock, pair_quiet, clear_is_partial}
use Rattle.gix_validate.proofs.Sanitizing.WrittenPiece.{in_piece, closed, finished, GivesWhole}
use Rattle.gix_validate.proofs.Sanitizing.WrittenPiece.{GivesWhole-start, GivesWhole-slash}
use Rattle.gix_validate.proofs.Sanitizing.WrittenPiece.{GivesWhole-byte, GivesWhole-end}
use Rattle.gix_validate.proofs.Sanitizing.Laws.{sanitized-own, sanitized_laws}
use Rattle.gix_validate.proofs.Sanitizing.LockSuffixes.{cut-own}
use Rattle.gix_validate.proofs.Sanitizing.MendedPieces.{added}
use Rattle.std.proofs.lemmas.List.{take-set}
use Rattle.std.proofs.lemmas.Slice.{drop-append-drop}
use Rattle.gix_validate.specs.Sanitized.{Dots, Other, byte_of, mended_pieces, repaired_dot}
use Rattle.gix_validate.specs.Sanitized.{repaired_at, repaired_nothing, sanitized}
use Rattle.gix_validate.specs.Private.Adjacent.{is_suspect, may_be_faulty, suspect_at}
use Rattle.gix_validate.specs.Private.Scan.{NoneBelow}
use Rattle.gix_validate.specs.Pieces.{is_slash, joined}

-- The text is mended up to the offset `read`; this byte was before it.
pub record MendedUpTo (whole text : List ℕ) (end read previous : ℕ) : Type 0 where
  pub written : end ≤ read
  pub long : length text ≡ length whole
  pub gives : GivesWhole whole (take end text) previous (drop read text)

-- A byte that isn't suspect gives itself.
added-quiet : (previous b : ℕ) → is_slash b ≡ false → is_suspect previous b ≡ false
    → added (in_piece previous) b ≡ b ∷ []
unfolding is_suspect
added-quiet previous b other quiet = grind (arith, nat_tests)

closed-quiet : (x : List ℕ) (n previous b : ℕ) → n ≤ length x → NoneBelow (suspect_at x) n
    → is_slash b ≡ true → is_suspect previous b ≡ false → closed (take n x) previous ≡ take n x ++ b ∷ []
unfolding is_suspect
closed-quiet x n previous b within quiet slash here =
    let no = no_lock x n within (λ five. pair_quiet x n (n - 5) quiet (omega arith)) in
    let whole = cut-own (take n x) (ends-no (take n x) (codes ".lock") no) in
    grind (arith, nat_tests)

gives_more : (x : List ℕ) (n : ℕ) → n < length x → NoneBelow (suspect_at x) (n + 1)
    → GivesWhole x (take n x) (get_or (byte "/" ∷ x) n 0) (drop n x)
    → GivesWhole x (take (n + 1) x) (get_or x n 0) (drop (n + 1) x)
gives_more x n room quiet so_far =
    let previous = get_or (byte "/" ∷ x) n 0 in
    let b = get_or x n 0 in
    let here = quiet n (omega arith) in
    let from : GivesWhole x (take n x) previous (b ∷ drop (n + 1) x) = rw (drop_more x n 0 room) at so_far in
    rw (take_more x n 0 room) (elim (cases_Bool (is_slash b)) [
      | inl slash ↦
          rw
          (closed-quiet x n previous b (omega arith) (λ k below. quiet k (omega (arith, below))) slash here)
          at (GivesWhole-slash _ _ _ _ _ from slash)
      | inr other ↦ rw (added-quiet previous b other here) at (GivesWhole-byte _ _ _ _ _ from other)
    ])

gives_front : (x : List ℕ) (n : ℕ) → n ≤ length x → NoneBelow (suspect_at x) n
    → GivesWhole x (take n x) (get_or (byte "/" ∷ x) n 0) (drop n x)
gives_front x zero within quiet = GivesWhole-start x
gives_front x (suc n) within quiet =
    let so_far = gives_front x n (omega (arith, within)) (λ k below. quiet k (omega (arith, below))) in
    rw (add-one n)
    at (gives_more x n (omega (arith, within)) (λ k below. quiet k (omega (arith, below))) so_far)

-- Bytes that aren't suspect are mended already.
pub MendedUpTo-start : (text : List ℕ) (n previous : ℕ) → n ≤ length text → NoneBelow (suspect_at text) n
    → previous ≡ get_or (byte "/" ∷ text) n 0 → MendedUpTo text text n n previous
MendedUpTo-start text n previous within quiet is =
    record { written = omega arith; long = refl; gives = rw is (gives_front text n within quiet) }

pub before_front : (x : List ℕ) (n : ℕ) → n ≢ 0 → get_or (byte "/" ∷ x) n 0 ≡ get_or x (n - 1) 0
before_front x n some = grind (arith, nat_tests)

MendedUpTo-later : (whole text new : List ℕ) (end read previous i b : ℕ)
    → MendedUpTo whole text end read previous → read < length text
    → length new ≡ length text → drop (end + 1) new ≡ drop (end + 1) text → i ≤ read + 1
    → GivesWhole whole (take i new) b (drop (read + 1) text) → MendedUpTo whole new i (read + 1) b
MendedUpTo-later whole text new end read previous i b so_far room long same written gives =
    let on : end + 1 + (read - end) ≡ read + 1 = omega arith in
    grind (arith, drop-drop (read - end) (end + 1) new, drop-drop (read - end) (end + 1) text)

-- what `mended_byte` says of a byte
abbrev mended : ℕ → ℕ → Option ℕ
mended previous b =
    if b == byte "." then (if previous == byte "." then None else Some (byte_of (in_piece previous) Dots))
    else Some (byte_of (in_piece previous) (Other b))

pub mended-some : (previous b w : ℕ) → Some w ≡ mended previous b → added (in_piece previous) b ≡ w ∷ []
mended-some previous b w e = grind (arith, nat_tests)

pub mended-none : (previous b : ℕ) → None ≡ mended previous b → added (in_piece previous) b ≡ []
mended-none previous b e = grind (arith, nat_tests)

-- A byte that adds one to its piece.
pub MendedUpTo-byte : (whole text : List ℕ) (end read previous w : ℕ)
    → MendedUpTo whole text end read previous → read < length text
    → is_slash (get_or text read 0) ≡ false → added (in_piece previous) (get_or text read 0) ≡ w ∷ []
    → MendedUpTo whole (set text end w) (end + 1) (read + 1) (get_or text read 0)
MendedUpTo-byte whole text end read previous w so_far room other e = grind (
  arith,
  nat_tests,
  GivesWhole,
  GivesWhole-byte,
  drop_more,
  drop-set-lt,
  MendedUpTo-later,
  length-set,
  take_more_set,
)

-- A plain byte is written as it is.
pub added-plain : (previous b : ℕ) → may_be_faulty b ≡ false
    → (is_slash b ≡ false) × (added (in_piece previous) b ≡ b ∷ [])
added-plain previous b plain = grind (arith, nat_tests)

-- A dot after another one is left out.
pub MendedUpTo-dots : (whole text : List ℕ) (end read previous : ℕ)
    → MendedUpTo whole text end read previous → read < length text
    → is_slash (get_or text read 0) ≡ false → added (in_piece previous) (get_or text read 0) ≡ []
    → MendedUpTo whole text end (read + 1) (get_or text read 0)
MendedUpTo-dots whole text end read previous so_far room other e =
    grind (arith, nat_tests, MendedUpTo-later, GivesWhole, GivesWhole-byte, drop_more, append-nil)

-- A slash closes the piece, or is left out after another one.
pub MendedUpTo-slash : (whole text new : List ℕ) (end read previous n : ℕ)
    → MendedUpTo whole text end read previous → read < length text
    → is_slash (get_or text read 0) ≡ true → length new ≡ length text → n ≤ end + 1
    → take n new ≡ closed (take end text) previous
    → drop (end + 1) new ≡ drop (end + 1) text → MendedUpTo whole new n (read + 1) (get_or text read 0)
MendedUpTo-slash whole text new end read previous n so_far room slash same within written rest =
    let slashed =
    GivesWhole-slash whole (take end text) previous (get_or text read 0) (drop (read + 1) text) in
    grind (
      arith,
      nat_tests,
      GivesWhole,
      slashed,
      drop_more text read 0,
      MendedUpTo-later whole text new end read previous n,
    )

-- At the end of the text the last piece ends.
pub mended_text : (whole text : List ℕ) (end read previous : ℕ) → MendedUpTo whole text end read previous
    → length text ≤ read → finished (take end text) previous ≡ joined (mended_pieces whole)
mended_text whole text end read previous so_far last =
    grind (arith, nat_tests, GivesWhole, drop_all, GivesWhole-end)

-- The front that was mended, and then repaired, is the sanitised text.
pub sanitized-in_place : (whole front rest new : List ℕ) (m n : ℕ)
    → m ≤ length front → take m front ≡ joined (mended_pieces whole)
    → take n new ≡ repaired_nothing (repaired_at (repaired_dot (take m (front ++ rest))))
    → take n new ≡ sanitized whole
unfolding sanitized
sanitized-in_place whole front rest new m n within mended repaired = grind (arith, take-append-le)

-- What follows it stays.
pub rest-in_place : (buf front new : List ℕ) (m len : ℕ) → m ≤ len → length front ≡ len
    → drop (max 1 m) new ≡ drop (max 1 m) (front ++ drop len buf)
    → drop (max 1 len) new ≡ drop (max 1 len) buf
rest-in_place buf front new m len within same stays =
    let k : ℕ = max 1 len - max 1 m in
    let further : max 1 m + k ≡ max 1 len = omega arith in
    grind (
      arith,
      drop-drop k (max 1 m) new,
      drop-drop k (max 1 m) (front ++ drop len buf),
      drop-append-drop len buf front (max 1 len),
    )

-- No text becomes a dash.
pub repaired_none : (buf : List ℕ) (end : ℕ) → 1 ≤ length buf → end ≡ 0
    → take 1 (set buf 0 (byte "-")) ≡ repaired_nothing (repaired_at (repaired_dot (take end buf)))
repaired_none [] end some none = absurd (omega arith)
repaired_none (b ∷ buf) end some none =
    ap (λ v. repaired_nothing (repaired_at (repaired_dot (take v (b ∷ buf))))) (sym none)

-- what the laws of the text in a buffer take from above: what is written after the text leaves it
pub ruleset laws_in_place = (sanitized_laws, take-set)

-- what the repair in a buffer takes from above
pub ruleset in_place =
    (length-take, clear_is_partial, sanitized-own, sanitized_laws, sanitized-in_place, rest-in_place)
