-- What becomes of a name: of its bytes, of a piece, and of all its pieces.
use Rattle.gix_validate.proofs.Common.{◌≡◌, ◌≢◌, ℕ, zero, suc, ◌+◌, ◌-◌, ◌≤◌, ◌<◌, Bool, true, false}
use Rattle.gix_validate.proofs.Common.{List, [], ◌∷◌, ◌++◌, length, take, drop, set, get_or, refl, sym}
use Rattle.gix_validate.proofs.Common.{ap, ◌∙◌, inl, inr, ◌⊎◌, arith, append_assoc, append-nil, codes}
use Rattle.gix_validate.proofs.Common.{reverse, not, ◌&&◌, ◌||◌, ◌==◌, Option, Some, None, byte, bytes_eq}
use Rattle.gix_validate.proofs.Common.{nat_tests, common_steps, take_more_set, drop_more, take_more}
use Rattle.gix_validate.proofs.Common.{length-append, length-reverse, bytes_eq-Decides, length-take}
use Rattle.gix_validate.proofs.Common.{take-take, take_all, IsTrue, filter, map, list_all, if◌then◌else◌}
use Rattle.gix_validate.proofs.Common.{list_all-append, and_from, and_parts, false_from_ne_true}
use Rattle.std.proofs.lemmas.List.{reverse-append, reverse-reverse}
use Rattle.gix_validate.proofs.Texts.Endings.{ends-true, ends-no}
use Rattle.gix_validate.specs.Bytes.{ends, is_empty}
use Rattle.gix_validate.specs.Pieces.{joined, pieces}
use Rattle.gix_validate.proofs.Common.{take_rest, take-append-le, length-take-le, take-append-add}
use Rattle.std.proofs.lemmas.List.{set_at}
use borrow.Rule.Slice.PartMut.{put_mid, post_of}
use Rattle.git_names.proofs.SlashLemmas.{last_piece_from, piece_from}
use Rattle.git_names.specs.Private.Slashes.{IsFirstSlash, NoSlash}
use Rattle.git_names.specs.Private.Written.{appended}
use Rattle.git_names.specs.Suggestions.{becomes_dash, dashed, is_dot_or_dash}
use Rattle.git_names.specs.Suggestions.{repaired, stripped, suggested_piece, thinned, trimmed}

-- A dot or dash is stripped.
pub stripped-mark : (a : ℕ) (t : List ℕ) → is_dot_or_dash a ≡ true → stripped (a ∷ t) ≡ stripped t
stripped-mark a [] h = grind arith
stripped-mark a (b ∷ []) h = grind arith
stripped-mark a (b ∷ c ∷ []) h = grind arith
stripped-mark a (b ∷ c ∷ d ∷ []) h = grind arith
stripped-mark a (b ∷ c ∷ d ∷ e ∷ t) h = grind arith

-- `.lock` is stripped.
stripped-lock : (t : List ℕ) → stripped (codes "kcol." ++ t) ≡ stripped t
stripped-lock t = refl

-- A text that begins with neither is left as it is.
pub stripped-own : (a : ℕ) (t : List ℕ) → is_dot_or_dash a ≡ false → ((s : List ℕ) → a ∷ t ≢ codes "kcol." ++ s)
    → stripped (a ∷ t) ≡ a ∷ t
stripped-own a [] h other = grind arith
stripped-own a (b ∷ []) h other = grind arith
stripped-own a (b ∷ c ∷ []) h other = grind arith
stripped-own a (b ∷ c ∷ d ∷ []) h other = grind arith
stripped-own a (b ∷ c ∷ d ∷ e ∷ t) h other = grind (arith, bytes_eq-Decides, other t)

-- the last byte first
reverse-push : (y : List ℕ) (a : ℕ) → reverse (y ++ a ∷ []) ≡ a ∷ reverse y
reverse-push y a = reverse-append y (a ∷ [])

pub trimmed-mark : (y : List ℕ) (a : ℕ) → is_dot_or_dash a ≡ true → trimmed (y ++ a ∷ []) ≡ trimmed y
unfolding trimmed
trimmed-mark y a h = ap reverse (ap stripped (reverse-push y a) ∙ stripped-mark a (reverse y) h)

pub trimmed-lock : (y : List ℕ) → trimmed (y ++ codes ".lock") ≡ trimmed y
unfolding trimmed
trimmed-lock y = ap reverse (ap stripped (reverse-append y (codes ".lock")) ∙ stripped-lock (reverse y))

pub trimmed-own : (y : List ℕ) (a : ℕ) → is_dot_or_dash a ≡ false → ends (y ++ a ∷ []) (codes ".lock") ≡ false
    → trimmed (y ++ a ∷ []) ≡ y ++ a ∷ []
unfolding trimmed
trimmed-own y a mark lock =
    let turned = reverse-push y a in
    let other : (s : List ℕ) → a ∷ reverse y ≢ codes "kcol." ++ s =
    λ s e. ends-no (y ++ a ∷ []) (codes ".lock") lock (reverse s)
    (sym (reverse-reverse (y ++ a ∷ [])) ∙ ap reverse (turned ∙ e) ∙ reverse-append (codes "kcol.") s) in
    ap reverse (ap stripped turned ∙ stripped-own a (reverse y) mark other ∙ sym turned)
    ∙ reverse-reverse (y ++ a ∷ [])

-- what the loop that trims takes: the front of a text up to its last dot, dash or `.lock`
pub trimmed-nothing : trimmed [] ≡ []
unfolding trimmed
trimmed-nothing = refl

pub front_mark : (t : List ℕ) (n : ℕ) → 0 < n → n ≤ length t → is_dot_or_dash (get_or t (n - 1) 0) ≡ true
    → trimmed (take (n - 1) t) ≡ trimmed (take n t)
front_mark t n some within mark =
    let more : take n t ≡ take (n - 1) t ++ get_or t (n - 1) 0 ∷ [] = grind (arith, take_more t (n - 1) 0) in
    rw more (sym (trimmed-mark (take (n - 1) t) (get_or t (n - 1) 0) mark))

pub front_lock : (t : List ℕ) (n : ℕ) → n ≤ length t → ends (take n t) (codes ".lock") ≡ true
    → (5 ≤ n) × (trimmed (take (n - 5) t) ≡ trimmed (take n t))
front_lock t n within lock = grind (
  arith,
  ends-true (take n t) (codes ".lock"),
  length-take,
  length-append,
  take-take,
  trimmed-lock (take (n - 5) t),
)

pub front_own : (t : List ℕ) (n : ℕ) → 0 < n → n ≤ length t → is_dot_or_dash (get_or t (n - 1) 0) ≡ false
    → ends (take n t) (codes ".lock") ≡ false → trimmed (take n t) ≡ take n t
front_own t n some within mark lock =
    let more : take n t ≡ take (n - 1) t ++ get_or t (n - 1) 0 ∷ [] = grind (arith, take_more t (n - 1) 0) in
    ap trimmed more ∙ trimmed-own (take (n - 1) t) (get_or t (n - 1) 0) mark (rw more at lock) ∙ sym more

-- what a loop that trims a text takes
pub ruleset trimmed_fronts =
    (nat_tests, take_all, length-take, front_mark, front_lock, front_own, trimmed-nothing)

-- what one byte of a piece gives
pub thinned-drop : (kept : Option ℕ) (at : Bool) (p : List ℕ) (i : ℕ) → i < length p
    → thinned kept (dashed at (drop i p))
    ≡ thinned kept ((if becomes_dash at (get_or p i 0) then byte "-" else get_or p i 0)
    ∷ dashed (get_or p i 0 == byte "@") (drop (i + 1) p))
thinned-drop kept at p i within = ap (λ t. thinned kept (dashed at t)) (drop_more p i 0 within)

-- what a loop that thins a piece takes
pub ruleset thinned_steps = (nat_tests, common_steps, thinned-drop, take_more_set, append_assoc)

-- what is left of these pieces
abbrev pub left_of : (List ℕ → List ℕ) → List (List ℕ) → List (List ℕ)
left_of f ps = filter (λ p. not (is_empty p)) (map f ps)

-- what these pieces are appended to
abbrev pub appended_all : (List ℕ → List ℕ) → List ℕ → List (List ℕ) → List ℕ
appended_all f t [] = t
appended_all f t (p ∷ ps) = appended_all f (appended t (f p)) ps

joined-front : (t s : List ℕ) (ps : List (List ℕ)) → joined ((t ++ s) ∷ ps) ≡ t ++ joined (s ∷ ps)
joined-front t s [] = refl
joined-front t s (p ∷ ps) = append_assoc t s (byte "/" ∷ joined (p ∷ ps))

joined-slash : (t s : List ℕ) (ps : List (List ℕ))
    → joined ((t ++ byte "/" ∷ s) ∷ ps) ≡ t ++ byte "/" ∷ joined (s ∷ ps)
joined-slash t s [] = refl
joined-slash t s (p ∷ ps) = append_assoc t (byte "/" ∷ s) (byte "/" ∷ joined (p ∷ ps))

appended_some : (f : List ℕ → List ℕ) (t : List ℕ) (ps : List (List ℕ)) → is_empty t ≡ false
    → appended_all f t ps ≡ joined (t ∷ left_of f ps)
appended_some f [] ps some = grind (arith, some)
appended_some f (b ∷ t) [] some = refl
appended_some f (b ∷ t) (p ∷ ps) some = grind (
  arith,
  joined-slash (b ∷ t) (f p) (left_of f ps),
  appended_some f (appended (b ∷ t) (f p)) ps,
)

pub appended_none : (f : List ℕ → List ℕ) (ps : List (List ℕ)) → appended_all f [] ps ≡ joined (left_of f ps)
appended_none f [] = refl
appended_none f (p ∷ ps) = grind (arith, appended_some f (f p) ps, appended_none f ps)

-- What is written of a name up to an offset, and the pieces from there on, give what the name becomes.
pub record WrittenUpTo (x t : List ℕ) (end start : ℕ) : Type 0 where
  pub within : start ≤ length x
  pub near : end ≤ start - 1
  pub text : appended_all suggested_piece (take end t) (pieces (drop start x)) ≡ repaired x

pub WrittenUpTo-start : (x t : List ℕ) → WrittenUpTo x t 0 0
unfolding repaired
WrittenUpTo-start x t = record {
  within = omega arith;
  near = omega arith;
  text = appended_none suggested_piece (pieces x);
}

pub WrittenUpTo-slash : (x t u : List ℕ) (end start slash next : ℕ) → WrittenUpTo x t end start
    → IsFirstSlash x start slash
    → take next u ≡ appended (take end t) (suggested_piece (take (slash - start) (drop start x)))
    → next ≤ slash → WrittenUpTo x u next (slash + 1)
WrittenUpTo-slash x t u end start slash next so_far first written near = record {
  within = omega (arith, first.within);
  near = omega arith;
  text =
      ap (λ v. appended_all suggested_piece v (pieces (drop (slash + 1) x))) written
      ∙ sym (ap (appended_all suggested_piece (take end t)) (piece_from x start slash first)) ∙ so_far.text;
}

pub WrittenUpTo-last : (x t u : List ℕ) (end start next : ℕ) → WrittenUpTo x t end start
    → NoSlash x start (length x)
    → take next u ≡ appended (take end t) (suggested_piece (take (length x - start) (drop start x)))
    → take next u ≡ repaired x
WrittenUpTo-last x t u end start next so_far none written =
    let rest : take (length x - start) (drop start x) ≡ drop start x = grind (arith, take_rest) in
    written ∙ ap (λ p. appended (take end t) (suggested_piece p)) rest
    ∙ sym (ap (appended_all suggested_piece (take end t)) (last_piece_from x start so_far.within none))
    ∙ so_far.text

-- what is written of a piece is thinned, and then trimmed
pub written_piece : (p t : List ℕ) (len n : ℕ) → take len t ≡ thinned None (dashed false p)
    → n ≤ length (take len t) → take n (take len t) ≡ trimmed (take len t) → take n t ≡ suggested_piece p
unfolding suggested_piece
written_piece p t len n thin within trim =
    let front : take n (take len t) ≡ take n t = grind (arith, take-take, length-take) in
    sym front ∙ trim ∙ ap trimmed thin

some_from_length : (t : List ℕ) → 0 < length t → is_empty t ≡ false
some_from_length [] some = absurd (omega arith)
some_from_length (b ∷ t) some = refl

appended_both : (t u p : List ℕ) → u ≡ p → is_empty t ≡ false → is_empty p ≡ false
    → t ++ 47 ∷ u ≡ appended t p
appended_both t u p same begun some = rw (same, begun, some) refl

appended_to_nothing : (p : List ℕ) → p ≡ appended [] p
appended_to_nothing [] = refl
appended_to_nothing (b ∷ p) = refl

-- a text of which a front is taken that has a byte
pub some_taken : (t p : List ℕ) (n : ℕ) → take n t ≡ p → 0 < n → n ≤ length t → is_empty p ≡ false
some_taken t p n same some within =
    ap is_empty (sym same) ∙ some_from_length (take n t) (omega (arith, length-take-le n t within))

-- the first piece of which something is left
pub appended_first : (old sub p : List ℕ) (k len : ℕ) → take len sub ≡ p → len ≤ length sub
    → take (0 + len) (put_mid 0 k old sub) ≡ appended [] p
appended_first old sub p k len text within =
    let count : 0 + len ≡ len = omega arith in
    let front : take len (put_mid 0 k old sub) ≡ take len sub =
    take-append-le len sub (post_of 0 k old) within in
    ap (λ n. take n (put_mid 0 k old sub)) count ∙ front ∙ text ∙ appended_to_nothing p

-- each further one, with a slash before it
pub appended_next : (old sub p : List ℕ) (end k len : ℕ) → take len sub ≡ p → is_empty p ≡ false → 0 < end
    → end < length old → len ≤ length sub
    → take (end + 1 + len) (set (put_mid (end + 1) k old sub) end 47) ≡ appended (take end old) p
appended_next old sub p end k len text some begun room within =
    let front : take (end + 1) old ≡ take end old ++ get_or old end 0 ∷ [] = take_more old end 0 room in
    let long : length (take end old) ≡ end = length-take-le end old (omega arith) in
    let whole : put_mid (end + 1) k old sub
    ≡ take end old ++ get_or old end 0 ∷ (sub ++ post_of (end + 1) k old) =
    ap (λ t. t ++ (sub ++ post_of (end + 1) k old)) front
    ∙ append_assoc (take end old) (get_or old end 0 ∷ []) (sub ++ post_of (end + 1) k old) in
    let written : set (put_mid (end + 1) k old sub) end 47
    ≡ take end old ++ 47 ∷ (sub ++ post_of (end + 1) k old) =
    ap (λ t. set t end 47) whole
    ∙ set_at (take end old) (get_or old end 0) (sub ++ post_of (end + 1) k old) 47 end long in
    let taken : take (end + 1 + len) (take end old ++ 47 ∷ (sub ++ post_of (end + 1) k old))
    ≡ take end old ++ 47 ∷ take len sub =
    let count : end + 1 + len ≡ length (take end old) + suc len = omega (arith, long) in
    ap (λ n. take n (take end old ++ 47 ∷ (sub ++ post_of (end + 1) k old))) count
    ∙ take-append-add (take end old) (47 ∷ (sub ++ post_of (end + 1) k old)) (suc len)
    ∙ ap (λ s. take end old ++ 47 ∷ s) (take-append-le len sub (post_of (end + 1) k old) within) in
    ap (take (end + 1 + len)) written ∙ taken
    ∙ appended_both (take end old) (take len sub) p text
    (some_from_length (take end old) (omega (arith, long))) some
