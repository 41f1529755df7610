-- The laws of suggestions: what becomes of a name is a short name, unless it is nothing, `@` or `HEAD`.
use Rattle.gix_validate.proofs.Common.{◌≡◌, ◌≢◌, ℕ, zero, suc, subst, take, drop, append-nil}
use Rattle.gix_validate.proofs.Common.{take-append-drop, ◌+◌, ◌≤◌, Bool, true, false, List, [], ◌∷◌, ◌++◌}
use Rattle.gix_validate.proofs.Common.{length, refl, sym, ap, ◌∙◌, arith, codes, reverse, not, ◌&&◌}
use Rattle.gix_validate.proofs.Common.{◌==◌, Option, Some, None, byte, bytes_eq, nat_tests}
use Rattle.gix_validate.proofs.Common.{length-append, bytes_eq-Decides, list_all}
use Rattle.gix_validate.proofs.Common.{list_all-append, if◌then◌else◌, IsTrue, false_from_ne_true}
use Rattle.gix_validate.proofs.Common.{join_with_byte-slice_split, ◌↔◌, ◌⊎◌}
use Rattle.std.proofs.lemmas.List.{reverse-append, reverse-reverse}
use Rattle.gix_validate.proofs.Texts.Endings.{ends-false, ends_cons}
use Rattle.gix_validate.proofs.Texts.Pieces.{pieces_apart, pieces-joined}
use Rattle.gix_validate.proofs.TagNames.Grammar.{is_refused}
use Rattle.gix_validate.proofs.Sanitizing.MendedPieces.{each_may_follow, is_after}
use Rattle.gix_validate.proofs.Sanitizing.MendedPieces.{is_good_piece-bytes, each_may_follow-front}
use Rattle.gix_validate.specs.Bytes.{begins, ends, is_bad, is_empty}
use Rattle.gix_validate.specs.Pieces.{has_no_slash, is_slash, joined, pieces}
use Rattle.gix_validate.specs.Tag.{is_good_piece, is_tag_name}
use Rattle.git_names.proofs.ShortNameLemmas.{short_parts}
use Rattle.git_names.proofs.SuggestionLemmas.{left_of, stripped-mark, stripped-own}
use Rattle.git_names.specs.ShortNames.{is_short_name}
use Rattle.git_names.specs.Suggestions.{becomes_dash, dashed, has_nothing_to_keep, is_dot_or_dash}
use Rattle.git_names.specs.Suggestions.{is_no_branch, repaired, stripped}
use Rattle.git_names.specs.Suggestions.{suggested_piece, suggestion, thinned, trimmed}

-- what a byte becomes
abbrev replaced : Bool → ℕ → ℕ
replaced at b = if becomes_dash at b then byte "-" else b

-- No dash replaces `@`.
at_stays : (at : Bool) → becomes_dash at (byte "@") ≡ false
unfolding is_bad
at_stays true = refl
at_stays false = refl

no_at : (at : Bool) (b : ℕ) → becomes_dash at b ≡ true → (b == byte "@") ≡ false
no_at at b dash = false_from_ne_true (b == byte "@") (λ e.
    let same : b ≡ byte "@" = grind (arith, nat_tests, e) in
    let stays : becomes_dash at b ≡ false = subst (λ c. becomes_dash at c ≡ false) (sym same) (at_stays at) in
    cc)

dash_kept : is_refused (byte "-") ≡ false
unfolding is_bad is_refused
dash_kept = refl

replaced_by : (at : Bool) (b : ℕ) (dash : Bool) → becomes_dash at b ≡ dash
    → (is_refused (replaced at b) ≡ false)
    × ((replaced at b == byte "@") ≡ (b == byte "@")) × ((at && replaced at b == byte "{") ≡ false)
unfolding is_refused
replaced_by at b true dash = grind (arith, dash, dash_kept, no_at at b dash)
replaced_by at b false dash = grind (arith, dash)

-- it is one that a good piece may have, is `@` only if the byte is, and `{` only if that doesn't follow `@`
replaced_kept : (at : Bool) (b : ℕ) → (is_refused (replaced at b) ≡ false)
    × ((replaced at b == byte "@") ≡ (b == byte "@")) × ((at && replaced at b == byte "{") ≡ false)
replaced_kept at b = replaced_by at b (becomes_dash at b) refl

-- Of what is thinned each byte may follow the one before.
thinned_follows : (kept : Option ℕ) (at : Bool) (t : List ℕ) → (is_after (byte "@") kept ≡ true → at ≡ true)
    → each_may_follow kept (thinned kept (dashed at t)) ≡ true
thinned_follows kept at [] h = grind arith
thinned_follows None at (b ∷ t) h = grind (
  arith,
  nat_tests,
  replaced_kept at b,
  thinned_follows None (b == byte "@") t,
  thinned_follows (Some (replaced at b)) (b == byte "@") t,
)
thinned_follows (Some a) at (b ∷ t) h = grind (
  arith,
  nat_tests,
  replaced_kept at b,
  thinned_follows (Some a) (b == byte "@") t,
  thinned_follows (Some (replaced at b)) (b == byte "@") t,
)

-- It begins with neither a dot nor a dash.
thinned_first : (at : Bool) (t : List ℕ) (a : ℕ) (s : List ℕ) → thinned None (dashed at t) ≡ a ∷ s
    → is_dot_or_dash a ≡ false
thinned_first at [] a s e = grind (arith, e)
thinned_first at (b ∷ t) a s e = grind (arith, e, thinned_first (b == byte "@") t a s)

-- Nothing is left if and only if there are dots and dashes alone.
thinned_nothing : (at : Bool) (t : List ℕ)
    → is_empty (thinned None (dashed at t)) ≡ list_all is_dot_or_dash (dashed at t)
thinned_nothing at [] = refl
thinned_nothing at (b ∷ t) = grind (arith, thinned_nothing (b == byte "@") t)

thinned_apart : (kept : Option ℕ) (at : Bool) (t : List ℕ) → has_no_slash t ≡ true
    → has_no_slash (thinned kept (dashed at t)) ≡ true
thinned_apart kept at [] h = grind arith
thinned_apart kept at (b ∷ t) h = grind (
  arith,
  nat_tests,
  thinned_apart kept (b == byte "@") t,
  thinned_apart (Some (replaced at b)) (b == byte "@") t,
)

length-thinned : (kept : Option ℕ) (at : Bool) (t : List ℕ) → length (thinned kept (dashed at t)) ≤ length t
length-thinned kept at [] = grind arith
length-thinned kept at (b ∷ t) = grind (
  arith,
  length-thinned kept (b == byte "@") t,
  length-thinned (Some (replaced at b)) (b == byte "@") t,
)

-- What is stripped, as an induction: a dot or dash goes, `.lock` goes, and other texts stay. (A `grind` over
-- variables is much faster than one in a clause that matches five bytes.)
record Strips (P : List ℕ → List ℕ → Type 0) : Type 0 where
  pub nothing : P [] []
  pub mark : (a : ℕ) (t s : List ℕ) → is_dot_or_dash a ≡ true → P t s → P (a ∷ t) s
  pub lock : (t s : List ℕ) → P t s → P (codes "kcol." ++ t) s
  pub own : (a : ℕ) (t : List ℕ) → is_dot_or_dash a ≡ false → ((s : List ℕ) → a ∷ t ≢ codes "kcol." ++ s)
      → P (a ∷ t) (a ∷ t)

strip_other : (P : List ℕ → List ℕ → Type 0) → Strips P → (a : ℕ) (t : List ℕ) → is_dot_or_dash a ≡ false
    → ((s : List ℕ) → a ∷ t ≡ codes "kcol." ++ s → P s (stripped s))
    → (is_lock : Bool) → bytes_eq (take 5 (a ∷ t)) (codes "kcol.") ≡ is_lock
    → P (a ∷ t) (stripped (a ∷ t))
strip_other P steps a t h below true e =
    let s = drop 5 (a ∷ t) in
    let front : take 5 (a ∷ t) ≡ codes "kcol." = (bytes_eq-Decides (take 5 (a ∷ t)) (codes "kcol.")).0 e in
    let whole : a ∷ t ≡ codes "kcol." ++ s = sym (take-append-drop 5 (a ∷ t)) ∙ ap (λ f. f ++ s) front in
    subst (λ x. P x (stripped x)) (sym whole) (steps.lock s (stripped s) (below s whole))
strip_other P steps a t h below false e =
    let other : (s : List ℕ) → a ∷ t ≢ codes "kcol." ++ s =
    λ s whole. grind (
      arith,
      e,
      (bytes_eq-Decides (take 5 (a ∷ t)) (codes "kcol.")).1 (ap (take 5) whole),
    ) in
    subst (P (a ∷ t)) (sym (stripped-own a t h other)) (steps.own a t h other)

strip_one : (P : List ℕ → List ℕ → Type 0) → Strips P → (a : ℕ) (t : List ℕ) → P t (stripped t)
    → ((s : List ℕ) → a ∷ t ≡ codes "kcol." ++ s → P s (stripped s))
    → (is_mark : Bool) → is_dot_or_dash a ≡ is_mark → P (a ∷ t) (stripped (a ∷ t))
strip_one P steps a t more below true h =
    subst (P (a ∷ t)) (sym (stripped-mark a t h)) (steps.mark a t (stripped t) h more)
strip_one P steps a t more below false h =
    strip_other P steps a t h below (bytes_eq (take 5 (a ∷ t)) (codes "kcol.")) refl

strip_short : (P : List ℕ → List ℕ → Type 0) → Strips P → (n : ℕ) (x : List ℕ) → length x ≤ n
    → P x (stripped x)
strip_short P steps n [] short = steps.nothing
strip_short P steps zero (a ∷ t) short = absurd (omega (arith, short))
strip_short P steps (suc n) (a ∷ t) short =
    strip_one P steps a t (strip_short P steps n t (omega (arith, short)))
    (λ s whole. strip_short P steps n s (omega (arith, short, ap length whole))) (is_dot_or_dash a) refl

strip_all : (P : List ℕ → List ℕ → Type 0) → Strips P → (x : List ℕ) → P x (stripped x)
strip_all P steps x = strip_short P steps (length x) x (omega arith)

-- the last byte is a dot or dash, if there is one
abbrev last_is_mark : List ℕ → Bool
last_is_mark [] = true
last_is_mark (a ∷ []) = is_dot_or_dash a
last_is_mark (a ∷ b ∷ t) = last_is_mark (b ∷ t)

last_below : (a : ℕ) (t : List ℕ) → is_dot_or_dash a ≡ true → last_is_mark t ≡ true
    → last_is_mark (a ∷ t) ≡ true
last_below a [] h last = h
last_below a (b ∷ t) h last = last

last_below_lock : (t : List ℕ) → last_is_mark t ≡ true → last_is_mark (codes "kcol." ++ t) ≡ true
last_below_lock [] last = refl
last_below_lock (b ∷ t) last = last

last_pushed : (x : List ℕ) (m : ℕ) → last_is_mark (x ++ m ∷ []) ≡ is_dot_or_dash m
last_pushed [] m = refl
last_pushed (a ∷ []) m = refl
last_pushed (a ∷ b ∷ x) m = last_pushed (b ∷ x) m

-- what is stripped of a text that is read from its end
record Split (x s : List ℕ) : Type 0 where
  pub off : List ℕ
  pub whole : off ++ s ≡ x
  pub last : last_is_mark off ≡ true

split_steps : Strips Split
split_steps = record {
  nothing = record { off = []; whole = refl; last = refl };
  mark = λ a t s h more. record {
    off = a ∷ more.off;
    whole = ap (λ y. a ∷ y) more.whole;
    last = last_below a more.off h more.last;
  };
  lock = λ t s more. record {
    off = codes "kcol." ++ more.off;
    whole = ap (λ y. codes "kcol." ++ y) more.whole;
    last = last_below_lock more.off more.last;
  };
  own = λ a t h other. record { off = []; whole = refl; last = refl };
}

stripped_split : (x : List ℕ) → Split x (stripped x)
stripped_split x = strip_all Split split_steps x

-- What is left begins with no dot, no dash and no `.lock`.
record Left (x s : List ℕ) : Type 0 where
  pub mark : (m : ℕ) (t : List ℕ) → s ≡ m ∷ t → is_dot_or_dash m ≡ false
  pub lock : (t : List ℕ) → s ≢ codes "kcol." ++ t

left_steps : Strips Left
left_steps = record {
  nothing = record { mark = λ m t e. absurd (cc); lock = λ t e. cc };
  mark = λ a t s h more. record { mark = more.mark; lock = more.lock };
  lock = λ t s more. record { mark = more.mark; lock = more.lock };
  own = λ a t h other. record { mark = λ m u e. cc; lock = other };
}

stripped_left : (x : List ℕ) → Left x (stripped x)
stripped_left x = strip_all Left left_steps x

-- The byte that is read last stays if it is no dot and no dash.
last_kept : (f s x : List ℕ) (m : ℕ) → last_is_mark f ≡ true → f ++ s ≡ x ++ m ∷ [] → is_dot_or_dash m ≡ false
    → is_empty s ≡ false
last_kept f [] x m last e h =
    let same = sym last ∙ ap last_is_mark (sym (append-nil f) ∙ e) ∙ last_pushed x m ∙ h in
    absurd (cc same)
last_kept f (b ∷ s) x m last e h = refl

stripped_last : (x : List ℕ) (m : ℕ) → is_dot_or_dash m ≡ false → is_empty (stripped (x ++ m ∷ [])) ≡ false
stripped_last x m h =
    let split = stripped_split (x ++ m ∷ []) in
    last_kept split.off (stripped (x ++ m ∷ [])) x m split.last split.whole h

-- what is trimmed from the end of a text
abbrev trimmed_off : List ℕ → List ℕ
trimmed_off t = reverse (stripped_split (reverse t)).off

trimmed_split : (t : List ℕ) → trimmed t ++ trimmed_off t ≡ t
unfolding trimmed
trimmed_split t =
    let split = stripped_split (reverse t) in
    sym (reverse-append split.off (stripped (reverse t))) ∙ ap reverse split.whole ∙ reverse-reverse t

-- what is left, read from its end
trimmed_turned : (t : List ℕ) → stripped (reverse t) ≡ reverse (trimmed t)
unfolding trimmed
trimmed_turned t = sym (reverse-reverse (stripped (reverse t)))

trimmed_no_lock : (t : List ℕ) → ends (trimmed t) (codes ".lock") ≡ false
trimmed_no_lock t = ends-false (trimmed t) (codes ".lock") (λ f e.
    (stripped_left (reverse t)).lock (reverse f)
    (trimmed_turned t ∙ ap reverse e ∙ reverse-append f (codes ".lock")))

trimmed_no_dot : (t : List ℕ) → ends (trimmed t) (codes ".") ≡ false
trimmed_no_dot t = ends-false (trimmed t) (codes ".") (λ f e.
    let mark = (stripped_left (reverse t)).mark (byte ".") (reverse f)
    (trimmed_turned t ∙ ap reverse e ∙ reverse-append f (codes ".")) in
    grind (arith, mark))

trimmed_some : (a : ℕ) (t : List ℕ) → is_dot_or_dash a ≡ false → is_empty (trimmed (a ∷ t)) ≡ false
trimmed_some a t h =
    let turned : reverse (a ∷ t) ≡ reverse t ++ a ∷ [] = reverse-append (a ∷ []) t in
    let some = stripped_last (reverse t) a h in
    grind (arith, some, turned, trimmed_turned (a ∷ t))

-- What is left of a piece is a good piece.
suggested_good : (p : List ℕ) → is_empty (suggested_piece p) ≡ false
    → is_good_piece (suggested_piece p) ≡ true
unfolding suggested_piece
suggested_good p some =
    let q = thinned None (dashed false p) in
    let follows : each_may_follow None q ≡ true = thinned_follows None false p (λ e. grind (arith, e)) in
    let front = each_may_follow-front None (trimmed q) (trimmed_off q)
    (ap (each_may_follow None) (trimmed_split q) ∙ follows) in
    grind (arith, is_good_piece-bytes (trimmed q), trimmed_no_lock q, some, front)

suggested_no_dot : (p : List ℕ) → ends (suggested_piece p) (codes ".") ≡ false
unfolding suggested_piece
suggested_no_dot p = trimmed_no_dot (thinned None (dashed false p))

-- a front of a text without a dot or dash at its start has none there, either
front_no_dash : (t u q : List ℕ) → t ++ u ≡ q → ((a : ℕ) (s : List ℕ) → q ≡ a ∷ s → is_dot_or_dash a ≡ false)
    → begins t (codes "-") ≡ false
front_no_dash [] u q e first = refl
front_no_dash (b ∷ t) u q e first = grind (arith, nat_tests, first b (t ++ u) (sym e))

suggested_no_dash : (p : List ℕ) → begins (suggested_piece p) (codes "-") ≡ false
unfolding suggested_piece
suggested_no_dash p =
    let q = thinned None (dashed false p) in
    front_no_dash (trimmed q) (trimmed_off q) q (trimmed_split q) (thinned_first false p)

suggested_apart : (p : List ℕ) → has_no_slash p ≡ true → has_no_slash (suggested_piece p) ≡ true
unfolding suggested_piece
suggested_apart p h =
    let q = thinned None (dashed false p) in
    let apart : has_no_slash q ≡ true = thinned_apart None false p h in
    grind (arith, trimmed_split q, apart, list_all-append (λ b. not (is_slash b)) (trimmed q) (trimmed_off q))

length-suggested : (p : List ℕ) → length (suggested_piece p) ≤ length p
unfolding suggested_piece
length-suggested p =
    let q = thinned None (dashed false p) in
    omega (
      arith,
      length-thinned None false p,
      ap length (trimmed_split q),
      length-append (trimmed q) (trimmed_off q),
    )

-- Nothing is left of a piece if and only if it has nothing to keep.
some_left : (q : List ℕ) → ((a : ℕ) (s : List ℕ) → q ≡ a ∷ s → is_dot_or_dash a ≡ false)
    → is_empty (trimmed q) ≡ is_empty q
unfolding trimmed
some_left [] first = refl
some_left (a ∷ s) first = trimmed_some a s (first a s refl)

suggested_nothing : (p : List ℕ) → is_empty (suggested_piece p) ≡ list_all is_dot_or_dash (dashed false p)
unfolding suggested_piece
suggested_nothing p =
    some_left (thinned None (dashed false p)) (thinned_first false p) ∙ thinned_nothing false p

-- what is left of pieces: good pieces that begin with no dash and end in no dot
all_good : (ps : List (List ℕ)) → list_all is_good_piece (left_of suggested_piece ps) ≡ true
all_good [] = refl
all_good (p ∷ ps) = grind (arith, suggested_good p, all_good ps)

all_apart : (ps : List (List ℕ)) → list_all has_no_slash ps ≡ true
    → list_all has_no_slash (left_of suggested_piece ps) ≡ true
all_apart [] h = refl
all_apart (p ∷ ps) h = grind (arith, suggested_apart p, all_apart ps)

-- how a text with a slash and more after it ends
ends_after : (t u : List ℕ) → ends u (codes ".") ≡ false → ends (t ++ byte "/" ∷ u) (codes ".") ≡ false
ends_after [] [] h = refl
ends_after [] (b ∷ u) h = ends_cons (codes ".") (byte "/") (b ∷ u) (omega arith) ∙ h
ends_after (a ∷ t) u h =
    ends_cons (codes ".") a (t ++ byte "/" ∷ u) (omega (arith, length-append t (byte "/" ∷ u)))
    ∙ ends_after t u h

-- one piece more before the others
joined_nothing : (q : List ℕ) (qs : List (List ℕ)) → is_empty q ≡ false → is_empty (joined (q ∷ qs)) ≡ false
joined_nothing [] qs some = grind (arith, some)
joined_nothing (b ∷ q) [] some = refl
joined_nothing (b ∷ q) (r ∷ qs) some = refl

joined_begins : (q : List ℕ) (qs : List (List ℕ)) → is_empty q ≡ false
    → begins (joined (q ∷ qs)) (codes "-") ≡ begins q (codes "-")
joined_begins [] qs some = grind (arith, some)
joined_begins (b ∷ q) [] some = refl
joined_begins (b ∷ q) (r ∷ qs) some = grind arith

joined_length : (q : List ℕ) (qs : List (List ℕ))
    → length (joined (q ∷ qs)) ≤ length q + 1 + length (joined qs)
joined_length q [] = omega arith
joined_length q (r ∷ qs) = omega (arith, length-append q (byte "/" ∷ joined (r ∷ qs)))

joined_no_dot : (q : List ℕ) (qs : List (List ℕ)) → ends q (codes ".") ≡ false
    → ends (joined qs) (codes ".") ≡ false
    → ends (joined (q ∷ qs)) (codes ".") ≡ false
joined_no_dot q [] no_dot others = no_dot
joined_no_dot q (r ∷ qs) no_dot others = ends_after q (joined (r ∷ qs)) others

-- Of what is left of pieces, joined: it is empty if nothing is left of any.
left_nothing : (ps : List (List ℕ))
    → is_empty (joined (left_of suggested_piece ps))
    ≡ list_all (λ p. list_all is_dot_or_dash (dashed false p)) ps
left_nothing [] = refl
left_nothing (p ∷ ps) = grind (
  arith,
  suggested_nothing p,
  left_nothing ps,
  joined_nothing (suggested_piece p) (left_of suggested_piece ps),
)

left_no_dot : (ps : List (List ℕ)) → ends (joined (left_of suggested_piece ps)) (codes ".") ≡ false
left_no_dot [] = refl
left_no_dot (p ∷ ps) = grind (
  arith,
  suggested_no_dot p,
  left_no_dot ps,
  joined_no_dot (suggested_piece p) (left_of suggested_piece ps),
)

left_no_dash : (ps : List (List ℕ)) → begins (joined (left_of suggested_piece ps)) (codes "-") ≡ false
left_no_dash [] = refl
left_no_dash (p ∷ ps) = grind (
  arith,
  suggested_no_dash p,
  left_no_dash ps,
  joined_begins (suggested_piece p) (left_of suggested_piece ps),
)

-- What becomes of a name is a short name, unless it is nothing, `@` or `HEAD`.
repaired_valid : (x : List ℕ) → is_no_branch (repaired x) ≡ false → is_short_name (repaired x) ≡ true
unfolding repaired is_tag_name
repaired_valid x some =
    let qs = left_of suggested_piece (pieces x) in
    let apart = all_apart (pieces x) (pieces_apart x) in
    let split = pieces-joined qs (λ none. grind (arith, none, some)) apart in
    grind (
      arith,
      short_parts (joined qs),
      split,
      all_good (pieces x),
      left_no_dot (pieces x),
      left_no_dash (pieces x),
      some,
    )

length-left : (ps : List (List ℕ)) → length (joined (left_of suggested_piece ps)) ≤ length (joined ps)
length-left [] = omega arith
length-left (p ∷ []) = grind (arith, length-suggested p)
length-left (p ∷ q ∷ ps) = grind (
  arith,
  length-append,
  length-suggested p,
  length-left (q ∷ ps),
  joined_length (suggested_piece p) (left_of suggested_piece (q ∷ ps)),
)

length-repaired : (x : List ℕ) → length (repaired x) ≤ length x
unfolding repaired
length-repaired x =
    let same : joined (pieces x) ≡ x = join_with_byte-slice_split (byte "/") x in
    grind (arith, length-left (pieces x), same)

-- The laws of a suggestion.
pub suggestion_valid : (x t : List ℕ) → suggestion x ≡ Some t → is_short_name t ≡ true
unfolding suggestion
suggestion_valid x t h = grind (arith, h, repaired_valid x)

pub suggestion_own : (x : List ℕ) → is_short_name x ≡ true → suggestion x ≡ Some x
unfolding suggestion
suggestion_own x valid = grind (arith, valid)

pub suggestion_unchanged : (x t : List ℕ) → suggestion x ≡ Some t → (t ≡ x) ↔ IsTrue (is_short_name x)
suggestion_unchanged x t h =
    (λ e. grind (arith, e, suggestion_valid x t h), λ valid. grind (arith, h, suggestion_own x valid))

pub length-suggestion : (x t : List ℕ) → suggestion x ≡ Some t → length t ≤ length x
unfolding suggestion
length-suggestion x t h = grind (arith, h, length-repaired x)

pub suggestion_again : (x t : List ℕ) → suggestion x ≡ Some t → suggestion t ≡ Some t
suggestion_again x t h = suggestion_own t (suggestion_valid x t h)

pub suggestion_none : (x : List ℕ) → suggestion x ≡ None
    → IsTrue (has_nothing_to_keep x) ⊎ (repaired x ≡ codes "@") ⊎ (repaired x ≡ codes "HEAD")
unfolding suggestion repaired
suggestion_none x h = grind (arith, h, bytes_eq-Decides, left_nothing (pieces x))

-- the suggestion of a name that isn't valid
pub suggestion_repaired : (x : List ℕ) → is_short_name x ≡ false
    → suggestion x ≡ (if is_no_branch (repaired x) then None else Some (repaired x))
unfolding suggestion
suggestion_repaired x invalid = grind (arith, invalid)

-- what the calls take from here
pub ruleset suggestion_laws = (
  suggestion_valid,
  suggestion_own,
  suggestion_unchanged,
  length-suggestion,
  suggestion_again,
  suggestion_none,
  suggestion_repaired,
)
