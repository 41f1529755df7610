-- The numbers of names that are written so far, where the names are walked in order.
use Rattle.gix_validate.proofs.Common.{◌≡◌, ℕ, ◌+◌, ◌<◌, ◌≤◌, List, [], ◌∷◌, ◌++◌, length, take}
use Rattle.gix_validate.proofs.Common.{drop, map, set, sym, ap, ◌∙◌, arith, append_assoc}
use Rattle.gix_validate.proofs.Common.{length-append, map-append, length-map, drop-drop}
use Rattle.gix_validate.proofs.Common.{take_more_set, take-append-le, drop-set-lt, take_rest}
use Rattle.gix_validate.proofs.Common.{common_steps}
use Rattle.gix_validate.proofs.Texts.NamesIn.{names_in-cut, names_in-none}

-- of these names so many are done, and these are left;
-- the numbers of those done that fit are written, and nothing else is
pub record Written (number_of : List ℕ → ℕ) (names left : List (List ℕ))
    (old new : List ℕ) (count : ℕ) : Type 0 where
  pub done : List (List ℕ)
  pub order : names ≡ done ++ left
  pub many : length done ≡ count
  pub numbers : take count new ≡ take (length old) (map number_of done)
  pub rest : drop count new ≡ drop count old
  pub size : length new ≡ length old

module _ (number_of : List ℕ → ℕ) where
  further : (old new : List ℕ) (count : ℕ) → drop count new ≡ drop count old
      → drop (count + 1) new ≡ drop (count + 1) old
  further old new count same = sym (drop-drop 1 count new) ∙ ap (drop 1) same ∙ drop-drop 1 count old

  written : (name : List ℕ) (done : List (List ℕ)) (old new : List ℕ) (count : ℕ)
      → count < length new → length new ≡ length old → length done ≡ count
      → take count new ≡ take (length old) (map number_of done)
      → take (count + 1) (set new count (number_of name))
      ≡ take (length old) (map number_of (done ++ name ∷ []))
  written name done old new count fits size many numbers = grind (
    arith,
    common_steps,
    take_more_set new count (number_of name) fits,
    map-append,
    length-map,
    length-append,
  )

  -- one more name, whose number fits
  pub one_more : (names here left : List (List ℕ)) (name old new next : List ℕ) (count number : ℕ)
      → here ≡ name ∷ left → number ≡ number_of name → next ≡ set new count number → count < length new
      → Written number_of names here old new count → Written number_of names left old next (count + 1)
  one_more names here left name old new next count number is number_is next_is fits before = record {
    done = before.done ++ name ∷ [];
    order = grind (arith, append_assoc, before.order, is);
    many = grind (arith, length-append, before.many);
    numbers =
        rw next_is
        (rw number_is (written name before.done old new count fits before.size before.many before.numbers));
    rest =
        rw next_is
        (drop-set-lt (count + 1) new count number (omega arith) ∙ further old new count before.rest);
    size = grind (arith, common_steps, before.size);
  }

  -- one more name, whose number doesn't fit
  pub no_room : (names here left : List (List ℕ)) (name old new next : List ℕ) (count : ℕ)
      → here ≡ name ∷ left → next ≡ new → length new ≤ count
      → Written number_of names here old new count → Written number_of names left old next (count + 1)
  no_room names here left name old new next count is next_is full before = record {
    done = before.done ++ name ∷ [];
    order = grind (arith, append_assoc, before.order, is);
    many = grind (arith, length-append, before.many);
    numbers = grind (
      arith,
      common_steps,
      map-append,
      length-map,
      take-append-le,
      before.numbers,
      before.size,
      before.many,
    );
    rest = rw next_is (further old new count before.rest);
    size = grind (arith, before.size);
  }

-- what `first_name` takes
pub ruleset first_of_names = (take_rest, names_in-cut, names_in-none)
