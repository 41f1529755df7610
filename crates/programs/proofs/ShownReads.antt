-- What is read after a front: the next of the bytes that the reader shows.
use Rattle.gix_validate.proofs.Common.{◌≡◌, ◌≢◌, ℕ, ◌+◌, ◌<◌, ◌≤◌, List, [], ◌∷◌, ◌++◌, All, Option}
use Rattle.gix_validate.proofs.Common.{Some, length, take, subst, ap, sym, ◌∙◌, arith}
use Rattle.gix_validate.proofs.Common.{append_assoc, length-append, length-take, Consumes}
use Rattle.gix_validate.proofs.Common.{Consumes-trans, common_steps, refl, take_at, drop}
use Rattle.memchr.specs.Find.{is_byte, IsFirstByte}
use Rattle.std.proofs.lemmas.List.Elements.{All-append}
use Rattle.programs.specs.declared.input.Found.{Found}
use Rattle.programs.specs.declared.input.Found.TheVariants.{Byte}
use Rattle.programs.specs.Promises.{IsCutAt, ReadsBefore}
use Rattle.programs.proofs.CutTexts.{first_found}

-- what a search for the byte cuts off
pub cut_found : (byte : ℕ) (shown : List ℕ) (k : ℕ) → IsFirstByte (is_byte byte) shown (Some k)
    → IsCutAt byte shown (take k shown) (k + 1) (Some Byte)
cut_found byte shown k found =
    let (cut, none) = first_found byte shown k found in
    let few : k < length shown = found.0.high in
    let whole : shown ≡ (take k shown ++ byte ∷ []) ++ drop (k + 1) shown =
    cut ∙ sym (append_assoc (take k shown) (byte ∷ []) (drop (k + 1) shown)) in
    let long : length (take k shown ++ byte ∷ []) ≡ k + 1 =
    omega (arith, length-append (take k shown) (byte ∷ []), length-take k shown) in
    (refl, none, ap (take (k + 1)) whole ∙ take_at _ _ (k + 1) long, omega arith)

take_shown : (m n : ℕ) (shown : List ℕ) → n ≡ length (take m shown) → take n shown ≡ take m shown
take_shown m n shown is = grind (arith, common_steps)

take_both : (m n : ℕ) (shown : List ℕ) → n ≤ length (take m shown) → take n (take m shown) ≡ take n shown
take_both m n shown few = grind (arith, common_steps)

pub few_shown : (m n : ℕ) (shown : List ℕ) → n ≤ length (take m shown) → n ≤ length shown
few_shown m n shown few = omega (arith, length-take m shown)

pub grows : (old a b : Option (List ℕ)) (front grown part : List ℕ) → Consumes old a front
    → Consumes a b part → grown ≡ front ++ part → Consumes old b grown
grows old a b front grown part read more joined =
    subst (Consumes old b) (sym joined) (Consumes-trans old a b front part read more)

-- all that is shown, up to a limit
pub grows_shown : (old a b : Option (List ℕ)) (front grown shown : List ℕ) (m n : ℕ)
    → Consumes old a front → n ≡ length (take m shown) → Consumes a b (take n shown)
    → grown ≡ front ++ take m shown → Consumes old b grown
grows_shown old a b front grown shown m n read all more joined =
    grows old a b front grown (take n shown) read more
    (joined ∙ ap (λ part. front ++ part) (sym (take_shown m n shown all)))

pub fits_shown : (front grown shown : List ℕ) (m limit : ℕ) → m + length front ≤ limit
    → grown ≡ front ++ take m shown → length grown ≤ limit
fits_shown front grown shown m limit room joined =
    omega (arith, ap length joined, length-append front (take m shown), length-take m shown)

pub none_shown : (byte : ℕ) (front grown part : List ℕ) → All (λ b. b ≢ byte) front
    → All (λ b. b ≢ byte) part → grown ≡ front ++ part → All (λ b. b ≢ byte) grown
none_shown byte front grown part before after joined =
    subst (All (λ b. b ≢ byte)) (sym joined) (All-append (λ b. b ≢ byte) front part before after)

-- what is shown before the byte, with the byte
pub found_shown : (byte limit m used : ℕ) (old a b : Option (List ℕ)) (front grown shown part : List ℕ)
    (found : Found) → Consumes old a front → All (λ b. b ≢ byte) front → m + length front ≤ limit
    → IsCutAt byte (take m shown) part used (Some found) → Consumes a b (take used shown)
    → grown ≡ front ++ part → ReadsBefore byte limit old b grown found
found_shown byte limit m used old a b front grown shown part found read before room
    (is, none, cut, few) more joined =
    let whole : take used shown ≡ part ++ byte ∷ [] = sym (take_both m used shown few) ∙ cut in
    let all : grown ++ byte ∷ [] ≡ front ++ take used shown =
    ap (λ text. text ++ byte ∷ []) joined ∙ append_assoc front part (byte ∷ [])
    ∙ ap (λ text. front ++ text) (sym whole) in
    subst (ReadsBefore byte limit old b grown) (sym is) record {
      bytes = grows old a b front (grown ++ byte ∷ []) (take used shown) read more all;
      none = none_shown byte front grown part before none joined;
      reach = omega (
        arith,
        ap length joined,
        length-append front part,
        ap length cut,
        length-append part (byte ∷ []),
        length-take used (take m shown),
        length-take m shown,
      );
    }
