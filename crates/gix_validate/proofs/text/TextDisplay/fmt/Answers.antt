-- What is written: the words, and the bytes between quotes if there are any.
use Rattle.gix_validate.proofs.Common.{◌≡◌, ℕ, ◌≤◌, Option, None, Some, Ok, Err, Result, List}
use Rattle.gix_validate.proofs.Common.{◌++◌, length, take, codes, flat_map, option_map, Bor, sym}
use Rattle.gix_validate.proofs.Common.{ap, ◌∙◌, refl, append_assoc, append-nil, take_all, take_more}
use Rattle.gix_validate.proofs.Common.{false≢true, true, get_or}
use Rattle.std.proofs.lemmas.List.{flat_map_more}
use Rattle.std.proofs.lemmas.Grind.{put_two}
use Rattle.std.specs.Result.{IsOk, IsErr}
use Rattle.gix_validate.specs.declared.text.Text.{Text}
use Rattle.gix_validate.specs.Quoted.{escape_of}
use Rattle.gix_validate.specs.Printed.{printed, quoted_if_any}
use Rattle.gix_validate.proofs.text.TextDisplay.fmt.Goals as goal

not_both : {T E : Type 0} → (r : Result T E) → IsOk r → IsErr r → ⊥
not_both (Ok x) ok err = false≢true err
not_both (Err e) ok err = false≢true ok

printed_by : (text : Text) (q : Option (Bor (List ℕ))) → text.quoted ≡ q
    → printed text ≡ text.words.now ++ quoted_if_any (option_map (λ bytes. bytes.now) q)
printed_by text q is = ap (λ q. text.words.now ++ quoted_if_any (option_map (λ bytes. bytes.now) q)) is

printed_whole : (text : Text) (bytes : Bor (List ℕ)) (i : ℕ) → text.quoted ≡ Some bytes
    → length bytes.now ≤ i
    → ((text.words.now ++ codes "\"") ++ flat_map escape_of (take i bytes.now)) ++ codes "\"" ≡ printed text
printed_whole text bytes i is all =
    let w = text.words.now ++ codes "\"" in
    ap (λ x. (w ++ flat_map escape_of x) ++ codes "\"") (take_all i bytes.now all)
    ∙ append_assoc w (flat_map escape_of bytes.now) (codes "\"")
    ∙ append_assoc text.words.now (codes "\"") (flat_map escape_of bytes.now ++ codes "\"")
    ∙ sym (printed_by text (Some bytes) is)

pub returns-in_err-write_str-clause-writes : goal.returns-in_err-write_str-clause-writes
returns-in_err-write_str-clause-writes g c plain ok = absurd (not_both _ ok c.from_residual.ensures.0)

pub returns-in_default-clause-writes : goal.returns-in_default-clause-writes
returns-in_default-clause-writes g c plain ok =
    rw (printed_by c.args.self.now None c.in_default.is, append-nil c.args.self.now.words.now)
    (c.in_ok-write_str.ensures.writes plain (refl {a = true}))

pub returns-in_err-write_str-2-clause-writes : goal.returns-in_err-write_str-2-clause-writes
returns-in_err-write_str-2-clause-writes g c plain ok =
    absurd (not_both _ ok c.from_residual-in_err-write_str-2.ensures.0)

pub loop-byte-init : goal.loop-byte-init
loop-byte-init g c plain =
    let words = c.in_ok-write_str.ensures.writes plain (refl {a = true}) in
    put_two g.W.Write.write_str_gives _ _ _ _ _ _ words
    (c.in_ok-write_str-2.ensures.writes words.plain (refl {a = true}))
    (sym (append-nil (c.args.self.now.words.now ++ codes "\"")))

pub returns-in_err-write_str-3-clause-writes : goal.returns-in_err-write_str-3-clause-writes
returns-in_err-write_str-3-clause-writes g c plain ok =
    absurd (not_both _ ok c.from_residual-in_err-write_str-3.ensures.0)

pub loop-byte-preserved : goal.loop-byte-preserved
loop-byte-preserved g c plain =
    let before = c.loop-byte.invariant plain in
    let x = c.in-Some.bytes.now in
    let i = c.loop-byte.byte-index in
    let front = c.args.self.now.words.now ++ codes "\"" in
    let shown = front ++ flat_map escape_of (take i x) in
    put_two g.W.Write.write_str_gives _ _ _ shown c.as_str.result.now _ before
    (c.in_ok-write_str-3.ensures.writes before.plain (refl {a = true}))
    (ap (λ t. shown ++ t) (c.as_str.ensures.value ∙ c.escape.ensures.shown)
    ∙ flat_map_more escape_of front (take i x) (get_or x i 0)
    ∙ ap (λ t. front ++ flat_map escape_of t) (sym (take_more x i 0 c.loop-byte-test.true)))

pub returns-clause-writes : goal.returns-clause-writes
returns-clause-writes g c plain ok =
    let before = c.loop-byte.invariant plain in
    put_two g.W.Write.write_str_gives _ _ _ _ _ _ before (c.write_str-3.ensures.writes before.plain ok)
    (printed_whole c.args.self.now c.in-Some.bytes c.loop-byte.byte-index c.in-Some.is c.loop-byte-test.false)
