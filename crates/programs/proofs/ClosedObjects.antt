-- An object whose bytes are judged, and the byte after it: what its rule says of both.
use Rattle.gix_validate.proofs.Common.{◌≡◌, ◌≢◌, ℕ, Bool, List, [], ◌∷◌, Option, Ok, Err, nat_lt}
use Rattle.gix_validate.proofs.Common.{length, take, arith, IfSome, IfSome_then, Consumes}
use Rattle.std.specs.Option.{OnSome}
use Rattle.std.specs.Io.KnownBytes.{IsAtEnd}
use Rattle.programs.specs.declared.outcome.Malformation.TheVariants.{Ended, LineEnd}
use Rattle.programs.specs.declared.outcome.Stop.TheVariants as halt
use Rattle.programs.specs.Headers.{ParsedObject}
use Rattle.programs.specs.Objects.{Judged, ObjectRule, closed, object_step}
use Rattle.programs.specs.Promises.{FollowsRule, body_step, judged_step}
use Rattle.programs.specs.Texts.{line_end}

module _ (cut : Bool) (judged : Judged) (rest : List ℕ) (mid new old after : Option (List ℕ))
    (refused : Bool)
    (gives : FollowsRule (judged_step cut judged rest) mid old after (Ok refused)) where
  ends : (b : ℕ) → b ≡ line_end → Consumes mid new (b ∷ [])
      → FollowsRule (closed judged rest) new old after (Ok refused)
  ends b is read = grind arith

  ends_otherwise : (b : ℕ) → b ≢ line_end → Consumes mid new (b ∷ [])
      → FollowsRule (closed judged rest) new old after (Err (halt.Malformed LineEnd))
  ends_otherwise b other read = grind arith

  ends_early : Consumes mid new [] → OnSome mid (IsAtEnd new)
      → FollowsRule (closed judged rest) new old after (Err (halt.Malformed Ended))
  ends_early read none = grind arith

module _ (rule : ObjectRule) (object : ParsedObject) (a mid new old after : Option (List ℕ))
    (refused : Bool)
    (gives : IfSome a (λ text.
    FollowsRule (body_step rule object text) mid old after (Ok refused))) where
  pub closes : (b : ℕ) → b ≡ line_end → Consumes mid new (b ∷ [])
      → IfSome a (λ text.
      FollowsRule (object_step rule object text) new old after (Ok refused))
  closes b is read = IfSome_then a gives (λ text said.
      ends _ (rule (nat_lt (length text) object.size) object (take object.size text)) _
      mid new old after refused said b is read)

  pub closes_otherwise : (b : ℕ) → b ≢ line_end → Consumes mid new (b ∷ [])
      → IfSome a (λ text.
      FollowsRule (object_step rule object text) new old after (Err (halt.Malformed LineEnd)))
  closes_otherwise b other read = IfSome_then a gives (λ text said.
      ends_otherwise _ (rule (nat_lt (length text) object.size) object (take object.size text)) _
      mid new old after refused said b other read)

  pub closes_early : Consumes mid new [] → OnSome mid (IsAtEnd new)
      → IfSome a (λ text.
      FollowsRule (object_step rule object text) new old after (Err (halt.Malformed Ended)))
  closes_early read none = IfSome_then a gives (λ text said.
      ends_early _ (rule (nat_lt (length text) object.size) object (take object.size text)) _
      mid new old after refused said read none)
