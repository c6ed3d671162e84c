-- An answer has room, and is written, or it has not, and the counts alone are told.
use Rattle.std.proofs.Common.{◌≡◌, refl, sym, ◌∙◌}
use Rattle.polyover_calls.specs.Put.{IsPutSo}
use Rattle.polyover_calls.specs.declared.status.Status.{Status}
use Rattle.polyover_calls.specs.declared.status.Status.TheVariants.{Done, Memory, BadEnds, OutOfRange}
use Rattle.polyover_calls.specs.declared.status.Status.TheVariants.{NotResolved, BadRule, BadFill, BadOption}
use Rattle.polyover_calls.specs.declared.status.Status.TheVariants.{NotSettled, TooManyEdges, TooSmall}

module _ {R : Type 0} (has_room : Type 0) (written counted new newer : R) where
  pub one_put : (s t : Status) → IsPutSo has_room written counted new s → IsPutSo has_room written counted newer t →
      (s ≡ t) × (new ≡ newer)
  one_put Done Done a b = (refl, a.1 ∙ sym b.1)
  one_put Done Memory a b = absurd b
  one_put Done BadEnds a b = absurd b
  one_put Done OutOfRange a b = absurd b
  one_put Done NotResolved a b = absurd b
  one_put Done BadRule a b = absurd b
  one_put Done BadFill a b = absurd b
  one_put Done BadOption a b = absurd b
  one_put Done NotSettled a b = absurd b
  one_put Done TooManyEdges a b = absurd b
  one_put Done TooSmall a b = absurd (b.0 a.0)
  one_put Memory t a b = absurd a
  one_put BadEnds t a b = absurd a
  one_put OutOfRange t a b = absurd a
  one_put NotResolved t a b = absurd a
  one_put BadRule t a b = absurd a
  one_put BadFill t a b = absurd a
  one_put BadOption t a b = absurd a
  one_put NotSettled t a b = absurd a
  one_put TooManyEdges t a b = absurd a
  one_put TooSmall Done a b = absurd (a.0 b.0)
  one_put TooSmall Memory a b = absurd b
  one_put TooSmall BadEnds a b = absurd b
  one_put TooSmall OutOfRange a b = absurd b
  one_put TooSmall NotResolved a b = absurd b
  one_put TooSmall BadRule a b = absurd b
  one_put TooSmall BadFill a b = absurd b
  one_put TooSmall BadOption a b = absurd b
  one_put TooSmall NotSettled a b = absurd b
  one_put TooSmall TooManyEdges a b = absurd b
  one_put TooSmall TooSmall a b = (refl, a.1 ∙ sym b.1)
