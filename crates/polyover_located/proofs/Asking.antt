-- How asking ends, and why it is refused.
use Rattle.std.proofs.Common.{◌≡◌, ◌≢◌, ◌<◌, ◌≤◌, ◌%◌, ◌/◌, ℕ, ℤ, List, length, inl, inr, refl, sym, ◌∙◌, arith}
use Rattle.polyover_calls.proofs.PointCounts.{points_counted}
use Rattle.polyover_calls.specs.Prepared.{HaveRoom, IsAskingRefused}
use Rattle.polyover_calls.specs.Reading.{ArePoints, AreWithin}
use Rattle.polyover_calls.specs.declared.status.Status.{Status}
use Rattle.polyover_calls.specs.declared.status.Status.TheVariants.{Done, BadEnds, OutOfRange, TooSmall}
use Rattle.polyover_located.specs.Asked.{AreLocatedIn, ExactAskingEnds}
use Rattle.polyover_located.specs.Held.{ExactParts, shape_of}

module _ {I : Type 0} (whole : I → ℤ) (limit : ℕ) (points : List I) (room : List ℕ) where
  pub odd_count : length points % 2 ≢ 0 → IsAskingRefused whole limit points room BadEnds
  odd_count odd = inl (refl, odd)

  pub out_of_range : length points % 2 ≡ 0 → ¬ (AreWithin whole limit points) →
      IsAskingRefused whole limit points room OutOfRange
  out_of_range even far = inr (inl (refl, (even, far)))

  pub no_room : length points % 2 ≡ 0 → AreWithin whole limit points → length room < length points / 2 →
      IsAskingRefused whole limit points room TooSmall
  no_room even within short = inr (inr (
    refl,
    (
      record { even = even; within = within },
      λ has. let counted = points_counted points in omega (arith, short, has, counted),
    ),
  ))

  pub has_room : length points / 2 ≤ length room → HaveRoom points room
  has_room has = let counted = points_counted points in omega (arith, has, counted)

  -- ---- how it ends

  pub asked_ends : (p : ExactParts) (new : List ℕ) → ArePoints whole limit points → HaveRoom points room →
      AreLocatedIn whole (shape_of p) points room new → ExactAskingEnds whole limit p points room new Done
  asked_ends p new are has located = inl (refl, (are, (has, located)))

  pub unasked_ends : (p : ExactParts) (s : Status) → IsAskingRefused whole limit points room s →
      ExactAskingEnds whole limit p points room room s
  unasked_ends p s refused = inr (refl, refused)

  -- ---- one status

  -- points that are told of are not refused
  pub told_or_refused : (s : Status) → ArePoints whole limit points → HaveRoom points room →
      ¬ (IsAskingRefused whole limit points room s)
  told_or_refused s are has (inl odd) = odd.1 are.even
  told_or_refused s are has (inr (inl far)) = far.1.1 are.within
  told_or_refused s are has (inr (inr short)) = short.1.1 has

  pub one_refusal : (s t : Status) → IsAskingRefused whole limit points room s →
      IsAskingRefused whole limit points room t → s ≡ t
  one_refusal s t (inl a) (inl b) = a.0 ∙ sym b.0
  one_refusal s t (inl a) (inr (inl b)) = absurd (a.1 b.1.0)
  one_refusal s t (inl a) (inr (inr b)) = absurd (a.1 b.1.0.even)
  one_refusal s t (inr (inl a)) (inl b) = absurd (b.1 a.1.0)
  one_refusal s t (inr (inl a)) (inr (inl b)) = a.0 ∙ sym b.0
  one_refusal s t (inr (inl a)) (inr (inr b)) = absurd (a.1.1 b.1.0.within)
  one_refusal s t (inr (inr a)) (inl b) = absurd (b.1 a.1.0.even)
  one_refusal s t (inr (inr a)) (inr (inl b)) = absurd (b.1.1 a.1.0.within)
  one_refusal s t (inr (inr a)) (inr (inr b)) = a.0 ∙ sym b.0
