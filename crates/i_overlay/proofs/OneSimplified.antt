-- One thing becomes of a contour, and of what has to be cut an overlay gives one result.
use Rattle.std.proofs.Common.{◌≡◌, ℕ, zero, suc, Bool, List, [], ◌∷◌, refl, sym, subst, ◌∙◌, arith}
use Rattle.overlay_geom.specs.Plane.{Point}
use Rattle.overlay_geom.specs.Edges.{CountedEdge}
use Rattle.overlay_extract.specs.Determined.{AreArrangedWithBalance}
use Rattle.overlay_extract.specs.Results.{Asked}
use Rattle.overlay_extract.proofs.OneOverlay.{one_result, one_list_of_contours}
use Rattle.i_overlay.specs.declared.simplifying.outcome.Outcome.{Outcome}
use Rattle.i_overlay.specs.declared.simplifying.outcome.Outcome.TheVariants.{NotSimple, Empty, AsGiven, Reversed}
use Rattle.i_overlay.proofs.OneOutcome.{outcomes_are_one}
use Rattle.i_overlay.specs.Determined.{OneSimplified, OneSimplifiedList}
use Rattle.i_overlay.specs.Simplified.{IsLeft, IsSimplifiedContour, IsSimplified, IsSimplifiedSource}
use Rattle.i_overlay.specs.Simplified.{AreLeft, AreOfContour, AreSimplified}

module _ (q : Asked) (keep : Bool) (es : List CountedEdge) (are : AreArrangedWithBalance es) where
  -- ---- shapes

  module _ (first second : List (List (List Point))) where
    -- what is left of a contour that becomes this
    left_alike : (outcome : Outcome) (ps : List Point) → IsLeft outcome q ps es first →
        IsLeft outcome q ps es second → first ≡ second
    left_alike NotSimple ps a b = one_result q es are first second a b
    left_alike Empty ps a b = a ∙ sym b
    left_alike AsGiven ps a b = a ∙ sym b
    left_alike Reversed ps a b = a ∙ sym b

    contour_alike : (ps : List Point) → IsSimplifiedContour q keep ps es first →
        IsSimplifiedContour q keep ps es second → first ≡ second
    contour_alike ps a b = left_alike a.outcome ps a.left (subst (λ o. IsLeft o q ps es second)
        (outcomes_are_one keep q.fill q.output_direction ps es b.outcome a.outcome b.becomes a.becomes) b.left)

    paths_alike : (paths : List (List Point)) → IsSimplified q keep paths es first →
        IsSimplified q keep paths es second → first ≡ second
    paths_alike [] a b = one_result q es are first second a b
    paths_alike (ps ∷ []) a b = contour_alike ps a b
    paths_alike (ps ∷ qs ∷ paths) a b = one_result q es are first second a b

    source_alike : (paths : List (List Point)) → IsSimplifiedSource q keep paths es first →
        IsSimplifiedSource q keep paths es second → first ≡ second
    source_alike paths a b = by q.min_output_area refl
      where
        by : (n : ℕ) → q.min_output_area ≡ n → first ≡ second
        by zero none = paths_alike paths (a.without_minimum none) (b.without_minimum none)
        by (suc n) some = one_result q es are first second
            (a.with_minimum (λ none. omega (arith, some, none))) (b.with_minimum (λ none. omega (arith, some, none)))

  -- ---- contours in one list

  module _ (first second : List (List Point)) where
    list_left_alike : (outcome : Outcome) (ps : List Point) → AreLeft outcome q ps es first →
        AreLeft outcome q ps es second → first ≡ second
    list_left_alike NotSimple ps a b = one_list_of_contours q es are first second a b
    list_left_alike Empty ps a b = a ∙ sym b
    list_left_alike AsGiven ps a b = a ∙ sym b
    list_left_alike Reversed ps a b = a ∙ sym b

    list_of_contour_alike : (ps : List Point) → AreOfContour q keep ps es first → AreOfContour q keep ps es second →
        first ≡ second
    list_of_contour_alike ps a b = list_left_alike a.outcome ps a.left (subst (λ o. AreLeft o q ps es second)
        (outcomes_are_one keep q.fill q.output_direction ps es b.outcome a.outcome b.becomes a.becomes) b.left)

    list_alike : (paths : List (List Point)) → AreSimplified q keep paths es first →
        AreSimplified q keep paths es second → first ≡ second
    list_alike [] a b = one_list_of_contours q es are first second a b
    list_alike (ps ∷ []) a b = list_of_contour_alike ps a b
    list_alike (ps ∷ qs ∷ paths) a b = one_list_of_contours q es are first second a b

-- ---- the laws

pub one_simplified : OneSimplified
one_simplified q keep paths es are first second a b = source_alike q keep es are first second paths a b

pub one_simplified_list : OneSimplifiedList
one_simplified_list q keep paths es are first second a b = list_alike q keep es are first second paths a b
