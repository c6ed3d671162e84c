-- Positions of two edges relative to each other: collinear, beside, or across each other; and the computed meeting
-- points in each case.
use Rattle.std.proofs.Common.{◌≡◌, ◌⊎◌, inl, inr, cond, ◌||◌, pos, List, [], ◌∷◌, filter, ◌∙◌}
use Rattle.std.specs.Bool.{Decides}
use Rattle.std.proofs.lemmas.Int.{by_lt_z}
use Rattle.std.proofs.lemmas.Bool.{cond-true, cond-false, false_from_ne_true}
use Rattle.std.proofs.lemmas.Bool.Decides.{Decides-and, Decides-or}
use Rattle.overlay_geom.specs.Plane.{Point, PlanePoint, Edge, IsEnd, IsAt, cross_at}
use Rattle.overlay_geom.specs.Settled.{IsCommon}
use Rattle.overlay_geom.specs.Placed.{IsAlong, IsBeside, IsAcross}
use Rattle.overlay_geom.proofs.Comparisons.{Decides-int_lt}
use Rattle.overlay_geom.proofs.Signs.{linear, by_sign, zero_of_mul-zero}
use Rattle.overlay_geom.proofs.PointOrder.{IsBefore}
use Rattle.overlay_geom.proofs.Beside.{beside_meet_in_ends}
use Rattle.overlay_geom.proofs.Crossing.{crossed_back}
use Rattle.overlay_plane.specs.CutPoints.{are_along, are_beside, is_between, crossing, met_at}
use Rattle.overlay_plane.proofs.WholeOnEdges.{by_test, side_at}
use Rattle.overlay_plane.proofs.CommonPoints.{Decides-are_along}

-- the edges lie neither along one line nor beside each other
pub record AreCrossing (e f : Edge) : Type 0 where
  pub apart : ¬ (IsAlong e f)
  pub not_beside : ¬ (IsBeside e f)
  pub not_back : ¬ (IsBeside f e)

-- the test tells whether f lies on one side of e's line
pub Decides-are_beside : (e f : Edge) → Decides (are_beside e f) (IsBeside e f)
Decides-are_beside e f =
    let a = cross_at e.a e.b f.a in
    let b = cross_at e.a e.b f.b in
    Decides-or _ _ (Decides-and _ _ (Decides-int_lt (pos 0) a) (Decides-int_lt (pos 0) b))
    (Decides-and _ _ (Decides-int_lt a (pos 0)) (Decides-int_lt b (pos 0)))

-- any two edges lie along one line, or one beside the other, or across each other
pub by_placement : {P : Type 0} (e f : Edge) → (IsAlong e f → P) →
    (¬ (IsAlong e f) → IsBeside e f ⊎ IsBeside f e → P) → (AreCrossing e f → P) → P
by_placement e f along beside across =
    by_test (are_along e f) (Decides-are_along e f) along
    (λ apart. by_test (are_beside e f) (Decides-are_beside e f) (λ one. beside apart (inl one))
    (λ none. by_test (are_beside f e) (Decides-are_beside f e) (λ other. beside apart (inr other))
    (λ no_other. across (record { apart = apart; not_beside = none; not_back = no_other }))))

-- ---- results of the computation

-- f's ends that lie between those of e
abbrev pub ends_between : Edge → Edge → List Point
ends_between e f = filter (is_between e) (f.a ∷ f.b ∷ [])

-- edges along one line: the ends of f on e
pub met_along : (e f : Edge) → IsAlong e f → met_at e f ≡ ends_between e f
met_along e f along =
    cond-true (are_along e f) (ends_between e f) (cond (are_beside e f || are_beside f e) [] (crossing e f ∷ []))
    ((Decides-are_along e f).1 along)

-- other edges: nothing where one lies beside the other, and else where they cross
met_apart : (e f : Edge) → ¬ (IsAlong e f) → met_at e f ≡ cond (are_beside e f || are_beside f e) [] (crossing e f ∷ [])
met_apart e f apart =
    cond-false (are_along e f) (ends_between e f) (cond (are_beside e f || are_beside f e) [] (crossing e f ∷ []))
    (false_from_ne_true (are_along e f) (λ t. apart ((Decides-are_along e f).0 t)))

-- the test tells whether one lies beside the other
Decides-either_beside : (e f : Edge) → Decides (are_beside e f || are_beside f e) (IsBeside e f ⊎ IsBeside f e)
Decides-either_beside e f = Decides-or _ _ (Decides-are_beside e f) (Decides-are_beside f e)

-- an edge beside the other: nothing
pub met_beside : (e f : Edge) → ¬ (IsAlong e f) → IsBeside e f ⊎ IsBeside f e → met_at e f ≡ []
met_beside e f apart beside =
    met_apart e f apart ∙ cond-true (are_beside e f || are_beside f e) [] (crossing e f ∷ [])
    ((Decides-either_beside e f).1 beside)

-- edges across each other: the point nearest where they cross
pub met_across : (e f : Edge) → AreCrossing e f → met_at e f ≡ crossing e f ∷ []
met_across e f c =
    met_apart e f c.apart ∙ cond-false (are_beside e f || are_beside f e) [] (crossing e f ∷ [])
    (false_from_ne_true (are_beside e f || are_beside f e) (λ t. neither ((Decides-either_beside e f).0 t)))
  where
    neither : IsBeside e f ⊎ IsBeside f e → ⊥
    neither (inl one) = c.not_beside one
    neither (inr other) = c.not_back other

-- ---- beside

-- an edge strictly on one side of another edge's line has no point in common with it
pub beside_have_no_common : (e f : Edge) (p : PlanePoint) → IsBefore f.a f.b → IsBeside e f → ¬ (IsCommon e f p)
beside_have_no_common e f p forward beside common = by (beside_meet_in_ends e f forward beside p common).1
  where
    level : (v : Point) → IsAt v p → cross_at e.a e.b v ≡ pos 0
    level v at = zero_of_mul-zero p.d (cross_at e.a e.b v) p.positive (let is = side_at e v p at in
        let zero = common.0.on_line in omega linear)

    start_off : cross_at e.a e.b f.a ≡ pos 0 → IsBeside e f → ⊥
    start_off zero (inl (left, too)) = omega linear
    start_off zero (inr (right, too)) = omega linear

    end_off : cross_at e.a e.b f.b ≡ pos 0 → IsBeside e f → ⊥
    end_off zero (inl (too, left)) = omega linear
    end_off zero (inr (too, right)) = omega linear

    by : IsEnd f p → ⊥
    by (inl at) = start_off (level f.a at) beside
    by (inr at) = end_off (level f.b at) beside

-- ---- across

-- f goes across e's line where its ends are neither both on the line nor on one side of it
pub across_of_rest : (e f : Edge) → ¬ (IsAlong e f) → ¬ (IsBeside e f) → IsAcross e f
across_of_rest e f apart not_beside =
    by_sign (cross_at e.a e.b f.a)
    (λ right. by_lt_z (cross_at e.a e.b f.b) (pos 0) (λ too. absurd (not_beside (inr (right, too))))
    (λ ge. inl (omega linear, ge, omega linear)))
    (λ level. by_sign (cross_at e.a e.b f.b)
    (λ right. inr (omega linear, omega linear, omega linear)) (λ too. absurd (apart (level, too)))
    (λ left. inl (omega linear, omega linear, omega linear)))
    (λ left. by_lt_z (pos 0) (cross_at e.a e.b f.b) (λ too. absurd (not_beside (inl (left, too))))
    (λ le. inr (le, omega linear, omega linear)))

-- where f goes across e's line, e does not lie along f's
pub not_along_back : (e f : Edge) → IsAcross e f → ¬ (IsAlong f e)
not_along_back e f across (at_a, at_b) = by across
  where
    by : IsAcross e f → ⊥
    by (inl (low, high, less)) = let same = crossed_back e f in omega linear
    by (inr (high, low, less)) = let same = crossed_back e f in omega linear

-- two edges across each other each go across the other's line
pub both_across : (e f : Edge) → AreCrossing e f → IsAcross e f × IsAcross f e
both_across e f c = let across = across_of_rest e f c.apart c.not_beside in
    (across, across_of_rest f e (not_along_back e f across) c.not_back)
