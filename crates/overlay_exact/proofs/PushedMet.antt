-- A meeting point pushed onto the program's list, and the tests after which none is.
use Rattle.std.proofs.Common.{◌≡◌, ◌≢◌, false, ℤ, List, [], ◌∷◌, ◌++◌, ap, refl, sym, subst, ◌∙◌}
use Rattle.std.proofs.Common.{inl, inr, pos, ◌*ℤ◌}
use Rattle.std.proofs.lemmas.Bool.{false≢true}
use Rattle.std.proofs.lemmas.Int.{by_lt_z}
use Rattle.std.proofs.lemmas.List.{map-append}
use Rattle.overlay_geom.specs.Plane.{Point, PlanePoint, Edge, in_plane, point_lt}
use Rattle.overlay_geom.specs.Resolved.{IsPlaced}
use Rattle.overlay_geom.specs.declared.edge_pair.Place.{Place}
use Rattle.overlay_geom.specs.declared.edge_pair.Place.TheVariants.{Along, Beside, Across}
use Rattle.overlay_geom.specs.Placed.{IsAcross}
use Rattle.overlay_geom.proofs.Identities.{solve, number, ◌⊗◌, ◌≗◌}
use Rattle.overlay_geom.proofs.Meeting.{across_not_along}
use Rattle.overlay_geom.proofs.PointOrder.{IsBefore, IsUpTo, Decides-point_lt, by_order}
use Rattle.overlay_geom.proofs.Signs.{linear}
use Rattle.overlay_plane.specs.Meetings.{IsMeetingPoint}
use Rattle.overlay_plane.specs.Rounds.{IsSmaller}
use Rattle.overlay_plane.proofs.Placements.{beside_have_no_common}
use Rattle.overlay_exact.specs.Along.{plain_met, plain_mets}
use Rattle.overlay_exact.specs.declared.met.MetAlong.{MetAlong}

-- the whole numbers of the longer list
pub pushed : {W : Type 0} {w : _} (whole : W → ℤ) (old new : List (MetAlong W w)) (m : MetAlong W w) →
    new ≡ old ++ m ∷ [] → plain_mets whole new ≡ plain_mets whole old ++ plain_met whole m ∷ []
pushed whole old new m is = ap (plain_mets whole) is ∙ map-append (plain_met whole) old (m ∷ [])

-- ---- no meeting point

-- of edges of which f goes across e's line, but e not across f's
pub none_unless_across : (e f : Edge) → IsBefore e.a e.b → IsBefore f.a f.b → IsAcross e f → (place : Place) →
    place ≢ Across → IsPlaced place f e → (p : PlanePoint) → IsMeetingPoint e f p → ⊥
none_unless_across e f e_before f_before forth Along n placed p meeting = across_not_along e f f_before forth placed
none_unless_across e f e_before f_before forth Beside n placed p meeting = beside_have_no_common f e p e_before placed
    (meeting.common.1, meeting.common.0)
none_unless_across e f e_before f_before forth Across n placed p meeting = absurd (n refl)

-- of an edge and another beside it
pub none_beside : (e f : Edge) → IsBefore f.a f.b → (place : Place) → place ≡ Beside → IsPlaced place e f →
    (p : PlanePoint) → IsMeetingPoint e f p → ⊥
none_beside e f f_before place is placed p meeting =
    beside_have_no_common e f p f_before (subst (λ q. IsPlaced q e f) is placed) meeting.common

-- ---- tests

-- a point that the other is not before
pub up_to_from_test : (v w : Point) → point_lt w v ≡ false → IsUpTo v w
up_to_from_test v w test = by_order v w (λ up. up)
    (λ before. absurd (false≢true (sym test ∙ (Decides-point_lt w v).1 before)))

-- points before each other are so in the plane
pub smaller_in_plane : (v w : Point) → IsBefore v w → IsSmaller (in_plane v) (in_plane w)
smaller_in_plane v w before =
    let vx = over_one v.x in
    let vy = over_one v.y in
    let wx = over_one w.x in
    let wy = over_one w.y in
    by_lt_z v.x w.x (λ lt. inl (omega linear))
    (λ ge. inr (let le = before.x in omega linear, let up = before.y ge in omega linear))
  where
    over_one : (z : ℤ) → z *ℤ pos 1 ≡ z
    over_one = solve 1 (λ z. z ⊗ number (pos 1) ≗ z) tt
