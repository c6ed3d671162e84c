-- An edge below an anchor is under the anchor's edge, just right of the point where that starts.
use Rattle.std.proofs.Common.{◌≡◌, ⊎_elim, Bool, true, false, ◌&&◌, ◌||◌, pos, ◌+ℤ◌, refl, arith}
use Rattle.std.proofs.lemmas.Int.{ints}
use Rattle.std.proofs.lemmas.Bool.{both_ways}
use Rattle.overlay_geom.specs.Plane.{edge_eq, point_eq, is_strictly_below, in_plane}
use Rattle.overlay_plane.specs.Heights.{covers, is_under}
use Rattle.overlay_plane.specs.Regions.{one_if}
use Rattle.overlay_plane.specs.Nodes.{turns_left}
use Rattle.overlay_plane.specs.Anchors.{BelowAnAnchorIsUnder}
use Rattle.overlay_plane.proofs.Under.{covers_wide}
use Rattle.overlay_plane.proofs.NodeStarts.{under_from_start}

-- a test that counts as much as two others passes where one of them does
one_of_two : (c s t : Bool) → one_if c ≡ one_if s +ℤ one_if t → (s || t) ≡ c
one_of_two true true t h = refl
one_of_two false false false h = refl
one_of_two true false true h = refl
one_of_two true false false h = absurd (omega (arith, ints))
one_of_two false false true h = absurd (omega (arith, ints))
one_of_two false true true h = absurd (omega (arith, ints))
one_of_two false true false h = absurd (omega (arith, ints))

-- below an anchor is under its edge
pub below_an_anchor_is_under : BelowAnAnchorIsUnder
below_an_anchor_is_under e f forward_e forward_f meets over =
    one_of_two (covers f e.a.x (pos 1) && is_under f e e.a.x (pos 1)) (is_strictly_below f (in_plane e.a))
    (point_eq f.a e.a && turns_left f e)
    (under_from_start e f forward_f (λ apart. ⊎_elim (λ same. absurd (both_ways (edge_eq e f) apart same))
    (λ meet. meet) meets)
    (covers_wide e e.a.x (pos 1) (record { lt = tt }) over))
