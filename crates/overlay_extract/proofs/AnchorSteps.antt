-- The lowest step of a loop passes its anchor, and tells where its filled side is there.
use Rattle.std.proofs.Common.{◌≡◌, Bool, true, false, cond, List, Contains, refl, sym, subst}
use Rattle.overlay_geom.specs.Plane.{Step, edge_of, is_forward}
use Rattle.overlay_plane.specs.Anchors.{IsAnchor}
use Rattle.overlay_plane.specs.SelectedSteps.{step_with_left}
use Rattle.overlay_extract.specs.Bound.{PassesAnchor}

-- a step leads along its edge, or back
along_own : (s : Step) → step_with_left (is_forward s) (edge_of s) ≡ s
along_own s = by (is_forward s) refl
  where
    by : (t : Bool) → is_forward s ≡ t → step_with_left t
        (cond t (record { a = s.from; b = s.to }) (record { a = s.to; b = s.from })) ≡ s
    by true e = refl
    by false e = refl

-- so the loop passes the anchor's edge with its left side above where its lowest step leads along the edge
pub lowest_passes : (loop : List Step) (s : Step) → Contains loop s → IsAnchor loop (edge_of s) →
    PassesAnchor (is_forward s) loop
lowest_passes loop s c anchor = record {
  anchor = edge_of s;
  is_anchor = anchor;
  passes = subst (Contains loop) (sym (along_own s)) c;
}
