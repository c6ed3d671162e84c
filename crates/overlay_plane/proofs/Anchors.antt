-- Each contour has an anchor, which leads forward.
use Rattle.std.proofs.Common.{◌≡◌, true, List, Contains, ap, sym, ◌∙◌}
use Rattle.overlay_geom.specs.Plane.{Step, Edge, point_lt, edge_of}
use Rattle.overlay_plane.specs.Turn.{step_round, no_step}
use Rattle.overlay_plane.specs.Contours.{IsContour}
use Rattle.overlay_plane.specs.Anchors.{IsAnchor, AnchorsExist}
use Rattle.overlay_plane.proofs.Entries.{Contains-from_map}
use Rattle.overlay_plane.proofs.ItemsRound.{Contains-item_round}
use Rattle.overlay_plane.proofs.LongSteps.{long_leads_forward, anchor_exists}
use Rattle.overlay_plane.proofs.ContourSteps.{contour_long, some_step}

-- a contour has an anchor
pub anchors_exist : AnchorsExist
anchors_exist walk contour = anchor_exists walk (contour_long walk contour) (step_round walk 0)
    (Contains-item_round walk no_step 0 (some_step walk contour))

-- a step of the walk goes along its anchor
pub anchor_step : (walk : List Step) (e : Edge) → IsAnchor walk e → (s : Step) × Contains walk s × (edge_of s ≡ e)
anchor_step walk e anchor = Contains-from_map edge_of walk e anchor.among

-- the anchor of a contour leads forward
pub anchor_forward : (walk : List Step) → IsContour walk → (e : Edge) → IsAnchor walk e → point_lt e.a e.b ≡ true
anchor_forward walk contour e anchor =
    let own = anchor_step walk e anchor in
    sym (ap (λ f. point_lt f.a f.b) own.2) ∙ long_leads_forward own.0 (contour_long walk contour own.0 own.1)
