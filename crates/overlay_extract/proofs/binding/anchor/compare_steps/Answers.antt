-- The edges along which the steps lead are compared.
use Rattle.std.proofs.Common.{ℕ, ap₂, ◌∙◌}
use Rattle.overlay_plane.specs.Anchors.{is_anchored_before}
use Rattle.overlay_scan.specs.Scan.{Entry}
use Rattle.overlay_extract.proofs.binding.anchor.compare_steps.Goals as goal

pub returns : goal.returns
returns g c = c.compare_starts.ensures
    ∙ ap₂ (λ (x y : Entry ℕ). is_anchored_before x.edge y.edge) c.edge_along.ensures c.edge_along-2.ensures
