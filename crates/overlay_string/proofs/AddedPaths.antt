-- What paths that are added to a builder for strings leave of it.
use Rattle.std.proofs.Common.{◌≡◌, ap}
use Rattle.overlay_plane.specs.Carried.{Carried, edges_in}
use Rattle.overlay_geom.specs.declared.options.IntOverlayOptions.{IntOverlayOptions}
use Rattle.overlay_order.specs.declared.string_count.ShapeCountString.{ShapeCountString}
use Rattle.overlay_builder.specs.Held.{Held}
use Rattle.overlay_string.specs.StringBuilder.{StringBuilder}

-- a builder with these options, as its core is seen
abbrev pub seen_with : {U : Type 0} → IntOverlayOptions U → Held (Carried ShapeCountString) → StringBuilder U
seen_with options h = record { options = options; edges = edges_in h.edges; failed = h.failed }

-- a builder of which nothing but the edges is new
pub only_edges_new : {U : Type 0} (options : IntOverlayOptions U) (old new : Held (Carried ShapeCountString))
    → new.failed ≡ old.failed
    → seen_with options new ≡ record (seen_with options old) { edges = edges_in new.edges }
only_edges_new {U = U} options old new kept =
    ap {B = StringBuilder U} (λ f. record { options = options; edges = edges_in new.edges; failed = f }) kept
