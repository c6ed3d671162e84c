-- Snap rounding brings a content to one arrangement.
use Rattle.std.proofs.Common.{Ok, Err, ap₂, sym, ◌∙◌}
use Rattle.std.proofs.lemmas.Bool.{false≢true}
use Rattle.overlay_geom.specs.Edges.{CountedEdge}
use Rattle.overlay_plane.proofs.OneArrangement.{one_snapped_arrangement}
use Rattle.overlay_arrange.proofs.ArrangedLists.{forward_content}
use Rattle.i_overlay.specs.Determined.{OneQuery}
use Rattle.overlay_builder.specs.Held.{Held}

pub one_query : OneQuery
one_query limit old new newer (Ok v) (Ok w) a b ok ok' = ap₂ {C = Held CountedEdge}
    (λ es f. record { edges = es; failed = f })
    (one_snapped_arrangement a.arranged.rounds b.arranged.rounds old.edges new.edges newer.edges
    (forward_content limit old.edges a.before) a.arranged.reached b.arranged.reached)
    (a.stays_usable ∙ sym b.stays_usable)
one_query limit old new newer (Ok v) (Err e) a b ok ok' = absurd (false≢true ok')
one_query limit old new newer (Err e) other a b ok ok' = absurd (false≢true ok)
