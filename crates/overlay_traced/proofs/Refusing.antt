-- Why an arrangement is refused.
use Rattle.std.proofs.Common.{◌≡◌, ◌⊎◌, ◌^◌, ◌≤◌, List, inl, inr, sym, subst}
use Rattle.overlay_geom.specs.Edges.{CountedEdge, weight}
use Rattle.overlay_geom.specs.declared.error.OverlayError.{OverlayError}
use Rattle.overlay_geom.specs.declared.error.OverlayError.TheVariants.{Memory, NotSettled, TooManyEdges, Failed}
use Rattle.overlay_geom.specs.declared.solver.Solver.{Solver}
use Rattle.overlay_graph.specs.Arranged.{MayRefuseSplitting}
use Rattle.overlay_traced.specs.Traced.{MayRefuseWanted}

-- the edges cannot be split
pub splitting_refused : (solver : Solver) (es : List CountedEdge) (e : OverlayError) →
    MayRefuseSplitting solver es e → MayRefuseWanted solver es e
splitting_refused solver es Memory is = is
splitting_refused solver es NotSettled is = is
splitting_refused solver es TooManyEdges is = inr is
splitting_refused solver es Failed is = is

-- they cannot be added
pub adding_refused : (solver : Solver) (es : List CountedEdge) (e : OverlayError) →
    (e ≡ Memory) ⊎ ((e ≡ TooManyEdges) × (2 ^ 31 ≤ weight es)) → MayRefuseWanted solver es e
adding_refused solver es e (inl is) = subst (MayRefuseWanted solver es) (sym is) tt
adding_refused solver es e (inr is) = subst (MayRefuseWanted solver es) (sym is.0) (inl is.1)
