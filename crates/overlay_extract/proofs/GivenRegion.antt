-- Steps that wind as asked off the edges of an arrangement wind as asked of the given edges, far from these.
use Rattle.std.proofs.Common.{◌≡◌, List}
use Rattle.std.specs.Prelude.{Result, Ok, Err, IfOk}
use Rattle.overlay_geom.specs.Edges.{CountedEdge}
use Rattle.overlay_geom.specs.Plane.{Step}
use Rattle.overlay_geom.specs.declared.solver.Solver.{Solver}
use Rattle.overlay_plane.proofs.FarPoints.{far_points_wind_as_wanted}
use Rattle.overlay_graph.specs.Arranged.{IsArranged}
use Rattle.overlay_extract.specs.GivenRegion.{WindsRoundGiven}
use Rattle.overlay_extract.specs.Results.{Asked, WindsRoundRegion, region_asked, filled_asked}

pub winds_round_given : (q : Asked) (solver : Solver) (given es : List CountedEdge) (steps : List Step) →
    IsArranged solver given es → (q.min_output_area ≡ 0 → WindsRoundRegion q es steps) →
    WindsRoundGiven q solver given es steps
winds_round_given q solver given es steps arranged winds = record {
  arranged = arranged;
  winds = λ zero. far_points_wind_as_wanted (region_asked q) (filled_asked q) arranged.moving given es steps
      arranged.far (winds zero);
}
