-- By snap rounding there is one arrangement of a shape and strings.
use Rattle.std.proofs.Common.{◌≡◌, true, List, [], ◌∷◌}
use Rattle.std.specs.List.{All}
use Rattle.std.proofs.lemmas.List.Elements.{All-nil, All-cons, All-append}
use Rattle.overlay_geom.specs.Edges.{CountedEdge}
use Rattle.overlay_geom.specs.Plane.{Point, point_lt}
use Rattle.overlay_geom.specs.declared.solver.Solver.TheVariants.{Snapping}
use Rattle.overlay_graph.specs.Arranged.{IsArranged}
use Rattle.overlay_plane.proofs.NearChains.{long_forward}
use Rattle.overlay_plane.proofs.OneArrangement.{one_arrangement_of_shuffled}
use Rattle.overlay_builder.specs.PathLists.{HoldsPaths}
use Rattle.overlay_builder.proofs.LeadOn.{HasForwardEdges, paths_lead_on}
use Rattle.overlay_builder.proofs.ShuffledContents.{contents_are_shuffled}
use Rattle.overlay_string.specs.OneShot.{shape_and_strings}
use Rattle.overlay_string.specs.StringPaths.{shape_contour, shape_contours, open_string, open_strings}

-- the edges of contours and of strings lead forward
contours_lead : (shape : List (List Point)) → All HasForwardEdges (shape_contours shape)
contours_lead [] = All-nil HasForwardEdges
contours_lead (ps ∷ shape) = All-cons HasForwardEdges (shape_contour ps) (shape_contours shape)
    (record { leads = λ s long. long_forward s long }) (contours_lead shape)

strings_lead : (strings : List (List Point)) → All HasForwardEdges (open_strings strings)
strings_lead [] = All-nil HasForwardEdges
strings_lead (ps ∷ strings) = All-cons HasForwardEdges (open_string ps) (open_strings strings)
    (record { leads = λ s long. long_forward s long }) (strings_lead strings)

pub one_arrangement_of_strings : (shape strings : List (List Point)) (content other es fs : List CountedEdge) →
    HoldsPaths (shape_and_strings shape strings) content → HoldsPaths (shape_and_strings shape strings) other →
    IsArranged Snapping content es → IsArranged Snapping other fs → es ≡ fs
one_arrangement_of_strings shape strings content other es fs holds holds' arranged arranged' =
    one_arrangement_of_shuffled arranged.rounds arranged'.rounds content other es fs
    (paths_lead_on (shape_and_strings shape strings) [] content
    (All-append HasForwardEdges (shape_contours shape) (open_strings strings) (contours_lead shape)
    (strings_lead strings)) holds.added (All-nil (λ e. point_lt e.a e.b ≡ true)))
    (contents_are_shuffled (shape_and_strings shape strings) [] content other holds.added holds'.added)
    arranged.reached arranged'.reached
