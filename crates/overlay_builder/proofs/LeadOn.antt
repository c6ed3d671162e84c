-- The edges that paths add lead from their smaller ends to their larger ones.
use Rattle.std.proofs.Common.{◌≡◌, Bool, true, false, List, [], ◌∷◌, ◌++◌, map, subst, sym}
use Rattle.std.specs.List.{All}
use Rattle.std.proofs.lemmas.List.Elements.{All-nil, All-cons, All-append, All-map, All-weaker, All-head, All-tail}
use Rattle.overlay_geom.specs.Edges.{CountedEdge, ends_of}
use Rattle.overlay_geom.specs.Plane.{Point, Step, point_lt}
use Rattle.overlay_plane.specs.EdgeLists.{IsForwardBy}
use Rattle.overlay_plane.proofs.LinksKept.{IsLong}
use Rattle.overlay_plane.proofs.NearChains.{long_forward}
use Rattle.overlay_plane.proofs.StepsAlong.{long_through}
use Rattle.overlay_builder.specs.GivenPaths.{GivenPath, added_path, added_paths}
use Rattle.overlay_builder.specs.PathLists.{AddedPath, AddsPaths}
use Rattle.overlay_builder.specs.PathLists.AddsPaths.{no_path, path_and_others}
use Rattle.overlay_builder.specs.Paths.{leads_back, path_steps_of}

-- the edge leads from its smaller end to its larger one
abbrev leads_on : CountedEdge → Type 0
leads_on e = point_lt e.a e.b ≡ true

long_steps : (is_closed : Bool) (ps : List Point) → All IsLong (path_steps_of is_closed ps)
long_steps true [] = All-nil IsLong
long_steps true (p ∷ ps) = long_through p (ps ++ p ∷ [])
long_steps false [] = All-nil IsLong
long_steps false (p ∷ ps) = long_through p ps

-- ---- paths

-- the edge of each step of the path leads on
pub record HasForwardEdges (p : AddedPath CountedEdge) : Type 0 where
  pub leads : (s : Step) → IsLong s → leads_on (p.edge_for s)

-- what such paths add leads on
pub paths_lead_on : (paths : List (AddedPath CountedEdge)) (from to : List CountedEdge) → All HasForwardEdges paths →
    AddsPaths paths from to → IsForwardBy ends_of from → IsForwardBy ends_of to
paths_lead_on [] from to lead no_path before = before
paths_lead_on (p ∷ ps) from to lead (path_and_others {mid = mid} first h) before =
    paths_lead_on ps mid to (All-tail HasForwardEdges p ps lead) h (subst (IsForwardBy ends_of) (sym first.content)
    (All-append leads_on from (map p.edge_for steps) before
    (All-map leads_on p.edge_for steps
    (All-weaker IsLong (λ s. leads_on (p.edge_for s)) (All-head HasForwardEdges p ps lead).leads steps
    (long_steps (leads_back p.kind) first.taken)))))
  where
    steps : List Step
    steps = path_steps_of (leads_back p.kind) first.taken

-- contours are such paths
contours_lead : (keep : Bool) (paths : List GivenPath) → All HasForwardEdges (added_paths keep paths)
contours_lead keep [] = All-nil HasForwardEdges
contours_lead keep (p ∷ ps) = All-cons HasForwardEdges (added_path keep p) (added_paths keep ps)
    (record { leads = λ s long. long_forward s long }) (contours_lead keep ps)

-- what contours give leads forward
pub contours_lead_on : (keep : Bool) (paths : List GivenPath) (content : List CountedEdge) →
    AddsPaths (added_paths keep paths) [] content → IsForwardBy ends_of content
contours_lead_on keep paths content added =
    paths_lead_on (added_paths keep paths) [] content (contours_lead keep paths) added (All-nil leads_on)
