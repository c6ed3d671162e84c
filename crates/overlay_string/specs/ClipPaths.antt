-- The paths that pieces of strings are joined to. The pieces stand in the order of their edges, of one edge the piece
-- from its smaller end first.
use Rattle.std.specs.Prelude.{◌≡◌, ◌≢◌, true, false, List, [], ◌∷◌, ◌++◌, map, All}
use Rattle.overlay_geom.specs.Edges.{CountedEdge, ends_of}
use Rattle.overlay_geom.specs.Plane.{Point, Step, is_forward, reversed_step, backward}
use Rattle.overlay_geom.specs.declared.solver.Solver.{Solver}
use Rattle.overlay_geom.specs.declared.fill_rule.FillRule.{FillRule}
use Rattle.overlay_plane.specs.EdgeLists.{IsForwardBy}
use Rattle.overlay_graph.specs.Arranged.{IsArranged}
use Rattle.overlay_string.specs.ClipPieces.{clip_pieces}
use Rattle.overlay_string.specs.declared.clip_rule.ClipRule.{ClipRule}

-- of the open pieces the first one that leaves v is taken; the rest stays open
pub record TakesFirst (v : Point) (open_pieces : List Step) (s : Step) (left : List Step) : Type 0 where
  pub before : List Step
  pub after : List Step
  pub parts : open_pieces ≡ before ++ s ∷ after
  pub stays : left ≡ before ++ after
  pub leaves : s.from ≡ v
  pub first : All (λ t. t.from ≢ v) before

-- the walk goes on from v, at each point by the first of the open pieces that leave it, until there is none; what is
-- open is told before it and after it
pub data IsWalkFrom : Point → List Step → List Step → List Step → Type 0 where
  stop : {v : Point} {open_pieces : List Step} → All (λ t. t.from ≢ v) open_pieces →
      IsWalkFrom v open_pieces [] open_pieces
  go : {v : Point} {open_pieces left walk rest : List Step} {s : Step} → TakesFirst v open_pieces s left →
      IsWalkFrom s.to left walk rest → IsWalkFrom v open_pieces (s ∷ walk) rest

-- the path of the first open piece s, and what stays open. If s runs from the smaller end of its edge, the path begins
-- with it, and goes on at its end; else the path ends with it, and is walked from there backwards, at each point by the
-- first of the open pieces that arrive there
pub data IsPathOf : Step → List Step → List Step → List Step → Type 0 where
  begun : {s : Step} {open_pieces walk rest : List Step} → is_forward s ≡ true → IsWalkFrom s.to open_pieces walk rest →
      IsPathOf s open_pieces (s ∷ walk) rest
  ended : {s : Step} {open_pieces walk rest : List Step} → is_forward s ≡ false →
      IsWalkFrom s.from (map reversed_step open_pieces) walk (map reversed_step rest) →
      IsPathOf s open_pieces (backward walk ++ s ∷ []) rest

-- the paths of the pieces: that of the first one, and those of what it leaves
pub data AreClipPaths : List Step → List (List Step) → Type 0 where
  done : AreClipPaths [] []
  next : {s : Step} {open_pieces path rest : List Step} {paths : List (List Step)} → IsPathOf s open_pieces path rest →
      AreClipPaths rest paths → AreClipPaths (s ∷ open_pieces) (path ∷ paths)

-- the points of a path: the one that its first step leaves, and those at which its steps arrive
abbrev pub points_along : List Step → List Point
points_along [] = []
points_along (s ∷ ss) = s.from ∷ map (λ t. t.to) (s ∷ ss)

-- the paths, by their points, are those of these pieces
pub record ArePathsOf (pieces : List Step) (paths : List (List Point)) : Type 0 where
  pub walks : List (List Step)
  pub joined : AreClipPaths pieces walks
  pub shown : paths ≡ map points_along walks

-- the solver brings the edges into an arrangement, whose edges lead forward, and the paths are those of the pieces that
-- a clip keeps in it
pub record AreClipped (solver : Solver) (fill : FillRule) (rule : ClipRule) (es : List CountedEdge)
    (paths : List (List Point)) : Type 0 where
  pub arrangement : List CountedEdge
  pub arranged : IsArranged solver es arrangement
  pub forward : IsForwardBy ends_of arrangement
  pub paths_of : ArePathsOf (clip_pieces fill rule arrangement) paths
