-- What a builder answers that drops what it held, and holds paths of the subject alone, brought into an arrangement.
use Rattle.std.specs.Prelude.{◌≡◌, ◌⊎◌, ℕ, Bool, true, false, List, map, Result, IfErr, OnOk}
use Rattle.overlay_geom.specs.Edges.{CountedEdge, ends_of}
use Rattle.overlay_geom.specs.Plane.{PlanePoint, IsOff}
use Rattle.overlay_geom.specs.declared.error.OverlayError.{OverlayError}
use Rattle.overlay_geom.specs.declared.error.OverlayError.TheVariants.{Memory, NotSettled, TooManyEdges, Failed}
use Rattle.overlay_geom.specs.declared.solver.Solver.{Solver}
use Rattle.overlay_order.specs.Content.{IsContent}
use Rattle.overlay_graph.specs.Arranged.{IsArranged, MayRefuseSplitting}
use Rattle.overlay_builder.specs.GivenPaths.{GivenPath, added_paths}
use Rattle.overlay_builder.specs.Held.{Held}
use Rattle.overlay_builder.specs.PathLists.{HoldsPaths, SomePathWeighsTooMuch}
use Rattle.overlay_builder.specs.PathWindings.{HeldPathsWind, IsFarFromPaths}

-- p is off the edges, and they wind round it as the paths do
pub record WindAsPaths (paths : List GivenPath) (es : List CountedEdge) (p : PlanePoint) : Type 0 where
  pub off : IsOff (map ends_of es) p
  pub wind : HeldPathsWind paths es p

-- the edges are an arrangement of those that the paths give, reached by the solver
pub record IsArrangedAlone (keep : Bool) (solver : Solver) (paths : List GivenPath)
    (es : List CountedEdge) : Type 0 where
  pub content : List CountedEdge
  pub holds : HoldsPaths (added_paths keep paths) content
  pub arranged : IsArranged solver content es
  -- so it is at each point more than k/2 away from the paths, in x or in y: k rounds moved some point
  pub far : (p : PlanePoint) → IsFarFromPaths arranged.moving paths p → WindAsPaths paths es p

-- the edges that the paths give, brought into an arrangement by the solver, may be refused so
pub record MayRefuseToSplit (keep : Bool) (solver : Solver) (paths : List GivenPath) (e : OverlayError) : Type 0 where
  pub content : List CountedEdge
  pub holds : HoldsPaths (added_paths keep paths) content
  pub refused : MayRefuseSplitting solver content e

-- the paths may be refused so
abbrev pub MayRefuseAlone : Bool → Solver → List GivenPath → OverlayError → Type 0
MayRefuseAlone keep solver paths Memory = Unit {0}
MayRefuseAlone keep solver paths NotSettled = MayRefuseToSplit keep solver paths NotSettled
MayRefuseAlone keep solver paths TooManyEdges =
    SomePathWeighsTooMuch (added_paths keep paths) ⊎ MayRefuseToSplit keep solver paths TooManyEdges
MayRefuseAlone keep solver paths Failed = ⊥

-- a call that does so answers so, of what the builder holds afterwards; whether it had failed tells nothing
pub record AnswersAlone {V : Type 0} (limit : ℕ) (solver : Solver) (keep : Bool) (paths : List GivenPath)
    (new : Held CountedEdge) (result : Result V OverlayError) : Type 0 where
  pub usable : OnOk result (new.failed ≡ false)
  pub arranged : OnOk result (IsArrangedAlone keep solver paths new.edges)
  pub content : OnOk result (IsContent limit new.edges)
  -- any refusal leaves it failed, and is one of the paths
  pub fails : IfErr result (λ e. new.failed ≡ true)
  pub err : IfErr result (MayRefuseAlone keep solver paths)
