-- What a builder holds after a call is determined where all points of paths are taken. Elsewhere the order of edges is
-- left open, since a thinned path may begin at another point. So is whether memory is refused.
use Rattle.std.specs.Prelude.{◌≡◌, Bool, true, false, List, All, Result, IsErrOf}
use Rattle.std.specs.List.Sorted.{IsPermutation}
use Rattle.overlay_geom.specs.Edges.{CountedEdge, ends_of, weight}
use Rattle.overlay_geom.specs.declared.error.OverlayError.{OverlayError}
use Rattle.overlay_geom.specs.declared.error.OverlayError.TheVariants.{Memory}
use Rattle.overlay_geom.specs.declared.solver.Solver.TheVariants.{Snapping}
use Rattle.overlay_plane.specs.EdgeLists.{IsForwardBy}
use Rattle.overlay_graph.specs.Arranged.{IsArranged, MayRefuseSplitting}
use Rattle.overlay_builder.specs.Held.{Held}
use Rattle.overlay_builder.specs.PathLists.{AddedPath, AddsPaths, AddsAsAsked, HoldsPaths, SomePathWeighsTooMuch}
use Rattle.overlay_builder.specs.declared.path.PathKind.{PathKind}
use Rattle.overlay_builder.specs.declared.path.PathKind.TheVariants.{Open, Closed, Thinned}

-- all points of a path of this kind are taken
abbrev pub takes_all : PathKind → Bool
takes_all Open = true
takes_all Closed = true
takes_all Thinned = false

-- all points of all paths are
abbrev pub AreTakenWhole : {E : Type 0} → List (AddedPath E) → Type 0
AreTakenWhole paths = All (λ p. takes_all p.kind ≡ true) paths

-- two contents to which the paths lead are one
abbrev pub OneContent : Type 0 → Type 0
OneContent E = (paths : List (AddedPath E)) → AreTakenWhole paths → (old new newer : List E) → AddsPaths paths old new →
    AddsPaths paths old newer → new ≡ newer

-- two contents to which paths lead have the same edges, whichever collinear points were dropped first
abbrev pub ContentsAreShuffled : Type 0 → Type 0
ContentsAreShuffled E = (paths : List (AddedPath E)) → (old new newer : List E) → AddsPaths paths old new →
    AddsPaths paths old newer → IsPermutation new newer

-- two builders to which the paths were added are one, and so are the answers, where memory is not refused
abbrev pub OneAdding : Type 0
OneAdding = (paths : List (AddedPath CountedEdge)) → AreTakenWhole paths → (old new newer : Held CountedEdge)
    (result other : Result (Unit {0}) OverlayError) → AddsAsAsked weight paths old new result →
    AddsAsAsked weight paths old newer other → ¬ (IsErrOf result Memory) → ¬ (IsErrOf other Memory) →
    (result ≡ other) × (new ≡ newer)

-- ---- refusals

-- no path weighs too much, and memory alone may refuse to arrange what they give by snap rounding
pub record MemoryAloneRefuses (paths : List (AddedPath CountedEdge)) : Type 0 where
  pub added : ¬ (SomePathWeighsTooMuch paths)
  pub split : (content : List CountedEdge) → HoldsPaths paths content → (e : OverlayError) →
      MayRefuseSplitting Snapping content e → e ≡ Memory

-- so it is with paths whose edges snap rounding brings into an arrangement
abbrev pub ArrangedPathsAreRefusedByMemoryAlone : Type 0
ArrangedPathsAreRefusedByMemoryAlone = (paths : List (AddedPath CountedEdge)) (content edges : List CountedEdge) →
    IsForwardBy ends_of content → HoldsPaths paths content → IsArranged Snapping content edges →
    MemoryAloneRefuses paths
