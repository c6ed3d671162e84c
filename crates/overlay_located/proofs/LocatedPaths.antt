-- What is told of the edges that paths give is told of the paths.
use Rattle.std.proofs.Common.{◌≡◌, Bool, true, false, ℤ, List, sym, ap, ◌∙◌}
use Rattle.overlay_geom.specs.Edges.{CountedEdge, all_ends, subj_of, winding_by}
use Rattle.overlay_geom.specs.Plane.{PlanePoint, IsOff}
use Rattle.overlay_geom.specs.declared.options.ShapeType.TheVariants.{Subject}
use Rattle.overlay_builder.specs.GivenPaths.{GivenPath, added_paths}
use Rattle.overlay_builder.specs.PathLists.{HoldsPaths}
use Rattle.overlay_builder.specs.PathWindings.{IsFarFromPaths}
use Rattle.overlay_relate.specs.Closures.{IsInClosure}
use Rattle.overlay_relate.specs.PathRelations.{path_fills}
use Rattle.overlay_relate.specs.declared.location.PointLocation.{PointLocation}
use Rattle.overlay_relate.specs.declared.location.PointLocation.TheVariants.{Inside, Boundary, Outside}
use Rattle.overlay_relate.proofs.Closures.{same_closure}
use Rattle.overlay_relate.proofs.PathRelations.{edges_of_paths, off_paths, winds, off}
use Rattle.overlay_relate.proofs.SteepPoints.{HasPointNear, point_near}
use Rattle.overlay_located.specs.Laws.{ContentsLocateOfPaths}
use Rattle.overlay_sectors.specs.Located.{HasNoneNear, LiesIn}
use Rattle.overlay_located.specs.Located.{LiesInPaths}

module _ (keep : Bool) (paths : List GivenPath) (content : List CountedEdge)
    (holds : HoldsPaths (added_paths keep paths) content) (filled : ℤ → Bool) where
  -- the points off the edges that are filled, or are not
  abbrev Given : Bool → PlanePoint → Type 0
  Given t q = IsOff (all_ends content) q × (filled (winding_by subj_of content q) ≡ t)

  abbrev OfPaths : Bool → PlanePoint → Type 0
  OfPaths t q = IsFarFromPaths 0 paths q × (path_fills filled paths Subject q ≡ t)

  into : (t : Bool) (q : PlanePoint) → OfPaths t q → Given t q
  into t q at = (
    off keep paths content holds filled q at.0,
    ap filled (winds keep paths content holds filled q).subj ∙ at.1,
  )

  near : (t : Bool) (q : PlanePoint) → Given t q → IsInClosure (OfPaths t) q
  near t q at n =
      let close : HasPointNear n content (edges_of_paths paths) q = point_near n content (edges_of_paths paths) q in (
        close.near,
        (
          off_paths paths close.near close.off_more,
          ap filled (sym (winds keep paths content holds filled close.near).subj ∙ close.same subj_of) ∙ at.1,
        ),
        close.close,
      )

  closure : (t : Bool) (p : PlanePoint) → IsInClosure (Given t) p → IsInClosure (OfPaths t) p
  closure t p h = (same_closure (OfPaths t) (Given t) (into t) (near t) p).1 h

  none : (t : Bool) (p : PlanePoint) → HasNoneNear (Given t) p → HasNoneNear (OfPaths t) p
  none t p (n, apart) = (n, λ q at. apart q (into t q at))

  pub located : (p : PlanePoint) (l : PointLocation) → LiesIn filled content p l → LiesInPaths filled paths p l
  located p Inside h = none false p h
  located p Boundary h = (closure true p h.0, closure false p h.1)
  located p Outside h = none true p h

pub contents_locate_of_paths : ContentsLocateOfPaths
contents_locate_of_paths keep paths content holds filled p l = located keep paths content holds filled p l
