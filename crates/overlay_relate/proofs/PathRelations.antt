-- What answers about the relations of an arrangement tell of the closed paths that give its edges.
use Rattle.std.proofs.Common.{◌≡◌, ◌↔◌, ℕ, ℤ, Bool, true, false, ◌&&◌, List, map, sym, ap, ap₂, ◌∙◌}
use Rattle.std.specs.List.{flat_map}
use Rattle.std.proofs.lemmas.List.Elements.{All-contains}
use Rattle.overlay_geom.specs.Edges.{CountedEdge, ends_of, all_ends, subj_of, clip_of, winding_by, subject_edge}
use Rattle.overlay_geom.specs.Plane.{PlanePoint, Step, Edge, IsOn, IsOff, is_forward, edge_of, steps_of}
use Rattle.overlay_geom.specs.declared.options.ShapeType.{ShapeType}
use Rattle.overlay_geom.specs.declared.options.ShapeType.TheVariants.{Subject, Clip}
use Rattle.overlay_plane.specs.FarPoints.{AreWithinHalves, IsFarFrom}
use Rattle.overlay_plane.specs.Predicates.{InteriorsIntersect, LiesWithin}
use Rattle.overlay_plane.specs.Snaps.{IsOnStep}
use Rattle.overlay_plane.proofs.EdgesOfSteps.{edge_by}
use Rattle.overlay_plane.proofs.Entries.{Contains-map, Contains-flat_map, all_of_entries}
use Rattle.overlay_plane.proofs.GivenPredicates.{off_is_far_by_nothing, same_place, on_at_place}
use Rattle.overlay_plane.proofs.NearOff.{IsNearOff, near_off}
use Rattle.overlay_plane.proofs.SnapsNear.{on_turned}
use Rattle.overlay_builder.specs.GivenPaths.{GivenPath, added_paths}
use Rattle.overlay_builder.specs.PathLists.{HoldsPaths}
use Rattle.overlay_builder.specs.PathWindings.{winding_of_paths, IsFarFromPath, IsFarFromPaths, HeldPathsWind}
use Rattle.overlay_builder.proofs.PathWindings.{contents_wind_as_paths, far_from_paths_is_far}
use Rattle.overlay_relate.specs.GivenRelations.{TellsOfGivenInteriors, TellsOfGivenWithin}
use Rattle.overlay_relate.specs.PathRelations.{PathInteriorsIntersect, PathLiesWithin, TellsOfPathInteriors}
use Rattle.overlay_relate.specs.PathRelations.{TellsOfPathWithin, ArrangementsTellOfPaths}
use Rattle.overlay_relate.proofs.GivenClosures.{answer_of}
use Rattle.overlay_relate.proofs.GivenRelations.{tells_of_given_interiors, tells_of_given_within}
use Rattle.overlay_relate.proofs.GivenRelations.{tells_of_given_covers}

-- ---- the edges of all steps of the paths

abbrev pub path_edges : GivenPath → List CountedEdge
path_edges path = map subject_edge (steps_of path.points)

abbrev pub edges_of_paths : List GivenPath → List CountedEdge
edges_of_paths paths = flat_map path_edges paths

-- a point of a step is on its edge
on_edge_of : (s : Step) (q : PlanePoint) → IsOnStep s q → IsOn (edge_of s) q
on_edge_of s q on = by (is_forward s)
  where
    by : (t : Bool) → IsOn (edge_by t s) q
    by true = on
    by false = on_turned (record { a = s.from; b = s.to }) q on

-- a point off these edges is off the paths
pub off_paths : (paths : List GivenPath) (p : PlanePoint) → IsOff (all_ends (edges_of_paths paths)) p →
    IsFarFromPaths 0 paths p
off_paths paths p off = all_of_entries (IsFarFromPath 0 p) paths (λ path c.
    all_of_entries (λ s. (q : PlanePoint) → IsOnStep s q → ¬ (AreWithinHalves 0 q p)) (steps_of path.points)
    (λ s d q on near. All-contains (λ (f : Edge). ¬ (IsOn f p)) (all_ends (edges_of_paths paths)) (edge_of s) off
    (Contains-map ends_of (edges_of_paths paths) (subject_edge s)
    (Contains-flat_map path_edges paths path (subject_edge s) c
    (Contains-map subject_edge (steps_of path.points) s d)))
    (on_at_place q p (same_place q p near) (edge_of s) (on_edge_of s q on))))

-- ---- a builder that holds just the paths

module _ (keep : Bool) (paths : List GivenPath) (content : List CountedEdge)
    (holds : HoldsPaths (added_paths keep paths) content) (filled : ℤ → Bool) where
  pub winds : (p : PlanePoint) → HeldPathsWind paths content p
  winds p = contents_wind_as_paths keep paths content holds p

  pub far : (k : ℕ) (p : PlanePoint) → IsFarFromPaths k paths p → IsFarFrom k content p
  far k p h = far_from_paths_is_far keep paths content holds k p h

  pub off : (p : PlanePoint) → IsFarFromPaths 0 paths p → IsOff (all_ends content) p
  off p h = (off_is_far_by_nothing content p).1 (far 0 p h)

  -- near a point off the edges held there is one off the paths
  near : (p : PlanePoint) → IsOff (all_ends content) p → IsNearOff content (edges_of_paths paths) p
  near p h = near_off content (edges_of_paths paths) p h

  off_near : (p : PlanePoint) (h : IsOff (all_ends content) p) → IsFarFromPaths 0 paths (near p h).near
  off_near p h = off_paths paths (near p h).near (near p h).off_more

  pub interiors : PathInteriorsIntersect filled paths ↔ InteriorsIntersect filled content
  interiors = (
    λ (p, h, s, c). (p, off p h, ap filled (winds p).subj ∙ s, ap filled (winds p).clip ∙ c),
    λ (p, h, s, c). (
      (near p h).near,
      off_near p h,
      ap filled (sym (winds (near p h).near).subj ∙ (near p h).same subj_of) ∙ s,
      ap filled (sym (winds (near p h).near).clip ∙ (near p h).same clip_of) ∙ c,
    ),
  )

  -- of two counts that wind as two sides do
  module _ (inner outer : CountedEdge → ℤ) (inner_side outer_side : ShapeType)
      (inner_winds : (p : PlanePoint) → winding_by inner content p ≡ winding_of_paths inner_side paths p)
      (outer_winds : (p : PlanePoint) → winding_by outer content p ≡ winding_of_paths outer_side paths p) where
    to_content : PathLiesWithin filled paths inner_side outer_side → LiesWithin filled content inner outer
    to_content lies = record {
      some = let (p, h, t) = lies.some in (p, off p h, ap filled (inner_winds p) ∙ t);
      each = λ p h t.
          let q = (near p h).near in
          ap filled (sym ((near p h).same outer) ∙ outer_winds q)
          ∙ lies.each q (off_near p h) (ap filled (sym (inner_winds q) ∙ (near p h).same inner) ∙ t);
    }

    to_paths : LiesWithin filled content inner outer → PathLiesWithin filled paths inner_side outer_side
    to_paths lies = record {
      some = let (p, h, t) = lies.some in (
        (near p h).near,
        off_near p h,
        ap filled (sym (inner_winds (near p h).near) ∙ (near p h).same inner) ∙ t,
      );
      each = λ p h t. ap filled (sym (outer_winds p)) ∙ lies.each p (off p h) (ap filled (inner_winds p) ∙ t);
    }

    of_within : (k : ℕ) (answer : Bool) → TellsOfGivenWithin k filled content inner outer answer →
        TellsOfPathWithin k filled paths content inner_side outer_side answer
    of_within k answer tells = record {
      exact = λ whole. answer_of (PathLiesWithin filled paths inner_side outer_side)
          (LiesWithin filled content inner outer) answer (tells.exact whole) (to_content, to_paths);
      far = λ yes p h t. ap filled (sym (outer_winds p)) ∙ tells.far yes p (far k p h) (ap filled (inner_winds p) ∙ t);
    }

  of_interiors : (k : ℕ) (answer : Bool) → TellsOfGivenInteriors k filled content answer →
      TellsOfPathInteriors k filled paths content answer
  of_interiors k answer tells = record {
    exact = λ whole. answer_of (PathInteriorsIntersect filled paths) (InteriorsIntersect filled content) answer
        (tells.exact whole) interiors;
    both = λ p h s c. tells.both p (far k p h) (ap filled (winds p).subj ∙ s) (ap filled (winds p).clip ∙ c);
    apart = λ no p h. ap₂ (λ s c. filled s && filled c) (sym (winds p).subj) (sym (winds p).clip)
        ∙ tells.apart no p (far k p h);
  }

pub arrangements_tell_of_paths : ArrangementsTellOfPaths
arrangements_tell_of_paths = record {
  interiors_intersect = λ keep paths solver content edges filled answer holds arranged tells.
      of_interiors keep paths content holds filled arranged.moving answer
      (tells_of_given_interiors solver content edges arranged filled answer tells);
  within = λ keep paths solver content edges filled answer holds arranged tells.
      of_within keep paths content holds filled subj_of clip_of Subject Clip
      (λ p. (contents_wind_as_paths keep paths content holds p).subj)
      (λ p. (contents_wind_as_paths keep paths content holds p).clip) arranged.moving answer
      (tells_of_given_within solver content edges arranged filled answer tells);
  covers = λ keep paths solver content edges filled answer holds arranged tells.
      of_within keep paths content holds filled clip_of subj_of Clip Subject
      (λ p. (contents_wind_as_paths keep paths content holds p).clip)
      (λ p. (contents_wind_as_paths keep paths content holds p).subj) arranged.moving answer
      (tells_of_given_covers solver content edges arranged filled answer tells);
}
