-- Relations of closed paths as they were added, and what exact answers tell of them. Nothing is rounded.
use Rattle.std.specs.Prelude.{◌↔◌, ℕ, ℤ, Bool, false, List, Result, IsTrue, IfOk, IfErr, All}
use Rattle.overlay_geom.specs.Edges.{CountedEdge}
use Rattle.overlay_geom.specs.Plane.{Point}
use Rattle.overlay_geom.specs.Points.{AllInRange}
use Rattle.overlay_geom.specs.Rules.{is_filled}
use Rattle.overlay_geom.specs.declared.error.OverlayError.{OverlayError}
use Rattle.overlay_geom.specs.declared.fill_rule.FillRule.TheVariants.{EvenOdd}
use Rattle.overlay_geom.specs.declared.options.ShapeType.TheVariants.{Subject, Clip}
use Rattle.overlay_builder.specs.GivenPaths.{GivenPath, added_paths, subject_and_clip}
use Rattle.overlay_builder.specs.PathLists.{HoldsPaths, MayRefuseBuilder}
use Rattle.overlay_contacts.specs.ExactRelations.{AreExactRelations}
use Rattle.overlay_relate.specs.Closures.{ClosuresMeet, ClosuresTouch, ClosuresMeetInPoints, AreClosuresApart}
use Rattle.overlay_relate.specs.PathRelations.{IsInPathInterior, PathInteriorsIntersect, PathLiesWithin}
use Rattle.overlay_relate.specs.declared.relations.Relations.{Relations}

-- the closures of the interiors of both sides meet
abbrev pub PathsMeet : (ℤ → Bool) → List GivenPath → Type 0
PathsMeet filled paths = ClosuresMeet (IsInPathInterior filled paths Subject) (IsInPathInterior filled paths Clip)

-- they meet, but the interiors have no point in common
abbrev pub PathsTouch : (ℤ → Bool) → List GivenPath → Type 0
PathsTouch filled paths = ClosuresTouch (IsInPathInterior filled paths Subject) (IsInPathInterior filled paths Clip)

-- they meet, and near each point of both there is no other
abbrev pub PathsMeetInPoints : (ℤ → Bool) → List GivenPath → Type 0
PathsMeetInPoints filled paths =
    ClosuresMeetInPoints (IsInPathInterior filled paths Subject) (IsInPathInterior filled paths Clip)

-- they do not meet
abbrev pub ArePathsApart : (ℤ → Bool) → List GivenPath → Type 0
ArePathsApart filled paths =
    AreClosuresApart (IsInPathInterior filled paths Subject) (IsInPathInterior filled paths Clip)

-- the subject lies within the clip
abbrev pub ArePathsWithin : (ℤ → Bool) → List GivenPath → Type 0
ArePathsWithin filled paths = PathLiesWithin filled paths Subject Clip

-- the subject covers the clip
abbrev pub PathsCover : (ℤ → Bool) → List GivenPath → Type 0
PathsCover filled paths = PathLiesWithin filled paths Clip Subject

-- each answer tells whether the relation holds of the paths
pub record AreExactOfPaths (filled : ℤ → Bool) (paths : List GivenPath) (r : Relations) : Type 0 where
  pub intersects : IsTrue r.intersects ↔ PathsMeet filled paths
  pub interiors_intersect : IsTrue r.interiors_intersect ↔ PathInteriorsIntersect filled paths
  pub touches : IsTrue r.touches ↔ PathsTouch filled paths
  pub point_intersects : IsTrue r.point_intersects ↔ PathsMeetInPoints filled paths
  pub within : IsTrue r.within ↔ ArePathsWithin filled paths
  pub disjoint : IsTrue r.disjoint ↔ ArePathsApart filled paths
  pub covers : IsTrue r.covers ↔ PathsCover filled paths

-- ---- a subject and a clip, under EvenOdd

-- the points of both are in the coordinate range
pub record AreBothInRange (limit : ℕ) (subj clip : List (List Point)) : Type 0 where
  pub subj_in_range : All (AllInRange limit) subj
  pub clip_in_range : All (AllInRange limit) clip

-- the answer is right of their paths, and a refusal is a refusal to hold these
pub record TellsOfTwo {V : Type 0} (IsRight : (ℤ → Bool) → List GivenPath → V → Type 0)
    (subj clip : List (List Point)) (result : Result V OverlayError) : Type 0 where
  pub answer : IfOk result (IsRight (is_filled EvenOdd) (subject_and_clip subj clip))
  pub err : IfErr result (MayRefuseBuilder (added_paths false (subject_and_clip subj clip)))

-- so it tells whether a relation holds
abbrev pub TellsRelationOfTwo : ((ℤ → Bool) → List GivenPath → Type 0) → (subj clip : List (List Point)) →
    Result Bool OverlayError → Type 0
TellsRelationOfTwo relation = TellsOfTwo (λ filled paths b. IsTrue b ↔ relation filled paths)

-- and all of them
abbrev pub TellsRelationsOfTwo : (subj clip : List (List Point)) → Result Relations OverlayError → Type 0
TellsRelationsOfTwo = TellsOfTwo AreExactOfPaths

-- ---- laws

-- what is told of a content that the paths give, with points on one line kept or dropped, is told of the paths
abbrev pub ContentsTellOfPaths : Type 0
ContentsTellOfPaths = (keep : Bool) (paths : List GivenPath) (content : List CountedEdge) →
    HoldsPaths (added_paths keep paths) content → (filled : ℤ → Bool) (r : Relations) →
    AreExactRelations filled content r → AreExactOfPaths filled paths r
