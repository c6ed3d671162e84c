-- What a call puts into the arrays of a caller is determined by its arguments, by snap rounding.
use Rattle.std.specs.Prelude.{◌≡◌, ℕ, ℤ, Bool}
use Rattle.std.specs.Int.{Width}
use Rattle.overlay_geom.specs.Rules.{bit}
use Rattle.overlay_relate.specs.declared.relations.Relations.{Relations}
use Rattle.polyover_calls.specs.Clipped.{AreClips}
use Rattle.polyover_calls.specs.Given.{Contours}
use Rattle.polyover_calls.specs.Held.{HeldArrays, AreHeld, shape_arrays}
use Rattle.polyover_calls.specs.Hierarchies.{IsLinkedOverlay}
use Rattle.polyover_calls.specs.Linked.{LinkedRoom, AreFlatLinked, ArePutLinked}
use Rattle.polyover_calls.specs.Listed.{EdgeRoom, AreEdgesIn, AreEdgesPut}
use Rattle.polyover_calls.specs.Overlays.{IsOverlay}
use Rattle.polyover_calls.specs.Put.{IsPutInto}
use Rattle.polyover_calls.specs.Related.{AreRelated}
use Rattle.polyover_calls.specs.RelatedOne.{IsRelatedSo}
use Rattle.polyover_calls.specs.Simplified.{IsSimplification}
use Rattle.polyover_calls.specs.Sliced.{AreSlices}
use Rattle.polyover_calls.specs.Tiled.{AreTilesOfContours}
use Rattle.polyover_calls.specs.Written.{Room, IsFlat, ArePut}
use Rattle.polyover_calls.specs.WrittenPaths.{PathRoom, AreFlatPaths, ArePathsPut}
use Rattle.polyover_calls.specs.declared.clip_options.ClipOptions.{ClipOptions}
use Rattle.polyover_calls.specs.declared.numbers.OptionNumbers.{OptionNumbers}
use Rattle.polyover_calls.specs.declared.relation.Relation.{Relation}
use Rattle.polyover_calls.specs.declared.relation.Relation.TheVariants as relation
use Rattle.polyover_calls.specs.declared.status.Status.{Status}

-- two answers to the same arguments leave equal arrays and one status: shapes of an overlay
abbrev pub OneOverlay : {I U : Type 0} → (I → ℤ) → ℕ → Width → (U → ℕ) → Type 0
OneOverlay {I = I} {U = U} whole limit width natural = (rule fill : ℕ) (options : OptionNumbers U)
    (subject clip : Contours I) (old new newer : Room I) (s t : Status) → options.solver ≡ 0 →
    IsPutInto (IsFlat (IsOverlay whole limit width natural rule fill options subject clip) whole) ArePut old new s →
    IsPutInto (IsFlat (IsOverlay whole limit width natural rule fill options subject clip) whole) ArePut old newer t →
    (s ≡ t) × (new ≡ newer)

-- shapes with links
abbrev pub OneLinkedOverlay : {I U : Type 0} → (I → ℤ) → ℕ → Width → (U → ℕ) → Type 0
OneLinkedOverlay {I = I} {U = U} whole limit width natural = (rule fill : ℕ) (options : OptionNumbers U)
    (subject clip : Contours I) (old new newer : LinkedRoom I) (s t : Status) → options.solver ≡ 0 →
    IsPutInto (AreFlatLinked (IsLinkedOverlay whole limit width natural rule fill options subject clip) whole)
    ArePutLinked old new s →
    IsPutInto (AreFlatLinked (IsLinkedOverlay whole limit width natural rule fill options subject clip) whole)
    ArePutLinked old newer t → (s ≡ t) × (new ≡ newer)

-- edges
abbrev pub OneListing : {I : Type 0} → (I → ℤ) → ℕ → Type 0
OneListing {I = I} whole limit = (fill : ℕ) (subject clip : Contours I) (old new newer : EdgeRoom I) (s t : Status) →
    IsPutInto (AreEdgesIn whole limit fill 0 subject clip) AreEdgesPut old new s →
    IsPutInto (AreEdgesIn whole limit fill 0 subject clip) AreEdgesPut old newer t → (s ≡ t) × (new ≡ newer)

-- shapes to which contours are simplified
abbrev pub OneSimplificationOfArrays : {I U : Type 0} → (I → ℤ) → ℕ → Width → (U → ℕ) → Type 0
OneSimplificationOfArrays {I = I} {U = U} whole limit width natural = (fill : ℕ) (options : OptionNumbers U)
    (given : Contours I) (old new newer : Room I) (s t : Status) → options.solver ≡ 0 →
    IsPutInto (IsFlat (IsSimplification whole limit width natural fill options given) whole) ArePut old new s →
    IsPutInto (IsFlat (IsSimplification whole limit width natural fill options given) whole) ArePut old newer t →
    (s ≡ t) × (new ≡ newer)

-- shapes into which lines slice a subject
abbrev pub OneSlicingOfArrays : {I : Type 0} → (I → ℤ) → ℕ → Width → Type 0
OneSlicingOfArrays {I = I} whole limit width = (fill : ℕ) (subject lines : Contours I) (old new newer : Room I)
    (s t : Status) → IsPutInto (IsFlat (AreSlices whole limit width fill 0 subject lines) whole) ArePut old new s →
    IsPutInto (IsFlat (AreSlices whole limit width fill 0 subject lines) whole) ArePut old newer t →
    (s ≡ t) × (new ≡ newer)

-- tiles that are handed out
abbrev pub OneTilingOfArrays : {I : Type 0} → (I → ℤ) → ℕ → Width → Type 0
OneTilingOfArrays {I = I} whole limit width = (fill : ℕ) (wide high : ℤ) (subject : Contours I)
    (old new newer : HeldArrays I) (s t : Status) →
    IsPutInto (IsFlat (AreTilesOfContours whole limit width fill 0 wide high subject) whole) (AreHeld shape_arrays) old
    new s →
    IsPutInto (IsFlat (AreTilesOfContours whole limit width fill 0 wide high subject) whole) (AreHeld shape_arrays) old
    newer t → (s ≡ t) × (new ≡ newer)

-- bits that tell relations
abbrev pub OneRelating : {I : Type 0} → (I → ℤ) → ℕ → Type 0
OneRelating {I = I} whole limit = (fill : ℕ) (subject clip : Contours I) (first second : ℕ) →
    AreRelated whole limit fill 0 subject clip first → AreRelated whole limit fill 0 subject clip second →
    first ≡ second

-- what all relations tell of one
abbrev pub told_of : Relations → Relation → Bool
told_of r relation.Intersects = r.intersects
told_of r relation.InteriorsIntersect = r.interiors_intersect
told_of r relation.Touches = r.touches
told_of r relation.PointIntersects = r.point_intersects
told_of r relation.Within = r.within
told_of r relation.Disjoint = r.disjoint
told_of r relation.Covers = r.covers

-- whether one relation holds, asked alone, is what all of them tell of it
abbrev pub OneRelationOfAll : {I : Type 0} → (I → ℤ) → ℕ → Type 0
OneRelationOfAll {I = I} whole limit = (number fill : ℕ) (subject clip : Contours I) (sum answer : ℕ)
    (all : AreRelated whole limit fill 0 subject clip sum)
    (one : IsRelatedSo whole limit number fill 0 subject clip answer) →
    answer ≡ bit (told_of all.relations one.known.1.relation.relation) 1

-- and paths that a clip of lines leaves
abbrev pub OneClipOfArrays : {I : Type 0} → (I → ℤ) → ℕ → Type 0
OneClipOfArrays {I = I} whole limit = (fill : ℕ) (options : ClipOptions) (shape lines : Contours I)
    (old new newer : PathRoom I) (s t : Status) → options.solver ≡ 0 →
    IsPutInto (AreFlatPaths (AreClips whole limit fill options shape lines) whole) ArePathsPut old new s →
    IsPutInto (AreFlatPaths (AreClips whole limit fill options shape lines) whole) ArePathsPut old newer t →
    (s ≡ t) × (new ≡ newer)
