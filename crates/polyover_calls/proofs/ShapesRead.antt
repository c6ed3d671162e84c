-- Contours of paths that are read by their numbers, and why arrays are not read as a shape.
use Rattle.std.proofs.Common.{◌≡◌, ℕ, ◌+◌, ℤ, List, [], ◌∷◌, ◌++◌, All, take, Some, Vec}
use Rattle.std.proofs.Common.{sym, ◌∙◌, ap, ap₂, subst}
use Rattle.std.specs.List.{slice_get}
use Rattle.std.proofs.lemmas.List.{map-append}
use Rattle.overlay_geom.proofs.ReadInOrder.{All-read, take_read}
use Rattle.overlay_geom.specs.Paths.{paths_of_shape}
use Rattle.overlay_geom.specs.Plane.{Point}
use Rattle.overlay_geom.specs.Points.{plain_points}
use Rattle.overlay_geom.specs.Resolved.{IsResolved}
use Rattle.overlay_geom.specs.declared.point.IntPoint.{IntPoint}
use Rattle.polyover_calls.specs.Reading.{AreContours, contours_at, HaveFault}
use Rattle.polyover_calls.specs.declared.fault.Fault.{Fault}
use Rattle.polyover_calls.specs.declared.fault.Fault.TheVariants as fault
use Rattle.polyover_calls.specs.Located.{IsFirstUnresolved}
use Rattle.polyover_calls.specs.Statuses.{ReadsAs, status_of_fault}
use Rattle.polyover_calls.specs.declared.status.Status.{Status}
use Rattle.polyover_calls.specs.declared.status.Status.TheVariants.{Done, Memory, NotResolved}

-- with a contour of the next path, a shape that has the paths so far has one more
pub one_contour_more : {I A : Type 0} (whole : I → ℤ) (paths : List (List Point)) (i : ℕ)
    (shape new : List (Vec (IntPoint I) A)) (contour : Vec (IntPoint I) A) (points : List (IntPoint I)) →
    slice_get paths i ≡ Some (plain_points whole points) → paths_of_shape whole shape ≡ take i paths →
    contour.items ≡ points → new ≡ shape ++ contour ∷ [] → paths_of_shape whole new ≡ take (i + 1) paths
one_contour_more whole paths i shape new contour points read before same pushed =
    ap (paths_of_shape whole) pushed ∙ map-append (λ c. plain_points whole c.items) shape (contour ∷ [])
    ∙ ap₂ (λ xs ps. xs ++ plain_points whole ps ∷ []) before same
    ∙ sym (take_read paths i (plain_points whole points) read)

-- contours that are not read are not read as a shape, with the status that stands for the fault
pub fault_read : {I : Type 0} (whole : I → ℤ) (limit : ℕ) (cs : List I) (ends : List ℕ) (f : Fault) →
    HaveFault whole limit cs ends f → ReadsAs whole limit cs ends (status_of_fault f)
fault_read whole limit cs ends fault.Memory faulty = faulty
fault_read whole limit cs ends fault.Ends faulty = faulty
fault_read whole limit cs ends fault.Range faulty = faulty

-- contours that are read take memory to be tested
pub without_memory : {I : Type 0} (whole : I → ℤ) (limit : ℕ) (cs : List I) (ends : List ℕ) (s : Status) →
    AreContours whole limit cs ends → s ≡ Memory → ReadsAs whole limit cs ends s
without_memory whole limit cs ends s are same = subst (ReadsAs whole limit cs ends) (sym same) are

-- contours that are read, of which one is not resolved
pub unresolved_read : {I : Type 0} (whole : I → ℤ) (limit : ℕ) (cs : List I) (ends : List ℕ)
    (paths : List (List Point)) (n : ℕ) → AreContours whole limit cs ends → paths ≡ contours_at whole cs ends →
    IsFirstUnresolved paths n → ReadsAs whole limit cs ends NotResolved
unresolved_read whole limit cs ends paths n are same first = (
  are,
  λ all. first.unresolved (All-read paths n first.path first.here IsResolved (subst (All IsResolved) (sym same) all)),
)

-- and contours that are read, each of which is
pub shape_read : {I : Type 0} (whole : I → ℤ) (limit : ℕ) (cs : List I) (ends : List ℕ) (paths : List (List Point)) →
    AreContours whole limit cs ends → paths ≡ contours_at whole cs ends → All IsResolved paths →
    ReadsAs whole limit cs ends Done
shape_read whole limit cs ends paths are same all = (are, subst (All IsResolved) same all)
