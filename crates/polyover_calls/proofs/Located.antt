-- How a call ends that asks where points lie.
use Rattle.std.proofs.Common.{◌≡◌, ◌≤◌, ◌<◌, ℕ, ℤ, List, All, length, inl, inr, refl, sym, ap, subst, arith}
use Rattle.std.proofs.lemmas.List.{length-map}
use Rattle.overlay_geom.specs.Plane.{Point}
use Rattle.overlay_geom.specs.Points.{plain_point, plain_points}
use Rattle.overlay_geom.specs.Resolved.{IsResolved}
use Rattle.overlay_geom.specs.declared.point.IntPoint.{IntPoint}
use Rattle.polyover_calls.specs.Arrays.{points_of, written_over}
use Rattle.polyover_calls.specs.Reading.{ArePoints, PointsHaveOwnFault}
use Rattle.polyover_calls.specs.declared.fault.Fault.{Fault}
use Rattle.polyover_calls.specs.declared.fault.Fault.TheVariants as fault
use Rattle.polyover_calls.specs.Given.{Contours, paths_of, AreGiven, IsFaulty}
use Rattle.polyover_calls.specs.Located.{number_of, Places, AreNumbers, IsFirstUnresolved, LocatingEnds}
use Rattle.polyover_calls.specs.Statuses.{status_of_fault}
use Rattle.polyover_calls.specs.declared.status.Status.{Status}
use Rattle.polyover_calls.specs.declared.status.Status.TheVariants.{Done, Memory, NotResolved, TooSmall}

-- there are as many numbers as points
pub fit_numbers : {I : Type 0} (whole : I → ℤ) (paths : List (List Point)) (points : List I) (read : List (IntPoint I))
    (numbers room : List ℕ) → read ≡ points_of points → length (points_of points) ≤ length room →
    AreNumbers paths (plain_points whole read) numbers → length numbers ≤ length room
fit_numbers whole paths points read numbers room same fits tell = omega (
  arith,
  fits,
  ap length same,
  ap length tell.numbers,
  length-map tell.locations number_of,
  tell.located.counted,
  length-map read (plain_point whole),
)

module _ {I : Type 0} (whole : I → ℤ) (limit : ℕ) (shape : Contours I) (points : List I) (old : Places) where
  pub shape_unread : (f : Fault) → IsFaulty whole limit shape f →
      LocatingEnds whole limit shape points old old (status_of_fault f)
  shape_unread fault.Memory faulty = absurd faulty
  shape_unread fault.Ends faulty = (refl, inl faulty)
  shape_unread fault.Range faulty = (refl, inl faulty)

  pub points_unread : (f : Fault) → AreGiven whole limit shape → PointsHaveOwnFault whole limit points f →
      LocatingEnds whole limit shape points old old (status_of_fault f)
  points_unread fault.Memory given faulty = absurd faulty
  points_unread fault.Ends given faulty = (refl, inr (given, faulty))
  points_unread fault.Range given faulty = (refl, inr (given, faulty))

  pub no_places : AreGiven whole limit shape → ArePoints whole limit points →
      length old.locations < length (points_of points) → LocatingEnds whole limit shape points old old TooSmall
  no_places given are short = (
    refl,
    (
      record { given = given; are_points = are },
      λ room. omega (arith, short, room),
    ),
  )

  -- what is given can be located
  module _ (given : AreGiven whole limit shape) (are : ArePoints whole limit points)
      (room : length (points_of points) ≤ length old.locations) where
    pub without_memory : (s : Status) → s ≡ Memory → LocatingEnds whole limit shape points old old s
    without_memory s same = subst (LocatingEnds whole limit shape points old old) (sym same)
        (refl, (record { given = given; are_points = are }, room))

    pub unresolved_ends : (paths : List (List Point)) (n : ℕ) → paths ≡ paths_of whole shape →
        IsFirstUnresolved paths n →
        LocatingEnds whole limit shape points old (record { locations = old.locations; unresolved = n }) NotResolved
    unresolved_ends paths n same_paths first = (
      record { given = given; are_points = are },
      (room, (subst (λ ps. IsFirstUnresolved ps n) same_paths first, refl)),
    )

    pub located_ends : (paths : List (List Point)) (read : List (IntPoint I)) (numbers new : List ℕ) →
        paths ≡ paths_of whole shape → read ≡ points_of points → All IsResolved paths →
        AreNumbers paths (plain_points whole read) numbers → new ≡ written_over numbers old.locations →
        LocatingEnds whole limit shape points old (record { locations = new; unresolved = old.unresolved }) Done
    located_ends paths read numbers new same_paths same all tell written = (
      record { given = given; are_points = are },
      (
        room,
        record {
          resolved = subst (All IsResolved) same_paths all;
          numbers = numbers;
          tell = subst (λ ps. AreNumbers (paths_of whole shape) (plain_points whole ps) numbers) same
              (subst (λ ps. AreNumbers ps (plain_points whole read) numbers) same_paths tell);
          written = ap (λ l. record { locations = l; unresolved = old.unresolved }) written;
        },
      ),
    )
