-- The numbers of contours of a cut: outlines are numbered in order, and each hole of a group has the number of an
-- outline before it. So each number, and each number found, is that of an outline.
use Rattle.std.proofs.Common.{◌≡◌, ⊎_elim, ℕ, suc, ◌+◌, ◌<◌, Bool, true, false, cond, List, [], ◌∷◌, ◌++◌, map}
use Rattle.std.proofs.Common.{length}
use Rattle.std.proofs.Common.{Contains, Some, filter, refl, sym, ap, ◌∙◌, subst, arith}
use Rattle.std.specs.List.{flat_map}
use Rattle.std.proofs.lemmas.Option.{none-some}
use Rattle.overlay_geom.specs.Plane.{Step}
use Rattle.overlay_plane.specs.Turn.{Hand}
use Rattle.overlay_plane.specs.Binding.{is_hole}
use Rattle.overlay_plane.specs.Binding.IsFoundBelow.{direct, through}
use Rattle.overlay_plane.specs.RoledContours.{Role, outline, own_hole, free_hole, Contour, stands_in, is_outline}
use Rattle.overlay_plane.specs.RoledContours.{contours_from, kept_group, hole_of_group, hole_to_bind}
use Rattle.overlay_plane.specs.RoledContours.{group_contours_from}
use Rattle.overlay_plane.specs.RoledContours.{outline_of, IsCutBy}
use Rattle.overlay_plane.specs.BoundContours.{IsParent}
use Rattle.overlay_plane.specs.ContourNumbers.{IsNumber, after, AreNumbers, outline_count}
use Rattle.overlay_plane.proofs.LaterEntries.{Contains-cases}
use Rattle.overlay_plane.proofs.PlacesOfContours.{known_of}
use Rattle.std.proofs.lemmas.Option.{same_Some}

-- ---- each number is that of an outline

-- counted from the roles
counted_after : (n : ℕ) (c : Contour) (cs : List Contour) →
    n + outline_count (c ∷ cs) ≡ after n c.role + outline_count cs
counted_after n c cs = by c.role
  where
    by : (r : Role) → n + length (cond (is_outline r) (c ∷ filter (λ (d : Contour). is_outline d.role) cs)
        (filter (λ (d : Contour). is_outline d.role) cs))
        ≡ after n r + outline_count cs
    by (outline m) = omega arith
    by (own_hole m) = refl
    by free_hole = refl

-- the number of a role is below that of the next outline
number_before : (n m k : ℕ) (r : Role) → IsNumber n r → stands_in r ≡ Some m → m < after n r + k
number_before n m k (outline l) is stands = let same = same_Some l m stands in omega (arith, is, same)
number_before n m k (own_hole l) is stands = let same = same_Some l m stands in omega (arith, is, same)
number_before n m k free_hole is stands = absurd (none-some m stands)

pub number_counted : (n : ℕ) (cs : List Contour) → AreNumbers n cs → (c : Contour) → Contains cs c → (m : ℕ) →
    stands_in c.role ≡ Some m → m < n + outline_count cs
number_counted n [] are c at m stands = absurd (elim at.1 [ ])
number_counted n (d ∷ ds) are c at m stands =
    subst (λ k. m < k) (sym (counted_after n d ds)) (⊎_elim
    (λ is. number_before n m (outline_count ds) d.role are.0
    (ap (λ (k : Contour). stands_in k.role) is ∙ stands))
    (λ later. number_counted (after n d.role) ds are.1 c later m stands)
    (Contains-cases d ds c at))

-- a number that is found is that of an outline too
pub found_counted : (filled : Hand) (cs : List Contour) → AreNumbers 0 cs → (i m : ℕ) →
    IsParent filled cs i (Some m) → m < outline_count cs
found_counted filled cs are i m (direct {j} has_next known) =
    let from = known_of cs j m known in
    let counted = number_counted 0 cs are from.0 from.1 m from.2 in omega arith
found_counted filled cs are i m (through {j} has_next unknown rest) = found_counted filled cs are j m rest

-- ---- of cuts

-- holes whose shape is to be found
frees_numbered : (n : ℕ) (ws : List (List Step)) → AreNumbers n (map hole_to_bind ws)
frees_numbered n [] = tt
frees_numbered n (w ∷ ws) = (tt, frees_numbered n ws)

-- without groups
pub walks_numbered : (filled : Hand) (n : ℕ) (ws : List (List Step)) → AreNumbers n (contours_from filled n ws)
walks_numbered filled n [] = tt
walks_numbered filled n (w ∷ ws) = by (is_hole filled w) (λ k. walks_numbered filled k ws)
  where
    by : (t : Bool) → ((k : ℕ) → AreNumbers k (contours_from filled k ws)) →
        AreNumbers n (cond t (hole_to_bind w ∷ contours_from filled n ws)
        (outline_of n w ∷ contours_from filled (suc n) ws))
    by true rest = (tt, rest n)
    by false rest = (refl, rest (suc n))

-- holes of a group
holes_numbered : (n m : ℕ) → m < n → (hs : List (List Step)) (cs rest : List Contour) → AreNumbers n (cs ++ rest) →
    AreNumbers n ((map (hole_of_group m) hs ++ cs) ++ rest)
holes_numbered n m less [] cs rest are = are
holes_numbered n m less (h ∷ hs) cs rest are = (less, holes_numbered n m less hs cs rest are)

-- with groups
pub groups_numbered : (n : ℕ) (gs : List (List (List Step))) (rest : List Contour) →
    ((k : ℕ) → AreNumbers k rest) → AreNumbers n (group_contours_from n gs ++ rest)
groups_numbered n [] rest are = are n
groups_numbered n ([] ∷ gs) rest are = groups_numbered n gs rest are
groups_numbered n ((o ∷ hs) ∷ gs) rest are = (
  refl,
  holes_numbered (suc n) n (omega arith) hs (group_contours_from (suc n) gs) rest
      (groups_numbered (suc n) gs rest are),
)

-- by the option
pub cut_numbered : (in_groups : Bool) (filled : Hand) (keeps : List Step → Bool) (steps : List Step)
    (contours : List Contour) → IsCutBy in_groups filled keeps steps contours → AreNumbers 0 contours
cut_numbered true filled keeps steps contours cut = subst (AreNumbers 0) (sym cut.are)
    (groups_numbered 0 (flat_map (kept_group keeps) cut.inside) (map hole_to_bind (filter keeps cut.others))
    (λ k. frees_numbered k (filter keeps cut.others)))
cut_numbered false filled keeps steps contours cut = subst (AreNumbers 0) (sym cut.are)
    (walks_numbered filled 0 (filter keeps cut.walks))
