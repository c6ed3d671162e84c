-- The contours of groups, shape by shape, all have shapes; a further list of walks adds a group.
use Rattle.std.proofs.Common.{◌≡◌, ⊎_elim, ℕ, zero, suc, ◌+◌, ◌<◌, ◌==◌, true, false, cond, List, [], ◌∷◌, ◌++◌}
use Rattle.std.proofs.Common.{map, take, length}
use Rattle.std.proofs.Common.{Contains, Some, All, filter, get_or, refl, sym, ap, ap₂, ◌∙◌, subst, arith, append-nil}
use Rattle.std.proofs.Common.{append_assoc}
use Rattle.std.specs.List.{slice_get, flat_map}
use Rattle.std.proofs.lemmas.Bool.{false≢true}
use Rattle.std.proofs.lemmas.List.{map-append, length-map, get_or-map}
use Rattle.std.proofs.lemmas.List.Elements.{Contains-append_cases, All-nil, All-cons, All-map}
use Rattle.std.proofs.lemmas.Option.{none-some}
use Rattle.overlay_geom.specs.Plane.{Step}
use Rattle.overlay_plane.specs.Binding.{walks_of}
use Rattle.overlay_plane.specs.BoundContours.{BoundContour, walks_in, own_holes, found_holes, shape_begun_by}
use Rattle.overlay_plane.specs.BoundContours.{shapes_bound}
use Rattle.overlay_plane.specs.ContourNumbers.{IsNumber, after, AreNumbers}
use Rattle.overlay_plane.specs.Islands.{AreInShapes}
use Rattle.overlay_plane.specs.PlacedContours.{walk_at, walks_at}
use Rattle.overlay_plane.specs.RoledContours.{Role, outline, own_hole, free_hole, Contour, is_outline, is_free_hole}
use Rattle.overlay_plane.specs.RoledContours.{outline_of, hole_of_group, kept_group, group_contours_from}
use Rattle.overlay_plane.proofs.ContourNumbers.{groups_numbered}
use Rattle.overlay_plane.proofs.GroupedWalks.{grouped_walks}
use Rattle.overlay_plane.proofs.Entries.{Contains-from_map}
use Rattle.overlay_plane.proofs.LaterEntries.{Contains-cases}
use Rattle.overlay_plane.proofs.PlacesOfContours.{Contains-place}
use Rattle.std.proofs.lemmas.Option.{same_Some}
use Rattle.overlay_plane.proofs.ShapeLinks.{outlines_before}
use Rattle.overlay_plane.proofs.SplitLists.{filter-all}
use Rattle.overlay_walk.specs.GroupedContours.{contours_of_group}
use Rattle.overlay_extract.specs.InShapes.{role_at, AreBegun}

-- the number of an outline is how many come before it
number_at : (n : ℕ) (cs : List Contour) → AreNumbers n cs → (i m : ℕ) (c : Contour) → slice_get cs i ≡ Some c →
    c.role ≡ outline m → m ≡ n + outlines_before cs i
number_at n [] are i m c at is = absurd (none-some c at)
number_at n (d ∷ ds) are zero m c at is =
    let here : m ≡ n = subst (IsNumber n) (ap (λ (k : Contour). k.role) (same_Some d c at) ∙ is) are.0 in
    omega (arith, here)
number_at n (d ∷ ds) are (suc i) m c at is = by d.role (number_at (after n d.role) ds are.1 i m c at is)
  where
    by : (r : Role) → m ≡ after n r + outlines_before ds i →
        m ≡ n + length (cond (is_outline r) (d ∷ filter (λ e. is_outline e.role) (take i ds))
        (filter (λ e. is_outline e.role) (take i ds)))
    by (outline k) rest = omega (arith, rest)
    by (own_hole k) rest = rest
    by free_hole rest = rest

-- none is a hole whose shape is still to be found
none_free : (n : ℕ) (gs : List (List (List Step))) (c : Contour) → Contains (group_contours_from n gs) c →
    is_free_hole c.role ≡ false
none_free n [] c at = absurd (elim at.1 [ ])
none_free n ([] ∷ gs) c at = none_free n gs c at
none_free n ((o ∷ hs) ∷ gs) c at = ⊎_elim
    (λ same. ap (λ (d : Contour). is_free_hole d.role) (sym same))
    (λ later. ⊎_elim
    (λ hole. let from = Contains-from_map (hole_of_group n) hs c hole in
    ap (λ (d : Contour). is_free_hole d.role) (sym from.2))
    (λ rest. none_free (suc n) gs c rest)
    (Contains-append_cases (map (hole_of_group n) hs) (group_contours_from (suc n) gs) c later))
    (Contains-cases (outline_of n o) (map (hole_of_group n) hs ++ group_contours_from (suc n) gs) c at)

-- they stand in shapes
pub groups_in_shapes : (gs : List (List (List Step))) → AreInShapes (group_contours_from 0 gs)
groups_in_shapes gs = record {
  numbered = λ i n c at is. let counted = number_at 0 cs numbers i n c at is in omega (arith, counted);
  none_free = λ i c at is. false≢true (sym (none_free 0 gs c (Contains-place cs i c at)) ∙ ap is_free_hole is);
}
  where
    cs : List Contour
    cs = group_contours_from 0 gs

    numbers : AreNumbers 0 cs
    numbers = subst (AreNumbers 0) (append-nil cs) (groups_numbered 0 gs [] (λ k. tt))

-- ---- one more

-- the role of a walk of a group, behind these
abbrev pub role_next : ℕ → List (List Step) → Role
role_next n [] = outline n
role_next n (o ∷ hs) = own_hole n

-- by how many places come before it
pub role_of_next : (f : ℕ → List Step) (n i : ℕ) (ps : List ℕ) → i < length ps →
    role_next n (map f (take i ps)) ≡ role_at n i
role_of_next f n zero ps inside = refl
role_of_next f n (suc i) [] inside = absurd (elim inside [ ])
role_of_next f n (suc i) (p ∷ ps) inside =
    let later : (suc i == 0) ≡ false = grind arith in
    sym (ap (λ t. cond t (outline n) (own_hole n)) later)

-- there is a walk
abbrev pub HasWalks : List (List Step) → Type 0
HasWalks ws = 0 < length ws

-- a walk more of a group
pub group_longer : (n : ℕ) (ws : List (List Step)) (w : List Step) → contours_of_group n (ws ++ w ∷ [])
    ≡ contours_of_group n ws ++ (record { role = role_next n ws; steps = w }) ∷ []
group_longer n [] w = refl
group_longer n (o ∷ hs) w = ap (λ cs. outline_of n o ∷ cs) (map-append (hole_of_group n) hs (w ∷ []))

-- a group more
pub groups_longer : (n : ℕ) (gs : List (List (List Step))) (ws : List (List Step)) → All HasWalks gs → HasWalks ws →
    group_contours_from n (gs ++ ws ∷ []) ≡ group_contours_from n gs ++ contours_of_group (n + length gs) ws
groups_longer n [] [] all has = absurd (elim has [ ])
groups_longer n [] (o ∷ hs) all has =
    let same : n ≡ n + 0 = omega arith in
    append-nil (contours_of_group n (o ∷ hs)) ∙ ap (λ k. contours_of_group k (o ∷ hs)) same
groups_longer n ([] ∷ gs) ws all has = absurd (elim (all 0 [] (omega arith)) [ ])
groups_longer n ((o ∷ hs) ∷ gs) ws all has =
    let same : suc n + length gs ≡ n + suc (length gs) = omega arith in
    ap (λ cs. contours_of_group n (o ∷ hs) ++ cs)
    (groups_longer (suc n) gs ws (λ k d inside. all (suc k) d (omega (arith, inside))) has)
    ∙ sym (append_assoc (contours_of_group n (o ∷ hs)) (group_contours_from (suc n) gs)
    (contours_of_group (suc n + length gs) ws))
    ∙ ap (λ k. (contours_of_group n (o ∷ hs) ++ group_contours_from (suc n) gs) ++ contours_of_group k ws) same

-- ---- the walks

-- a test that all pass keeps all
all_kept : (gs : List (List (List Step))) → All HasWalks gs → flat_map (kept_group (λ w. true)) gs ≡ gs
all_kept [] all = refl
all_kept ([] ∷ gs) all = absurd (elim (all 0 [] (omega arith)) [ ])
all_kept ((o ∷ hs) ∷ gs) all = ap₂ (λ ws rest. (o ∷ ws) ∷ rest) (filter-all hs)
    (all_kept gs (λ k d inside. all (suc k) d (omega (arith, inside))))

-- they are those of the groups
pub walks_of_groups : (gs : List (List (List Step))) → All HasWalks gs →
    walks_in (group_contours_from 0 gs) ≡ walks_of gs
walks_of_groups gs all =
    ap walks_in (sym (append-nil (group_contours_from 0 gs))
    ∙ ap (λ ds. group_contours_from 0 ds ++ []) (sym (all_kept gs all)))
    ∙ grouped_walks (λ w. true) gs [] ∙ append-nil (walks_of (flat_map (kept_group (λ w. true)) gs))
    ∙ ap walks_of (all_kept gs all)

-- ---- shapes

-- each shape to which contours are bound has its outline
begun_alone : (bound cs : List BoundContour) →
    All HasWalks (flat_map (λ b. shape_begun_by bound b.contour.role b.contour.steps) cs)
begun_alone bound [] = All-nil HasWalks
begun_alone bound (c ∷ cs) = by c.contour.role (begun_alone bound cs)
  where
    rest : List (List (List Step))
    rest = flat_map (λ b. shape_begun_by bound b.contour.role b.contour.steps) cs

    by : (r : Role) → All HasWalks rest → All HasWalks (shape_begun_by bound r c.contour.steps ++ rest)
    by (outline n) all = All-cons HasWalks (c.contour.steps ∷ own_holes bound n ++ found_holes bound n) rest
        (omega arith) all
    by (own_hole n) all = all
    by free_hole all = all

pub shapes_have_walks : (bound : List BoundContour) → All HasWalks (shapes_bound bound)
shapes_have_walks bound = begun_alone bound bound

-- where each list of places has one, each shape has a walk
pub shapes_placed : (contours : List Contour) (places : List (List ℕ)) → AreBegun places →
    All HasWalks (walks_at contours places)
shapes_placed contours places begun = All-map HasWalks (map (walk_at contours)) places (λ k d inside.
    let long = length-map (get_or places k d) (walk_at contours) in
    let here = begun k d inside in omega (arith, long, here))

-- each list of places has a place if its shape has walks
pub places_begin : (contours : List Contour) (places : List (List ℕ)) → All HasWalks (walks_at contours places) →
    AreBegun places
places_begin contours places all k d inside =
    let long = length-map places (map (walk_at contours)) in
    let here = all k [] (omega (arith, inside, long)) in
    let same = ap length (get_or-map (map (walk_at contours)) places k d [] inside)
    ∙ length-map (get_or places k d) (walk_at contours) in
    omega (arith, here, same)
