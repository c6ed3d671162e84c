-- A walk and the walk back: what the walk back is cut into, turned round, is what the walk is cut into.
use Rattle.std.proofs.Common.{◌≡◌, List, [], ◌∷◌, ◌++◌, map, take, drop, All, Contains}
use Rattle.std.proofs.Common.{refl, sym, ap, ◌∙◌, subst, arith}
use Rattle.std.specs.List.Sorted.{IsPermutation}
use Rattle.std.proofs.lemmas.List.{map-append, length-map, take-append-drop}
use Rattle.std.proofs.lemmas.List.Elements.{All-map, All-weaker}
use Rattle.std.proofs.lemmas.List.Sorted.{IsPermutation-refl, IsPermutation-trans, IsPermutation-map}
use Rattle.std.proofs.lemmas.List.Sorted.{IsPermutation-append, IsPermutation-append_comm, IsPermutation-reverse}
use Rattle.std.proofs.lemmas.List.Sorted.{length_permutation, All-permutation}
use Rattle.std.proofs.lemmas.Simd.{map-map}
use Rattle.overlay_geom.specs.Plane.{Point, Step, point_eq, points_of, reversed_step, backward}
use Rattle.overlay_geom.proofs.Orders.{point_eq-same, point_eq-of_same}
use Rattle.overlay_plane.specs.Contours.{all_steps}
use Rattle.overlay_plane.specs.Groups.{HasEachPointOnce, IsSimpleContour}
use Rattle.overlay_plane.proofs.ContourSteps.{contour_long}
use Rattle.overlay_plane.proofs.Entries.{all_of_entries, Contains-map}
use Rattle.overlay_plane.proofs.ShuffledPairs.{pairs_shuffled}
use Rattle.overlay_extract.specs.ClosedWalks.{LeadsTo, IsClosedWalk, HasLength, IsCutIntoLoops}
use Rattle.overlay_extract.specs.ClosedWalks.{turned_loop}
use Rattle.overlay_extract.proofs.ClosedWalks.{leads-append, leads-parts, leads-push, closed_is_simple}
use Rattle.overlay_extract.proofs.OrbitTours.{contour_closed}
use Rattle.overlay_plane.proofs.ChainWalks.{backward-first}

-- ---- the walk back

-- it leads back
pub leads_back : (p q : Point) (ss : List Step) → LeadsTo p ss q → LeadsTo q (backward ss) p
leads_back p q [] h = sym h
leads_back p q (s ∷ ss) h = subst (λ ts. LeadsTo q ts p) (sym (backward-first s ss))
    (subst (LeadsTo q (backward ss ++ reversed_step s ∷ [])) h.0
    (leads-push q (backward ss) (reversed_step s) (leads_back s.to q ss h.1)))

-- and so from another point of it, where it is closed
pub rotated_leads : (p : Point) (xs ys : List Step) → LeadsTo p (xs ++ ys) p → (q : Point) × LeadsTo q (ys ++ xs) q
rotated_leads p xs ys h =
    let parts = leads-parts p p xs ys h in
    (parts.0, leads-append parts.0 p parts.0 ys xs parts.2 parts.1)

-- a list begun at a later place
pub rotated : (k : _) (xs : List Step) → IsPermutation xs (drop k xs ++ take k xs)
rotated k xs = subst (λ zs. IsPermutation zs (drop k xs ++ take k xs)) (take-append-drop k xs)
    (IsPermutation-append_comm (take k xs) (drop k xs))

-- back and back again each step is the one that it was
pub again : (ss : List Step) → map reversed_step (map reversed_step ss) ≡ ss
again [] = refl
again (s ∷ ss) = ap (λ ts. s ∷ ts) (again ss)

-- the walk back has the steps back
pub backward_steps : (ss : List Step) → IsPermutation (map reversed_step ss) (backward ss)
backward_steps ss = IsPermutation-reverse (map reversed_step ss)

-- the steps back of the walk back are those of the walk
pub steps_again : (ss : List Step) → IsPermutation ss (map reversed_step (backward ss))
steps_again ss = subst (λ zs. IsPermutation zs (map reversed_step (backward ss))) (again ss)
    (IsPermutation-map reversed_step (map reversed_step ss) (backward ss) (backward_steps ss))

-- ---- a loop turned round

pub turned_steps : (loop : List Step) → IsPermutation (map reversed_step loop) (turned_loop loop)
turned_steps loop = IsPermutation-trans (map reversed_step loop) (backward loop) (turned_loop loop)
    (backward_steps loop) (rotated 1 (backward loop))

-- the points at which the steps of a walk end
pub ends_of_walk : (s : Step) (ss : List Step) (q : Point) → LeadsTo s.to ss q →
    map (λ (t : Step). t.to) (s ∷ ss) ≡ points_of ss ++ q ∷ []
ends_of_walk s [] q h = ap (λ p. p ∷ []) h
ends_of_walk s (t ∷ ts) q h = ap (λ p. p ∷ map (λ (u : Step). u.to) (t ∷ ts)) (sym h.0)
    ∙ ap (λ ps. t.from ∷ ps) (ends_of_walk t ts q h.1)

-- in a closed walk they are those at which they begin
pub ends_are_starts : (p : Point) (walk : List Step) → LeadsTo p walk p →
    IsPermutation (points_of walk) (map (λ (t : Step). t.to) walk)
ends_are_starts p [] h = IsPermutation-refl []
ends_are_starts p (s ∷ ss) h = subst (IsPermutation (points_of (s ∷ ss)))
    (sym (ends_of_walk s ss s.from (subst (LeadsTo s.to ss) (sym h.0) h.1)))
    (IsPermutation-append_comm (s.from ∷ []) (points_of ss))

-- so the loop turned round visits no point twice
pub turned_simple : (loop : List Step) → IsSimpleContour loop → IsSimpleContour (turned_loop loop)
turned_simple loop simple = closed_is_simple (turned_loop loop) round.0
    (let three = simple.contour.three in
    let more = length_permutation (map reversed_step loop) (turned_loop loop) (turned_steps loop) in
    let same = length-map loop reversed_step in omega arith) long round.1 points_once
  where
    closed : IsClosedWalk loop
    closed = contour_closed loop simple.contour

    back : LeadsTo closed.start (backward loop) closed.start
    back = leads_back closed.start closed.start loop closed.leads_back

    round : (q : Point) × LeadsTo q (turned_loop loop) q
    round = rotated_leads closed.start (take 1 (backward loop)) (drop 1 (backward loop))
        (subst (λ ss. LeadsTo closed.start ss closed.start) (sym (take-append-drop 1 (backward loop))) back)

    long : All HasLength (turned_loop loop)
    long = All-permutation HasLength (map reversed_step loop) (turned_loop loop) (turned_steps loop)
        (All-map HasLength reversed_step loop (all_of_entries (λ s. HasLength (reversed_step s)) loop
        (λ s c same. contour_long loop simple.contour s c (sym same))))

    moved : IsPermutation (points_of loop) (points_of (turned_loop loop))
    moved = IsPermutation-trans (points_of loop) (map (λ (t : Step). t.to) loop) (points_of (turned_loop loop))
        (ends_are_starts closed.start loop closed.leads_back)
        (subst (λ ps. IsPermutation ps (points_of (turned_loop loop)))
        (map-map (λ (t : Step). t.from) reversed_step loop)
        (IsPermutation-map (λ (t : Step). t.from) (map reversed_step loop) (turned_loop loop) (turned_steps loop)))

    points_once : HasEachPointOnce (points_of (turned_loop loop))
    points_once = pairs_shuffled point_eq (λ p r same. point_eq-of_same r p (sym (point_eq-same p r same)))
        (points_of loop) (points_of (turned_loop loop)) moved simple.points_once

-- ---- what the walk back is cut into

turned_all : (loops : List (List Step)) →
    IsPermutation (map reversed_step (all_steps loops)) (all_steps (map turned_loop loops))
turned_all [] = IsPermutation-refl []
turned_all (l ∷ ls) = subst (λ zs. IsPermutation zs (turned_loop l ++ all_steps (map turned_loop ls)))
    (sym (map-append reversed_step l (all_steps ls)))
    (IsPermutation-append (map reversed_step l) (turned_loop l) (map reversed_step (all_steps ls))
    (all_steps (map turned_loop ls)) (turned_steps l) (turned_all ls))

pub cut_turned : (walk : List Step) (loops : List (List Step)) → IsCutIntoLoops (backward walk) loops →
    IsCutIntoLoops walk (map turned_loop loops)
cut_turned walk loops cut = record {
  dropped = map reversed_step cut.dropped;
  each_once = IsPermutation-trans walk (map reversed_step (backward walk))
      (all_steps (map turned_loop loops) ++ map reversed_step cut.dropped) (steps_again walk)
      (IsPermutation-trans (map reversed_step (backward walk)) (map reversed_step (all_steps loops ++ cut.dropped))
      (all_steps (map turned_loop loops) ++ map reversed_step cut.dropped)
      (IsPermutation-map reversed_step (backward walk) (all_steps loops ++ cut.dropped) cut.each_once)
      (subst (λ zs. IsPermutation zs (all_steps (map turned_loop loops) ++ map reversed_step cut.dropped))
      (sym (map-append reversed_step (all_steps loops) cut.dropped))
      (IsPermutation-append (map reversed_step (all_steps loops)) (all_steps (map turned_loop loops))
      (map reversed_step cut.dropped) (map reversed_step cut.dropped) (turned_all loops)
      (IsPermutation-refl (map reversed_step cut.dropped)))));
  both_ways = All-map (λ s. Contains (map reversed_step cut.dropped) (reversed_step s)) reversed_step cut.dropped
      (All-weaker (λ s. Contains cut.dropped (reversed_step s))
      (λ s. Contains (map reversed_step cut.dropped) (reversed_step (reversed_step s)))
      (λ s c. Contains-map reversed_step cut.dropped (reversed_step s) c) cut.dropped cut.both_ways);
  simple = All-map IsSimpleContour turned_loop loops
      (All-weaker IsSimpleContour (λ l. IsSimpleContour (turned_loop l)) turned_simple loops cut.simple);
}

-- the walk back is closed where the walk is, and its steps have a length where those have one
pub backward_closed : (walk : List Step) → IsClosedWalk walk → IsClosedWalk (backward walk)
backward_closed walk closed = record {
  start = closed.start;
  leads_back = leads_back closed.start closed.start walk closed.leads_back;
}

pub backward_long : (walk : List Step) → All HasLength walk → All HasLength (backward walk)
backward_long walk long = All-permutation HasLength (map reversed_step walk) (backward walk) (backward_steps walk)
    (All-map HasLength reversed_step walk (All-weaker HasLength (λ s. HasLength (reversed_step s))
    (λ s has same. has (sym same)) walk long))
