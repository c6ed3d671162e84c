-- The paths of pieces take each piece once, and their points tell of their steps.
use Rattle.std.proofs.Common.{◌≡◌, ◌≢◌, Bool, true, false, cond, List, [], ◌∷◌, ◌++◌, map, Contains, refl, sym, ap, ap₂}
use Rattle.std.proofs.Common.{subst, ◌∙◌}
use Rattle.std.specs.List.Sorted.{IsPermutation}
use Rattle.std.proofs.lemmas.List.{append_assoc, map-append}
use Rattle.std.proofs.lemmas.List.Elements.{Contains-append_left, Contains-append_right}
use Rattle.std.proofs.lemmas.List.Sorted.{IsPermutation-refl, IsPermutation-trans, IsPermutation-sym}
use Rattle.std.proofs.lemmas.List.Sorted.{IsPermutation-cons}
use Rattle.std.proofs.lemmas.List.Sorted.{IsPermutation-append_left, IsPermutation-append_right, IsPermutation-middle}
use Rattle.std.proofs.lemmas.List.Sorted.{IsPermutation-map, IsPermutation-reverse, Contains-permutation}
use Rattle.overlay_geom.specs.Plane.{Point, Step, point_eq, reversed_step, backward, steps_between, steps_through}
use Rattle.overlay_geom.specs.Plane.{path_steps}
use Rattle.overlay_geom.proofs.Entries.{Contains-head, Contains-later}
use Rattle.overlay_geom.proofs.Orders.{point_eq-same}
use Rattle.overlay_plane.specs.Contours.{all_steps}
use Rattle.overlay_plane.proofs.ChainWalks.{Goes, goes_backward}
use Rattle.overlay_string.specs.ClipPaths.{TakesFirst, IsWalkFrom, IsPathOf, AreClipPaths, ArePathsOf, points_along}
use Rattle.overlay_string.specs.ClipPaths.IsWalkFrom.{stop, go}
use Rattle.overlay_string.specs.ClipPaths.IsPathOf.{begun, ended}
use Rattle.overlay_string.specs.ClipPaths.AreClipPaths.{done, next}
use Rattle.overlay_string.specs.Laws.{steps_of_paths}
use Rattle.overlay_extract.proofs.TurnedLoops.{again}

-- ---- each piece once

-- what is taken, and what stays
taken_once : (v : Point) (open_pieces : List Step) (s : Step) (left : List Step) → TakesFirst v open_pieces s left →
    IsPermutation open_pieces (s ∷ left)
taken_once v open_pieces s left h = subst (λ l. IsPermutation l (s ∷ left)) (sym h.parts)
    (subst (λ l. IsPermutation (h.before ++ s ∷ h.after) (s ∷ l)) (sym h.stays)
    (IsPermutation-middle h.before s h.after))

-- a walk, and what it leaves
walked_once : (v : Point) (open_pieces walk rest : List Step) → IsWalkFrom v open_pieces walk rest →
    IsPermutation open_pieces (walk ++ rest)
walked_once v open_pieces walk rest (stop none) = IsPermutation-refl open_pieces
walked_once v open_pieces walk rest (go {left} {walk = ws} {s} taken h) =
    IsPermutation-trans open_pieces (s ∷ left) (s ∷ (ws ++ rest)) (taken_once v open_pieces s left taken)
    (IsPermutation-cons s left (ws ++ rest) (walked_once s.to left ws rest h))

-- a walk among the pieces turned back, and what it leaves
walked_back_once : (v : Point) (open_pieces walk rest : List Step) →
    IsWalkFrom v (map reversed_step open_pieces) walk (map reversed_step rest) →
    IsPermutation open_pieces (backward walk ++ rest)
walked_back_once v open_pieces walk rest h =
    IsPermutation-trans open_pieces (map reversed_step walk ++ rest) (backward walk ++ rest)
    (subst (λ l. IsPermutation l (map reversed_step walk ++ rest)) (again open_pieces)
    (subst (λ l. IsPermutation (map reversed_step (map reversed_step open_pieces)) l)
    (map-append reversed_step walk (map reversed_step rest)
    ∙ ap (λ l. map reversed_step walk ++ l) (again rest))
    (IsPermutation-map reversed_step (map reversed_step open_pieces) (walk ++ map reversed_step rest)
    (walked_once v (map reversed_step open_pieces) walk (map reversed_step rest) h))))
    (IsPermutation-append_left rest (map reversed_step walk) (backward walk)
    (IsPermutation-reverse (map reversed_step walk)))

-- a path, and what it leaves
path_once : (s : Step) (open_pieces path rest : List Step) → IsPathOf s open_pieces path rest →
    IsPermutation (s ∷ open_pieces) (path ++ rest)
path_once s open_pieces path rest (begun {walk} forward h) =
    IsPermutation-cons s open_pieces (walk ++ rest) (walked_once s.to open_pieces walk rest h)
path_once s open_pieces path rest (ended {walk} back h) =
    subst (λ l. IsPermutation (s ∷ open_pieces) l) (sym (append_assoc (backward walk) (s ∷ []) rest))
    (IsPermutation-trans (s ∷ open_pieces) (s ∷ (backward walk ++ rest)) (backward walk ++ s ∷ rest)
    (IsPermutation-cons s open_pieces (backward walk ++ rest) (walked_back_once s.from open_pieces walk rest h))
    (IsPermutation-sym (backward walk ++ s ∷ rest) (s ∷ (backward walk ++ rest))
    (IsPermutation-middle (backward walk) s rest)))

-- all paths
paths_once : (pieces : List Step) (walks : List (List Step)) → AreClipPaths pieces walks →
    IsPermutation pieces (all_steps walks)
paths_once pieces walks done = IsPermutation-refl []
paths_once pieces walks (next {s} {open_pieces} {path} {rest} {paths} p h) =
    IsPermutation-trans (s ∷ open_pieces) (path ++ rest) (path ++ all_steps paths) (path_once s open_pieces path rest p)
    (IsPermutation-append_right path rest (all_steps paths) (paths_once rest paths h))

-- ---- points and steps

-- where steps from v come to
abbrev end_from : Point → List Step → Point
end_from v [] = v
end_from v (s ∷ ss) = end_from s.to ss

-- a walk goes on
walk_goes : (v : Point) (open_pieces walk rest : List Step) → IsWalkFrom v open_pieces walk rest →
    Goes v walk (end_from v walk)
walk_goes v open_pieces walk rest (stop none) = refl
walk_goes v open_pieces walk rest (go {left} {walk = ws} {s} taken h) =
    (taken.leaves, walk_goes s.to left ws rest h)

-- and on by one step more
goes_to : (p : Point) (ss : List Step) (t : Step) → Goes p ss t.from → Goes p (ss ++ t ∷ []) t.to
goes_to p [] t same = (sym same, refl)
goes_to p (s ∷ ss) t on = (on.0, goes_to s.to ss t on.1)

-- each step is one between two points
abbrev AreLong : List Step → Type 0
AreLong ss = (s : Step) → Contains ss s → s.from ≢ s.to

-- the step between the ends of a step
between_ends : (s : Step) → s.from ≢ s.to → steps_between s.from s.to ≡ s ∷ []
between_ends s long = by (point_eq s.from s.to) refl
  where
    by : (t : Bool) → point_eq s.from s.to ≡ t → cond t [] (record { from = s.from; to = s.to } ∷ []) ≡ s ∷ []
    by true same = absurd (long (point_eq-same s.from s.to same))
    by false apart = refl

-- the steps through the points at which steps arrive are these steps
through_arrivals : (p : Point) (ss : List Step) (q : Point) → Goes p ss q → AreLong ss →
    steps_through p (map (λ t. t.to) ss) ≡ ss
through_arrivals p [] q on long = refl
through_arrivals p (s ∷ ss) q on long =
    ap₂ (λ a b. a ++ b)
    (subst (λ u. steps_between u s.to ≡ s ∷ []) on.0 (between_ends s (long s (Contains-head s ss))))
    (through_arrivals s.to ss q on.1 (λ t c. long t (Contains-later s ss t c)))

steps_along : (p : Point) (ss : List Step) (q : Point) → Goes p ss q → AreLong ss → path_steps (points_along ss) ≡ ss
steps_along p [] q on long = refl
steps_along p (s ∷ ss) q on long = through_arrivals s.from (s ∷ ss) q (refl, on.1) long

-- the points of a path tell of its steps
path_shown : (s : Step) (open_pieces path rest : List Step) → IsPathOf s open_pieces path rest → AreLong path →
    path_steps (points_along path) ≡ path
path_shown s open_pieces path rest (begun {walk} forward h) long =
    steps_along s.from (s ∷ walk) (end_from s.to walk) (refl, walk_goes s.to open_pieces walk rest h) long
path_shown s open_pieces path rest (ended {walk} back h) long =
    steps_along (end_from s.from walk) (backward walk ++ s ∷ []) s.to
    (goes_to (end_from s.from walk) (backward walk) s
    (goes_backward s.from walk (end_from s.from walk)
    (walk_goes s.from (map reversed_step open_pieces) walk (map reversed_step rest) h)))
    long

-- and so do those of all paths
paths_shown : (pieces : List Step) (walks : List (List Step)) → AreClipPaths pieces walks → AreLong (all_steps walks) →
    steps_of_paths (map points_along walks) ≡ all_steps walks
paths_shown pieces walks done long = refl
paths_shown pieces walks (next {s} {open_pieces} {path} {rest} {paths} p h) long =
    ap₂ (λ a b. a ++ b)
    (path_shown s open_pieces path rest p (λ t c. long t (Contains-append_left path (all_steps paths) t c)))
    (paths_shown rest paths h (λ t c. long t (Contains-append_right path (all_steps paths) t c)))

-- so where each piece is a step between two points, the steps of the paths are the pieces, each once
pub pieces_in_paths : (pieces : List Step) (paths : List (List Point)) → AreLong pieces → ArePathsOf pieces paths →
    IsPermutation pieces (steps_of_paths paths)
pieces_in_paths pieces paths long h =
    subst (IsPermutation pieces)
    (sym (ap steps_of_paths h.shown
    ∙ paths_shown pieces h.walks h.joined (λ t c. long t (Contains-permutation (all_steps h.walks) pieces t
    (IsPermutation-sym pieces (all_steps h.walks) moved) c))))
    moved
  where
    moved : IsPermutation pieces (all_steps h.walks)
    moved = paths_once pieces h.walks h.joined
