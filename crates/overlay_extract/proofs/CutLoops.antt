-- What is walked so far, cut into loops: a loop is cut off where the walk comes back to a point, and what is left at
-- the end is the last one.
use Rattle.std.proofs.Common.{◌≡◌, ℕ, ◌+◌, ◌<◌, ◌≤◌, false}
use Rattle.std.proofs.Common.{List, [], ◌∷◌, ◌++◌, length, take, drop, All, Contains, refl, sym, ap, ◌∙◌, subst, arith}
use Rattle.std.specs.List.Sorted.{IsPermutation}
use Rattle.std.proofs.lemmas.List.{append_assoc, append-nil, length-append, map-append, take-append-drop, drop_more}
use Rattle.std.proofs.lemmas.List.Concat.{flat_map-append}
use Rattle.std.proofs.lemmas.List.Elements.{All-nil, All-cons, All-head, All-push, All-append, All-weaker, All-contains}
use Rattle.std.proofs.lemmas.List.Elements.{Contains-append_left, Contains-append_right}
use Rattle.std.proofs.lemmas.List.Sorted.{IsPermutation-refl, IsPermutation-trans}
use Rattle.std.proofs.lemmas.List.Sorted.{IsPermutation-append_left, IsPermutation-append_right}
use Rattle.std.proofs.lemmas.List.Sorted.{IsPermutation-append_comm, IsPermutation-map, All-permutation}
use Rattle.overlay_geom.specs.Plane.{Point, Step, point_eq, points_of, reversed_step}
use Rattle.overlay_geom.proofs.Entries.{Contains-head, Contains-later}
use Rattle.overlay_geom.proofs.Orders.{point_eq-same, point_eq-of_same}
use Rattle.overlay_plane.specs.Contours.{all_steps}
use Rattle.overlay_plane.specs.Groups.{HasEachPointOnce, IsSimpleContour}
use Rattle.overlay_plane.specs.Turn.{no_step}
use Rattle.overlay_plane.proofs.Entries.{All-first, All-rest, all_of_entries, Contains-map, Contains-from_map}
use Rattle.overlay_plane.proofs.KeptWalks.{Each-first, Each-second, Each-across}
use Rattle.overlay_plane.proofs.LaterEntries.{Each, Each-push, Each-from_all_pairs, AllPairs-from_each}
use Rattle.overlay_plane.proofs.ShuffledPairs.{pairs_shuffled}
use Rattle.overlay_extract.specs.ClosedWalks.{LeadsTo, HasLength, HasEachBothWays, IsCutIntoLoops, IsCutSoFar}
use Rattle.overlay_extract.specs.ClosedWalks.{NoneLeaves}
use Rattle.overlay_walk.specs.Places.{step_at}
use Rattle.overlay_extract.proofs.ClosedWalks.{leads-parts, leads-push, leads-begins, closed_is_simple}

-- ---- lists

-- the points of a walk in two parts
points_in_parts : (xs ys : List Step) → HasEachPointOnce (points_of (xs ++ ys)) →
    Each (λ p q. point_eq p q ≡ false) (points_of xs ++ points_of ys)
points_in_parts xs ys once = subst (Each (λ p q. point_eq p q ≡ false)) (map-append (λ (s : Step). s.from) xs ys)
    (Each-from_all_pairs (λ p q. point_eq p q ≡ false) (points_of (xs ++ ys)) once)

points_once_first : (xs ys : List Step) → HasEachPointOnce (points_of (xs ++ ys)) → HasEachPointOnce (points_of xs)
points_once_first xs ys once = AllPairs-from_each (λ p q. point_eq p q ≡ false) (points_of xs)
    (Each-first (λ p q. point_eq p q ≡ false) (points_of xs) (points_of ys) (points_in_parts xs ys once))

points_once_rest : (xs ys : List Step) → HasEachPointOnce (points_of (xs ++ ys)) → HasEachPointOnce (points_of ys)
points_once_rest xs ys once = AllPairs-from_each (λ p q. point_eq p q ≡ false) (points_of ys)
    (Each-second (λ p q. point_eq p q ≡ false) (points_of xs) (points_of ys) (points_in_parts xs ys once))

-- the steps of one more loop
pub all_steps-push : (loops : List (List Step)) (loop : List Step) →
    all_steps (loops ++ loop ∷ []) ≡ all_steps loops ++ loop
all_steps-push loops loop = flat_map-append (λ (l : List Step). l) loops (loop ∷ [])
    ∙ ap (λ ss. all_steps loops ++ ss) (append-nil loop)

-- in a list of four parts the last one may stand second
moved_up : {X : Type 0} (ls ds xs ys zs : List X) → IsPermutation ys zs →
    IsPermutation (ls ++ (ds ++ (xs ++ ys))) ((ls ++ zs) ++ (ds ++ xs))
moved_up ls ds xs ys zs moved = subst (IsPermutation (ls ++ (ds ++ (xs ++ ys)))) (sym (append_assoc ls zs (ds ++ xs)))
    (IsPermutation-append_right ls (ds ++ (xs ++ ys)) (zs ++ (ds ++ xs))
    (subst (λ l. IsPermutation l (zs ++ (ds ++ xs))) (append_assoc ds xs ys)
    (IsPermutation-trans ((ds ++ xs) ++ ys) (ys ++ (ds ++ xs)) (zs ++ (ds ++ xs))
    (IsPermutation-append_comm (ds ++ xs) ys) (IsPermutation-append_left (ds ++ xs) ys zs moved))))

-- ---- on the way

-- nothing is walked
pub cut_begun : (p : Point) → IsCutSoFar p p [] [] []
cut_begun p = record {
  dropped = [];
  each_once = IsPermutation-refl [];
  both_ways = All-nil (λ s. Contains [] (reversed_step s));
  simple = All-nil IsSimpleContour;
  leads = refl;
  long = All-nil HasLength;
  points_once = λ i j d before inside. absurd (omega arith);
}

-- a step by its ends
step_by_ends : (s t : Step) → s.from ≡ t.from → s.to ≡ t.to → s ≡ t
step_by_ends s t p q = λ i. record { from = p i; to = q i }

-- a walk that leads back to its start by two steps leads there and back
there_and_back : (v : Point) (s t : Step) → LeadsTo v (s ∷ t ∷ []) v → HasEachBothWays (s ∷ t ∷ [])
there_and_back v s t h = All-cons P s (t ∷ []) (subst (Contains (s ∷ t ∷ [])) back
    (Contains-later s (t ∷ []) t (Contains-head t [])))
    (All-cons P t [] (subst (Contains (s ∷ t ∷ [])) forth (Contains-head s (t ∷ []))) (All-nil P))
  where
    P : Step → Type 0
    P u = Contains (s ∷ t ∷ []) (reversed_step u)

    back : t ≡ reversed_step s
    back = step_by_ends t (reversed_step s) h.1.0 (h.1.1 ∙ sym h.0)

    forth : s ≡ reversed_step t
    forth = step_by_ends s (reversed_step t) (h.0 ∙ sym h.1.1) (sym h.1.0)

-- a closed walk of fewer than three steps has each both ways
short_both_ways : (v : Point) (walk : List Step) → All HasLength walk → LeadsTo v walk v → length walk < 3 →
    HasEachBothWays walk
short_both_ways v [] long h short = All-nil (λ s. Contains [] (reversed_step s))
short_both_ways v (s ∷ []) long h short = absurd (All-head HasLength s [] long (h.0 ∙ sym h.1))
short_both_ways v (s ∷ t ∷ []) long h short = there_and_back v s t h
short_both_ways v (s ∷ t ∷ u ∷ us) long h short = absurd (omega arith)

-- with more steps, each that stood both ways does so
both_ways_joined : (xs ys : List Step) → HasEachBothWays xs → HasEachBothWays ys → HasEachBothWays (xs ++ ys)
both_ways_joined xs ys h k = All-append (λ s. Contains (xs ++ ys) (reversed_step s)) xs ys
    (All-weaker (λ s. Contains xs (reversed_step s)) (λ s. Contains (xs ++ ys) (reversed_step s))
    (λ s c. Contains-append_left xs ys (reversed_step s) c) xs h)
    (All-weaker (λ s. Contains ys (reversed_step s)) (λ s. Contains (xs ++ ys) (reversed_step s))
    (λ s c. Contains-append_right xs ys (reversed_step s) c) ys k)

module _ (start v : Point) (walked xs ys : List Step) (loops : List (List Step))
    (so_far : IsCutSoFar start v walked (xs ++ ys) loops) where
  -- a walk there and back is dropped
  pub cut_short : LeadsTo start xs v → LeadsTo v ys v → length ys < 3 → IsCutSoFar start v walked xs loops
  cut_short to_v back short = record {
    dropped = ys ++ so_far.dropped;
    each_once = IsPermutation-trans walked (all_steps loops ++ (so_far.dropped ++ (xs ++ ys)))
        (all_steps loops ++ ((ys ++ so_far.dropped) ++ xs)) so_far.each_once
        (subst (IsPermutation (all_steps loops ++ (so_far.dropped ++ (xs ++ ys))))
        (append_assoc (all_steps loops) ys (so_far.dropped ++ xs)
        ∙ ap (λ l. all_steps loops ++ l) (sym (append_assoc ys so_far.dropped xs)))
        (moved_up (all_steps loops) so_far.dropped xs ys ys (IsPermutation-refl ys)));
    both_ways = both_ways_joined ys so_far.dropped
        (short_both_ways v ys (All-rest HasLength xs ys so_far.long) back short) so_far.both_ways;
    simple = so_far.simple;
    leads = to_v;
    long = All-first HasLength xs ys so_far.long;
    points_once = points_once_first xs ys so_far.points_once;
  }

  -- a longer one is a loop, wherever it is said to begin
  pub cut_loop : (loop : List Step) (q : Point) → IsPermutation ys loop → LeadsTo q loop q → LeadsTo start xs v →
      3 ≤ length loop → IsCutSoFar start v walked xs (loops ++ loop ∷ [])
  cut_loop loop q moved round to_v three = record {
    dropped = so_far.dropped;
    each_once = subst (λ ls. IsPermutation walked (ls ++ (so_far.dropped ++ xs))) (sym (all_steps-push loops loop))
        (IsPermutation-trans walked (all_steps loops ++ (so_far.dropped ++ (xs ++ ys)))
        ((all_steps loops ++ loop) ++ (so_far.dropped ++ xs)) so_far.each_once
        (moved_up (all_steps loops) so_far.dropped xs ys loop moved));
    both_ways = so_far.both_ways;
    simple = All-push IsSimpleContour loops loop so_far.simple (closed_is_simple loop q three
        (All-permutation HasLength ys loop moved (All-rest HasLength xs ys so_far.long)) round
        (pairs_shuffled point_eq (λ p r same. point_eq-of_same r p (sym (point_eq-same p r same)))
        (points_of ys) (points_of loop) (IsPermutation-map (λ (s : Step). s.from) ys loop moved)
        (points_once_rest xs ys so_far.points_once)));
    leads = to_v;
    long = All-first HasLength xs ys so_far.long;
    points_once = points_once_first xs ys so_far.points_once;
  }

-- the walk goes on by a step from a point that it has not visited before
pub cut_goes_on : (start : Point) (walked path : List Step) (loops : List (List Step)) (s : Step) → HasLength s →
    IsCutSoFar start s.from walked path loops → NoneLeaves s.from path →
    IsCutSoFar start s.to (walked ++ s ∷ []) (path ++ s ∷ []) loops
cut_goes_on start walked path loops s long so_far new = record {
  dropped = so_far.dropped;
  each_once = subst (IsPermutation (walked ++ s ∷ []))
      (append_assoc (all_steps loops) (so_far.dropped ++ path) (s ∷ [])
      ∙ ap (λ l. all_steps loops ++ l) (append_assoc so_far.dropped path (s ∷ [])))
      (IsPermutation-append_left (s ∷ []) walked (all_steps loops ++ (so_far.dropped ++ path)) so_far.each_once);
  both_ways = so_far.both_ways;
  simple = so_far.simple;
  leads = leads-push start path s so_far.leads;
  long = All-push HasLength path s so_far.long long;
  points_once = subst HasEachPointOnce (sym (map-append (λ (t : Step). t.from) path (s ∷ [])))
      (AllPairs-from_each (λ p q. point_eq p q ≡ false) (points_of path ++ s.from ∷ [])
      (Each-push (λ p q. point_eq p q ≡ false) (points_of path) s.from
      (Each-from_all_pairs (λ p q. point_eq p q ≡ false) (points_of path) so_far.points_once) others));
}
  where
    others : (p : Point) → Contains (points_of path) p → point_eq p s.from ≡ false
    others p c = let own = Contains-from_map (λ (t : Step). t.from) path p c in
        subst (λ q. point_eq q s.from ≡ false) own.2
        (All-contains (λ t. point_eq t.from s.from ≡ false) path own.0 new own.1)

-- the walk is at its end, back at its start, with nothing left on its path
pub cut_ended : (start : Point) (walked : List Step) (loops : List (List Step)) →
    IsCutSoFar start start walked [] loops → IsCutIntoLoops walked loops
cut_ended start walked loops so_far = record {
  dropped = so_far.dropped;
  each_once = subst (λ ds. IsPermutation walked (all_steps loops ++ ds)) (append-nil so_far.dropped) so_far.each_once;
  both_ways = so_far.both_ways;
  simple = so_far.simple;
}

-- ---- at a place of the path

module _ (start : Point) (walked path : List Step) (loops : List (List Step)) (k : ℕ) (within : k < length path)
    (so_far : IsCutSoFar start (step_at path k).from walked path loops) where
  -- the path in two parts, before the place and from it on
  abbrev v : Point
  v = (step_at path k).from

  in_parts : IsCutSoFar start v walked (take k path ++ drop k path) loops
  in_parts = subst (λ p. IsCutSoFar start v walked p loops) (sym (take-append-drop k path)) so_far

  from_here : drop k path ≡ step_at path k ∷ drop (k + 1) path
  from_here = drop_more path k no_step within

  -- the first part leads to the point that the step there leaves, and the other one back to it
  both_lead : LeadsTo start (take k path) v × LeadsTo v (drop k path) v
  both_lead =
      let parts = leads-parts start v (take k path) (drop k path) in_parts.leads in
      let here = leads-begins parts.0 v (step_at path k) (drop (k + 1) path)
      (subst (λ p. LeadsTo parts.0 p v) from_here parts.2) in
      (subst (LeadsTo start (take k path)) here parts.1, subst (λ p. LeadsTo p (drop k path) v) here parts.2)

  pub cut_short_at : length (drop k path) < 3 → IsCutSoFar start v walked (take k path) loops
  cut_short_at short = cut_short start v walked (take k path) (drop k path) loops in_parts both_lead.0 both_lead.1 short

  -- the loop, of which the step at the place stands last
  pub cut_loop_at : 3 ≤ length (drop k path) → IsCutSoFar start v walked (take k path)
      (loops ++ (drop 1 (drop k path) ++ take 1 (drop k path)) ∷ [])
  cut_loop_at three = subst (λ (p : List Step). IsCutSoFar start v walked (take k path)
      (loops ++ (drop 1 p ++ take 1 p) ∷ [])) (sym from_here)
      (cut_loop start v walked (take k path) (drop k path) loops in_parts
      (drop (k + 1) path ++ step_at path k ∷ []) (step_at path k).to
      (subst (λ p. IsPermutation p (drop (k + 1) path ++ step_at path k ∷ [])) (sym from_here)
      (IsPermutation-append_comm (step_at path k ∷ []) (drop (k + 1) path)))
      (leads-push (step_at path k).to (drop (k + 1) path) (step_at path k)
      (subst (λ p. LeadsTo v p v) from_here both_lead.1).1) both_lead.0
      (let l = length-append (drop (k + 1) path) (step_at path k ∷ []) in
      let m = ap length from_here in omega arith))

  -- before the place no step leaves that point
  pub none_before : NoneLeaves v (take k path)
  none_before = all_of_entries (λ s. point_eq s.from v ≡ false) (take k path) (λ s c.
      Each-across (λ p q. point_eq p q ≡ false) (points_of (take k path)) (points_of (drop k path))
      (points_in_parts (take k path) (drop k path) in_parts.points_once) s.from v
      (Contains-map (λ (t : Step). t.from) (take k path) s c)
      (subst (λ (p : List Step). Contains (points_of p) v) (sym from_here)
      (Contains-head v (points_of (drop (k + 1) path)))))

-- ---- at the end

module _ (start : Point) (walked path : List Step) (loops : List (List Step))
    (so_far : IsCutSoFar start start walked path loops) where
  -- what is left is dropped, where it is short, and else the last loop
  pub short_ended : length path < 3 → IsCutIntoLoops walked loops
  short_ended short = cut_ended start walked loops
      (cut_short start start walked [] path loops so_far refl so_far.leads short)

  pub loop_ended : 3 ≤ length path → IsCutIntoLoops walked (loops ++ path ∷ [])
  loop_ended three = cut_ended start walked (loops ++ path ∷ [])
      (cut_loop start start walked [] path loops so_far path start (IsPermutation-refl path) so_far.leads refl three)
