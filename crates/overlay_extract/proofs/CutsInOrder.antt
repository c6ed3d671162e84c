-- A walk on its way to be cut at its repeated points: the path left goes on, or is cut at the point that is repeated.
use Rattle.std.proofs.Common.{◌≡◌, ℕ, ◌+◌, ◌<◌, ◌≤◌, true, false, cond, ℤ, List, [], ◌∷◌, ◌++◌, length, take}
use Rattle.std.proofs.Common.{drop}
use Rattle.std.proofs.Common.{Contains, sym, ap, ap₂, ◌∙◌, subst, arith}
use Rattle.std.specs.Prelude.{nat_lt}
use Rattle.std.proofs.lemmas.List.{append_assoc, append-nil, length-append, length-map, map-append, take-append-drop}
use Rattle.std.proofs.lemmas.List.{drop_more, take-map, drop-map}
use Rattle.std.proofs.lemmas.List.Elements.{All-contains}
use Rattle.overlay_geom.specs.Plane.{Step, point_eq, points_of}
use Rattle.overlay_geom.proofs.Entries.{Contains-head}
use Rattle.overlay_plane.specs.Groups.{HasEachPointOnce}
use Rattle.overlay_plane.specs.Turn.{no_step}
use Rattle.overlay_plane.proofs.Entries.{all_of_entries, Contains-map, Contains-from_map}
use Rattle.overlay_plane.proofs.KeptWalks.{Each-first, Each-across}
use Rattle.overlay_plane.proofs.LaterEntries.{Each, Each-push, Each-from_all_pairs, AllPairs-from_each}
use Rattle.overlay_extract.specs.ClosedWalks.{NoneLeaves}
use Rattle.overlay_extract.specs.Repeats.{loop_if_long, IsCutAtRepeats, IsCutOnTheWay}
use Rattle.overlay_extract.specs.Repeats.IsCutAtRepeats.{left, again}
use Rattle.overlay_walk.specs.Places.{step_at}
use Rattle.overlay_walk.specs.Steps.{plain_step, plain_steps}
use Rattle.overlay_walk.specs.declared.step.Step.{Step as StepTaken}

-- ---- loops by their lengths

few : (n : ℕ) → n < 3 → nat_lt 2 n ≡ false
few n h = grind arith

many : (n : ℕ) → 3 ≤ n → nat_lt 2 n ≡ true
many n h = grind arith

pub none_if_short : (walk : List Step) → length walk < 3 → loop_if_long walk ≡ []
none_if_short walk short = ap (λ t. cond t (walk ∷ []) []) (few (length walk) short)

pub one_if_long : (walk : List Step) → 3 ≤ length walk → loop_if_long walk ≡ walk ∷ []
one_if_long walk long = ap (λ t. cond t (walk ∷ []) []) (many (length walk) long)

-- ---- on the way

-- nothing is walked
pub nothing_walked : (walk : List Step) → IsCutOnTheWay walk [] walk []
nothing_walked walk = record { points_once = λ i j d before inside. absurd (omega arith); so_far = λ more h. h }

-- a step from a point that the path does not leave
pub path_goes_on : (walk path rest : List Step) (loops : List (List Step)) (s : Step) → NoneLeaves s.from path →
    IsCutOnTheWay walk path (s ∷ rest) loops → IsCutOnTheWay walk (path ++ s ∷ []) rest loops
path_goes_on walk path rest loops s none way = record {
  points_once = subst HasEachPointOnce (sym (map-append (λ (t : Step). t.from) path (s ∷ [])))
      (AllPairs-from_each (λ p q. point_eq p q ≡ false) (points_of path ++ s.from ∷ [])
      (Each-push (λ p q. point_eq p q ≡ false) (points_of path) s.from
      (Each-from_all_pairs (λ p q. point_eq p q ≡ false) (points_of path) way.points_once)
      (λ p c. let from = Contains-from_map (λ (t : Step). t.from) path p c in
      subst (λ q. point_eq q s.from ≡ false) from.2
      (All-contains (λ t. point_eq t.from s.from ≡ false) path from.0 none from.1))));
  so_far = λ more h. way.so_far more (subst (λ w. IsCutAtRepeats w more) (append_assoc path (s ∷ []) rest) h);
}

module _ (walk path rest : List Step) (loops : List (List Step)) (t : Step) (k : ℕ) (within : k < length path)
    (repeated : t.from ≡ (step_at path k).from) (way : IsCutOnTheWay walk path (t ∷ rest) loops) where
  abbrev between : List Step
  between = drop (k + 1) path

  -- the path in two, of which the second begins with the step at the place
  in_parts : path ≡ take k path ++ step_at path k ∷ between
  in_parts = sym (take-append-drop k path) ∙ ap (λ zs. take k path ++ zs) (drop_more path k no_step within)

  once_in_parts : Each (λ p q. point_eq p q ≡ false) (points_of (take k path) ++ points_of (step_at path k ∷ between))
  once_in_parts = subst (Each (λ p q. point_eq p q ≡ false))
      (ap points_of in_parts ∙ map-append (λ (s : Step). s.from) (take k path) (step_at path k ∷ between))
      (Each-from_all_pairs (λ p q. point_eq p q ≡ false) (points_of path) way.points_once)

  -- before the place no step leaves the repeated point
  pub none_before : NoneLeaves t.from (take k path)
  none_before = all_of_entries (λ s. point_eq s.from t.from ≡ false) (take k path) (λ s c.
      Each-across (λ p q. point_eq p q ≡ false) (points_of (take k path)) (points_of (step_at path k ∷ between))
      once_in_parts s.from t.from (Contains-map (λ (u : Step). u.from) (take k path) s c)
      (subst (Contains (points_of (step_at path k ∷ between))) (sym repeated)
      (Contains-head (step_at path k).from (points_of between))))

  -- the loop is cut off, where it is long enough
  pub cut_off : IsCutOnTheWay walk (take k path) (t ∷ rest) (loops ++ loop_if_long (between ++ step_at path k ∷ []))
  cut_off = record {
    points_once = AllPairs-from_each (λ p q. point_eq p q ≡ false) (points_of (take k path))
        (Each-first (λ p q. point_eq p q ≡ false) (points_of (take k path)) (points_of (step_at path k ∷ between))
        once_in_parts);
    so_far = λ more h. subst (IsCutAtRepeats walk)
        (sym (append_assoc loops (loop_if_long (between ++ step_at path k ∷ [])) more))
        (way.so_far (loop_if_long (between ++ step_at path k ∷ []) ++ more)
        (subst (λ w. IsCutAtRepeats w (loop_if_long (between ++ step_at path k ∷ []) ++ more)) whole
        (again (take k path) between rest (step_at path k) t
        (subst (λ w. HasEachPointOnce (points_of w)) in_parts way.points_once) repeated h)));
  }
    where
      whole : take k path ++ (step_at path k ∷ between ++ t ∷ rest) ≡ path ++ t ∷ rest
      whole = sym (append_assoc (take k path) (step_at path k ∷ between) (t ∷ rest))
          ∙ ap (λ w. w ++ t ∷ rest) (sym in_parts)

-- at the end what is left is the last loop, where it is long enough
pub cut_at_end : (walk path : List Step) (loops : List (List Step)) → IsCutOnTheWay walk path [] loops →
    IsCutAtRepeats walk (loops ++ loop_if_long path)
cut_at_end walk path loops way = way.so_far (loop_if_long path)
    (subst (λ w. IsCutAtRepeats w (loop_if_long path)) (sym (append-nil path)) (left way.points_once))

pub cut_at_end_short : (walk path : List Step) (loops : List (List Step)) → length path < 3 →
    IsCutOnTheWay walk path [] loops → IsCutAtRepeats walk loops
cut_at_end_short walk path loops short way = subst (IsCutAtRepeats walk)
    (ap (λ ls. loops ++ ls) (none_if_short path short) ∙ append-nil loops) (cut_at_end walk path loops way)

pub cut_at_end_long : (walk path : List Step) (loops : List (List Step)) → 3 ≤ length path →
    IsCutOnTheWay walk path [] loops → IsCutAtRepeats walk (loops ++ path ∷ [])
cut_at_end_long walk path loops long way = subst (IsCutAtRepeats walk)
    (ap (λ ls. loops ++ ls) (one_if_long path long)) (cut_at_end walk path loops way)

-- ---- in numbers of its own

module _ {I : Type 0} (whole : I → ℤ) (walk rest : List Step) (path : List (StepTaken I)) (loops : List (List Step))
    (t : Step) (k : ℕ) (within : k < length path) (repeated : t.from ≡ (step_at (plain_steps whole path) k).from)
    (way : IsCutOnTheWay walk (plain_steps whole path) (t ∷ rest) loops) where
  inside : k < length (plain_steps whole path)
  inside = let same = length-map path (plain_step whole) in omega arith

  -- the loop, of which the first step of the tail stands last
  loop_is : drop (k + 1) (plain_steps whole path) ++ step_at (plain_steps whole path) k ∷ []
      ≡ plain_steps whole (drop 1 (drop k path) ++ take 1 (drop k path))
  loop_is = ap (λ (p : List Step). drop 1 p ++ take 1 p)
      (sym (drop_more (plain_steps whole path) k no_step inside) ∙ drop-map (plain_step whole) k path)
      ∙ ap₂ (λ xs ys. xs ++ ys) (drop-map (plain_step whole) 1 (drop k path))
      (take-map (plain_step whole) 1 (drop k path))
      ∙ sym (map-append (plain_step whole) (drop 1 (drop k path)) (take 1 (drop k path)))

  loop_length : length (plain_steps whole (drop 1 (drop k path) ++ take 1 (drop k path))) ≡ length (drop k path)
  loop_length =
      let mapped = length-map (drop 1 (drop k path) ++ take 1 (drop k path)) (plain_step whole) in
      let both = length-append (drop 1 (drop k path)) (take 1 (drop k path)) in
      let parts = length-append (take 1 (drop k path)) (drop 1 (drop k path)) in
      let all = ap length (take-append-drop 1 (drop k path)) in
      omega arith

  cut_here : IsCutOnTheWay walk (plain_steps whole (take k path)) (t ∷ rest)
      (loops ++ loop_if_long (plain_steps whole (drop 1 (drop k path) ++ take 1 (drop k path))))
  cut_here = subst (λ p. IsCutOnTheWay walk p (t ∷ rest)
      (loops ++ loop_if_long (plain_steps whole (drop 1 (drop k path) ++ take 1 (drop k path)))))
      (take-map (plain_step whole) k path)
      (subst (λ l. IsCutOnTheWay walk (take k (plain_steps whole path)) (t ∷ rest) (loops ++ loop_if_long l)) loop_is
      (cut_off walk (plain_steps whole path) rest loops t k inside repeated way))

  pub short_dropped : length (drop k path) < 3 → IsCutOnTheWay walk (plain_steps whole (take k path)) (t ∷ rest) loops
  short_dropped short = subst (IsCutOnTheWay walk (plain_steps whole (take k path)) (t ∷ rest))
      (ap (λ ls. loops ++ ls) (none_if_short (plain_steps whole (drop 1 (drop k path) ++ take 1 (drop k path)))
      (let same = loop_length in omega arith)) ∙ append-nil loops) cut_here

  pub long_cut : 3 ≤ length (drop k path) → IsCutOnTheWay walk (plain_steps whole (take k path)) (t ∷ rest)
      (loops ++ plain_steps whole (drop 1 (drop k path) ++ take 1 (drop k path)) ∷ [])
  long_cut long = subst (IsCutOnTheWay walk (plain_steps whole (take k path)) (t ∷ rest))
      (ap (λ ls. loops ++ ls) (one_if_long (plain_steps whole (drop 1 (drop k path) ++ take 1 (drop k path)))
      (let same = loop_length in omega arith))) cut_here

  pub none_in_front : NoneLeaves t.from (plain_steps whole (take k path))
  none_in_front = subst (NoneLeaves t.from) (take-map (plain_step whole) k path)
      (none_before walk (plain_steps whole path) rest loops t k inside repeated way)
