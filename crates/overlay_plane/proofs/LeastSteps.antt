-- Among steps along forward edges some edge starts in a least point. Among those that start there, one is the top and
-- one the lowest.
use Rattle.std.proofs.Common.{◌≡◌, inl, inr, Bool, true, false, ◌&&◌, pos, int_lt, List, Contains, refl, ap, ◌∙◌}
use Rattle.std.proofs.lemmas.Bool.{both_ways, and_from, and_parts, false_from_ne_true}
use Rattle.std.proofs.lemmas.List.Elements.{All-contains}
use Rattle.overlay_geom.specs.Plane.{Point, Step, point_lt, point_eq, is_forward, edge_of}
use Rattle.overlay_geom.proofs.PointOrder.{point_lt-transitive}
use Rattle.overlay_geom.proofs.Orders.{point_eq-same, point_eq-of_same, point_lt-itself}
use Rattle.overlay_plane.specs.Nodes.{edge_turn, turns_left}
use Rattle.overlay_plane.specs.LeftmostSteps.{StepHasEndBefore, HasLeftmost, LeftmostStepsExist}
use Rattle.overlay_plane.proofs.EdgeTurns.{edge_turn_same, left_after_left}
use Rattle.overlay_plane.proofs.EdgesOfSteps.{edge_by}
use Rattle.overlay_plane.proofs.Nearest.{IsNearest, nearest}
use Rattle.overlay_plane.proofs.Tests.{lt_from_test, test_from_lt}

-- the edge of a step leads forward
abbrev pub leads_forward : Step → Bool
leads_forward s = point_lt (edge_of s).a (edge_of s).b

-- where an end of such a step comes before a point, so does the start of its edge
pub start_before : (s : Step) (q : Point) → leads_forward s ≡ true → StepHasEndBefore q s →
    point_lt (edge_of s).a q ≡ true
start_before s q forward before = by (is_forward s) forward before
  where
    by : (t : Bool) → point_lt (edge_by t s).a (edge_by t s).b ≡ true → StepHasEndBefore q s →
        point_lt (edge_by t s).a q ≡ true
    by true leads (inl from) = from
    by true leads (inr to) = point_lt-transitive s.from s.to q leads to
    by false leads (inl from) = point_lt-transitive s.to s.from q leads from
    by false leads (inr to) = to

-- both edges lead forward, and the second to the left of the first
abbrev is_left : Step → Step → Bool
is_left s t = turns_left (edge_of s) (edge_of t) && (leads_forward s && leads_forward t)

-- no step is to the left of itself
never_left : (s : Step) → is_left s s ≡ false
never_left s = ap (λ z. int_lt (pos 0) z && (leads_forward s && leads_forward s)) (edge_turn_same (edge_of s))

-- `is_left` is transitive
left_transitive : (s t u : Step) → is_left s t ≡ true → is_left t u ≡ true → is_left s u ≡ true
left_transitive s t u st tu =
    let first = and_parts (turns_left (edge_of s) (edge_of t)) (leads_forward s && leads_forward t) st in
    let second = and_parts (turns_left (edge_of t) (edge_of u)) (leads_forward t && leads_forward u) tu in
    let early = and_parts (leads_forward s) (leads_forward t) first.1 in
    let late = and_parts (leads_forward t) (leads_forward u) second.1 in
    and_from (turns_left (edge_of s) (edge_of u)) (leads_forward s && leads_forward u)
    (test_from_lt (pos 0) (edge_turn (edge_of s) (edge_of u))
    (left_after_left (edge_of s) (edge_of t) (edge_of u) early.0 late.0 late.1
    (lt_from_test (pos 0) (edge_turn (edge_of s) (edge_of t)) first.0)
    (lt_from_test (pos 0) (edge_turn (edge_of t) (edge_of u)) second.0)))
    (and_from (leads_forward s) (leads_forward u) early.0 late.1)

module _ (steps : List Step) (forward : (s : Step) → Contains steps s → leads_forward s ≡ true) where
  -- two steps for which `is_left` fails turn otherwise
  not_left : (s t : Step) → Contains steps s → Contains steps t → is_left s t ≡ false →
      turns_left (edge_of s) (edge_of t) ≡ false
  not_left s t c d e = false_from_ne_true (turns_left (edge_of s) (edge_of t))
      (λ turns. both_ways (is_left s t) e
      (and_from (turns_left (edge_of s) (edge_of t)) (leads_forward s && leads_forward t) turns
      (and_from (leads_forward s) (leads_forward t) (forward s c) (forward t d))))

  module _ (s : Step) (c : Contains steps s) where
    -- a step whose edge starts in the least point
    least : (m : Step) × IsNearest (λ t. true) (λ t u. point_lt (edge_of t).a (edge_of u).a) steps m
    least = nearest (λ t. true) (λ t u. point_lt (edge_of t).a (edge_of u).a) (λ t. point_lt-itself (edge_of t).a)
        (λ t u w. point_lt-transitive (edge_of t).a (edge_of u).a (edge_of w).a) steps s c refl

    -- that point
    abbrev start : Point
    start = (edge_of least.0).a

    -- of the steps along edges that start there, the step along the top edge
    top : (m : Step) × IsNearest (λ t. point_eq (edge_of t).a start) (λ t u. is_left u t) steps m
    top = nearest (λ t. point_eq (edge_of t).a start) (λ t u. is_left u t) never_left
        (λ t u w tu uw. left_transitive w u t uw tu)
        steps least.0 (least.1).among (point_eq-of_same start start refl)

    -- of these, the step along the lowest edge
    lowest : (m : Step) × IsNearest (λ t. point_eq (edge_of t).a start) is_left steps m
    lowest = nearest (λ t. point_eq (edge_of t).a start) is_left never_left left_transitive steps least.0
        (least.1).among (point_eq-of_same start start refl)

    -- all together
    pub leftmost : HasLeftmost steps
    leftmost = record {
      point = start;
      none_before = λ t at before. both_ways (point_lt (edge_of t).a start) ((least.1).first t at refl)
          (start_before t start (forward t at) before);
      top = top.0;
      top_taken = (top.1).among;
      top_starts = point_eq-same (edge_of top.0).a start (top.1).passed;
      none_above = λ t at starts. not_left top.0 t (top.1).among at
          ((top.1).first t at (point_eq-of_same (edge_of t).a start starts));
      lowest = lowest.0;
      lowest_taken = (lowest.1).among;
      lowest_starts = point_eq-same (edge_of lowest.0).a start (lowest.1).passed;
      none_below = λ t at starts. not_left t lowest.0 at (lowest.1).among
          ((lowest.1).first t at (point_eq-of_same (edge_of t).a start starts));
    }

-- for steps taken of an arrangement, whose edges lead forward
pub leftmost_steps_exist : LeftmostStepsExist
leftmost_steps_exist es steps taken walks inside = leftmost taken
    (λ s c. let own = walks.along s (inside s c) in
    ap (λ f. point_lt f.a f.b) own.2 ∙ All-contains (λ e. point_lt e.a e.b ≡ true) es own.0 walks.planar.forward own.1)
