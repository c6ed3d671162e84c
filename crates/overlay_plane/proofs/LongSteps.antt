-- A step between two points walks along a forward edge. So among such steps there is the start of a walk, and their
-- anchor.
use Rattle.std.proofs.Common.{◌≡◌, Bool, true, false, List, Contains, refl, sym, ◌∙◌, subst}
use Rattle.std.proofs.lemmas.Bool.{both_ways, false_from_ne_true}
use Rattle.overlay_geom.specs.Plane.{Point, Step, Edge, point_lt, point_eq, is_forward, edge_of}
use Rattle.overlay_geom.proofs.Orders.{point_eq-same, point_lt-back}
use Rattle.overlay_plane.specs.Nodes.{turns_left}
use Rattle.overlay_plane.specs.LeftmostSteps.{NoneHasEndBefore, HasLeftmost}
use Rattle.overlay_plane.specs.Contours.{IsStart}
use Rattle.overlay_plane.specs.Anchors.{IsAnchor}
use Rattle.overlay_plane.proofs.EdgesOfSteps.{edge_by}
use Rattle.overlay_plane.proofs.Entries.{Contains-map}
use Rattle.overlay_plane.proofs.LeastSteps.{leads_forward, start_before, leftmost}

-- of two different points, one that is not smaller is larger
pub larger_otherwise : (p q : Point) → ¬ (p ≡ q) → point_lt p q ≡ false → point_lt q p ≡ true
larger_otherwise p q apart = point_lt-back p q
    (false_from_ne_true (point_eq p q) (λ same. apart (point_eq-same p q same)))

-- the edge of a step between two points leads forward
pub long_leads_forward : (s : Step) → ¬ (s.from ≡ s.to) → leads_forward s ≡ true
long_leads_forward s long = by (is_forward s) refl
  where
    by : (t : Bool) → is_forward s ≡ t → point_lt (edge_by t s).a (edge_by t s).b ≡ true
    by true e = e
    by false e = larger_otherwise s.from s.to long e

module _ (steps : List Step) (long : (s : Step) → Contains steps s → ¬ (s.from ≡ s.to)) where
  -- a step is the start if its edge starts in a least point, and is the top of those that start there
  pub start_from_tests : (s : Step) → Contains steps s →
      ((t : Step) → Contains steps t → point_lt (edge_of t).a (edge_of s).a ≡ false) →
      ((t : Step) → Contains steps t → (edge_of t).a ≡ (edge_of s).a → turns_left (edge_of s) (edge_of t) ≡ false) →
      IsStart steps s
  start_from_tests s c lowest top = record {
    among = c;
    lowest = λ t at before. both_ways (point_lt (edge_of t).a (edge_of s).a) (lowest t at)
        (start_before t (edge_of s).a (long_leads_forward t (long t at)) before);
    top = top;
  }

  module _ (s : Step) (c : Contains steps s) where
    -- their leftmost lowest point, and the steps along the top edge and the lowest there
    found : HasLeftmost steps
    found = leftmost steps (λ t at. long_leads_forward t (long t at)) s c

    -- the step along the top edge is the start
    pub start_exists : (m : Step) × IsStart steps m
    start_exists = (
      found.top,
      record {
        among = found.top_taken;
        lowest = subst (λ q. NoneHasEndBefore steps q) (sym found.top_starts) found.none_before;
        top = λ t at same. found.none_above t at (same ∙ found.top_starts);
      },
    )

    -- the lowest edge is an anchor of the steps
    pub anchor_exists : (e : Edge) × IsAnchor steps e
    anchor_exists = (
      edge_of found.lowest,
      record {
        among = Contains-map edge_of steps found.lowest found.lowest_taken;
        leftmost = subst (λ q. NoneHasEndBefore steps q) (sym found.lowest_starts) found.none_before;
        lowest = λ t at same. found.none_below t at (same ∙ found.lowest_starts);
      },
    )
