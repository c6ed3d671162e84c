-- The winding below an edge from that at its start, and from that at its end; as many counts start in a node as end
-- there.
use Rattle.std.proofs.Common.{◌≡◌, Bool, true, false, cond, ◌&&◌, ℤ, pos, ◌+ℤ◌, ◌-ℤ◌, ◌*ℤ◌, ◌<ℤ◌, ◌≤ℤ◌, int_lt, int_le}
use Rattle.std.proofs.Common.{List, Contains, sym, ap, ap₂, ◌∙◌, arith}
use Rattle.std.proofs.lemmas.Bool.{and_from}
use Rattle.std.proofs.lemmas.List.Elements.{All-contains}
use Rattle.std.proofs.lemmas.Int.{ints, by_lt_z}
use lib.IntN.{+ℤ_idr}
use Rattle.overlay_geom.specs.Plane.{Point, in_plane, midpoint, point_lt, point_eq, is_strictly_below, total}
use Rattle.overlay_geom.specs.Edges.{CountedEdge, ends_of, winding_by, winding_below}
use Rattle.overlay_geom.proofs.Products.{mul-add}
use Rattle.overlay_geom.proofs.Identities.{solve, number, ◌⊗◌, ◌⊖◌, ◌≗◌}
use Rattle.overlay_geom.proofs.Signs.{linear}
use Rattle.overlay_plane.specs.Heights.{width, covers, is_under}
use Rattle.overlay_plane.specs.Regions.{one_if}
use Rattle.overlay_plane.specs.Nodes.{IsBalancedArrangement, turns_left, total_starting, total_ending}
use Rattle.overlay_plane.specs.Nodes.{total_starting_under, total_ending_under, WindingFromAStart, WindingFromAnEnd}
use Rattle.overlay_plane.specs.Nodes.{NodeIsBalanced}
use Rattle.overlay_plane.proofs.Tests.{test_from_lt, test_from_le}
use Rattle.overlay_plane.proofs.Totals.{total-same, total-add, total-sub}
use Rattle.overlay_plane.proofs.Under.{covers_just_left}
use Rattle.overlay_plane.proofs.Sides.{one_winding_along_a_side}
use Rattle.overlay_plane.proofs.NodeStarts.{under_from_start}
use Rattle.overlay_plane.proofs.NodeUprights.{upright_from_start, upright_from_end}
use Rattle.overlay_plane.proofs.NodeEnds.{is_down_from, under_to_end}

-- a count where a test passes is the count times the test
pub count-times : (b : Bool) (c : ℤ) → cond b c (pos 0) ≡ c *ℤ one_if b
count-times true c = solve 1 (λ c. c ≗ c ⊗ number (pos 1)) tt c
count-times false c = solve 1 (λ c. number (pos 0) ≗ c ⊗ number (pos 0)) tt c

-- counts add up as tests do
adds_up : (r s t : Bool) (c : ℤ) → one_if r ≡ one_if s +ℤ one_if t →
    cond r c (pos 0) ≡ cond s c (pos 0) +ℤ cond t c (pos 0)
adds_up r s t c e = count-times r c ∙ ap (λ z. c *ℤ z) e ∙ mul-add c (one_if s) (one_if t)
    ∙ sym (ap₂ (λ a b. a +ℤ b) (count-times s c) (count-times t c))

-- likewise with a further term
adds_up_with : (r s t : Bool) (k c : ℤ) → one_if r ≡ (one_if s +ℤ one_if t) +ℤ k →
    cond r c (pos 0) ≡ (cond s c (pos 0) +ℤ cond t c (pos 0)) +ℤ c *ℤ k
adds_up_with r s t k c e = count-times r c ∙ ap (λ z. c *ℤ z) e ∙ mul-add c (one_if s +ℤ one_if t) k
    ∙ ap (λ z. z +ℤ c *ℤ k) (mul-add c (one_if s) (one_if t)
    ∙ sym (ap₂ (λ a b. a +ℤ b) (count-times s c) (count-times t c)))

module _ (count : CountedEdge → ℤ) (es : List CountedEdge) (arranged : IsBalancedArrangement count es) (e : CountedEdge)
    (at : Contains es e) where
  -- an entry leads forward
  forward_at : (f : CountedEdge) → Contains es f → point_lt f.a f.b ≡ true
  forward_at f is = All-contains (λ h. point_lt (ends_of h).a (ends_of h).b ≡ true) es f arranged.planar.forward is

  -- the winding below e as one sum
  abbrev Joined : Type 0
  Joined = winding_below count es e ≡ total (λ f. cond (is_strictly_below (ends_of f) (in_plane e.a)) (count f)
      (pos 0) +ℤ cond (point_eq f.a e.a && turns_left (ends_of f) (ends_of e)) (count f) (pos 0)) es

  -- the winding below e, from its start
  from_start : winding_below count es e ≡ winding_by count es (in_plane e.a) +ℤ total_starting_under count es e
  from_start = by_lt_z (pos 0) (width (ends_of e)) slanted upright
      ∙ total-add (λ f. cond (is_strictly_below (ends_of f) (in_plane e.a)) (count f) (pos 0))
      (λ f. cond (point_eq f.a e.a && turns_left (ends_of f) (ends_of e)) (count f) (pos 0)) es
    where
      slanted : pos 0 <ℤ width (ends_of e) → Joined
      slanted wide = sym (one_winding_along_a_side es count arranged.planar.forward arranged.planar.settled
          arranged.balanced e at
          e.a.x (pos 1) (record { lt = tt })
          (and_from (int_le (e.a.x *ℤ pos 1) e.a.x) (int_lt e.a.x (e.b.x *ℤ pos 1))
          (test_from_le (e.a.x *ℤ pos 1) e.a.x (omega (arith, ints)))
          (test_from_lt e.a.x (e.b.x *ℤ pos 1) (let w = wide in omega (arith, ints)))))
          ∙ total-same (λ f. cond (covers (ends_of f) e.a.x (pos 1) && is_under (ends_of f) (ends_of e) e.a.x (pos 1))
          (count f) (pos 0))
          (λ f. cond (is_strictly_below (ends_of f) (in_plane e.a)) (count f) (pos 0) +ℤ cond
          (point_eq f.a e.a && turns_left (ends_of f) (ends_of e)) (count f) (pos 0)) es
          (λ f is. adds_up (covers (ends_of f) e.a.x (pos 1) && is_under (ends_of f) (ends_of e) e.a.x (pos 1))
          (is_strictly_below (ends_of f) (in_plane e.a)) (point_eq f.a e.a && turns_left (ends_of f) (ends_of e))
          (count f)
          (under_from_start (ends_of e) (ends_of f) (forward_at f is) (arranged.planar.settled e f at is) wide))

      upright : width (ends_of e) ≤ℤ pos 0 → Joined
      upright narrow = total-same (λ f. cond (is_strictly_below (ends_of f) (midpoint (ends_of e))) (count f) (pos 0))
          (λ f. cond (is_strictly_below (ends_of f) (in_plane e.a)) (count f) (pos 0) +ℤ cond
          (point_eq f.a e.a && turns_left (ends_of f) (ends_of e)) (count f) (pos 0)) es
          (λ f is. adds_up (is_strictly_below (ends_of f) (midpoint (ends_of e)))
          (is_strictly_below (ends_of f) (in_plane e.a)) (point_eq f.a e.a && turns_left (ends_of f) (ends_of e))
          (count f)
          (upright_from_start (ends_of e) (ends_of f) (forward_at e at) narrow (forward_at f is)
          (arranged.planar.settled e f at is)))

  -- the winding below e, from its end
  from_end : winding_below count es e ≡ winding_by count es (in_plane e.b) +ℤ total_ending_under count es e
  from_end = by_lt_z (pos 0) (width (ends_of e)) slanted upright
    where
      below : CountedEdge → ℤ
      below f = cond (is_strictly_below (ends_of f) (in_plane e.b)) (count f) (pos 0)

      ending : CountedEdge → ℤ
      ending f = cond (point_eq f.b e.b && turns_left (ends_of e) (ends_of f)) (count f) (pos 0)

      down : Point → ℤ
      down u = one_if (is_down_from e.b u)

      rise : CountedEdge → ℤ
      rise f = count f *ℤ (down f.b -ℤ down f.a)

      left : ℤ
      left = e.b.x +ℤ e.b.x -ℤ pos 1

      slanted : pos 0 <ℤ width (ends_of e) → winding_below count es e ≡ total below es +ℤ total ending es
      slanted wide = sym (one_winding_along_a_side es count arranged.planar.forward arranged.planar.settled
          arranged.balanced e at
          left (pos 2) (record { lt = tt })
          (covers_just_left (ends_of e) e.b.x (pos 1) (let w = wide in omega (arith, ints)) (omega (arith, ints))))
          ∙ total-same (λ f. cond (covers (ends_of f) left (pos 2) && is_under (ends_of f) (ends_of e) left (pos 2))
          (count f) (pos 0))
          (λ f. (below f +ℤ ending f) +ℤ rise f) es
          (λ f is. adds_up_with (covers (ends_of f) left (pos 2) && is_under (ends_of f) (ends_of e) left (pos 2))
          (is_strictly_below (ends_of f) (in_plane e.b)) (point_eq f.b e.b && turns_left (ends_of e) (ends_of f))
          (down f.b -ℤ down f.a) (count f)
          (under_to_end (ends_of e) (ends_of f) (forward_at f is) (arranged.planar.settled e f at is) wide))
          ∙ total-add (λ f. below f +ℤ ending f) rise es
          ∙ ap₂ (λ a b. a +ℤ b) (total-add below ending es) (arranged.balanced down)
          ∙ +ℤ_idr (total below es +ℤ total ending es)

      upright : width (ends_of e) ≤ℤ pos 0 → winding_below count es e ≡ total below es +ℤ total ending es
      upright narrow = total-same (λ f. cond (is_strictly_below (ends_of f) (midpoint (ends_of e))) (count f) (pos 0))
          (λ f. below f +ℤ ending f) es
          (λ f is. adds_up (is_strictly_below (ends_of f) (midpoint (ends_of e)))
          (is_strictly_below (ends_of f) (in_plane e.b)) (point_eq f.b e.b && turns_left (ends_of e) (ends_of f))
          (count f)
          (upright_from_end (ends_of e) (ends_of f) (forward_at e at) narrow (forward_at f is)
          (arranged.planar.settled e f at is)))
          ∙ total-add below ending es

-- the winding below an edge is that at its start plus the counts that start there to the right
pub winding_from_a_start : WindingFromAStart
winding_from_a_start count es arranged e at = from_start count es arranged e at

-- the winding below an edge is that at its end plus the counts that end there to the right
pub winding_from_an_end : WindingFromAnEnd
winding_from_an_end count es arranged e at = from_end count es arranged e at

-- as many counts start in a node as end there
pub node_is_balanced : NodeIsBalanced
node_is_balanced count es balanced v = equal (total_starting count es v) (total_ending count es v)
    (sym (total-sub (λ f. cond (point_eq f.b v) (count f) (pos 0)) (λ f. cond (point_eq f.a v) (count f) (pos 0)) es)
    ∙ total-same (λ f. cond (point_eq f.b v) (count f) (pos 0) -ℤ cond (point_eq f.a v) (count f) (pos 0))
    (λ f. count f *ℤ (one_if (point_eq f.b v) -ℤ one_if (point_eq f.a v))) es
    (λ f is. ap₂ (λ a b. a -ℤ b) (count-times (point_eq f.b v) (count f)) (count-times (point_eq f.a v) (count f))
    ∙ difference (count f) (one_if (point_eq f.b v)) (one_if (point_eq f.a v)))
    ∙ balanced (λ u. one_if (point_eq u v)))
  where
    equal : (a b : ℤ) → b -ℤ a ≡ pos 0 → a ≡ b
    equal a b h = omega linear

    difference : (c s t : ℤ) → c *ℤ s -ℤ c *ℤ t ≡ c *ℤ (s -ℤ t)
    difference = solve 3 (λ c s t. c ⊗ s ⊖ c ⊗ t ≗ c ⊗ (s ⊖ t)) tt
