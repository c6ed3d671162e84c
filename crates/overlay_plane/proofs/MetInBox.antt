-- The whole points through which an edge leads another edge lie within the other's span in x and in y. Edges whose
-- spans in x or in y are apart meet nowhere.
use Rattle.std.proofs.Common.{◌≡◌, ◌⊎◌, inl, inr, pos, ◌*ℤ◌, ◌<ℤ◌, ◌≤ℤ◌, List, [], ◌∷◌, Contains, refl, sym, subst, ◌∙◌}
use Rattle.std.proofs.Common.{arith}
use Rattle.std.specs.List.{All}
use Rattle.std.proofs.lemmas.Int.{ints}
use Rattle.std.proofs.lemmas.List.Elements.{All-nil, All-cons}
use Rattle.overlay_geom.specs.Plane.{Point, PlanePoint, Edge, IsBetween, IsOn, in_plane}
use Rattle.overlay_geom.specs.Settled.{IsCommon}
use Rattle.overlay_geom.specs.Placed.{IsAlong, IsBeside}
use Rattle.overlay_geom.specs.Rounding.{nearest}
use Rattle.overlay_geom.proofs.AlongEdge.{over, place_of, over_lt, order_of_on}
use Rattle.overlay_geom.proofs.PointOrder.{IsBefore, IsUpTo}
use Rattle.overlay_geom.proofs.Signs.{linear}
use Rattle.overlay_geom.proofs.OneLine.{IsHeldBy}
use Rattle.overlay_geom.proofs.Rounded.{whole_le_nearest, nearest_le_whole, nearest-between}
use Rattle.overlay_plane.specs.CutPoints.{crossing, met_at}
use Rattle.overlay_plane.proofs.CrossingPoints.{IsPartWay, part_way_across, crossing_point, crossing_is_common}
use Rattle.overlay_plane.proofs.Entries.{all_of_entries}
use Rattle.overlay_plane.proofs.MeetingsAlong.{end_held, holds_its_ends}
use Rattle.overlay_plane.proofs.Placements.{AreCrossing, by_placement, both_across, ends_between, met_along, met_beside}
use Rattle.overlay_plane.proofs.Placements.{met_across}
use Rattle.overlay_plane.proofs.SettledMeetings.{common_of_held}
use Rattle.overlay_plane.proofs.Totals.{Contains-head}
use Rattle.overlay_plane.proofs.WholeOnEdges.{at_itself, on_of_held}

-- the whole point lies within the edge's span in x, and in y between its ends
pub record IsInBox (e : Edge) (v : Point) : Type 0 where
  pub from : e.a.x ≤ℤ v.x
  pub to : v.x ≤ℤ e.b.x
  pub in_y : IsBetween v.y e.a.y e.b.y

-- a whole point that an edge holds lies in its box
pub held_in_box : (e : Edge) (v : Point) → IsBefore e.a e.b → IsHeldBy e v → IsInBox e v
held_in_box e v forward held =
    record {
      from = held.from.x;
      to = held.to.x;
      in_y = plain
          (on_of_held e v (in_plane v) forward (at_itself v) held).in_y;
    }
  where
    plain : IsBetween v.y (e.a.y *ℤ pos 1) (e.b.y *ℤ pos 1) → IsBetween v.y e.a.y e.b.y
    plain (inl (low, high)) = inl (omega (arith, ints), omega (arith, ints))
    plain (inr (low, high)) = inr (omega (arith, ints), omega (arith, ints))

-- the whole point nearest a point of an edge lies in its box
pub nearest_in_box : (e : Edge) (p : PlanePoint) → IsBefore e.a e.b → IsOn e p →
    IsInBox e (record { x = nearest p.x p.d; y = nearest p.y p.d })
nearest_in_box e p forward on =
    let order = order_of_on e p forward on in
    record {
      from = whole_le_nearest e.a.x p.x p.d p.positive order.0.x;
      to = nearest_le_whole e.b.x p.x p.d p.positive
          order.1.x;
      in_y = nearest-between p.y e.a.y e.b.y p.d p.positive on.in_y;
    }

-- the whole points through which f leads e lie in e's box
pub met_at-in_box : (e f : Edge) → IsBefore e.a e.b → All (IsInBox e) (met_at e f)
met_at-in_box e f forward = by_placement e f along beside across_it
  where
    along : IsAlong e f → All (IsInBox e) (met_at e f)
    along line = subst (λ vs. All (IsInBox e) vs) (sym (met_along e f line))
        (all_of_entries (IsInBox e) (ends_between e f) (λ v at. held_in_box e v forward (end_held e f v line at).1))

    beside : ¬ (IsAlong e f) → IsBeside e f ⊎ IsBeside f e → All (IsInBox e) (met_at e f)
    beside apart one = subst (λ vs. All (IsInBox e) vs) (sym (met_beside e f apart one)) (All-nil _)

    across_it : AreCrossing e f → All (IsInBox e) (met_at e f)
    across_it c =
        let way : IsPartWay e f = part_way_across e f (both_across e f c).1 in
        subst (λ vs. All (IsInBox e) vs) (sym (met_across e f c))
        (All-cons (IsInBox e) (crossing e f) []
        (nearest_in_box e (crossing_point e f way.2) forward (crossing_is_common e f way.2 c).0) (All-nil _))

-- ---- apart

-- the single edge ends, in x, before the other begins
abbrev pub AreApartInX : Edge → Edge → Type 0
AreApartInX e f = (e.b.x <ℤ f.a.x) ⊎ (f.b.x <ℤ e.a.x)

-- edges apart in x share no point
pub apart_have_no_common : (e f : Edge) (p : PlanePoint) → IsBefore e.a e.b → IsBefore f.a f.b → AreApartInX e f →
    ¬ (IsCommon e f p)
apart_have_no_common e f p e_forward f_forward apart (on_e, on_f) = by apart
  where
    of_e : IsUpTo (over e.a p.d) (place_of p) × IsUpTo (place_of p) (over e.b p.d)
    of_e = order_of_on e p e_forward on_e

    of_f : IsUpTo (over f.a p.d) (place_of p) × IsUpTo (place_of p) (over f.b p.d)
    of_f = order_of_on f p f_forward on_f

    by : AreApartInX e f → ⊥
    by (inl before) = let less = over_lt e.b.x f.a.x p.d p.positive before in let le = of_e.1.x in let ge = of_f.0.x in
        omega linear
    by (inr after) = let less = over_lt f.b.x e.a.x p.d p.positive after in let le = of_f.1.x in let ge = of_e.0.x in
        omega linear

-- a list without entries is empty
empty_of_none : {X : Type 0} (xs : List X) → ((x : X) → Contains xs x → ⊥) → xs ≡ []
empty_of_none [] none = refl
empty_of_none (x ∷ xs) none = absurd (none x (Contains-head x xs))

-- two edges without a common point lead each other through no whole point
pub meet_nowhere : (e f : Edge) → IsBefore e.a e.b → IsBefore f.a f.b → ((p : PlanePoint) → ¬ (IsCommon e f p)) →
    met_at e f ≡ []
meet_nowhere e f e_forward f_forward none = by_placement e f along (λ line beside. met_beside e f line beside) across_it
  where
    along : IsAlong e f → met_at e f ≡ []
    along line = met_along e f line ∙ empty_of_none (ends_between e f) (λ v at. off v (held_end_of v line at))
      where
        off : (v : Point) → IsHeldBy e v × IsHeldBy f v → ⊥
        off v held = none (in_plane v) (common_of_held e f v e_forward f_forward held.0 held.1)

        held_end_of : (v : Point) → IsAlong e f → Contains (ends_between e f) v → IsHeldBy e v × IsHeldBy f v
        held_end_of v line at = let found = end_held e f v line at in (found.1, holds_its_ends f v f_forward found.0)

    across_it : AreCrossing e f → met_at e f ≡ []
    across_it c =
        let way : IsPartWay e f = part_way_across e f (both_across e f c).1 in
        absurd (none (crossing_point e f way.2) (crossing_is_common e f way.2 c))

-- ---- one below the other

-- both ends of e lie below both ends of f
pub record IsBelow (e f : Edge) : Type 0 where
  pub a_below_a : e.a.y <ℤ f.a.y
  pub a_below_b : e.a.y <ℤ f.b.y
  pub b_below_a : e.b.y <ℤ f.a.y
  pub b_below_b : e.b.y <ℤ f.b.y

-- no point of e is on f
below_have_no_common : (e f : Edge) (p : PlanePoint) → IsBelow e f → ¬ (IsCommon e f p)
below_have_no_common e f p below (on_e, on_f) = by on_e.in_y on_f.in_y
  where
    by : IsBetween p.y (e.a.y *ℤ p.d) (e.b.y *ℤ p.d) → IsBetween p.y (f.a.y *ℤ p.d) (f.b.y *ℤ p.d) → ⊥
    by (inl (low, high)) (inl (from, to)) = let less = over_lt e.b.y f.a.y p.d p.positive below.b_below_a in
        omega linear
    by (inl (low, high)) (inr (from, to)) = let less = over_lt e.b.y f.b.y p.d p.positive below.b_below_b in
        omega linear
    by (inr (low, high)) (inl (from, to)) = let less = over_lt e.a.y f.a.y p.d p.positive below.a_below_a in
        omega linear
    by (inr (low, high)) (inr (from, to)) = let less = over_lt e.a.y f.b.y p.d p.positive below.a_below_b in
        omega linear

-- the single edge lies, in y, wholly below the other
abbrev pub AreApartInY : Edge → Edge → Type 0
AreApartInY e f = IsBelow e f ⊎ IsBelow f e

-- edges apart in y share no point
pub apart_in_y_have_no_common : (e f : Edge) (p : PlanePoint) → AreApartInY e f → ¬ (IsCommon e f p)
apart_in_y_have_no_common e f p (inl below) common = below_have_no_common e f p below common
apart_in_y_have_no_common e f p (inr above) (on_e, on_f) = below_have_no_common f e p above (on_f, on_e)
