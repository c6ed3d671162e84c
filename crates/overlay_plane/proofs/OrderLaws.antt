-- The laws of specs/Order: the edges of a settled list are in one order over an x-coordinate, and along common spans.
use Rattle.std.proofs.Common.{◌≡◌, Bool, true, false, ℤ, pos, ◌+ℤ◌, ◌<ℤ◌, int_lt, refl, sym, ◌∙◌, subst, arith}
use Rattle.std.proofs.lemmas.Int.{ints}
use Rattle.overlay_geom.specs.Plane.{Edge, edge_eq, side, in_plane}
use Rattle.overlay_geom.specs.Edges.{ends_of}
use Rattle.overlay_geom.specs.Settled.{MeetInEnds}
use Rattle.overlay_geom.proofs.OneLine.{meet_in_ends_exchanged}
use Rattle.overlay_geom.proofs.Orders.{edge_eq-same}
use Rattle.overlay_plane.specs.Heights.{width, covers, is_under, IsInner}
use Rattle.overlay_plane.specs.Order.{AreOnOneSide, EndsAsUnder, OrderOverAnAbscissa, OrderAlongCommonSpans}
use Rattle.overlay_plane.specs.Order.{EndsOnOneSide, EndsBelowWhereUnder}
use Rattle.overlay_plane.proofs.Crossing.{IsShared, same_low}
use Rattle.overlay_plane.proofs.Ends.{ends_on_side, low_at_start, low_at_end}
use Rattle.overlay_plane.proofs.Under.{covers_wide, shared_just_right, same_under, under_irreflexive, under_asymmetric}
use Rattle.overlay_plane.proofs.Under.{under_transitive, under_total}

-- the edges that cover an x-coordinate are in order there
pub order_over_an_abscissa : OrderOverAnAbscissa
order_over_an_abscissa es settled x d positive = record {
  irreflexive = λ e. under_irreflexive (ends_of e) x d;
  asymmetric = λ e f. under_asymmetric (ends_of e) (ends_of f) x d;
  transitive = λ e f g ce cf cg. under_transitive (ends_of e) (ends_of f) (ends_of g) x d positive ce.over
      cf.over cg.over;
  total = λ e f ce cf apart. under_total (ends_of e) (ends_of f) x d positive
      (meet_in_ends_exchanged (ends_of f) (ends_of e) (settled e f ce.entry cf.entry apart)) ce.over cf.over;
}

-- the edges are in one order at all x-coordinates that both cover
pub order_along_common_spans : OrderAlongCommonSpans
order_along_common_spans es settled e f x d x' d' positive positive' ce cf ce' cf' =
    by (edge_eq (ends_of f) (ends_of e)) refl
  where
    level : ends_of f ≡ ends_of e → (z c : ℤ) → is_under (ends_of e) (ends_of f) z c ≡ false
    level one z c = subst (λ (g : Edge). is_under g (ends_of f) z c ≡ false) one (under_irreflexive (ends_of f) z c)

    by : (s : Bool) → edge_eq (ends_of f) (ends_of e) ≡ s → is_under (ends_of e) (ends_of f) x d ≡ is_under (ends_of e)
        (ends_of f) x' d'
    by true same = level (edge_eq-same (ends_of f) (ends_of e) same) x d
        ∙ sym (level (edge_eq-same (ends_of f) (ends_of e) same) x' d')
    by false apart = same_under (ends_of e) (ends_of f) x d x' d' positive positive'
        (settled f e cf.entry ce.entry apart) ce.over cf.over ce'.over cf'.over

-- an edge's own ends are not inside it
start_not_inner : (e f : Edge) → edge_eq e f ≡ true → IsInner e f.a.x (pos 1) → ⊥
start_not_inner e f same inner = subst (λ (g : Edge). IsInner e g.a.x (pos 1) → ⊥) (edge_eq-same e f same)
    (λ (i : IsInner e e.a.x (pos 1)). let l = i.after in omega (arith, ints)) inner

end_not_inner : (e f : Edge) → edge_eq e f ≡ true → IsInner e f.b.x (pos 1) → ⊥
end_not_inner e f same inner = subst (λ (g : Edge). IsInner e g.b.x (pos 1) → ⊥) (edge_eq-same e f same)
    (λ (i : IsInner e e.b.x (pos 1)). let r = i.before in omega (arith, ints)) inner

inner_wide : (e : Edge) (v : ℤ) → IsInner e v (pos 1) → pos 0 <ℤ width e
inner_wide e v i = let l = i.after in let r = i.before in omega (arith, ints)

-- an edge over the inside of another edge has both ends on one side of it
pub ends_on_one_side : EndsOnOneSide
ends_on_one_side es settled e f at_e at_f start end = by (edge_eq (ends_of e) (ends_of f)) refl
  where
    by : (s : Bool) → edge_eq (ends_of e) (ends_of f) ≡ s → AreOnOneSide (ends_of e) f.a f.b
    by true same = absurd (start_not_inner (ends_of e) (ends_of f) same start)
    by false apart = ends_on_side (ends_of e) (ends_of f) (inner_wide (ends_of e) f.a.x start)
        (settled e f at_e at_f apart) start end

-- an end of f over the inside of e is below e exactly where f is under it
pub ends_as_under : (e f : Edge) (x d : ℤ) → pos 0 <ℤ d → (edge_eq e f ≡ false → MeetInEnds e f) → covers e x d ≡ true →
    covers f x d ≡ true →
    EndsAsUnder e f x d
ends_as_under e f x d positive meets over_e over_f = record {
  start = λ i. start i (edge_eq e f) refl;
  end = λ i. end i (edge_eq e f) refl;
}
  where
    wide : pos 0 <ℤ width e
    wide = covers_wide e x d positive over_e

    wide_f : pos 0 <ℤ width f
    wide_f = covers_wide f x d positive over_f

    here : IsShared f e (x +ℤ x +ℤ pos 1) (d +ℤ d)
    here = shared_just_right f e x d positive over_f over_e

    start : IsInner e f.a.x (pos 1) → (s : Bool) → edge_eq e f ≡ s →
        int_lt (side e (in_plane f.a)) (pos 0) ≡ is_under f e x d
    start i true same = absurd (start_not_inner e f same i)
    start i false apart = sym (low_at_start f e wide_f)
        ∙ same_low f e f.a.x (pos 1) (x +ℤ x +ℤ pos 1) (d +ℤ d) wide_f wide (meets apart)
        (record {
          positive = record { lt = tt };
          inner = i;
          spans = record {
            from = let w = wide_f in
                omega (arith, ints);
            to = let w = wide_f in omega (arith, ints);
          };
        }) here

    end : IsInner e f.b.x (pos 1) → (s : Bool) → edge_eq e f ≡ s →
        int_lt (side e (in_plane f.b)) (pos 0) ≡ is_under f e x d
    end i true same = absurd (end_not_inner e f same i)
    end i false apart = sym (low_at_end f e wide_f)
        ∙ same_low f e f.b.x (pos 1) (x +ℤ x +ℤ pos 1) (d +ℤ d) wide_f wide (meets apart)
        (record {
          positive = record { lt = tt };
          inner = i;
          spans = record {
            from = let w = wide_f in
                omega (arith, ints);
            to = let w = wide_f in omega (arith, ints);
          };
        }) here

-- an end over the inside of an edge is below it exactly where its own edge is under it
pub ends_below_where_under : EndsBelowWhereUnder
ends_below_where_under es settled e f x d positive ce cf = ends_as_under (ends_of e) (ends_of f) x d positive
    (settled e f ce.entry cf.entry) ce.over cf.over
