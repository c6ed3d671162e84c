-- The lower of two edges, from the start of the edge that starts later.
use Rattle.std.proofs.Common.{◌≡◌, ⊎_elim, Bool, true, false, cond, not, ◌&&◌, ◌||◌, ℤ, pos, ◌*ℤ◌, ◌<ℤ◌, ◌≤ℤ◌, int_lt}
use Rattle.std.proofs.Common.{int_le, refl, sym, ap, ◌∙◌, subst, arith}
use Rattle.std.proofs.lemmas.Int.{ints}
use Rattle.std.proofs.lemmas.Bool.{and_from}
use Rattle.std.proofs.lemmas.Bool.Decides.{Decides-int_eq}
use Rattle.std.specs.Ordering.{int_eq}
use Rattle.overlay_geom.specs.Plane.{Point, Edge, edge_eq, side, in_plane, cross_at}
use Rattle.overlay_geom.specs.Settled.{MeetInEnds}
use Rattle.overlay_geom.proofs.Identities.{solve, number, ◌⊗◌, ◌⊖◌, ◌≗◌}
use Rattle.overlay_geom.proofs.Orders.{edge_eq-same}
use Rattle.overlay_geom.proofs.Signs.{linear, by_sign}
use Rattle.overlay_plane.specs.Heights.{width, covers, is_under}
use Rattle.overlay_plane.specs.Nodes.{turns_left}
use Rattle.overlay_plane.proofs.LineForms.{side-start}
use Rattle.overlay_plane.proofs.NodeForms.{under_beside_a_node}
use Rattle.overlay_plane.proofs.Tests.{lt_from_test, ge_from_test, test_from_lt, test_from_le, test_from_ge}
use Rattle.overlay_plane.proofs.Under.{covers_from, covers_to, same_under, under_irreflexive, under_asymmetric}
use Rattle.overlay_plane.proofs.Under.{under_total}
use Rattle.overlay_plane.proofs.WhereEdgesStart.{covers_start, at_start_low, at_start_high, at_start_level}
use Rattle.overlay_scan.specs.Lists.{is_lower_at_start, is_lower}

-- a test by the sign of a number, and by another test where it is 0
pub tested : (s : ℤ) (c u : Bool) → (pos 0 <ℤ s → u ≡ true) → (s <ℤ pos 0 → u ≡ false) → (s ≡ pos 0 → u ≡ c) →
    (int_lt (pos 0) s || (int_eq s (pos 0) && c)) ≡ u
tested s c u low high level = by_sign s
    (λ less. ap (λ b. b || (int_eq s (pos 0) && c)) (test_from_ge (pos 0) s (omega linear))
    ∙ ap (λ b. b && c) (not_zero less (int_eq s (pos 0)) refl) ∙ sym (high less))
    (λ zero. ap (λ z. int_lt (pos 0) z || (int_eq z (pos 0) && c)) zero ∙ sym (level zero))
    (λ more. ap (λ b. b || (int_eq s (pos 0) && c)) (test_from_lt (pos 0) s more) ∙ sym (low more))
  where
    not_zero : s <ℤ pos 0 → (b : Bool) → int_eq s (pos 0) ≡ b → int_eq s (pos 0) ≡ false
    not_zero less false e = e
    not_zero less true e = absurd (let zero = (Decides-int_eq s (pos 0)).0 e in omega linear)

-- the cross product at the start of an edge is the side of a point
pub cross-side : (f : Edge) (p : Point) → cross_at f.a f.b p ≡ side f (in_plane p)
cross-side f p = solve 6
    (λ ax ay bx by x y. (bx ⊖ ax) ⊗ (y ⊖ ay) ⊖ (by ⊖ ay) ⊗ (x ⊖ ax) ≗ (bx ⊖ ax) ⊗ (y ⊖ ay ⊗ number (pos 1)) ⊖
    (by ⊖ ay) ⊗ (x ⊖ ax ⊗ number (pos 1))) tt f.a.x f.a.y f.b.x f.b.y p.x p.y

-- of two edges that start in one point, f is under e where e leads to the left of f
under_where_left : (f e : Edge) → e.a ≡ f.a → is_under f e e.a.x (pos 1) ≡ int_lt (pos 0) (cross_at e.a f.b e.b)
under_where_left f e one = sym ((under_beside_a_node e f).start (sym one))
    ∙ subst (λ (p : Point). turns_left (record { a = p; b = f.b }) e ≡ int_lt (pos 0) (cross_at e.a f.b e.b)) one refl

-- the test at the start of e, for an edge that is over the start
pub lower_at_start : (f e : Edge) → (edge_eq e f ≡ false → MeetInEnds e f) → e.a.x <ℤ e.b.x →
    covers f e.a.x (pos 1) ≡ true →
    is_lower_at_start f e ≡ is_under f e e.a.x (pos 1)
lower_at_start f e meets wide over =
    ap (λ z. int_lt (pos 0) z || (int_eq z (pos 0) && int_lt (pos 0) (cross_at e.a f.b e.b))) (cross-side f e.a)
    ∙ tested (side f (in_plane e.a)) (int_lt (pos 0) (cross_at e.a f.b e.b)) (is_under f e e.a.x (pos 1))
    (λ low. at_start_low f e (other (omega linear)) widely over over_e low)
    (λ high. at_start_high f e (other (omega linear)) widely over over_e high)
    (λ level. under_where_left f e (start level))
  where
    widely : pos 0 <ℤ width e
    widely = omega linear

    over_e : covers e e.a.x (pos 1) ≡ true
    over_e = covers_start e wide

    other : ¬ (side f (in_plane e.a) ≡ pos 0) → MeetInEnds e f
    other off = by (edge_eq e f) refl
      where
        by : (b : Bool) → edge_eq e f ≡ b → MeetInEnds e f
        by false apart = meets apart
        by true same = absurd (off (subst (λ (g : Edge). side g (in_plane e.a) ≡ pos 0) (edge_eq-same e f same)
            (side-start e)))

    start : side f (in_plane e.a) ≡ pos 0 → e.a ≡ f.a
    start level = by (edge_eq e f) refl
      where
        by : (b : Bool) → edge_eq e f ≡ b → e.a ≡ f.a
        by false apart = at_start_level f e (meets apart) widely over over_e level
        by true same = ap (λ (g : Edge). g.a) (edge_eq-same e f same)

-- the order of two edges is one wherever both cover, also of an edge and itself
same_where_both : (f e : Edge) (x y : ℤ) → (edge_eq e f ≡ false → MeetInEnds e f) → covers f x (pos 1) ≡ true →
    covers e x (pos 1) ≡ true →
    covers f y (pos 1) ≡ true → covers e y (pos 1) ≡ true → is_under f e x (pos 1) ≡ is_under f e y (pos 1)
same_where_both f e x y meets fx ex fy ey = by (edge_eq e f) refl
  where
    by : (b : Bool) → edge_eq e f ≡ b → is_under f e x (pos 1) ≡ is_under f e y (pos 1)
    by false apart = same_under f e x (pos 1) y (pos 1) (omega linear) (omega linear) (meets apart) fx ex fy ey
    by true same = subst (λ (g : Edge). is_under g e x (pos 1) ≡ is_under g e y (pos 1)) (edge_eq-same e f same)
        (under_irreflexive e x (pos 1) ∙ sym (under_irreflexive e y (pos 1)))

-- an edge over x that starts at or before y, at or before x, is over y
covers_before : (e : Edge) (x y : ℤ) → covers e x (pos 1) ≡ true → e.a.x ≤ℤ y → y ≤ℤ x → covers e y (pos 1) ≡ true
covers_before e x y over from to = and_from (int_le (e.a.x *ℤ pos 1) y) (int_lt y (e.b.x *ℤ pos 1))
    (test_from_le (e.a.x *ℤ pos 1) y (omega (arith, ints)))
    (test_from_lt y (e.b.x *ℤ pos 1) (let last = covers_to e x (pos 1) over in omega (arith, ints)))

-- the start of an edge over x is at or before x, and before its end
pub starts_before : (e : Edge) (x : ℤ) → covers e x (pos 1) ≡ true → e.a.x ≤ℤ x
starts_before e x over = let from = covers_from e x (pos 1) over in omega (arith, ints)

-- an edge over x is wide
pub reaches : (e : Edge) (x : ℤ) → covers e x (pos 1) ≡ true → e.a.x <ℤ e.b.x
reaches e x over = let from = covers_from e x (pos 1) over in let to = covers_to e x (pos 1) over in omega (arith, ints)

-- of two edges over x that meet in ends alone, one is not under the other exactly where that one is under it
under_or_over : (f e : Edge) (x : ℤ) → MeetInEnds e f → covers f x (pos 1) ≡ true → covers e x (pos 1) ≡ true →
    not (is_under e f x (pos 1)) ≡ is_under f e x (pos 1)
under_or_over f e x meet over_f over_e = ⊎_elim
    (λ low. ap not (under_asymmetric f e x (pos 1) low) ∙ sym low)
    (λ high. ap not high ∙ sym (under_asymmetric e f x (pos 1) high))
    (under_total f e x (pos 1) (omega linear) meet over_f over_e)

-- the test says which of two edges over x is under the other
pub lower_is_under : (f e : Edge) (x : ℤ) → (edge_eq e f ≡ false → MeetInEnds e f) →
    (edge_eq f e ≡ false → MeetInEnds f e) →
    covers f x (pos 1) ≡ true → covers e x (pos 1) ≡ true → is_lower f e ≡ is_under f e x (pos 1)
lower_is_under f e x meets back over_f over_e = by (int_lt e.a.x f.a.x) refl
  where
    first : int_lt e.a.x f.a.x ≡ true → not (is_lower_at_start e f) ≡ is_under f e x (pos 1)
    first t =
        let less = lt_from_test e.a.x f.a.x t in
        let over = covers_before e x f.a.x over_e (omega linear) (starts_before f x over_f) in
        ap not (lower_at_start e f back (reaches f x over_f) over
        ∙ same_where_both e f f.a.x x back over (covers_start f (reaches f x over_f)) over_e over_f)
        ∙ under_or_over f e x (meets (differ (edge_eq e f) refl less)) over_f over_e
      where
        differ : (b : Bool) → edge_eq e f ≡ b → e.a.x <ℤ f.a.x → edge_eq e f ≡ false
        differ false apart less = apart
        differ true same less = absurd (let one = ap (λ (g : Edge). g.a.x) (edge_eq-same e f same) in omega linear)

    second : int_lt e.a.x f.a.x ≡ false → is_lower_at_start f e ≡ is_under f e x (pos 1)
    second t =
        let over = covers_before f x e.a.x over_f (ge_from_test e.a.x f.a.x t) (starts_before e x over_e) in
        lower_at_start f e meets (reaches e x over_e) over
        ∙ same_where_both f e e.a.x x meets over (covers_start e (reaches e x over_e)) over_f over_e

    by : (b : Bool) → int_lt e.a.x f.a.x ≡ b → is_lower f e ≡ is_under f e x (pos 1)
    by true t = ap (λ c. cond c (not (is_lower_at_start e f)) (is_lower_at_start f e)) t ∙ first t
    by false t = ap (λ c. cond c (not (is_lower_at_start e f)) (is_lower_at_start f e)) t ∙ second t
