-- The comparison of points along an edge: by x, then by y upwards or downwards, as the edge leads. Of any two different
-- points one comes first.
use Rattle.std.proofs.Common.{◌≡◌, Bool, true, false, cond, ◌&&◌, ◌||◌, int_lt, int_le, refl, sym, ◌∙◌}
use Rattle.std.specs.Cmp.{IsTotalOrder, IsStrictWeakOrder}
use Rattle.std.specs.Ordering.{is_lt, is_eq, int_cmp, int_eq, ordering_reverse, then_cmp, on, flip_args}
use Rattle.std.specs.declared.cmp.Ordering.{Ordering}
use Rattle.std.specs.declared.cmp.Ordering.TheVariants.{Less, Equal, Greater}
use Rattle.std.proofs.lemmas.Bool.Decides.{Decides-int_eq, Decides-and}
use Rattle.std.proofs.lemmas.Cmp.{on_total, then_total, back_total, int_cmp_total}
use Rattle.std.proofs.lemmas.List.MinMax.{ranks_by}
use Rattle.overlay_geom.specs.Plane.{Point, Edge}
use Rattle.overlay_geom.proofs.Comparisons.{is_lt-int_cmp}
use Rattle.overlay_geom.proofs.Orders.{less_in_turn, tied_in_turn, same_point}
use Rattle.overlay_plane.specs.CutPoints.{comes_first}

-- how points compare along an edge that rises, and along one that falls
abbrev pub order_along : Bool → Point → Point → Ordering
order_along true = then_cmp (on (λ (p : Point). p.x) int_cmp) (on (λ (p : Point). p.y) int_cmp)
order_along false = then_cmp (on (λ (p : Point). p.x) int_cmp) (on (λ (p : Point). p.y) (flip_args int_cmp))

-- any two points compare, and in one way
order_along-total : (t : Bool) → IsTotalOrder (order_along t)
order_along-total true = then_total (on_total (λ p. p.x) int_cmp_total) (on_total (λ p. p.y) int_cmp_total)
order_along-total false = then_total (on_total (λ p. p.x) int_cmp_total)
    (on_total (λ p. p.y) (back_total int_cmp_total))

-- the test of an edge that rises, or falls
abbrev first_along : Bool → Point → Point → Bool
first_along t v w = int_lt v.x w.x || (int_eq v.x w.x && cond t (int_lt v.y w.y) (int_lt w.y v.y))

-- the test is the answer of the comparison
pub first_along-is_less : (t : Bool) (v w : Point) → first_along t v w ≡ is_lt (order_along t v w)
first_along-is_less true v w =
    less_in_turn (int_cmp v.x w.x) (int_cmp v.y w.y) (int_lt v.x w.x) (int_eq v.x w.x) (int_lt v.y w.y)
    (sym (is_lt-int_cmp v.x w.x)) refl (sym (is_lt-int_cmp v.y w.y))
first_along-is_less false v w =
    less_in_turn (int_cmp v.x w.x) (int_cmp w.y v.y) (int_lt v.x w.x) (int_eq v.x w.x) (int_lt w.y v.y)
    (sym (is_lt-int_cmp v.x w.x)) refl (sym (is_lt-int_cmp w.y v.y))

-- points that tie are equal
tied_are_one : (t : Bool) (v w : Point) → is_eq (order_along t v w) ≡ true → v ≡ w
tied_are_one true v w tie =
    let same = (Decides-and _ _ (Decides-int_eq v.x w.x) (Decides-int_eq v.y w.y)).0
    (tied_in_turn (int_cmp v.x w.x) (int_cmp v.y w.y) (int_eq v.x w.x) (int_eq v.y w.y) refl refl ∙ tie) in
    same_point v w same.0 same.1
tied_are_one false v w tie =
    let same = (Decides-and _ _ (Decides-int_eq v.x w.x) (Decides-int_eq w.y v.y)).0
    (tied_in_turn (int_cmp v.x w.x) (int_cmp w.y v.y) (int_eq v.x w.x) (int_eq w.y v.y) refl refl ∙ tie) in
    same_point v w same.0 (sym same.1)

-- a comparison that is not `Less` either way is a tie
tie_of_neither : (o r : Ordering) → r ≡ ordering_reverse o → is_lt o ≡ false → is_lt r ≡ false → is_eq o ≡ true
tie_of_neither Less r back forth h = cc
tie_of_neither Equal r back forth h = refl
tie_of_neither Greater r back forth h = cc

-- along an edge any two points compare
pub comes_first-order : (e : Edge) → IsStrictWeakOrder (comes_first e)
comes_first-order e = record {
  one_way = λ v w h. less w v ∙ ranks.one_way v w (sym (less v w) ∙ h);
  chain = λ u v w first second. less u w ∙ ranks.chain u v w (sym (less u v) ∙ first) (sym (less v w) ∙ second);
}
  where
    less : (v w : Point) → comes_first e v w ≡ is_lt (order_along (int_le e.a.y e.b.y) v w)
    less v w = first_along-is_less (int_le e.a.y e.b.y) v w

    ranks : IsStrictWeakOrder (λ v w. is_lt (order_along (int_le e.a.y e.b.y) v w))
    ranks = ranks_by (order_along-total (int_le e.a.y e.b.y)) (λ v. v)

-- two points are equal if neither comes first
pub comes_first-ties : (e : Edge) (v w : Point) → comes_first e v w ≡ false → comes_first e w v ≡ false → v ≡ w
comes_first-ties e v w forth back =
    let t = int_le e.a.y e.b.y in
    tied_are_one t v w (tie_of_neither (order_along t v w) (order_along t w v) ((order_along-total t).antisymm w v)
    (sym (first_along-is_less t v w) ∙ forth) (sym (first_along-is_less t w v) ∙ back))
