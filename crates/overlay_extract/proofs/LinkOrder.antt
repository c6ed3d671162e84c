-- The order of links by their fields is total and has no ties. So the test of two links is an order, and of two with
-- different children one comes first.
use Rattle.std.proofs.Common.{◌≡◌, ℕ, arith, ◌==◌, ◌&&◌, ◌||◌, ◌↔◌, Bool, true, false, sym, ap, ◌∙◌}
use Rattle.std.specs.Cmp.{IsTotalOrder, IsStrictWeakOrder}
use Rattle.std.specs.Ordering.{is_lt, is_eq, nat_cmp, ordering_reverse, then_cmp, on}
use Rattle.std.specs.Prelude.{nat_lt}
use Rattle.std.specs.declared.cmp.Ordering.{Ordering}
use Rattle.std.specs.declared.cmp.Ordering.TheVariants.{Less, Equal, Greater}
use Rattle.std.proofs.lemmas.Bool.{eqb-true, and_parts, false_from_ne_true}
use Rattle.std.proofs.lemmas.Cmp.{on_total, then_total, nat_cmp_total, tied_itself}
use Rattle.std.proofs.lemmas.List.MinMax.{ranks_by}
use Rattle.overlay_geom.proofs.Orders.{less_in_turn, tied_in_turn}
use Rattle.overlay_plane.specs.Islands.{ChildLink, link_lt}
use Rattle.overlay_extract.specs.ChildLinks.{plain_link, link_order, is_link_before}
use Rattle.overlay_extract.specs.declared.child_link.ChildLink.{ChildLink as LinkTaken}

-- a number comes first where it is less
less_of_numbers : (m n : ℕ) → is_lt (nat_cmp m n) ≡ nat_lt m n
less_of_numbers m n = grind arith

-- numbers tie where they are equal
tie_of_numbers : (m n : ℕ) → (m == n) ≡ is_eq (nat_cmp m n)
tie_of_numbers m n = grind arith

-- by the hole's place, and then by the child
abbrev inner_order : ChildLink → ChildLink → Ordering
inner_order = then_cmp (on (λ (k : ChildLink). k.parent_contour) nat_cmp)
    (on (λ (k : ChildLink). k.child_shape) nat_cmp)

pub link_order-total : IsTotalOrder link_order
link_order-total = then_total (on_total (λ k. k.parent_shape) nat_cmp_total)
    (then_total (on_total (λ k. k.parent_contour) nat_cmp_total) (on_total (λ k. k.child_shape) nat_cmp_total))

-- the test of two links is the answer of their comparison
pub link_lt-is_less : (k l : ChildLink) → link_lt k l ≡ is_lt (link_order k l)
link_lt-is_less k l =
    less_in_turn (nat_cmp k.parent_shape l.parent_shape) (inner_order k l) (nat_lt k.parent_shape l.parent_shape)
    (k.parent_shape == l.parent_shape)
    (nat_lt k.parent_contour l.parent_contour ||
    (k.parent_contour == l.parent_contour && nat_lt k.child_shape l.child_shape))
    (sym (less_of_numbers k.parent_shape l.parent_shape)) (tie_of_numbers k.parent_shape l.parent_shape)
    (less_in_turn (nat_cmp k.parent_contour l.parent_contour) (nat_cmp k.child_shape l.child_shape)
    (nat_lt k.parent_contour l.parent_contour) (k.parent_contour == l.parent_contour)
    (nat_lt k.child_shape l.child_shape) (sym (less_of_numbers k.parent_contour l.parent_contour))
    (tie_of_numbers k.parent_contour l.parent_contour) (sym (less_of_numbers k.child_shape l.child_shape)))

-- all fields are equal
abbrev pub has_same_fields : ChildLink → ChildLink → Bool
has_same_fields k l = (k.parent_shape == l.parent_shape) &&
    ((k.parent_contour == l.parent_contour) && (k.child_shape == l.child_shape))

-- links tie where all fields are equal
pub link_tie : (k l : ChildLink) → has_same_fields k l ≡ is_eq (link_order k l)
link_tie k l =
    tied_in_turn (nat_cmp k.parent_shape l.parent_shape) (inner_order k l) (k.parent_shape == l.parent_shape)
    ((k.parent_contour == l.parent_contour) && (k.child_shape == l.child_shape))
    (tie_of_numbers k.parent_shape l.parent_shape)
    (tied_in_turn (nat_cmp k.parent_contour l.parent_contour) (nat_cmp k.child_shape l.child_shape)
    (k.parent_contour == l.parent_contour) (k.child_shape == l.child_shape)
    (tie_of_numbers k.parent_contour l.parent_contour) (tie_of_numbers k.child_shape l.child_shape))

-- links with equal fields are equal
pub fields_tell : (k l : ChildLink) → has_same_fields k l ≡ true → k ≡ l
fields_tell k l same =
    let outer = and_parts (k.parent_shape == l.parent_shape)
    ((k.parent_contour == l.parent_contour) && (k.child_shape == l.child_shape)) same in
    let inner = and_parts (k.parent_contour == l.parent_contour) (k.child_shape == l.child_shape) outer.1 in
    let shapes = eqb-true k.parent_shape l.parent_shape outer.0 in
    let contours = eqb-true k.parent_contour l.parent_contour inner.0 in
    let children = eqb-true k.child_shape l.child_shape inner.1 in
    λ i. record { parent_shape = shapes i; parent_contour = contours i; child_shape = children i }

-- a link ties with itself
ties_itself : (k : ChildLink) → link_order k k ≡ Equal
ties_itself k = tied_itself link_order-total k

-- the links' test is an order in which any two compare
pub link_lt-order : IsStrictWeakOrder link_lt
link_lt-order =
    let r : IsStrictWeakOrder (λ (k l : ChildLink). is_lt (link_order k l)) = ranks_by link_order-total
    (λ (k : ChildLink). k) in
    record {
      one_way = λ k l h. link_lt-is_less l k ∙ r.one_way k l (sym (link_lt-is_less k l) ∙ h);
      chain = λ k l m h j. link_lt-is_less k m ∙ r.chain k l m (sym (link_lt-is_less k l) ∙ h)
          (sym (link_lt-is_less l m) ∙ j);
    }

-- of two different links the first comes before the second, where the second does not come before the first
pub link_lt-back : (k l : ChildLink) → ¬ (k ≡ l) → link_lt l k ≡ false → link_lt k l ≡ true
link_lt-back k l apart back =
    link_lt-is_less k l ∙ by_cases (link_order l k) (link_order k l) (link_order-total.antisymm k l)
    (sym (link_tie l k) ∙ false_from_ne_true (has_same_fields l k) (λ same. apart (sym (fields_tell l k same))))
    (sym (link_lt-is_less l k) ∙ back)
  where
    by_cases : (o r : Ordering) → r ≡ ordering_reverse o → is_eq o ≡ false → is_lt o ≡ false → is_lt r ≡ true
    by_cases Less r h e f = cc
    by_cases Equal r h e f = cc
    by_cases Greater r h e f = ap is_lt h

-- the test of the program's links is an order
pub is_link_before-order : IsStrictWeakOrder is_link_before
is_link_before-order = record {
  one_way = λ k l. link_lt-order.one_way (plain_link k) (plain_link l);
  chain = λ k l m. link_lt-order.chain (plain_link k) (plain_link l) (plain_link m);
}

-- these tie exactly where they are equal
pub tie_is_same : (k l : LinkTaken) (o : Ordering) → o ≡ link_order (plain_link k) (plain_link l) →
    (is_eq o ≡ true) ↔ (k ≡ l)
tie_is_same k l o is = (
  λ tie.
      let same = fields_tell (plain_link k) (plain_link l)
      (link_tie (plain_link k) (plain_link l) ∙ sym (ap is_eq is) ∙ tie) in
      λ i. record {
        parent_shape_index = (same i).parent_shape;
        parent_contour_index = (same i).parent_contour;
        child_shape_index = (same i).child_shape;
      },
  λ same. ap is_eq is ∙ ap (λ m. is_eq (link_order (plain_link k) (plain_link m))) (sym same)
      ∙ ap is_eq (ties_itself (plain_link k)),
)
