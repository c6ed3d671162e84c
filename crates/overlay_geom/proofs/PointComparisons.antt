-- The comparison of points as an ordering.
use Rattle.std.proofs.Common.{◌≡◌, false, cond, [], ◌∷◌, map, refl, ap, ap₂, sym, ◌∙◌}
use Rattle.std.specs.Ordering.{is_lt, is_eq, int_cmp, ordering_reverse, ordering_then}
use Rattle.std.specs.declared.cmp.Ordering.{Ordering}
use Rattle.std.specs.declared.cmp.Ordering.TheVariants.{Less, Equal, Greater}
use Rattle.overlay_geom.specs.Plane.{Point, Edge, edge_of, point_eq, point_lt}
use Rattle.overlay_geom.specs.Resolved.{point_cmp, edges_between}
use Rattle.overlay_geom.proofs.Orders.{point_order, point_order-total, point_lt-is_less, point_eq-is_tie}

-- an ordering is found again by two tests: whether it is `Less`, and whether it is so the other way round
pub found_again : (o : Ordering) → cond (is_lt o) Less (cond (is_lt (ordering_reverse o)) Greater Equal) ≡ o
found_again Less = refl
found_again Equal = refl
found_again Greater = refl

-- points compare by their order
pub point_cmp-is_order : (p q : Point) → point_cmp p q ≡ point_order p q
point_cmp-is_order p q =
    ap₂ (λ b c. cond b Less (cond c Greater Equal)) (point_lt-is_less p q) (point_lt-is_less q p
    ∙ ap is_lt (point_order-total.antisymm q p))
    ∙ found_again (point_order p q)

-- points that compare as equal are equal
pub point_cmp-is_tie : (p q : Point) → is_eq (point_cmp p q) ≡ point_eq p q
point_cmp-is_tie p q = ap is_eq (point_cmp-is_order p q) ∙ sym (point_eq-is_tie p q)

-- the comparison answers `Less` where the first point is smaller
pub point_cmp-is_less : (p q : Point) → is_lt (point_cmp p q) ≡ point_lt p q
point_cmp-is_less p q = ap is_lt (point_cmp-is_order p q) ∙ sym (point_lt-is_less p q)

-- points at one x-coordinate compare by their heights
pub tied_at_abscissa : (p q : Point) → int_cmp p.x q.x ≡ Equal → int_cmp p.y q.y ≡ point_cmp p q
tied_at_abscissa p q tied = sym (ap (λ o. ordering_then o (int_cmp p.y q.y)) tied) ∙ sym (point_cmp-is_order p q)

-- the first of two points is not the other, nor smaller, where it is the greater
module _ (p q : Point) (greater : point_cmp p q ≡ Greater) where
  pub greater_differs : point_eq p q ≡ false
  greater_differs = sym (point_cmp-is_tie p q) ∙ ap is_eq greater

  pub greater_is_after : point_lt p q ≡ false
  greater_is_after = sym (point_cmp-is_less p q) ∙ ap is_lt greater

  -- the edge between them begins at the other
  pub edge_from_greater : record { a = q; b = p } ∷ [] ≡ edges_between p q
  edge_from_greater =
      sym (ap (λ t. map edge_of (cond t [] (record { from = p; to = q } ∷ []))) greater_differs
      ∙ ap (λ t. cond {A = Edge} t (record { a = p; b = q }) (record { a = q; b = p }) ∷ []) greater_is_after)
