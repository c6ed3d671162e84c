-- The order of points and that of edges are total orders, and equality is where neither of two comes first.
use Rattle.std.proofs.Common.{◌≡◌, Bool, true, false, ◌&&◌, ◌||◌, ◌⊎◌, refl, ap, sym, ◌∙◌, inl, inr}
use Rattle.std.specs.Bool.{Decides}
use Rattle.std.specs.Cmp.{IsTotalOrder, IsStrictWeakOrder}
use Rattle.std.specs.Ordering.{is_lt, is_eq, int_cmp, int_eq, ordering_then, ordering_reverse, then_cmp, on}
use Rattle.std.specs.Prelude.{int_lt}
use Rattle.std.specs.declared.cmp.Ordering.{Ordering}
use Rattle.std.specs.declared.cmp.Ordering.TheVariants.{Less, Equal, Greater}
use Rattle.std.proofs.lemmas.Bool.{cases_Bool, both_ways}
use Rattle.std.proofs.lemmas.Bool.Decides.{Decides-int_eq, Decides-and, Decides-like, not_from_Decides}
use Rattle.std.proofs.lemmas.Cmp.{on_total, then_total, int_cmp_total, tied_itself}
use Rattle.std.proofs.lemmas.List.Sorted.{ranks_by}
use Rattle.overlay_geom.specs.Plane.{Point, Edge, point_eq, point_lt, edge_eq, edge_lt}
use Rattle.overlay_geom.proofs.Comparisons.{is_lt-int_cmp}

-- the comparison of two points: by x, then by y
abbrev pub point_order : Point → Point → Ordering
point_order = then_cmp (on (λ (p : Point). p.x) int_cmp) (on (λ (p : Point). p.y) int_cmp)

-- the comparison of two edges: by their smaller ends, then by their larger
abbrev pub edge_order : Edge → Edge → Ordering
edge_order = then_cmp (on (λ (e : Edge). e.a) point_order) (on (λ (e : Edge). e.b) point_order)

-- any two points compare, and in one way
pub point_order-total : IsTotalOrder point_order
point_order-total = then_total (on_total (λ p. p.x) int_cmp_total) (on_total (λ p. p.y) int_cmp_total)

-- any two edges compare, and in one way
pub edge_order-total : IsTotalOrder edge_order
edge_order-total = then_total (on_total (λ e. e.a) point_order-total) (on_total (λ e. e.b) point_order-total)

-- two orders in turn answer `Less` where the first does, or it ties and the second does
pub less_in_turn : (o q : Ordering) (first tied second : Bool) → first ≡ is_lt o → tied ≡ is_eq o → second ≡ is_lt q →
    (first || (tied && second)) ≡ is_lt (ordering_then o q)
less_in_turn Less q first tied second f t s = ap (λ b. b || (tied && second)) f
less_in_turn Equal q first tied second f t s = ap (λ b. b || (tied && second)) f ∙ ap (λ b. b && second) t ∙ s
less_in_turn Greater q first tied second f t s = ap (λ b. b || (tied && second)) f ∙ ap (λ b. b && second) t

-- they tie where both do
pub tied_in_turn : (o q : Ordering) (first second : Bool) → first ≡ is_eq o → second ≡ is_eq q →
    (first && second) ≡ is_eq (ordering_then o q)
tied_in_turn Less q first second f s = ap (λ b. b && second) f
tied_in_turn Equal q first second f s = ap (λ b. b && second) f ∙ s
tied_in_turn Greater q first second f s = ap (λ b. b && second) f

-- the test of points is the answer of their comparison
pub point_lt-is_less : (p q : Point) → point_lt p q ≡ is_lt (point_order p q)
point_lt-is_less p q =
    less_in_turn (int_cmp p.x q.x) (int_cmp p.y q.y) (int_lt p.x q.x) (int_eq p.x q.x) (int_lt p.y q.y)
    (sym (is_lt-int_cmp p.x q.x)) refl (sym (is_lt-int_cmp p.y q.y))

-- points are found equal where they tie
pub point_eq-is_tie : (p q : Point) → point_eq p q ≡ is_eq (point_order p q)
point_eq-is_tie p q = tied_in_turn (int_cmp p.x q.x) (int_cmp p.y q.y) (int_eq p.x q.x) (int_eq p.y q.y) refl refl

-- the test of edges is the answer of their comparison
pub edge_lt-is_less : (e f : Edge) → edge_lt e f ≡ is_lt (edge_order e f)
edge_lt-is_less e f =
    less_in_turn (point_order e.a f.a) (point_order e.b f.b) (point_lt e.a f.a) (point_eq e.a f.a) (point_lt e.b f.b)
    (point_lt-is_less e.a f.a) (point_eq-is_tie e.a f.a) (point_lt-is_less e.b f.b)

-- edges are found equal where they tie
pub edge_eq-is_tie : (e f : Edge) → edge_eq e f ≡ is_eq (edge_order e f)
edge_eq-is_tie e f =
    tied_in_turn (point_order e.a f.a) (point_order e.b f.b) (point_eq e.a f.a) (point_eq e.b f.b)
    (point_eq-is_tie e.a f.a) (point_eq-is_tie e.b f.b)

-- ---- consequences

-- points with the same coordinates are equal
pub same_point : (p q : Point) → p.x ≡ q.x → p.y ≡ q.y → p ≡ q
same_point p q same_x same_y = λ i. record { x = same_x i; y = same_y i }

-- the test of two points tells whether they are equal
pub Decides-point_eq : (p q : Point) → Decides (point_eq p q) (p ≡ q)
Decides-point_eq p q =
    Decides-like (point_eq p q) (λ h. same_point p q h.0 h.1)
    (λ h. (ap (λ (r : Point). r.x) h, ap (λ (r : Point). r.y) h))
    (Decides-and _ _ (Decides-int_eq p.x q.x) (Decides-int_eq p.y q.y))

-- points that are found equal are equal
pub point_eq-same : (p q : Point) → point_eq p q ≡ true → p ≡ q
point_eq-same p q = (Decides-point_eq p q).0

-- equal points are found equal
pub point_eq-of_same : (p q : Point) → p ≡ q → point_eq p q ≡ true
point_eq-of_same p q = (Decides-point_eq p q).1

-- no point is smaller than itself
pub point_lt-itself : (p : Point) → point_lt p p ≡ false
point_lt-itself p = point_lt-is_less p p ∙ ap is_lt (tied_itself point_order-total p)

-- of two different points the second is the smaller, if the first is not
pub point_lt-back : (p q : Point) → point_eq p q ≡ false → point_lt p q ≡ false → point_lt q p ≡ true
point_lt-back p q differ back =
    point_lt-is_less q p ∙ by_cases (point_order p q) (point_order q p) (point_order-total.antisymm q p)
    (sym (point_eq-is_tie p q) ∙ differ) (sym (point_lt-is_less p q) ∙ back)
  where
    by_cases : (o r : Ordering) → r ≡ ordering_reverse o → is_eq o ≡ false → is_lt o ≡ false → is_lt r ≡ true
    by_cases Less r h e l = cc
    by_cases Equal r h e l = cc
    by_cases Greater r h e l = ap is_lt h

-- two points are equal if neither is smaller than the other
pub neither_smaller : (p q : Point) → point_lt p q ≡ false → point_lt q p ≡ false → p ≡ q
neither_smaller p q one other = by (point_eq p q) refl
  where
    by : (t : Bool) → point_eq p q ≡ t → p ≡ q
    by true same = point_eq-same p q same
    by false apart = absurd (both_ways (point_lt q p) other (point_lt-back p q apart one))

-- the points' test is an order in which any two points compare
pub point_lt-order : IsStrictWeakOrder point_lt
point_lt-order =
    let r : IsStrictWeakOrder (λ (p q : Point). is_lt (point_order p q)) = ranks_by point_order-total
    (λ (p : Point). p) in
    record {
      one_way = λ p q h. point_lt-is_less q p ∙ r.one_way p q (sym (point_lt-is_less p q) ∙ h);
      chain = λ p q s h k. point_lt-is_less p s ∙ r.chain p q s (sym (point_lt-is_less p q) ∙ h)
          (sym (point_lt-is_less q s) ∙ k);
    }

-- the test of two edges tells whether they are equal
pub Decides-edge_eq : (e f : Edge) → Decides (edge_eq e f) (e ≡ f)
Decides-edge_eq e f =
    Decides-like (edge_eq e f) (λ h. λ i. record { a = h.0 i; b = h.1 i })
    (λ h. (ap (λ (g : Edge). g.a) h, ap (λ (g : Edge). g.b) h))
    (Decides-and _ _ (Decides-point_eq e.a f.a) (Decides-point_eq e.b f.b))

-- edges that are found equal are equal
pub edge_eq-same : (e f : Edge) → edge_eq e f ≡ true → e ≡ f
edge_eq-same e f = (Decides-edge_eq e f).0

-- an edge is found equal to itself
pub edge_eq-itself : (e : Edge) → edge_eq e e ≡ true
edge_eq-itself e = (Decides-edge_eq e e).1 refl

-- edges with the same ends are found equal
pub edge_eq-from_ends : (e f : Edge) → e.a ≡ f.a → e.b ≡ f.b → edge_eq e f ≡ true
edge_eq-from_ends e f same_a same_b = (Decides-edge_eq e f).1 (λ i. record { a = same_a i; b = same_b i })

-- two edges are equal whichever of them is named first
pub edge_eq-exchanged : (e f : Edge) → edge_eq e f ≡ true → edge_eq f e ≡ true
edge_eq-exchanged e f same = (Decides-edge_eq f e).1 (sym (edge_eq-same e f same))

-- the test of different edges is symmetric
pub edge_eq-flip : (e f : Edge) → edge_eq e f ≡ false → edge_eq f e ≡ false
edge_eq-flip e f h =
    elim (cases_Bool (edge_eq f e)) [
      | inl same ↦ absurd (not_from_Decides (edge_eq e f) (Decides-edge_eq e f) h (sym (edge_eq-same f e same)))
      | inr other ↦ other
    ]

-- no edge comes before itself
pub edge_lt-itself : (e : Edge) → edge_lt e e ≡ false
edge_lt-itself e = edge_lt-is_less e e ∙ ap is_lt (tied_itself edge_order-total e)

-- an edge that comes before another edge is not equal to it
pub edge_eq-from_lt : (e f : Edge) → edge_lt e f ≡ true → edge_eq e f ≡ false
edge_eq-from_lt e f h = edge_eq-is_tie e f ∙ not_tied (edge_order e f) (sym (edge_lt-is_less e f) ∙ h)
  where
    not_tied : (o : Ordering) → is_lt o ≡ true → is_eq o ≡ false
    not_tied Less h = refl
    not_tied Equal h = cc
    not_tied Greater h = refl

-- the edges' test is an order in which any two edges compare
pub edge_lt-order : IsStrictWeakOrder edge_lt
edge_lt-order =
    let r : IsStrictWeakOrder (λ (e f : Edge). is_lt (edge_order e f)) = ranks_by edge_order-total (λ (e : Edge). e) in
    record {
      one_way = λ e f h. edge_lt-is_less f e ∙ r.one_way e f (sym (edge_lt-is_less e f) ∙ h);
      chain = λ e f g h k. edge_lt-is_less e g ∙ r.chain e f g (sym (edge_lt-is_less e f) ∙ h)
          (sym (edge_lt-is_less f g) ∙ k);
    }

-- an edge comes before those that come after a later one
pub edge_lt-trans : (e f g : Edge) → edge_lt e f ≡ true → edge_lt f g ≡ true → edge_lt e g ≡ true
edge_lt-trans e f g h k =
    edge_lt-is_less e g ∙ ap is_lt (edge_order-total.trans e f g (less _ (sym (edge_lt-is_less e f) ∙ h))
    (less _ (sym (edge_lt-is_less f g) ∙ k)))
  where
    less : (o : Ordering) → is_lt o ≡ true → o ≡ Less
    less Less h = refl
    less Equal h = cc
    less Greater h = cc

-- where the second of two edges does not come before the first, the first comes before the second, or they are equal
pub lt_or_eq : (e f : Edge) → edge_lt f e ≡ false → (edge_lt e f ≡ true) ⊎ (edge_eq e f ≡ true)
lt_or_eq e f h = by_cases (edge_order e f) (edge_order f e) (edge_order-total.antisymm f e)
    (sym (edge_lt-is_less f e) ∙ h) refl
  where
    by_cases : (o back : Ordering) → back ≡ ordering_reverse o → is_lt back ≡ false → edge_order e f ≡ o →
        (edge_lt e f ≡ true) ⊎ (edge_eq e f ≡ true)
    by_cases Less back r h at = inl (edge_lt-is_less e f ∙ ap is_lt at)
    by_cases Equal back r h at = inr (edge_eq-is_tie e f ∙ ap is_eq at)
    by_cases Greater back r h at = let t : is_lt back ≡ true = ap is_lt r in cc

-- an edge that comes before another edge comes before all edges that do not come before that
pub edge_lt_from_le : (e f g : Edge) → edge_lt e f ≡ true → edge_lt g f ≡ false → edge_lt e g ≡ true
edge_lt_from_le e f g h k =
    elim (lt_or_eq f g k) [
      | inl later ↦ edge_lt-trans e f g h later
      | inr same ↦ ap (edge_lt e) (sym (edge_eq-same f g same)) ∙ h
    ]
