-- Any two tours compare, and in one way: by the edges by which they are found, and then by whether they leave along
-- them.
use Rattle.std.proofs.Common.{◌≡◌, ◌&&◌, ◌||◌, Bool, true, false, not, cond, ◌-◌, ◌<◌, ℤ, List, [], ◌∷◌, length}
use Rattle.std.proofs.Common.{get_or}
use Rattle.std.proofs.Common.{AllPairs, refl, sym, ap, ap₂, ◌∙◌, arith}
use Rattle.std.specs.Cmp.{IsTotalOrder, IsStrictWeakOrder, bool_cmp_total}
use Rattle.std.specs.List.Sorted.{IsSortedBy}
use Rattle.std.specs.Ordering.{is_lt, is_le, is_eq, bool_cmp, then_cmp, on, flip_args}
use Rattle.std.specs.declared.cmp.Ordering.{Ordering}
use Rattle.std.specs.declared.cmp.Ordering.TheVariants.{Less, Equal, Greater}
use Rattle.std.proofs.lemmas.Bool.{both_ways, true≢false}
use Rattle.std.proofs.lemmas.Cmp.{on_total, then_total, back_total}
use Rattle.std.proofs.lemmas.List.MinMax.{ranks_by}
use Rattle.std.proofs.lemmas.List.Sorted.{sorted_far}
use Rattle.std.specs.Prelude.{Vec}
use Rattle.overlay_geom.specs.Plane.{Point, Step, Edge, edge_eq, edge_lt, point_eq, point_lt}
use Rattle.overlay_geom.specs.Points.{plain_point}
use Rattle.overlay_geom.specs.Resolved.{point_cmp}
use Rattle.overlay_geom.proofs.Mapped.{AllPairs-map}
use Rattle.overlay_geom.proofs.Orders.{edge_order, edge_order-total, edge_lt-is_less, edge_eq-is_tie, less_in_turn}
use Rattle.overlay_geom.proofs.Orders.{point_lt-order}
use Rattle.overlay_geom.proofs.PointComparisons.{point_cmp-is_less, point_cmp-is_tie}
use Rattle.overlay_extract.specs.TourOrder.{found_edge, leaves_along_first, last_step, is_tour_before, is_walked_along}
use Rattle.overlay_extract.specs.TourOrder.{edge_between}
use Rattle.overlay_walk.specs.Steps.{plain_step, plain_steps}
use Rattle.overlay_walk.specs.Walks.{plain_walks}
use Rattle.overlay_walk.specs.declared.step.Step.{Step as StepTaken}

-- ---- what tells the place of a tour with steps

record Rank : Type 0 where
  edge : Edge
  along : Bool

abbrev rank_order : Rank → Rank → Ordering
rank_order = then_cmp (on (λ (k : Rank). k.edge) edge_order) (on (λ (k : Rank). k.along) (flip_args bool_cmp))

abbrev rank_lt : Rank → Rank → Bool
rank_lt k l = edge_lt k.edge l.edge || (edge_eq k.edge l.edge && (k.along && not l.along))

or_none : (b : Bool) → (b || false) ≡ b
or_none true = refl
or_none false = refl

-- the one that holds comes first
along_first : (k l : Bool) → (k && not l) ≡ is_lt (bool_cmp l k)
along_first true true = refl
along_first true false = refl
along_first false true = refl
along_first false false = refl

rank_lt-is_less : (k l : Rank) → rank_lt k l ≡ is_lt (rank_order k l)
rank_lt-is_less k l = less_in_turn (edge_order k.edge l.edge) (bool_cmp l.along k.along) (edge_lt k.edge l.edge)
    (edge_eq k.edge l.edge) (k.along && not l.along) (edge_lt-is_less k.edge l.edge) (edge_eq-is_tie k.edge l.edge)
    (along_first k.along l.along)

rank_order-total : IsTotalOrder rank_order
rank_order-total = then_total (on_total (λ (k : Rank). k.edge) edge_order-total)
    (on_total (λ (k : Rank). k.along) (back_total bool_cmp_total))

rank_lt-order : IsStrictWeakOrder rank_lt
rank_lt-order =
    let r : IsStrictWeakOrder (λ (k l : Rank). is_lt (rank_order k l)) = ranks_by rank_order-total (λ (k : Rank). k) in
    record {
      one_way = λ k l h. rank_lt-is_less l k ∙ r.one_way k l (sym (rank_lt-is_less k l) ∙ h);
      chain = λ k l m h j. rank_lt-is_less k m ∙ r.chain k l m (sym (rank_lt-is_less k l) ∙ h)
          (sym (rank_lt-is_less l m) ∙ j);
    }

-- ---- what two comparisons in turn tell

not_tied : (o : Ordering) → ¬ (o ≡ Equal) → is_eq o ≡ false
not_tied Less apart = refl
not_tied Equal apart = absurd (apart refl)
not_tied Greater apart = refl

-- a point does not come after another one where the other one is not smaller
pub at_most : (p q : Point) → is_le (point_cmp p q) ≡ not (point_lt q p)
at_most p q = by (point_lt p q) refl (point_lt q p) refl
  where
    by : (s : Bool) → point_lt p q ≡ s → (t : Bool) → point_lt q p ≡ t →
        is_le (cond s Less (cond t Greater Equal)) ≡ not t
    by true less true more = absurd (both_ways (point_lt q p) (point_lt-order.one_way p q less) more)
    by true less false more = refl
    by false less true more = refl
    by false less false more = refl

-- two edges that start in one point compare by their other ends
module _ (e f : Edge) (tied : point_cmp e.a f.a ≡ Equal) where
  pub less_by_ends : is_lt (point_cmp e.b f.b) ≡ edge_lt e f
  less_by_ends = point_cmp-is_less e.b f.b ∙ sym (ap₂ (λ x y. x || (y && point_lt e.b f.b))
      (sym (point_cmp-is_less e.a f.a) ∙ ap is_lt tied) (sym (point_cmp-is_tie e.a f.a) ∙ ap is_eq tied))

  pub tied_by_ends : is_eq (point_cmp e.b f.b) ≡ edge_eq e f
  tied_by_ends = point_cmp-is_tie e.b f.b ∙ sym (ap (λ y. y && point_eq e.b f.b)
      (sym (point_cmp-is_tie e.a f.a) ∙ ap is_eq tied))

-- and others by their starts
module _ (e f : Edge) (apart : ¬ (point_cmp e.a f.a ≡ Equal)) where
  differ : point_eq e.a f.a ≡ false
  differ = sym (point_cmp-is_tie e.a f.a) ∙ not_tied (point_cmp e.a f.a) apart

  pub less_by_starts : is_lt (point_cmp e.a f.a) ≡ edge_lt e f
  less_by_starts = point_cmp-is_less e.a f.a
      ∙ sym (ap (λ y. point_lt e.a f.a || (y && point_lt e.b f.b)) differ ∙ or_none (point_lt e.a f.a))

  pub tied_by_starts : is_eq (point_cmp e.a f.a) ≡ edge_eq e f
  tied_by_starts = not_tied (point_cmp e.a f.a) apart ∙ sym (ap (λ y. y && point_eq e.b f.b) differ)

-- two tours compare by whether they leave along the edge by which both are found, and else by their edges
module _ (e f : Edge) (k l : Bool) (o : Ordering) (less : is_lt o ≡ edge_lt e f) (ties : is_eq o ≡ edge_eq e f) where
  pub less_along : o ≡ Equal → is_lt (bool_cmp l k) ≡ (edge_lt e f || (edge_eq e f && (k && not l)))
  less_along tied = sym (along_first k l) ∙ sym (ap₂ (λ x y. x || (y && (k && not l))) (sym less ∙ ap is_lt tied)
      (sym ties ∙ ap is_eq tied))

  pub less_by_edges : ¬ (o ≡ Equal) → is_lt o ≡ (edge_lt e f || (edge_eq e f && (k && not l)))
  less_by_edges apart = less ∙ sym (ap (λ y. edge_lt e f || (y && (k && not l))) (sym ties ∙ not_tied o apart)
      ∙ or_none (edge_lt e f))

-- ---- tours, those without steps too

before-one_way : (s t : List Step) → is_tour_before s t ≡ true → is_tour_before t s ≡ false
before-one_way [] [] h = refl
before-one_way [] (t ∷ ts) h = refl
before-one_way (s ∷ ss) [] h = absurd (true≢false (sym h))
before-one_way (s ∷ ss) (t ∷ ts) h = rank_lt-order.one_way
    (record { edge = found_edge s ss; along = leaves_along_first s ss })
    (record { edge = found_edge t ts; along = leaves_along_first t ts }) h

before-chain : (s t u : List Step) → is_tour_before s t ≡ false → is_tour_before t u ≡ false →
    is_tour_before s u ≡ false
before-chain [] [] u h k = k
before-chain [] (t ∷ ts) u h k = absurd (true≢false h)
before-chain (s ∷ ss) t [] h k = refl
before-chain (s ∷ ss) [] (u ∷ us) h k = absurd (true≢false k)
before-chain (s ∷ ss) (t ∷ ts) (u ∷ us) h k = rank_lt-order.chain
    (record { edge = found_edge s ss; along = leaves_along_first s ss })
    (record { edge = found_edge t ts; along = leaves_along_first t ts })
    (record { edge = found_edge u us; along = leaves_along_first u us }) h k

-- ---- tours in numbers of their own

module _ {I : Type 0} (whole : I → ℤ) where
  -- the last step by its place
  last_held : (s : StepTaken I) (ss : List (StepTaken I)) (y : StepTaken I) → y ≡ get_or (s ∷ ss) (length ss) y →
      last_step (plain_step whole s) (plain_steps whole ss) ≡ plain_step whole y
  last_held s [] y is = ap (plain_step whole) (sym is)
  last_held s (t ∷ ts) y is = last_held t ts y is

  pub last_read : (s : StepTaken I) (ss : List (StepTaken I)) (y : StepTaken I) →
      y ≡ get_or (s ∷ ss) (length (s ∷ ss) - 1) y →
      last_step (plain_step whole s) (plain_steps whole ss) ≡ plain_step whole y
  last_read s ss y is =
      let same : length (s ∷ ss) - 1 ≡ length ss = omega arith in
      last_held s ss y (is ∙ ap (λ k. get_or (s ∷ ss) k y) same)

  pub along_read : (tour : List (StepTaken I)) (x y : StepTaken I) → 0 < length tour → x ≡ get_or tour 0 x →
      y ≡ get_or tour (length tour - 1) y →
      is_walked_along (plain_steps whole tour) ≡ not (point_lt (plain_point whole y.from) (plain_point whole x.to))
  along_read [] x y some is_first is_last = absurd (omega arith)
  along_read (s ∷ ss) x y some is_first is_last = ap₂ (λ (l f : Step). not (point_lt l.from f.to))
      (last_read s ss y is_last)
      (ap (plain_step whole) (sym is_first))

  -- the edge by which a tour is found
  pub found_read : (tour : List (StepTaken I)) (x y : StepTaken I) → x ≡ get_or tour 0 x →
      y ≡ get_or tour (length tour - 1) y → (s : Step) (ss : List Step) → plain_steps whole tour ≡ s ∷ ss →
      edge_between (plain_point whole x.from)
      (cond (is_walked_along (plain_steps whole tour)) (plain_point whole x.to) (plain_point whole y.from))
      ≡ found_edge s ss
  found_read [] x y is_first is_last s ss is = absurd (let same = ap length is in omega arith)
  found_read (t ∷ ts) x y is_first is_last s ss is = ap₂ (λ (f l : Step). edge_between f.from
      (cond (is_walked_along (plain_steps whole (t ∷ ts))) f.to l.from)) (ap (plain_step whole) is_first)
      (sym (last_read t ts y is_last))
      ∙ ap by_list is
    where
      by_list : List Step → Edge
      by_list [] = edge_between (plain_point whole x.from) (plain_point whole x.from)
      by_list (u ∷ us) = found_edge u us

  -- a tour without steps comes before those with steps
  pub none_before_some : (s t : List (StepTaken I)) → length s ≡ 0 → 0 < length t →
      is_tour_before (plain_steps whole s) (plain_steps whole t) ≡ true
  none_before_some [] [] h k = absurd (omega arith)
  none_before_some [] (t ∷ ts) h k = refl
  none_before_some (s ∷ ss) t h k = absurd (omega arith)

  pub never_before_none : (s t : List (StepTaken I)) → length t ≡ 0 →
      is_tour_before (plain_steps whole s) (plain_steps whole t) ≡ false
  never_before_none [] [] h = refl
  never_before_none (s ∷ ss) [] h = refl
  never_before_none s (t ∷ ts) h = absurd (omega arith)

  -- a tour with steps comes before another one as their edges tell, and then whether they leave along them
  pub some_before : (s t : List (StepTaken I)) → 0 < length s → 0 < length t → (e f : Edge) →
      ((u : Step) (us : List Step) → plain_steps whole s ≡ u ∷ us → e ≡ found_edge u us) →
      ((u : Step) (us : List Step) → plain_steps whole t ≡ u ∷ us → f ≡ found_edge u us) →
      is_tour_before (plain_steps whole s) (plain_steps whole t) ≡ (edge_lt e f
      || (edge_eq e f && (is_walked_along (plain_steps whole s) && not (is_walked_along (plain_steps whole t)))))
  some_before [] t h k e f is_e is_f = absurd (omega arith)
  some_before (s ∷ ss) [] h k e f is_e is_f = absurd (omega arith)
  some_before (s ∷ ss) (t ∷ ts) h k e f is_e is_f = ap₂ (λ x y. edge_lt x y
      || (edge_eq x y && (leaves_along_first (plain_step whole s) (plain_steps whole ss)
      && not (leaves_along_first (plain_step whole t) (plain_steps whole ts)))))
      (sym (is_e (plain_step whole s) (plain_steps whole ss) refl))
      (sym (is_f (plain_step whole t) (plain_steps whole ts) refl))

  module _ {A : Type 0} where
    -- held tours by the order
    abbrev pub held_before : Vec (StepTaken I) A → Vec (StepTaken I) A → Bool
    held_before s t = is_tour_before (plain_steps whole s.items) (plain_steps whole t.items)

    pub held_before-order : IsStrictWeakOrder held_before
    held_before-order = record {
      one_way = λ s t. before-one_way (plain_steps whole s.items) (plain_steps whole t.items);
      chain = λ s t u. before-chain (plain_steps whole s.items) (plain_steps whole t.items) (plain_steps whole u.items);
    }

    -- sorted tours are in order
    pub in_order-from_sorted : (ts : List (Vec (StepTaken I) A)) → IsSortedBy held_before ts →
        AllPairs (λ s t. is_tour_before t s ≡ false) (plain_walks whole ts)
    in_order-from_sorted ts up = AllPairs-map (λ (s t : List Step). is_tour_before t s ≡ false)
        (λ (w : Vec (StepTaken I) A). plain_steps whole w.items) ts
        (λ i j d l m. sorted_far held_before held_before-order ts up i j d (omega arith) m)
