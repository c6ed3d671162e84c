-- Two collinear edges meet in the ends of their overlap alone: the larger of the smaller ends, and the smaller of the
-- larger.
use Rattle.std.proofs.Common.{◌≡◌, ◌⊎◌, inl, inr, ⊎_elim, true, false, cond, pos, refl, sym, subst}
use Rattle.std.proofs.lemmas.Bool.{cond-true, cond-false}
use Rattle.overlay_geom.specs.Placed.{IsAlong}
use Rattle.overlay_geom.specs.Plane.{Point, PlanePoint, Edge, IsAt, IsEnd, IsOn, point_lt, in_plane, cross_at}
use Rattle.overlay_geom.proofs.Cross.{cross_at_first, cross_at_same}
use Rattle.overlay_geom.proofs.OneLine.{along_exchanged, IsHeldBy}
use Rattle.overlay_geom.proofs.PointOrder.{IsBefore, IsUpTo, Decides-point_lt, by_order, before_up_to, up_to_itself}
use Rattle.overlay_geom.proofs.PointOrder.{up_to_through, not_before_up_to, up_to_both}
use Rattle.overlay_plane.specs.Meetings.{IsMeetingPoint}
use Rattle.overlay_plane.proofs.LinesWithin.{only_common_is_end}
use Rattle.overlay_plane.proofs.WholeOnEdges.{at_itself, on_of_held, held_of_on, by_end, same_place_at}
use Rattle.overlay_exact.specs.Along.{overlap_start, overlap_end}
use Rattle.overlay_exact.specs.Parts.{Fraction, IsPart, IsLess, LiesAt}
use Rattle.overlay_exact.proofs.MovedParts.{lies_moved}
use Rattle.overlay_exact.proofs.PartOrder.{compare_alike}
use Rattle.overlay_exact.proofs.PushedMet.{up_to_from_test, smaller_in_plane}

-- the larger of two points
record IsLarger (p q v : Point) : Type 0 where
  of_first : IsUpTo p v
  of_second : IsUpTo q v
  one : (v ≡ p) ⊎ (v ≡ q)

-- the smaller of two points
record IsLesser (p q v : Point) : Type 0 where
  of_first : IsUpTo v p
  of_second : IsUpTo v q
  one : (v ≡ p) ⊎ (v ≡ q)

larger : (p q : Point) → IsLarger p q (cond (point_lt p q) q p)
larger p q = by_order q p
    (λ up. subst (IsLarger p q)
    (sym (cond-false (point_lt p q) q p (not_test up)))
    (record { of_first = up_to_itself p; of_second = up; one = inl refl }))
    (λ before. subst (IsLarger p q)
    (sym (cond-true (point_lt p q) q p ((Decides-point_lt p q).1 before)))
    (record { of_first = before_up_to p q before; of_second = up_to_itself q; one = inr refl }))
  where
    not_test : IsUpTo q p → point_lt p q ≡ false
    not_test up = by (point_lt p q) refl
      where
        by : (b : _) → point_lt p q ≡ b → b ≡ false
        by true is = absurd (not_before_up_to p q ((Decides-point_lt p q).0 is) up)
        by false is = refl

lesser : (p q : Point) → IsLesser p q (cond (point_lt q p) q p)
lesser p q = by_order p q
    (λ up. subst (IsLesser p q)
    (sym (cond-false (point_lt q p) q p (not_test up)))
    (record { of_first = up_to_itself p; of_second = up; one = inl refl }))
    (λ before. subst (IsLesser p q)
    (sym (cond-true (point_lt q p) q p ((Decides-point_lt q p).1 before)))
    (record { of_first = before_up_to q p before; of_second = up_to_itself q; one = inr refl }))
  where
    not_test : IsUpTo p q → point_lt q p ≡ false
    not_test up = by (point_lt q p) refl
      where
        by : (b : _) → point_lt q p ≡ b → b ≡ false
        by true is = absurd (not_before_up_to q p ((Decides-point_lt q p).0 is) up)
        by false is = refl

module _ (e f : Edge) (e_before : IsBefore e.a e.b) (f_before : IsBefore f.a f.b) (along : IsAlong e f) where
  back : IsAlong f e
  back = along_exchanged e f e_before along

  abbrev start : Point
  start = overlap_start e f

  abbrev end : Point
  end = overlap_end e f

  start-larger : IsLarger e.a f.a start
  start-larger = larger e.a f.a

  end-lesser : IsLesser e.b f.b end
  end-lesser = lesser e.b f.b

  on_line : (g : Edge) (v u w : Point) → cross_at g.a g.b u ≡ pos 0 → cross_at g.a g.b w ≡ pos 0 →
      (v ≡ u) ⊎ (v ≡ w) → cross_at g.a g.b v ≡ pos 0
  on_line g v u w at_u at_w (inl is) = subst (λ z. cross_at g.a g.b z ≡ pos 0) (sym is) at_u
  on_line g v u w at_u at_w (inr is) = subst (λ z. cross_at g.a g.b z ≡ pos 0) (sym is) at_w

  -- ---- a meeting point is at one of the two

  at_start_of : (p : PlanePoint) → IsOn e p → IsOn f p → (v : Point) → (v ≡ e.a) ⊎ (v ≡ f.a) → IsAt v p → v ≡ start
  at_start_of p on_e on_f v one at =
      let held_e = held_of_on e v p e_before at on_e in
      let held_f = held_of_on f v p f_before at on_f in
      up_to_both v start
      (⊎_elim (λ is. subst (λ z. IsUpTo z start) (sym is) start-larger.of_first)
      (λ is. subst (λ z. IsUpTo z start) (sym is) start-larger.of_second) one)
      (⊎_elim (λ is. subst (λ z. IsUpTo z v) (sym is) held_e.from)
      (λ is. subst (λ z. IsUpTo z v) (sym is) held_f.from) start-larger.one)

  at_end_of : (p : PlanePoint) → IsOn e p → IsOn f p → (v : Point) → (v ≡ e.b) ⊎ (v ≡ f.b) → IsAt v p → v ≡ end
  at_end_of p on_e on_f v one at =
      let held_e = held_of_on e v p e_before at on_e in
      let held_f = held_of_on f v p f_before at on_f in
      up_to_both v end
      (⊎_elim (λ is. subst (IsUpTo v) (sym is) held_e.to)
      (λ is. subst (IsUpTo v) (sym is) held_f.to) end-lesser.one)
      (⊎_elim (λ is. subst (IsUpTo end) (sym is) end-lesser.of_first)
      (λ is. subst (IsUpTo end) (sym is) end-lesser.of_second) one)

  at_ends : (p : PlanePoint) → IsOn e p → IsOn f p → IsEnd e p ⊎ IsEnd f p → IsAt start p ⊎ IsAt end p
  at_ends p on_e on_f (inl (inl at)) = inl (subst (λ v. IsAt v p) (at_start_of p on_e on_f e.a (inl refl) at) at)
  at_ends p on_e on_f (inl (inr at)) = inr (subst (λ v. IsAt v p) (at_end_of p on_e on_f e.b (inl refl) at) at)
  at_ends p on_e on_f (inr (inl at)) = inl (subst (λ v. IsAt v p) (at_start_of p on_e on_f f.a (inr refl) at) at)
  at_ends p on_e on_f (inr (inr at)) = inr (subst (λ v. IsAt v p) (at_end_of p on_e on_f f.b (inr refl) at) at)

  pub meets_at_ends : (p : PlanePoint) → IsMeetingPoint e f p → IsAt start p ⊎ IsAt end p
  meets_at_ends p meeting = at_ends p meeting.common.0 meeting.common.1
      (⊎_elim (λ only. by_end e p (λ end_e. inl end_e)
      (λ none_e. by_end f p (λ end_f. inr end_f)
      (λ none_f. absurd (only_common_is_end e f p e_before f_before along meeting.common only none_e none_f))))
      (λ ends. ends) meeting.only_or_end)

  -- where the overlap ends before it starts the edges do not meet
  pub apart : IsBefore end start → (p : PlanePoint) → IsMeetingPoint e f p → ⊥
  apart before p meeting = ⊎_elim
      (λ at. not_before_up_to end start before (up_to_end start (held_of_on e start p e_before at meeting.common.0).to
      (held_of_on f start p f_before at meeting.common.1).to))
      (λ at. not_before_up_to end start before (up_from_start end (held_of_on e end p e_before at meeting.common.0).from
      (held_of_on f end p f_before at meeting.common.1).from))
      (meets_at_ends p meeting)
    where
      up_to_end : (v : Point) → IsUpTo v e.b → IsUpTo v f.b → IsUpTo v end
      up_to_end v to_e to_f = ⊎_elim (λ is. subst (IsUpTo v) (sym is) to_e) (λ is. subst (IsUpTo v) (sym is) to_f)
          end-lesser.one

      up_from_start : (v : Point) → IsUpTo e.a v → IsUpTo f.a v → IsUpTo start v
      up_from_start v of_e of_f = ⊎_elim (λ is. subst (λ z. IsUpTo z v) (sym is) of_e)
          (λ is. subst (λ z. IsUpTo z v) (sym is) of_f) start-larger.one

  -- ---- where it does not, both are meeting points

  module _ (up : IsUpTo start end) where
    start_of_e : IsHeldBy e start
    start_of_e = record {
      on_line = on_line e start e.a f.a (cross_at_first e.a e.b) along.0 start-larger.one;
      from = start-larger.of_first;
      to = up_to_through start end e.b up end-lesser.of_first;
    }

    start_of_f : IsHeldBy f start
    start_of_f = record {
      on_line = on_line f start e.a f.a back.0 (cross_at_first f.a f.b) start-larger.one;
      from = start-larger.of_second;
      to = up_to_through start end f.b up end-lesser.of_second;
    }

    end_of_e : IsHeldBy e end
    end_of_e = record {
      on_line = on_line e end e.b f.b (cross_at_same e.a e.b) along.1 end-lesser.one;
      from = up_to_through e.a start end start-larger.of_first up;
      to = end-lesser.of_first;
    }

    end_of_f : IsHeldBy f end
    end_of_f = record {
      on_line = on_line f end e.b f.b back.1 (cross_at_same f.a f.b) end-lesser.one;
      from = up_to_through f.a start end start-larger.of_second up;
      to = end-lesser.of_second;
    }

    pub start_on : IsOn e (in_plane start)
    start_on = on_of_held e start (in_plane start) e_before (at_itself start) start_of_e

    pub end_on : IsOn e (in_plane end)
    end_on = on_of_held e end (in_plane end) e_before (at_itself end) end_of_e

    at_point : (v w : Point) → v ≡ w → IsAt w (in_plane v)
    at_point v w is = subst (λ z. IsAt z (in_plane v)) is (at_itself v)

    pub start_meets : IsMeetingPoint e f (in_plane start)
    start_meets = record {
      common = (start_on, on_of_held f start (in_plane start) f_before (at_itself start) start_of_f);
      only_or_end = inr (⊎_elim (λ is. inl (inl (at_point start e.a is))) (λ is. inr (inl (at_point start f.a is)))
          start-larger.one);
    }

    pub end_meets : IsMeetingPoint e f (in_plane end)
    end_meets = record {
      common = (end_on, on_of_held f end (in_plane end) f_before (at_itself end) end_of_f);
      only_or_end = inr (⊎_elim (λ is. inl (inr (at_point end e.b is))) (λ is. inr (inr (at_point end f.b is)))
          end-lesser.one);
    }

-- the points that the program computes
pub record IsOverlap (e f : Edge) (start end : Point) : Type 0 where
  pub e_before : IsBefore e.a e.b
  pub f_before : IsBefore f.a f.b
  pub along : IsAlong e f
  pub start_is : start ≡ overlap_start e f
  pub end_is : end ≡ overlap_end e f

module _ (e f : Edge) (start end : Point) (o : IsOverlap e f start end) where
  -- they are apart where the end comes first
  pub none_met : point_lt end start ≡ true → (p : PlanePoint) → IsMeetingPoint e f p → ⊥
  none_met test = apart e f o.e_before o.f_before o.along
      (subst (λ v. IsBefore v (overlap_start e f)) o.end_is
      (subst (IsBefore end) o.start_is ((Decides-point_lt end start).0 test)))

  module _ (test : point_lt end start ≡ false) where
    up : IsUpTo (overlap_start e f) (overlap_end e f)
    up = subst (λ v. IsUpTo v (overlap_end e f)) o.start_is (subst (IsUpTo start) o.end_is (up_to_from_test start end
        test))

    -- both are on e, and meeting points
    pub start_is_on : IsOn e (in_plane start)
    start_is_on = subst (λ v. IsOn e (in_plane v)) (sym o.start_is) (start_on e f o.e_before o.f_before o.along up)

    pub end_is_on : IsOn e (in_plane end)
    end_is_on = subst (λ v. IsOn e (in_plane v)) (sym o.end_is) (end_on e f o.e_before o.f_before o.along up)

    pub meets_start : IsMeetingPoint e f (in_plane start)
    meets_start = subst (λ v. IsMeetingPoint e f (in_plane v)) (sym o.start_is)
        (start_meets e f o.e_before o.f_before o.along up)

    pub meets_end : IsMeetingPoint e f (in_plane end)
    meets_end = subst (λ v. IsMeetingPoint e f (in_plane v)) (sym o.end_is)
        (end_meets e f o.e_before o.f_before o.along up)

  -- a point at a whole point lies at its part
  at_part : (s : Fraction) (v : Point) → LiesAt e s (in_plane v) → (p : PlanePoint) → IsAt v p → LiesAt e s p
  at_part s v lies p at = lies_moved e s (in_plane v) p (same_place_at v p (in_plane v) at (at_itself v)) lies

  -- and so does each meeting point at one of the two
  pub lies_at_one : (s t : Fraction) → LiesAt e s (in_plane start) → LiesAt e t (in_plane end) → (p : PlanePoint) →
      IsMeetingPoint e f p → LiesAt e s p ⊎ LiesAt e t p
  lies_at_one s t at_start at_end p meeting = ⊎_elim
      (λ at. inl (at_part s start at_start p (subst (λ v. IsAt v p) (sym o.start_is) at)))
      (λ at. inr (at_part t end at_end p (subst (λ v. IsAt v p) (sym o.end_is) at)))
      (meets_at_ends e f o.e_before o.f_before o.along p meeting)

  -- where the end does not come later either, the two are one
  pub lies_at_start : (s : Fraction) → point_lt end start ≡ false → point_lt start end ≡ false →
      LiesAt e s (in_plane start) → (p : PlanePoint) → IsMeetingPoint e f p → LiesAt e s p
  lies_at_start s not_before not_after lies p meeting =
      let same = up_to_both start end (up_to_from_test start end not_before) (up_to_from_test end start not_after) in
      ⊎_elim (λ at. at) (λ at. at)
      (lies_at_one s s lies (subst (λ v. LiesAt e s (in_plane v)) same lies) p meeting)

  -- where it does, its part is greater
  pub start_less : (s t : Fraction) → IsPart s → IsPart t → point_lt start end ≡ true → LiesAt e s (in_plane start) →
      LiesAt e t (in_plane end) → IsLess s t
  start_less s t part_s part_t test at_start at_end =
      (compare_alike e o.e_before s t (in_plane start) (in_plane end) part_s.positive part_t.positive at_start
      at_end).0.1
      (smaller_in_plane start end ((Decides-point_lt start end).0 test))
