-- Scaled edges meet in the points n times as far as those where the edges meet.
use Rattle.std.proofs.Common.{◌≡◌, inl, inr, ⊎_elim, ℤ, pos, ◌*ℤ◌, ◌<ℤ◌, sym, ap, ◌∙◌}
use Rattle.overlay_geom.specs.Edges.{CountedEdge, ends_of}
use Rattle.overlay_geom.specs.Plane.{Point, PlanePoint, SamePlace, IsAt, IsEnd}
use Rattle.overlay_geom.proofs.Identities.{solve, ◌⊗◌, ◌≗◌}
use Rattle.overlay_geom.proofs.Signs.{mul-pos, eq_of_mul-eq}
use Rattle.overlay_plane.specs.Meetings.{IsMeetingPoint}
use Rattle.overlay_plane.specs.Rounds.{IsSmaller}
use Rattle.overlay_scaled.specs.Scaled.{scaled_point, scaled_edge, IsTimes}
use Rattle.overlay_scaled.proofs.Factors.{eq_alike, lt_alike}
use Rattle.overlay_scaled.proofs.ScaledPoints.{further, is_further, nearer, is_nearer, lies_alike}
use Rattle.overlay_scaled.proofs.ScaledRelations.{far, near}

module _ (n : ℤ) (some : pos 0 <ℤ n) where
  -- ---- coordinates

  -- over both denominators
  of_coordinate : (p q : PlanePoint) (x z : ℤ) → z *ℤ p.d ≡ n *ℤ (x *ℤ q.d) → p.d *ℤ z ≡ (n *ℤ q.d) *ℤ x
  of_coordinate p q x z at = solve 2 (λ z d. d ⊗ z ≗ z ⊗ d) tt z p.d ∙ at
      ∙ solve 3 (λ n x c. n ⊗ (x ⊗ c) ≗ (n ⊗ c) ⊗ x) tt n x q.d

  of_whole : (p q : PlanePoint) (v : ℤ) → p.d *ℤ ((n *ℤ v) *ℤ q.d) ≡ (n *ℤ q.d) *ℤ (v *ℤ p.d)
  of_whole p q v = solve 4 (λ n v d c. d ⊗ ((n ⊗ v) ⊗ c) ≗ (n ⊗ c) ⊗ (v ⊗ d)) tt n v p.d q.d

  -- ---- whole points, and ends

  module _ (p q : PlanePoint) (at : IsTimes n p q) where
    at_forth : (v : Point) → IsAt v p → IsAt (scaled_point n v) q
    at_forth v is = (by p.x q.x v.x at.0 is.0, by p.y q.y v.y at.1 is.1)
      where
        by : (x z v : ℤ) → z *ℤ p.d ≡ n *ℤ (x *ℤ q.d) → x ≡ v *ℤ p.d → z ≡ (n *ℤ v) *ℤ q.d
        by x z v times same = eq_alike (n *ℤ q.d) p.d x (v *ℤ p.d) z ((n *ℤ v) *ℤ q.d) p.positive
            (sym (of_coordinate p q x z times)) (sym (of_whole p q v)) same

    at_back : (v : Point) → IsAt (scaled_point n v) q → IsAt v p
    at_back v is = (by p.x q.x v.x at.0 is.0, by p.y q.y v.y at.1 is.1)
      where
        by : (x z v : ℤ) → z *ℤ p.d ≡ n *ℤ (x *ℤ q.d) → z ≡ (n *ℤ v) *ℤ q.d → x ≡ v *ℤ p.d
        by x z v times same = eq_alike p.d (n *ℤ q.d) z ((n *ℤ v) *ℤ q.d) x (v *ℤ p.d) (mul-pos n q.d some q.positive)
            (of_coordinate p q x z times) (of_whole p q v) same

    pub end_forth : (e : CountedEdge) → IsEnd (ends_of e) p → IsEnd (ends_of (scaled_edge n e)) q
    end_forth e (inl a) = inl (at_forth e.a a)
    end_forth e (inr b) = inr (at_forth e.b b)

    pub end_back : (e : CountedEdge) → IsEnd (ends_of (scaled_edge n e)) q → IsEnd (ends_of e) p
    end_back e (inl a) = inl (at_back e.a a)
    end_back e (inr b) = inr (at_back e.b b)

  -- ---- places

  -- points n times as far as two others are at one place where these are
  module _ (p q r s : PlanePoint) (at : IsTimes n p q) (also : IsTimes n r s) where
    abbrev before : ℤ
    before = p.d *ℤ r.d

    abbrev after : ℤ
    after = (n *ℤ q.d) *ℤ s.d

    of_product : (x z : ℤ) → z *ℤ p.d ≡ n *ℤ (x *ℤ q.d) → before *ℤ (z *ℤ s.d) ≡ after *ℤ (x *ℤ r.d)
    of_product x z times = solve 4 (λ p r z s. (p ⊗ r) ⊗ (z ⊗ s) ≗ (r ⊗ s) ⊗ (p ⊗ z)) tt p.d r.d z s.d
        ∙ ap (λ k. (r.d *ℤ s.d) *ℤ k) (of_coordinate p q x z times)
        ∙ solve 5 (λ r s n q x. (r ⊗ s) ⊗ ((n ⊗ q) ⊗ x) ≗ ((n ⊗ q) ⊗ s) ⊗ (x ⊗ r)) tt r.d s.d n q.d x

    of_second : (y w : ℤ) → w *ℤ r.d ≡ n *ℤ (y *ℤ s.d) → before *ℤ (w *ℤ q.d) ≡ after *ℤ (y *ℤ p.d)
    of_second y w times = solve 4 (λ p r w q. (p ⊗ r) ⊗ (w ⊗ q) ≗ (p ⊗ q) ⊗ (r ⊗ w)) tt p.d r.d w q.d
        ∙ ap (λ k. (p.d *ℤ q.d) *ℤ k) (of_coordinate r s y w times)
        ∙ solve 5 (λ p q n s y. (p ⊗ q) ⊗ ((n ⊗ s) ⊗ y) ≗ ((n ⊗ q) ⊗ s) ⊗ (y ⊗ p)) tt p.d q.d n s.d y

    pub place_forth : SamePlace p r → SamePlace q s
    place_forth same = (by p.x q.x r.x s.x at.0 also.0 same.0, by p.y q.y r.y s.y at.1 also.1 same.1)
      where
        by : (x z y w : ℤ) → z *ℤ p.d ≡ n *ℤ (x *ℤ q.d) → w *ℤ r.d ≡ n *ℤ (y *ℤ s.d) → x *ℤ r.d ≡ y *ℤ p.d →
            z *ℤ s.d ≡ w *ℤ q.d
        by x z y w first second same = eq_alike after before (x *ℤ r.d) (y *ℤ p.d) (z *ℤ s.d) (w *ℤ q.d)
            (mul-pos p.d r.d p.positive r.positive) (sym (of_product x z first)) (sym (of_second y w second)) same

    pub place_back : SamePlace q s → SamePlace p r
    place_back same = (by p.x q.x r.x s.x at.0 also.0 same.0, by p.y q.y r.y s.y at.1 also.1 same.1)
      where
        by : (x z y w : ℤ) → z *ℤ p.d ≡ n *ℤ (x *ℤ q.d) → w *ℤ r.d ≡ n *ℤ (y *ℤ s.d) → z *ℤ s.d ≡ w *ℤ q.d →
            x *ℤ r.d ≡ y *ℤ p.d
        by x z y w first second same = eq_alike before after (z *ℤ s.d) (w *ℤ q.d) (x *ℤ r.d) (y *ℤ p.d)
            (mul-pos (n *ℤ q.d) s.d (mul-pos n q.d some q.positive) s.positive) (of_product x z first)
            (of_second y w second) same

    -- and they are in the order of these
    pub smaller_forth : IsSmaller p r → IsSmaller q s
    smaller_forth (inl less) = inl (lt_alike after before (mul-pos (n *ℤ q.d) s.d (mul-pos n q.d some q.positive)
        s.positive) (mul-pos p.d r.d p.positive r.positive) (p.x *ℤ r.d) (r.x *ℤ p.d) (q.x *ℤ s.d) (s.x *ℤ q.d)
        (sym (of_product p.x q.x at.0)) (sym (of_second r.x s.x also.0)) less)
    smaller_forth (inr (level, less)) = inr (
      eq_alike after before (p.x *ℤ r.d) (r.x *ℤ p.d) (q.x *ℤ s.d) (s.x *ℤ q.d)
          (mul-pos p.d r.d p.positive r.positive) (sym (of_product p.x q.x at.0)) (sym (of_second r.x s.x also.0))
          level,
      lt_alike after before (mul-pos (n *ℤ q.d) s.d (mul-pos n q.d some q.positive) s.positive)
          (mul-pos p.d r.d p.positive r.positive) (p.y *ℤ r.d) (r.y *ℤ p.d) (q.y *ℤ s.d) (s.y *ℤ q.d)
          (sym (of_product p.y q.y at.1)) (sym (of_second r.y s.y also.1)) less,
    )

    pub smaller_back : IsSmaller q s → IsSmaller p r
    smaller_back (inl less) = inl (lt_alike before after (mul-pos p.d r.d p.positive r.positive)
        (mul-pos (n *ℤ q.d) s.d (mul-pos n q.d some q.positive) s.positive) (q.x *ℤ s.d) (s.x *ℤ q.d) (p.x *ℤ r.d)
        (r.x *ℤ p.d) (of_product p.x q.x at.0) (of_second r.x s.x also.0) less)
    smaller_back (inr (level, less)) = inr (
      eq_alike before after (q.x *ℤ s.d) (s.x *ℤ q.d) (p.x *ℤ r.d) (r.x *ℤ p.d)
          (mul-pos (n *ℤ q.d) s.d (mul-pos n q.d some q.positive) s.positive) (of_product p.x q.x at.0)
          (of_second r.x s.x also.0) level,
      lt_alike before after (mul-pos p.d r.d p.positive r.positive)
          (mul-pos (n *ℤ q.d) s.d (mul-pos n q.d some q.positive) s.positive) (q.y *ℤ s.d) (s.y *ℤ q.d) (p.y *ℤ r.d)
          (r.y *ℤ p.d) (of_product p.y q.y at.1) (of_second r.y s.y also.1) less,
    )

  -- a point at the place of the point n times as far is as far
  pub times_at_place : (p q s : PlanePoint) → IsTimes n p q → SamePlace q s → IsTimes n p s
  times_at_place p q s at same = (by p.x q.x s.x at.0 same.0, by p.y q.y s.y at.1 same.1)
    where
      by : (x z w : ℤ) → z *ℤ p.d ≡ n *ℤ (x *ℤ q.d) → z *ℤ s.d ≡ w *ℤ q.d → w *ℤ p.d ≡ n *ℤ (x *ℤ s.d)
      by x z w times same = eq_of_mul-eq q.d (w *ℤ p.d) (n *ℤ (x *ℤ s.d)) q.positive (
          solve 3 (λ q w p. q ⊗ (w ⊗ p) ≗ (w ⊗ q) ⊗ p) tt q.d w p.d ∙ ap (λ k. k *ℤ p.d) (sym same)
          ∙ solve 3 (λ z s p. (z ⊗ s) ⊗ p ≗ s ⊗ (z ⊗ p)) tt z s.d p.d ∙ ap (λ k. s.d *ℤ k) times
          ∙ solve 4 (λ s n x q. s ⊗ (n ⊗ (x ⊗ q)) ≗ q ⊗ (n ⊗ (x ⊗ s))) tt s.d n x q.d)

  -- ---- meeting points

  module _ (p q : PlanePoint) (at : IsTimes n p q) (e f : CountedEdge) where
    pub meeting_forth : IsMeetingPoint (ends_of e) (ends_of f) p →
        IsMeetingPoint (ends_of (scaled_edge n e)) (ends_of (scaled_edge n f)) q
    meeting_forth meeting = record {
      common = (
        ((lies_alike n some p q at).on e).0 meeting.common.0,
        ((lies_alike n some p q at).on f).0 meeting.common.1,
      );
      only_or_end = ⊎_elim
          (λ only. inl (λ s common. place_forth (nearer n some s) s p q (is_nearer n some s) at
          (only (nearer n some s) (((near n some s).on e).1 common.0, ((near n some s).on f).1 common.1))))
          (λ end. inr (⊎_elim (λ of_e. inl (end_forth p q at e of_e)) (λ of_f. inr (end_forth p q at f of_f)) end))
          meeting.only_or_end;
    }

    pub meeting_back : IsMeetingPoint (ends_of (scaled_edge n e)) (ends_of (scaled_edge n f)) q →
        IsMeetingPoint (ends_of e) (ends_of f) p
    meeting_back meeting = record {
      common = (
        ((lies_alike n some p q at).on e).1 meeting.common.0,
        ((lies_alike n some p q at).on f).1 meeting.common.1,
      );
      only_or_end = ⊎_elim
          (λ only. inl (λ r common. place_back r (further n r) p q (is_further n r) at
          (only (further n r) (((far n some r).on e).0 common.0, ((far n some r).on f).0 common.1))))
          (λ end. inr (⊎_elim (λ of_e. inl (end_back p q at e of_e)) (λ of_f. inr (end_back p q at f of_f)) end))
          meeting.only_or_end;
    }
