-- Runs of points that stand by their abscissas: those left of all, or right of all, of the points of contours are none
-- of them.
use Rattle.std.proofs.Common.{◌≡◌, inl, inr, ⊎_elim, ℕ, ◌<◌, ◌≤◌, Bool, true, false, not, ℤ, ◌<ℤ◌, ◌≤ℤ◌}
use Rattle.std.proofs.Common.{int_lt, List, [], ◌∷◌, ◌++◌, length, get_or, refl, sym, ap, subst, arith}
use Rattle.std.specs.List.Sorted.{IsPartitionedBy, IsPartitionPoint}
use Rattle.std.proofs.lemmas.Bool.{cases_lt, not-true}
use Rattle.std.proofs.lemmas.Int.{ints}
use Rattle.std.proofs.lemmas.List.{get_or-map, length-map}
use Rattle.std.proofs.lemmas.List.Elements.{All-nil, All-cons, All-push, All-weaker, All-append}
use Rattle.std.proofs.Math.Nat.{eq-or-lt_of_le}
use Rattle.overlay_geom.specs.Plane.{Point}
use Rattle.overlay_geom.specs.Points.{plain_point, plain_points}
use Rattle.overlay_geom.specs.declared.point.IntPoint.{IntPoint}
use Rattle.overlay_geom.proofs.Entries.{some_entry}
use Rattle.overlay_plane.proofs.Tests.{lt_from_test, ge_from_test, test_from_lt, test_from_ge}
use Rattle.overlay_relate.specs.Runs.{AreByX, IsBeside, IsSpan, IsPastRun, IsHull, IsRunOver}

from_not : (t : Bool) → not t ≡ false → t ≡ true
from_not true fails = refl
from_not false fails = sym fails

-- ---- spans

pub spans_none : (x : ℤ) → IsSpan [] x x
spans_none x = record { ordered = omega (arith, ints); within = All-nil (λ p. (x ≤ℤ p.x) × (p.x ≤ℤ x)) }

-- one point more
pub spans_more : (ps : List Point) (p : Point) (low high low' high' : ℤ) → IsSpan ps low high → low' ≤ℤ low →
    low' ≤ℤ p.x → high ≤ℤ high' → p.x ≤ℤ high' → IsSpan (ps ++ p ∷ []) low' high'
spans_more ps p low high low' high' span under under_p over over_p = record {
  ordered = let o = span.ordered in omega (arith, ints);
  within = All-push (λ q. (low' ≤ℤ q.x) × (q.x ≤ℤ high')) ps p
      (All-weaker (λ q. (low ≤ℤ q.x) × (q.x ≤ℤ high)) (λ q. (low' ≤ℤ q.x) × (q.x ≤ℤ high')) (λ q b.
      let l = b.0 in let h = b.1 in (omega (arith, ints), omega (arith, ints))) ps span.within)
      (under_p, over_p);
}

-- ---- runs

-- over the contours of two runs
pub run_over_both : (cs ds : List (List Point)) (qs : List Point) (i j k l m n : ℕ) → IsRunOver cs qs i j →
    IsRunOver ds qs k l → IsHull i j k l m n → IsRunOver (cs ++ ds) qs m n
run_over_both cs ds qs i j k l m n first second hull = record {
  ordered = hull.ordered;
  within = let a = first.within in let b = second.within in
      ⊎_elim (λ le. omega (arith, le)) (λ le. omega (arith, le)) hull.within;
  beside = λ o d lt past. let apart = hull.past o past in
      All-append (λ ps. IsBeside ps (get_or qs o d)) cs ds (first.beside o d lt apart.0) (second.beside o d lt apart.1);
}

module _ {I : Type 0} (whole : I → ℤ) where
  -- the point lies left of x
  abbrev pub is_left_of : ℤ → IntPoint I → Bool
  is_left_of x q = int_lt (whole q.x) x

  -- it does not lie right of it
  abbrev pub is_up_to : ℤ → IntPoint I → Bool
  is_up_to x q = not (int_lt x (whole q.x))

  module _ (qs : List (IntPoint I)) (order : AreByX (plain_points whole qs)) where
    x_at : (k : ℕ) (d : IntPoint I) (p : Point) → k < length qs →
        (get_or (plain_points whole qs) k p).x ≡ whole (get_or qs k d).x
    x_at k d p lt = ap (λ (q : Point). q.x) (get_or-map (plain_point whole) qs k d p lt)

    no_further_left : (j k : ℕ) (d : IntPoint I) → j ≤ k → k < length qs →
        whole (get_or qs j d).x ≤ℤ whole (get_or qs k d).x
    no_further_left j k d le lt = ⊎_elim
        (λ (same : j ≡ k). subst (λ n. whole (get_or qs j d).x ≤ℤ whole (get_or qs n d).x) same (omega (arith, ints)))
        (λ (less : j < k).
        let p = plain_point whole d in
        let l = length-map qs (plain_point whole) in
        let up = order j k p less (omega (arith, lt)) in
        let first = x_at j d p (omega (arith, less, lt)) in
        let second = x_at k d p lt in
        omega (arith, ints)) (eq-or-lt_of_le le)

    pub left-parted : (x : ℤ) → IsPartitionedBy (is_left_of x) qs
    left-parted x j k d le lt passes =
        let further = no_further_left j k d le lt in
        let less = lt_from_test (whole (get_or qs k d).x) x passes in
        test_from_lt (whole (get_or qs j d).x) x (omega (arith, ints))

    pub up_to-parted : (x : ℤ) → IsPartitionedBy (is_up_to x) qs
    up_to-parted x j k d le lt passes =
        let further = no_further_left j k d le lt in
        let up = ge_from_test x (whole (get_or qs k d).x) (not-true (int_lt x (whole (get_or qs k d).x)) passes) in
        ap not (test_from_ge x (whole (get_or qs j d).x) (omega (arith, ints)))

    -- between the points left of the span and those right of it stand those that may lie in it
    pub run_over_span : (ps : List Point) (low high : ℤ) → IsSpan ps low high → (start end : ℕ) →
        IsPartitionPoint (λ q. is_left_of low q ≡ true) (λ q. is_left_of low q ≡ false) qs start →
        IsPartitionPoint (λ q. is_up_to high q ≡ true) (λ q. is_up_to high q ≡ false) qs end →
        start ≤ length qs → end ≤ length qs → IsRunOver (ps ∷ []) (plain_points whole qs) start end
    run_over_span ps low high span start end left up_to first last = record {
      ordered = ordered;
      within = let l = length-map qs (plain_point whole) in omega (arith, last);
      beside = λ n d lt past. let q = get_or (plain_points whole qs) n d in
          All-cons (λ cs. IsBeside cs q) ps [] (apart n d
          (let l = length-map qs (plain_point whole) in omega (arith, lt)) past) (All-nil (λ cs. IsBeside cs q));
    }
      where
        right : (k : ℕ) (d : IntPoint I) → end ≤ k → k < length qs → high <ℤ whole (get_or qs k d).x
        right k d le lt = lt_from_test high (whole (get_or qs k d).x)
            (from_not (int_lt high (whole (get_or qs k d).x)) (up_to.1 k d le lt))

        ordered : start ≤ end
        ordered = ⊎_elim (λ (less : end < start).
            let lt : end < length qs = omega (arith, less, first) in
            let d = some_entry qs end lt in
            let l = lt_from_test (whole (get_or qs end d).x) low (left.0 end d (omega arith) less) in
            let r = right end d (omega arith) lt in
            let o = span.ordered in
            absurd (omega (arith, ints))) (λ le. le) (cases_lt end start)

        apart : (n : ℕ) (d : Point) → n < length qs → IsPastRun start end n →
            IsBeside ps (get_or (plain_points whole qs) n d)
        apart n d lt past =
            let q = get_or (plain_points whole qs) n d in
            let e = some_entry qs n lt in
            let at = x_at n e d lt in
            ⊎_elim
            (λ before. let l = lt_from_test (whole (get_or qs n e).x) low (left.0 n e (omega arith) before) in
            inl (All-weaker (λ p. (low ≤ℤ p.x) × (p.x ≤ℤ high)) (λ p. q.x <ℤ p.x)
            (λ p b. let f = b.0 in omega (arith, ints)) ps span.within))
            (λ after. let r = right n e after lt in
            inr (All-weaker (λ p. (low ≤ℤ p.x) × (p.x ≤ℤ high)) (λ p. p.x <ℤ q.x)
            (λ p b. let f = b.1 in omega (arith, ints)) ps span.within)) past
