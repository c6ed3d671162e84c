-- In ends sorted by their points an end of the subject and one of the clip are at one point exactly where two such
-- follow one another.
use Rattle.std.proofs.Common.{◌≡◌, ⊎_elim, Bool, true, false, cond, not, ◌&&◌, ◌||◌, List, [], ◌∷◌, Contains, ℤ, refl}
use Rattle.std.proofs.Common.{sym, ap, ◌∙◌, subst, arith}
use Rattle.std.specs.Cmp.{IsStrictWeakOrder}
use Rattle.std.specs.List.{AllPairs}
use Rattle.std.specs.List.Sorted.{IsSortedBy}
use Rattle.std.proofs.lemmas.List.Sorted.{sorted_far}
use Rattle.std.proofs.lemmas.Bool.{false≢true, and_parts, or_cases}
use Rattle.overlay_geom.specs.Plane.{Point, point_lt, point_eq}
use Rattle.overlay_geom.specs.Points.{plain_point}
use Rattle.overlay_geom.proofs.Mapped.{AllPairs-map}
use Rattle.overlay_geom.proofs.Orders.{point_eq-same, point_eq-of_same, point_lt-order}
use Rattle.overlay_plane.proofs.LaterEntries.{Each, Each-from_all_pairs, Contains-cases}
use Rattle.overlay_plane.proofs.Totals.{Contains-head, Contains-later}
use Rattle.overlay_graph.proofs.EndSums.{neither_before}
use Rattle.overlay_relate.specs.EdgeTests.{BorderEnd, plain_end, plain_ends, differ, differs_along, some_next_differ}
use Rattle.overlay_relate.specs.EdgeTests.{ShareAnEnd}
use Rattle.overlay_relate.specs.declared.border_end.BorderEnd.{BorderEnd as HeldEnd}

-- the second end is not at a smaller point
abbrev pub InOrder : BorderEnd → BorderEnd → Type 0
InOrder m n = point_lt n.point m.point ≡ false

-- ---- two that follow one another and differ

-- two ends that differ share a point
differing : (ms : List BorderEnd) (m n : BorderEnd) → Contains ms m → Contains ms n → differ m n ≡ true → ShareAnEnd ms
differing ms m n at_m at_n t = by m.of_subj refl (and_parts (point_eq m.point n.point) _ t).1
  where
    same : m.point ≡ n.point
    same = point_eq-same m.point n.point (and_parts (point_eq m.point n.point) _ t).0

    isnt : (s : Bool) → not s ≡ true → s ≡ false
    isnt true e = absurd (false≢true e)
    isnt false e = refl

    by : (s : Bool) → m.of_subj ≡ s → cond m.of_subj (not n.of_subj) n.of_subj ≡ true → ShareAnEnd ms
    by true is d = record {
      subj = m;
      clip = n;
      subj_among = at_m;
      clip_among = at_n;
      same = same;
      is_subj = is;
      is_clip = isnt n.of_subj (subst (λ s. cond s (not n.of_subj) n.of_subj ≡ true) is d);
    }
    by false is d = record {
      subj = n;
      clip = m;
      subj_among = at_n;
      clip_among = at_m;
      same = sym same;
      is_subj = subst (λ s. cond s (not n.of_subj) n.of_subj ≡ true) is d;
      is_clip = is;
    }

-- so where some differ from the one before
share_along : (ms : List BorderEnd) (m : BorderEnd) (ns : List BorderEnd) → Contains ms m →
    ((n : BorderEnd) → Contains ns n → Contains ms n) →
    differs_along m ns ≡ true → ShareAnEnd ms
share_along ms m [] at_m inside t = absurd (false≢true t)
share_along ms m (n ∷ ns) at_m inside t = ⊎_elim
    (λ here. differing ms m n at_m (inside n (Contains-head n ns)) here)
    (λ later. share_along ms n ns (inside n (Contains-head n ns)) (λ k c. inside k (Contains-later n ns k c)) later)
    (or_cases (differ m n) (differs_along n ns) t)

-- ---- none that follow one another differ

-- both parts of what does not hold
neither : (s t : Bool) → (s || t) ≡ false → (s ≡ false) × (t ≡ false)
neither true t e = absurd (false≢true (sym e))
neither false t e = (refl, e)

alike : (s t : Bool) → cond s (not t) t ≡ false → s ≡ t
alike true true e = refl
alike true false e = absurd (false≢true (sym e))
alike false true e = absurd (false≢true (sym e))
alike false false e = refl

-- two ends at one point that do not differ are of one shape
one_shape : (m n : BorderEnd) → differ m n ≡ false → m.point ≡ n.point → m.of_subj ≡ n.of_subj
one_shape m n same at = alike m.of_subj n.of_subj
    (subst (λ t. (t && cond m.of_subj (not n.of_subj) n.of_subj) ≡ false) (point_eq-of_same m.point n.point at) same)

-- nor do the later ones at the point of the first
later_alike : (m : BorderEnd) (ns : List BorderEnd) → Each InOrder (m ∷ ns) → differs_along m ns ≡ false →
    (n : BorderEnd) → Contains ns n →
    m.point ≡ n.point → m.of_subj ≡ n.of_subj
later_alike m [] order none n c at = elim c.1 [ ]
later_alike m (k ∷ ns) order none n c at = ⊎_elim
    (λ same. subst (λ (e : BorderEnd). m.of_subj ≡ e.of_subj) same
    (one_shape m k parts.0 (at ∙ sym (ap (λ (e : BorderEnd). e.point) same))))
    (λ later. one_shape m k parts.0 (between later) ∙ later_alike k ns order.1 parts.1 n later
    (sym (between later) ∙ at))
    (Contains-cases k ns n c)
  where
    parts : (differ m k ≡ false) × (differs_along k ns ≡ false)
    parts = neither (differ m k) (differs_along k ns) none

    between : Contains ns n → m.point ≡ k.point
    between later = neither_before m.point k.point
        (subst (λ (p : Point). point_lt p k.point ≡ false) (sym at) (order.1.0 n later))
        (order.0 k (Contains-head k ns))

-- so no two at one point differ, where no two later ones do
alike_from : (m : BorderEnd) (ns : List BorderEnd) → Each InOrder (m ∷ ns) → differs_along m ns ≡ false →
    (k n : BorderEnd) → k.point ≡ n.point →
    (Contains ns k → Contains ns n → k.of_subj ≡ n.of_subj) → Contains (m ∷ ns) k → Contains (m ∷ ns) n →
    k.of_subj ≡ n.of_subj
alike_from m ns order none k n at rest at_k at_n = ⊎_elim
    (λ mk. ⊎_elim (λ mn. ap (λ (e : BorderEnd). e.of_subj) (sym mk ∙ mn))
    (λ later. subst (λ (e : BorderEnd). e.of_subj ≡ n.of_subj) mk
    (later_alike m ns order none n later (ap (λ (e : BorderEnd). e.point) mk ∙ at)))
    (Contains-cases m ns n at_n))
    (λ later_k. ⊎_elim
    (λ mn. sym (subst (λ (e : BorderEnd). e.of_subj ≡ k.of_subj) mn
    (later_alike m ns order none k later_k (ap (λ (e : BorderEnd). e.point) mn ∙ sym at))))
    (λ later_n. rest later_k later_n)
    (Contains-cases m ns n at_n))
    (Contains-cases m ns k at_k)

all_alike : (m : BorderEnd) (ns : List BorderEnd) → Each InOrder (m ∷ ns) → differs_along m ns ≡ false →
    (k n : BorderEnd) → k.point ≡ n.point →
    Contains (m ∷ ns) k → Contains (m ∷ ns) n → k.of_subj ≡ n.of_subj
all_alike m [] order none k n at = alike_from m [] order none k n at (λ c d. elim c.1 [ ])
all_alike m (l ∷ ls) order none k n at = alike_from m (l ∷ ls) order none k n at
    (all_alike l ls order.1 (neither (differ m l) (differs_along l ls) none).1 k n at)

-- no end differs from itself
not_itself : (m : BorderEnd) → differ m m ≡ false
not_itself m = by m.of_subj (point_eq m.point m.point)
  where
    by : (s t : Bool) → (t && cond s (not s) s) ≡ false
    by true true = refl
    by true false = refl
    by false true = refl
    by false false = refl

-- ---- the test

pub share_from_next : (ms : List BorderEnd) → some_next_differ ms ≡ true → ShareAnEnd ms
share_from_next [] t = absurd (false≢true t)
share_from_next (m ∷ ms) t = share_along (m ∷ ms) m (m ∷ ms) (Contains-head m ms) (λ n c. c) t

pub next_from_share : (ms : List BorderEnd) → AllPairs InOrder ms → ShareAnEnd ms → some_next_differ ms ≡ true
next_from_share [] order share = elim share.subj_among.1 [ ]
next_from_share (m ∷ ms) order share = by (some_next_differ (m ∷ ms)) refl
  where
    by : (t : Bool) → some_next_differ (m ∷ ms) ≡ t → some_next_differ (m ∷ ms) ≡ true
    by true is = is
    by false is = absurd (false≢true (sym share.is_clip
        ∙ sym (all_alike m ms (Each-from_all_pairs InOrder (m ∷ ms) order)
        (neither (differ m m) (differs_along m ms) is).1 share.subj share.clip share.same share.subj_among
        share.clip_among)
        ∙ share.is_subj))

-- ---- sorted ends

module _ {I : Type 0} (whole : I → ℤ) where
  -- the first end is at a smaller point
  abbrev pub held_before : HeldEnd I → HeldEnd I → Bool
  held_before m n = point_lt (plain_point whole m.point) (plain_point whole n.point)

  pub held_before-order : IsStrictWeakOrder held_before
  held_before-order = record {
    one_way = λ m n. point_lt-order.one_way (plain_point whole m.point) (plain_point whole n.point);
    chain = λ m n o. point_lt-order.chain (plain_point whole m.point) (plain_point whole n.point)
        (plain_point whole o.point);
  }

  pub in_order-from_sorted : (ms : List (HeldEnd I)) → IsSortedBy held_before ms →
      AllPairs InOrder (plain_ends whole ms)
  in_order-from_sorted ms up = AllPairs-map InOrder (plain_end whole) ms
      (λ j k d l m. sorted_far held_before held_before-order ms up j k d (omega (arith, l)) m)
