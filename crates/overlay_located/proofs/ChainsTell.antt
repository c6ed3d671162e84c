-- What a chain tells of a point: its edges below the point, those that lead from it, and those above it.
use Rattle.std.proofs.Common.{◌≡◌, ⊎_elim, true, false, cond, ℕ, zero, suc, ◌+◌, ◌-◌, ◌<◌, ◌≤◌}
use Rattle.std.proofs.Common.{ℤ, pos, ◌+ℤ◌, ◌<ℤ◌, ◌≤ℤ◌, ◌&&◌, ◌||◌, int_lt, List, [], ◌∷◌, ◌++◌, map, length}
use Rattle.std.proofs.Common.{take, drop, get_or, slice_range, refl, sym, ap, ap₂, ◌∙◌, subst, arith}
use Rattle.std.specs.List.{All}
use Rattle.std.specs.Ordering.{int_eq}
use Rattle.std.proofs.Math.Nat.{eq-or-lt_of_le}
use Rattle.std.specs.declared.cmp.Ordering.{Ordering}
use Rattle.std.specs.declared.cmp.Ordering.TheVariants.{Less, Equal, Greater}
use Rattle.std.specs.Ordering.{is_lt, is_gt, is_eq}
use Rattle.std.proofs.lemmas.Bool.{both_ways}
use Rattle.std.proofs.lemmas.Bool.Decides.{Decides-int_eq}
use Rattle.std.proofs.lemmas.Int.{by_lt_z}
use Rattle.std.proofs.lemmas.List.{append-nil, map-append, take-append-drop, get_or-take, get_or-drop, length-take-le}
use Rattle.std.proofs.lemmas.List.{length-drop, get_or_default}
use Rattle.std.proofs.lemmas.List.Elements.{All-head, All-tail, All-map}
use lib.IntN.{+ℤ_idr}
use Rattle.overlay_geom.specs.Edges.{CountedEdge, ends_of, subj_of}
use Rattle.overlay_geom.specs.Plane.{Point, side, total, in_plane}
use Rattle.overlay_geom.proofs.Signs.{linear}
use Rattle.overlay_geom.proofs.Mapped.{read_mapped, mapped_range}
use Rattle.overlay_plane.proofs.Tests.{test_from_lt, test_from_le, test_from_ge, lt_from_test, ge_from_test}
use Rattle.overlay_sectors.specs.Sectors.{spans_beside}
use Rattle.overlay_located.specs.Tells.{PassesBy, Tells, nothing}
use Rattle.overlay_located.specs.Slabs.{Band, IsWithin}
use Rattle.overlay_located.specs.Chains.{IsInSpan, IsChain, IsAmong, Counted, edge_in, edges_of}
use Rattle.overlay_located.specs.Queries.{Asked, Adds, AddsSums}
use Rattle.overlay_sectors.specs.declared.flank.Flank.{Flank}
use Rattle.overlay_sectors.specs.declared.flank.Flank.TheVariants.{Left, Right}
use Rattle.overlay_located.proofs.Chains.{spans_over, fact_of_edge}
use Rattle.overlay_located.proofs.OpenQueries.{adds_after_sums}
use Rattle.overlay_sectors.proofs.NearTests.{span_left, span_right, not_level}
use Rattle.overlay_located.proofs.TellsMore.{added, tells_same, tells_on, tells_as, tells_before}
use Rattle.overlay_located.proofs.TellsMore.{tells_behind, tells_passed}

-- a point in the span of an edge has points of it on both flanks
spanned : (e : CountedEdge) (v : Point) → IsInSpan e v → (h : Flank) → spans_beside h (ends_of e) (in_plane v) ≡ true
spanned e v is Right = span_right (ends_of e) v
    ∙ ap₂ (λ s t. s && t) (test_from_le e.a.x v.x (let a = is.from in omega linear)) (test_from_lt v.x e.b.x is.to)
spanned e v is Left = span_left (ends_of e) v
    ∙ ap₂ (λ s t. s && t) (test_from_lt e.a.x v.x is.from) (test_from_le v.x e.b.x (let a = is.to in omega linear))

module _ (e : CountedEdge) (v : Point) (is : IsInSpan e v) where
  passes : ¬ (side (ends_of e) (in_plane v) ≡ pos 0) → PassesBy v e
  passes apart h = ap₂ (λ s t. s && t) (spanned e v is h) (not_level (side (ends_of e) (in_plane v)) apart)

  -- an edge below the point adds its count
  below_tells : pos 0 <ℤ side (ends_of e) (in_plane v) → Tells v (e ∷ []) [] (λ h. subj_of e)
  below_tells high = tells_as v (e ∷ []) [] (λ h. added h v (λ f. false) e) (λ h. subj_of e)
      (λ h. ap₂ (λ s t. cond (s && (t || (int_eq (side (ends_of e) (in_plane v)) (pos 0) && false))) (subj_of e)
      (pos 0))
      (spanned e v is h) (test_from_lt (pos 0) (side (ends_of e) (in_plane v)) high))
      (tells_passed v e (passes (λ zero. omega linear)))

  -- one above it adds nothing
  above_tells : side (ends_of e) (in_plane v) <ℤ pos 0 → Tells v (e ∷ []) [] nothing
  above_tells low = tells_as v (e ∷ []) [] (λ h. added h v (λ f. false) e) nothing
      (λ h. ap (λ s. cond (s && (int_lt (pos 0) (side (ends_of e) (in_plane v)) ||
      (int_eq (side (ends_of e) (in_plane v)) (pos 0) && false))) (subj_of e) (pos 0)) (spanned e v is h)
      ∙ ap₂ (λ t u. cond (t || (u && false)) (subj_of e) (pos 0))
      (test_from_ge (pos 0) (side (ends_of e) (in_plane v)) (omega linear))
      (not_level (side (ends_of e) (in_plane v)) (λ zero. omega linear)))
      (tells_passed v e (passes (λ zero. omega linear)))

pub record IsBelow (v : Point) (e : CountedEdge) : Type 0 where
  pub over : IsInSpan e v
  pub high : pos 0 <ℤ side (ends_of e) (in_plane v)

pub record IsAbove (v : Point) (e : CountedEdge) : Type 0 where
  pub over : IsInSpan e v
  pub low : side (ends_of e) (in_plane v) <ℤ pos 0

pub all_below : (v : Point) (es : List CountedEdge) → All (IsBelow v) es → Tells v es [] (λ h. total subj_of es)
all_below v [] all = tells_same v []
all_below v (e ∷ es) all =
    let here = All-head (IsBelow v) e es all in
    let rest = all_below v es (All-tail (IsBelow v) e es all) in
    tells_as v (e ∷ es) [] (λ h. total subj_of es +ℤ subj_of e) (λ h. subj_of e +ℤ total subj_of es)
    (λ h. omega linear)
    (tells_on v (e ∷ es) (e ∷ []) [] (λ h. total subj_of es) (λ h. subj_of e)
    (tells_before v (e ∷ []) es [] (λ h. total subj_of es) rest) (below_tells e v here.over here.high))

pub all_above : (v : Point) (es : List CountedEdge) → All (IsAbove v) es → Tells v es [] nothing
all_above v [] all = tells_same v []
all_above v (e ∷ es) all =
    let here = All-head (IsAbove v) e es all in
    let rest = all_above v es (All-tail (IsAbove v) e es all) in
    tells_as v (e ∷ es) [] (λ h. pos 0 +ℤ pos 0) nothing (λ h. refl)
    (tells_on v (e ∷ es) (e ∷ []) [] nothing nothing
    (tells_before v (e ∷ []) es [] nothing rest) (above_tells e v here.over here.low))

-- edges below the point, then any, then edges above it
pub three_parts : (v : Point) (front mid back : List CountedEdge) → All (IsBelow v) front → All (IsAbove v) back →
    Tells v (front ++ (mid ++ back)) mid (λ h. total subj_of front)
three_parts v front mid back below above =
    tells_as v (front ++ (mid ++ back)) mid (λ h. total subj_of front +ℤ pos 0) (λ h. total subj_of front)
    (λ h. +ℤ_idr (total subj_of front))
    (tells_on v (front ++ (mid ++ back)) (mid ++ back) mid (λ h. total subj_of front) nothing
    (tells_behind v front [] (mid ++ back) (λ h. total subj_of front) (all_below v front below))
    (subst (λ (es : List CountedEdge). Tells v (mid ++ back) es nothing) (append-nil mid)
    (tells_before v mid back [] nothing (all_above v back above))))

-- the tests at two places tell of all
module _ (s : Band) (ks : List Counted) (v : Point) (chain : IsChain s ks) (is : IsWithin s v) where
  pub among : (start end : ℕ) → start ≤ end → end ≤ length ks →
      ((m : ℕ) (d : Counted) → start ≡ m + 1 → pos 0 <ℤ side (ends_of (get_or ks m d).edge) (in_plane v)) →
      ((d : Counted) → end < length ks → side (ends_of (get_or ks end d).edge) (in_plane v) <ℤ pos 0) →
      IsAmong ks v start end
  among start end ordered within high low = record {
    ordered = ordered;
    within = within;
    above = before start refl;
    below = λ n d from lt. ⊎_elim
        (λ (eq : end ≡ n). subst (λ i. side (ends_of (get_or ks i d).edge) (in_plane v) <ℤ pos 0) eq
        (low d (omega (arith, from, lt))))
        (λ (less : end < n). (chain.order end n d less lt v is).below (low d (omega (arith, from, lt))))
        (eq-or-lt_of_le {n = end} {m = n} from);
  }
    where
      before : (t : ℕ) → start ≡ t → (n : ℕ) (d : Counted) → n < start →
          pos 0 <ℤ side (ends_of (get_or ks n d).edge) (in_plane v)
      before zero none n d lt = absurd (omega (arith, none, lt))
      before (suc m) one n d lt = ⊎_elim
          (λ (eq : n ≡ m). subst (λ i. pos 0 <ℤ side (ends_of (get_or ks i d).edge) (in_plane v)) (sym eq)
          (high m d (omega (arith, one))))
          (λ (less : n < m). (chain.order n m d less (omega (arith, one, ordered, within)) v is).above
          (high m d (omega (arith, one))))
          (eq-or-lt_of_le {n = n} {m = m} (omega (arith, lt, one)))

  -- each edge is over v
  pub all_over : All (λ e. IsInSpan e v) (edges_of ks)
  all_over = All-map (λ e. IsInSpan e v) edge_in ks
      (λ n d lt. spans_over s (get_or ks n d).edge v (chain.spanned n d lt) is)

  -- of edges that v is among, those on its level are left to look at
  pub level_tells : (start end : ℕ) → IsAmong ks v start end →
      Tells v (edges_of ks) (edges_of (slice_range ks start end)) (λ h. total subj_of (edges_of (take start ks)))
  level_tells start end at =
      subst (λ es. Tells v es (edges_of (slice_range ks start end)) (λ h. total subj_of (edges_of (take start ks))))
      (sym parts)
      (three_parts v (edges_of (take start ks)) (edges_of (slice_range ks start end))
      (edges_of (drop (end - start) (drop start ks))) below above)
    where
      parts : edges_of ks ≡ edges_of (take start ks) ++
          (edges_of (slice_range ks start end) ++ edges_of (drop (end - start) (drop start ks)))
      parts = ap edges_of (sym (take-append-drop start ks)
          ∙ ap (λ ms. take start ks ++ ms) (sym (take-append-drop (end - start) (drop start ks))))
          ∙ map-append edge_in (take start ks) (slice_range ks start end ++ drop (end - start) (drop start ks))
          ∙ ap (λ es. edges_of (take start ks) ++ es)
          (map-append edge_in (slice_range ks start end) (drop (end - start) (drop start ks)))

      below_at : (n : ℕ) (d : Counted) → n < start → n < length ks → IsBelow v (get_or ks n d).edge
      below_at n d less lt = record {
        over = spans_over s (get_or ks n d).edge v (chain.spanned n d lt) is;
        high = at.above n d less;
      }

      above_at : (n : ℕ) (d : Counted) → end ≤ n → n < length ks → IsAbove v (get_or ks n d).edge
      above_at n d from lt = record {
        over = spans_over s (get_or ks n d).edge v (chain.spanned n d lt) is;
        low = at.below n d from lt;
      }

      below : All (IsBelow v) (edges_of (take start ks))
      below = All-map (IsBelow v) edge_in (take start ks) (λ n d lt.
          let count = length-take-le start ks (omega (arith, at.ordered, at.within)) in
          let less : n < start = omega (arith, lt, count) in
          subst (λ (k : Counted). IsBelow v k.edge) (sym (get_or-take start ks n d less))
          (below_at n d less (omega (arith, less, at.ordered, at.within))))

      above : All (IsAbove v) (edges_of (drop (end - start) (drop start ks)))
      above = All-map (IsAbove v) edge_in (drop (end - start) (drop start ks)) (λ n d lt.
          let one = length-drop (end - start) (drop start ks) in
          let two = length-drop start ks in
          let from : end ≤ start + ((end - start) + n) = omega (arith, at.ordered) in
          let inside : start + ((end - start) + n) < length ks = omega (arith, lt, one, two, at.ordered, at.within) in
          subst (λ (k : Counted). IsAbove v k.edge)
          (sym (get_or-drop (end - start) (drop start ks) n d ∙ get_or-drop start ks ((end - start) + n) d))
          (above_at (start + ((end - start) + n)) d from inside))

-- the sums of the edges below, and those on the level, are what the chain tells
pub level_adds : {X : Type 0} (f : X → Counted) (xs : List X) (s : Band) → IsChain s (map f xs) → (start end : ℕ)
    (sum : ℤ) (q r t : Asked) → IsWithin s q.point → IsAmong (map f xs) q.point start end →
    sum ≡ total subj_of (edges_of (take start (map f xs))) → AddsSums sum sum q r →
    Adds (edges_of (map f (slice_range xs start end))) r t → Adds (edges_of (map f xs)) q t
level_adds f xs s chain start end sum q r t is at same sums level =
    adds_after_sums (edges_of (map f xs)) (edges_of (slice_range (map f xs) start end)) sum sum
    (λ h. total subj_of (edges_of (take start (map f xs)))) q r t (sym same) (sym same)
    (level_tells s (map f xs) q.point chain is start end at) sums
    (subst (λ ms. Adds (edges_of ms) r t) (mapped_range f xs start end) level)

-- ---- tests of heights

-- a height that is less
pub low_from : (o : Ordering) (z : ℤ) → is_gt o ≡ int_lt (pos 0) z → is_eq o ≡ int_eq z (pos 0) → is_lt o ≡ true →
    z <ℤ pos 0
low_from Less z above level t =
    let one = ge_from_test (pos 0) z (sym above) in
    by_lt_z z (pos 0) (λ lt. lt) (λ ge.
    absurd (both_ways (int_eq z (pos 0)) (sym level) ((Decides-int_eq z (pos 0)).1 (omega linear))))
low_from Equal z above level t = absurd (both_ways false refl t)
low_from Greater z above level t = absurd (both_ways false refl t)

-- the same item, read of the mapped list
read_as : {X : Type 0} (f : X → Counted) (xs : List X) (i : ℕ) (x : X) (d : Counted) → i < length xs →
    f (get_or xs i x) ≡ get_or (map f xs) i d
read_as f xs i x d lt = sym (read_mapped f xs i (get_or xs i x) d lt (get_or_default xs i x (get_or xs i x) lt))

-- what the test at a place of a mapped list says
pub high_at : {X : Type 0} (f : X → Counted) (xs : List X) (v : Point) (start : ℕ) (x : X) → 0 < start →
    start ≤ length xs → int_lt (pos 0) (side (ends_of (f (get_or xs (start - 1) x)).edge) (in_plane v)) ≡ true →
    (m : ℕ) (d : Counted) → start ≡ m + 1 → pos 0 <ℤ side (ends_of (get_or (map f xs) m d).edge) (in_plane v)
high_at f xs v start x some within high m d one =
    let lt : start - 1 < length xs = omega (arith, some, within) in
    let same : start - 1 ≡ m = omega (arith, one) in
    subst (λ (k : Counted). pos 0 <ℤ side (ends_of k.edge) (in_plane v))
    (read_as f xs (start - 1) x d lt ∙ ap (λ j. get_or (map f xs) j d) same)
    (lt_from_test (pos 0) (side (ends_of (f (get_or xs (start - 1) x)).edge) (in_plane v)) high)

pub low_at : {X : Type 0} (f : X → Counted) (xs : List X) (v : Point) (end : ℕ) (x : X) → end < length xs →
    side (ends_of (f (get_or xs end x)).edge) (in_plane v) <ℤ pos 0 →
    (d : Counted) → side (ends_of (get_or (map f xs) end d).edge) (in_plane v) <ℤ pos 0
low_at f xs v end x lt low d =
    subst (λ (k : Counted). side (ends_of k.edge) (in_plane v) <ℤ pos 0) (read_as f xs end x d lt) low

-- the edge at a place has points at the x-coordinate of v, and is not upright
pub record IsOver (e : CountedEdge) (v : Point) : Type 0 where
  pub from : e.a.x ≤ℤ v.x
  pub to : v.x ≤ℤ e.b.x
  pub wide : e.a.x <ℤ e.b.x

pub over_at : {X : Type 0} (f : X → Counted) (v : Point) (xs : List X) (i : ℕ) (x : X) → i < length xs →
    All (λ e. IsInSpan e v) (edges_of (map f xs)) → IsOver (f (get_or xs i x)).edge v
over_at f v xs i x lt all =
    let is = fact_of_edge (λ e. IsInSpan e v) f xs i (get_or xs i x) lt (get_or_default xs i x (get_or xs i x) lt)
    all in
    let from = is.from in
    let to = is.to in
    record { from = omega linear; to = omega linear; wide = omega linear }
