-- Which edges of a list meet an edge at a place, told by the group of meeting points there, and sums over them.
use Rattle.std.proofs.Common.{◌≡◌, ◌≢◌, ⊎_elim, ℕ, ◌+◌, ◌-◌, ◌<◌, ◌≤◌, true, false, cond, ℤ, pos, ◌+ℤ◌, List, length}
use Rattle.std.proofs.Common.{drop, get_or, slice_range, AllPairs, Contains, refl, sym, ap, ◌∙◌, subst, arith}
use Rattle.std.proofs.lemmas.Bool.{cases_Bool, cases_lt, both_ways}
use Rattle.std.proofs.lemmas.List.{get_or_default, get_or-drop, get_or-take, length-take-le, length-drop}
use Rattle.std.proofs.lemmas.List.Elements.{Contains-get_or}
use Rattle.overlay_geom.specs.Edges.{CountedEdge, ends_of}
use Rattle.overlay_geom.specs.Plane.{PlanePoint, SamePlace, IsOn, edge_eq, total}
use Rattle.overlay_geom.proofs.Entries.{some_entry}
use Rattle.overlay_geom.proofs.Orders.{edge_eq-itself, edge_eq-flip, edge_eq-from_lt}
use Rattle.overlay_plane.specs.Meetings.{IsMeetingPoint}
use Rattle.overlay_plane.specs.Regions.{HasDistinctEnds}
use Rattle.overlay_plane.proofs.Entries.{Contains-from_any}
use Rattle.overlay_plane.proofs.LaterEntries.{Each, Each-from_all_pairs}
use Rattle.overlay_plane.proofs.Totals.{total-same}
use Rattle.overlay_pairs.specs.Places.{IsAt}
use Rattle.overlay_exact.specs.AllMet.{IsMetBefore, TellsOf}
use Rattle.overlay_exact.specs.Along.{Met}
use Rattle.overlay_exact.specs.MetTotals.{IsOfMet, total_met}
use Rattle.overlay_exact.specs.Parts.{AreEqual, LiesAt}
use Rattle.overlay_exact.specs.PlacesAlong.{AreMetIn, IsPlaceWith}
use Rattle.overlay_exact.proofs.PartOrder.{compare_alike}
use Rattle.overlay_exact.proofs.PickedTotals.{without, picked_one, picked_total, Differ, IsNotPicked}
use Rattle.overlay_exact.proofs.PiecesFollow.{before_in, meeting_moved}
use Rattle.overlay_exact.proofs.PlacesTold.{entry, e_before, positive_at, one_place}
use Rattle.overlay_exact.proofs.PlaneOrder.{smaller_elsewhere}
use Rattle.overlay_exact.proofs.ToldMeetings.{other_place, differ_at}

-- ---- a part of a list

-- its entries stand in the list
entry_in_range : {X : Type 0} (xs : List X) (from end k : ℕ) (d : X) → from + k < end →
    get_or (slice_range xs from end) k d ≡ get_or xs (from + k) d
entry_in_range xs from end k d short = get_or-take (end - from) (drop from xs) k d (omega (arith, short))
    ∙ get_or-drop from xs k d

range_length : {X : Type 0} (xs : List X) (from end : ℕ) → from ≤ end → end ≤ length xs →
    length (slice_range xs from end) + from ≡ end
range_length xs from end up within =
    let all = length-drop from xs in
    let part = length-take-le (end - from) (drop from xs) (omega (arith, all, up, within)) in
    omega (arith, all, part, up, within)

-- an entry of it, at its place in the list
pub record IsInRange {X : Type 0} (xs : List X) (from end : ℕ) (x : X) : Type 0 where
  pub place : ℕ
  pub begun : from ≤ place
  pub short : place < end
  pub is : get_or xs place x ≡ x

pub entry_of_range : {X : Type 0} (xs : List X) (from end : ℕ) → from ≤ end → end ≤ length xs → (x : X) →
    Contains (slice_range xs from end) x → IsInRange xs from end x
entry_of_range xs from end up within x (k, inside, is) =
    let l = range_length xs from end up within in
    let short : from + k < end = omega (arith, inside) in
    record {
      place = from + k;
      begun = omega arith;
      short = short;
      is = sym (entry_in_range xs from end k x short) ∙ is;
    }

pub range_of_entry : {X : Type 0} (xs : List X) (from end k : ℕ) (x : X) → from ≤ k → k < end → end ≤ length xs →
    get_or xs k x ≡ x → Contains (slice_range xs from end) x
range_of_entry xs from end k x begun short within is =
    let l = range_length xs from end (omega (arith, begun, short)) within in
    let back : from + (k - from) ≡ k = omega (arith, begun) in (
      k - from,
      omega (arith, begun, short),
      entry_in_range xs from end (k - from) x (omega (arith, begun, short))
          ∙ ap (λ n. get_or xs n x) back ∙ is,
    )

-- ---- the edges met at a place

module _ (es : List CountedEdge) (i : ℕ) (e : CountedEdge) (ms : List Met) (given : AreMetIn es i e ms)
    (from end : ℕ) (p : PlanePoint) (place : IsPlaceWith es e ms from end p) where
  -- the meeting points there
  abbrev pub met : List Met
  met = slice_range ms from end

  -- the edge that one of them tells of
  abbrev pub edge_of_met : Met → CountedEdge
  edge_of_met m = get_or es m.other e

  distinct : HasDistinctEnds es
  distinct j k d less within = edge_eq-from_lt (ends_of (get_or es j d)) (ends_of (get_or es k d))
      (given.ascending j k d less within)

  -- what one of them tells: an edge other than e, which meets e at p
  pub record IsOfEdge (m : Met) : Type 0 where
    pub among : Contains es (edge_of_met m)
    pub other : edge_eq (ends_of e) (ends_of (edge_of_met m)) ≡ false
    pub meets : IsMeetingPoint (ends_of e) (ends_of (edge_of_met m)) p

  of_index : (k : ℕ) (d : Met) → from ≤ k → k < end → IsOfEdge (get_or ms k d)
  of_index k d begun short =
      let within : k < length ms = (let inside = place.within in omega arith) in
      let m = get_or ms k d in
      let tells : IsMetBefore es (length es) i e m = given.met.all.each k d within in
      let is : edge_of_met m ≡ tells.edge = get_or_default es m.other e tells.edge tells.at.0 ∙ tells.at.1 in
      let c : Contains es tells.edge = (m.other, tells.at.0, tells.at.1) in
      let meets = meeting_moved (ends_of e) (ends_of tells.edge) tells.met.point p (e_before es i e ms given)
      (before_in es given.forward tells.edge c)
      (one_place es i e ms given k d tells.met.point p within tells.met.place (place.at k d begun short))
      tells.met.meets in
      record {
        among = subst (λ g. Contains es g) (sym is) c;
        other = subst (λ (g : CountedEdge). edge_eq (ends_of e) (ends_of g) ≡ false) (sym is)
            (differ_at es i e given.entry given.ascending m.other tells.edge tells.at tells.other);
        meets = subst (λ (g : CountedEdge). IsMeetingPoint (ends_of e) (ends_of g) p) (sym is) meets;
      }

  pub of_met : (m : Met) → Contains met m → IsOfEdge m
  of_met m c =
      let in_range = entry_of_range ms from end place.ordered place.within m c in
      subst IsOfEdge in_range.is (of_index in_range.place m in_range.begun in_range.short)

  -- a meeting point at p is one of them
  index_here : (k : ℕ) (d : Met) → k < length ms → LiesAt (ends_of e) (get_or ms k d).part p →
      (from ≤ k) × (k < end)
  index_here k d within at = (
    ⊎_elim (λ (early : k < from). absurd (smaller_elsewhere p p (place.before k d (omega arith) early p at)
        (refl, refl))) (λ begun. begun) (cases_lt k from),
    ⊎_elim (λ short. short) (λ (late : end ≤ k). absurd (smaller_elsewhere p p (place.after k d late within p at)
        (refl, refl))) (cases_lt k end),
  )

  -- so each edge that meets e there is told
  told_here : (h : CountedEdge) → Contains es h → edge_eq (ends_of e) (ends_of h) ≡ false →
      IsMeetingPoint (ends_of e) (ends_of h) p → (m : Met) × Contains met m × (edge_of_met m ≡ h)
  told_here h (j, short, is) other meeting =
      let found = Contains-from_any (TellsOf e j p) ms (given.met.all.every j h p short
      (other_place es i e given.entry j h (short, is) other) (short, is) meeting) in
      let m = found.0 in
      let k = found.1.0 in
      let tells : TellsOf e j p m = found.2 in
      let here = index_here k m found.1.1
      (subst (λ (n : Met). LiesAt (ends_of e) n.part p) (sym found.1.2) tells.1) in (
        m,
        range_of_entry ms from end k m here.0 here.1 place.within found.1.2,
        ap (λ n. get_or es n e) tells.0 ∙ get_or_default es j e h short ∙ is,
      )

  -- no two of them tell of one edge
  different : AllPairs (λ m n. edge_eq (ends_of (edge_of_met m)) (ends_of (edge_of_met n)) ≡ false) met
  different a b d less inside =
      let l = range_length ms from end place.ordered place.within in
      let short : from + b < end = omega (arith, inside) in
      let within = place.within in
      let m = get_or ms (from + a) d in
      let n = get_or ms (from + b) d in
      let at_m = place.at (from + a) d (omega arith) (omega (arith, less, short)) in
      let at_n = place.at (from + b) d (omega arith) short in
      let m_pos = positive_at es i e ms given (from + a) d (omega (arith, less, short)) in
      let n_pos = positive_at es i e ms given (from + b) d (omega arith) in
      let equal : AreEqual m.part n.part = (compare_alike (ends_of e) (e_before es i e ms given) m.part n.part p p
      m_pos n_pos at_m at_n).1.1 (refl, refl) in
      let apart : m.other ≢ n.other = λ same. given.met.all.once (from + a) (from + b) d (omega (arith, less))
      (omega arith) same equal in
      let of_m = given.met.all.each (from + a) d (omega (arith, less, short)) in
      let of_n = given.met.all.each (from + b) d (omega arith) in
      subst (λ (x : Met). edge_eq (ends_of (edge_of_met x)) (ends_of (edge_of_met (get_or met b d))) ≡ false)
      (sym (entry_in_range ms from end a d (omega (arith, less, short))))
      (subst (λ (y : Met). edge_eq (ends_of (edge_of_met m)) (ends_of (edge_of_met y)) ≡ false)
      (sym (entry_in_range ms from end b d short))
      (differ_at es m.other (edge_of_met m) (of_m.at.0, get_or_default es m.other (edge_of_met m) e of_m.at.0)
      given.ascending n.other (edge_of_met n)
      (of_n.at.0, get_or_default es n.other (edge_of_met n) e of_n.at.0) (λ same. apart (sym same))))

  -- ---- sums

  pub totals_told : (f : CountedEdge → ℤ) → IsOfMet f es e p → total f es ≡ f e +ℤ total_met f es e met
  totals_told f of =
      picked_one es distinct f e (entry es i e ms given)
      ∙ ap (λ z. f e +ℤ z)
      (picked_total es distinct edge_of_met met (without f e) (λ m c. (of_met m c).among)
      (Each-from_all_pairs (Differ es distinct edge_of_met) met different) none
      ∙ total-same (λ m. without f e (edge_of_met m)) (λ m. f (edge_of_met m)) met
      (λ m c. ap (λ t. cond t (pos 0) (f (edge_of_met m)))
      (edge_eq-flip (ends_of e) (ends_of (edge_of_met m)) (of_met m c).other)))
    where
      none : (h : CountedEdge) → Contains es h → IsNotPicked es distinct edge_of_met met h → without f e h ≡ pos 0
      none h c not_picked = ⊎_elim
          (λ (same : edge_eq (ends_of h) (ends_of e) ≡ true). ap (λ t. cond t (pos 0) (f h)) same)
          (λ (apart : edge_eq (ends_of h) (ends_of e) ≡ false).
          let other = edge_eq-flip (ends_of h) (ends_of e) apart in
          ap (λ t. cond t (pos 0) (f h)) apart
          ∙ of h c other (λ meeting.
          let told = told_here h c other meeting in
          both_ways (edge_eq (ends_of h) (ends_of h))
          (subst (λ (g : CountedEdge). edge_eq (ends_of h) (ends_of g) ≡ false) told.2 (not_picked told.0 told.1))
          (edge_eq-itself (ends_of h))))
          (cases_Bool (edge_eq (ends_of h) (ends_of e)))
