-- A walk along an edge finds the sides at its meeting points.
use Rattle.std.proofs.Common.{◌≡◌, ◌⊎◌, ⊎_elim, inl, inr, ℕ, ◌-◌, ◌<◌, ◌≤◌, Bool, ℤ, List, ◌++◌, length}
use Rattle.std.proofs.Common.{slice_range, refl, sym, ◌∙◌, ap, subst, append_assoc, arith}
use Rattle.std.proofs.lemmas.Bool.{cases_lt}
use Rattle.std.proofs.lemmas.List.{get_or_append_left, get_or-append_right, length-append}
use Rattle.overlay_geom.specs.Edges.{CountedEdge, ends_of}
use Rattle.overlay_geom.specs.Plane.{PlanePoint, SamePlace, in_plane}
use Rattle.overlay_plane.specs.Balance.{HasBalancedCounts}
use Rattle.overlay_plane.proofs.PlaceOrder.{place_up_to_end}
use Rattle.overlay_plane.proofs.SmallerPoints.{same_place-trans}
use Rattle.overlay_pairs.specs.Places.{IsAt}
use Rattle.overlay_scaled.specs.Pieces.{IsPiece, IsWithinPiece}
use Rattle.overlay_exact.specs.Along.{Met}
use Rattle.overlay_exact.specs.Groups.{IsGroup}
use Rattle.overlay_exact.specs.Parts.{end_part, AreEqual, LiesAt}
use Rattle.overlay_exact.specs.PieceOrder.{IsUpTo}
use Rattle.overlay_exact.specs.PlacesAlong.{AreMetIn, IsPlaceWith, IsNextPlace}
use Rattle.overlay_exact.proofs.PiecesFollow.{before_in, pieces_follow}
use Rattle.overlay_exact.proofs.PlainInPieces.{some_group}
use Rattle.overlay_exact.proofs.PlaneOrder.{flipped, smaller_elsewhere, smaller_from_same, smaller_to_same}
use Rattle.overlay_exact.proofs.PlaneOrder.{smaller_not_back, up_to_of_place}
use Rattle.overlay_given.specs.Beside.{filled_beside}
use Rattle.overlay_given.specs.Laws.{IsSum}
use Rattle.overlay_given.specs.Places.{IsSidesToward, AreSidesAt, AddsPlaces, AddsTimes}
use Rattle.overlay_given.specs.Sides.{sides_at}
use Rattle.overlay_given.specs.Steps.{Rises}
use Rattle.overlay_given.specs.Walk.{IsFirstEnd, WindsFrom, WindsFromStart}
use Rattle.overlay_given.specs.declared.beside.Beside.{Beside}
use Rattle.overlay_given.specs.declared.sides.FilledSides.{FilledSides}
use Rattle.overlay_given.specs.declared.sides.SidesAtPlace.{SidesAtPlace}
use Rattle.overlay_given.specs.declared.steps.Stop.TheVariants.{Later}
use Rattle.overlay_given.proofs.Walked.{Walked, sides_of_windings, told, next_piece, of_piece}
use Rattle.overlay_given.proofs.WalkSteps.{first_place}
use Rattle.overlay_given.proofs.Winds.{winds_past, winds_from_start}

-- ---- the entries added so far

-- those of the meeting points before `from`
pub record PlacesUpTo (filled : ℤ → Bool) (es : List CountedEdge) (e : CountedEdge) (ms : List Met) (from : ℕ)
    (added : List SidesAtPlace) : Type 0 where
  pub count : length added ≡ from
  pub each : (k : ℕ) (m : Met) (a : SidesAtPlace) → IsAt ms k m → IsAt added k a → AreSidesAt filled es e m a

-- so they are pushed for the edge at place i
abbrev pub HasPlaces : (ℤ → Bool) → List CountedEdge → ℕ → List Met → ℕ → (old new : List SidesAtPlace) → Type 0
HasPlaces filled es i ms from old new = (e : CountedEdge) → IsAt es i e →
    (added : List SidesAtPlace) × (new ≡ old ++ added) × PlacesUpTo filled es e ms from added

-- the entries from one place up to another have these sides
abbrev pub AreAllAt : (ℤ → Bool) → List CountedEdge → CountedEdge → List Met → ℕ → ℕ → SidesAtPlace → Type 0
AreAllAt filled es e ms from end a = (k : ℕ) (m : Met) → from ≤ k → k < end → IsAt ms k m → AreSidesAt filled es e m a

module _ (filled : ℤ → Bool) (es : List CountedEdge) (e : CountedEdge) (ms : List Met) where
  pub places_begun : (end : ℕ) (a : SidesAtPlace) (old new : List SidesAtPlace) → AreAllAt filled es e ms 0 end a →
      AddsTimes end a old new → (added : List SidesAtPlace) × (new ≡ old ++ added) × PlacesUpTo filled es e ms end added
  places_begun end a old new all adds = (
    adds.added,
    adds.after,
    record {
      count = adds.times;
      each = λ k m b at_m at_b.
          let count = adds.times in
          let within = at_b.0 in
          subst (AreSidesAt filled es e m) (sym (adds.each k b at_b))
          (all k m (omega arith) (omega (arith, within, count)) at_m);
    },
  )

  pub places_more : (from end : ℕ) (a : SidesAtPlace) (first old new added : List SidesAtPlace) → from ≤ end →
      old ≡ first ++ added → PlacesUpTo filled es e ms from added → AreAllAt filled es e ms from end a →
      AddsTimes (end - from) a old new →
      (added : List SidesAtPlace) × (new ≡ first ++ added) × PlacesUpTo filled es e ms end added
  places_more from end a first old new added up so_far before all adds = (
    added ++ adds.added,
    adds.after ∙ ap (λ xs. xs ++ adds.added) so_far ∙ append_assoc first added adds.added,
    record {
      count =
          let both = length-append added adds.added in
          let one = before.count in
          let other = adds.times in
          omega (arith, both, one, other, up);
      each = λ k m b at_m at_b. ⊎_elim
          (λ (less : k < from).
          let one = before.count in
          let within : k < length added = omega (arith, one, less) in
          before.each k m b at_m (within, sym (get_or_append_left added adds.added b k within) ∙ at_b.1))
          (λ (le : from ≤ k).
          let both = length-append added adds.added in
          let one = before.count in
          let other = adds.times in
          let short = at_b.0 in
          let here : IsAt adds.added (k - from) b = (
            omega (arith, both, one, short, le),
            sym (get_or-append_right added adds.added from k b one le) ∙ at_b.1,
          ) in
          subst (AreSidesAt filled es e m) (sym (adds.each (k - from) b here))
          (all k m le (omega (arith, both, one, other, short, up)) at_m))
          (cases_lt k from);
    },
  )

  -- up to the last they are all
  pub places_added : (old new : List SidesAtPlace) →
      (added : List SidesAtPlace) × (new ≡ old ++ added) × PlacesUpTo filled es e ms (length ms) added →
      AddsPlaces filled es e ms old new
  places_added old new (added, after, all) = record {
    added = added;
    after = after;
    count = all.count;
    each = all.each;
  }

-- ---- the sides at a place

module _ (filled : ℤ → Bool) (es : List CountedEdge) (i : ℕ) (e : CountedEdge) (ms : List Met)
    (given : AreMetIn es i e ms) where
  -- the meeting points at a place lie there
  lies_at : (from end : ℕ) (p : PlanePoint) → IsPlaceWith es e ms from end p → (k : ℕ) (m : Met) → from ≤ k → k < end →
      IsAt ms k m → LiesAt (ends_of e) m.part p
  lies_at from end p place k m after before at = subst (λ (x : Met). LiesAt (ends_of e) x.part p) at.1
      (place.at k m after before)

  -- sides that are those of all points of a piece
  toward_by : (l n p : PlanePoint) (b : Beside) → IsPiece es e l n → WindsFrom es e l b →
      SamePlace p l ⊎ SamePlace p n → IsSidesToward filled es e p (filled_beside filled b)
  toward_by l n p b piece winds at =
      let some = (pieces_follow es given.forward e).some l n piece in
      record {
        from = l;
        to = n;
        inside = some.0;
        piece = piece;
        within = some.1;
        at = at;
        sides = sides_of_windings filled es some.0 b (winds n some.0 piece some.1);
      }

  -- ---- at the start

  pub sides_at_start : (first : ℕ) (b : Beside) → IsPlaceWith es e ms 0 first (in_plane e.a) →
      WindsFrom es e (in_plane e.a) b →
      AreAllAt filled es e ms 0 first (record { before = filled_beside filled b; after = filled_beside filled b })
  sides_at_start first b place winds k m after before at =
      let short = (told filled es i e ms given).end.begun in
      let next = next_piece filled es i e ms given 0 first (in_plane e.a) place short in
      let toward = toward_by (in_plane e.a) next.0 (in_plane e.a) b next.1 winds (inl (refl, refl)) in
      record {
        place = in_plane e.a;
        at = lies_at 0 first (in_plane e.a) place k m after before at;
        before = toward;
        after = toward;
        every = λ l n p piece within ends. ⊎_elim
            (λ (same : SamePlace (in_plane e.a) l). inl (sym (of_piece filled es i e ms given (in_plane e.a) place.place
            b winds l n p piece within (flipped (in_plane e.a) l same))))
            (λ (same : SamePlace (in_plane e.a) n). absurd (smaller_not_back l (in_plane e.a)
            (smaller_to_same l n (in_plane e.a) piece.before (flipped (in_plane e.a) n same))
            ((pieces_follow es given.forward e).inside l n piece).0)) ends;
        comes_up = λ less. absurd (smaller_elsewhere (in_plane e.a) (in_plane e.a) less (refl, refl));
        leads_on = λ less. next;
      }

  -- so the first entries are added
  pub places_first : HasBalancedCounts es → (first : ℕ) → IsFirstEnd ms first → (b : Beside) →
      WindsFromStart es e (slice_range ms 0 first) b → (old new : List SidesAtPlace) →
      AddsTimes first (record { before = filled_beside filled b; after = filled_beside filled b }) old new →
      (added : List SidesAtPlace) × (new ≡ old ++ added) × PlacesUpTo filled es e ms first added
  places_first balanced first is b sums old new adds =
      let place = first_place filled es i e ms given balanced first is in
      places_begun filled es e ms first (record { before = filled_beside filled b; after = filled_beside filled b }) old
      new (sides_at_start first b place (winds_from_start es i e ms given balanced first place b sums)) adds

  -- ---- at a later place

  module _ (from : ℕ) (b : Beside) (added : List FilledSides) (so_far : Walked filled es e ms from b added) (end : ℕ)
      (group : IsGroup ms from end) where
    abbrev to : IsNextPlace es e ms from end so_far.place
    to = (told filled es i e ms given).groups so_far.first from end so_far.place so_far.is_place group

    toward_here : IsSidesToward filled es e to.next (filled_beside filled b)
    toward_here = toward_by so_far.place to.next to.next b to.piece so_far.winds (inr (refl, refl))

    -- a piece that ends there is the piece that the walk has followed
    ends_here : (l n p : PlanePoint) → IsPiece es e l n → IsWithinPiece e l n p → SamePlace to.next n →
        sides_at filled es p ≡ filled_beside filled b
    ends_here l n p piece within same = ⊎_elim
        (λ apart. absurd (⊎_elim
        (λ (late : IsUpTo to.next l). smaller_not_back l to.next
        (smaller_to_same l n to.next piece.before (flipped to.next n same)) late)
        (λ (early : IsUpTo n so_far.place). smaller_not_back so_far.place n
        (smaller_to_same so_far.place to.next n to.piece.before same) early) apart))
        (λ (alike : SamePlace so_far.place l × SamePlace to.next n). sym (of_piece filled es i e ms given so_far.place
        so_far.is_place.place b so_far.winds l n p piece within (flipped so_far.place l alike.0)))
        ((pieces_follow es given.forward e).apart so_far.place to.next l n to.piece piece)

    pub sides_at_group : (m : Met) → IsAt ms from m → ¬ (AreEqual m.part end_part) → (sum new : Beside) →
        Rises Later es e (slice_range ms from end) sum → HasBalancedCounts es → IsSum b sum new →
        AreAllAt filled es e ms from end
        (record { before = filled_beside filled b; after = filled_beside filled new })
    sides_at_group first at_first other sum new rises balanced is k m after before at =
        let short = (told filled es i e ms given).end.short from end to.next first to.place group.some at_first other in
        let winds = winds_past es i e ms given balanced so_far.place to.next to.piece from end to.place b sum new
        so_far.winds rises is in
        let next = next_piece filled es i e ms given from end to.next to.place short in
        record {
          place = to.next;
          at = lies_at from end to.next to.place k m after before at;
          before = toward_here;
          after = toward_by to.next next.0 to.next new next.1 winds (inl (refl, refl));
          every = λ l n p piece within ends. ⊎_elim
              (λ (same : SamePlace to.next l). inr (sym (of_piece filled es i e ms given to.next to.place.place new
              winds l n p piece within (flipped to.next l same))))
              (λ (same : SamePlace to.next n). inl (ends_here l n p piece within same)) ends;
          comes_up = λ less. (so_far.place, to.piece);
          leads_on = λ less. next;
        }

    module _ (first : Met) (at_first : IsAt ms from first) (equal : AreEqual first.part end_part) where
      ended : SamePlace to.next (in_plane e.b)
      ended = (told filled es i e ms given).end.met from end to.next first to.place group.some at_first equal

      -- no later meeting points are left
      none_left : (k : ℕ) (m : Met) → end ≤ k → IsAt ms k m → ⊥
      none_left k m late at =
          let met = given.met.all.each k m at.0 in
          let q = met.met.point in
          smaller_not_back to.next q
          (to.place.after k m late at.0 q met.met.place)
          (⊎_elim (λ less. inl (smaller_to_same q (in_plane e.b) to.next less (flipped to.next (in_plane e.b) ended)))
          (λ same. inl (absurd (smaller_elsewhere to.next q (to.place.after k m late at.0 q met.met.place)
          (same_through q same))))
          (up_to_of_place q (in_plane e.b) (place_up_to_end (ends_of e) (before_in es given.forward e to.piece.entry) q
          met.met.meets.common.0)))
        where
          same_through : (q : PlanePoint) → SamePlace q (in_plane e.b) → SamePlace to.next q
          same_through q same = same_place-trans to.next (in_plane e.b) q ended (flipped q (in_plane e.b) same)

      pub sides_at_end : AreAllAt filled es e ms from (length ms)
          (record { before = filled_beside filled b; after = filled_beside filled b })
      sides_at_end k m after within at = record {
        place = to.next;
        at = lies_at from end to.next to.place k m after (⊎_elim (λ (less : k < end). less)
            (λ (late : end ≤ k). absurd (none_left k m late at)) (cases_lt k end)) at;
        before = toward_here;
        after = toward_here;
        every = λ l n p piece inside ends. inl (⊎_elim
            (λ (same : SamePlace to.next l). absurd (smaller_not_back (in_plane e.b) n
            (smaller_from_same (in_plane e.b) l n
            (same_place-trans (in_plane e.b) to.next l (flipped to.next (in_plane e.b) ended) same) piece.before)
            ((pieces_follow es given.forward e).inside l n piece).1))
            (λ (same : SamePlace to.next n). ends_here l n p piece inside same) ends);
        comes_up = λ less. (so_far.place, to.piece);
        leads_on = λ less. absurd (smaller_elsewhere to.next (in_plane e.b) less ended);
      }

  -- the walk has ended
  pub sides_at_rest : (from : ℕ) (b : Beside) (added : List FilledSides) → Walked filled es e ms from b added →
      (length ms ≤ from) ⊎ ((m : Met) × IsAt ms from m × AreEqual m.part end_part) →
      AreAllAt filled es e ms from (length ms)
      (record { before = filled_beside filled b; after = filled_beside filled b })
  sides_at_rest from b added so_far (inl all) k m after before at = absurd (omega (arith, all, after, before))
  sides_at_rest from b added so_far (inr (first, at_first, equal)) k m after before at =
      let group = some_group es i e ms given from at_first.0 in
      sides_at_end from b added so_far group.0 group.1 first at_first equal k m after before at
