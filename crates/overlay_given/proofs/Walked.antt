-- A walk along an edge: the sides pushed so far are those of all pieces that begin up to the place that it has reached.
use Rattle.std.proofs.Common.{◌≡◌, ◌⊎◌, inl, inr, ⊎_elim, ℕ, ◌<◌, ◌≤◌, Bool, ℤ, List, [], ◌∷◌, ◌++◌, length}
use Rattle.std.proofs.Common.{slice_range, Contains, refl, subst, arith}
use Rattle.std.specs.List.{All}
use Rattle.std.proofs.lemmas.Bool.{cases_lt}
use Rattle.std.proofs.lemmas.List.Elements.{All-push, All-nil, Contains-append_left, Contains-append_right}
use Rattle.overlay_plane.proofs.Totals.{Contains-head}
use Rattle.overlay_geom.specs.Edges.{CountedEdge}
use Rattle.overlay_geom.specs.Plane.{PlanePoint, SamePlace, in_plane}
use Rattle.overlay_plane.specs.Balance.{HasBalancedCounts}
use Rattle.overlay_plane.specs.Rounds.{IsSmaller}
use Rattle.overlay_pairs.specs.Places.{IsAt}
use Rattle.overlay_scaled.specs.Pieces.{IsPlaceOn, IsPiece, IsWithinPiece}
use Rattle.overlay_scaled.specs.PlainPoints.{IsPlain}
use Rattle.overlay_scaled.proofs.CrossedLines.{by_smaller}
use Rattle.overlay_scaled.proofs.Pieces.{pieces_are_plain}
use Rattle.overlay_exact.specs.Along.{Met}
use Rattle.overlay_exact.specs.Groups.{IsGroup}
use Rattle.overlay_exact.specs.Parts.{end_part, AreEqual}
use Rattle.overlay_exact.specs.PieceOrder.{IsUpTo}
use Rattle.overlay_exact.specs.PlacesAlong.{AreMetIn, IsPlaceWith, IsNextPlace, TellPlaces}
use Rattle.overlay_exact.proofs.PiecesFollow.{pieces_follow}
use Rattle.overlay_exact.proofs.PlacesTold.{tell_places}
use Rattle.overlay_exact.proofs.PlainInPieces.{some_group, plain_in_piece}
use Rattle.overlay_exact.proofs.PlaneOrder.{flipped, smaller_from_same, smaller_to_same, smaller_up_to}
use Rattle.overlay_exact.proofs.PlaneOrder.{smaller_not_back}
use Rattle.overlay_given.specs.Beside.{filled_beside, WindBeside}
use Rattle.overlay_given.specs.Laws.{IsSum}
use Rattle.overlay_given.specs.Sides.{sides_at}
use Rattle.overlay_given.specs.Steps.{Rises}
use Rattle.overlay_given.specs.Walk.{WindsFrom, IsSidesOn, AddsSides}
use Rattle.overlay_given.specs.declared.beside.Beside.{Beside}
use Rattle.overlay_given.specs.declared.sides.FilledSides.{FilledSides}
use Rattle.overlay_given.specs.declared.steps.Stop.TheVariants.{Later}
use Rattle.overlay_given.proofs.Winds.{winds_past}

-- windings fill the sides that are filled where they are found
pub sides_of_windings : (filled : ℤ → Bool) (es : List CountedEdge) (p : PlanePoint) (b : Beside) → WindBeside es p b →
    filled_beside filled b ≡ sides_at filled es p
sides_of_windings filled es p b winds = λ i. record {
  subj_above = filled (winds.subj_above i);
  subj_below = filled (winds.subj_below i);
  clip_above = filled (winds.clip_above i);
  clip_below = filled (winds.clip_below i);
}

-- an entry of a list stays in a longer one, and the last one is there
Contains-pushed : {X : Type 0} (xs : List X) (x y : X) → Contains xs y → Contains (xs ++ x ∷ []) y
Contains-pushed xs x y c = Contains-append_left xs (x ∷ []) y c

Contains-last : {X : Type 0} (xs : List X) (x : X) → Contains (xs ++ x ∷ []) x
Contains-last xs x = Contains-append_right xs (x ∷ []) x (Contains-head x [])

-- the walk has reached a place, at which the meeting points up to `from` lie, and `added` are the sides found
pub record Walked (filled : ℤ → Bool) (es : List CountedEdge) (e : CountedEdge) (ms : List Met) (from : ℕ)
    (beside : Beside) (added : List FilledSides) : Type 0 where
  pub place : PlanePoint
  pub first : ℕ
  pub is_place : IsPlaceWith es e ms first from place
  pub short : IsSmaller place (in_plane e.b)
  pub winds : WindsFrom es e place beside
  pub each : All (IsSidesOn filled es e) added
  pub every : (k n p : PlanePoint) → IsPiece es e k n → IsWithinPiece e k n p → IsUpTo k place →
      Contains added (sides_at filled es p)

-- so it has along the edge at place i, and the sides found are pushed
abbrev pub HasWalked : (ℤ → Bool) → List CountedEdge → ℕ → List Met → ℕ → Beside → (old new : List FilledSides) →
    Type 0
HasWalked filled es i ms from b old new = (e : CountedEdge) → IsAt es i e →
    (added : List FilledSides) × (new ≡ old ++ added) × Walked filled es e ms from b added

module _ (filled : ℤ → Bool) (es : List CountedEdge) (i : ℕ) (e : CountedEdge) (ms : List Met)
    (given : AreMetIn es i e ms) where
  pub told : TellPlaces es e ms
  told = tell_places es i e ms given

  -- a piece leads on from a place before the end
  pub next_piece : (j from : ℕ) (l : PlanePoint) → IsPlaceWith es e ms j from l → IsSmaller l (in_plane e.b) →
      (m : PlanePoint) × IsPiece es e l m
  next_piece j from l place short = ⊎_elim
      (λ (more : from < length ms).
      let group = some_group es i e ms given from more in
      let to = told.groups j from group.0 l place group.1 in
      (to.next, to.piece))
      (λ (all : length ms ≤ from).
      let same : from ≡ length ms = (let within = place.within in omega (arith, all)) in
      (in_plane e.b, (told.end.alone j l (subst (λ n. IsPlaceWith es e ms j n l) same place) short).1))
      (cases_lt from (length ms))

  -- the sides beside a piece are those found where the windings beside it are known
  pub beside_piece : (l m : PlanePoint) → IsPiece es e l m → (b : Beside) → WindsFrom es e l b →
      IsSidesOn filled es e (filled_beside filled b)
  beside_piece l m piece b winds =
      let inside = (pieces_follow es given.forward e).some l m piece in (
        inside.0,
        pieces_are_plain es e l m inside.0 piece inside.1,
        sides_of_windings filled es inside.0 b (winds m inside.0 piece inside.1),
      )

  -- a piece from one place is one from the same place
  moved_piece : (k l n : PlanePoint) → SamePlace k l → IsPlaceOn es e l → IsPiece es e k n → IsPiece es e l n
  moved_piece k l n same place piece = record {
    entry = piece.entry;
    from = place;
    to = piece.to;
    before = smaller_from_same l k n (flipped k l same) piece.before;
    clear = λ s between after up. piece.clear s between (smaller_from_same k l s same after) up;
  }

  moved_within : (k l n p : PlanePoint) → SamePlace k l → IsWithinPiece e k n p → IsWithinPiece e l n p
  moved_within k l n p same within = record {
    on = within.on;
    after = smaller_from_same l k p (flipped k l same) within.after;
    before = within.before;
  }

  -- so they are told of each piece that begins at the place
  pub of_piece : (l : PlanePoint) → IsPlaceOn es e l → (b : Beside) → WindsFrom es e l b → (k n p : PlanePoint) →
      IsPiece es e k n → IsWithinPiece e k n p → SamePlace k l → filled_beside filled b ≡ sides_at filled es p
  of_piece l place b winds k n p piece within same = sides_of_windings filled es p b
      (winds n p (moved_piece k l n same place piece) (moved_within k l n p same within))

  -- ---- the start

  pub walk_begun : (from : ℕ) (b : Beside) → IsPlaceWith es e ms 0 from (in_plane e.a) →
      WindsFrom es e (in_plane e.a) b → Walked filled es e ms from b (filled_beside filled b ∷ [])
  walk_begun from b place winds = record {
    place = in_plane e.a;
    first = 0;
    is_place = place;
    short = told.end.begun;
    winds = winds;
    each = All-push (IsSidesOn filled es e) [] (filled_beside filled b) (All-nil (IsSidesOn filled es e))
        (let next = next_piece 0 from (in_plane e.a) place told.end.begun in
        beside_piece (in_plane e.a) next.0 next.1 b winds);
    every = λ k n p piece within up. subst (λ s. Contains (filled_beside filled b ∷ []) s)
        (of_piece (in_plane e.a) place.place b winds k n p piece within (at_start k n piece up))
        (Contains-last [] (filled_beside filled b));
  }
    where
      at_start : (k n : PlanePoint) → IsPiece es e k n → IsUpTo k (in_plane e.a) → SamePlace k (in_plane e.a)
      at_start k n piece (inr same) = same
      at_start k n piece (inl less) = absurd (smaller_not_back k (in_plane e.a) less
          ((pieces_follow es given.forward e).inside k n piece).0)

  -- ---- a step

  module _ (from : ℕ) (b : Beside) (added : List FilledSides) (so_far : Walked filled es e ms from b added) where
    -- a piece that begins up to the next place begins up to this one, or at the next
    module _ (next : PlanePoint) (before : IsPiece es e so_far.place next) (k n : PlanePoint)
        (piece : IsPiece es e k n) where
      up_to_here : IsSmaller k next → IsUpTo k so_far.place
      up_to_here less = by_smaller k so_far.place (λ is. inl is) (λ same. inr same)
          (λ more. absurd (before.clear k piece.from more less))

      here_or_next : IsUpTo k next → IsUpTo k so_far.place ⊎ SamePlace k next
      here_or_next (inl less) = inl (up_to_here less)
      here_or_next (inr same) = inr same

    pub walk_on : (end : ℕ) → IsGroup ms from end → (m : Met) → IsAt ms from m → ¬ (AreEqual m.part end_part) →
        (sum new : Beside) → Rises Later es e (slice_range ms from end) sum → HasBalancedCounts es →
        IsSum b sum new →
        Walked filled es e ms end new (added ++ filled_beside filled new ∷ [])
    walk_on end group m at other sum new rises balanced is = record {
      place = to.next;
      first = from;
      is_place = to.place;
      short = short;
      winds = winds;
      each = All-push (IsSidesOn filled es e) added (filled_beside filled new) so_far.each
          (let next = next_piece from end to.next to.place short in
          beside_piece to.next next.0 next.1 new winds);
      every = λ k n p piece within up. ⊎_elim
          (λ (here : IsUpTo k so_far.place). Contains-pushed added (filled_beside filled new) (sides_at filled es p)
          (so_far.every k n p piece within here))
          (λ (same : SamePlace k to.next). subst (λ s. Contains (added ++ filled_beside filled new ∷ []) s)
          (of_piece to.next to.place.place new winds k n p piece within same)
          (Contains-last added (filled_beside filled new)))
          (here_or_next to.next to.piece k n piece up);
    }
      where
        to : IsNextPlace es e ms from end so_far.place
        to = told.groups so_far.first from end so_far.place so_far.is_place group

        short : IsSmaller to.next (in_plane e.b)
        short = told.end.short from end to.next m to.place group.some at other

        winds : WindsFrom es e to.next new
        winds = winds_past es i e ms given balanced so_far.place to.next to.piece from end to.place b sum new
            so_far.winds rises is

    -- ---- the end

    -- a piece leads on to the end of the edge
    module _ (last : PlanePoint) (piece : IsPiece es e so_far.place last) (same : SamePlace last (in_plane e.b)) where
      every_piece : (p : PlanePoint) → IsPlain es e p → Contains added (sides_at filled es p)
      every_piece p plain =
          let found = plain_in_piece es i e ms given p plain in
          let k = found.0 in
          let n = found.1 in
          let of = found.2 in
          let up : IsSmaller k last = smaller_to_same k (in_plane e.b) last
          (smaller_up_to k n (in_plane e.b) of.before ((pieces_follow es given.forward e).inside k n of).1)
          (flipped last (in_plane e.b) same) in
          so_far.every k n p of found.3 (up_to_here last piece k n of up)

    -- no meeting points are left, or the next has the part of the end
    pub walk_ended : (length ms ≤ from) ⊎ ((m : Met) × IsAt ms from m × AreEqual m.part end_part) →
        (p : PlanePoint) → IsPlain es e p → Contains added (sides_at filled es p)
    walk_ended (inl all) =
        let same : from ≡ length ms = (let within = so_far.is_place.within in omega (arith, all)) in
        let end = told.end.alone so_far.first so_far.place
        (subst (λ n. IsPlaceWith es e ms so_far.first n so_far.place) same so_far.is_place) so_far.short in
        every_piece (in_plane e.b) end.1 (refl, refl)
    walk_ended (inr (m, at, equal)) =
        let group = some_group es i e ms given from at.0 in
        let to = told.groups so_far.first from group.0 so_far.place so_far.is_place group.1 in
        every_piece to.next to.piece (told.end.met from group.0 to.next m to.place group.1.some at equal)

    pub sides_added : (old new : List FilledSides) → new ≡ old ++ added →
        (length ms ≤ from) ⊎ ((m : Met) × IsAt ms from m × AreEqual m.part end_part) →
        AddsSides filled es e old new
    sides_added old new after ended = record {
      added = added;
      after = after;
      each = so_far.each;
      every = walk_ended ended;
    }
