-- The places of an edge in their order along it are its start, the groups of its sorted meeting points, and its end.
use Rattle.std.proofs.Common.{◌≡◌, true, ⊎_elim, inl, inr, ℕ, ◌<◌, ◌≤◌, ℤ, pos, ◌+ℤ◌, ◌-ℤ◌, ◌*ℤ◌, ◌<ℤ◌, ◌≤ℤ◌, List}
use Rattle.std.proofs.Common.{length, Contains, get_or, refl, sym, ap, subst, ◌∙◌, arith}
use Rattle.std.specs.List.{All, AllWithin}
use Rattle.std.proofs.lemmas.Bool.{cases_lt}
use Rattle.std.proofs.lemmas.Int.{by_lt_z}
use Rattle.std.proofs.lemmas.List.{get_or_default}
use Rattle.std.proofs.lemmas.List.Elements.{All-contains}
use Rattle.std.proofs.Math.Nat.{eq-or-lt_of_le}
use Rattle.overlay_geom.specs.Edges.{CountedEdge, ends_of}
use Rattle.overlay_geom.specs.Plane.{PlanePoint, Edge, SamePlace, IsOn, IsEnd, in_plane, point_lt}
use Rattle.overlay_geom.proofs.Entries.{some_entry}
use Rattle.overlay_geom.proofs.Identities.{solve, number, ◌⊕◌, ◌⊗◌, ◌⊖◌, ◌≗◌}
use Rattle.overlay_geom.proofs.PointOrder.{IsBefore}
use Rattle.overlay_geom.proofs.Signs.{linear, eq_of_mul-eq}
use Rattle.overlay_plane.specs.Meetings.{MeetsAnother}
use Rattle.overlay_plane.specs.Rounds.{IsSmaller}
use Rattle.overlay_plane.proofs.Ends.{start_on, end_on}
use Rattle.overlay_plane.proofs.Entries.{Contains-from_any}
use Rattle.overlay_plane.proofs.PlaceOrder.{start_up_to_place, place_up_to_end}
use Rattle.overlay_plane.proofs.WholeOnEdges.{at_itself, same_place_at}
use Rattle.overlay_pairs.specs.Places.{IsAt}
use Rattle.overlay_scaled.specs.Pieces.{IsPlaceOn, IsPiece}
use Rattle.overlay_exact.specs.AllMet.{IsMetBefore}
use Rattle.overlay_exact.specs.Along.{Met}
use Rattle.overlay_exact.specs.Groups.{AreInOrderAlongOne, IsGroup}
use Rattle.overlay_exact.specs.MetLaws.{AreAllTold}
use Rattle.overlay_exact.specs.Parts.{Fraction, IsPart, IsLess, AreEqual, LiesAt, start_part, end_part}
use Rattle.overlay_exact.specs.PieceOrder.{IsUpTo}
use Rattle.overlay_exact.specs.PlacesAlong.{AreMetIn, LiesBefore, LiesAfter, IsPlaceWith, StartIsPlace, IsNextPlace}
use Rattle.overlay_exact.specs.PlacesAlong.{GroupsArePlaces, EndIsPlace, TellPlaces}
use Rattle.overlay_exact.proofs.GroupEnds.{IsAtMost, less_at_most, equal_to_one, at_most_later}
use Rattle.overlay_exact.proofs.PartOrder.{compare_alike}
use Rattle.overlay_exact.proofs.PiecesFollow.{before_in}
use Rattle.overlay_exact.proofs.PlaneOrder.{flipped, smaller_through, smaller_elsewhere, smaller_one_way}
use Rattle.overlay_exact.proofs.PlaneOrder.{smaller_from_same, smaller_to_same, smaller_up_to, up_to_smaller}
use Rattle.overlay_exact.proofs.PlaneOrder.{up_to_of_place}
use Rattle.overlay_exact.proofs.ToldMeetings.{all_told}

-- ---- parts

-- a coordinate at a part lies at each equal part
coordinate_equal : (x c a w n d m b : ℤ) → pos 0 <ℤ d → n *ℤ b ≡ m *ℤ d → x *ℤ d ≡ (a *ℤ d +ℤ w *ℤ n) *ℤ c →
    x *ℤ b ≡ (a *ℤ b +ℤ w *ℤ m) *ℤ c
coordinate_equal x c a w n d m b positive equal at = eq_of_mul-eq d (x *ℤ b) ((a *ℤ b +ℤ w *ℤ m) *ℤ c) positive
    (solve 3 (λ x d b. d ⊗ (x ⊗ b) ≗ b ⊗ (x ⊗ d)) tt x d b
    ∙ ap (λ z. b *ℤ z) at
    ∙ solve 6 (λ c a w n d b. b ⊗ ((a ⊗ d ⊕ w ⊗ n) ⊗ c) ≗ (w ⊗ c) ⊗ (n ⊗ b) ⊕ (a ⊗ d) ⊗ (b ⊗ c)) tt c a w n d b
    ∙ ap (λ z. (w *ℤ c) *ℤ z +ℤ (a *ℤ d) *ℤ (b *ℤ c)) equal
    ∙ solve 6 (λ c a w d m b. (w ⊗ c) ⊗ (m ⊗ d) ⊕ (a ⊗ d) ⊗ (b ⊗ c) ≗ d ⊗ ((a ⊗ b ⊕ w ⊗ m) ⊗ c)) tt c a w d m b)

-- and so does a point
pub lies_at_equal : (e : Edge) (s t : Fraction) (p : PlanePoint) → pos 0 <ℤ s.d → AreEqual s t → LiesAt e s p →
    LiesAt e t p
lies_at_equal e s t p positive equal at = record {
  x = coordinate_equal p.x p.d e.a.x (e.b.x -ℤ e.a.x) s.n s.d t.n t.d positive equal at.x;
  y = coordinate_equal p.y p.d e.a.y (e.b.y -ℤ e.a.y) s.n s.d t.n t.d positive equal at.y;
}

-- the ends lie at their parts
start_lies : (e : Edge) → LiesAt e start_part (in_plane e.a)
start_lies e = record { x = start e.a.x e.b.x; y = start e.a.y e.b.y }
  where
    start : (a b : ℤ) → a *ℤ pos 1 ≡ (a *ℤ pos 1 +ℤ (b -ℤ a) *ℤ pos 0) *ℤ pos 1
    start = solve 2
        (λ a b. a ⊗ number (pos 1) ≗ (a ⊗ number (pos 1) ⊕ (b ⊖ a) ⊗ number (pos 0)) ⊗ number (pos 1)) tt

end_lies : (e : Edge) → LiesAt e end_part (in_plane e.b)
end_lies e = record { x = end e.a.x e.b.x; y = end e.a.y e.b.y }
  where
    end : (a b : ℤ) → b *ℤ pos 1 ≡ (a *ℤ pos 1 +ℤ (b -ℤ a) *ℤ pos 1) *ℤ pos 1
    end = solve 2
        (λ a b. b ⊗ number (pos 1) ≗ (a ⊗ number (pos 1) ⊕ (b ⊖ a) ⊗ number (pos 1)) ⊗ number (pos 1)) tt

one_positive : pos 0 <ℤ pos 1
one_positive = record { lt = tt }

module _ (es : List CountedEdge) (i : ℕ) (e : CountedEdge) (ms : List Met) (given : AreMetIn es i e ms) where
  pub entry : Contains es e
  entry = (i, given.entry.0, given.entry.1)

  pub e_before : IsBefore e.a e.b
  e_before = before_in es given.forward e entry

  pub told : AreAllTold es e ms
  told = all_told es i e given.entry given.ascending ms given.met

  part_at : (k : ℕ) (d : Met) → k < length ms → IsPart (get_or ms k d).part
  part_at k d within = (given.met.all.each k d within).met.part

  pub positive_at : (k : ℕ) (d : Met) → k < length ms → pos 0 <ℤ (get_or ms k d).part.d
  positive_at k d within = (part_at k d within).positive

  -- points at one part are at one place, and points at less parts are smaller
  pub same_at : (s t : Fraction) (p q : PlanePoint) → pos 0 <ℤ s.d → pos 0 <ℤ t.d → LiesAt (ends_of e) s p →
      LiesAt (ends_of e) t q → AreEqual s t → SamePlace p q
  same_at s t p q s_pos t_pos at_p at_q = (compare_alike (ends_of e) e_before s t p q s_pos t_pos at_p at_q).1.0

  smaller_at : (s t : Fraction) (p q : PlanePoint) → pos 0 <ℤ s.d → pos 0 <ℤ t.d → LiesAt (ends_of e) s p →
      LiesAt (ends_of e) t q → IsLess s t → IsSmaller p q
  smaller_at s t p q s_pos t_pos at_p at_q = (compare_alike (ends_of e) e_before s t p q s_pos t_pos at_p at_q).0.0

  -- the points of one meeting point are at one place
  pub one_place : (k : ℕ) (d : Met) (p q : PlanePoint) → k < length ms → LiesAt (ends_of e) (get_or ms k d).part p →
      LiesAt (ends_of e) (get_or ms k d).part q → SamePlace p q
  one_place k d p q within at_p at_q = same_at (get_or ms k d).part (get_or ms k d).part p q
      (positive_at k d within) (positive_at k d within) at_p at_q refl

  up_from_start : (p : PlanePoint) → IsOn (ends_of e) p → IsUpTo (in_plane e.a) p
  up_from_start p on = up_to_of_place (in_plane e.a) p (start_up_to_place (ends_of e) e_before p on)

  up_to_end : (p : PlanePoint) → IsOn (ends_of e) p → IsUpTo p (in_plane e.b)
  up_to_end p on = up_to_of_place p (in_plane e.b) (place_up_to_end (ends_of e) e_before p on)

  -- ---- groups

  -- the points of a group are at the place of its first, and later ones lie after it
  module _ (j n : ℕ) (group : IsGroup ms j n) (d : Met) (p : PlanePoint)
      (at : LiesAt (ends_of e) (get_or ms j d).part p) where
    inside : j < length ms
    inside = let some = group.some in let within = group.within in omega arith

    group_at : AllWithin (λ m. LiesAt (ends_of e) m.part p) ms j n
    group_at k b begun short = lies_at_equal (ends_of e) (get_or ms j d).part (get_or ms k b).part p
        (positive_at j d inside)
        (group.equal j d (let some = group.some in omega arith) group.some k b begun short) at

    group_before : AllWithin (LiesAfter (ends_of e) p) ms n (length ms)
    group_before k b past short q at_q = smaller_at (get_or ms j d).part (get_or ms k b).part p q
        (positive_at j d inside) (positive_at k b short) at at_q
        (group.greater j d (let some = group.some in omega arith) group.some k b past short)

  -- ---- the start

  start_met : (m : Met) (end : ℕ) → IsAt ms 0 m → AreEqual m.part start_part → IsGroup ms 0 end →
      IsPlaceWith es e ms 0 end (in_plane e.a)
  start_met m end at equal group = record {
    place = record { on = start_on (ends_of e); stop = inl (inl (at_itself e.a)) };
    ordered = omega arith;
    within = group.within;
    before = λ k d begun short. absurd (omega (arith, short));
    at = group_at 0 end group m (in_plane e.a) lies;
    after = group_before 0 end group m (in_plane e.a) lies;
  }
    where
      lies : LiesAt (ends_of e) (get_or ms 0 m).part (in_plane e.a)
      lies = subst (λ (n : Met). LiesAt (ends_of e) n.part (in_plane e.a)) (sym at.1)
          (lies_at_equal (ends_of e) start_part m.part (in_plane e.a) one_positive (sym equal)
          (start_lies (ends_of e)))

  start_alone : ((m : Met) → IsAt ms 0 m → ¬ (AreEqual m.part start_part)) →
      IsPlaceWith es e ms 0 0 (in_plane e.a)
  start_alone none = record {
    place = record { on = start_on (ends_of e); stop = inl (inl (at_itself e.a)) };
    ordered = omega arith;
    within = omega arith;
    before = λ k d begun short. absurd (omega (arith, short));
    at = λ k d begun short. absurd (omega (arith, begun, short));
    after = λ k d begun short q at_q. smaller_at start_part (get_or ms k d).part (in_plane e.a) q one_positive
        (positive_at k d short) (start_lies (ends_of e)) at_q (after_start k d short);
  }
    where
      after_first : (d : Met) → 0 < length ms → IsLess start_part (get_or ms 0 d).part
      after_first d some =
          let s = (get_or ms 0 d).part in
          let zero = solve 1 (λ z. number (pos 0) ⊗ z ≗ number (pos 0)) tt s.d in
          let once = solve 1 (λ z. z ⊗ number (pos 1) ≗ z) tt s.n in
          let begun = (part_at 0 d some).begun in
          by_lt_z (pos 0) s.n (λ less. omega linear)
          (λ le. absurd (none (get_or ms 0 d) (some, get_or_default ms 0 (get_or ms 0 d) d some) (omega linear)))

      after_start : (k : ℕ) (d : Met) → k < length ms → IsLess start_part (get_or ms k d).part
      after_start k d short =
          let some : 0 < length ms = omega arith in
          ⊎_elim (λ (same : 0 ≡ k). subst (λ j. IsLess start_part (get_or ms j d).part) same (after_first d some))
          (λ (later : 0 < k). less_at_most start_part (get_or ms 0 d).part (get_or ms k d).part one_positive
          (positive_at 0 d some) (positive_at k d short) (after_first d some)
          (at_most_later ms positive_at in_order 0 k d later short))
          (eq-or-lt_of_le (let le : 0 ≤ k = omega arith in le))
        where
          in_order : AreInOrderAlongOne ms
          in_order = (ends_of e, All-contains (λ h. point_lt h.a h.b ≡ true) es e given.forward entry, given.met.order)

  -- ---- from place to place

  module _ (j k : ℕ) (l : PlanePoint) (from : IsPlaceWith es e ms j k l) where
    -- the meeting points up to here lie before each point after l
    up_to_here : (q : PlanePoint) → IsSmaller l q → AllWithin (LiesBefore (ends_of e) q) ms 0 k
    up_to_here q after n d begun short p at_p = ⊎_elim
        (λ (early : n < j). smaller_through p l q (from.before n d begun early p at_p) after)
        (λ (here : j ≤ n). smaller_from_same p l q
        (one_place n d p l (let within = from.within in omega arith) at_p (from.at n d here short)) after)
        (cases_lt n j)

    -- a piece leads to a place after l, up to which no other group comes
    module _ (q : PlanePoint) (to : IsPlaceOn es e q) (after : IsSmaller l q)
        (rest : AllWithin (λ m. (p : PlanePoint) → LiesAt (ends_of e) m.part p → IsSmaller p q → ⊥) ms k
        (length ms)) where
      not_met : (p : PlanePoint) → MeetsAnother es e p → IsSmaller l p → IsSmaller p q → ⊥
      not_met p met later earlier =
          let found = Contains-from_any (λ m. LiesAt (ends_of e) m.part p) ms (told.told p met) in
          at_index found.1.0 found.0 found.1.1
          (subst (λ (m : Met). LiesAt (ends_of e) m.part p) (sym found.1.2) found.2)
        where
          at_index : (n : ℕ) (d : Met) → n < length ms → LiesAt (ends_of e) (get_or ms n d).part p → ⊥
          at_index n d within at = ⊎_elim
              (λ (early : n < k). smaller_elsewhere p p (up_to_here p later n d (omega arith) early p at) (refl, refl))
              (λ (late : k ≤ n). rest n d late within p at earlier)
              (cases_lt n k)

      not_end : (p : PlanePoint) → IsEnd (ends_of e) p → IsSmaller l p → IsSmaller p q → ⊥
      not_end p (inl at) later earlier = smaller_elsewhere (in_plane e.a) p
          (up_to_smaller (in_plane e.a) l p (up_from_start l from.place.on) later)
          (same_place_at e.a (in_plane e.a) p (at_itself e.a) at)
      not_end p (inr at) later earlier = smaller_elsewhere p (in_plane e.b)
          (smaller_up_to p q (in_plane e.b) earlier (up_to_end q to.on))
          (same_place_at e.b p (in_plane e.b) at (at_itself e.b))

      piece_to : IsPiece es e l q
      piece_to = record {
        entry = entry;
        from = from.place;
        to = to;
        before = after;
        clear = λ p place later earlier. ⊎_elim (λ end. not_end p end later earlier)
            (λ met. not_met p met later earlier) place.stop;
      }

    -- ---- to the next group

    module _ (n : ℕ) (group : IsGroup ms k n) where
      within : k < length ms
      within = let some = group.some in let end = group.within in omega arith

      abbrev first : Met
      first = some_entry ms k within

      abbrev next : PlanePoint
      next = (told.met k first within).0

      lies : LiesAt (ends_of e) (get_or ms k first).part next
      lies = (told.met k first within).1

      meets : MeetsAnother es e next
      meets = (told.met k first within).2

      is_place : IsPlaceOn es e next
      is_place = record { on = meets.3.common.0; stop = inr meets }

      comes_later : IsSmaller l next
      comes_later = from.after k first (omega arith) within next lies

      none_between : AllWithin (λ m. (p : PlanePoint) → LiesAt (ends_of e) m.part p → IsSmaller p next → ⊥) ms k
          (length ms)
      none_between b d past short p at earlier = ⊎_elim
          (λ (here : b < n). smaller_elsewhere p next earlier
          (one_place b d p next short at (group_at k n group first next lies b d past here)))
          (λ (late : n ≤ b). smaller_one_way p next earlier
          (group_before k n group first next lies b d late short p at))
          (cases_lt b n)

      pub next_place : IsNextPlace es e ms k n l
      next_place = record {
        next = next;
        place = record {
          place = is_place;
          ordered = let some = group.some in omega arith;
          within = group.within;
          before = up_to_here next comes_later;
          at = group_at k n group first next lies;
          after = group_before k n group first next lies;
        };
        piece = piece_to next is_place comes_later none_between;
      }

  -- ---- to the end

  module _ (j k : ℕ) (l : PlanePoint) (m : Met) (from : IsPlaceWith es e ms j k l) (some : j < k)
      (at : IsAt ms j m) where
    l_lies : LiesAt (ends_of e) m.part l
    l_lies = subst (λ (n : Met). LiesAt (ends_of e) n.part l) at.1 (from.at j m (omega arith) some)

    m_part : IsPart m.part
    m_part = subst (λ (n : Met). IsPart n.part) at.1 (part_at j m at.0)

    end_met : AreEqual m.part end_part → SamePlace l (in_plane e.b)
    end_met = same_at m.part end_part l (in_plane e.b) m_part.positive one_positive l_lies (end_lies (ends_of e))

    end_short : ¬ (AreEqual m.part end_part) → IsSmaller l (in_plane e.b)
    end_short other = smaller_at m.part end_part l (in_plane e.b) m_part.positive one_positive l_lies
        (end_lies (ends_of e)) less
      where
        less : IsLess m.part end_part
        less =
            let up = m_part.within in
            let whole = solve 1 (λ z. number (pos 1) ⊗ z ≗ z) tt m.part.d in
            let once = solve 1 (λ z. z ⊗ number (pos 1) ≗ z) tt m.part.n in
            by_lt_z m.part.n m.part.d (λ lt. omega linear) (λ ge. absurd (other (omega linear)))

  end_alone : (j : ℕ) (l : PlanePoint) → IsPlaceWith es e ms j (length ms) l → IsSmaller l (in_plane e.b) →
      IsPlaceWith es e ms (length ms) (length ms) (in_plane e.b) × IsPiece es e l (in_plane e.b)
  end_alone j l from short = (
    record {
      place = is_place;
      ordered = omega arith;
      within = omega arith;
      before = up_to_here j (length ms) l from (in_plane e.b) short;
      at = λ k d begun less. absurd (omega (arith, begun, less));
      after = λ k d begun less. absurd (omega (arith, begun, less));
    },
    piece_to j (length ms) l from (in_plane e.b) is_place short
        (λ k d begun less. absurd (omega (arith, begun, less))),
  )
    where
      is_place : IsPlaceOn es e (in_plane e.b)
      is_place = record { on = end_on (ends_of e); stop = inl (inr (at_itself e.b)) }

  start_to_end : IsSmaller (in_plane e.a) (in_plane e.b)
  start_to_end = smaller_at start_part end_part (in_plane e.a) (in_plane e.b) one_positive one_positive
      (start_lies (ends_of e)) (end_lies (ends_of e)) (record { lt = tt })

  pub tell_places : TellPlaces es e ms
  tell_places = record {
    start = record { met = start_met; alone = start_alone };
    groups = λ j k n l from group. next_place j k l from n group;
    end = record {
      begun = start_to_end;
      met = λ j k l m from some at. end_met j k l m from some at;
      short = λ j k l m from some at. end_short j k l m from some at;
      alone = end_alone;
    };
  }
