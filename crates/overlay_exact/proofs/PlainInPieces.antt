-- A walk from place to place finds the piece in which a plain point lies.
use Rattle.std.proofs.Common.{◌≡◌, ◌⊎◌, ⊎_elim, inl, inr, ℕ, zero, suc, ◌+◌, ◌<◌, ◌≤◌, Bool, true, false, ◌*ℤ◌}
use Rattle.std.proofs.Common.{List, length, get_or, refl, sym, ◌∙◌, subst, arith}
use Rattle.std.specs.List.{AllWithin}
use Rattle.std.specs.Ordering.{int_eq}
use Rattle.std.proofs.lemmas.Bool.{cases_Bool, cases_lt}
use Rattle.std.proofs.lemmas.Bool.Decides.{Decides-int_eq, not_from_Decides}
use Rattle.std.proofs.lemmas.List.{get_or_default}
use Rattle.std.proofs.lemmas.List.Elements.{All-contains}
use Rattle.std.proofs.Math.Nat.{eq-or-lt_of_le}
use Rattle.overlay_geom.specs.Edges.{CountedEdge, ends_of}
use Rattle.overlay_geom.specs.Plane.{PlanePoint, in_plane, point_lt}
use Rattle.overlay_geom.proofs.Entries.{some_entry}
use Rattle.overlay_plane.specs.Rounds.{IsSmaller}
use Rattle.overlay_plane.proofs.PlaceOrder.{start_up_to_place, place_up_to_end}
use Rattle.overlay_pairs.specs.Places.{IsAt}
use Rattle.overlay_scaled.specs.Pieces.{IsPlaceOn, IsPiece}
use Rattle.overlay_scaled.specs.PlainPoints.{IsPlain}
use Rattle.overlay_exact.specs.Along.{Met}
use Rattle.overlay_exact.specs.Groups.{AreInOrderAlongOne, IsGroup}
use Rattle.overlay_exact.specs.Parts.{start_part, AreEqual}
use Rattle.overlay_exact.specs.PieceOrder.{IsUpTo, IsInPiece}
use Rattle.overlay_exact.specs.PlacesAlong.{AreMetIn, IsPlaceWith, TellPlaces}
use Rattle.overlay_exact.proofs.GroupEnds.{group_ends}
use Rattle.overlay_exact.proofs.PiecesFollow.{pieces_follow}
use Rattle.overlay_exact.proofs.PlacesTold.{entry, e_before, positive_at, tell_places}
use Rattle.overlay_exact.proofs.PlaneOrder.{smaller_not_back, smaller_up_to, up_to_of_place}

-- equal parts or not
equal_or_not : (m n : Met) → AreEqual m.part n.part ⊎ (¬ (AreEqual m.part n.part))
equal_or_not m n = ⊎_elim
    (λ (same : int_eq (m.part.n *ℤ n.part.d) (n.part.n *ℤ m.part.d) ≡ true).
    inl ((Decides-int_eq (m.part.n *ℤ n.part.d) (n.part.n *ℤ m.part.d)).0 same))
    (λ (other : int_eq (m.part.n *ℤ n.part.d) (n.part.n *ℤ m.part.d) ≡ false).
    inr (not_from_Decides (int_eq (m.part.n *ℤ n.part.d) (n.part.n *ℤ m.part.d))
    (Decides-int_eq (m.part.n *ℤ n.part.d) (n.part.n *ℤ m.part.d)) other))
    (cases_Bool (int_eq (m.part.n *ℤ n.part.d) (n.part.n *ℤ m.part.d)))

module _ (es : List CountedEdge) (i : ℕ) (e : CountedEdge) (ms : List Met) (given : AreMetIn es i e ms) where
  in_order : AreInOrderAlongOne ms
  in_order = (
    ends_of e,
    All-contains (λ h. point_lt h.a h.b ≡ true) es e given.forward (entry es i e ms given),
    given.met.order,
  )

  -- ---- a group begins at each place

  module _ (k : ℕ) (within : k < length ms) where
    abbrev first : Met
    first = get_or ms k (some_entry ms k within)

    -- the meeting points up to place n are equal to the first
    abbrev AreAlike : ℕ → Type 0
    AreAlike n = AllWithin (λ m. AreEqual first.part m.part) ms k n

    one_alike : AreAlike (k + 1)
    one_alike n d begun short =
        let same : k ≡ n = omega (arith, begun, short) in
        subst (λ j. AreEqual first.part (get_or ms j d).part) same
        (subst (λ (m : Met). AreEqual first.part m.part) (get_or_default ms k (some_entry ms k within) d within) refl)

    more_alike : (n : ℕ) → AreAlike n → (d : Met) → AreEqual first.part (get_or ms n d).part → n < length ms →
        AreAlike (n + 1)
    more_alike n alike d equal short j b begun less = ⊎_elim
        (λ (same : j ≡ n). subst (λ l. AreEqual first.part (get_or ms l b).part) (sym same)
        (subst (λ (m : Met). AreEqual first.part m.part) (get_or_default ms n d b short) equal))
        (λ (early : j < n). alike j b begun early)
        (eq-or-lt_of_le (let le : j ≤ n = omega (arith, less) in le))

    ends_at : (n : ℕ) → k < n → n ≤ length ms → AreAlike n →
        ((d : Met) → n < length ms → ¬ (AreEqual first.part (get_or ms n d).part)) → IsGroup ms k n
    ends_at n some short alike other = group_ends ms (positive_at es i e ms given) in_order first.part k n
        (positive_at es i e ms given k (some_entry ms k within) within) some short alike other

    -- the end of the group, found within so many steps
    group_within : (steps n : ℕ) → k < n → n ≤ length ms → length ms ≤ n + steps → AreAlike n →
        (end : ℕ) × IsGroup ms k end
    group_within zero n some short few alike =
        (n, ends_at n some short alike (λ d less. absurd (omega (arith, few, less))))
    group_within (suc steps) n some short few alike = ⊎_elim
        (λ (more : n < length ms).
        let d = some_entry ms n more in
        ⊎_elim
        (λ equal. group_within steps (n + 1) (omega (arith, some)) (omega (arith, more)) (omega (arith, few))
        (more_alike n alike d equal more))
        (λ other. (
          n,
          ends_at n some short alike (λ b less same. other
              (subst (λ (m : Met). AreEqual first.part m.part) (get_or_default ms n b d more) same)),
        ))
        (equal_or_not first (get_or ms n d)))
        (λ (all : length ms ≤ n). (n, ends_at n some short alike (λ d less. absurd (omega (arith, all, less)))))
        (cases_lt n (length ms))

    pub some_group : (end : ℕ) × IsGroup ms k end
    some_group = group_within (length ms) (k + 1) (omega arith) (omega (arith, within)) (omega arith) one_alike

  -- ---- the walk

  told : TellPlaces es e ms
  told = tell_places es i e ms given

  module _ (p : PlanePoint) (plain : IsPlain es e p) where
    -- p comes before a place or after it
    aside : (l : PlanePoint) → IsPlaceOn es e l → IsSmaller p l ⊎ IsSmaller l p
    aside l place = (pieces_follow es given.forward e).plain p l plain place

    up_to_end : IsUpTo p (in_plane e.b)
    up_to_end = up_to_of_place p (in_plane e.b) (place_up_to_end (ends_of e) (e_before es i e ms given) p plain.on)

    up_from_start : IsUpTo (in_plane e.a) p
    up_from_start = up_to_of_place (in_plane e.a) p
        (start_up_to_place (ends_of e) (e_before es i e ms given) p plain.on)

    -- it lies in the piece that leads from a place before it to one after it
    in_piece : (l m : PlanePoint) → IsPiece es e l m → IsSmaller l p → IsSmaller p m → IsInPiece es e p
    in_piece l m piece after before = (l, m, piece, record { on = plain.on; after = after; before = before })

    last : (j k : ℕ) (l : PlanePoint) → IsPlaceWith es e ms j k l → IsSmaller l p → length ms ≤ k → IsInPiece es e p
    last j k l from after all =
        let same : k ≡ length ms = (let within = from.within in omega (arith, all)) in
        let end = told.end.alone j l (subst (λ n. IsPlaceWith es e ms j n l) same from)
        (smaller_up_to l p (in_plane e.b) after up_to_end) in
        ⊎_elim (λ before. in_piece l (in_plane e.b) end.1 after before)
        (λ past. absurd (smaller_not_back (in_plane e.b) p past up_to_end)) (aside (in_plane e.b) end.0.place)

    find : (steps j k : ℕ) (l : PlanePoint) → IsPlaceWith es e ms j k l → IsSmaller l p → length ms ≤ k + steps →
        IsInPiece es e p
    find zero j k l from after few = last j k l from after (omega (arith, few))
    find (suc steps) j k l from after few = ⊎_elim
        (λ (more : k < length ms).
        let group = some_group k more in
        let to = told.groups j k group.0 l from group.1 in
        ⊎_elim (λ before. in_piece l to.next to.piece after before)
        (λ past. find steps k group.0 to.next to.place past (let some = group.1.some in omega (arith, few)))
        (aside to.next to.place.place))
        (λ (all : length ms ≤ k). last j k l from after all)
        (cases_lt k (length ms))

    from_start : (k : ℕ) → IsPlaceWith es e ms 0 k (in_plane e.a) → IsInPiece es e p
    from_start k from = ⊎_elim (λ before. absurd (smaller_not_back p (in_plane e.a) before up_from_start))
        (λ after. find (length ms) 0 k (in_plane e.a) from after (omega arith))
        (aside (in_plane e.a) from.place)

    pub plain_in_piece : IsInPiece es e p
    plain_in_piece = ⊎_elim some (λ (none : length ms ≤ 0).
        from_start 0 (told.start.alone (λ m at. let within = at.0 in absurd (omega (arith, none, within)))))
        (cases_lt 0 (length ms))
      where
        some : 0 < length ms → IsInPiece es e p
        some within =
            let d = some_entry ms 0 within in
            let m = get_or ms 0 d in
            let at : IsAt ms 0 m = (within, get_or_default ms 0 m d within) in
            ⊎_elim
            (λ equal.
            let group = some_group 0 within in
            from_start group.0 (told.start.met m group.0 at equal group.1))
            (λ other. from_start 0 (told.start.alone (λ n at_n. λ equal. other
            (subst (λ (x : Met). AreEqual x.part start_part)
            (sym at_n.1 ∙ get_or_default ms 0 n d within) equal))))
            (equal_or_not m (record { part = start_part; other = 0 }))
