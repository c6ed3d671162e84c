-- Parts of edges on one line: lists that result from others by parting and joining, and the first part of two parts.
use Rattle.std.proofs.Common.{◌≡◌, inl, inr, Bool, true, false, cond, List, [], ◌∷◌, ◌++◌, refl, sym, ap, ◌∙◌}
use Rattle.std.proofs.Common.{subst}
use Rattle.std.specs.List.Sorted.{IsPermutation}
use Rattle.std.proofs.lemmas.List.Sorted.{IsPermutation-append_comm, IsPermutation-append_left, IsPermutation-cons}
use Rattle.std.proofs.lemmas.List.Sorted.{IsPermutation-refl, IsPermutation-trans}
use Rattle.overlay_geom.specs.Placed.{IsAlong}
use Rattle.overlay_geom.specs.Plane.{Point, Edge, point_lt}
use Rattle.overlay_geom.proofs.Orders.{neither_smaller, point_lt-itself}
use Rattle.overlay_geom.proofs.PointOrder.{point_lt-after_up_to}
use Rattle.overlay_parts.specs.Parts.{Part, ends_of_part, first_of, part_behind, part_between, rest_behind}
use Rattle.overlay_parts.specs.Parts.{AreParted, moved, parted, joined, IsFirstPart, IsJoinedPart}

-- ---- what lies behind a point

-- a point inside a part, one at its end, and one up to its start
rest_some : {C : Type 0} (part : Part C) (v : Point) → point_lt (ends_of_part part).a v ≡ true →
    point_lt v (ends_of_part part).b ≡ true → rest_behind part v ≡ part_between part v (ends_of_part part).b ∷ []
rest_some part v after before =
    ap (λ c. cond c (part_behind part v ∷ []) []) before
    ∙ ap (λ c. part_between part (cond c v (ends_of_part part).a) (ends_of_part part).b ∷ []) after

rest_none : {C : Type 0} (part : Part C) (v : Point) → point_lt v (ends_of_part part).b ≡ false →
    rest_behind part v ≡ []
rest_none part v past = ap (λ c. cond c (part_behind part v ∷ []) []) past

rest_whole : {C : Type 0} (part : Part C) (v : Point) → point_lt (ends_of_part part).a v ≡ false →
    point_lt v (ends_of_part part).b ≡ true → rest_behind part v ≡ part ∷ []
rest_whole part v up_to before =
    ap (λ c. cond c (part_behind part v ∷ []) []) before
    ∙ ap (λ c. part_between part (cond c v (ends_of_part part).a) (ends_of_part part).b ∷ []) up_to

-- the first two entries exchanged
exchanged : {X : Type 0} (x y : X) (rest : List X) → IsPermutation (x ∷ y ∷ rest) (y ∷ x ∷ rest)
exchanged x y rest =
    IsPermutation-append_left rest (x ∷ y ∷ []) (y ∷ x ∷ []) (IsPermutation-append_comm (x ∷ []) (y ∷ []))

module _ {C : Type 0} (merges : C → C → C → Type 0) where
  -- ---- lists

  -- the order of the first list does not matter
  pub moved_before : {old mid new : List (Part C)} → IsPermutation old mid → AreParted merges mid new →
      AreParted merges old new
  moved_before {old} {mid} first (moved {new = new} more) = moved (IsPermutation-trans old mid new first more)
  moved_before {old} {mid} first (parted {rest = rest} {part = part} {other = other} more at later) =
      parted (IsPermutation-trans old mid (part ∷ other ∷ rest) first more) at later
  moved_before {old} {mid} first (joined {rest = rest} {s = s} {t = t} more join later) =
      joined (IsPermutation-trans old mid (s ∷ t ∷ rest) first more) join later

  -- lists are parted one after another
  pub parted_on : {old mid new : List (Part C)} → AreParted merges old mid → AreParted merges mid new →
      AreParted merges old new
  parted_on (moved first) more = moved_before first more
  parted_on (parted first at later) more = parted first at (parted_on later more)
  parted_on (joined first join later) more = joined first join (parted_on later more)

  -- further parts may follow both
  pub parted_before : {old new : List (Part C)} (more : List (Part C)) → AreParted merges old new →
      AreParted merges (old ++ more) (new ++ more)
  parted_before {old} more (moved {new = new} first) = moved (IsPermutation-append_left more old new first)
  parted_before {old} more (parted {rest = rest} {part = part} {other = other} first at later) =
      parted (IsPermutation-append_left more old (part ∷ other ∷ rest) first) at (parted_before more later)
  parted_before {old} more (joined {rest = rest} {s = s} {t = t} first join later) =
      joined (IsPermutation-append_left more old (s ∷ t ∷ rest) first) join (parted_before more later)

  -- ---- the first part

  -- the order of the two parts does not matter
  pub flipped : (s t first : Part C) → IsFirstPart merges t s first → IsFirstPart merges s t first
  flipped s t first is =
      let v = (ends_of_part first).b in
      moved_before (exchanged s t []) (parted_on is (moved (IsPermutation-cons first
      (rest_behind t v ++ rest_behind s v) (rest_behind s v ++ rest_behind t v)
      (IsPermutation-append_comm (rest_behind t v) (rest_behind s v)))))

  module _ (s t : Part C) (along : IsAlong (ends_of_part s) (ends_of_part t))
      (s_forward : point_lt (ends_of_part s).a (ends_of_part s).b ≡ true)
      (t_forward : point_lt (ends_of_part t).a (ends_of_part t).b ≡ true) where
    -- parted into a first part and two rests
    abbrev pub AreLeft : Part C → List (Part C) → List (Part C) → Type 0
    AreLeft first ps qs = AreParted merges (s ∷ t ∷ []) (first ∷ ps ++ qs)

    with_rests : (first : Part C) (ps qs : List (Part C)) → rest_behind s (ends_of_part first).b ≡ ps →
        rest_behind t (ends_of_part first).b ≡ qs → AreLeft first ps qs → IsFirstPart merges s t first
    with_rests first ps qs of_s of_t left =
        subst (λ rs. AreLeft first rs (rest_behind t (ends_of_part first).b)) (sym of_s)
        (subst (λ rs. AreLeft first ps rs) (sym of_t) left)

    -- s starts before t
    pub first_of_earlier : point_lt (ends_of_part s).a (ends_of_part t).a ≡ true →
        IsFirstPart merges s t (part_between s (ends_of_part s).a (first_of (ends_of_part s).b (ends_of_part t).a))
    first_of_earlier before = by (point_lt (ends_of_part t).a (ends_of_part s).b) refl
      where
        by : (b : Bool) → point_lt (ends_of_part t).a (ends_of_part s).b ≡ b →
            IsFirstPart merges s t (part_between s (ends_of_part s).a (cond b (ends_of_part t).a (ends_of_part s).b))
        by true less =
            let v = (ends_of_part t).a in
            let front = part_between s (ends_of_part s).a v in
            let rest = part_between s v (ends_of_part s).b in
            with_rests front (rest ∷ []) (t ∷ []) (rest_some s v before less)
            (rest_whole t v (point_lt-itself v) t_forward)
            (parted (IsPermutation-refl (s ∷ t ∷ []))
            (record { along = along; after = before; before = less; is_end = inl refl })
            (moved (IsPermutation-refl (front ∷ rest ∷ t ∷ []))))
        by false past =
            let v = (ends_of_part s).b in
            with_rests s [] (t ∷ []) (rest_none s v (point_lt-itself v))
            (rest_whole t v past (point_lt-after_up_to v (ends_of_part t).a (ends_of_part t).b past t_forward))
            (moved (IsPermutation-refl (s ∷ t ∷ [])))

    -- both start in one point
    module _ (both : Part C) (back : IsAlong (ends_of_part t) (ends_of_part s))
        (same : (ends_of_part s).a ≡ (ends_of_part t).a) where
      -- they are joined up to a point
      abbrev pub IsStartedAt : Point → Type 0
      IsStartedAt v =
          IsJoinedPart merges (part_between s (ends_of_part s).a v) (part_between t (ends_of_part t).a v) both →
          IsFirstPart merges s t both

      up_to_t : point_lt (ends_of_part t).b (ends_of_part s).b ≡ true → IsStartedAt (ends_of_part t).b
      up_to_t less join =
          let v = (ends_of_part t).b in
          let front = part_between s (ends_of_part s).a v in
          let rest = part_between s v (ends_of_part s).b in
          let after : point_lt (ends_of_part s).a v ≡ true =
          subst (λ p. point_lt p v ≡ true) (sym same) t_forward in
          let ends : (ends_of_part both).b ≡ v = ap (λ (e : Edge). e.b) join.ends in
          with_rests both (rest ∷ []) [] (ap (rest_behind s) ends ∙ rest_some s v after less)
          (ap (rest_behind t) ends ∙ rest_none t v (point_lt-itself v))
          (parted (IsPermutation-refl (s ∷ t ∷ []))
          (record { along = along; after = after; before = less; is_end = inr refl })
          (joined (IsPermutation-cons front (rest ∷ t ∷ []) (t ∷ rest ∷ []) (exchanged rest t [])) join
          (moved (IsPermutation-refl (both ∷ rest ∷ [])))))

      up_to_s : point_lt (ends_of_part s).b (ends_of_part t).b ≡ true → IsStartedAt (ends_of_part s).b
      up_to_s less join =
          let v = (ends_of_part s).b in
          let front = part_between t (ends_of_part t).a v in
          let rest = part_between t v (ends_of_part t).b in
          let after : point_lt (ends_of_part t).a v ≡ true = subst (λ p. point_lt p v ≡ true) same s_forward in
          let ends : (ends_of_part both).b ≡ v = ap (λ (e : Edge). e.b) join.ends in
          with_rests both [] (rest ∷ []) (ap (rest_behind s) ends ∙ rest_none s v (point_lt-itself v))
          (ap (rest_behind t) ends ∙ rest_some t v after less)
          (parted (exchanged s t [])
          (record { along = back; after = after; before = less; is_end = inr refl })
          (joined (IsPermutation-trans (front ∷ rest ∷ s ∷ []) (front ∷ s ∷ rest ∷ []) (s ∷ front ∷ rest ∷ [])
          (IsPermutation-cons front (rest ∷ s ∷ []) (s ∷ rest ∷ []) (exchanged rest s []))
          (exchanged front s (rest ∷ []))) join (moved (IsPermutation-refl (both ∷ rest ∷ [])))))

      up_to_both : (ends_of_part s).b ≡ (ends_of_part t).b → IsStartedAt (ends_of_part s).b
      up_to_both equal join =
          let v = (ends_of_part s).b in
          let whole : part_between t (ends_of_part t).a v ≡ t =
          ap (λ w. part_between t (ends_of_part t).a w) equal in
          let ends : (ends_of_part both).b ≡ v = ap (λ (e : Edge). e.b) join.ends in
          with_rests both [] [] (ap (rest_behind s) ends ∙ rest_none s v (point_lt-itself v))
          (ap (rest_behind t) ends ∙ rest_none t v (ap (λ w. point_lt v w) (sym equal) ∙ point_lt-itself v))
          (joined (IsPermutation-refl (s ∷ t ∷ [])) (subst (λ p. IsJoinedPart merges s p both) whole join)
          (moved (IsPermutation-refl (both ∷ []))))

      pub first_of_both : IsStartedAt (first_of (ends_of_part s).b (ends_of_part t).b)
      first_of_both = by (point_lt (ends_of_part t).b (ends_of_part s).b) refl
        where
          or : (b : Bool) → point_lt (ends_of_part s).b (ends_of_part t).b ≡ b →
              point_lt (ends_of_part t).b (ends_of_part s).b ≡ false → IsStartedAt (ends_of_part s).b
          or true less not = up_to_s less
          or false neither not = up_to_both (neither_smaller (ends_of_part s).b (ends_of_part t).b neither not)

          by : (b : Bool) → point_lt (ends_of_part t).b (ends_of_part s).b ≡ b →
              IsStartedAt (cond b (ends_of_part t).b (ends_of_part s).b)
          by true less = up_to_t less
          by false not = or (point_lt (ends_of_part s).b (ends_of_part t).b) refl not
