-- The number of a hole follows from the walk that the look-up found, which has its own already.
use Rattle.std.proofs.Common.{◌≡◌, inl, inr, ℕ, ◌+◌, ◌<◌, ◌≤◌, ◌≢◌, true, false, cond, nat_lt, List, [], ◌∷◌}
use Rattle.std.proofs.Common.{◌++◌, length, take, get_or, slice_set, Contains, Option, None, Some, refl, sym, ap, ◌∙◌}
use Rattle.std.proofs.Common.{subst, arith}
use Rattle.std.specs.List.{All, slice_get}
use Rattle.std.specs.Option.{is_some}
use Rattle.std.proofs.lemmas.Bool.{both_ways, cases_Bool, ltb-true, ltb-false, le-ltb, lt-ltb}
use Rattle.std.proofs.Math.Dec.{ltb}
use Rattle.std.proofs.lemmas.List.{get_or-set_same, get_or-set_other, get_or-take, get_or_default, length-take-le}
use Rattle.std.proofs.lemmas.List.{take_more}
use Rattle.std.proofs.lemmas.List.Elements.{All-contains, All-push, All-weaker}
use Rattle.std.proofs.lemmas.Option.{slice_get_within}
use Rattle.overlay_geom.specs.Plane.{Step, Edge}
use Rattle.overlay_plane.specs.Contours.{IsContour}
use Rattle.overlay_plane.specs.Anchors.{IsAnchor, is_anchored_before}
use Rattle.overlay_plane.specs.Binding.{IsNextWalk, HasNoneBelow, HasNextAt, IsFoundBelow}
use Rattle.overlay_plane.specs.Binding.IsFoundBelow.{nothing, direct, through}
use Rattle.overlay_plane.specs.Turn.{Hand}
use Rattle.overlay_plane.proofs.AnchorOrder.{anchored_before-itself}
use Rattle.overlay_plane.proofs.Anchors.{anchor_forward}
use Rattle.overlay_plane.proofs.Entries.{Contains-from_map}
use Rattle.overlay_plane.proofs.NextAnchors.{next_is_anchored_before}
use Rattle.overlay_scan.specs.Scan.{Entry}
use Rattle.overlay_extract.specs.Parents.{HasShapeNumber}
use Rattle.overlay_extract.specs.WalkEntries.{IsHoleEntry, AreHoleEntries}
use Rattle.overlay_extract.proofs.HoleEntries.{same_at, Contains-at}

-- the number of a shape that is looked up for the walk with this index
abbrev pub shape_of : List (Option ℕ) → List (Option ℕ) → ℕ → Option ℕ
shape_of numbers parents n =
    cond (nat_lt n (length numbers)) (cond (is_some (get_or numbers n None)) (get_or numbers n None)
    (get_or parents n None)) None

-- one number is less than another, or it is not
by_lt : {P : Type 0} (a b : ℕ) → (a < b → P) → (b ≤ a → P) → P
by_lt a b less more = elim (cases_Bool (ltb a b)) [
  | inl is ↦ less (ltb-true a b is)
  | inr not_so ↦ more (ltb-false a b not_so)
]

-- the two are one, or they are not
by_eq : {P : Type 0} (a b : ℕ) → (a ≡ b → P) → (a ≢ b → P) → P
by_eq a b same other = by_lt a b (λ lt. other (λ is. omega arith))
    (λ ge. by_lt b a (λ gt. other (λ is. omega arith)) (λ le. same (omega arith)))

module _ (filled : Hand) (walks : List (List Step)) (contours : All IsContour walks) (known : List (Option ℕ))
    (counted : length known ≡ length walks)
    (hs : List (Entry ℕ)) (holes : AreHoleEntries walks known hs) (parents : List (Option ℕ)) (i : ℕ) (h : Entry ℕ)
    (lt : i < length hs) (is : h ≡ get_or hs i h)
    (numbered : All (λ k. HasShapeNumber filled walks known parents k.value) (take i hs)) where
  -- an entry that is anchored before the entry at the place comes before it
  stands_before : (k : Entry ℕ) → Contains hs k → is_anchored_before k.edge h.edge ≡ true →
      is_anchored_before h.edge h.edge ≡ false → Contains (take i hs) k
  stands_before k c before itself = by_lt c.0 i
      (λ less. (c.0, let short = length-take-le i hs (omega arith) in omega arith, get_or-take i hs c.0 k less ∙ c.2))
      (λ ge. absurd (by_lt i c.0
      (λ later. both_ways (is_anchored_before k.edge h.edge)
      (subst (λ (e : Entry ℕ). is_anchored_before k.edge e.edge ≡ false) (get_or_default hs i k h lt ∙ sym is)
      (subst (λ (e : Entry ℕ). is_anchored_before e.edge (get_or hs i k).edge ≡ false) c.2
      (holes.order i c.0 k later c.1))) before)
      (λ le. both_ways (is_anchored_before h.edge h.edge) itself
      (subst (λ (e : Entry ℕ). is_anchored_before e.edge h.edge ≡ true) (sym c.2 ∙ get_or_default hs c.0 k h c.1
      ∙ ap (λ n. get_or hs n h) (omega (arith, ge, le)) ∙ sym is) before))))

  module _ (hole : List Step) (at : slice_get walks h.value ≡ Some hole) (anchor : IsAnchor hole h.edge) where
    -- the next walk has its number, if it stands in no shape from the start
    next_number : (n : ℕ) (next : List Step) → slice_get walks n ≡ Some next →
        (is_next : IsNextWalk filled walks hole next) → is_next.anchor ≡ h.edge →
        get_or known n None ≡ None → IsFoundBelow filled walks known n (get_or parents n None)
    next_number n next at_next is_next anchor_is also =
        let found = Contains-from_map (λ (k : Entry ℕ). k.value) hs n (holes.all n next at_next also) in
        let k = found.0 in
        let own = All-contains (IsHoleEntry walks known) hs k holes.from found.1 in
        let same : own.walk ≡ next = same_at walks n own.walk next (ap (slice_get walks) (sym found.2)
        ∙ own.at) at_next in
        let before = subst (λ (e : Edge). is_anchored_before k.edge e ≡ true) anchor_is
        (next_is_anchored_before filled walks contours hole next (Contains-at walks h.value hole at) is_next k.edge
        (subst (λ w. IsAnchor w k.edge) same own.has.anchor)) in
        let itself = anchored_before-itself h.edge
        (anchor_forward hole (All-contains IsContour walks hole contours (Contains-at walks h.value hole at))
        h.edge anchor) in
        subst (λ m. IsFoundBelow filled walks known m (get_or parents m None)) found.2
        (All-contains (λ j. HasShapeNumber filled walks known parents j.value) (take i hs) k numbered
        (stands_before k found.1 before itself) next
        (ap (slice_get walks) found.2 ∙ at_next) (ap (λ m. get_or known m None) found.2 ∙ also))

    -- below it is no walk
    pub number_of_none : (n : ℕ) → n ≡ length walks → HasNoneBelow filled walks hole →
        IsFoundBelow filled walks known h.value (shape_of known parents n)
    number_of_none n past nothing_below = subst (IsFoundBelow filled walks known h.value) (sym no_shape)
        (nothing hole at nothing_below)
      where
        no_shape : shape_of known parents n ≡ None
        no_shape = ap (λ t. cond t (cond (is_some (get_or known n None)) (get_or known n None) (get_or parents n None))
            None)
            (let c = counted in le-ltb n (length known) (omega arith))

    -- below it is the next walk
    pub number_of_next : (n : ℕ) (next : List Step) → slice_get walks n ≡ Some next →
        (is_next : IsNextWalk filled walks hole next) → is_next.anchor ≡ h.edge →
        IsFoundBelow filled walks known h.value (shape_of known parents n)
    number_of_next n next at_next is_next anchor_is = subst (IsFoundBelow filled walks known h.value) (sym within)
        (by (get_or known n None) refl)
      where
        within : shape_of known parents n ≡ cond (is_some (get_or known n None)) (get_or known n None)
            (get_or parents n None)
        within = ap (λ t. cond t (cond (is_some (get_or known n None)) (get_or known n None) (get_or parents n None))
            None)
            (let c = counted in let l = slice_get_within walks n next at_next in lt-ltb n (length known) (omega arith))

        has_next : HasNextAt filled walks h.value n
        has_next = record { walk = hole; at = at; next = next; next_at = at_next; is_next = is_next }

        by : (o : Option ℕ) → get_or known n None ≡ o → IsFoundBelow filled walks known h.value
            (cond (is_some o) o (get_or parents n None))
        by (Some m) stands = direct has_next stands
        by None also = through has_next also (next_number n next at_next is_next anchor_is also)

    -- the number of the hole is written at its place
    pub all_numbered : (shape : Option ℕ) → h.value < length parents → IsFoundBelow filled walks known h.value shape →
        All (λ k. HasShapeNumber filled walks known (slice_set parents h.value shape) k.value) (take (i + 1) hs)
    all_numbered shape inside number_of_hole = subst
        (All (λ k. HasShapeNumber filled walks known (slice_set parents h.value shape) k.value))
        (sym (take_more hs i h lt ∙ ap (λ k. take i hs ++ k ∷ []) (sym is)))
        (All-push (λ k. HasShapeNumber filled walks known (slice_set parents h.value shape) k.value) (take i hs) h
        (All-weaker (λ k. HasShapeNumber filled walks known parents k.value)
        (λ k. HasShapeNumber filled walks known (slice_set parents h.value shape) k.value) (λ k. still k.value)
        (take i hs) numbered)
        here)
      where
        here : HasShapeNumber filled walks known (slice_set parents h.value shape) h.value
        here w at_w hole_w = subst (IsFoundBelow filled walks known h.value)
            (sym (get_or-set_same parents h.value shape None inside)) number_of_hole

        still : (n : ℕ) → HasShapeNumber filled walks known parents n →
            HasShapeNumber filled walks known (slice_set parents h.value shape) n
        still n old = by_eq n h.value
            (λ same. subst (HasShapeNumber filled walks known (slice_set parents h.value shape)) (sym same) here)
            (λ other w at_w hole_w. subst (IsFoundBelow filled walks known n)
            (sym (get_or-set_other parents h.value n shape None other)) (old w at_w hole_w))
