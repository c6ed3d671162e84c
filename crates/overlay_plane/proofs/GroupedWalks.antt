-- The walks of a cut with groups: those of the outlines' groups, and those of all hole groups together, as far as they
-- are kept.
use Rattle.std.proofs.Common.{◌≡◌, ⊎_elim, ℕ, suc, Bool, true, false, cond, List, [], ◌∷◌, ◌++◌, map, Contains, filter}
use Rattle.std.proofs.Common.{refl, sym, ap, ap₂, ◌∙◌, subst}
use Rattle.std.specs.List.{AllZip, flat_map}
use Rattle.std.proofs.lemmas.List.{map-append}
use Rattle.overlay_geom.specs.Plane.{Step}
use Rattle.overlay_plane.specs.Binding.{walks_of}
use Rattle.overlay_plane.specs.RoledContours.{Contour, kept_group, hole_of_group, hole_to_bind, group_contours_from}
use Rattle.overlay_plane.specs.BoundContours.{walks_in}
use Rattle.overlay_plane.proofs.Entries.{Contains-from_filter, Contains-flat_map, Contains-from_flat_map}
use Rattle.overlay_plane.proofs.LaterEntries.{Contains-cases}
use Rattle.overlay_plane.proofs.SplitLists.{filter-same, filter-all}
use Rattle.overlay_plane.proofs.Totals.{Contains-head, Contains-later}

-- each entry of the second of two lists that are in relation place by place has one of the first
pub in_first : {X Y : Type 0} (R : X → Y → Type 0) (xs : List X) (ys : List Y) → AllZip R xs ys →
    (y : Y) → Contains ys y → (x : X) × Contains xs x × R x y
in_first R xs [] each y c = elim c.1 [ ]
in_first R [] (z ∷ ys) each y c = absurd each
in_first R (x ∷ xs) (z ∷ ys) each y c = ⊎_elim
    (λ is. (x, Contains-head x xs, subst (R x) is each.0))
    (λ later. let found = in_first R xs ys each.1 y later in (found.0, Contains-later x xs found.0 found.1, found.2))
    (Contains-cases z ys y c)

-- ---- the walks of contours

-- walks as contours have these walks
walks_again : (f : List Step → Contour) → ((w : List Step) → (f w).steps ≡ w) → (ws : List (List Step)) →
    walks_in (map f ws) ≡ ws
walks_again f same [] = refl
walks_again f same (w ∷ ws) = ap₂ (λ v vs. v ∷ vs) (same w) (walks_again f same ws)

-- the walks of groups have it too
group_walks : (n : ℕ) (gs : List (List (List Step))) → walks_in (group_contours_from n gs) ≡ walks_of gs
group_walks n [] = refl
group_walks n ([] ∷ gs) = group_walks n gs
group_walks n ((o ∷ hs) ∷ gs) = ap (λ ws. o ∷ ws)
    (map-append (λ (c : Contour). c.steps) (map (hole_of_group n) hs) (group_contours_from (suc n) gs)
    ∙ ap₂ (λ xs ys. xs ++ ys) (walks_again (hole_of_group n) (λ w. refl) hs) (group_walks (suc n) gs))

module _ (keeps : List Step → Bool) where
  -- the walks that are kept of those of the outlines' groups, and of the others
  abbrev pub kept_walks : List (List (List Step)) → List (List Step) → List (List Step)
  kept_walks inside others = walks_of (flat_map (kept_group keeps) inside) ++ filter keeps others

  -- are those of the contours
  pub grouped_walks : (inside : List (List (List Step))) (others : List (List Step)) →
      walks_in (group_contours_from 0 (flat_map (kept_group keeps) inside) ++ map hole_to_bind (filter keeps others))
      ≡ kept_walks inside others
  grouped_walks inside others =
      map-append (λ (c : Contour). c.steps) (group_contours_from 0 (flat_map (kept_group keeps) inside))
      (map hole_to_bind (filter keeps others))
      ∙ ap₂ (λ xs ys. xs ++ ys) (group_walks 0 (flat_map (kept_group keeps) inside))
      (walks_again hole_to_bind (λ w. refl) (filter keeps others))

  -- ---- kept walks

  -- the kept walks of a group are walks of it
  kept_of_group : (ws : List (List Step)) (kept : List (List Step)) → Contains (kept_group keeps ws) kept →
      (w : List Step) → Contains kept w → Contains ws w
  kept_of_group [] kept c w d = elim c.1 [ ]
  kept_of_group (o ∷ hs) kept c w d = by (keeps o) c
    where
      of_these : Contains (o ∷ filter keeps hs) w → Contains (o ∷ hs) w
      of_these e = ⊎_elim
          (λ is. subst (λ v. Contains (o ∷ hs) v) is (Contains-head o hs))
          (λ later. Contains-later o hs w (Contains-from_filter keeps hs w later).0)
          (Contains-cases o (filter keeps hs) w e)

      by : (t : Bool) → Contains (cond t ((o ∷ filter keeps hs) ∷ []) []) kept → Contains (o ∷ hs) w
      by true at = ⊎_elim (λ is. of_these (subst (λ vs. Contains vs w) (sym is) d)) (λ later. elim later.1 [ ])
          (Contains-cases (o ∷ filter keeps hs) [] kept at)
      by false at = elim at.1 [ ]

  -- the kept walks of all groups are walks of them
  pub kept_of_groups : (inside : List (List (List Step))) (w : List Step) →
      Contains (walks_of (flat_map (kept_group keeps) inside)) w → Contains (walks_of inside) w
  kept_of_groups inside w c =
      let kept = Contains-from_flat_map (λ (ws : List (List Step)). ws) (flat_map (kept_group keeps) inside) w c in
      let group = Contains-from_flat_map (kept_group keeps) inside kept.0 kept.1 in
      Contains-flat_map (λ (ws : List (List Step)). ws) inside group.0 w group.1
      (kept_of_group group.0 kept.0 group.2 w kept.2)

  -- where each walk is kept, all are
  all_of_filter : (ws : List (List Step)) → ((w : List Step) → Contains ws w → keeps w ≡ true) → filter keeps ws ≡ ws
  all_of_filter ws each = filter-same keeps (λ w. true) ws each ∙ filter-all ws

  all_of_groups : (inside : List (List (List Step))) →
      ((w : List Step) → Contains (walks_of inside) w → keeps w ≡ true) →
      walks_of (flat_map (kept_group keeps) inside) ≡ walks_of inside
  all_of_groups [] each = refl
  all_of_groups ([] ∷ gs) each = all_of_groups gs each
  all_of_groups ((o ∷ hs) ∷ gs) each =
      ap (λ t. walks_of (cond t ((o ∷ filter keeps hs) ∷ []) [] ++ flat_map (kept_group keeps) gs))
      (each o (of_group o (Contains-head o hs)))
      ∙ ap₂ (λ xs ys. (o ∷ xs) ++ ys) (all_of_filter hs (λ w c. each w (of_group w (Contains-later o hs w c))))
      (all_of_groups gs (λ w c. let found = Contains-from_flat_map (λ (ws : List (List Step)). ws) gs w c in
      each w (Contains-flat_map (λ (ws : List (List Step)). ws) ((o ∷ hs) ∷ gs) found.0 w
      (Contains-later (o ∷ hs) gs found.0 found.1) found.2)))
    where
      of_group : (w : List Step) → Contains (o ∷ hs) w → Contains (walks_of ((o ∷ hs) ∷ gs)) w
      of_group w c = Contains-flat_map (λ (ws : List (List Step)). ws) ((o ∷ hs) ∷ gs) (o ∷ hs) w
          (Contains-head (o ∷ hs) gs) c

  pub all_walks_kept : (inside : List (List (List Step))) (others : List (List Step)) →
      ((w : List Step) → Contains (walks_of inside) w → keeps w ≡ true) →
      ((w : List Step) → Contains others w → keeps w ≡ true) → kept_walks inside others ≡ walks_of inside ++ others
  all_walks_kept inside others of_inside of_others = ap₂ (λ xs ys. xs ++ ys) (all_of_groups inside of_inside)
      (all_of_filter others of_others)
