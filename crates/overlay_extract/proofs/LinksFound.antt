-- The links that follow from the holes round outlines are exactly the links of the contours, and no two have one child.
use Rattle.std.proofs.Common.{◌≡◌, ⊎_elim, ℕ, zero, suc, ◌+◌, ◌<◌, ◌==◌, true, false, List, [], ◌∷◌, ◌++◌, All}
use Rattle.std.proofs.Common.{AllPairs}
use Rattle.std.proofs.Common.{Contains, Option, Some, None, get_or, length, refl, sym, ap, ◌∙◌, subst, arith}
use Rattle.std.proofs.Common.{append_assoc, append-nil}
use Rattle.std.specs.Prelude.{slice_index_or, IfSome}
use Rattle.std.specs.List.{AllZip, slice_get}
use Rattle.std.specs.List.Sorted.{IsPermutation}
use Rattle.std.proofs.lemmas.Bool.{both_ways, eqb-true, eq-eqb, false_from_ne_true, false≢true}
use Rattle.std.proofs.lemmas.List.Elements.{Contains-append_left, Contains-append_right, Contains-append_cases}
use Rattle.std.proofs.lemmas.List.Sorted.{All-permutation, Contains-permutation}
use Rattle.std.proofs.lemmas.Option.{none-some, slice_get_within, slice_get-get_or}
use Rattle.overlay_plane.specs.BoundContours.{walks_in, known_in}
use Rattle.overlay_plane.specs.Islands.{ChildLink, link_lt, AreInShapes, IsLink, AreLinks, IsHoleRound}
use Rattle.overlay_plane.specs.Islands.{AreHolesRound, outlines_from}
use Rattle.overlay_plane.specs.KeptContours.{CanBeBound}
use Rattle.overlay_plane.specs.RoledContours.{Role, outline, own_hole, free_hole, Contour, is_outline, stands_in}
use Rattle.overlay_plane.specs.Turn.{Hand}
use Rattle.overlay_plane.proofs.Entries.{all_of_entries}
use Rattle.overlay_plane.proofs.LaterEntries.{Each, AllPairs-from_each, Contains-cases}
use Rattle.overlay_plane.proofs.OneHoleRound.{one_hole_round, hole_and_none}
use Rattle.overlay_plane.proofs.PlacesOfContours.{known_at}
use Rattle.std.proofs.lemmas.Option.{same_Some}
use Rattle.overlay_plane.proofs.ShapeLinks.{outline_of_number, number_of, hole_stands, place_of_child}
use Rattle.overlay_plane.proofs.ShuffledPairs.{pairs_shuffled}
use Rattle.overlay_plane.proofs.Totals.{Contains-head}
use Rattle.overlay_extract.specs.ChildLinks.{has_same_child, HaveOtherChildren}
use Rattle.overlay_extract.specs.Links.{link_to, link_at, one_or_none, links_from}
use Rattle.overlay_extract.proofs.LinkOrder.{link_lt-back}

-- ---- two lists place by place

module _ {A B : Type 0} (R : A → B → Type 0) where
  -- the entry of the second list at a place of the first
  pub second_at : (xs : List A) (ys : List B) → AllZip R xs ys → (j : ℕ) (x : A) → slice_get xs j ≡ Some x →
      (y : B) × (slice_get ys j ≡ Some y) × R x y
  second_at [] ys each j x at = absurd (none-some x at)
  second_at (w ∷ ws) [] each j x at = absurd each
  second_at (w ∷ ws) (z ∷ zs) each zero x at = (z, refl, subst (λ v. R v z) (same_Some w x at) each.0)
  second_at (w ∷ ws) (z ∷ zs) each (suc j) x at = second_at ws zs each.1 j x at

  -- the entry of the first list at a place of the second
  pub first_at : (xs : List A) (ys : List B) → AllZip R xs ys → (j : ℕ) (y : B) → slice_get ys j ≡ Some y →
      (x : A) × (slice_get xs j ≡ Some x) × R x y
  first_at [] [] each j y at = absurd (none-some y at)
  first_at [] (z ∷ zs) each j y at = absurd each
  first_at (w ∷ ws) [] each j y at = absurd each
  first_at (w ∷ ws) (z ∷ zs) each zero y at = (w, refl, subst (R w) (same_Some z y at) each.0)
  first_at (w ∷ ws) (z ∷ zs) each (suc j) y at = first_at ws zs each.1 j y at

-- ---- links and the holes from which they follow

-- the link of a shape to a contour, by the shape in which that one stands
pub link_there : (cs : List Contour) (child place : ℕ) (c : Contour) → slice_get cs place ≡ Some c →
    (shape : Option ℕ) → shape ≡ stands_in c.role → link_to child place shape ≡ link_at cs child (Some place)
link_there cs child place c at shape is = ap (link_to child place) (is ∙ sym (known_at cs place c at))

-- the link read of the hole at a place
pub record IsReadAt (cs : List Contour) (n : ℕ) (holes : List (Option ℕ)) (l : ChildLink) : Type 0 where
  pub place : ℕ
  pub hole : slice_get holes place ≡ Some (Some l.parent_contour)
  pub child : l.child_shape ≡ n + place
  pub parent : slice_index_or (known_in cs) l.parent_contour None ≡ Some l.parent_shape

module _ (cs : List Contour) where
  -- of one hole
  read_here : (n : ℕ) (hole : Option ℕ) (holes : List (Option ℕ)) (l : ChildLink) →
      Contains (one_or_none (link_at cs n hole)) l → IsReadAt cs n (hole ∷ holes) l
  read_here n None holes l c = absurd (elim c.1 [ ])
  read_here n (Some k) holes l c = by (slice_index_or (known_in cs) k None) refl c
    where
      by : (shape : Option ℕ) → slice_index_or (known_in cs) k None ≡ shape →
          Contains (one_or_none (link_to n k shape)) l → IsReadAt cs n (Some k ∷ holes) l
      by None is at = absurd (elim at.1 [ ])
      by (Some m) is at = ⊎_elim
          (λ same. record {
            place = 0;
            hole = ap (λ (x : ChildLink). Some (Some x.parent_contour)) same;
            child = let here = ap (λ (x : ChildLink). x.child_shape) same in omega (arith, here);
            parent = ap (λ (x : ChildLink). slice_index_or (known_in cs) x.parent_contour None) (sym same) ∙ is
                ∙ ap (λ (x : ChildLink). Some x.parent_shape) same;
          })
          (λ later. absurd (elim later.1 [ ]))
          (Contains-cases (record { parent_shape = m; parent_contour = k; child_shape = n }) [] l at)

  -- each link is read of a hole
  pub read_of : (n : ℕ) (holes : List (Option ℕ)) (l : ChildLink) → Contains (links_from cs n holes) l →
      IsReadAt cs n holes l
  read_of n [] l c = absurd (elim c.1 [ ])
  read_of n (hole ∷ holes) l c = ⊎_elim (read_here n hole holes l)
      (λ later. let rest = read_of (suc n) holes l later in record {
        place = suc rest.place;
        hole = rest.hole;
        child = let child = rest.child in omega (arith, child);
        parent = rest.parent;
      })
      (Contains-append_cases (one_or_none (link_at cs n hole)) (links_from cs (suc n) holes) l c)

  -- the entry read for a hole is a link
  pub link_read : (n : ℕ) (holes : List (Option ℕ)) (l : ChildLink) → IsReadAt cs n holes l →
      Contains (links_from cs n holes) l
  link_read n [] l read = absurd (none-some (Some l.parent_contour) read.hole)
  link_read n (hole ∷ holes) l read = by read.place read.hole read.child (link_read (suc n) holes l)
    where
      by : (j : ℕ) → slice_get (hole ∷ holes) j ≡ Some (Some l.parent_contour) → l.child_shape ≡ n + j →
          (IsReadAt cs (suc n) holes l → Contains (links_from cs (suc n) holes) l) →
          Contains (links_from cs n (hole ∷ holes)) l
      by zero at child later =
          let here : n ≡ l.child_shape = omega (arith, child) in
          Contains-append_left (one_or_none (link_at cs n hole)) (links_from cs (suc n) holes) l
          (subst (λ (o : Option ChildLink). Contains (one_or_none o) l)
          (sym (ap (link_at cs n) (same_Some hole (Some l.parent_contour) at)
          ∙ ap (link_to n l.parent_contour) read.parent
          ∙ ap (λ k. link_to k l.parent_contour (Some l.parent_shape)) here))
          (Contains-head l []))
      by (suc j) at child later = Contains-append_right (one_or_none (link_at cs n hole))
          (links_from cs (suc n) holes) l
          (later (record { place = j; hole = at; child = omega (arith, child); parent = read.parent }))

  -- ---- children

  -- the two links have different children
  abbrev pub AreApart : ChildLink → ChildLink → Type 0
  AreApart k l = has_same_child k l ≡ false

  -- the child of the first
  child_here : (n : ℕ) (hole : Option ℕ) (l : ChildLink) → link_at cs n hole ≡ Some l → l.child_shape ≡ n
  child_here n None l is = absurd (none-some l is)
  child_here n (Some k) l is = by (slice_index_or (known_in cs) k None) is
    where
      by : (shape : Option ℕ) → link_to n k shape ≡ Some l → l.child_shape ≡ n
      by None at = absurd (none-some l at)
      by (Some m) at = ap (λ (x : ChildLink). x.child_shape) (sym (same_Some _ l at))

  -- no two of them
  children_differ : (n : ℕ) (holes : List (Option ℕ)) → Each AreApart (links_from cs n holes)
  children_differ n [] = tt
  children_differ n (hole ∷ holes) = by (link_at cs n hole) refl (children_differ (suc n) holes)
    where
      by : (o : Option ChildLink) → link_at cs n hole ≡ o → Each AreApart (links_from cs (suc n) holes) →
          Each AreApart (one_or_none o ++ links_from cs (suc n) holes)
      by None is rest = rest
      by (Some l) is rest = (
        λ k later. false_from_ne_true (l.child_shape == k.child_shape) (λ same.
            let here = child_here n hole l is in
            let other = (read_of (suc n) holes k later).child in
            let equal = eqb-true l.child_shape k.child_shape same in omega (arith, here, other, equal)),
        rest,
      )

  -- one link more
  pub links_more : (n : ℕ) (holes : List (Option ℕ)) (hole : Option ℕ) → links_from cs n (holes ++ hole ∷ [])
      ≡ links_from cs n holes ++ one_or_none (link_at cs (n + length holes) hole)
  links_more n [] hole =
      let same : n ≡ n + 0 = omega arith in
      append-nil (one_or_none (link_at cs n hole)) ∙ ap (λ k. one_or_none (link_at cs k hole)) same
  links_more n (h ∷ hs) hole =
      let same : suc n + length hs ≡ n + suc (length hs) = omega arith in
      ap (λ ls. one_or_none (link_at cs n h) ++ ls) (links_more (suc n) hs hole)
      ∙ sym (append_assoc (one_or_none (link_at cs n h)) (links_from cs (suc n) hs)
      (one_or_none (link_at cs (suc n + length hs) hole)))
      ∙ ap (λ k. (one_or_none (link_at cs n h) ++ links_from cs (suc n) hs) ++ one_or_none (link_at cs k hole)) same

-- ---- the places of holes

-- each is one of a contour
pub holes_inside : (filled : Hand) (cs : List Contour) (holes : List (Option ℕ)) → AreHolesRound filled cs holes →
    All (λ hole. IfSome hole (λ k. k < length cs)) holes
holes_inside filled cs holes round j d inside =
    let found = first_at (IsHoleRound filled cs) (outlines_from 0 cs) holes round j (get_or holes j d)
    (slice_get-get_or holes j d inside) in by found.0 (get_or holes j d) found.2
  where
    by : (p : ℕ) (hole : Option ℕ) → IsHoleRound filled cs p hole → IfSome hole (λ k. k < length cs)
    by p None is = tt
    by p (Some k) is = let stands = hole_stands filled cs p k is in slice_get_within cs k stands.contour stands.at

-- ---- of contours that stand in shapes

-- a hole that stands in a shape is one of its outline's group
hole_of_shape : (r : Role) (m : ℕ) → is_outline r ≡ false → stands_in r ≡ Some m → r ≡ own_hole m
hole_of_shape (outline n) m is stands = absurd (false≢true (sym is))
hole_of_shape (own_hole n) m is stands = ap own_hole (same_Some n m stands)
hole_of_shape free_hole m is stands = absurd (none-some m stands)

module _ (filled : Hand) (cs : List Contour) (can : CanBeBound filled (walks_in cs)) (stand : AreInShapes cs)
    (holes : List (Option ℕ)) (round : AreHolesRound filled cs holes) where
  -- each entry read is a link
  pub links_are : (l : ChildLink) → Contains (links_from cs 0 holes) l → IsLink filled cs l
  links_are l c =
      let read = read_of cs 0 holes l c in
      let found = first_at (IsHoleRound filled cs) (outlines_from 0 cs) holes round read.place (Some l.parent_contour)
      read.hole in
      let island = outline_of_number 0 cs read.place found.0 found.1 in
      let own = island.2 in
      let number = number_of own.contour.role own.is in
      let own_child : read.place ≡ l.child_shape = (let child = read.child in omega (arith, child)) in
      let same : found.0 ≡ island.0 = (let place = island.1 in omega (arith, place)) in
      let round_it : IsHoleRound filled cs island.0 (Some l.parent_contour) =
      subst (λ p. IsHoleRound filled cs p (Some l.parent_contour)) same found.2 in
      let hole = hole_stands filled cs island.0 l.parent_contour round_it in
      record {
        place = island.0;
        island = own.contour;
        at = own.at;
        child = number.1 ∙ ap outline (stand.numbered island.0 number.0 own.contour own.at number.1 ∙ own.before
            ∙ own_child);
        hole = hole.contour;
        hole_at = hole.at;
        parent = hole_of_shape hole.contour.role l.parent_shape hole.is
            (sym (known_at cs l.parent_contour hole.contour hole.at) ∙ read.parent);
        round = round_it;
      }

  -- each link is read
  pub links_read : (l : ChildLink) → IsLink filled cs l → Contains (links_from cs 0 holes) l
  links_read l link =
      let found = second_at (IsHoleRound filled cs) (outlines_from 0 cs) holes round l.child_shape link.place
      (place_of_child filled cs stand l link) in
      by found.0 found.1 found.2
    where
      by : (hole : Option ℕ) → slice_get holes l.child_shape ≡ Some hole → IsHoleRound filled cs link.place hole →
          Contains (links_from cs 0 holes) l
      by None at none = absurd (hole_and_none filled cs can link.place l.parent_contour link.round none)
      by (Some k) at is = link_read cs 0 holes l (record {
        place = l.child_shape;
        hole = at ∙ ap (λ p. Some (Some p)) (one_hole_round filled cs can link.place k l.parent_contour is link.round);
        child = omega arith;
        parent = known_at cs l.parent_contour link.hole link.hole_at ∙ ap stands_in link.parent;
      })

  -- sorted they are the links
  module _ (links : List ChildLink) (moved : IsPermutation (links_from cs 0 holes) links)
      (in_order : AllPairs (λ k l. link_lt l k ≡ false) links) where
    pub children_once : HaveOtherChildren links
    children_once = pairs_shuffled has_same_child flips (links_from cs 0 holes) links moved
        (AllPairs-from_each (AreApart cs) (links_from cs 0 holes) (children_differ cs 0 holes))
      where
        flips : (k l : ChildLink) → has_same_child k l ≡ true → has_same_child l k ≡ true
        flips k l same = eq-eqb l.child_shape k.child_shape (sym (eqb-true k.child_shape l.child_shape same))

    pub are_links : AreLinks filled cs links
    are_links = record {
      ascending = λ i j d before inside. link_lt-back (get_or links i d) (get_or links j d)
          (λ same. both_ways (has_same_child (get_or links i d) (get_or links j d))
          (children_once i j d before inside)
          (eq-eqb (get_or links i d).child_shape (get_or links j d).child_shape (ap (λ (l : ChildLink). l.child_shape)
          same)))
          (in_order i j d before inside);
      are = All-permutation (IsLink filled cs) (links_from cs 0 holes) links moved
          (all_of_entries (IsLink filled cs) (links_from cs 0 holes) links_are);
      every = λ l link. Contains-permutation (links_from cs 0 holes) links l moved (links_read l link);
    }
