-- Each hole has a parent. Its next walk is anchored before it, so by the order of anchors that is an outline, or a hole
-- with a parent.
use Rattle.std.proofs.Common.{◌≡◌, ℕ, Bool, true, false, ◌&&◌, ℤ, List, Contains, All, Option, Some, length, refl}
use Rattle.std.proofs.Common.{sym, ap, subst}
use Rattle.std.specs.List.{slice_get}
use Rattle.std.proofs.lemmas.Bool.{and_from}
use Rattle.std.proofs.lemmas.Option.{slice_get_read}
use Rattle.overlay_geom.specs.Plane.{Step, Edge}
use Rattle.overlay_geom.specs.Edges.{CountedEdge, ends_of, all_ends}
use Rattle.overlay_plane.specs.SelectedSteps.{selected_steps}
use Rattle.overlay_plane.specs.Contours.{outline_or_hole_hand, IsContour}
use Rattle.overlay_plane.specs.Anchors.{IsAnchor, is_anchored_before}
use Rattle.overlay_plane.specs.Binding.{is_hole, AreCutFrom, IsNextWalk, HasNextAt, IsFoundBelow}
use Rattle.overlay_plane.specs.Binding.IsFoundBelow.{direct, through}
use Rattle.overlay_plane.specs.BoundContours.{known_in}
use Rattle.overlay_plane.specs.KeptContours.{AreKeptContours}
use Rattle.overlay_plane.specs.Parents.{HolesHaveParents}
use Rattle.overlay_plane.specs.RoledContours.{Contour, contours_from, hole_to_bind}
use Rattle.overlay_plane.specs.Turn.{Hand}
use Rattle.overlay_plane.proofs.Anchors.{anchors_exist}
use Rattle.overlay_plane.proofs.AnchorOrder.{leads_forward, comes_before, comes_before-itself, comes_before-transitive}
use Rattle.overlay_plane.proofs.BelowHoles.{anchor_of_list}
use Rattle.overlay_plane.proofs.ClosedWalks.{cuts_are_contours}
use Rattle.overlay_plane.proofs.CutWindings.{selected_alternate}
use Rattle.overlay_plane.proofs.Entries.{Contains-map}
use Rattle.overlay_plane.proofs.FilledEdges.{selected_follow}
use Rattle.overlay_plane.proofs.FreeHoles.{found_for_all}
use Rattle.overlay_plane.proofs.ListInduction.{by_lower_entries}
use Rattle.overlay_plane.proofs.NextAnchors.{next_is_anchored_before}
use Rattle.overlay_plane.proofs.NextOfHoles.{next_of_hole}
use Rattle.overlay_plane.proofs.PlacesOfContours.{Contains-place, known_at}
use Rattle.overlay_plane.proofs.RoledShapes.{walks_from}
use Rattle.overlay_plane.proofs.RoledWalks.{number_at, hole_at}
use Rattle.overlay_plane.proofs.SplitLists.{filter-all}
use Rattle.overlay_plane.proofs.WalksApart.{own_walk, have_selected}
use Rattle.overlay_plane.proofs.WalksOfCuts.{IsEdgeOf, edge_forward}

module _ (holds : ℤ → ℤ → Bool) (subj clip : CountedEdge → ℤ) (es : List CountedEdge) (filled : Hand)
    (walks : List (List Step))
    (cut : AreCutFrom holds subj clip es filled walks) where
  -- the walks as contours, and the numbers known of them
  abbrev roled : List Contour
  roled = contours_from filled 0 walks

  abbrev known : List (Option ℕ)
  known = known_in roled

  -- a shape is found for the hole at a place
  abbrev HasParent : ℕ → Type 0
  HasParent i = (n : ℕ) × IsFoundBelow filled walks known i (Some n)

  -- it is for each hole with this anchor
  abbrev HaveParents : Edge → Type 0
  HaveParents anchor = (i : ℕ) (hole : List Step) → slice_get walks i ≡ Some hole → is_hole filled hole ≡ true →
      IsAnchor hole anchor → HasParent i

  -- all walks are contours
  contours : All IsContour walks
  contours = cuts_are_contours (outline_or_hole_hand filled) (selected_steps holds subj clip filled es)
      (selected_alternate holds subj clip es cut.ruled filled) walks cut.cut

  -- an anchor is an edge of the list
  anchor_listed : (walk : List Step) → Contains walks walk → (e : Edge) → IsAnchor walk e → IsEdgeOf es e
  anchor_listed = anchor_of_list holds subj clip es filled walks
      (selected_follow holds subj clip es filled walks (have_selected holds subj clip es filled walks cut))

  -- where the holes with an anchor before this one have parents, so do those with this one
  by_next : (anchor : Edge) → ((e : Edge) → Contains (all_ends es) e → comes_before e anchor ≡ true → HaveParents e) →
      HaveParents anchor
  by_next anchor earlier i hole at is anchored = by (is_hole filled next) refl
    where
      in_walks : Contains walks hole
      in_walks = Contains-place walks i hole at

      found : (next : List Step) × (n : IsNextWalk filled walks hole next) × (n.anchor ≡ anchor)
      found = next_of_hole holds subj clip es filled walks cut hole in_walks anchor anchored is

      next : List Step
      next = found.0

      is_next : IsNextWalk filled walks hole next
      is_next = found.1

      -- the place of the next walk
      j : ℕ
      j = is_next.kept.0

      next_at : slice_get walks j ≡ Some next
      next_at = slice_get_read walks (length walks) j next refl is_next.kept.1 (sym is_next.kept.2)

      has_next : HasNextAt filled walks i j
      has_next = record { walk = hole; at = at; next = next; next_at = next_at; is_next = is_next }

      by : (t : Bool) → is_hole filled next ≡ t → HasParent i
      by false outline = let number = number_at filled 0 walks j next next_at outline in
          (number.0, direct has_next number.1)
      by true also =
          let own = anchors_exist next (own_walk holds subj clip es filled walks cut next is_next.kept).contour in
          let of_list = anchor_listed next is_next.kept own.0 own.1 in
          let before = subst (λ (a : Edge). is_anchored_before own.0 a ≡ true) found.2
          (next_is_anchored_before filled walks contours hole next in_walks is_next own.0 own.1) in
          let rest = earlier own.0 (subst (λ (e : Edge). Contains (all_ends es) e) (sym of_list.ends)
          (Contains-map ends_of es of_list.entry of_list.among))
          (and_from (is_anchored_before own.0 anchor) (leads_forward own.0 && leads_forward anchor) before
          (and_from (leads_forward own.0) (leads_forward anchor)
          (edge_forward holds subj clip es cut.ruled own.0 of_list)
          (edge_forward holds subj clip es cut.ruled anchor (anchor_listed hole in_walks anchor anchored)))) j next
          next_at also own.1 in
          let unknown = known_at roled j (hole_to_bind next) (hole_at filled 0 walks j next next_at also) in
          (rest.0, through {found = Some rest.0} has_next unknown rest.1)

  -- each hole has a parent
  parent_of_hole : (i : ℕ) (hole : List Step) → slice_get walks i ≡ Some hole → is_hole filled hole ≡ true → HasParent i
  parent_of_hole i hole at is =
      let own = anchors_exist hole
      (own_walk holds subj clip es filled walks cut hole (Contains-place walks i hole at)).contour in
      by_lower_entries comes_before comes_before-itself comes_before-transitive (all_ends es) HaveParents by_next own.0
      i hole at is own.1

  -- all contours, all kept
  all_kept : AreKeptContours holds subj clip es filled false (λ w. true) roled
  all_kept = record {
    ruled = cut.ruled;
    cut = record { walks = walks; cut = cut.cut; are = ap (contours_from filled 0) (sym (filter-all walks)) };
  }

-- each hole has a parent, and is none that has no parent
pub holes_have_parents : HolesHaveParents
holes_have_parents holds subj clip es filled walks cut i hole at is = (
  subst (λ ws. (n : ℕ) × IsFoundBelow filled ws (known_in (contours_from filled 0 walks)) i (Some n))
      (sym (walks_from filled 0 walks)) (parent_of_hole holds subj clip es filled walks cut i hole at is),
  λ none. found_for_all holds subj clip es filled false (λ w. true) (contours_from filled 0 walks)
      (all_kept holds subj clip es filled walks cut) (λ w contour. refl) i none (hole_to_bind hole)
      (hole_at filled 0 walks i hole at is) refl,
)
