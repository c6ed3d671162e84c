-- What slicing answers is determined by the edges: the loops in their order, which of them are holes, the shapes to
-- which these are bound, and so the points that are shown.
use Rattle.std.proofs.Common.{◌≡◌, ℕ, suc, Bool, true, false, ℤ, List, ◌∷◌, map, length, Contains, All, filter}
use Rattle.std.proofs.Common.{refl, sym, ap, ap₂, ◌∙◌, subst, arith}
use Rattle.std.specs.Int.{Width}
use Rattle.std.proofs.lemmas.List.Elements.{All-contains, All-filter}
use Rattle.overlay_geom.specs.Plane.{Point, Step, reversed_step}
use Rattle.overlay_geom.specs.Edges.{CountedEdge, subj_of}
use Rattle.overlay_geom.specs.Rules.{is_filled}
use Rattle.overlay_geom.specs.declared.fill_rule.FillRule.{FillRule}
use Rattle.overlay_geom.specs.declared.options.ContourDirection.{ContourDirection}
use Rattle.overlay_geom.proofs.Entries.{same_head, same_tail}
use Rattle.overlay_plane.specs.BoundContours.{AreShapesFound, contours_bound, shapes_bound, walks_in}
use Rattle.overlay_plane.specs.Groups.{IsSimpleContour}
use Rattle.overlay_plane.specs.KeptContours.{CanBeBound}
use Rattle.overlay_plane.specs.MinimumArea.{reaches}
use Rattle.overlay_plane.specs.NextSteps.{LeadsOn}
use Rattle.overlay_plane.specs.Nodes.{IsBalancedArrangement}
use Rattle.overlay_plane.specs.RoledContours.{Contour, outline_of, hole_to_bind}
use Rattle.overlay_plane.specs.SelectedSteps.{step_with_left}
use Rattle.overlay_plane.specs.ShapeWindings.{points_of_shapes}
use Rattle.overlay_plane.specs.Turn.{Hand}
use Rattle.overlay_plane.specs.Turn.Hand.{left, right}
use Rattle.overlay_plane.proofs.Totals.{Contains-head, Contains-later}
use Rattle.overlay_plane.proofs.WalkedEdges.{one_anchor}
use Rattle.overlay_extract.proofs.OneBound.{one_bound}
use Rattle.overlay_extract.specs.Bound.{PassesAnchor, HaveRoles}
use Rattle.overlay_extract.specs.Bound.HaveRoles.{none, an_outline, a_hole}
use Rattle.overlay_extract.specs.ClosedWalks.{HasLength}
use Rattle.overlay_extract.specs.FilledSides.{filled_sides}
use Rattle.overlay_extract.specs.OneSlicing.{OneSlicing}
use Rattle.overlay_extract.specs.Sliced.{IsSliced, in_direction}
use Rattle.overlay_extract.specs.Slices.{AreSliceContours}
use Rattle.overlay_extract.specs.SlicingWalks.{by_hand, AreFoundInOrder}
use Rattle.overlay_extract.proofs.BoundLoops.{loops_can_be_bound}
use Rattle.overlay_extract.proofs.FoundLoops.{backs_listed}
use Rattle.overlay_extract.proofs.NextSides.{filled_sides_lead_on}
use Rattle.overlay_extract.proofs.OneWalk.{one_order}
use Rattle.overlay_extract.proofs.SideLists.{sides_listed}
use Rattle.overlay_extract.proofs.SideOnce.{filled_sides_once, filled_sides_long}
use Rattle.overlay_extract.proofs.SimpleLoops.{no_step_back}

-- ---- roles

-- no walk passes the edge of its anchor with the filled side above, and with it below
abbrev PassesOneWay : List (List Step) → Type 0
PassesOneWay walks = (w : List Step) → Contains walks w → PassesAnchor true w → ¬ (PassesAnchor false w)

one_way_of : (walks : List (List Step)) → CanBeBound left walks → All IsSimpleContour walks → PassesOneWay walks
one_way_of walks can simple w c above below =
    no_step_back w (All-contains IsSimpleContour walks w simple c) (step_with_left true above.anchor) above.passes
    (subst (λ e. Contains w (step_with_left false e)) (sym same) below.passes)
  where
    same : above.anchor ≡ below.anchor
    same = one_anchor walks can.contours can.single can.settled w c above.anchor below.anchor above.is_anchor
        below.is_anchor

-- so the walks tell the roles
one_role : (n : ℕ) (cs ds : List Contour) → PassesOneWay (walks_in cs) → walks_in cs ≡ walks_in ds → HaveRoles n cs →
    HaveRoles n ds → cs ≡ ds
one_role n cs ds one same none none = refl
one_role n cs ds one same none (an_outline p rest) = let long = ap length same in absurd (omega arith)
one_role n cs ds one same none (a_hole p rest) = let long = ap length same in absurd (omega arith)
one_role n cs ds one same (an_outline p rest) none = let long = ap length same in absurd (omega arith)
one_role n cs ds one same (a_hole p rest) none = let long = ap length same in absurd (omega arith)
one_role n cs ds one same (an_outline {loop = v} {rest = vs} p rest) (an_outline {loop = w} {rest = ws} q others) =
    ap₂ (λ x xs. outline_of n x ∷ xs) (same_head v w (walks_in vs) (walks_in ws) same)
    (one_role (suc n) vs ws (λ u c. one u (Contains-later v (walks_in vs) u c))
    (same_tail v w (walks_in vs) (walks_in ws) same) rest others)
one_role n cs ds one same (an_outline {loop = v} {rest = vs} p rest) (a_hole {loop = w} {rest = ws} q others) =
    absurd (one v (Contains-head v (walks_in vs)) p
    (subst (PassesAnchor false) (sym (same_head v w (walks_in vs) (walks_in ws) same)) q))
one_role n cs ds one same (a_hole {loop = v} {rest = vs} p rest) (an_outline {loop = w} {rest = ws} q others) =
    absurd (one v (Contains-head v (walks_in vs))
    (subst (PassesAnchor true) (sym (same_head v w (walks_in vs) (walks_in ws) same)) q) p)
one_role n cs ds one same (a_hole {loop = v} {rest = vs} p rest) (a_hole {loop = w} {rest = ws} q others) =
    ap₂ (λ x xs. hole_to_bind x ∷ xs) (same_head v w (walks_in vs) (walks_in ws) same)
    (one_role n vs ws (λ u c. one u (Contains-later v (walks_in vs) u c))
    (same_tail v w (walks_in vs) (walks_in ws) same) rest others)

-- ---- loops

module _ (fills : ℤ → Bool) (es : List CountedEdge) (arranged : IsBalancedArrangement subj_of es) where
  abbrev sides : List Step
  sides = filled_sides fills subj_of es

  lead_on : (hand : Hand) → LeadsOn (by_hand hand sides) hand
  lead_on left = filled_sides_lead_on fills subj_of es arranged left sides (sides_listed fills subj_of es arranged)
  lead_on right = filled_sides_lead_on fills subj_of es arranged right (map reversed_step sides)
      (backs_listed fills subj_of es arranged)

  long : (s : Step) → Contains sides s → ¬ (s.from ≡ s.to)
  long s c = All-contains HasLength sides s (filled_sides_long fills subj_of es arranged) c

  -- the loops that are found are one list
  one_list_found : (loops others : List (List Step)) → AreFoundInOrder sides loops → AreFoundInOrder sides others →
      loops ≡ others
  one_list_found loops others found found' = one_order sides long lead_on sides sides (λ s c. c)
      (filled_sides_once fills subj_of es arranged) (filled_sides_once fills subj_of es arranged)
      ((λ s c. c), (λ s c. c)) loops others found found'

-- ---- slices

module _ (width : Width) (min : ℕ) (fill : FillRule) (direction : ContourDirection) (es : List CountedEdge)
    (first second : List (List (List Point))) (a : IsSliced width min fill direction es first)
    (b : IsSliced width min fill direction es second) where
  abbrev of_a : AreSliceContours width min fill es a.contours
  of_a = a.slices.contours_are

  abbrev of_b : AreSliceContours width min fill es b.contours
  of_b = b.slices.contours_are

  same_kept : walks_in a.contours ≡ walks_in b.contours
  same_kept = of_a.kept
      ∙ ap (filter (reaches width min)) (one_list_found (is_filled fill) es a.balanced of_a.loops of_b.loops of_a.found
      of_b.found)
      ∙ sym of_b.kept

  can : CanBeBound left (walks_in a.contours)
  can = subst (CanBeBound left) (sym of_a.kept)
      (loops_can_be_bound (is_filled fill) subj_of es a.balanced of_a.loops of_a.cut (reaches width min))

  simple : All IsSimpleContour (walks_in a.contours)
  simple = subst (All IsSimpleContour) (sym of_a.kept)
      (All-filter (reaches width min) IsSimpleContour of_a.loops of_a.cut.simple)

  same_contours : a.contours ≡ b.contours
  same_contours = one_role 0 a.contours b.contours (one_way_of (walks_in a.contours) can simple) same_kept of_a.roles
      of_b.roles

  same_bound : shapes_bound (contours_bound a.contours a.shapes) ≡ shapes_bound (contours_bound b.contours b.shapes)
  same_bound = one_bound left a.contours can a.shapes b.shapes a.slices.bound
      (subst (λ cs. AreShapesFound left cs b.shapes) (sym same_contours) b.slices.bound)
      ∙ ap (λ cs. shapes_bound (contours_bound cs b.shapes)) same_contours

  one_result : first ≡ second
  one_result = a.shown ∙ ap (λ ss. map (map (in_direction direction)) (points_of_shapes ss)) same_bound ∙ sym b.shown

pub one_slicing : OneSlicing
one_slicing width min fill direction es first second a b = one_result width min fill direction es first second a b
