-- With the minimum area zero the type in which areas are summed does not count: the result is the same at each width.
use Rattle.std.proofs.Common.{◌≡◌, ◌/◌, ◌&&◌, ℕ, Bool, true, List, length, ap, sym, subst, ◌∙◌}
use Rattle.std.proofs.Math.Dec.{leb-zero}
use Rattle.std.specs.Int.{Width, int_wrap}
use Rattle.std.specs.List.{filter}
use Rattle.std.specs.Prelude.{nat_abs, nat_le}
use Rattle.overlay_geom.specs.Edges.{CountedEdge}
use Rattle.overlay_geom.specs.Plane.{Point, Step, points_of}
use Rattle.overlay_geom.specs.declared.fill_rule.FillRule.{FillRule}
use Rattle.overlay_geom.specs.declared.options.ContourDirection.{ContourDirection}
use Rattle.overlay_extract.specs.PlacedResults.{IsHierarchy}
use Rattle.overlay_extract.specs.Results.{Asked, IsResult, filled_asked, selected_of}
use Rattle.overlay_extract.specs.Sliced.{IsSliced}
use Rattle.overlay_extract.specs.Slices.{AreSliceContours}
use Rattle.overlay_plane.specs.Islands.{ChildLink}
use Rattle.overlay_plane.specs.BoundContours.{walks_in}
use Rattle.overlay_plane.specs.MinimumArea.{double_area, reaches}
use Rattle.overlay_plane.specs.RoledContours.{IsCutBy}

-- no area is below zero
area_reaches : (width : Width) (walk : List Step) →
    nat_le 0 (nat_abs (int_wrap width (double_area (points_of walk))) / 2) ≡ true
area_reaches width walk = leb-zero (nat_abs (int_wrap width (double_area (points_of walk))) / 2)

reach_same : (v w : Width) → reaches v 0 ≡ reaches w 0
reach_same v w = λ i walk. one walk i
  where
    one : (walk : List Step) → reaches v 0 walk ≡ reaches w 0 walk
    one walk = ap (λ b. nat_le 3 (length walk) && b) (area_reaches v walk ∙ sym (area_reaches w walk))

-- a fact of the test at one width is one of the test at another
pub reaches_so : (v w : Width) (m n : ℕ) → m ≡ 0 → n ≡ 0 → (P : (List Step → Bool) → Type 0) → P (reaches v m) →
    P (reaches w n)
reaches_so v w m n zero zero' P holds = subst (λ k. P (reaches w k)) (sym zero')
    (subst P (reach_same v w) (subst (λ k. P (reaches v k)) zero holds))

-- the query at another width
abbrev pub at_width : Asked → ℕ → Width → Asked
at_width q min width = record {
  fill = q.fill;
  rule = q.rule;
  output_direction = q.output_direction;
  preserve_output_collinear = q.preserve_output_collinear;
  ogc = q.ogc;
  min_output_area = min;
  area_width = width;
}

module _ (q : Asked) (min : ℕ) (width : Width) (zero : q.min_output_area ≡ 0) (zero' : min ≡ 0)
    (es : List CountedEdge) where
  abbrev pub result_at_width : (result : List (List (List Point))) → IsResult q es result →
      IsResult (at_width q min width) es result
  result_at_width result r = record {
    winds = λ _. r.winds zero;
    each_alone = λ _. r.each_alone zero;
    contours = r.contours;
    cut = reaches_so q.area_width width q.min_output_area min zero zero'
        (λ kept. IsCutBy q.ogc (filled_asked q) kept (selected_of q es) r.contours) r.cut;
    shapes = r.shapes;
    found = r.found;
    shown = r.shown;
    none_lost = λ _. r.none_lost zero;
    each_once = λ _. r.each_once zero;
    kept_each_once = λ _ kept. r.kept_each_once zero kept;
    points_once = r.points_once;
    shown_points_once = r.shown_points_once;
  }

  pub hierarchy_at_width : (result : List (List (List Point))) (links : List ChildLink) →
      IsHierarchy q es result links → IsHierarchy (at_width q min width) es result links
  hierarchy_at_width result links h = record {
    is_result = result_at_width result h.is_result;
    are_links = h.are_links;
    children = h.children;
  }

-- slices without a minimum
pub slices_at_width : (v w : Width) (fill : FillRule) (direction : ContourDirection) (es : List CountedEdge)
    (result : List (List (List Point))) → IsSliced v 0 fill direction es result → IsSliced w 0 fill direction es result
slices_at_width v w fill direction es result s = record {
  winds = s.winds;
  each_alone = s.each_alone;
  contours = s.contours;
  shapes = s.shapes;
  slices = record {
    contours_are = record {
      loops = are.loops;
      cut = are.cut;
      found = are.found;
      kept = subst (λ f. walks_in s.contours ≡ filter f are.loops) (reach_same v w) are.kept;
      roles = are.roles;
    };
    bound = s.slices.bound;
  };
  shown = s.shown;
  are_sides = s.are_sides;
  at_most_once = s.at_most_once;
  one_orbit = s.one_orbit;
  points_once = s.points_once;
  roles = s.roles;
  none_lost = s.none_lost;
  missing = s.missing;
  balanced = s.balanced;
}
  where
    are : AreSliceContours v 0 fill es s.contours
    are = s.slices.contours_are
