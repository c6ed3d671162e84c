-- The edges that the paths of a shape and open strings give: what all points have both ends of each have, it leads
-- forward, and a line between two points gives one with a mark.
use Rattle.std.proofs.Common.{◌≡◌, ⊎_elim, true, false, cond, List, [], ◌∷◌, Contains, map}
use Rattle.std.proofs.Common.{sym, ap, subst}
use Rattle.std.specs.List.{All}
use Rattle.std.proofs.lemmas.Bool.{both_ways, false_from_ne_true}
use Rattle.std.proofs.lemmas.List.Elements.{All-nil, All-head, All-tail, All-append, All-map, All-weaker}
use Rattle.std.proofs.lemmas.List.Elements.{Contains-append_left, Contains-append_right}
use Rattle.overlay_geom.specs.Plane.{Point, Step, point_lt, point_eq, steps_of, path_steps}
use Rattle.overlay_geom.specs.Plane.{steps_between}
use Rattle.overlay_geom.specs.Edges.{CountedEdge, ends_of, subject_edge}
use Rattle.overlay_geom.proofs.Orders.{point_eq-same, point_lt-itself}
use Rattle.overlay_plane.proofs.EdgesOfSteps.{edge_by}
use Rattle.overlay_plane.proofs.Entries.{Contains-map}
use Rattle.overlay_plane.proofs.LaterEntries.{Contains-cases}
use Rattle.overlay_plane.proofs.LinksKept.{IsBetweenGood}
use Rattle.overlay_plane.proofs.Totals.{Contains-head}
use Rattle.overlay_builder.specs.PathLists.{AddedPath, AddsOne, AddsPaths, HoldsPaths}
use Rattle.overlay_builder.specs.PathLists.AddsPaths.{no_path, path_and_others}
use Rattle.overlay_string.specs.OneShot.{shape_and_strings}
use Rattle.overlay_string.specs.StringPaths.{string_edge, shape_contour, shape_contours, open_string, open_strings}
use Rattle.overlay_tiles.proofs.CoveredByGrid.{IsLineEdge}
use Rattle.overlay_tiles.proofs.PointsOnSteps.{thinned_all, on_path, on_contour, IsGoodEdge, good_edge}

module _ (P : Point → Type 0) where
  -- both ends of the edge have it, and it leads forward
  abbrev pub IsGood : CountedEdge → Type 0
  IsGood e = IsGoodEdge P (ends_of e)

  -- a path of such points adds such edges
  record KeepsGood (p : AddedPath CountedEdge) : Type 0 where
    pub keeps : (old new : List CountedEdge) → AddsOne p old new → All IsGood old → All IsGood new

  contour_keeps : (ps : List Point) → All P ps → KeepsGood (shape_contour ps)
  contour_keeps ps all = record {
    keeps = λ old new h before. subst (All IsGood) (sym h.content)
        (All-append IsGood old (map subject_edge (steps_of h.taken)) before
        (All-map IsGood subject_edge (steps_of h.taken)
        (All-weaker (IsBetweenGood P) (λ s. IsGood (subject_edge s)) (λ s good. good_edge P s good) (steps_of h.taken)
        (on_contour P h.taken (thinned_all P ps h.taken h.is_taken all)))));
  }

  string_keeps : (ps : List Point) → All P ps → KeepsGood (open_string ps)
  string_keeps ps all = record {
    keeps = λ old new h before. subst (All IsGood) (sym h.content)
        (All-append IsGood old (map string_edge (path_steps h.taken)) before
        (All-map IsGood string_edge (path_steps h.taken)
        (All-weaker (IsBetweenGood P) (λ s. IsGood (string_edge s)) (λ s good. good_edge P s good) (path_steps h.taken)
        (on_path P h.taken (subst (All P) (sym h.is_taken) all)))));
  }

  contours_keep : (paths : List (List Point)) → All (All P) paths → All KeepsGood (shape_contours paths)
  contours_keep paths all = All-map KeepsGood shape_contour paths
      (All-weaker (All P) (λ ps. KeepsGood (shape_contour ps))
      contour_keeps paths all)

  strings_keep : (paths : List (List Point)) → All (All P) paths → All KeepsGood (open_strings paths)
  strings_keep paths all = All-map KeepsGood open_string paths (All-weaker (All P) (λ ps. KeepsGood (open_string ps))
      string_keeps paths all)

  paths_keep : (all : List (AddedPath CountedEdge)) (from to : List CountedEdge) → All KeepsGood all →
      AddsPaths all from to → All IsGood from → All IsGood to
  paths_keep all from to keep no_path before = before
  paths_keep all from to keep (path_and_others {p} {ps} {mid} first h) before =
      paths_keep ps mid to (All-tail KeepsGood p ps keep) h ((All-head KeepsGood p ps keep).keeps from mid first before)

  -- so the whole content is of such edges
  pub content_good : (paths lines : List (List Point)) (content : List CountedEdge) →
      HoldsPaths (shape_and_strings paths lines) content → All (All P) paths → All (All P) lines → All IsGood content
  content_good paths lines content holds all_paths all_lines =
      paths_keep (shape_and_strings paths lines) [] content
      (All-append KeepsGood (shape_contours paths) (open_strings lines) (contours_keep paths all_paths)
      (strings_keep lines all_lines)) holds.added (All-nil IsGood)

-- ---- the edges of lines

-- what one path adds is there after all
abbrev IsAdded : AddedPath CountedEdge → List CountedEdge → Type 0
IsAdded p to = (old : List CountedEdge) × (new : List CountedEdge) × AddsOne p old new
    × ((e : CountedEdge) → Contains new e → Contains to e)

grows : (all : List (AddedPath CountedEdge)) (from to : List CountedEdge) → AddsPaths all from to →
    (e : CountedEdge) → Contains from e → Contains to e
grows all from to no_path e c = c
grows all from to (path_and_others {p} {ps} {mid} first h) e c =
    grows ps mid to h e (subst (λ es. Contains es e) (sym first.content) (Contains-append_left from _ e c))

is_added : (all : List (AddedPath CountedEdge)) (from to : List CountedEdge) → AddsPaths all from to →
    (p : AddedPath CountedEdge) → Contains all p → IsAdded p to
is_added all from to no_path p c = absurd (elim c.1 [ ])
is_added all from to (path_and_others {p = q} {ps = ps} {mid = mid} first h) p c = ⊎_elim
    (λ is. (from, mid, subst (λ r. AddsOne r from mid) is first, grows ps mid to h))
    (λ later. is_added ps mid to h p later) (Contains-cases q ps p c)

-- a line between two points, the first one smaller, gives an edge with a mark
pub line_edge : (paths lines : List (List Point)) (content : List CountedEdge) →
    HoldsPaths (shape_and_strings paths lines) content → (p q : Point) → Contains lines (p ∷ q ∷ []) →
    point_lt p q ≡ true → IsLineEdge content p q
line_edge paths lines content holds p q c before = record {
  edge = string_edge s;
  entry = added.3 (string_edge s) (subst (λ es. Contains es (string_edge s)) (sym added.2.content)
      (Contains-append_right added.0 _ (string_edge s)
      (Contains-map string_edge (path_steps added.2.taken) s
      (subst (λ ps. Contains (path_steps ps) s) (sym added.2.is_taken) one_step))));
  ends = ap (λ t. edge_by t s) before;
  marked = before;
}
  where
    s : Step
    s = record { from = p; to = q }

    added : IsAdded (open_string (p ∷ q ∷ [])) content
    added = is_added (shape_and_strings paths lines) [] content holds.added (open_string (p ∷ q ∷ []))
        (Contains-append_right (shape_contours paths) (open_strings lines) (open_string (p ∷ q ∷ []))
        (Contains-map open_string lines (p ∷ q ∷ []) c))

    apart : point_eq p q ≡ false
    apart = false_from_ne_true (point_eq p q) (λ same. both_ways (point_lt p p) (point_lt-itself p)
        (subst (λ (r : Point). point_lt p r ≡ true) (sym (point_eq-same p q same)) before))

    one_step : Contains (path_steps (p ∷ q ∷ [])) s
    one_step = Contains-append_left (steps_between p q) [] s
        (subst (λ t. Contains (cond t [] (s ∷ [])) s) (sym apart) (Contains-head s []))
