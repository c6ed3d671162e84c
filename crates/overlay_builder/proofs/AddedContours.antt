-- Paths added by the core of a builder, as contours of the subject or of the clip.
use Rattle.std.proofs.Common.{◌≡◌, Bool, true, false, cond, pos, negsuc, List, [], ◌∷◌, map, refl, ap, ap₂, subst, ◌∙◌}
use Rattle.std.specs.Prelude.{Result, Ok, Err}
use Rattle.overlay_geom.specs.Counts.{Counts}
use Rattle.overlay_geom.specs.Edges.{CountedEdge, AddsContour, weight}
use Rattle.overlay_geom.specs.Plane.{Point, Step, edge_of, is_forward}
use Rattle.overlay_geom.specs.declared.error.OverlayError.{OverlayError}
use Rattle.overlay_geom.specs.declared.options.ShapeType.{ShapeType}
use Rattle.overlay_plane.specs.Carried.{Carried, edges_in}
use Rattle.overlay_order.specs.Content.{count_for, edge_for, edge_with}
use Rattle.overlay_order.specs.Counts.{boolean_counts}
use Rattle.overlay_order.specs.declared.count.ShapeCountBoolean.{ShapeCountBoolean}
use Rattle.overlay_order.specs.declared.data.CountWithData.{CountWithData}
use Rattle.overlay_builder.specs.BuilderCalls.{AddsPathAsAsked, AddsContourAsAsked}
use Rattle.overlay_builder.specs.Held.{Held, plain_held}
use Rattle.overlay_builder.specs.Passing.{passing, passing_without_data}
use Rattle.overlay_builder.specs.PathLists.{carried_weight, path_as, paths_as, AddsAsAsked, WouldWeighTooMuch}
use Rattle.overlay_builder.specs.Paths.{AddsPath, contour_kind, count_of_step, passed_edge}
use Rattle.overlay_builder.specs.declared.path.PathKind.{PathKind}
use Rattle.overlay_builder.specs.declared.path.StepCounts.{StepCounts}
use Rattle.overlay_builder.proofs.BuilderCalls.{added_seen, refused_seen}
use Rattle.overlay_builder.proofs.Mapped.{seen, one_seen, heavy_seen, adding_seen}
use Rattle.overlay_builder.specs.GivenPaths.{ContourWeighsTooMuch, added_paths, paths_for}

-- a path taken as a contour adds the edges of the contour
pub as_contour : (keep : Bool) (f : Step → CountedEdge) (ps : List Point) (old new : List CountedEdge)
    → AddsPath (contour_kind keep) f ps old new → AddsContour keep f ps old new
as_contour true f ps old new h = record { taken = h.taken; thinned = h.is_taken; content = h.content }
as_contour false f ps old new h = record { taken = h.taken; thinned = h.is_taken; content = h.content }

-- a contour adds the edges of a path taken as a contour
pub of_contour : (keep : Bool) (f : Step → CountedEdge) (ps : List Point) (old new : List CountedEdge)
    → AddsContour keep f ps old new → AddsPath (contour_kind keep) f ps old new
of_contour true f ps old new h = record { taken = h.taken; is_taken = h.thinned; content = h.content }
of_contour false f ps old new h = record { taken = h.taken; is_taken = h.thinned; content = h.content }

-- an edge with its value, without that
abbrev edge_alone : {C : Type 0} → Carried C → CountedEdge
edge_alone x = x.edge

-- the values of edges have the counts of a shape that each step passes once
abbrev pub PassesOnce : {C : Type 0} → (C → Counts) → ShapeType → StepCounts C → Type 0
PassesOnce counts t pass = (s : Step) → counts (count_of_step pass s)
    ≡ boolean_counts (cond (is_forward s) (count_for t (pos 1)) (count_for t (negsuc 0)))

-- this holds of counts alone
pub counts_pass_once : (t : ShapeType) (pass : StepCounts ShapeCountBoolean) → pass ≡ passing t →
    PassesOnce boolean_counts t pass
counts_pass_once t pass is s = ap (λ p. boolean_counts (count_of_step p s)) is

-- this holds of counts without data
pub dataless_pass_once : (t : ShapeType) (pass : StepCounts (CountWithData (Unit {0}))) →
    pass ≡ passing_without_data t →
    PassesOnce (λ k. boolean_counts k.count) t pass
dataless_pass_once t pass is s = ap (λ (p : StepCounts (CountWithData (Unit {0}))). boolean_counts
    (count_of_step p s).count) is ∙ ap boolean_counts (by (is_forward s))
  where
    by : (forward : Bool) → (cond forward (passing_without_data t).along (passing_without_data t).back).count
        ≡ cond forward (count_for t (pos 1)) (count_for t (negsuc 0))
    by true = refl
    by false = refl

module _ (keep : Bool) (t : ShapeType) {C : Type 0} (counts : C → Counts) (kind : PathKind) (pass : StepCounts C)
    (kind_is : kind ≡ contour_kind keep)
    (once : PassesOnce counts t pass) where
  -- the edges of its steps, without their values
  edges_alone : (λ (s : Step). (passed_edge counts pass s).edge) ≡ edge_for t
  edges_alone = λ i s. edge_with (edge_of s).a (edge_of s).b (once s i)

  -- a contour that was added
  pub contour_added : (ps : List Point) (old new : List (Carried C)) →
      AddsPath kind (passed_edge counts pass) ps old new
      → AddsPath (contour_kind keep) (edge_for t) ps (edges_in old) (edges_in new)
  contour_added ps old new h =
      subst (λ f. AddsPath (contour_kind keep) f ps (edges_in old) (edges_in new)) edges_alone
      (one_seen edge_alone (contour_kind keep) (passed_edge counts pass) ps old new
      (subst (λ k. AddsPath k (passed_edge counts pass) ps old new) kind_is h))

  -- a contour that would weigh too much
  pub contour_too_heavy : (ps : List Point) (old : List (Carried C))
      → WouldWeighTooMuch carried_weight (path_as kind (passed_edge counts pass) ps) old
      → WouldWeighTooMuch weight (path_as (contour_kind keep) (edge_for t) ps) (edges_in old)
  contour_too_heavy ps old h =
      subst (λ f. WouldWeighTooMuch weight (path_as (contour_kind keep) f ps) (edges_in old)) edges_alone
      (heavy_seen edge_alone weight (path_as (contour_kind keep) (passed_edge counts pass) ps) old
      (subst (λ k. WouldWeighTooMuch carried_weight (path_as k (passed_edge counts pass) ps) old) kind_is h))

  -- a call that adds a contour
  pub asked_contour_added : {V W : Type 0} (ps : List Point) (old new : Held (Carried C)) (v : V) (w : W) →
      AddsPathAsAsked carried_weight (path_as kind (passed_edge counts pass) ps) old new (Ok v) →
      AddsContourAsAsked keep t ps (plain_held old) (plain_held new) (Ok w)
  asked_contour_added ps old new v w h =
      added_seen edge_alone weight (AddsPath kind (passed_edge counts pass) ps) (AddsContour keep (edge_for t) ps)
      (WouldWeighTooMuch carried_weight (path_as kind (passed_edge counts pass) ps)) (ContourWeighsTooMuch keep t ps)
      old new (λ adds. as_contour keep (edge_for t) ps (edges_in old.edges) (edges_in new.edges)
      (contour_added ps old.edges new.edges adds)) v w h

  -- or refuses it
  pub asked_contour_refused : {V W : Type 0} (ps : List Point) (old new : Held (Carried C)) (e : OverlayError) →
      AddsPathAsAsked {V = V} carried_weight (path_as kind (passed_edge counts pass) ps) old new (Err e) →
      AddsContourAsAsked {V = W} keep t ps (plain_held old) (plain_held new) (Err e)
  asked_contour_refused ps old new e h =
      refused_seen edge_alone weight (AddsPath kind (passed_edge counts pass) ps) (AddsContour keep (edge_for t) ps)
      (WouldWeighTooMuch carried_weight (path_as kind (passed_edge counts pass) ps)) (ContourWeighsTooMuch keep t ps)
      old new (contour_too_heavy ps old.edges) e h

  -- the paths of a resource
  same_paths : (paths : List (List Point)) →
      map (seen edge_alone) (paths_as (contour_kind keep) (passed_edge counts pass) paths)
      ≡ added_paths keep (paths_for t paths)
  same_paths [] = refl
  same_paths (ps ∷ paths) = ap₂ (λ f l. path_as (contour_kind keep) f ps ∷ l) edges_alone (same_paths paths)

  pub contours_added : {V : Type 0} (paths : List (List Point)) (old new : Held (Carried C)) (r : Result V OverlayError)
      → AddsAsAsked carried_weight (paths_as kind (passed_edge counts pass) paths) old new r
      → AddsAsAsked weight (added_paths keep (paths_for t paths)) (plain_held old) (plain_held new) r
  contours_added paths old new r h =
      subst (λ l. AddsAsAsked weight l (plain_held old) (plain_held new) r) (same_paths paths)
      (adding_seen edge_alone weight (paths_as (contour_kind keep) (passed_edge counts pass) paths) old new r
      (subst (λ k. AddsAsAsked carried_weight (paths_as k (passed_edge counts pass) paths) old new r) kind_is h))
