-- What the contours of a subject and of a clip add to nothing, one after another, and what their arrangement is.
use Rattle.std.proofs.Common.{◌≡◌, ◌⊎◌, inl, inr, ℕ, Bool, List, [], sym, ap, subst}
use Rattle.std.proofs.lemmas.Bool.{false≢true}
use Rattle.std.proofs.lemmas.List.{map-append}
use Rattle.std.specs.Prelude.{Result, Ok, Err}
use Rattle.overlay_geom.specs.Edges.{CountedEdge, weight}
use Rattle.overlay_geom.specs.Plane.{Point}
use Rattle.overlay_geom.specs.declared.error.OverlayError.{OverlayError}
use Rattle.overlay_geom.specs.declared.error.OverlayError.TheVariants.{Failed}
use Rattle.overlay_geom.specs.declared.solver.Solver.{Solver}
use Rattle.overlay_geom.specs.declared.options.ShapeType.TheVariants.{Subject, Clip}
use Rattle.overlay_graph.specs.Arranged.{IsArranged}
use Rattle.overlay_graph.specs.Graphs.{IsArrangement}
use Rattle.overlay_order.specs.Content.{IsContent}
use Rattle.overlay_order.specs.declared.data.CountWithData.{CountWithData}
use Rattle.overlay_plane.specs.Balance.{HasBalancedCounts}
use Rattle.overlay_plane.specs.Carried.{Carried}
use Rattle.overlay_builder.specs.GivenPaths.{GivenPath, added_path, added_paths, paths_for, subject_and_clip}
use Rattle.overlay_builder.specs.Held.{Held, nothing_held, plain_held}
use Rattle.overlay_builder.specs.Passing.{passing_without_data}
use Rattle.overlay_builder.specs.PathLists.{AddsAsAsked, HoldsPaths, StopsAtPath, carried_weight, paths_as}
use Rattle.overlay_builder.specs.Paths.{contour_kind, passed_edge}
use Rattle.overlay_builder.specs.declared.path.PathKind.{PathKind}
use Rattle.overlay_builder.specs.declared.path.StepCounts.{StepCounts}
use Rattle.overlay_builder.proofs.AddedContours.{contours_added, dataless_pass_once}
use Rattle.overlay_builder.proofs.Balanced.{held_paths_are_balanced}
use Rattle.overlay_builder.proofs.PathLists.{both_added, first_refused}
use Rattle.i_overlay.specs.Alone.{MayRefuseAlone}
use Rattle.i_overlay.proofs.AddedAlone.{adding_refused}
use Rattle.polyover_views.specs.Held.{counts_in}

-- the counts of an edge, without data
abbrev Counted : Type 0
Counted = CountWithData (Unit {0})

module _ {V : Type 0} (keep : Bool) (kind : PathKind) (kind_is : kind ≡ contour_kind keep) (ps qs : List (List Point))
    (pass : StepCounts Counted) (pass_is : pass ≡ passing_without_data Subject) (old mid : Held (Carried Counted))
    (nothing : old ≡ nothing_held) where
  subject_plainly : (r : Result V OverlayError) →
      AddsAsAsked carried_weight (paths_as kind (passed_edge counts_in pass) ps) old mid r →
      AddsAsAsked weight (added_paths keep (paths_for Subject ps)) nothing_held (plain_held mid) r
  subject_plainly r adds =
      subst (λ h. AddsAsAsked weight (added_paths keep (paths_for Subject ps)) (plain_held h) (plain_held mid) r)
      nothing
      (contours_added keep Subject counts_in kind pass kind_is (dataless_pass_once Subject pass pass_is) ps old mid r
      adds)

  -- where one of the subject's is refused, those of the clip are not added
  pub subject_refused : (e : OverlayError) →
      AddsAsAsked {V = V} carried_weight (paths_as kind (passed_edge counts_in pass) ps) old mid (Err e) →
      AddsAsAsked {V = V} weight (added_paths keep (subject_and_clip ps qs)) nothing_held (plain_held mid) (Err e)
  subject_refused e adds =
      subst (λ l. AddsAsAsked {V = V} weight l nothing_held (plain_held mid) (Err e))
      (sym (map-append (added_path keep) (paths_for Subject ps) (paths_for Clip qs)))
      (first_refused {V = V} weight (added_paths keep (paths_for Subject ps)) (added_paths keep (paths_for Clip qs))
      nothing_held (plain_held mid) e (subject_plainly (Err e) adds))

  -- else they are added, or refused, after them
  pub both_added_to_nothing : (more : StepCounts Counted) → more ≡ passing_without_data Clip →
      (new : Held (Carried Counted)) (v : V) →
      AddsAsAsked carried_weight (paths_as kind (passed_edge counts_in pass) ps) old mid (Ok v) →
      (r : Result V OverlayError) →
      AddsAsAsked carried_weight (paths_as kind (passed_edge counts_in more) qs) mid new r →
      AddsAsAsked weight (added_paths keep (subject_and_clip ps qs)) nothing_held (plain_held new) r
  both_added_to_nothing more more_is new v first r adds =
      subst (λ l. AddsAsAsked weight l nothing_held (plain_held new) r)
      (sym (map-append (added_path keep) (paths_for Subject ps) (paths_for Clip qs)))
      (both_added weight (added_paths keep (paths_for Subject ps)) (added_paths keep (paths_for Clip qs)) nothing_held
      (plain_held mid) (plain_held new) v (subject_plainly (Ok v) first) r
      (contours_added keep Clip counts_in kind more kind_is (dataless_pass_once Clip more more_is) qs mid new r adds))

-- ---- a core to which they were added

module _ {V : Type 0} (keep : Bool) (paths : List GivenPath) (new : Held CountedEdge) where
  pub paths_held : (v : V) → AddsAsAsked weight (added_paths keep paths) nothing_held new (Ok v) →
      HoldsPaths (added_paths keep paths) new.edges
  paths_held v h = record { added = h.ok; light = h.light }

  -- where one of them is refused, the paths are
  pub paths_refused : (solver : Solver) (e : OverlayError) →
      AddsAsAsked {V = V} weight (added_paths keep paths) nothing_held new (Err e) → MayRefuseAlone keep solver paths e
  paths_refused solver e h = either h.err
    where
      either : ((e ≡ Failed) ⊎ StopsAtPath weight (added_paths keep paths) [] new.edges e) →
          MayRefuseAlone keep solver paths e
      either (inl same) = absurd (false≢true (h.failed.0 (ap {B = Result V OverlayError} (λ x. Err x) same)))
      either (inr stops) = adding_refused keep solver paths new.edges e stops

-- ---- their arrangement

module _ (keep : Bool) (limit : ℕ) (solver : Solver) (paths : List GivenPath) (content es : List CountedEdge)
    (holds : HoldsPaths (added_paths keep paths) content) (arranged : IsArranged solver content es) where
  pub is_arrangement : IsContent limit es → IsArrangement limit es
  is_arrangement within = record {
    content = within;
    ascending = arranged.reached.merged.ascending;
    settled = arranged.reached.settled;
  }

  pub is_balanced : HasBalancedCounts es
  is_balanced = arranged.balanced (held_paths_are_balanced keep paths content holds.added)
