-- What the core of a builder adds of a path, as an edge of the shape or of a string.
use Rattle.std.proofs.Common.{◌≡◌, Bool, true, false, cond, not, pos, negsuc, List, [], ◌∷◌, map, refl, sym, ap, ap₂}
use Rattle.std.proofs.Common.{subst}
use Rattle.std.specs.Prelude.{Result, Ok, Err}
use Rattle.overlay_geom.specs.Counts.{Counts}
use Rattle.overlay_geom.specs.Edges.{CountedEdge, weight}
use Rattle.overlay_geom.specs.Plane.{Point, Step, edge_of, is_forward}
use Rattle.overlay_geom.specs.declared.error.OverlayError.{OverlayError}
use Rattle.overlay_plane.specs.Carried.{Carried, edges_in}
use Rattle.overlay_order.specs.Content.{edge_with}
use Rattle.overlay_order.specs.Counts.{string_counts}
use Rattle.overlay_order.specs.declared.string_count.ShapeCountString.{ShapeCountString}
use Rattle.overlay_builder.specs.BuilderCalls.{AddsPathAsAsked}
use Rattle.overlay_builder.specs.Held.{Held, plain_held}
use Rattle.overlay_builder.specs.PathLists.{AddsOne, AddsAsAsked, WouldWeighTooMuch}
use Rattle.overlay_builder.specs.PathLists.{carried_weight, path_as, paths_as}
use Rattle.overlay_builder.specs.Paths.{AddsPath, passed_edge}
use Rattle.overlay_builder.specs.declared.path.PathKind.{PathKind}
use Rattle.overlay_builder.specs.declared.path.StepCounts.{StepCounts}
use Rattle.overlay_builder.proofs.BuilderCalls.{added_seen, refused_seen}
use Rattle.overlay_builder.proofs.Mapped.{seen, one_seen, heavy_seen, adding_seen}
use Rattle.overlay_string.specs.StringPaths.{kind_in, passing_in, edge_in, path_in, paths_in}
use Rattle.overlay_string.specs.declared.role.PathRole.{PathRole}
use Rattle.overlay_string.specs.declared.role.PathRole.TheVariants.{Shape, OpenString, ClosedString}

-- the edge of a step, with what it carries and without
abbrev carried : StepCounts ShapeCountString → Step → Carried ShapeCountString
carried pass s = passed_edge string_counts pass s

abbrev alone : Carried ShapeCountString → CountedEdge
alone x = x.edge

-- what is on the edge of a step, whichever way it runs
on_edge : (role : PathRole) (s : Step) (given : Bool → Counts) →
    ((forward : Bool) → string_counts (cond forward (passing_in role).along (passing_in role).back) ≡ given forward)
    → alone (carried (passing_in role) s) ≡ edge_with (edge_of s).a (edge_of s).b (given (is_forward s))
on_edge role s given same = ap (edge_with (edge_of s).a (edge_of s).b) (same (is_forward s))

abbrev of_shape : Bool → Counts
of_shape forward = record { subj = cond forward (pos 1) (negsuc 0); clip = pos 0; along = false; against = false }

abbrev of_string : Bool → Counts
of_string forward = record { subj = pos 0; clip = pos 0; along = forward; against = not forward }

edge_of_role : (role : PathRole) (s : Step) → alone (carried (passing_in role) s) ≡ edge_in role s
edge_of_role Shape s = on_edge Shape s of_shape (λ t. by t)
  where
    by : (forward : Bool) →
        string_counts (cond forward (passing_in Shape).along (passing_in Shape).back) ≡ of_shape forward
    by true = refl
    by false = refl
edge_of_role OpenString s = on_edge OpenString s of_string (λ t. by t)
  where
    by : (forward : Bool) →
        string_counts (cond forward (passing_in OpenString).along (passing_in OpenString).back) ≡ of_string forward
    by true = refl
    by false = refl
edge_of_role ClosedString s = on_edge ClosedString s of_string (λ t. by t)
  where
    by : (forward : Bool) →
        string_counts (cond forward (passing_in ClosedString).along (passing_in ClosedString).back) ≡ of_string forward
    by true = refl
    by false = refl

module _ (role : PathRole) (kind : PathKind) (pass : StepCounts ShapeCountString) (kind_is : kind ≡ kind_in role)
    (pass_is : pass ≡ passing_in role) where
  edges_alone : (λ (s : Step). alone (carried pass s)) ≡ edge_in role
  edges_alone =
      subst (λ p. (λ (s : Step). alone (carried p s)) ≡ edge_in role) (sym pass_is) (λ i s. edge_of_role role s i)

  -- a path that was added
  pub path_added : (ps : List Point) (old new : List (Carried ShapeCountString)) → AddsPath kind (carried pass) ps old
      new
      → AddsOne (path_in role ps) (edges_in old) (edges_in new)
  path_added ps old new h =
      subst (λ f. AddsPath (kind_in role) f ps (edges_in old) (edges_in new)) edges_alone
      (one_seen alone (kind_in role) (carried pass) ps old new
      (subst (λ k. AddsPath k (carried pass) ps old new) kind_is h))

  -- a path that would weigh too much
  path_too_heavy : (ps : List Point) (old : List (Carried ShapeCountString))
      → WouldWeighTooMuch carried_weight (path_as kind (carried pass) ps) old
      → WouldWeighTooMuch weight (path_in role ps) (edges_in old)
  path_too_heavy ps old h =
      subst (λ f. WouldWeighTooMuch weight (path_as (kind_in role) f ps) (edges_in old)) edges_alone
      (heavy_seen alone weight (path_as (kind_in role) (carried pass) ps) old
      (subst (λ k. WouldWeighTooMuch carried_weight (path_as k (carried pass) ps) old) kind_is h))

  -- a call that adds a path
  pub asked_path_added : {V W : Type 0} (ps : List Point) (old new : Held (Carried ShapeCountString)) (v : V) (w : W) →
      AddsPathAsAsked carried_weight (path_as kind (carried pass) ps) old new (Ok v) →
      AddsPathAsAsked weight (path_in role ps) (plain_held old) (plain_held new) (Ok w)
  asked_path_added ps old new v w h =
      added_seen alone weight (AddsPath kind (carried pass) ps) (AddsOne (path_in role ps))
      (WouldWeighTooMuch carried_weight (path_as kind (carried pass) ps))
      (WouldWeighTooMuch weight (path_in role ps)) old new (path_added ps old.edges new.edges) v w h

  -- or refuses it
  pub asked_path_refused : {V W : Type 0} (ps : List Point) (old new : Held (Carried ShapeCountString))
      (e : OverlayError) →
      AddsPathAsAsked {V = V} carried_weight (path_as kind (carried pass) ps) old new (Err e) →
      AddsPathAsAsked {V = W} weight (path_in role ps) (plain_held old) (plain_held new) (Err e)
  asked_path_refused ps old new e h =
      refused_seen alone weight (AddsPath kind (carried pass) ps) (AddsOne (path_in role ps))
      (WouldWeighTooMuch carried_weight (path_as kind (carried pass) ps))
      (WouldWeighTooMuch weight (path_in role ps)) old new (path_too_heavy ps old.edges) e h

  -- the paths of a resource
  same_paths : (paths : List (List Point)) → map (seen alone) (paths_as (kind_in role) (carried pass) paths)
      ≡ paths_in role paths
  same_paths [] = refl
  same_paths (ps ∷ paths) = ap₂ (λ f l. path_as (kind_in role) f ps ∷ l) edges_alone (same_paths paths)

  pub paths_added : {V : Type 0} (paths : List (List Point)) (old new : Held (Carried ShapeCountString))
      (r : Result V OverlayError)
      → AddsAsAsked carried_weight (paths_as kind (carried pass) paths) old new r
      → AddsAsAsked weight (paths_in role paths) (plain_held old) (plain_held new) r
  paths_added paths old new r h =
      subst (λ l. AddsAsAsked weight l (plain_held old) (plain_held new) r) (same_paths paths)
      (adding_seen alone weight (paths_as (kind_in role) (carried pass) paths) old new r
      (subst (λ k. AddsAsAsked carried_weight (paths_as k (carried pass) paths) old new r) kind_is h))
