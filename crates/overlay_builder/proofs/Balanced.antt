-- The counts of a builder's edges stay balanced, however many contours are added.
use Rattle.std.proofs.Common.{◌≡◌, ◌⊎◌, inl, inr, Bool, true, false, cond, ℤ, pos, negsuc, List, [], ◌∷◌, ◌++◌, length}
use Rattle.std.proofs.Common.{map, refl, sym, ap, ap₂, subst}
use Rattle.std.specs.List.{All}
use Rattle.std.specs.Prelude.{Result, Ok, Err}
use Rattle.std.proofs.lemmas.List.Elements.{All-nil, All-cons, All-head, All-tail, All-take}
use Rattle.std.proofs.Math.Seq.{take-append_seam}
use Rattle.overlay_geom.specs.Plane.{Point, Step, edge_of, is_forward, steps_of}
use Rattle.overlay_geom.specs.Edges.{CountedEdge, subject_edge, clip_edge, weight}
use Rattle.overlay_geom.specs.declared.error.OverlayError.{OverlayError}
use Rattle.overlay_geom.specs.declared.error.OverlayError.TheVariants.{Failed}
use Rattle.overlay_geom.specs.declared.options.ShapeType.{ShapeType}
use Rattle.overlay_geom.specs.declared.options.ShapeType.TheVariants.{Subject, Clip}
use Rattle.overlay_plane.specs.Balance.{HasBalancedCounts}
use Rattle.overlay_plane.proofs.KeepingBalance.{added_contours_are_balanced, joining_keeps_balance}
use Rattle.overlay_order.specs.Content.{count_for, edge_for, edge_with}
use Rattle.overlay_order.specs.Counts.{boolean_counts}
use Rattle.overlay_order.specs.declared.count.ShapeCountBoolean.{ShapeCountBoolean}
use Rattle.overlay_builder.specs.Held.{Held}
use Rattle.overlay_builder.specs.PathLists.{AddedPath, AddsOne, AddsPaths, AddsAsAsked, StopsAtPath}
use Rattle.overlay_builder.specs.PathLists.AddsPaths.{no_path, path_and_others}
use Rattle.overlay_builder.specs.Paths.{AddsPath, contour_kind}
use Rattle.overlay_builder.specs.GivenPaths.{GivenPath, added_path, added_paths}

-- ---- one contour

-- two functions that agree map a list equally
pub same_edges : (f h : Step → CountedEdge) → ((s : Step) → f s ≡ h s) → (ss : List Step) → map f ss ≡ map h ss
same_edges f h same [] = refl
same_edges f h same (s ∷ ss) = ap₂ (λ e es. e ∷ es) (same s) (same_edges f h same ss)

-- the edge of a subject's step
pub as_subject : (s : Step) → subject_edge s ≡ edge_for Subject s
as_subject s =
    elim (is_forward s) as (λ t. Same (cond t (pos 1) (negsuc 0))
    (cond t (count_for Subject (pos 1)) (count_for Subject (negsuc 0))))
    [ true ↦ refl | false ↦ refl ]
  where
    Same : ℤ → ShapeCountBoolean → Type 0
    Same z k = edge_with (edge_of s).a (edge_of s).b (record { subj = z; clip = pos 0; along = false; against = false })
        ≡ edge_with (edge_of s).a (edge_of s).b (boolean_counts k)

-- the counted edge of a clip's step
pub as_clip : (s : Step) → clip_edge s ≡ edge_for Clip s
as_clip s =
    elim (is_forward s) as (λ t. Same (cond t (pos 1) (negsuc 0))
    (cond t (count_for Clip (pos 1)) (count_for Clip (negsuc 0))))
    [ true ↦ refl | false ↦ refl ]
  where
    Same : ℤ → ShapeCountBoolean → Type 0
    Same z k = edge_with (edge_of s).a (edge_of s).b (record { subj = pos 0; clip = z; along = false; against = false })
        ≡ edge_with (edge_of s).a (edge_of s).b (boolean_counts k)

-- the edges of a closed contour's steps have balanced counts
contour_is_balanced : (t : ShapeType) (ps : List Point) → HasBalancedCounts (map (edge_for t) (steps_of ps))
contour_is_balanced Subject ps =
    subst HasBalancedCounts (same_edges subject_edge (edge_for Subject) as_subject (steps_of ps))
    (added_contours_are_balanced.subject ps)
contour_is_balanced Clip ps =
    subst HasBalancedCounts (same_edges clip_edge (edge_for Clip) as_clip (steps_of ps))
    (added_contours_are_balanced.clip ps)

-- a content with them added has balanced counts
pub contour_keeps_balance : (keep : Bool) (t : ShapeType) (ps : List Point) (old new : List CountedEdge)
    → AddsPath (contour_kind keep) (edge_for t) ps old new → HasBalancedCounts old → HasBalancedCounts new
contour_keeps_balance true t ps old new h before =
    subst HasBalancedCounts (sym h.content) (joining_keeps_balance.both old _ before (contour_is_balanced t h.taken))
contour_keeps_balance false t ps old new h before =
    subst HasBalancedCounts (sym h.content) (joining_keeps_balance.both old _ before (contour_is_balanced t h.taken))

-- ---- several

-- a path keeps the counts balanced
pub record KeepsBalance (p : AddedPath CountedEdge) : Type 0 where
  pub keeps : (old new : List CountedEdge) → AddsOne p old new → HasBalancedCounts old → HasBalancedCounts new

-- contours keep balance
contours_keep : (keep : Bool) (given : List GivenPath) → All KeepsBalance (added_paths keep given)
contours_keep keep [] = All-nil KeepsBalance
contours_keep keep (p ∷ ps) =
    All-cons KeepsBalance (added_path keep p) (added_paths keep ps)
    (record { keeps = contour_keeps_balance keep p.shape_type p.points }) (contours_keep keep ps)

-- several paths that keep balance do so one after another
paths_keep : (all : List (AddedPath CountedEdge)) (from to : List CountedEdge) → All KeepsBalance all →
    AddsPaths all from to
    → HasBalancedCounts from → HasBalancedCounts to
paths_keep all from to keep no_path before = before
paths_keep all from to keep (path_and_others {p} {ps} {mid} first h) before =
    paths_keep ps mid to (All-tail KeepsBalance p ps keep) h
    ((All-head KeepsBalance p ps keep).keeps from mid first before)

-- the edges of contours alone have balanced counts
pub held_paths_are_balanced : (keep : Bool) (given : List GivenPath) (es : List CountedEdge) →
    AddsPaths (added_paths keep given) [] es → HasBalancedCounts es
held_paths_are_balanced keep given es added =
    paths_keep (added_paths keep given) [] es (contours_keep keep given) added joining_keeps_balance.none

-- the first of paths that do, do
first_keep : (first rest : List (AddedPath CountedEdge)) → All KeepsBalance (first ++ rest) → All KeepsBalance first
first_keep first rest keep =
    subst (All KeepsBalance) (take-append_seam first rest) (All-take KeepsBalance (length first) (first ++ rest) keep)

-- a call that adds such paths keeps the counts balanced, whatever it answers
pub adding_balanced_paths : {V : Type 0} (ps : List (AddedPath CountedEdge)) → All KeepsBalance ps →
    (old new : Held CountedEdge) (r : Result V OverlayError)
    → AddsAsAsked weight ps old new r → HasBalancedCounts old.edges → HasBalancedCounts new.edges
adding_balanced_paths ps keep old new (Ok v) h before = paths_keep ps old.edges new.edges keep h.ok before
adding_balanced_paths {V = V} ps keep old new (Err e) h before = by h.err
  where
    by : ((e ≡ Failed) ⊎ StopsAtPath weight ps old.edges new.edges e) → HasBalancedCounts new.edges
    by (inl is) = subst (λ b. HasBalancedCounts b.edges)
        (sym (h.untouched (ap {B = Result V OverlayError} (λ x. Err x) is))) before
    by (inr stops) =
        paths_keep stops.added.before old.edges new.edges
        (first_keep stops.added.before (stops.path ∷ stops.added.after)
        (subst (All KeepsBalance) stops.added.parts keep))
        stops.added.added before

-- a call that adds contours keeps balance
pub adding_keeps_balance : {V : Type 0} (keep : Bool) (given : List GivenPath) (old new : Held CountedEdge)
    (r : Result V OverlayError)
    → AddsAsAsked weight (added_paths keep given) old new r → HasBalancedCounts old.edges → HasBalancedCounts new.edges
adding_keeps_balance keep given old new r h before =
    adding_balanced_paths (added_paths keep given) (contours_keep keep given) old new r h before
