-- Contours of the shape keep the counts of a builder balanced, and so do strings, which have none.
use Rattle.std.proofs.Common.{◌≡◌, true, false, ℤ, pos, ◌+ℤ◌, ◌-ℤ◌, ◌*ℤ◌, List, [], ◌∷◌, map, refl, sym, ◌∙◌, subst}
use Rattle.std.specs.List.{All}
use Rattle.std.proofs.lemmas.List.Elements.{All-nil, All-cons}
use Rattle.overlay_geom.specs.Edges.{CountedEdge, ends_of, subj_of, clip_of}
use Rattle.overlay_geom.specs.Plane.{Point, Step, edge_of}
use Rattle.overlay_geom.proofs.Identities.{solve, number, ◌⊗◌, ◌⊕◌, ◌≗◌}
use Rattle.overlay_plane.specs.Balance.{HasBalancedCounts}
use Rattle.overlay_plane.specs.EdgeLists.{IsBalanced}
use Rattle.overlay_plane.proofs.KeepingBalance.{added_contours_are_balanced, joining_keeps_balance}
use Rattle.overlay_builder.proofs.Balanced.{KeepsBalance}
use Rattle.overlay_builder.specs.PathLists.{AddsOne}
use Rattle.overlay_builder.specs.Paths.{path_steps_of}
use Rattle.overlay_string.specs.StringPaths.{string_edge, path_in, paths_in}
use Rattle.overlay_string.specs.declared.role.PathRole.{PathRole}
use Rattle.overlay_string.specs.declared.role.PathRole.TheVariants.{Shape, OpenString, ClosedString}

-- a count of zero adds nothing
none_first : (z w : ℤ) → pos 0 *ℤ z +ℤ w ≡ w
none_first = solve 2 (λ z w. number (pos 0) ⊗ z ⊕ w ≗ w) tt

-- the edges of strings have no counts of a shape
no_subject : (ss : List Step) → IsBalanced ends_of subj_of (map string_edge ss)
no_subject [] g = refl
no_subject (s ∷ ss) g = none_first (g (edge_of s).b -ℤ g (edge_of s).a) _ ∙ no_subject ss g

no_clip : (ss : List Step) → IsBalanced ends_of clip_of (map string_edge ss)
no_clip [] g = refl
no_clip (s ∷ ss) g = none_first (g (edge_of s).b -ℤ g (edge_of s).a) _ ∙ no_clip ss g

-- so they are balanced
string_is_balanced : (ss : List Step) → HasBalancedCounts (map string_edge ss)
string_is_balanced ss = record { subj = no_subject ss; clip = no_clip ss }

-- a path keeps the counts balanced, whatever its role
pub role_keeps_balance : (role : PathRole) (ps : List Point) (old new : List CountedEdge) →
    AddsOne (path_in role ps) old new
    → HasBalancedCounts old → HasBalancedCounts new
role_keeps_balance Shape ps old new h before =
    subst HasBalancedCounts (sym h.content)
    (joining_keeps_balance.both old _ before (added_contours_are_balanced.subject h.taken))
role_keeps_balance OpenString ps old new h before =
    subst HasBalancedCounts (sym h.content)
    (joining_keeps_balance.both old _ before (string_is_balanced (path_steps_of false h.taken)))
role_keeps_balance ClosedString ps old new h before =
    subst HasBalancedCounts (sym h.content)
    (joining_keeps_balance.both old _ before (string_is_balanced (path_steps_of true h.taken)))

-- and so do several
pub paths_keep_balance : (role : PathRole) (paths : List (List Point)) → All KeepsBalance (paths_in role paths)
paths_keep_balance role [] = All-nil KeepsBalance
paths_keep_balance role (ps ∷ paths) =
    All-cons KeepsBalance (path_in role ps) (paths_in role paths) (record { keeps = role_keeps_balance role ps })
    (paths_keep_balance role paths)
