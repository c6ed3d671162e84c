-- The signs of the steps along an edge: a backward chain has the opposite signs.
use Rattle.std.proofs.Common.{◌≡◌, Bool, true, false, cond, not, ℤ, pos, negsuc, ◌+ℤ◌, ◌*ℤ◌, List, [], ◌∷◌, refl, sym}
use Rattle.std.proofs.Common.{ap, ap₂, ◌∙◌}
use Rattle.std.specs.List.{All}
use Rattle.std.specs.Bool.{⊤}
use Rattle.std.proofs.lemmas.List.Elements.{All-head, All-tail, All-weaker}
use Rattle.overlay_geom.specs.Plane.{Point, Step, Edge, edge_eq, is_forward, edge_of, sign_of, reversed_step, backward}
use Rattle.overlay_geom.specs.Plane.{steps_through, total}
use Rattle.overlay_geom.proofs.Identities.{solve, number, ◌⊕◌, ◌⊗◌, ◌≗◌}
use Rattle.overlay_geom.proofs.Orders.{Decides-edge_eq, point_lt-back, point_lt-order}
use Rattle.overlay_plane.proofs.ChainWalks.{backward-first}
use Rattle.overlay_plane.proofs.EdgesOfSteps.{edge_by}
use Rattle.overlay_plane.proofs.JoinedLists.{total-append, times_taken}
use Rattle.overlay_plane.proofs.LinksKept.{IsLong, IsBetweenGood, good_through}
use Rattle.overlay_plane.proofs.Tests.{same_tests}

-- the sign of a step along the edge, and 0 for another step
abbrev pub along : Edge → Step → ℤ
along f s = cond (edge_eq (edge_of s) f) (sign_of s) (pos 0)

-- the test in either order
pub edge_eq-either : (e f : Edge) → edge_eq e f ≡ edge_eq f e
edge_eq-either e f = same_tests (edge_eq e f) (edge_eq f e)
    (λ t. (Decides-edge_eq f e).1 (sym ((Decides-edge_eq e f).0 t)))
    (λ t. (Decides-edge_eq e f).1 (sym ((Decides-edge_eq f e).0 t)))

-- a long step back leads the other way
pub turns_round : (s : Step) → IsLong s → is_forward (reversed_step s) ≡ not (is_forward s)
turns_round s long = by (is_forward s) refl
  where
    by : (t : Bool) → is_forward s ≡ t → is_forward (reversed_step s) ≡ not t
    by true e = point_lt-order.one_way s.from s.to e
    by false e = point_lt-back s.from s.to long e

-- it has the opposite sign along that edge
along_back : (f : Edge) (s : Step) → IsLong s → along f (reversed_step s) ≡ negsuc 0 *ℤ along f s
along_back f s long = ap (λ t. cond (edge_eq (edge_by t (reversed_step s)) f) (cond t (pos 1) (negsuc 0)) (pos 0))
    (turns_round s long) ∙ by (is_forward s)
  where
    by : (t : Bool) → cond (edge_eq (edge_by (not t) (reversed_step s)) f) (cond (not t) (pos 1) (negsuc 0)) (pos 0) ≡
        negsuc 0 *ℤ cond (edge_eq (edge_by t s) f) (cond t (pos 1) (negsuc 0)) (pos 0)
    by true = sym (times_taken (edge_eq (edge_by true s) f) (negsuc 0) (pos 1))
    by false = sym (times_taken (edge_eq (edge_by false s) f) (negsuc 0) (negsuc 0))

-- and long steps backward add up to the opposite
pub total_back : (f : Edge) (ss : List Step) → All IsLong ss → total (along f) (backward ss) ≡ negsuc 0 *ℤ total
    (along f) ss
total_back f [] long = refl
total_back f (s ∷ ss) long =
    ap (total (along f)) (backward-first s ss)
    ∙ total-append (along f) (backward ss) (reversed_step s ∷ [])
    ∙ ap₂ (λ a b. a +ℤ (b +ℤ pos 0)) (total_back f ss (All-tail IsLong s ss long))
    (along_back f s (All-head IsLong s ss long))
    ∙ solve 2 (λ a b. number (negsuc 0) ⊗ b ⊕ (number (negsuc 0) ⊗ a ⊕ number (pos 0)) ≗ number (negsuc 0) ⊗ (a ⊕ b)) tt
    (along f s) (total (along f) ss)

-- the steps through points are long
pub long_through : (u : Point) (vs : List Point) → All IsLong (steps_through u vs)
long_through u vs = All-weaker (IsBetweenGood (λ v. ⊤)) IsLong (λ s h. h.long) (steps_through u vs)
    (good_through (λ v. ⊤) u vs tt (λ k d l. tt))
