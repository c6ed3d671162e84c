-- The edge of a step: the step walks along it or back along it, and its two sides are those of the step.
use Rattle.std.proofs.Common.{◌≡◌, ◌⊎◌, inl, inr, Bool, true, false, cond, pos, ◌+ℤ◌, List, [], ◌∷◌, Contains, refl}
use Rattle.std.proofs.Common.{sym, ap, ap₂, ◌∙◌}
use Rattle.std.proofs.lemmas.Bool.{false_from_ne_true}
use Rattle.overlay_geom.specs.Plane.{Step, Edge, point_eq, edge_eq, is_forward, edge_of, sign_of}
use Rattle.overlay_geom.specs.Edges.{CountedEdge, ends_of, winding_below, winding_above}
use Rattle.overlay_geom.proofs.Orders.{point_eq-same, edge_eq-same, point_eq-of_same}
use Rattle.overlay_plane.specs.Turn.{Hand}
use Rattle.overlay_plane.specs.Turn.Hand.{left, right}
use Rattle.overlay_plane.specs.WindingsBeside
use Rattle.overlay_plane.specs.BesideOrbits.{count_on, winding_under, winding_over, winding_beside}
use Rattle.overlay_plane.proofs.Totals.{Contains-head, Contains-later}

-- the edge of a step that leads forward, or back
abbrev pub edge_by : Bool → Step → Edge
edge_by t s = cond t (record { a = s.from; b = s.to }) (record { a = s.to; b = s.from })

module _ (s : Step) (e : CountedEdge) (along : edge_of s ≡ ends_of e) where
  -- the step walks along its edge, or back along it
  pub along_or_back : (s ≡ record { from = e.a; to = e.b }) ⊎ (s ≡ record { from = e.b; to = e.a })
  along_or_back = by (is_forward s) along
    where
      by : (t : Bool) → edge_by t s ≡ ends_of e →
          (s ≡ record { from = e.a; to = e.b }) ⊎ (s ≡ record { from = e.b; to = e.a })
      by true is = inl (λ i. record { from = (is i).a; to = (is i).b })
      by false is = inr (λ i. record { from = (is i).b; to = (is i).a })

  -- a step leaves the start of its edge exactly where it leads forward
  starts_where_leaves : ¬ (s.from ≡ s.to) → point_eq e.a s.from ≡ is_forward s
  starts_where_leaves long = ap (λ f. point_eq f.a s.from) (sym along) ∙ by (is_forward s)
    where
      by : (t : Bool) → point_eq (edge_by t s).a s.from ≡ t
      by true = point_eq-of_same s.from s.from refl
      by false = false_from_ne_true (point_eq s.to s.from) (λ same. long (sym (point_eq-same s.to s.from same)))

  -- the winding on a side of the step is that on this side along its edge
  pub one_side : ¬ (s.from ≡ s.to) → (es : List CountedEdge) (taken : List Step) (hand : Hand) →
      winding_beside hand es taken s ≡ WindingsBeside.winding_on_side hand (count_on taken) es e s
  one_side long es taken left = ap (λ f. cond (is_forward s) (winding_over es taken f) (winding_under es taken f)) along
      ∙ ap (λ t. cond t (winding_above (count_on taken) es e) (winding_below (count_on taken) es e))
      (sym (starts_where_leaves long))
  one_side long es taken right = ap (λ f. cond (is_forward s) (winding_under es taken f) (winding_over es taken f))
      along
      ∙ ap (λ t. cond t (winding_below (count_on taken) es e) (winding_above (count_on taken) es e))
      (sym (starts_where_leaves long))

-- an edge has count 0, or one of the steps taken walks along it
pub walked_or_nothing : (taken : List Step) (e : CountedEdge) →
    (count_on taken e ≡ pos 0) ⊎ ((s : Step) × Contains taken s × (edge_of s ≡ ends_of e))
walked_or_nothing [] e = inl refl
walked_or_nothing (s ∷ ss) e = by (edge_eq (edge_of s) (ends_of e)) refl (walked_or_nothing ss e)
  where
    by : (t : Bool) → edge_eq (edge_of s) (ends_of e) ≡ t →
        (count_on ss e ≡ pos 0) ⊎ ((u : Step) × Contains ss u × (edge_of u ≡ ends_of e)) →
        (count_on (s ∷ ss) e ≡ pos 0) ⊎ ((u : Step) × Contains (s ∷ ss) u × (edge_of u ≡ ends_of e))
    by true same rest = inr (s, Contains-head s ss, edge_eq-same (edge_of s) (ends_of e) same)
    by false apart (inl none) = inl (ap₂ (λ a b. a +ℤ b) (ap (λ t. cond t (sign_of s) (pos 0)) apart) none)
    by false apart (inr (u, c, along)) = inr (u, Contains-later s ss u c, along)
