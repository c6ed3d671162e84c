-- The edge by which a tour is found is the first one of all on which it has a step, and the tour leads along its lower
-- side alone where it comes back along it.
use Rattle.std.proofs.Common.{◌≡◌, ⊎_elim, ◌&&◌, Bool, true, false, cond, not, List, [], ◌∷◌}
use Rattle.std.proofs.Common.{map, All}
use Rattle.std.proofs.Common.{Contains, refl, sym, ap, ◌∙◌, subst}
use Rattle.std.proofs.lemmas.Bool.{both_ways, or_from, and_left, and_right}
use Rattle.std.proofs.lemmas.Bool.{not_from_false, false_from_ne_true}
use Rattle.std.proofs.lemmas.List.Elements.{All-head, All-tail, All-map, All-contains}
use Rattle.std.proofs.lemmas.List.Elements.{Contains-push_cases}
use Rattle.std.proofs.lemmas.List.Sorted.{All-permutation}
use Rattle.overlay_geom.specs.Plane.{Point, Step, Edge, edge_of, edge_lt, is_forward, point_eq, point_lt}
use Rattle.overlay_geom.specs.Plane.{points_of}
use Rattle.overlay_geom.specs.Plane.{reversed_step}
use Rattle.overlay_geom.proofs.Entries.{Contains-head, Contains-later}
use Rattle.overlay_geom.proofs.Orders.{point_eq-same, point_eq-of_same, point_lt-itself, point_lt-back, point_lt-order}
use Rattle.overlay_plane.proofs.Entries.{Contains-map}
use Rattle.overlay_plane.proofs.LaterEntries.{Contains-cases}
use Rattle.overlay_extract.specs.ClosedWalks.{LeadsTo, HasLength, NoneLeaves}
use Rattle.overlay_extract.specs.TourOrder.{last_step, leaves_along_first, found_edge}
use Rattle.overlay_extract.proofs.GoingOn.{first_steps, in_two}
use Rattle.overlay_extract.proofs.TurnedLoops.{ends_are_starts}

-- an edge does not come before another one that does not start in a larger point, nor, from the same point, end in one
not_before : (e f : Edge) → point_lt e.a f.a ≡ false → (e.a ≡ f.a → point_lt e.b f.b ≡ false) → edge_lt e f ≡ false
not_before e f start end = or_from (point_lt e.a f.a) (point_eq e.a f.a && point_lt e.b f.b) start
    (by (point_eq e.a f.a) refl)
  where
    by : (t : Bool) → point_eq e.a f.a ≡ t → (point_eq e.a f.a && point_lt e.b f.b) ≡ false
    by true same = and_right (point_eq e.a f.a) (point_lt e.b f.b) (end (point_eq-same e.a f.a same))
    by false other = and_left (point_eq e.a f.a) (point_lt e.b f.b) other

-- two points are different
point_eq-apart : (p q : Point) → ¬ (p ≡ q) → point_eq p q ≡ false
point_eq-apart p q apart = false_from_ne_true (point_eq p q) (λ same. apart (point_eq-same p q same))

-- the last step ends where the walk does
pub last_leads : (s : Step) (ss : List Step) (q : Point) → LeadsTo s.to ss q → (last_step s ss).to ≡ q
last_leads s [] q h = h
last_leads s (t ∷ ts) q h = last_leads t ts q h.1

-- the last step is one of them
pub last_contained : (s : Step) (ss : List Step) → Contains (s ∷ ss) (last_step s ss)
last_contained s [] = Contains-head s []
last_contained s (t ∷ ts) = Contains-later s (t ∷ ts) (last_step t ts) (last_contained t ts)

-- the steps before the last one do not end in a point that no later step leaves
pub none_returns : (p : Point) (s : Step) (ss : List Step) (q : Point) → LeadsTo s.to ss q → NoneLeaves p ss →
    (u : Step) → Contains (first_steps s ss) u → point_eq u.to p ≡ false
none_returns p s [] q h none u c = elim c.1 [ ]
none_returns p s (t ∷ ts) q h none u c = ⊎_elim
    (λ is. subst (λ (w : Step). point_eq w.to p ≡ false) is
    (subst (λ v. point_eq v p ≡ false) h.0 (All-head (λ (w : Step). point_eq w.from p ≡ false) t ts none)))
    (λ later. none_returns p t ts q h.1 (All-tail (λ (w : Step). point_eq w.from p ≡ false) t ts none) u later)
    (Contains-cases s (first_steps t ts) u c)

-- ---- a tour from p

module _ (p : Point) (s : Step) (ss : List Step) (leads : LeadsTo p (s ∷ ss) p) (once : NoneLeaves p ss)
    (least : All (λ t. point_lt t.from p ≡ false) (s ∷ ss)) (long : All HasLength (s ∷ ss)) where
  abbrev pub last : Step
  last = last_step s ss

  -- the steps end in no smaller point either
  ends_least : (u : Step) → Contains (s ∷ ss) u → point_lt u.to p ≡ false
  ends_least u c = All-contains (λ v. point_lt v p ≡ false) (map (λ (t : Step). t.to) (s ∷ ss)) u.to
      (All-permutation (λ v. point_lt v p ≡ false) (points_of (s ∷ ss)) (map (λ (t : Step). t.to) (s ∷ ss))
      (ends_are_starts p (s ∷ ss) leads) (All-map (λ v. point_lt v p ≡ false) (λ (t : Step). t.from) (s ∷ ss) least))
      (Contains-map (λ (t : Step). t.to) (s ∷ ss) u c)

  starts_least : (u : Step) → Contains (s ∷ ss) u → point_lt u.from p ≡ false
  starts_least u c = All-contains (λ t. point_lt t.from p ≡ false) (s ∷ ss) u least c

  -- the first step alone leaves p, and the last one alone comes back
  pub first_alone : (u : Step) → Contains (s ∷ ss) u → u.from ≡ p → s ≡ u
  first_alone u c at = ⊎_elim (λ is. is)
      (λ later. absurd (both_ways (point_eq u.from p)
      (All-contains (λ t. point_eq t.from p ≡ false) ss u once later) (point_eq-of_same u.from p at)))
      (Contains-cases s ss u c)

  last_alone : (u : Step) → Contains (s ∷ ss) u → u.to ≡ p → last ≡ u
  last_alone u c at = ⊎_elim
      (λ earlier. absurd (both_ways (point_eq u.to p) (none_returns p s ss p leads.1 once u earlier)
      (point_eq-of_same u.to p at)))
      (λ is. is)
      (Contains-push_cases (first_steps s ss) last u (subst (λ zs. Contains zs u) (in_two s ss) c))

  pub last_returns : last.to ≡ p
  last_returns = last_leads s ss p leads.1

  has_length : (u : Step) → Contains (s ∷ ss) u → HasLength u
  has_length u c = All-contains HasLength (s ∷ ss) u long c

  -- of the two edges at the start the one by which the tour is found does not come after the other
  first_of_two : (point_lt s.to (found_edge s ss).b ≡ false) × (point_lt last.from (found_edge s ss).b ≡ false)
  first_of_two = by (point_lt last.from s.to) refl
    where
      by : (t : Bool) → point_lt last.from s.to ≡ t →
          (point_lt s.to (cond (not (point_lt last.from s.to)) s.to last.from) ≡ false)
          × (point_lt last.from (cond (not (point_lt last.from s.to)) s.to last.from) ≡ false)
      by true back = (
        subst (λ b. point_lt s.to (cond (not b) s.to last.from) ≡ false) (sym back)
            (point_lt-order.one_way last.from s.to back),
        subst (λ b. point_lt last.from (cond (not b) s.to last.from) ≡ false) (sym back) (point_lt-itself last.from),
      )
      by false along = (
        subst (λ b. point_lt s.to (cond (not b) s.to last.from) ≡ false) (sym along) (point_lt-itself s.to),
        subst (λ b. point_lt last.from (cond (not b) s.to last.from) ≡ false) (sym along) along,
      )

  -- no step is along an edge before it
  pub found_first : (u : Step) → Contains (s ∷ ss) u → edge_lt (edge_of u) (found_edge s ss) ≡ false
  found_first u c = by (is_forward u) refl
    where
      by : (t : Bool) → is_forward u ≡ t → edge_lt (edge_of u) (found_edge s ss) ≡ false
      by true forth = subst (λ (e : Edge). edge_lt e (found_edge s ss) ≡ false)
          (ap (λ t. cond {A = Edge} t (record { a = u.from; b = u.to }) (record { a = u.to; b = u.from })) (sym forth))
          (not_before (record { a = u.from; b = u.to }) (found_edge s ss)
          (subst (λ v. point_lt u.from v ≡ false) (sym leads.0) (starts_least u c))
          (λ at. subst (λ (w : Step). point_lt w.to (found_edge s ss).b ≡ false)
          (first_alone u c (at ∙ leads.0)) first_of_two.0))
      by false back = subst (λ (e : Edge). edge_lt e (found_edge s ss) ≡ false)
          (ap (λ t. cond {A = Edge} t (record { a = u.from; b = u.to }) (record { a = u.to; b = u.from })) (sym back))
          (not_before (record { a = u.to; b = u.from }) (found_edge s ss)
          (subst (λ v. point_lt u.to v ≡ false) (sym leads.0) (ends_least u c))
          (λ at. subst (λ (w : Step). point_lt w.from (found_edge s ss).b ≡ false)
          (last_alone u c (at ∙ leads.0)) first_of_two.1))

  -- ---- where it leaves along that edge

  pub first_forward : is_forward s ≡ true
  first_forward = subst (λ v. point_lt v s.to ≡ true) (sym leads.0)
      (point_lt-back s.to p (point_eq-apart s.to p (λ at. has_length s (Contains-head s ss) (leads.0 ∙ sym at)))
      (ends_least s (Contains-head s ss)))

  pub found_along : leaves_along_first s ss ≡ true → edge_of s ≡ found_edge s ss
  found_along along = ap (λ t. cond {A = Edge} t (record { a = s.from; b = s.to }) (record { a = s.to; b = s.from }))
      first_forward ∙ ap (λ t. record { a = s.from; b = cond t s.to last.from }) (sym along)

  -- ---- where it comes back along it

  pub last_backward : is_forward (reversed_step last) ≡ true
  last_backward = subst (λ v. point_lt v last.from ≡ true) (sym last_returns)
      (point_lt-back last.from p
      (point_eq-apart last.from p (λ at. has_length last (last_contained s ss) (at ∙ sym last_returns)))
      (starts_least last (last_contained s ss)))

  pub found_back : leaves_along_first s ss ≡ false → edge_of (reversed_step last) ≡ found_edge s ss
  found_back back = ap (λ t. cond {A = Edge} t (record { a = last.to; b = last.from })
      (record { a = last.from; b = last.to })) last_backward
      ∙ (λ i. record { a = (last_returns ∙ sym leads.0) i; b = last.from })
      ∙ ap (λ t. record { a = s.from; b = cond t s.to last.from }) (sym back)

  -- it does not leave along it
  pub not_along_upper : leaves_along_first s ss ≡ false → (u : Step) → u.from ≡ (found_edge s ss).a →
      u.to ≡ (found_edge s ss).b → ¬ (Contains (s ∷ ss) u)
  not_along_upper back u start end c = both_ways (leaves_along_first s ss) back
      (not_from_false (point_lt last.from s.to) (subst (λ v. point_lt last.from v ≡ false) (sym same)
      (point_lt-itself last.from)))
    where
      same : s.to ≡ last.from
      same = ap (λ (t : Step). t.to) (first_alone u c (start ∙ leads.0)) ∙ end
          ∙ ap (λ t. cond t s.to last.from) back
