-- Steps that alternate round every node: between two that leave one arrives, and between two that arrive one leaves.
use Rattle.std.specs.Prelude.{◌≡◌, pos, ◌<ℤ◌, List, Contains}
use Rattle.overlay_geom.specs.Plane.{Point, Step, cross_at}
use Rattle.overlay_plane.specs.Turn.{IsMetBefore, dot_at}
use Rattle.overlay_plane.specs.Turn.Hand.{right}

-- a ray at v that turns counterclockwise from p comes to m before it comes to q
abbrev pub IsMetBetween : Point → Point → Point → Point → Type 0
IsMetBetween v p m q = IsMetBefore right v p m q

-- p and q lie in one direction from v
pub record AreOneWay (v p q : Point) : Type 0 where
  pub on_line : cross_at v p q ≡ pos 0
  pub ahead : pos 0 <ℤ (dot_at v p q)

-- the set of steps alternates round every node; no two steps there run along one ray, and each step has a length
pub record Alternates (steps : List Step) : Type 0 where
  pub long : (s : Step) → Contains steps s → ¬ (s.from ≡ s.to)
  pub one_leaves : (s t : Step) → Contains steps s → Contains steps t → s.from ≡ t.from → AreOneWay s.from s.to t.to →
      s ≡ t
  pub one_arrives : (s t : Step) → Contains steps s → Contains steps t → s.to ≡ t.to → AreOneWay s.to s.from t.from →
      s ≡ t
  pub none_both : (s t : Step) → Contains steps s → Contains steps t → s.to ≡ t.from → ¬ (AreOneWay s.to s.from t.to)
  pub arrives_between : (s t : Step) → Contains steps s → Contains steps t → s.from ≡ t.from → ¬ (s ≡ t) →
      (u : Step) × Contains steps u × (u.to ≡ s.from) × IsMetBetween s.from s.to u.from t.to
  pub leaves_between : (s t : Step) → Contains steps s → Contains steps t → s.to ≡ t.to → ¬ (s ≡ t) →
      (u : Step) × Contains steps u × (u.from ≡ s.to) × IsMetBetween s.to s.from u.to t.from
  pub goes_on : (s : Step) → Contains steps s → (t : Step) × Contains steps t × (t.from ≡ s.to)
  pub comes_in : (t : Step) → Contains steps t → (s : Step) × Contains steps s × (s.to ≡ t.from)
