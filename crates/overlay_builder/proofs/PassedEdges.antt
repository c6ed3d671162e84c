-- The edge of a step of a path: the program's edge for it, which a builder may hold.
use Rattle.std.proofs.Common.{◌≡◌, ℕ, ◌<◌, ◌^◌, Bool, true, false, cond, [], ◌∷◌, map, refl, sym, subst}
use Rattle.std.specs.List.{All}
use Rattle.std.proofs.lemmas.List.Elements.{All-nil, All-cons, All-head}
use Rattle.overlay_geom.specs.Plane.{Point, Edge, point_eq, point_lt, steps_between}
use Rattle.overlay_geom.specs.Points.{InRange}
use Rattle.overlay_geom.specs.Counts.{Counts, weight_of_counts}
use Rattle.overlay_geom.proofs.Orders.{point_lt-back}
use Rattle.overlay_plane.specs.Carried.{Carried}
use Rattle.overlay_order.specs.Content.{IsHeld, edge_with}
use Rattle.overlay_builder.specs.Paths.{passed_edge, AreLight}
use Rattle.overlay_builder.specs.declared.path.StepCounts.{StepCounts}

-- an edge may be added: a builder may hold it, and it weighs less than the limit
pub record MayBeAdded {C : Type 0} (limit : ℕ) (counts : C → Counts) (x : Carried C) : Type 0 where
  pub held : IsHeld limit x.edge
  pub light : weight_of_counts (counts x.carries) < 2 ^ 31

module _ {C : Type 0} (limit : ℕ) (counts : C → Counts) (passing : StepCounts C) where
  -- the edge of a step from p to q, where p is the smaller, or is not
  abbrev passed_by : Bool → Point → Point → Carried C
  passed_by t p q = record {
    edge = edge_with (cond {A = Edge} t (record { a = p; b = q }) (record { a = q; b = p })).a
        (cond {A = Edge} t (record { a = p; b = q }) (record { a = q; b = p })).b
        (counts (cond t passing.along passing.back));
    carries = cond t passing.along passing.back;
  }

  may_add_step : AreLight counts passing → (p q : Point) → InRange limit p → InRange limit q → point_eq p q ≡ false
      → (t : Bool) → point_lt p q ≡ t → MayBeAdded limit counts (passed_by t p q)
  may_add_step light p q hp hq apart true way =
      record { held = record { forward = way; a_in_range = hp; b_in_range = hq }; light = light.along }
  may_add_step light p q hp hq apart false way =
      record {
        held = record { forward = point_lt-back p q apart way; a_in_range = hq; b_in_range = hp };
        light = light.back;
      }

  -- those of the steps between two points in range
  may_add_between : AreLight counts passing → (p q : Point) → InRange limit p → InRange limit q
      → All (MayBeAdded limit counts) (map (passed_edge counts passing) (steps_between p q))
  may_add_between light p q hp hq = by (point_eq p q) refl
    where
      by : (s : Bool) → point_eq p q ≡ s
          → All (MayBeAdded limit counts)
          (map (passed_edge counts passing) (cond s [] (record { from = p; to = q } ∷ [])))
      by true same = All-nil (MayBeAdded limit counts)
      by false apart =
          All-cons (MayBeAdded limit counts) (passed_by (point_lt p q) p q) []
          (may_add_step light p q hp hq apart (point_lt p q) refl) (All-nil (MayBeAdded limit counts))

  -- the single edge between two points in range
  pub may_add : AreLight counts passing → (x : Carried C) (p q : Point) → InRange limit p → InRange limit q
      → x ∷ [] ≡ map (passed_edge counts passing) (steps_between p q) → MayBeAdded limit counts x
  may_add light x p q hp hq is =
      All-head (MayBeAdded limit counts) x []
      (subst (λ xs. All (MayBeAdded limit counts) xs) (sym is) (may_add_between light p q hp hq))
