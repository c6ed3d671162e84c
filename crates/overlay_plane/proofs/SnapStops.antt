-- The chain of a snapped edge: the steps through the whole points nearest points of the edge. Each point of the edge
-- lies between two neighbours of these.
use Rattle.std.proofs.Common.{◌≡◌, ◌⊎◌, inl, inr, Bool, true, false, cond, pos, List, [], ◌∷◌, ◌++◌, map, Contains}
use Rattle.std.proofs.Common.{refl, sym, ap, ap₂, ◌∙◌, subst}
use Rattle.std.specs.List.{All}
use Rattle.std.proofs.lemmas.List.{map-append}
use Rattle.std.proofs.lemmas.List.Elements.{All-nil, All-cons, All-append, All-map, All-weaker, All-contains}
use Rattle.std.proofs.lemmas.List.Elements.{Contains-append_right}
use Rattle.overlay_geom.specs.Plane.{Point, PlanePoint, Step, Edge, IsOn, in_plane, point_eq, steps_between}
use Rattle.overlay_geom.specs.Plane.{steps_through}
use Rattle.overlay_geom.specs.Edges.{CountedEdge, ends_of}
use Rattle.overlay_geom.specs.Rounding.{nearest, nearest_point}
use Rattle.overlay_geom.proofs.Entries.{Contains-head, Contains-later, Contains-cases}
use Rattle.overlay_geom.proofs.Identities.{solve, number, ◌⊗◌, ◌≗◌}
use Rattle.overlay_geom.proofs.Orders.{point_eq-same, same_point}
use Rattle.overlay_geom.proofs.Rounded.{nearest-whole}
use Rattle.overlay_plane.specs.Rounds.{Round, whole_cuts, chain_of}
use Rattle.overlay_plane.proofs.Ends.{start_on, end_on}
use Rattle.overlay_plane.proofs.LinksKept.{IsBetweenGood, good_through}

-- a whole point is nearest to itself
pub nearest_itself : (v : Point) → nearest_point (in_plane v) ≡ v
nearest_itself v = same_point (nearest_point (in_plane v)) v (at v.x) (at v.y)
  where
    at : (z : _) → nearest z (pos 1) ≡ z
    at z = ap (λ u. nearest u (pos 1)) (solve 1 (λ z. z ≗ z ⊗ number (pos 1)) tt z)
        ∙ nearest-whole z (pos 1) (record { lt = tt })

-- ---- any steps through points

-- w is an end of one of the steps
abbrev pub IsEndOfSome : List Step → Point → Type 0
IsEndOfSome ss w = (s : Step) × Contains ss s × ((s.from ≡ w) ⊎ (s.to ≡ w))

-- an end of a later step
end_later : (t : Step) (ss : List Step) (w : Point) → IsEndOfSome ss w → IsEndOfSome (t ∷ ss) w
end_later t ss w end = (end.0, Contains-later t ss end.0 end.1, end.2)

-- all points are one, or each is an end of a step through them
pub ends_of_steps : (u : Point) (vs : List Point) →
    All (λ v. u ≡ v) vs ⊎ ((w : Point) → Contains (u ∷ vs) w → IsEndOfSome (steps_through u vs) w)
ends_of_steps u [] = inl (All-nil (λ v. u ≡ v))
ends_of_steps u (v ∷ vs) = by (point_eq u v) refl (ends_of_steps v vs)
  where
    by : (t : Bool) → point_eq u v ≡ t →
        All (λ w. v ≡ w) vs ⊎ ((w : Point) → Contains (v ∷ vs) w → IsEndOfSome (steps_through v vs) w) →
        All (λ w. u ≡ w) (v ∷ vs) ⊎ ((w : Point) → Contains (u ∷ v ∷ vs) w →
        IsEndOfSome (cond t [] (record { from = u; to = v } ∷ []) ++ steps_through v vs) w)
    by true e (inl one) =
        let same = point_eq-same u v e in
        inl (All-cons (λ w. u ≡ w) v vs same (All-weaker (λ w. v ≡ w) (λ w. u ≡ w) (λ w is. same ∙ is) vs one))
    by true e (inr ends) = inr (λ w has. elim (Contains-cases u (v ∷ vs) w has) [
      | inl is ↦ ends w (subst (Contains (v ∷ vs)) (sym (point_eq-same u v e) ∙ is) (Contains-head v vs))
      | inr later ↦ ends w later
    ])
    by false e (inl one) = inr (λ w has. elim (Contains-cases u (v ∷ vs) w has) [
      | inl is ↦ (record { from = u; to = v }, Contains-head (record { from = u; to = v }) (steps_through v vs), inl is)
      | inr later ↦ (
        record { from = u; to = v },
        Contains-head (record { from = u; to = v }) (steps_through v vs),
        inr (All-contains (λ z. v ≡ z) (v ∷ vs) w (All-cons (λ z. v ≡ z) v vs refl one) later),
      )
    ])
    by false e (inr ends) = inr (λ w has. elim (Contains-cases u (v ∷ vs) w has) [
      | inl is ↦ (record { from = u; to = v }, Contains-head (record { from = u; to = v }) (steps_through v vs), inl is)
      | inr later ↦ end_later (record { from = u; to = v }) (steps_through v vs) w (ends w later)
    ])

module _ {X : Type 0} (round : X → Point) (P Q : X → Type 0) where
  -- two neighbours, the first a P and the second a Q: their step is one of the steps, or they round to one point
  pub record Change (xs : List X) (ss : List Step) : Type 0 where
    pub first : X
    pub second : X
    pub first_in : Contains xs first
    pub second_in : Contains xs second
    pub is_first : P first
    pub is_second : Q second
    pub joined : (round first ≡ round second) ⊎ Contains ss (record { from = round first; to = round second })

  -- such neighbours further on
  change_later : (x y : X) (ys : List X) → Change (y ∷ ys) (steps_through (round y) (map round ys)) →
      Change (x ∷ y ∷ ys) (steps_through (round x) (map round (y ∷ ys)))
  change_later x y ys c = record {
    first = c.first;
    second = c.second;
    first_in = Contains-later x (y ∷ ys) c.first c.first_in;
    second_in = Contains-later x (y ∷ ys) c.second c.second_in;
    is_first = c.is_first;
    is_second = c.is_second;
    joined = elim c.joined [
      | inl same ↦ inl same
      | inr has ↦ inr (Contains-append_right (steps_between (round x) (round y))
          (steps_through (round y) (map round ys)) (record { from = round c.first; to = round c.second }) has)
    ];
  }

  -- the step between two points, before others, or the two are equal
  joined_here : (u v : Point) (ss : List Step) →
      (u ≡ v) ⊎ Contains (steps_between u v ++ ss) (record { from = u; to = v })
  joined_here u v ss = by (point_eq u v) refl
    where
      by : (t : Bool) → point_eq u v ≡ t →
          (u ≡ v) ⊎ Contains (cond t [] (record { from = u; to = v } ∷ []) ++ ss) (record { from = u; to = v })
      by true e = inl (point_eq-same u v e)
      by false e = inr (Contains-head (record { from = u; to = v }) ss)

  -- from a P on there are such neighbours, or the last is a P
  pub change_between : (each : (x : X) → P x ⊎ Q x) (x : X) (ys : List X) (z : X) → P x →
      P z ⊎ Change (x ∷ ys ++ z ∷ []) (steps_through (round x) (map round (ys ++ z ∷ [])))
  change_between each x [] z is = elim (each z) [
    | inl last ↦ inl last
    | inr other ↦ inr (record {
      first = x;
      second = z;
      first_in = Contains-head x (z ∷ []);
      second_in = Contains-later x (z ∷ []) z (Contains-head z []);
      is_first = is;
      is_second = other;
      joined = joined_here (round x) (round z) [];
    })
  ]
  change_between each x (y ∷ ys) z is = elim (each y) [
    | inl next ↦ elim (change_between each y ys z next) [
      | inl last ↦ inl last
      | inr change ↦ inr (change_later x y (ys ++ z ∷ []) change)
    ]
    | inr other ↦ inr (record {
      first = x;
      second = y;
      first_in = Contains-head x (y ∷ ys ++ z ∷ []);
      second_in = Contains-later x (y ∷ ys ++ z ∷ []) y (Contains-head y (ys ++ z ∷ []));
      is_first = is;
      is_second = other;
      joined = joined_here (round x) (round y) (steps_through (round y) (map round (ys ++ z ∷ [])));
    })
  ]

-- ---- the chain of an edge

-- v is the whole point nearest some point of e
abbrev pub IsRounded : Edge → Point → Type 0
IsRounded e v = (p : PlanePoint) × IsOn e p × (nearest_point p ≡ v)

-- the points at which a round cuts an edge, and its larger end
abbrev pub places_after : Round → CountedEdge → List PlanePoint
places_after r e = r.cuts e ++ in_plane e.b ∷ []

-- and all with its smaller
abbrev pub places : Round → CountedEdge → List PlanePoint
places r e = in_plane e.a ∷ places_after r e

-- the steps through the whole points nearest the places
abbrev pub rounded_chain : Round → CountedEdge → List Step
rounded_chain r e = steps_through (nearest_point (in_plane e.a)) (map nearest_point (places_after r e))

module _ (r : Round) (rounding : (p : PlanePoint) → r.whole_at p ≡ nearest_point p) (e : CountedEdge) where
  -- the whole points nearest the places are those through which the chain of the edge leads
  pub rounded_places : map nearest_point (places_after r e) ≡ whole_cuts r e ++ e.b ∷ []
  rounded_places = map-append nearest_point (r.cuts e) (in_plane e.b ∷ [])
      ∙ ap₂ (λ f v. map f (r.cuts e) ++ v ∷ []) (λ i p. sym (rounding p) i) (nearest_itself e.b)

  -- the steps are its chain
  pub rounded_chain-is : rounded_chain r e ≡ chain_of r e
  rounded_chain-is = ap₂ steps_through (nearest_itself e.a) rounded_places

  module _ (on : All (IsOn (ends_of e)) (r.cuts e)) where
    -- the places lie on the edge
    pub places_on : All (IsOn (ends_of e)) (places r e)
    places_on = All-cons (IsOn (ends_of e)) (in_plane e.a) (places_after r e) (start_on (ends_of e))
        (All-append (IsOn (ends_of e)) (r.cuts e) (in_plane e.b ∷ []) on
        (All-cons (IsOn (ends_of e)) (in_plane e.b) [] (end_on (ends_of e)) (All-nil (IsOn (ends_of e)))))

    -- each point through which the chain leads is nearest to a point of the edge
    pub rounded_after : All (IsRounded (ends_of e)) (map nearest_point (places_after r e))
    rounded_after = All-map (IsRounded (ends_of e)) nearest_point (places_after r e)
        (All-weaker (IsOn (ends_of e)) (λ p. IsRounded (ends_of e) (nearest_point p)) (λ p at. (p, at, refl))
        (places_after r e)
        (All-append (IsOn (ends_of e)) (r.cuts e) (in_plane e.b ∷ []) on
        (All-cons (IsOn (ends_of e)) (in_plane e.b) [] (end_on (ends_of e)) (All-nil (IsOn (ends_of e))))))

    -- each step leads from one to another
    pub chain_between_rounded : All (IsBetweenGood (IsRounded (ends_of e))) (chain_of r e)
    chain_between_rounded = subst (All (IsBetweenGood (IsRounded (ends_of e)))) rounded_chain-is
        (good_through (IsRounded (ends_of e)) (nearest_point (in_plane e.a)) (map nearest_point (places_after r e))
        (in_plane e.a, start_on (ends_of e), refl) rounded_after)
