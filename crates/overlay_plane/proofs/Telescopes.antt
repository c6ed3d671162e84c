-- The rises of a number given to each point add up along a walk to the rise from its start to its end, and round a
-- closed walk to 0.
use Rattle.std.proofs.Common.{◌≡◌, Bool, true, false, cond, ℤ, pos, negsuc, ◌-ℤ◌, ◌*ℤ◌, List, [], ◌∷◌, ◌++◌, refl, sym}
use Rattle.std.proofs.Common.{ap, ◌∙◌, arith}
use Rattle.std.specs.List.{All}
use Rattle.std.specs.Bool.{⊤}
use Rattle.std.proofs.lemmas.Int.{ints}
use Rattle.std.proofs.lemmas.List.Elements.{All-head, All-tail}
use lib.IntN.{+ℤ_idr}
use Rattle.overlay_geom.specs.Plane.{Point, Step, Edge, point_eq, point_lt, edge_of, sign_of, steps_between}
use Rattle.overlay_geom.specs.Plane.{steps_through, steps_of, total}
use Rattle.overlay_geom.proofs.Signs.{linear}
use Rattle.overlay_geom.proofs.Orders.{point_eq-same}
use Rattle.overlay_plane.proofs.AlongLines.{nothing_left}
use Rattle.overlay_plane.proofs.JoinedLists.{total-append}
use Rattle.overlay_plane.proofs.Walks.{last_from}

-- a walk to a further point ends there
pub last_from-append : (u : Point) (vs : List Point) (w : Point) → last_from u (vs ++ w ∷ []) ≡ w
last_from-append u [] w = refl
last_from-append u (v ∷ vs) w = last_from-append v vs w

-- along a walk through points of one kind, if between any two of them
pub rises_along : (count : Step → ℤ) (g : Point → ℤ) (Good : Point → Type 0) →
    ((u v : Point) → Good u → Good v → total count (steps_between u v) ≡ g v -ℤ g u) → (u : Point) (vs : List Point) →
    Good u → All Good vs →
    total count (steps_through u vs) ≡ g (last_from u vs) -ℤ g u
rises_along count g Good between u [] at_u at_vs = nothing_left (g u)
rises_along count g Good between u (v ∷ vs) at_u at_vs =
    let at_v = All-head Good v vs at_vs in
    let first = between u v at_u at_v in
    let rest = rises_along count g Good between v vs at_v (All-tail Good v vs at_vs) in
    let parts = total-append count (steps_between u v) (steps_through v vs) in
    omega linear

-- ---- the rise of a step

-- how much g rises along the step's edge, with the step's sign
abbrev pub signed_rise : (Point → ℤ) → Step → ℤ
signed_rise g s = sign_of s *ℤ (g (edge_of s).b -ℤ g (edge_of s).a)

-- it is how much g rises along the step
pub signed_rise-is : (g : Point → ℤ) (s : Step) → signed_rise g s ≡ g s.to -ℤ g s.from
signed_rise-is g s = by (point_lt s.from s.to)
  where
    way : Bool → Edge
    way t = cond t (record { a = s.from; b = s.to }) (record { a = s.to; b = s.from })

    by : (t : Bool) → cond t (pos 1) (negsuc 0) *ℤ (g (way t).b -ℤ g (way t).a) ≡ g s.to -ℤ g s.from
    by true = omega (arith, ints)
    by false = omega (arith, ints)

-- the rise between two points, equal or not
signed_rise-between : (g : Point → ℤ) (u v : Point) → total (signed_rise g) (steps_between u v) ≡ g v -ℤ g u
signed_rise-between g u v = by (point_eq u v) refl
  where
    by : (t : Bool) → point_eq u v ≡ t → total (signed_rise g) (cond t [] (record { from = u; to = v } ∷ [])) ≡ g v -ℤ g
        u
    by true same = nothing_left (g v) ∙ ap (λ w. g v -ℤ g w) (sym (point_eq-same u v same))
    by false apart = +ℤ_idr (signed_rise g (record { from = u; to = v }))
        ∙ signed_rise-is g (record { from = u; to = v })

-- a true fact holds of all
everywhere : (vs : List Point) → All (λ (v : Point). ⊤) vs
everywhere vs = λ k d within. tt

-- the rises along the steps of a chain to a last point
pub signed_rise-chain : (g : Point → ℤ) (u : Point) (vs : List Point) (w : Point) →
    total (signed_rise g) (steps_through u (vs ++ w ∷ [])) ≡ g w -ℤ g u
signed_rise-chain g u vs w = rises_along (signed_rise g) g (λ v. ⊤) (λ x y here there. signed_rise-between g x y) u
    (vs ++ w ∷ []) tt (everywhere (vs ++ w ∷ []))
    ∙ ap (λ z. g z -ℤ g u) (last_from-append u vs w)

-- the rise round a closed list is 0
pub signed_rise-around : (g : Point → ℤ) (ps : List Point) → total (signed_rise g) (steps_of ps) ≡ pos 0
signed_rise-around g [] = refl
signed_rise-around g (p ∷ ps) = signed_rise-chain g p ps p ∙ sym (nothing_left (g p))
