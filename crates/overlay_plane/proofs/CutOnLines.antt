-- Edges cut through points on their lines keep their windings: along a line the signs of steps strictly below a point
-- telescope.
use Rattle.std.proofs.Common.{◌≡◌, ◌⊎◌, inr, ⊎_elim, Bool, true, false, cond, ◌&&◌, ℤ, pos, ◌-ℤ◌, ◌*ℤ◌, ◌<ℤ◌}
use Rattle.std.proofs.Common.{int_lt, List, [], ◌∷◌, ◌++◌, Contains, sym, ap, ◌∙◌}
use Rattle.std.specs.List.{All, flat_map}
use Rattle.std.specs.Ordering.{int_eq}
use Rattle.std.proofs.lemmas.Bool.{and_parts, or_cases}
use Rattle.std.proofs.lemmas.Int.{by_lt_z}
use Rattle.std.proofs.lemmas.List.{append-nil}
use Rattle.std.proofs.lemmas.List.Elements.{All-contains, All-append, All-cons, All-nil}
use Rattle.overlay_geom.specs.Plane.{Point, PlanePoint, Step, Edge, point_lt, edge_of, sign_of, is_strictly_below}
use Rattle.overlay_geom.specs.Plane.{steps_between, steps_through, winding}
use Rattle.overlay_geom.specs.Edges.{CountedEdge, ends_of, subj_of, clip_of, winding_by}
use lib.IntN.{*ℤ-zero, *ℤ_comm}
use Rattle.overlay_geom.proofs.Identities.{solve, number, ◌⊕◌, ◌⊗◌, ◌⊖◌, ◌≗◌}
use Rattle.overlay_geom.proofs.Signs.{linear, zero_of_mul-zero, mul-zero}
use Rattle.overlay_plane.specs.Heights.{width}
use Rattle.overlay_plane.specs.Regions.{one_if}
use Rattle.overlay_plane.specs.Cutting.{piece_along, pieces_through, AreOnLine, CuttingOnALineKeepsWindings}
use Rattle.overlay_plane.specs.Cutting.{CuttingOnLinesKeepsWindings}
use Rattle.overlay_plane.proofs.AlongLines.{winding_part, IsOnLine, left_above, winding_part-on_line}
use Rattle.overlay_plane.proofs.AlongLines.{winding_part-vertical, below_on_line, vertical_below}
use Rattle.overlay_plane.proofs.JoinedLists.{total-map, total-flat_map, total-times, taken_out}
use Rattle.overlay_plane.proofs.LineForms.{formE, side-start, side-end}
use Rattle.overlay_plane.proofs.PieceCounts.{subj_of_piece, clip_of_piece}
use Rattle.overlay_plane.proofs.Strip.{starts_first}
use Rattle.overlay_plane.proofs.Telescopes.{rises_along, last_from-append}
use Rattle.overlay_plane.proofs.Tests.{lt_from_test}
use Rattle.overlay_plane.proofs.Totals.{total-same}

-- the points of the chain that ends an edge are all on its line
chain_on_line : (e : Edge) (vs : List Point) → All (IsOnLine e) vs → All (IsOnLine e) (vs ++ e.b ∷ [])
chain_on_line e vs on = All-append (IsOnLine e) vs (e.b ∷ []) on
    (All-cons (IsOnLine e) e.b [] (side-end e) (All-nil (IsOnLine e)))

-- a forward edge with both ends at one x-coordinate goes up
vertical_goes_up : (e : Edge) → point_lt e.a e.b ≡ true → e.a.x ≡ e.b.x → e.a.y <ℤ e.b.y
vertical_goes_up e forward level = ⊎_elim (λ l. let less = lt_from_test e.a.x e.b.x l in absurd (omega linear))
    (λ r. lt_from_test e.a.y e.b.y (and_parts (int_eq e.a.x e.b.x) (int_lt e.a.y e.b.y) r).1)
    (or_cases (int_lt e.a.x e.b.x) (int_eq e.a.x e.b.x && int_lt e.a.y e.b.y) forward)

-- the points on its line have that x-coordinate
on_vertical_line : (e : Edge) (v : Point) → point_lt e.a e.b ≡ true → e.a.x ≡ e.b.x → IsOnLine e v → v.x ≡ e.a.x
on_vertical_line e v forward level on =
    let identity = solve 6 (λ ax ay bx by vx vy. formE ax ay bx by vx vy (number (pos 1)) ≗ (by ⊖ ay) ⊗ (ax ⊖ vx) ⊕
    (vy ⊖ ay) ⊗ (bx ⊖ ax)) tt e.a.x e.a.y e.b.x e.b.y v.x v.y in
    let none = mul-zero (v.y -ℤ e.a.y) (e.b.x -ℤ e.a.x) (omega linear) in
    let up = vertical_goes_up e forward level in
    let zero = zero_of_mul-zero (e.b.y -ℤ e.a.y) (e.a.x -ℤ v.x) (omega linear) (omega linear) in
    omega linear

-- a chain on the line of a forward edge, from its smaller to its larger end, winds round the points that the edge is
-- strictly below
pub winding-chain_on_line : (e : Edge) → point_lt e.a e.b ≡ true → (vs : List Point) → All (IsOnLine e) vs →
    (p : PlanePoint) →
    winding (steps_through e.a (vs ++ e.b ∷ [])) p ≡ one_if (is_strictly_below e p)
winding-chain_on_line e forward vs on p = by_lt_z e.a.x e.b.x slanted
    (λ ge. vertical (let le = starts_first e forward in omega linear))
  where
    slanted : e.a.x <ℤ e.b.x → winding (steps_through e.a (vs ++ e.b ∷ [])) p ≡ one_if (is_strictly_below e p)
    slanted lt =
        let wide : pos 0 <ℤ width e = omega linear in
        rises_along (winding_part p) (left_above e p) (IsOnLine e) (winding_part-on_line e p wide) e.a (vs ++ e.b ∷ [])
        (side-start e) (chain_on_line e vs on)
        ∙ ap (λ v. left_above e p v -ℤ left_above e p e.a) (last_from-append e.a vs e.b)
        ∙ sym (below_on_line e p wide e.a e.b (side-start e) (side-end e) (omega linear))

    vertical : e.a.x ≡ e.b.x → winding (steps_through e.a (vs ++ e.b ∷ [])) p ≡ one_if (is_strictly_below e p)
    vertical level =
        rises_along (winding_part p) (λ v. pos 0) (IsOnLine e)
        (λ u v on_u on_v. winding_part-vertical p u v (on_vertical_line e u forward level on_u
        ∙ sym (on_vertical_line e v forward level on_v)))
        e.a (vs ++ e.b ∷ []) (side-start e) (chain_on_line e vs on)
        ∙ sym (ap one_if (vertical_below p e.a e.b level))

-- the law of a step cut on its line
pub cutting_on_a_line_keeps_windings : CuttingOnALineKeepsWindings
cutting_on_a_line_keeps_windings e forward vs on p = winding-chain_on_line e forward vs on p
    ∙ sym (winding-chain_on_line e forward [] (All-nil (IsOnLine e)) p)
    ∙ ap (λ ss. winding ss p) (append-nil (steps_between e.a e.b))

-- the chain of an edge through its points winds round p as the edge does
abbrev pub WindsAsBefore : (CountedEdge → List Point) → PlanePoint → CountedEdge → Type 0
WindsAsBefore points p e = winding (steps_through e.a (points e ++ e.b ∷ [])) p ≡ one_if
    (is_strictly_below (ends_of e) p)

-- the pieces of an edge make together the windings of the edge round a point round which its chain winds as the edge,
-- and none where the edge has no count
pieces_wind : (count : CountedEdge → ℤ) (points : CountedEdge → List Point) →
    ((e : CountedEdge) (s : Step) → count (piece_along e s) ≡ sign_of s *ℤ count e) →
    (p : PlanePoint) (e : CountedEdge) → (count e ≡ pos 0) ⊎ WindsAsBefore points p e →
    winding_by count (pieces_through points e) p ≡ cond (is_strictly_below (ends_of e) p) (count e) (pos 0)
pieces_wind count points each p e counted =
    total-map (λ f. cond (is_strictly_below (ends_of f) p) (count f) (pos 0)) (piece_along e) chain
    ∙ total-same (λ s. cond (is_strictly_below (edge_of s) p) (count (piece_along e s)) (pos 0))
    (λ s. count e *ℤ winding_part p s) chain
    (λ s at. ap (λ z. cond (is_strictly_below (edge_of s) p) z (pos 0)) (each e s)
    ∙ taken_out (is_strictly_below (edge_of s) p) (sign_of s) (count e))
    ∙ total-times (count e) (winding_part p) chain
    ∙ ⊎_elim (λ none. times_none (count e) (winding chain p) (one_if (is_strictly_below (ends_of e) p)) none)
    (λ winds. ap (λ z. count e *ℤ z) winds) counted
    ∙ times_one (is_strictly_below (ends_of e) p) (count e)
  where
    chain : List Step
    chain = steps_through e.a (points e ++ e.b ∷ [])

    times_none : (c w z : ℤ) → c ≡ pos 0 → c *ℤ w ≡ c *ℤ z
    times_none c w z none = *ℤ_comm c w ∙ mul-zero w c none ∙ sym (*ℤ_comm c z ∙ mul-zero z c none)

    times_one : (t : Bool) (c : ℤ) → c *ℤ one_if t ≡ cond t c (pos 0)
    times_one true c = solve 1 (λ c. c ⊗ number (pos 1) ≗ c) tt c
    times_one false c = *ℤ-zero c

-- a list whose edges are cut makes the windings of the list there, where edges with counts wind as before
pub winding_by-cut_counted : (count : CountedEdge → ℤ) (points : CountedEdge → List Point) (es : List CountedEdge) →
    ((e : CountedEdge) (s : Step) → count (piece_along e s) ≡ sign_of s *ℤ count e) →
    (p : PlanePoint) → ((e : CountedEdge) → Contains es e → (count e ≡ pos 0) ⊎ WindsAsBefore points p e) →
    winding_by count (flat_map (pieces_through points) es) p ≡ winding_by count es p
winding_by-cut_counted count points es each p winds =
    total-flat_map (λ f. cond (is_strictly_below (ends_of f) p) (count f) (pos 0)) (pieces_through points) es
    ∙ total-same (λ e. winding_by count (pieces_through points e) p)
    (λ e. cond (is_strictly_below (ends_of e) p) (count e) (pos 0)) es
    (λ e at. pieces_wind count points each p e (winds e at))

-- so where all wind as before
pub winding_by-cut : (count : CountedEdge → ℤ) (points : CountedEdge → List Point) (es : List CountedEdge) →
    ((e : CountedEdge) (s : Step) → count (piece_along e s) ≡ sign_of s *ℤ count e) →
    (p : PlanePoint) → ((e : CountedEdge) → Contains es e → WindsAsBefore points p e) →
    winding_by count (flat_map (pieces_through points) es) p ≡ winding_by count es p
winding_by-cut count points es each p winds = winding_by-cut_counted count points es each p
    (λ e at. inr (winds e at))

-- the law of edges cut on their lines
pub cutting_on_lines_keeps_windings : CuttingOnLinesKeepsWindings
cutting_on_lines_keeps_windings es points forward on = record {
  subj = λ p. winding_by-cut subj_of points es subj_of_piece p (winds p);
  clip = λ p. winding_by-cut clip_of points es clip_of_piece p (winds p);
}
  where
    winds : (p : PlanePoint) (e : CountedEdge) → Contains es e → WindsAsBefore points p e
    winds p e at = winding-chain_on_line (ends_of e) (All-contains (λ e. point_lt e.a e.b ≡ true) es e forward at)
        (points e) (All-contains (AreOnLine points) es e on at) p
