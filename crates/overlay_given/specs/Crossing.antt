-- Edges that cross.
use Rattle.std.specs.Prelude.{◌≡◌, Bool, true, ◌&&◌, ◌||◌, ℕ, pos, List, Contains}
use Rattle.std.specs.Ordering.{int_eq}
use Rattle.overlay_geom.specs.Edges.{CountedEdge, ends_of, subj_of, clip_of}
use Rattle.overlay_geom.specs.Plane.{Edge}
use Rattle.overlay_pairs.specs.Places.{IsAt}
use Rattle.overlay_scaled.specs.BesidePieces.{is_right_of}
use Rattle.overlay_given.specs.Steps.{is_left_of}

-- the ends of f lie on different sides of the line of e
abbrev pub crosses_line : Edge → Edge → Bool
crosses_line e f = (is_left_of e f.a && is_right_of e f.b) || (is_right_of e f.a && is_left_of e f.b)

-- the edges cross
abbrev pub cross : Edge → Edge → Bool
cross e f = crosses_line e f && crosses_line f e

-- one edge has counts of the subject alone, and the other of the clip alone
abbrev pub are_of_two : CountedEdge → CountedEdge → Bool
are_of_two e f = (int_eq (clip_of e) (pos 0) && int_eq (subj_of f) (pos 0))
    || (int_eq (subj_of e) (pos 0) && int_eq (clip_of f) (pos 0))

-- so the edges of two shapes cross
abbrev pub cross_of_two : CountedEdge → CountedEdge → Bool
cross_of_two e f = are_of_two e f && cross (ends_of e) (ends_of f)

-- the edge at place i and that at one of the places pass the test
abbrev pub PassesAtSome : (CountedEdge → CountedEdge → Bool) → List CountedEdge → ℕ → List ℕ → Type 0
PassesAtSome test es i js = (k : ℕ) × (e : CountedEdge) × (f : CountedEdge) × Contains js k × IsAt es i e × IsAt es k f
    × (test e f ≡ true)
