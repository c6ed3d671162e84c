-- The pieces of strings that a clip keeps.
use Rattle.std.specs.Prelude.{ℕ, ◌+◌, Bool, cond, ◌&&◌, ◌||◌, ◌==◌, List, [], ◌∷◌, ◌++◌, flat_map}
use Rattle.overlay_geom.specs.Edges.{CountedEdge, goes_along, goes_against}
use Rattle.overlay_geom.specs.Plane.{Step}
use Rattle.overlay_geom.specs.Rules.{fills_of, bit}
use Rattle.overlay_geom.specs.declared.fill_rule.FillRule.{FillRule}
use Rattle.overlay_string.specs.declared.clip_rule.ClipRule.{ClipRule}

-- on how many of its sides the shape fills an edge, of which it fills the upper side, or not, and the lower one, or not
abbrev pub filled_side_count : Bool → Bool → ℕ
filled_side_count above below = bit above 1 + bit below 1

-- a clip keeps the edges inside the shape, filled on both sides, or, inverted, those outside of it, filled on none; and
-- those on the boundary, filled on one, if it is included
abbrev pub keeps_sides : ClipRule → Bool → Bool → Bool
keeps_sides rule above below =
    filled_side_count above below == cond rule.invert 0 2
    || (rule.boundary_included && filled_side_count above below == 1)

-- it keeps an edge of the list
abbrev pub is_kept : FillRule → ClipRule → List CountedEdge → CountedEdge → Bool
is_kept fill rule es e = keeps_sides rule (fills_of fill es e).subj_above (fills_of fill es e).subj_below

-- a step from a to b where a string runs so over the edge, and a step back where one runs back
abbrev pub string_steps : CountedEdge → List Step
string_steps e =
    cond (goes_along e) (record { from = e.a; to = e.b } ∷ []) []
    ++ cond (goes_against e) (record { from = e.b; to = e.a } ∷ []) []

-- the pieces of a clip, in the order of the edges: for each edge that it keeps, one in each direction in which a string
-- runs over it
abbrev pub clip_pieces : FillRule → ClipRule → List CountedEdge → List Step
clip_pieces fill rule es = flat_map (λ e. cond (is_kept fill rule es e) (string_steps e) []) es
