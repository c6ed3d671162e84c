-- Edges as they are given, and as a builder holds them.
use Rattle.std.specs.Prelude.{ℕ, suc, ℤ, pos, negsuc, true, false, cond, List, [], ◌∷◌, ◌++◌, map}
use Rattle.overlay_geom.specs.Plane.{Point, Step, is_forward, steps_between}
use Rattle.overlay_geom.specs.Points.{plain_point, InRange}
use Rattle.overlay_geom.specs.declared.options.ShapeType.{ShapeType}
use Rattle.overlay_order.specs.Content.{count_for, edge_for}
use Rattle.overlay_order.specs.declared.data.CountWithData.{CountWithData}
use Rattle.overlay_plane.specs.Carried.{Carried}
use Rattle.overlay_traced.specs.declared.given.GivenEdge.{GivenEdge}
use Rattle.overlay_traced.specs.declared.mark.Mark.{Mark}
use Rattle.overlay_traced.specs.declared.mark.Mark.TheVariants.{Given}
use Rattle.overlay_traced.specs.declared.source.Passage.{Passage}

-- an edge from a to b, of the subject or of the clip
pub record SidedEdge : Type 0 where
  pub a : Point
  pub b : Point
  pub side : ShapeType

-- the edge at its numbers
abbrev pub plain_given : {I : Type 0} → (I → ℤ) → GivenEdge I → SidedEdge
plain_given whole e = record { a = plain_point whole e.a; b = plain_point whole e.b; side = e.shape_type }

-- both ends are in the coordinate range
pub record IsGivenInRange {I : Type 0} (whole : I → ℤ) (limit : ℕ) (e : GivenEdge I) : Type 0 where
  pub a : InRange limit (plain_point whole e.a)
  pub b : InRange limit (plain_point whole e.b)

-- how an edge that runs from its smaller to its larger end lies on itself, and how one that runs back
abbrev pub along : Passage
along = record { is_cut = false; is_reversed = false }

abbrev pub back : Passage
back = record { is_cut = false; is_reversed = true }

-- the mark of the given edge with the number
abbrev pub given_mark : ℕ → Passage → Mark
given_mark n p = Given n p

-- what the edge with the number carries where it runs from its smaller to its larger end
abbrev pub value_along : {D : Type 0} → (ℕ → Passage → D) → ShapeType → ℕ → CountWithData D
value_along data_of side n = record { count = count_for side (pos 1); edge_data = data_of n along }

-- and where it runs back
abbrev pub value_back : {D : Type 0} → (ℕ → Passage → D) → ShapeType → ℕ → CountWithData D
value_back data_of side n = record { count = count_for side (negsuc 0); edge_data = data_of n back }

-- the edge of a step with what it carries
abbrev pub held_step : {D : Type 0} → (ℕ → Passage → D) → ShapeType → ℕ → Step → Carried (CountWithData D)
held_step data_of side n s = record {
  edge = edge_for side s;
  carries = cond (is_forward s) (value_along data_of side n) (value_back data_of side n);
}

-- the edge with the number as it is held, from its smaller to its larger end; none where its ends are equal
abbrev pub held_edge : {D : Type 0} → (ℕ → Passage → D) → ℕ → SidedEdge → List (Carried (CountWithData D))
held_edge data_of n e = map (held_step data_of e.side n) (steps_between e.a e.b)

-- the edges, numbered from n on
abbrev pub held_from : {D : Type 0} → (ℕ → Passage → D) → ℕ → List SidedEdge → List (Carried (CountWithData D))
held_from data_of n [] = []
held_from data_of n (e ∷ es) = held_edge data_of n e ++ held_from data_of (suc n) es

-- the edges, numbered from 0 on
abbrev pub held_edges : {D : Type 0} → (ℕ → Passage → D) → List SidedEdge → List (Carried (CountWithData D))
held_edges data_of es = held_from data_of 0 es
