-- Lists of edges, and slabs: the points with x-coordinates between two numbers. A slab divides a list into the edges
-- that span it and others.
use Rattle.std.specs.Prelude.{◌⊎◌, Bool, not, ◌&&◌, ◌||◌, int_lt, ℤ, ◌<ℤ◌, ◌≤ℤ◌, List, ◌++◌, map, All}
use Rattle.overlay_geom.specs.Counts.{Counts}
use Rattle.overlay_geom.specs.Edges.{CountedEdge}
use Rattle.overlay_geom.specs.Plane.{Point}
use Rattle.overlay_order.specs.Content.{plain_edge}
use Rattle.overlay_located.specs.Tells.{TellsWhere}
use Rattle.overlay_located.specs.declared.line.Line.{Line}
use Rattle.overlay_located.specs.declared.slab.Slab.{Slab}

-- edges of the program in range, as counted edges
abbrev pub plain_line : {I C W U S : Type 0} {i w u k : _} → (I → ℤ) → (C → Counts) → Line I C W U S i w u k →
    CountedEdge
plain_line whole counts l = plain_edge whole counts l.edge

abbrev pub plain_lines : {I C W U S : Type 0} {i w u k : _} → (I → ℤ) → (C → Counts) → List (Line I C W U S i w u k) →
    List CountedEdge
plain_lines whole counts ls = map (plain_line whole counts) ls

-- ---- slabs

-- numbers between which x-coordinates lie
pub record Band : Type 0 where
  pub from : ℤ
  pub to : ℤ

abbrev pub plain_slab : {I : Type 0} → (I → ℤ) → Slab I → Band
plain_slab whole s = record { from = whole s.from; to = whole s.to }

-- v lies in the slab
pub record IsWithin (s : Band) (v : Point) : Type 0 where
  pub from : s.from ≤ℤ v.x
  pub to : v.x ≤ℤ s.to

-- the edge begins left of the slab and ends right of it
pub record Spans (s : Band) (e : CountedEdge) : Type 0 where
  pub from : e.a.x <ℤ s.from
  pub to : s.to <ℤ e.b.x

-- the edge ends left of the slab or begins right of it
abbrev pub IsBeside : Band → CountedEdge → Type 0
IsBeside s e = (e.b.x <ℤ s.from) ⊎ (s.to <ℤ e.a.x)

-- the tests of these
abbrev pub is_within : Band → Point → Bool
is_within s v = not (int_lt v.x s.from) && not (int_lt s.to v.x)

abbrev pub spans : Band → CountedEdge → Bool
spans s e = int_lt e.a.x s.from && int_lt s.to e.b.x

abbrev pub is_beside : Band → CountedEdge → Bool
is_beside s e = int_lt e.b.x s.from || int_lt s.to e.a.x

-- the slab's spanning edges are divided from the others
pub record AreDivided (s : Band) (es spanning kept : List CountedEdge) : Type 0 where
  pub spanned : All (Spans s) spanning
  pub split : TellsWhere (IsWithin s) es (kept ++ spanning)
