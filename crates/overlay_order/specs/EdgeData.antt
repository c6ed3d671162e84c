-- Merging, splitting and reversing of edges that carry data beside their counts.
use Rattle.std.specs.Prelude.{◌≡◌}
use Rattle.overlay_geom.specs.Counts.{Counts, joined_counts, reversed_counts}
use Rattle.overlay_order.specs.Counts.{boolean_counts}
use Rattle.overlay_order.specs.declared.count.ShapeCountBoolean.{ShapeCountBoolean}
use Rattle.overlay_order.specs.declared.data.CountWithData.{CountWithData}

-- the counts have opposite signs, and the carried value is reversed
pub record IsReversedBy {C : Type 0} (counts : C → Counts) (reverses : C → C → Type 0) (c t : C) : Type 0 where
  pub counts_turned : counts t ≡ reversed_counts (counts c)
  pub carried : reverses c t

-- equal edges are merged: their counts are summed, and their data is merged with the counts of both
pub record AreMerged {D : Type 0} (merges : ShapeCountBoolean → D → ShapeCountBoolean → D → D → Type 0)
    (c k m : CountWithData D) : Type 0 where
  pub counts : boolean_counts m.count ≡ joined_counts (boolean_counts c.count) (boolean_counts k.count)
  pub edge_data : merges c.count c.edge_data k.count k.edge_data m.edge_data

-- a piece of a cut edge: it has the edge's counts, and a split of its data
pub record IsPiece {D : Type 0} (splits : D → D → Type 0) (c p : CountWithData D) : Type 0 where
  pub counts : p.count ≡ c.count
  pub edge_data : splits c.edge_data p.edge_data

-- a piece is reversed: its counts get opposite signs, and its data is reversed
pub record IsReversed {D : Type 0} (reverses : D → D → Type 0) (c t : CountWithData D) : Type 0 where
  pub counts : boolean_counts t.count ≡ reversed_counts (boolean_counts c.count)
  pub edge_data : reverses c.edge_data t.edge_data
