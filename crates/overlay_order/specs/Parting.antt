-- Values of edges that may be parted before they are cut.
use Rattle.std.specs.Prelude.{◌≡◌, neg_ℤ}
use Rattle.overlay_order.specs.declared.count.ShapeCountBoolean.{ShapeCountBoolean}

-- a split value is a copy, and the reversed value of a merge is a merge of reversed values
pub record MayPart {C : Type 0} (merges : C → C → C → Type 0) (splits reverses : C → C → Type 0) : Type 0 where
  pub copied : (c p : C) → splits c p → p ≡ c
  pub copies : (c : C) → splits c c
  pub turned : (c k m t : C) → merges c k m → reverses m t →
      (u : C) × (w : C) × reverses c u × reverses k w × merges u w t

-- the counts with opposite signs
abbrev pub opposite : ShapeCountBoolean → ShapeCountBoolean
opposite c = record { subj = neg_ℤ c.subj; clip = neg_ℤ c.clip }

-- a split of data is a copy, and the reversed data of a merge is a merge of reversed data, with counts of opposite
-- signs
pub record MayPartData {D : Type 0} (merges : ShapeCountBoolean → D → ShapeCountBoolean → D → D → Type 0)
    (splits reverses : D → D → Type 0) : Type 0 where
  pub copied : (d p : D) → splits d p → p ≡ d
  pub copies : (d : D) → splits d d
  pub turned : (c k : ShapeCountBoolean) (d e m t : D) → merges c d k e m → reverses m t →
      (u : D) × (w : D) × reverses d u × reverses e w × merges (opposite c) u (opposite k) w t
