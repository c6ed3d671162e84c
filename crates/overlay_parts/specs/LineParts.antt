-- Parts on one line, in their order along it. They are parted from their start on, up to the next end again and again.
use Rattle.std.specs.Prelude.{◌≡◌, ◌⊎◌, ℕ, ◌+◌, ◌^◌, ◌<◌, ◌≤◌, true, false, List, map, All, AllPairs}
use Rattle.overlay_geom.specs.Counts.{weight_of_counts}
use Rattle.overlay_geom.specs.Edges.{CountedEdge, ends_of}
use Rattle.overlay_geom.specs.Placed.{IsAlong}
use Rattle.overlay_geom.specs.Plane.{Point, Edge, point_lt}
use Rattle.overlay_parts.specs.Parts.{Part, ends_of_part, part_behind, IsHeldPart}

-- the edges lie on the line
pub record AreOnLine (line : Edge) (es : List CountedEdge) : Type 0 where
  pub forward : point_lt line.a line.b ≡ true
  pub along : All (λ e. IsAlong line (ends_of e)) es

-- the part lies on the line, and its edges weigh at most `most`
pub record IsPartOn {C : Type 0} (limit most : ℕ) (line : Edge) (part : Part C) : Type 0 where
  pub held : IsHeldPart limit part
  pub cover : part.cover ≤ most
  pub along : IsAlong line (ends_of_part part)

-- s ends where t starts, or before
abbrev pub EndsUpTo : {C : Type 0} → Part C → Part C → Type 0
EndsUpTo s t = point_lt (ends_of_part t).a (ends_of_part s).b ≡ false

-- the parts lie on the line, one behind the other
pub record ArePartsOn {C : Type 0} (limit most : ℕ) (line : Edge) (parts : List (Part C)) : Type 0 where
  pub on : All (IsPartOn limit most line) parts
  pub in_order : AllPairs EndsUpTo parts

-- two lists of parts on one line, which together are light
pub record AreToJoin {C : Type 0} (limit m k : ℕ) (line : Edge) (low high : List (Part C)) : Type 0 where
  pub forward : point_lt line.a line.b ≡ true
  pub low_on : ArePartsOn limit m line low
  pub high_on : ArePartsOn limit k line high
  pub light : m + k < 2 ^ 31

-- the parts, each from a point on if that lies inside it
abbrev pub parts_behind : {C : Type 0} → Point → List (Part C) → List (Part C)
parts_behind v parts = map (λ part. part_behind part v) parts

-- the point is an end of the part
abbrev pub IsEndOfPart : {C : Type 0} → Part C → Point → Type 0
IsEndOfPart part v = (v ≡ (ends_of_part part).a) ⊎ (v ≡ (ends_of_part part).b)

-- the part starts with s or t, and ends in an end of either, not behind the end of either. It is as light as both
pub record IsFrontOf {C : Type 0} (s t front : Part C) : Type 0 where
  pub start : ((ends_of_part front).a ≡ (ends_of_part s).a) ⊎ ((ends_of_part front).a ≡ (ends_of_part t).a)
  pub end : IsEndOfPart s (ends_of_part front).b ⊎ IsEndOfPart t (ends_of_part front).b
  pub forward : point_lt (ends_of_part front).a (ends_of_part front).b ≡ true
  pub of_s : point_lt (ends_of_part s).b (ends_of_part front).b ≡ false
  pub of_t : point_lt (ends_of_part t).b (ends_of_part front).b ≡ false
  pub light : weight_of_counts front.edge.edge.counts ≤ front.cover
  pub cover : front.cover ≤ s.cover + t.cover
