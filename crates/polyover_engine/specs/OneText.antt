-- The text of an answer is determined by the arrangement that it is of. Rounds that round each point of the plane alike
-- lead to one arrangement.
use Rattle.std.specs.Prelude.{◌≡◌, ℕ, List, [], ◌∷◌, All}
use Rattle.overlay_geom.specs.declared.fill_rule.FillRule.{FillRule}
use Rattle.overlay_geom.specs.Plane.{IsOff, in_plane}
use Rattle.overlay_relate.specs.Locations.{shapes_edges}
use Rattle.polyover_engine.specs.Answers.{Answers}
use Rattle.polyover_engine.specs.Subjects.{subject_of}
use Rattle.polyover_text.specs.Grammar.{GivenFigures}
use Rattle.polyover_text.specs.declared.query.ClipQuery.{ClipQuery}
use Rattle.polyover_text.specs.declared.query.OverlayQuery.{OverlayQuery}
use Rattle.polyover_text.specs.declared.query.TilesQuery.{TilesQuery}
use Rattle.polyover_text.specs.declared.query.Query.TheVariants.{Edges, Overlay, Hierarchy, Relate, ClipLines}
use Rattle.polyover_text.specs.declared.query.Query.TheVariants.{Slice, Tiles, Contains}

-- ---- overlays

-- two answers of an overlay of one arrangement have one text
abbrev pub OneTextOfOverlay : Type 0
OneTextOfOverlay = (fs : GivenFigures) (query : OverlayQuery) (first second : List ℕ)
    (a : Answers fs (Overlay query) first) (b : Answers fs (Overlay query) second) → a.1.edges ≡ b.1.edges →
    first ≡ second

-- so have two hierarchies
abbrev pub OneTextOfHierarchy : Type 0
OneTextOfHierarchy = (fs : GivenFigures) (query : OverlayQuery) (first second : List ℕ)
    (a : Answers fs (Hierarchy query) first) (b : Answers fs (Hierarchy query) second) → a.2.edges ≡ b.2.edges →
    first ≡ second

-- ---- edges, relations, and what lines leave or slice

-- the edges of one arrangement have one text
abbrev pub OneTextOfEdges : Type 0
OneTextOfEdges = (fs : GivenFigures) (fill : FillRule) (first second : List ℕ) (a : Answers fs (Edges fill) first)
    (b : Answers fs (Edges fill) second) → a.1.edges ≡ b.1.edges → first ≡ second

-- and so have the relations that it tells
abbrev pub OneTextOfRelations : Type 0
OneTextOfRelations = (fs : GivenFigures) (fill : FillRule) (first second : List ℕ) (a : Answers fs (Relate fill) first)
    (b : Answers fs (Relate fill) second) → a.1.edges ≡ b.1.edges → first ≡ second

-- the paths that a clip leaves in it
abbrev pub OneTextOfClip : Type 0
OneTextOfClip = (fs : GivenFigures) (query : ClipQuery) (first second : List ℕ)
    (a : Answers fs (ClipLines query) first) (b : Answers fs (ClipLines query) second) →
    a.1.clipped.arrangement ≡ b.1.clipped.arrangement → first ≡ second

-- the shapes into which its edges slice the subject
abbrev pub OneTextOfSlices : Type 0
OneTextOfSlices = (fs : GivenFigures) (fill : FillRule) (first second : List ℕ) (a : Answers fs (Slice fill) first)
    (b : Answers fs (Slice fill) second) → a.1.sliced.arrangement ≡ b.1.sliced.arrangement → first ≡ second

-- and the tiles
abbrev pub OneTextOfTiles : Type 0
OneTextOfTiles = (fs : GivenFigures) (query : TilesQuery) (first second : List ℕ) (a : Answers fs (Tiles query) first)
    (b : Answers fs (Tiles query) second) →
    a.2.sliced.sliced.arrangement ≡ b.2.sliced.sliced.arrangement → first ≡ second

-- ---- points

-- one text tells which points are inside the subject, where each is on none of its edges
abbrev pub OneTextOfInsides : Type 0
OneTextOfInsides = (fs : GivenFigures) (first second : List ℕ) →
    All (λ p. IsOff (shapes_edges (subject_of fs.contours ∷ [])) (in_plane p)) fs.points →
    Answers fs Contains first → Answers fs Contains second → first ≡ second
