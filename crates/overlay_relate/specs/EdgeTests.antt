-- The fill bits of edges tell which sides both shapes fill, and where their borders end.
use Rattle.std.specs.Prelude.{◌≡◌, ℕ, Bool, true, false, cond, not, ◌&&◌, ◌||◌, ◌==◌, ℤ, List, [], ◌∷◌, map, Contains}
use Rattle.overlay_geom.specs.Plane.{Point, point_eq}
use Rattle.overlay_geom.specs.Points.{plain_point}
use Rattle.overlay_geom.specs.Edges.{CountedEdge, subj_of, clip_of}
use Rattle.overlay_plane.specs.Predicates.{fills_above, fills_below, fills_a_side}
use Rattle.overlay_plane.specs.EdgePredicates.{has_both, has_common_side, pokes_out}
use Rattle.overlay_order.specs.Counts.{has_bit}
use Rattle.overlay_order.specs.Vectors.{Vector}
use Rattle.overlay_relate.specs.declared.border_end.BorderEnd.{BorderEnd as HeldEnd}
use Rattle.overlay_relate.specs.declared.edge_test.EdgeTest.{EdgeTest}
use Rattle.overlay_relate.specs.declared.edge_test.EdgeTest.TheVariants.{BothShapes, CommonSide, SubjectSide}
use Rattle.overlay_relate.specs.declared.edge_test.EdgeTest.TheVariants.{SubjectOutside, ClipSide, ClipOutside}

-- filled sides pass the test: those of the subject above and below, and those of the clip
abbrev pub sides_pass : EdgeTest → (subj_above subj_below clip_above clip_below : Bool) → Bool
sides_pass BothShapes a b c d = (a || b) && (c || d)
sides_pass CommonSide a b c d = (a && c) || (b && d)
sides_pass SubjectSide a b c d = a || b
sides_pass SubjectOutside a b c d = (a && not c) || (b && not d)
sides_pass ClipSide a b c d = c || d
sides_pass ClipOutside a b c d = (c && not a) || (d && not b)

-- fill bits pass it
abbrev pub bits_pass : EdgeTest → ℕ → Bool
bits_pass test n = sides_pass test (has_bit n 0) (has_bit n 1) (has_bit n 2) (has_bit n 3)

-- the clip fills a side of the edge that the subject does not fill
abbrev pub clip_pokes_out : (ℤ → Bool) → List CountedEdge → CountedEdge → Bool
clip_pokes_out filled es e =
    (fills_above filled es clip_of e && not (fills_above filled es subj_of e)) ||
    (fills_below filled es clip_of e && not (fills_below filled es subj_of e))

-- an edge of the list passes it, by what the shapes fill beside it
abbrev pub edge_passes : EdgeTest → (ℤ → Bool) → List CountedEdge → CountedEdge → Bool
edge_passes BothShapes filled es e = has_both filled es e
edge_passes CommonSide filled es e = has_common_side filled es e
edge_passes SubjectSide filled es e = fills_a_side filled es subj_of e
edge_passes SubjectOutside filled es e = pokes_out filled es e
edge_passes ClipSide filled es e = fills_a_side filled es clip_of e
edge_passes ClipOutside filled es e = clip_pokes_out filled es e

-- an end of an edge of which one shape alone fills one side alone: the subject, or else the clip
pub record BorderEnd : Type 0 where
  pub point : Point
  pub of_subj : Bool

abbrev pub plain_end : {I : Type 0} → (I → ℤ) → HeldEnd I → BorderEnd
plain_end whole m = record { point = plain_point whole m.point; of_subj = m.of_subj }

abbrev pub plain_ends : {I : Type 0} → (I → ℤ) → List (HeldEnd I) → List BorderEnd
plain_ends whole ms = map (plain_end whole) ms

-- the bits of the subject above alone, or below alone; and those of the clip
abbrev pub is_subject_border : ℕ → Bool
is_subject_border n = n == 1 || n == 2

abbrev pub is_clip_border : ℕ → Bool
is_clip_border n = n == 4 || n == 8

-- the ends of an edge between two points
abbrev pub two_ends : Point → Point → Bool → List BorderEnd
two_ends a b of_subj = record { point = a; of_subj = of_subj } ∷ record { point = b; of_subj = of_subj } ∷ []

-- those of a vector, if it is such an edge
abbrev pub border_ends : Vector → List BorderEnd
border_ends v = cond (is_subject_border v.fill) (two_ends v.a v.b true)
    (cond (is_clip_border v.fill) (two_ends v.a v.b false) [])

-- the two ends are at one point, the one of the subject and the other of the clip
abbrev pub differ : BorderEnd → BorderEnd → Bool
differ m n = point_eq m.point n.point && cond m.of_subj (not n.of_subj) n.of_subj

-- some end of the list differs so from the one before it, the first one from m
abbrev pub differs_along : BorderEnd → List BorderEnd → Bool
differs_along m [] = false
differs_along m (n ∷ ns) = differ m n || differs_along n ns

abbrev pub some_next_differ : List BorderEnd → Bool
some_next_differ [] = false
some_next_differ (n ∷ ns) = differs_along n (n ∷ ns)

-- an end of the subject and one of the clip are at one point
pub record ShareAnEnd (ms : List BorderEnd) : Type 0 where
  pub subj : BorderEnd
  pub clip : BorderEnd
  pub subj_among : Contains ms subj
  pub clip_among : Contains ms clip
  pub same : subj.point ≡ clip.point
  pub is_subj : subj.of_subj ≡ true
  pub is_clip : clip.of_subj ≡ false
