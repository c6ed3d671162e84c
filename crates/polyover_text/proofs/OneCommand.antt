-- What the words of a line say is one thing: each number, point, figure, option and command is a function of its words.
use Rattle.std.proofs.Common.{◌≡◌, ℕ, ◌==◌, Bool, true, false, cond, ◌&&◌, ℤ, pos, neg_ℤ, List, [], ◌∷◌, Some, drop}
use Rattle.std.proofs.Common.{get_or, refl, sym, ap, ap₂, ◌∙◌, arith}
use Rattle.std.proofs.lemmas.Bool.{and_from}
use Rattle.std.proofs.lemmas.Int.{ints}
use Rattle.std.specs.Prelude.{nat_abs, int_le, ◌≤ℤ◌}
use Rattle.std.specs.Str.Parse.{signed_digits_value}
use Rattle.overlay_geom.specs.Numbers.{Within}
use Rattle.overlay_geom.specs.Plane.{Point}
use Rattle.overlay_geom.specs.declared.fill_rule.FillRule.{FillRule}
use Rattle.overlay_geom.specs.declared.fill_rule.FillRule.TheVariants.{EvenOdd, NonZero, Positive, Negative}
use Rattle.overlay_geom.specs.declared.overlay_rule.OverlayRule.{OverlayRule}
use Rattle.overlay_geom.specs.declared.overlay_rule.OverlayRule.TheVariants.{Subject as OfSubject, Clip as OfClip}
use Rattle.overlay_geom.specs.declared.overlay_rule.OverlayRule.TheVariants.{Intersect, Union}
use Rattle.overlay_geom.specs.declared.overlay_rule.OverlayRule.TheVariants.{Difference, InverseDifference, Xor}
use Rattle.overlay_geom.specs.declared.options.ContourDirection.TheVariants.{Clockwise}
use Rattle.overlay_geom.specs.declared.options.ShapeType.{ShapeType}
use Rattle.overlay_geom.specs.declared.options.ShapeType.TheVariants.{Subject, Clip}
use Rattle.overlay_order.specs.Paths.{GivenPath}
use Rattle.polyover_text.specs.declared.clip_options.KeptParts.{KeptParts}
use Rattle.polyover_text.specs.declared.options.OutputOptions.{OutputOptions}
use Rattle.polyover_text.specs.declared.query.ClipQuery.{ClipQuery}
use Rattle.polyover_text.specs.declared.query.OverlayQuery.{OverlayQuery}
use Rattle.polyover_text.specs.declared.query.TilesQuery.{TilesQuery}
use Rattle.polyover_text.specs.declared.query.Query.{Query}
use Rattle.polyover_text.specs.declared.query.Query.TheVariants.{Edges, Overlay, Hierarchy, Relate, ClipLines}
use Rattle.polyover_text.specs.declared.query.Query.TheVariants.{Slice, Tiles, Contains, Locate}
use Rattle.polyover_text.specs.Grammar.{Word, Line, IsNumber, IsArea, IsSide, within, beyond, ArePoints, none, more}
use Rattle.polyover_text.specs.Grammar.{GivesContour, contour, GivesOpenPath, open_path, GivesPoint, point, shape_name}
use Rattle.polyover_text.specs.Grammar.{fill_name, rule_name, default_output, default_clip, SetOptions, SetClipOptions}
use Rattle.polyover_text.specs.Grammar.{clockwise, keep, ogc, min, invert, boundary, AsksOverlay, asks, AsksClip}
use Rattle.polyover_text.specs.Grammar.{asks_clip, AsksTiles, asks_tiles, IsCommand, edges, overlay, hierarchy, relate}
use Rattle.polyover_text.specs.Grammar.{clip_lines, slice, tiles, contains, locate}
use Rattle.polyover_text.proofs.Numbers.{number_is_numeral}

-- ---- numbers

-- the number that a word writes
abbrev value_of : Word → ℤ
value_of w = signed_digits_value 10 w

value_told : (w : Word) (c : ℤ) → IsNumber w c → c ≡ value_of w
value_told w c h = (number_is_numeral w c h).value

abbrev area_of : Word → ℕ
area_of w = nat_abs (value_of w)

area_told : (w : Word) (n : ℕ) → IsArea w n → n ≡ area_of w
area_told w n h = ap nat_abs (value_told w (pos n) h.number)

-- the side of a cell
abbrev is_within : ℤ → Bool
is_within z = int_le (neg_ℤ (pos 4611686018427387903)) z && int_le z (pos 4611686018427387903)

-- what is at most passes the test for it
passed : (a b : ℤ) → a ≤ℤ b → int_le a b ≡ true
passed a b h = let test : true ≡ int_le a b = omega (arith, ints) in sym test

within_test : (z : ℤ) → Within 4611686018427387903 z → is_within z ≡ true
within_test z h = and_from (int_le (neg_ℤ (pos 4611686018427387903)) z) (int_le z (pos 4611686018427387903))
    (passed (neg_ℤ (pos 4611686018427387903)) z h.low) (passed z (pos 4611686018427387903) h.high)

-- and what passes it is at most
at_most : (a b : ℤ) → int_le a b ≡ true → a ≤ℤ b
at_most a b test = omega (arith, ints)

beyond_test : (z : ℤ) → ¬ (Within 4611686018427387903 z) → is_within z ≡ false
beyond_test z not_within = by (int_le (neg_ℤ (pos 4611686018427387903)) z) (int_le z (pos 4611686018427387903)) refl
    refl
  where
    by : (s t : Bool) → int_le (neg_ℤ (pos 4611686018427387903)) z ≡ s → int_le z (pos 4611686018427387903) ≡ t →
        (s && t) ≡ false
    by true true low high = absurd (not_within (record {
      low = at_most (neg_ℤ (pos 4611686018427387903)) z low;
      high = at_most z (pos 4611686018427387903) high;
    }))
    by true false low high = refl
    by false t low high = refl

abbrev side_of : Word → ℤ
side_of w = cond (is_within (value_of w)) (value_of w) (pos 0)

side_told : (w : Word) (c : ℤ) → IsSide w c → c ≡ side_of w
side_told w c (within h) = chosen c (value_told w c h.number)
  where
    chosen : (z : ℤ) → z ≡ value_of w → z ≡ side_of w
    chosen z is = is ∙ sym (ap (λ t. cond t (value_of w) (pos 0)) (ap is_within (sym (value_told w c h.number))
        ∙ within_test c h.in_range))
side_told w _ (beyond {c = c} number outside) = sym (ap (λ t. cond t (value_of w) (pos 0))
    (ap is_within (sym (value_told w c number)) ∙ beyond_test c outside))

-- ---- figures

abbrev pub points_in : Line → List Point
points_in [] = []
points_in (v ∷ []) = []
points_in (v ∷ w ∷ ws) = record { x = value_of v; y = value_of w } ∷ points_in ws

pub points_told : (ws : Line) (ps : List Point) → ArePoints ws ps → ps ≡ points_in ws
points_told ws ps none = refl
points_told ws ps (more {v = v} {w = w} {x = x} {y = y} {ws = rest} {ps = qs} a b points) =
    ap₂ (λ p l. p ∷ l) (λ i. record { x = (value_told v x a.number) i; y = (value_told w y b.number) i })
    (points_told rest qs points)

abbrev pub shape_of : Word → ShapeType
shape_of w = cond (get_or w 0 0 == 115) Subject Clip

shape_again : (s : ShapeType) → s ≡ shape_of (shape_name s)
shape_again Subject = refl
shape_again Clip = refl

abbrev pub contour_of : Line → GivenPath
contour_of l = record { shape_type = shape_of (get_or l 0 []); points = points_in (drop 1 l) }

pub contour_told : (l : Line) (c : GivenPath) → GivesContour l c → c ≡ contour_of l
contour_told l c (contour {shape_type = s} {ws = ws} {ps = ps} points) =
    λ i. record { shape_type = (shape_again s) i; points = (points_told ws ps points) i }

pub path_told : (l : Line) (ps : List Point) → GivesOpenPath l ps → ps ≡ points_in (drop 1 l)
path_told l ps (open_path {ws = ws} points) = points_told ws ps points

abbrev pub point_of : Line → Point
point_of l = record { x = value_of (get_or l 1 []); y = value_of (get_or l 2 []) }

pub point_told : (l : Line) (p : Point) → GivesPoint l p → p ≡ point_of l
point_told l p (point {v = v} {w = w} {x = x} {y = y} a b) =
    λ i. record { x = (value_told v x a.number) i; y = (value_told w y b.number) i }

-- ---- names

abbrev fill_of : Word → FillRule
fill_of w = cond (get_or w 0 0 == 69) EvenOdd (cond (get_or w 0 0 == 80) Positive
    (cond (get_or w 1 0 == 111) NonZero Negative))

fill_again : (f : FillRule) → f ≡ fill_of (fill_name f)
fill_again EvenOdd = refl
fill_again NonZero = refl
fill_again Positive = refl
fill_again Negative = refl

abbrev rule_of : Word → OverlayRule
rule_of w = cond (get_or w 0 0 == 83) OfSubject (cond (get_or w 0 0 == 67) OfClip (cond (get_or w 0 0 == 85) Union
    (cond (get_or w 0 0 == 68) Difference (cond (get_or w 0 0 == 88) Xor
    (cond (get_or w 2 0 == 116) Intersect InverseDifference)))))

rule_again : (r : OverlayRule) → r ≡ rule_of (rule_name r)
rule_again OfSubject = refl
rule_again OfClip = refl
rule_again Intersect = refl
rule_again Union = refl
rule_again Difference = refl
rule_again InverseDifference = refl
rule_again Xor = refl

-- ---- options

-- one option but that of an area
abbrev set_by : Word → OutputOptions → OutputOptions
set_by w o = cond (get_or w 0 0 == 99) (record o { output_direction = Clockwise })
    (cond (get_or w 0 0 == 107) (record o { preserve_output_collinear = true })
    (cond (get_or w 0 0 == 111) (record o { ogc = true }) o))

-- the options after the words, where an area is to come first, or not
abbrev options_after : Bool → OutputOptions → Line → OutputOptions
options_after area o [] = o
options_after true o (w ∷ ws) = options_after false (record o { min_output_area = Some (area_of w) }) ws
options_after false o (w ∷ ws) = options_after (get_or w 0 0 == 109) (set_by w o) ws

options_told : (old o : OutputOptions) (ws : Line) → SetOptions old ws o → o ≡ options_after false old ws
options_told old o ws none = refl
options_told old o ws (clockwise {ws = rest} unset others) =
    options_told (record old { output_direction = Clockwise }) o rest others
options_told old o ws (keep {ws = rest} unset others) =
    options_told (record old { preserve_output_collinear = true }) o rest others
options_told old o ws (ogc {ws = rest} unset others) = options_told (record old { ogc = true }) o rest others
options_told old o ws (min {w = w} {n = n} {ws = rest} unset area others) =
    options_told (record old { min_output_area = Some n }) o rest others
    ∙ ap (λ m. options_after false (record old { min_output_area = Some m }) rest) (area_told w n area)

abbrev clip_after : KeptParts → Line → KeptParts
clip_after o [] = o
clip_after o (w ∷ ws) = clip_after (cond (get_or w 0 0 == 105) (record o { invert = true })
    (record o { boundary_included = true })) ws

clip_told : (old o : KeptParts) (ws : Line) → SetClipOptions old ws o → o ≡ clip_after old ws
clip_told old o ws none = refl
clip_told old o ws (invert {ws = rest} unset others) = clip_told (record old { invert = true }) o rest others
clip_told old o ws (boundary {ws = rest} unset others) =
    clip_told (record old { boundary_included = true }) o rest others

-- ---- commands

abbrev overlay_of : Line → OverlayQuery
overlay_of ws = record {
  overlay_rule = rule_of (get_or ws 0 []);
  fill_rule = fill_of (get_or ws 1 []);
  output = options_after false default_output (drop 2 ws);
}

overlay_told : (ws : Line) (query : OverlayQuery) → AsksOverlay ws query → query ≡ overlay_of ws
overlay_told ws query (asks {ws = rest} set) = λ i. record {
  overlay_rule = (rule_again query.overlay_rule) i;
  fill_rule = (fill_again query.fill_rule) i;
  output = (options_told default_output query.output rest set) i;
}

abbrev clip_of : Line → ClipQuery
clip_of ws = record { fill_rule = fill_of (get_or ws 0 []); options = clip_after default_clip (drop 1 ws) }

clip_query_told : (ws : Line) (query : ClipQuery) → AsksClip ws query → query ≡ clip_of ws
clip_query_told ws query (asks_clip {ws = rest} set) = λ i. record {
  fill_rule = (fill_again query.fill_rule) i;
  options = (clip_told default_clip query.options rest set) i;
}

abbrev tiles_of : Line → TilesQuery
tiles_of ws = record {
  fill_rule = fill_of (get_or ws 0 []);
  width = side_of (get_or ws 1 []);
  height = side_of (get_or ws 2 []);
}

tiles_told : (ws : Line) (query : TilesQuery) → AsksTiles ws query → query ≡ tiles_of ws
tiles_told ws query (asks_tiles {v = v} {w = w} wide high) = λ i. record {
  fill_rule = (fill_again query.fill_rule) i;
  width = (side_told v query.width wide) i;
  height = (side_told w query.height high) i;
}

-- by the first two letters of the second word
abbrev query_by : ℕ → ℕ → Line → Query
query_by a b ws = cond (a == 101) (Edges (fill_of (get_or ws 0 []))) (cond (a == 111) (Overlay (overlay_of ws))
    (cond (a == 104) (Hierarchy (overlay_of ws)) (cond (a == 114) (Relate (fill_of (get_or ws 0 [])))
    (cond (a == 115) (Slice (fill_of (get_or ws 0 []))) (cond (a == 116) (Tiles (tiles_of ws))
    (cond (a == 108) Locate (cond (b == 108) (ClipLines (clip_of ws)) Contains)))))))

abbrev query_of : Line → Query
query_of l = query_by (get_or (get_or l 1 []) 0 0) (get_or (get_or l 1 []) 1 0) (drop 2 l)

query_told : (l : Line) (query : Query) → IsCommand l query → query ≡ query_of l
query_told l query (edges {fill = fill}) = ap Edges (fill_again fill)
query_told l query (overlay {query = asked} {ws = ws} named) = ap Overlay (overlay_told ws asked named)
query_told l query (hierarchy {query = asked} {ws = ws} named) = ap Hierarchy (overlay_told ws asked named)
query_told l query (relate {fill = fill}) = ap Relate (fill_again fill)
query_told l query (clip_lines {query = asked} {ws = ws} named) = ap ClipLines (clip_query_told ws asked named)
query_told l query (slice {fill = fill}) = ap Slice (fill_again fill)
query_told l query (tiles {query = asked} {ws = ws} named) = ap Tiles (tiles_told ws asked named)
query_told l query contains = refl
query_told l query locate = refl

-- so a line asks for one thing
pub one_query : (l m : Line) (first second : Query) → l ≡ m → IsCommand l first → IsCommand m second → first ≡ second
one_query l m first second same h k = query_told l first h ∙ ap query_of same ∙ sym (query_told m second k)
