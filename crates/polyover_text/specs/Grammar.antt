-- The grammar of the input: lines, words, numbers, figures and the command, and which line is the first bad one.
use Rattle.std.specs.Prelude.{◌≡◌, ◌⊎◌, ℕ, ◌+◌, ◌^◌, ◌<◌, ◌==◌, Bool, true, false, not, ℤ, pos, neg_ℤ}
use Rattle.std.specs.Prelude.{List, [], ◌∷◌, ◌++◌, map, filter, take, length, All, codes, Some, None}
use Rattle.std.specs.List.{slice_split}
use Rattle.std.specs.Str.Lines.{lines}
use Rattle.std.specs.Str.Parse.{IsNumeral, digits_value}
use Rattle.overlay_geom.specs.Numbers.{Within}
use Rattle.overlay_geom.specs.Plane.{Point}
use Rattle.overlay_geom.specs.declared.fill_rule.FillRule.{FillRule}
use Rattle.overlay_geom.specs.declared.fill_rule.FillRule.TheVariants.{EvenOdd, NonZero, Positive, Negative}
use Rattle.overlay_geom.specs.declared.overlay_rule.OverlayRule.{OverlayRule}
use Rattle.overlay_geom.specs.declared.overlay_rule.OverlayRule.TheVariants.{Subject as OfSubject, Clip as OfClip}
use Rattle.overlay_geom.specs.declared.overlay_rule.OverlayRule.TheVariants.{Intersect, Union}
use Rattle.overlay_geom.specs.declared.overlay_rule.OverlayRule.TheVariants.{Difference, InverseDifference, Xor}
use Rattle.overlay_geom.specs.declared.options.ContourDirection.TheVariants.{CounterClockwise, Clockwise}
use Rattle.overlay_geom.specs.declared.options.ShapeType.{ShapeType}
use Rattle.overlay_geom.specs.declared.options.ShapeType.TheVariants.{Subject, Clip}
use Rattle.overlay_order.specs.Paths.{GivenPath}
use Rattle.polyover_text.specs.declared.clip_options.KeptParts.{KeptParts}
use Rattle.polyover_text.specs.declared.options.OutputOptions.{OutputOptions}
use Rattle.polyover_text.specs.declared.query.ClipQuery.{ClipQuery}
use Rattle.polyover_text.specs.declared.query.OverlayQuery.{OverlayQuery}
use Rattle.polyover_text.specs.declared.query.TilesQuery.{TilesQuery}
use Rattle.polyover_text.specs.declared.query.Query.{Query}
use Rattle.polyover_text.specs.declared.query.Query.TheVariants.{Edges, Overlay, Hierarchy, Relate, ClipLines}
use Rattle.polyover_text.specs.declared.query.Query.TheVariants.{Slice, Tiles, Contains, Locate}

-- ---- lines and words

-- a word is a list of bytes
abbrev pub Word : Type 0
Word = List ℕ

-- a line is a list of words
abbrev pub Line : Type 0
Line = List Word

-- there is a byte
abbrev pub is_nonempty : List ℕ → Bool
is_nonempty bytes = not (length bytes == 0)

-- the words of a text: its parts between spaces, but for the empty ones
abbrev pub words : List ℕ → Line
words text = filter is_nonempty (slice_split (λ b. b == 32) text)

-- the lines of the input. Each ends with LF, of which a CR before it is a part, or with the input, where it has a byte
abbrev pub input_lines : List ℕ → List Line
input_lines bytes = map words (lines bytes)

-- ---- numbers

-- the word is a number: one or more decimal digits, or a minus sign and such digits
pub data IsNumber : Word → ℤ → Type 0 where
  plain : {digits : List ℕ} → IsNumeral 10 digits → IsNumber digits (pos (digits_value 10 digits))
  negative : {digits : List ℕ} → IsNumeral 10 digits → IsNumber (45 ∷ digits) (neg_ℤ (pos (digits_value 10 digits)))

-- the word is a number in the coordinate range
pub record IsCoordinate (word : Word) (c : ℤ) : Type 0 where
  pub number : IsNumber word c
  pub in_range : Within 4611686018427387903 c

-- the word is a number from 0 to 2^127 - 1
pub record IsArea (word : Word) (n : ℕ) : Type 0 where
  pub number : IsNumber word (pos n)
  pub in_range : n < 2 ^ 127

-- the word is a number, and the side of a cell is this number, or 0 where it is out of the coordinate range
pub data IsSide : Word → ℤ → Type 0 where
  within : {word : Word} {c : ℤ} → IsCoordinate word c → IsSide word c
  beyond : {word : Word} {c : ℤ} → IsNumber word c → ¬ (Within 4611686018427387903 c) → IsSide word (pos 0)

-- the words are the points' coordinates, x before y
pub data ArePoints : List Word → List Point → Type 0 where
  none : ArePoints [] []
  more : {v w : Word} {x y : ℤ} {ws : List Word} {ps : List Point} → IsCoordinate v x → IsCoordinate w y →
      ArePoints ws ps
      → ArePoints (v ∷ w ∷ ws) (record { x = x; y = y } ∷ ps)

-- ---- contours

-- the first word of a contour's line
abbrev pub shape_name : ShapeType → Word
shape_name Subject = codes "subject"
shape_name Clip = codes "clip"

-- the line gives a contour: `subject x y ..` or `clip x y ..`
pub data GivesContour : Line → GivenPath → Type 0 where
  contour : {shape_type : ShapeType} {ws : List Word} {ps : List Point} → ArePoints ws ps
      → GivesContour (shape_name shape_type ∷ ws) (record { shape_type = shape_type; points = ps })

-- ---- open paths

-- the line gives an open path: `line x y ..`
pub data GivesOpenPath : Line → List Point → Type 0 where
  open_path : {ws : List Word} {ps : List Point} → ArePoints ws ps → GivesOpenPath (codes "line" ∷ ws) ps

-- ---- points

-- the line gives a point: `point x y`
pub data GivesPoint : Line → Point → Type 0 where
  point : {v w : Word} {x y : ℤ} → IsCoordinate v x → IsCoordinate w y → GivesPoint (codes "point" ∷ v ∷ w ∷ [])
      (record { x = x; y = y })

-- ---- the command

abbrev pub fill_name : FillRule → Word
fill_name EvenOdd = codes "EvenOdd"
fill_name NonZero = codes "NonZero"
fill_name Positive = codes "Positive"
fill_name Negative = codes "Negative"

abbrev pub rule_name : OverlayRule → Word
rule_name OfSubject = codes "Subject"
rule_name OfClip = codes "Clip"
rule_name Intersect = codes "Intersect"
rule_name Union = codes "Union"
rule_name Difference = codes "Difference"
rule_name InverseDifference = codes "InverseDifference"
rule_name Xor = codes "Xor"

-- no option is set
abbrev pub default_output : OutputOptions
default_output = record {
  output_direction = CounterClockwise;
  preserve_output_collinear = false;
  ogc = false;
  min_output_area = None;
}

-- the words, read from left to right, set options that were not set, one after another, until these options are set:
-- `clockwise` turns outlines clockwise, `keep` keeps output points on one line, `ogc` lets no contour visit a point
-- twice, and `min` with a number sets the minimum area
pub data SetOptions : OutputOptions → List Word → OutputOptions → Type 0 where
  none : {o : OutputOptions} → SetOptions o [] o
  clockwise : {old o : OutputOptions} {ws : List Word} → old.output_direction ≡ CounterClockwise
      → SetOptions (record old { output_direction = Clockwise }) ws o → SetOptions old (codes "clockwise" ∷ ws) o
  keep : {old o : OutputOptions} {ws : List Word} → old.preserve_output_collinear ≡ false
      → SetOptions (record old { preserve_output_collinear = true }) ws o → SetOptions old (codes "keep" ∷ ws) o
  ogc : {old o : OutputOptions} {ws : List Word} → old.ogc ≡ false
      → SetOptions (record old { ogc = true }) ws o → SetOptions old (codes "ogc" ∷ ws) o
  min : {old o : OutputOptions} {w : Word} {n : ℕ} {ws : List Word} → old.min_output_area ≡ None → IsArea w n
      → SetOptions (record old { min_output_area = Some n }) ws o → SetOptions old (codes "min" ∷ w ∷ ws) o

-- the words ask for an overlay: they name its rules, and then set options
pub data AsksOverlay : List Word → OverlayQuery → Type 0 where
  asks : {query : OverlayQuery} {ws : List Word} → SetOptions default_output ws query.output
      → AsksOverlay (rule_name query.overlay_rule ∷ fill_name query.fill_rule ∷ ws) query

-- no option of a clip is set: the parts inside are kept, and none on the boundary
abbrev pub default_clip : KeptParts
default_clip = record { invert = false; boundary_included = false }

-- the words, read from left to right, set options of a clip that were not set, one after another, until these options
-- are set: `invert` keeps the parts outside in place of those inside, `boundary` those on the boundary too
pub data SetClipOptions : KeptParts → List Word → KeptParts → Type 0 where
  none : {o : KeptParts} → SetClipOptions o [] o
  invert : {old o : KeptParts} {ws : List Word} → old.invert ≡ false
      → SetClipOptions (record old { invert = true }) ws o → SetClipOptions old (codes "invert" ∷ ws) o
  boundary : {old o : KeptParts} {ws : List Word} → old.boundary_included ≡ false
      → SetClipOptions (record old { boundary_included = true }) ws o → SetClipOptions old (codes "boundary" ∷ ws) o

-- the words ask for a clip: they name its fill rule, and then set options
pub data AsksClip : List Word → ClipQuery → Type 0 where
  asks_clip : {query : ClipQuery} {ws : List Word} → SetClipOptions default_clip ws query.options
      → AsksClip (fill_name query.fill_rule ∷ ws) query

-- the words ask for tiles: they name a fill rule, and then write the width and the height of a cell
pub data AsksTiles : List Word → TilesQuery → Type 0 where
  asks_tiles : {query : TilesQuery} {v w : Word} → IsSide v query.width → IsSide w query.height
      → AsksTiles (fill_name query.fill_rule ∷ v ∷ w ∷ []) query

-- the line asks for this: `run edges FILL` for the edges under a fill rule, `run overlay RULE FILL OPT..` for the
-- shapes of an overlay, `run hierarchy RULE FILL OPT..` for these and which of them lie in holes of which, `run relate
-- FILL` for how subject and clip lie to each other, `run clip FILL OPT..` for the parts of the open paths that a
-- clip by the subject keeps, `run slice FILL` for the shapes into which the open paths cut the subject, `run tiles FILL
-- W H` for those into which a grid does, `run contains` for whether each point is inside the subject, `run locate` for
-- where each point lies in it
pub data IsCommand : Line → Query → Type 0 where
  edges : {fill : FillRule} → IsCommand (codes "run" ∷ codes "edges" ∷ fill_name fill ∷ []) (Edges fill)
  overlay : {query : OverlayQuery} {ws : List Word} → AsksOverlay ws query
      → IsCommand (codes "run" ∷ codes "overlay" ∷ ws) (Overlay query)
  hierarchy : {query : OverlayQuery} {ws : List Word} → AsksOverlay ws query
      → IsCommand (codes "run" ∷ codes "hierarchy" ∷ ws) (Hierarchy query)
  relate : {fill : FillRule} → IsCommand (codes "run" ∷ codes "relate" ∷ fill_name fill ∷ []) (Relate fill)
  clip_lines : {query : ClipQuery} {ws : List Word} → AsksClip ws query
      → IsCommand (codes "run" ∷ codes "clip" ∷ ws) (ClipLines query)
  slice : {fill : FillRule} → IsCommand (codes "run" ∷ codes "slice" ∷ fill_name fill ∷ []) (Slice fill)
  tiles : {query : TilesQuery} {ws : List Word} → AsksTiles ws query
      → IsCommand (codes "run" ∷ codes "tiles" ∷ ws) (Tiles query)
  contains : IsCommand (codes "run" ∷ codes "contains" ∷ []) Contains
  locate : IsCommand (codes "run" ∷ codes "locate" ∷ []) Locate

-- ---- whole inputs

-- a contour, and the number of its line
pub record GivenContour : Type 0 where
  pub line : ℕ
  pub path : GivenPath

-- what lines give: contours, open paths and points
pub record GivenFigures : Type 0 where
  pub contours : List GivenContour
  pub lines : List (List Point)
  pub points : List Point

abbrev pub no_figures : GivenFigures
no_figures = record { contours = []; lines = []; points = [] }

-- contours without the numbers of their lines
abbrev pub contour_paths : List GivenContour → List GivenPath
contour_paths cs = map (λ c. c.path) cs

abbrev pub paths_of : GivenFigures → List GivenPath
paths_of fs = contour_paths fs.contours

-- a contour before the others
abbrev pub before_contours : ℕ → GivenPath → GivenFigures → GivenFigures
before_contours n c fs = record fs { contours = record { line = n; path = c } ∷ fs.contours }

-- an open path before the others
abbrev pub before_lines : List Point → GivenFigures → GivenFigures
before_lines ps fs = record fs { lines = ps ∷ fs.lines }

-- a point before the others
abbrev pub before_points : Point → GivenFigures → GivenFigures
before_points p fs = record fs { points = p ∷ fs.points }

-- each line is blank, or gives the next of the figures; the first line has this number
pub data AreFigures : ℕ → List Line → GivenFigures → Type 0 where
  none : {n : ℕ} → AreFigures n [] no_figures
  blank : {n : ℕ} {ls : List Line} {fs : GivenFigures} → AreFigures (n + 1) ls fs → AreFigures n ([] ∷ ls) fs
  contour : {n : ℕ} {l : Line} {c : GivenPath} {ls : List Line} {fs : GivenFigures} → GivesContour l c →
      AreFigures (n + 1) ls fs
      → AreFigures n (l ∷ ls) (before_contours n c fs)
  open_path : {n : ℕ} {l : Line} {ps : List Point} {ls : List Line} {fs : GivenFigures} → GivesOpenPath l ps →
      AreFigures (n + 1) ls fs
      → AreFigures n (l ∷ ls) (before_lines ps fs)
  point : {n : ℕ} {l : Line} {p : Point} {ls : List Line} {fs : GivenFigures} → GivesPoint l p →
      AreFigures (n + 1) ls fs
      → AreFigures n (l ∷ ls) (before_points p fs)

-- the lines, counted from 1, give figures, then one command, and then no word
pub record Asks (ls : List Line) (fs : GivenFigures) (query : Query) : Type 0 where
  pub before : List Line
  pub line : Line
  pub after : List Line
  pub parts : ls ≡ before ++ line ∷ after
  pub figures : AreFigures 1 before fs
  pub command : IsCommand line query
  pub blank : All (λ l. l ≡ []) after

-- the same, and the command stands in the line with this number
pub record AsksAt (ls : List Line) (fs : GivenFigures) (n : ℕ) (query : Query) : Type 0 where
  pub asks : Asks ls fs query
  pub number : n ≡ length asks.before + 1

-- ---- bad lines

-- the lines may begin an input: figures, or figures, the command and blank lines
abbrev pub IsGoodSoFar : List Line → Type 0
IsGoodSoFar ls = ((fs : GivenFigures) × AreFigures 1 ls fs)
    ⊎ ((fs : GivenFigures) × ((query : Query) × Asks ls fs query))

-- the first bad line has this number, counted from 1; where a command is missing, it is the one after the last
pub data IsFirstBad : List Line → ℕ → Type 0 where
  bad : {ls : List Line} {i : ℕ} → i < length ls → IsGoodSoFar (take i ls) → ¬ IsGoodSoFar (take (i + 1) ls) →
      IsFirstBad ls (i + 1)
  missing : {ls : List Line} {fs : GivenFigures} → AreFigures 1 ls fs → IsFirstBad ls (length ls + 1)
