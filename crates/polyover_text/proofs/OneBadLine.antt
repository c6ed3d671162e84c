-- The front of good lines is good; so one line alone is the first bad one, and of an input none is.
use Rattle.std.proofs.Common.{◌≡◌, ⊎_elim, inl, inr, ◌⊎◌, ℕ, zero, suc, ◌+◌, ◌<◌, List, [], ◌∷◌, ◌++◌, take, All}
use Rattle.std.proofs.Common.{refl, sym, ap, subst, arith}
use Rattle.std.proofs.lemmas.Bool.{cases_order}
use Rattle.std.proofs.lemmas.List.{take-take}
use Rattle.std.proofs.lemmas.List.Elements.{All-take}
use Rattle.polyover_text.specs.declared.query.Query.{Query}
use Rattle.polyover_text.specs.Grammar.{Line, GivenFigures, no_figures, AreFigures, none, blank, contour, open_path}
use Rattle.polyover_text.specs.Grammar.{point, IsCommand, IsGoodSoFar, bad, missing}
use Rattle.polyover_text.specs.OneInput.{OneBadLine, InputsHaveNoBadLine}
use Rattle.polyover_text.proofs.GoodLines.{no_command_among}

-- ---- the front of lines

-- the front of figures are figures
figures_front : (n k : ℕ) (ls : List Line) (fs : GivenFigures) → AreFigures n ls fs →
    (gs : GivenFigures) × AreFigures n (take k ls) gs
figures_front n zero ls fs are = (no_figures, none)
figures_front n (suc k) ls fs none = (no_figures, none)
figures_front n (suc k) ls fs (blank {ls = rest} {fs = gs} more) =
    let front = figures_front (n + 1) k rest gs more in (_, blank front.1)
figures_front n (suc k) ls fs (contour {ls = rest} {fs = gs} first more) =
    let front = figures_front (n + 1) k rest gs more in (_, contour first front.1)
figures_front n (suc k) ls fs (open_path {ls = rest} {fs = gs} first more) =
    let front = figures_front (n + 1) k rest gs more in (_, open_path first front.1)
figures_front n (suc k) ls fs (point {ls = rest} {fs = gs} first more) =
    let front = figures_front (n + 1) k rest gs more in (_, point first front.1)

-- lines from one with this number on are figures, or figures, the command and blank lines
record HaveCommand (n : ℕ) (ls : List Line) (query : Query) : Type 0 where
  before : List Line
  line : Line
  after : List Line
  parts : ls ≡ before ++ line ∷ after
  figures : GivenFigures
  are : AreFigures n before figures
  command : IsCommand line query
  quiet : All (λ l. l ≡ []) after

abbrev MayStand : ℕ → List Line → Query → Type 0
MayStand n ls query = ((fs : GivenFigures) × AreFigures n ls fs) ⊎ HaveCommand n ls query

-- with one more line in front, which is blank or gives a figure
one_before : (n : ℕ) (l : Line) (ls : List Line) (query : Query) →
    ((ms : List Line) (fs : GivenFigures) → AreFigures (n + 1) ms fs → (gs : GivenFigures) × AreFigures n (l ∷ ms) gs) →
    MayStand (n + 1) ls query → MayStand n (l ∷ ls) query
one_before n l ls query more (inl front) = inl (more ls front.0 front.1)
one_before n l ls query more (inr has) = let own = more has.before has.figures has.are in inr (record {
  before = l ∷ has.before;
  line = has.line;
  after = has.after;
  parts = ap (λ ms. l ∷ ms) has.parts;
  figures = own.0;
  are = own.1;
  command = has.command;
  quiet = has.quiet;
})

asking_front : (n k : ℕ) (before : List Line) (line : Line) (after : List Line) (fs : GivenFigures) (query : Query) →
    AreFigures n before fs → IsCommand line query → All (λ l. l ≡ []) after →
    MayStand n (take k (before ++ line ∷ after)) query
asking_front n zero before line after fs query are command quiet = inl (no_figures, none)
asking_front n (suc k) before line after fs query none command quiet = inr (record {
  before = [];
  line = line;
  after = take k after;
  parts = refl;
  figures = no_figures;
  are = none;
  command = command;
  quiet = All-take (λ l. l ≡ []) k after quiet;
})
asking_front n (suc k) before line after fs query (blank {ls = rest} {fs = gs} more) command quiet =
    one_before n [] (take k (rest ++ line ∷ after)) query (λ ms hs are. (_, blank are))
    (asking_front (n + 1) k rest line after gs query more command quiet)
asking_front n (suc k) before line after fs query (contour {l = l} {ls = rest} {fs = gs} first more) command quiet =
    one_before n l (take k (rest ++ line ∷ after)) query (λ ms hs are. (_, contour first are))
    (asking_front (n + 1) k rest line after gs query more command quiet)
asking_front n (suc k) before line after fs query (open_path {l = l} {ls = rest} {fs = gs} first more) command quiet =
    one_before n l (take k (rest ++ line ∷ after)) query (λ ms hs are. (_, open_path first are))
    (asking_front (n + 1) k rest line after gs query more command quiet)
asking_front n (suc k) before line after fs query (point {l = l} {ls = rest} {fs = gs} first more) command quiet =
    one_before n l (take k (rest ++ line ∷ after)) query (λ ms hs are. (_, point first are))
    (asking_front (n + 1) k rest line after gs query more command quiet)

-- so the front of good lines is good
good_front : (k : ℕ) (ls : List Line) → IsGoodSoFar ls → IsGoodSoFar (take k ls)
good_front k ls (inl figures) = inl (figures_front 1 k ls figures.0 figures.1)
good_front k ls (inr (fs, (query, asks))) = by
    (subst (λ ms. MayStand 1 (take k ms) query) (sym asks.parts)
    (asking_front 1 k asks.before asks.line asks.after fs query asks.figures asks.command asks.blank))
  where
    by : MayStand 1 (take k ls) query → IsGoodSoFar (take k ls)
    by (inl figures) = inl figures
    by (inr has) = inr (
      has.figures,
      (
        query,
        record {
          before = has.before;
          line = has.line;
          after = has.after;
          parts = has.parts;
          figures = has.are;
          command = has.command;
          blank = has.quiet;
        },
      ),
    )

-- ---- the first bad line

-- where longer lines are good, shorter ones are
good_before : (ls : List Line) (i j : ℕ) → i < j → IsGoodSoFar (take j ls) → IsGoodSoFar (take (i + 1) ls)
good_before ls i j less good = subst IsGoodSoFar (take-take (i + 1) j ls (omega arith))
    (good_front (i + 1) (take j ls) good)

pub one_bad_line : OneBadLine
one_bad_line ls _ _ (bad {i = i} inside good ends) (bad {i = j} inside' good' ends') = ⊎_elim
    (λ same. ap (λ k. k + 1) same) (λ either. ⊎_elim (λ less. absurd (ends (good_before ls i j less good')))
    (λ more. absurd (ends' (good_before ls j i more good))) either) (cases_order i j)
one_bad_line ls _ _ (bad {i = i} inside good ends) (missing {fs = fs} are) =
    absurd (ends (good_front (i + 1) ls (inl (fs, are))))
one_bad_line ls _ _ (missing {fs = fs} are) (bad {i = i} inside good ends) =
    absurd (ends (good_front (i + 1) ls (inl (fs, are))))
one_bad_line ls _ _ (missing are) (missing are') = refl

pub inputs_have_no_bad_line : InputsHaveNoBadLine
inputs_have_no_bad_line ls fs query _ asks (bad {i = i} inside good ends) =
    ends (good_front (i + 1) ls (inr (fs, (query, asks))))
inputs_have_no_bad_line ls fs query _ asks (missing {fs = gs} are) = no_command_among ls fs gs query asks are
