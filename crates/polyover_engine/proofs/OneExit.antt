-- An input asks one thing, and is bad at one line, or has an answer.
use Rattle.std.proofs.Common.{◌≡◌, ◌⊎◌, inl, inr, ℕ, List, [], ◌∷◌, Option, IfSome, refl, sym, ap, subst, ◌∙◌}
use Rattle.std.specs.List.{flat_map}
use Rattle.overlay_geom.specs.declared.error.OverlayError.{OverlayError}
use Rattle.overlay_geom.specs.declared.error.OverlayError.TheVariants.{Memory}
use Rattle.overlay_relate.proofs.OneLocation.{one_location_among}
use Rattle.polyover_text.specs.Grammar.{GivenFigures, Asks, input_lines}
use Rattle.polyover_text.specs.Printed.{location_line}
use Rattle.polyover_text.specs.declared.query.Query.{Query}
use Rattle.polyover_text.specs.declared.query.Query.TheVariants.{Edges, Overlay, Hierarchy, Relate, ClipLines}
use Rattle.polyover_text.specs.declared.query.Query.TheVariants.{Slice, Tiles, Contains, Locate}
use Rattle.polyover_text.proofs.OneInput.{one_input}
use Rattle.polyover_text.proofs.OneBadLine.{one_bad_line, inputs_have_no_bad_line}
use Rattle.polyover_engine.specs.Answers.{Answers, IsAnswer, AsksAboutPoints, AsksForMisfit, MayRefuseQuery}
use Rattle.polyover_engine.specs.Determined.{OneBadInput, BadInputsHaveNoAnswer, BadInputsAreNotRefused}
use Rattle.polyover_engine.specs.Determined.{OneTextOfLocations, OneExit}
use Rattle.polyover_engine.specs.Engine.{IsBadInput}
use Rattle.polyover_engine.specs.Subjects.{subject_of, IsFirstUnresolved}
use Rattle.polyover_engine.specs.declared.exit.Exit.TheVariants.{Answered, Refused, BadInput, Io}
use Rattle.polyover_engine.specs.declared.turn.Turn.{Turn}
use Rattle.polyover_engine.proofs.OneUnresolved.{one_unresolved, not_all_resolved, same_number}

-- ---- what is asked

-- no query asks about points and for tiles
not_both : (fs : GivenFigures) (query : Query) → AsksAboutPoints query → ¬ (AsksForMisfit fs query)
not_both fs (Edges fill) points misfit = points
not_both fs (Overlay query) points misfit = points
not_both fs (Hierarchy query) points misfit = points
not_both fs (Relate fill) points misfit = points
not_both fs (ClipLines query) points misfit = points
not_both fs (Slice fill) points misfit = points
not_both fs (Tiles query) points misfit = points
not_both fs Contains points misfit = misfit
not_both fs Locate points misfit = misfit

-- a subject that is not resolved has no answer about points
unanswered_points : (fs : GivenFigures) (query : Query) (n : ℕ) (text : List ℕ) → AsksAboutPoints query →
    IsFirstUnresolved fs.contours n → ¬ (Answers fs query text)
unanswered_points fs (Edges fill) n text points first answers = points
unanswered_points fs (Overlay query) n text points first answers = points
unanswered_points fs (Hierarchy query) n text points first answers = points
unanswered_points fs (Relate fill) n text points first answers = points
unanswered_points fs (ClipLines query) n text points first answers = points
unanswered_points fs (Slice fill) n text points first answers = points
unanswered_points fs (Tiles query) n text points first answers = points
unanswered_points fs Contains n text points first answers = not_all_resolved fs.contours n first answers.1.resolved
unanswered_points fs Locate n text points first answers = not_all_resolved fs.contours n first answers.1.resolved

-- a grid that does not fit has none
unanswered_tiles : (fs : GivenFigures) (query : Query) (text : List ℕ) → AsksForMisfit fs query →
    ¬ (Answers fs query text)
unanswered_tiles fs (Edges fill) text misfit answers = misfit
unanswered_tiles fs (Overlay query) text misfit answers = misfit
unanswered_tiles fs (Hierarchy query) text misfit answers = misfit
unanswered_tiles fs (Relate fill) text misfit answers = misfit
unanswered_tiles fs (ClipLines query) text misfit answers = misfit
unanswered_tiles fs (Slice fill) text misfit answers = misfit
unanswered_tiles fs (Tiles query) text misfit answers = misfit answers.1
unanswered_tiles fs Contains text misfit answers = misfit
unanswered_tiles fs Locate text misfit answers = misfit

-- nor is either refused, but for memory
unrefused_points : (fs : GivenFigures) (query : Query) (e : OverlayError) → ¬ (e ≡ Memory) → AsksAboutPoints query →
    ¬ (MayRefuseQuery fs query e)
unrefused_points fs (Edges fill) e other points refused = points
unrefused_points fs (Overlay query) e other points refused = points
unrefused_points fs (Hierarchy query) e other points refused = points
unrefused_points fs (Relate fill) e other points refused = points
unrefused_points fs (ClipLines query) e other points refused = points
unrefused_points fs (Slice fill) e other points refused = points
unrefused_points fs (Tiles query) e other points refused = points
unrefused_points fs Contains e other points refused = other refused
unrefused_points fs Locate e other points refused = other refused

unrefused_tiles : (fs : GivenFigures) (query : Query) (e : OverlayError) → ¬ (e ≡ Memory) → AsksForMisfit fs query →
    ¬ (MayRefuseQuery fs query e)
unrefused_tiles fs (Edges fill) e other misfit refused = misfit
unrefused_tiles fs (Overlay query) e other misfit refused = misfit
unrefused_tiles fs (Hierarchy query) e other misfit refused = misfit
unrefused_tiles fs (Relate fill) e other misfit refused = misfit
unrefused_tiles fs (ClipLines query) e other misfit refused = misfit
unrefused_tiles fs (Slice fill) e other misfit refused = misfit
unrefused_tiles fs (Tiles query) e other misfit (inl memory) = other memory
unrefused_tiles fs (Tiles query) e other misfit (inr (fits, refused)) = misfit fits
unrefused_tiles fs Contains e other misfit refused = misfit
unrefused_tiles fs Locate e other misfit refused = misfit

-- ---- of one input

module _ (bytes : List ℕ) where
  -- what is asked of an input is one thing
  asked_once : (fs gs : GivenFigures) (first second : Query) → Asks (input_lines bytes) fs first →
      Asks (input_lines bytes) gs second → (fs ≡ gs) × (first ≡ second)
  asked_once fs gs first second a b = one_input (input_lines bytes) fs gs first second a b

  -- a bad input without a bad line asks about points that cannot be told, or for tiles that cannot be made
  abbrev AsksInVain : GivenFigures → Query → ℕ → Type 0
  AsksInVain fs query n = (AsksAboutPoints query × IsFirstUnresolved fs.contours n) ⊎ AsksForMisfit fs query

  -- of all that is asked, what a bad input tells of one is told of the other
  told : (fs gs : GivenFigures) (first second : Query) → Asks (input_lines bytes) fs first →
      Asks (input_lines bytes) gs second → (P : GivenFigures → Query → Type 0) → P fs first → P gs second
  told fs gs first second a b P holds =
      let same = asked_once fs gs first second a b in
      subst (λ query. P gs query) same.1 (subst (λ hs. P hs first) same.0 holds)

pub one_bad_input : OneBadInput
one_bad_input bytes n m (inl line) (inl line') = one_bad_line (input_lines bytes) n m line line'
one_bad_input bytes n m (inl line) (inr (inl h)) =
    absurd (inputs_have_no_bad_line (input_lines bytes) h.figures h.query n h.asks line)
one_bad_input bytes n m (inl line) (inr (inr h)) =
    absurd (inputs_have_no_bad_line (input_lines bytes) h.figures h.query n h.asks.asks line)
one_bad_input bytes n m (inr (inl h)) (inl line) =
    absurd (inputs_have_no_bad_line (input_lines bytes) h.figures h.query m h.asks line)
one_bad_input bytes n m (inr (inl h)) (inr (inl k)) =
    one_unresolved k.figures.contours n m
    (told bytes h.figures k.figures h.query k.query h.asks k.asks (λ fs query. IsFirstUnresolved fs.contours n)
    h.unresolved) k.unresolved
one_bad_input bytes n m (inr (inl h)) (inr (inr k)) = absurd (not_both k.figures k.query
    (told bytes h.figures k.figures h.query k.query h.asks k.asks.asks (λ fs query. AsksAboutPoints query)
    h.asks_about_points) k.misfit)
one_bad_input bytes n m (inr (inr h)) (inl line) =
    absurd (inputs_have_no_bad_line (input_lines bytes) h.figures h.query m h.asks.asks line)
one_bad_input bytes n m (inr (inr h)) (inr (inl k)) = absurd (not_both h.figures h.query
    (told bytes k.figures h.figures k.query h.query k.asks h.asks.asks (λ fs query. AsksAboutPoints query)
    k.asks_about_points) h.misfit)
one_bad_input bytes n m (inr (inr h)) (inr (inr k)) =
    same_number (input_lines bytes) h.figures k.figures h.query k.query n m h.asks k.asks

pub bad_inputs_have_no_answer : BadInputsHaveNoAnswer
bad_inputs_have_no_answer bytes text n (inl line) a =
    inputs_have_no_bad_line (input_lines bytes) a.figures a.query n a.asks line
bad_inputs_have_no_answer bytes text n (inr (inl h)) a =
    unanswered_points h.figures h.query n text h.asks_about_points h.unresolved
    (told bytes a.figures h.figures a.query h.query a.asks h.asks (λ fs query. Answers fs query text) a.answers)
bad_inputs_have_no_answer bytes text n (inr (inr h)) a =
    unanswered_tiles h.figures h.query text h.misfit
    (told bytes a.figures h.figures a.query h.query a.asks h.asks.asks (λ fs query. Answers fs query text) a.answers)

pub bad_inputs_are_not_refused : BadInputsAreNotRefused
bad_inputs_are_not_refused bytes n e other (inl line) r =
    inputs_have_no_bad_line (input_lines bytes) r.figures r.query n r.asks line
bad_inputs_are_not_refused bytes n e other (inr (inl h)) r =
    unrefused_points h.figures h.query e other h.asks_about_points
    (told bytes r.figures h.figures r.query h.query r.asks h.asks (λ fs query. MayRefuseQuery fs query e) r.refused)
bad_inputs_are_not_refused bytes n e other (inr (inr h)) r =
    unrefused_tiles h.figures h.query e other h.misfit
    (told bytes r.figures h.figures r.query h.query r.asks h.asks.asks (λ fs query. MayRefuseQuery fs query e)
    r.refused)

pub one_text_of_locations : OneTextOfLocations
one_text_of_locations fs first second a b =
    a.2 ∙ ap (flat_map location_line) (one_location_among (subject_of fs.contours ∷ []) fs.points a.0 b.0 a.1.located
    b.1.located) ∙ sym b.2

-- ---- runs

module _ {R W : Type 0} (remaining : R → Option (List ℕ)) (reads : R → ℕ → Turn → R → Type 0)
    (contents : W → Option (List ℕ)) (writes : W → ℕ → Turn → W → Type 0) (flushes : W → Turn → W → Type 0) where
  pub one_exit : OneExit remaining reads contents writes flushes
  one_exit bytes r0 r1 r2 w0 w1 w2 Answered Answered known tells tells' a b = refl
  one_exit bytes r0 r1 r2 w0 w1 w2 Answered (BadInput m) known tells tells' a b =
      absurd (bad_inputs_have_no_answer bytes a.0 m
      (subst (λ given. IfSome given (λ bs. IsBadInput bs m)) known b.input)
      (subst (λ given. IfSome given (λ bs. IsAnswer bs a.0)) known a.1.input))
  one_exit bytes r0 r1 r2 w0 w1 w2 (BadInput n) Answered known tells tells' a b =
      absurd (bad_inputs_have_no_answer bytes b.0 n
      (subst (λ given. IfSome given (λ bs. IsBadInput bs n)) known a.input)
      (subst (λ given. IfSome given (λ bs. IsAnswer bs b.0)) known b.1.input))
  one_exit bytes r0 r1 r2 w0 w1 w2 (BadInput n) (BadInput m) known tells tells' a b =
      ap BadInput (one_bad_input bytes n m
      (subst (λ given. IfSome given (λ bs. IsBadInput bs n)) known a.input)
      (subst (λ given. IfSome given (λ bs. IsBadInput bs m)) known b.input))
  one_exit bytes r0 r1 r2 w0 w1 w2 (Refused e) second known tells tells' a b = absurd tells
  one_exit bytes r0 r1 r2 w0 w1 w2 Io second known tells tells' a b = absurd tells
  one_exit bytes r0 r1 r2 w0 w1 w2 Answered (Refused e) known tells tells' a b = absurd tells'
  one_exit bytes r0 r1 r2 w0 w1 w2 Answered Io known tells tells' a b = absurd tells'
  one_exit bytes r0 r1 r2 w0 w1 w2 (BadInput n) (Refused e) known tells tells' a b = absurd tells'
  one_exit bytes r0 r1 r2 w0 w1 w2 (BadInput n) Io known tells tells' a b = absurd tells'
