-- What is left of a contour, of which one thing becomes, is what it is simplified to.
use Rattle.std.proofs.Common.{◌≡◌, ◌⊎◌, inl, inr, Bool, true, false, cond, pos, List, [], ◌∷◌, ◌++◌, refl, sym, ap}
use Rattle.std.proofs.Common.{subst, ◌∙◌}
use Rattle.std.proofs.lemmas.List.{append-nil}
use Rattle.std.proofs.lemmas.List.Elements.{All-nil, All-cons}
use Rattle.std.specs.List.{flat_map}
use Rattle.std.specs.Prelude.{◌↔◌, Option, None, reverse}
use Rattle.overlay_geom.specs.Plane.{Point, steps_of}
use Rattle.overlay_geom.specs.Edges.{CountedEdge, subj_of, clip_of, winding_by}
use Rattle.overlay_geom.specs.Plane.{winding}
use Rattle.overlay_geom.specs.Rules.{is_filled}
use Rattle.overlay_geom.specs.declared.fill_rule.FillRule.{FillRule}
use Rattle.overlay_geom.specs.declared.options.ContourDirection.{ContourDirection}
use Rattle.overlay_geom.specs.declared.options.ContourDirection.TheVariants.{CounterClockwise, Clockwise}
use Rattle.overlay_geom.specs.declared.overlay_rule.OverlayRule.TheVariants.{Subject}
use Rattle.overlay_plane.specs.ContourWindings.{once_round}
use Rattle.overlay_plane.specs.ShapesAlone.{WindsOnceOrNot, EachWindsOnceOrNot}
use Rattle.overlay_plane.specs.ShapeWindings.{steps_of_shapes}
use Rattle.overlay_plane.specs.Turn.{Hand}
use Rattle.overlay_walk.specs.Steps.{filled_hand}
use Rattle.overlay_extract.specs.Results.{Asked, WindsRoundRegion, region_asked}
use Rattle.i_overlay.specs.Laws.{once_in}
use Rattle.i_overlay.specs.Outcome.{IsOutcome, HasOutcome, shapes_left, contours_left}
use Rattle.i_overlay.specs.declared.simplifying.outcome.Outcome.{Outcome}
use Rattle.i_overlay.specs.declared.simplifying.outcome.Outcome.TheVariants.{NotSimple, Empty, AsGiven, Reversed}
use Rattle.i_overlay.proofs.Outcomes.{one_outcome, simple_contours_wind_once}
use Rattle.i_overlay.specs.Simplified.{IsLeft, IsSimplifiedContour, AreLeft, AreOfContour}

module _ (keep : Bool) (ps : List Point) (es : List CountedEdge) where
  module _ (q : Asked) (of_subject : q.rule ≡ Subject) where
    -- how often contours wind in the output direction
    once_so : (d : ContourDirection) → once_in d ≡ once_round (filled_hand d)
    once_so CounterClockwise = refl
    once_so Clockwise = refl

    -- what is left of a simple contour winds as asked
    simple_winds : (outcome : Outcome) → HasOutcome keep q.fill q.output_direction ps es outcome →
        (shapes : List (List (List Point))) → shapes ≡ shapes_left outcome ps →
        WindsRoundRegion q es (steps_of_shapes shapes)
    simple_winds outcome has shapes is p off =
        ap (λ ss. winding (steps_of_shapes ss) p) (is ∙ ap (λ o. shapes_left o ps) has.is)
        ∙ simple_contours_wind_once q.fill q.output_direction has.direction ps es has.added.simple has.runs p
        ∙ ap (λ once. cond (is_filled q.fill (winding_by subj_of es p)) once (pos 0)) (once_so q.output_direction)
        ∙ sym (ap (λ r. cond (region_asked (record q { rule = r }) (winding_by subj_of es p)
        (winding_by clip_of es p))
        (once_round (filled_hand q.output_direction)) (pos 0)) of_subject)

    -- and each shape by itself once or zero times
    simple_alone : (outcome : Outcome) → HasOutcome keep q.fill q.output_direction ps es outcome →
        (shapes : List (List (List Point))) → shapes ≡ shapes_left outcome ps →
        EachWindsOnceOrNot (filled_hand q.output_direction) shapes
    simple_alone outcome has shapes is = subst (EachWindsOnceOrNot (filled_hand q.output_direction)) (sym is)
        (by outcome (λ p. subst (λ z. (z ≡ once_round (filled_hand q.output_direction)) ⊎ (z ≡ pos 0))
        (sym (ap (λ o. winding (steps_of_shapes (shapes_left o ps)) p) has.is
        ∙ simple_contours_wind_once q.fill q.output_direction has.direction ps es has.added.simple has.runs p
        ∙ ap (λ once. cond (is_filled q.fill (winding_by subj_of es p)) once (pos 0)) (once_so q.output_direction)))
        (once_or_none (is_filled q.fill (winding_by subj_of es p)))))
      where
        hand : Hand
        hand = filled_hand q.output_direction

        once_or_none : (t : Bool) → (cond t (once_round hand) (pos 0) ≡ once_round hand)
            ⊎ (cond t (once_round hand) (pos 0) ≡ pos 0)
        once_or_none true = inl refl
        once_or_none false = inr refl

        one : (points : List Point) → WindsOnceOrNot hand (steps_of_shapes ((points ∷ []) ∷ [])) →
            EachWindsOnceOrNot hand ((points ∷ []) ∷ [])
        one points winds = All-cons (λ shape. WindsOnceOrNot hand (flat_map steps_of shape)) (points ∷ []) []
            (subst (WindsOnceOrNot hand) (append-nil (flat_map steps_of (points ∷ []))) winds)
            (All-nil (λ shape. WindsOnceOrNot hand (flat_map steps_of shape)))

        by : (o : Outcome) → WindsOnceOrNot hand (steps_of_shapes (shapes_left o ps)) →
            EachWindsOnceOrNot hand (shapes_left o ps)
        by NotSimple winds = All-nil (λ shape. WindsOnceOrNot hand (flat_map steps_of shape))
        by Empty winds = All-nil (λ shape. WindsOnceOrNot hand (flat_map steps_of shape))
        by AsGiven winds = one ps winds
        by Reversed winds = one (reverse ps) winds

    pub simplified_contour : (outcome : Outcome) → IsOutcome keep q.fill q.output_direction ps es outcome →
        (shapes : List (List (List Point))) → IsLeft outcome q ps es shapes → IsSimplifiedContour q keep ps es shapes
    simplified_contour NotSimple becomes shapes left = record {
      outcome = NotSimple;
      becomes = becomes;
      left = left;
      winds = left.winds;
      each_alone = left.each_alone;
    }
    simplified_contour Empty becomes shapes left = record {
      outcome = Empty;
      becomes = becomes;
      left = left;
      winds = λ all. simple_winds Empty becomes shapes left;
      each_alone = λ all. simple_alone Empty becomes shapes left;
    }
    simplified_contour AsGiven becomes shapes left = record {
      outcome = AsGiven;
      becomes = becomes;
      left = left;
      winds = λ all. simple_winds AsGiven becomes shapes left;
      each_alone = λ all. simple_alone AsGiven becomes shapes left;
    }
    simplified_contour Reversed becomes shapes left = record {
      outcome = Reversed;
      becomes = becomes;
      left = left;
      winds = λ all. simple_winds Reversed becomes shapes left;
      each_alone = λ all. simple_alone Reversed becomes shapes left;
    }

    -- the contours in one list have the same steps
    same_steps : (outcome : Outcome) →
        flat_map steps_of (contours_left outcome ps) ≡ steps_of_shapes (shapes_left outcome ps)
    same_steps NotSimple = refl
    same_steps Empty = refl
    same_steps AsGiven = sym (append-nil (steps_of ps ++ []))
    same_steps Reversed = sym (append-nil (steps_of (reverse ps) ++ []))

    -- so they wind as asked
    contours_wind : (outcome : Outcome) → HasOutcome keep q.fill q.output_direction ps es outcome →
        (contours : List (List Point)) → contours ≡ contours_left outcome ps →
        WindsRoundRegion q es (flat_map steps_of contours)
    contours_wind outcome has contours is p off =
        ap (λ ss. winding ss p) (ap (flat_map steps_of) is ∙ same_steps outcome)
        ∙ simple_winds outcome has (shapes_left outcome ps) refl p off

    pub contours_of_one : (outcome : Outcome) → IsOutcome keep q.fill q.output_direction ps es outcome →
        (contours : List (List Point)) → AreLeft outcome q ps es contours → AreOfContour q keep ps es contours
    contours_of_one NotSimple becomes contours left =
        record { outcome = NotSimple; becomes = becomes; left = left; winds = left.winds }
    contours_of_one Empty becomes contours left = record
        { outcome = Empty; becomes = becomes; left = left; winds = λ all. contours_wind Empty becomes contours left }
    contours_of_one AsGiven becomes contours left = record {
      outcome = AsGiven;
      becomes = becomes;
      left = left;
      winds = λ all. contours_wind AsGiven becomes contours left;
    }
    contours_of_one Reversed becomes contours left = record {
      outcome = Reversed;
      becomes = becomes;
      left = left;
      winds = λ all. contours_wind Reversed becomes contours left;
    }

  module _ (fill : FillRule) (output : ContourDirection) where
    -- where it is simple, this is the one thing that becomes of it
    pub outcome_is : (outcome other : Outcome) → IsOutcome keep fill output ps es outcome →
        HasOutcome keep fill output ps es other → outcome ≡ other
    outcome_is NotSimple other becomes has = absurd (becomes has.added)
    outcome_is Empty other becomes has = one_outcome keep fill output ps es Empty other becomes has
    outcome_is AsGiven other becomes has = one_outcome keep fill output ps es AsGiven other becomes has
    outcome_is Reversed other becomes has = one_outcome keep fill output ps es Reversed other becomes has

    -- so the answer without shapes comes exactly where it stays as it is given
    pub none_as_given : {X : Type 0} (answer : Option X) (outcome : Outcome) →
        IsOutcome keep fill output ps es outcome → (answer ≡ None) ↔ (outcome ≡ AsGiven) →
        (answer ≡ None) ↔ HasOutcome keep fill output ps es AsGiven
    none_as_given answer outcome becomes is = (
      (λ none. subst (IsOutcome keep fill output ps es) (is.0 none) becomes),
      (λ has. is.1 (outcome_is outcome AsGiven becomes has)),
    )
