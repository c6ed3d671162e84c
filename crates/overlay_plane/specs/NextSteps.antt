-- Sets of steps in which the next step by a hand is one to one. Alternating sets are so by either hand, and so are
-- parts that contain with each step its next step.
use Rattle.std.specs.Prelude.{◌≡◌, ◌↔◌, Bool, false, not, List, Contains, filter}
use Rattle.overlay_geom.specs.Plane.{Step}
use Rattle.overlay_plane.specs.Turn.{Hand, is_met_before, IsNextStep}
use Rattle.overlay_plane.specs.Alternates.{AreOneWay, Alternates}

-- ---- one next step

-- the set leads on by the hand: a step leaves the end of each step, and no two steps have the same next step. No step
-- has equal ends, and no two leave a point along one ray
pub record LeadsOn (steps : List Step) (hand : Hand) : Type 0 where
  pub long : (s : Step) → Contains steps s → ¬ (s.from ≡ s.to)
  pub one_leaves : (s t : Step) → Contains steps s → Contains steps t → s.from ≡ t.from → AreOneWay s.from s.to t.to →
      s ≡ t
  pub goes_on : (s : Step) → Contains steps s → (t : Step) × Contains steps t × (t.from ≡ s.to)
  pub apart : (s t u : Step) → Contains steps s → Contains steps t → IsNextStep steps hand s u →
      IsNextStep steps hand t u → s ≡ t

-- each step has exactly one next step
pub record HasOneNext (steps : List Step) (hand : Hand) (s : Step) : Type 0 where
  pub next : Step
  pub is : IsNextStep steps hand s next
  pub only : (t : Step) → IsNextStep steps hand s t → t ≡ next

abbrev pub StepsThatLeadOnHaveOneNext : Type 0
StepsThatLeadOnHaveOneNext = (steps : List Step) (hand : Hand) → LeadsOn steps hand → (s : Step) → Contains steps s →
    HasOneNext steps hand s

-- steps that alternate lead on by either hand
abbrev pub AlternatingStepsLeadOn : Type 0
AlternatingStepsLeadOn = (steps : List Step) → Alternates steps → (hand : Hand) → LeadsOn steps hand

-- ---- in steps that alternate

-- each step of the set has one next step by the hand, and is the next step of one step. The next step is the neighbour
-- among all steps at the node: no arriving step lies between
pub record IsOneToOne (steps : List Step) (hand : Hand) : Type 0 where
  pub exists : (s : Step) → Contains steps s → (t : Step) × IsNextStep steps hand s t
  pub unique : (s t u : Step) → Contains steps s → IsNextStep steps hand s t → IsNextStep steps hand s u → t ≡ u
  pub injective : (s t u : Step) → Contains steps s → Contains steps t → IsNextStep steps hand s u →
      IsNextStep steps hand t u → s ≡ t
  pub surjective : (t : Step) → Contains steps t → (s : Step) × Contains steps s × IsNextStep steps hand s t
  pub neighbours : (s t u : Step) → Contains steps s → IsNextStep steps hand s t → Contains steps u → u.to ≡ s.to →
      is_met_before hand s.to s.from u.from t.to ≡ false

abbrev pub NextIsOneToOne : Type 0
NextIsOneToOne = (steps : List Step) → Alternates steps → (hand : Hand) → IsOneToOne steps hand

-- ---- closed parts

-- the test holds of a step of the set exactly where it holds of its next step by the hand
abbrev pub IsClosedUnderNext : List Step → Hand → (Step → Bool) → Type 0
IsClosedUnderNext steps hand taken = (s t : Step) → Contains steps s → IsNextStep steps hand s t → taken s ≡ taken t

-- the steps that a closed test takes alternate, and so do those that it leaves, with the same next steps
pub record IsApartFromRest (steps : List Step) (hand : Hand) (taken : Step → Bool) : Type 0 where
  pub taken_alternate : Alternates (filter taken steps)
  pub left_alternate : Alternates (filter (λ s. not (taken s)) steps)
  pub taken_next : (s t : Step) → Contains (filter taken steps) s →
      IsNextStep (filter taken steps) hand s t ↔ IsNextStep steps hand s t
  pub left_next : (s t : Step) → Contains (filter (λ s. not (taken s)) steps) s →
      IsNextStep (filter (λ s. not (taken s)) steps) hand s t ↔ IsNextStep steps hand s t

abbrev pub ClosedPartsAlternate : Type 0
ClosedPartsAlternate = (steps : List Step) → Alternates steps → (hand : Hand) (taken : Step → Bool) →
    IsClosedUnderNext steps hand taken →
    IsApartFromRest steps hand taken

-- the steps that a closed test takes lead on, and so do those that it leaves, with the same next steps
pub record LeadsOnApart (steps : List Step) (hand : Hand) (part : Step → Bool) : Type 0 where
  pub part_leads_on : LeadsOn (filter part steps) hand
  pub rest_leads_on : LeadsOn (filter (λ s. not (part s)) steps) hand
  pub part_next : (s t : Step) → Contains (filter part steps) s →
      IsNextStep (filter part steps) hand s t ↔ IsNextStep steps hand s t
  pub rest_next : (s t : Step) → Contains (filter (λ s. not (part s)) steps) s →
      IsNextStep (filter (λ s. not (part s)) steps) hand s t ↔ IsNextStep steps hand s t

abbrev pub ClosedPartsLeadOn : Type 0
ClosedPartsLeadOn = (steps : List Step) (hand : Hand) → LeadsOn steps hand → (part : Step → Bool) →
    IsClosedUnderNext steps hand part →
    LeadsOnApart steps hand part
