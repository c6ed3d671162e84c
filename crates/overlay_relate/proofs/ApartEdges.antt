-- Edges that meet in ends alone, at whatever different places they stand: no edge stands twice, and different ones meet
-- in ends alone; and back.
use Rattle.std.proofs.Common.{◌≡◌, ◌↔◌, ◌<◌, ⊎_elim, true, false, List, get_or, Contains, sym, ap, ◌∙◌, subst, arith}
use Rattle.std.specs.List.{All, AllPairs}
use Rattle.std.specs.List.Sorted.{IsPermutation}
use Rattle.std.proofs.lemmas.Bool.{cases_lt, both_ways, false_from_ne_true}
use Rattle.std.proofs.lemmas.List.{get_or_default}
use Rattle.std.proofs.lemmas.List.Elements.{Contains-get_or}
use Rattle.std.proofs.lemmas.List.Sorted.{All-permutation, Contains-permutation, IsPermutation-sym}
use Rattle.std.proofs.Math.Nat.{eq-or-lt_of_le}
use Rattle.overlay_geom.specs.Plane.{Edge, edge_eq, point_lt}
use Rattle.overlay_geom.specs.Resolved.{AreApart}
use Rattle.overlay_geom.specs.Settled.{MeetInEnds, IsSettledBy}
use Rattle.overlay_geom.proofs.OneLine.{meet_in_ends_exchanged, overlapping_do_not_meet_in_ends, holds_start, holds_end}
use Rattle.overlay_geom.proofs.Orders.{edge_eq-same, edge_eq-itself, edge_eq-exchanged}
use Rattle.overlay_geom.proofs.PointOrder.{Decides-point_lt}
use Rattle.overlay_plane.proofs.ShuffledPairs.{pairs_shuffled}

-- an edge that leads forward does not meet itself in ends alone
not_with_itself : (e : Edge) → point_lt e.a e.b ≡ true → ¬ (MeetInEnds e e)
not_with_itself e forward =
    let before = (Decides-point_lt e.a e.b).0 forward in
    overlapping_do_not_meet_in_ends e e before before ((holds_start e before).on_line, (holds_end e before).on_line)
    before before

-- the edges lead forward
abbrev pub LeadForward : List Edge → Type 0
LeadForward es = All (λ (e : Edge). point_lt e.a e.b ≡ true) es

-- no edge stands twice
abbrev pub StandOnce : List Edge → Type 0
StandOnce es = AllPairs (λ (e f : Edge). edge_eq e f ≡ false) es

module _ (es : List Edge) (forward : LeadForward es) (apart : AreApart es) where
  pub stand_once : StandOnce es
  stand_once i j d l m = false_from_ne_true (edge_eq (get_or es i d) (get_or es j d)) (λ same.
      not_with_itself (get_or es j d) (forward j d m)
      (subst (λ (e : Edge). MeetInEnds e (get_or es j d)) (edge_eq-same (get_or es i d) (get_or es j d) same)
      (apart i j d l m)))

  pub settled_apart : IsSettledBy (λ e. e) es
  settled_apart e f c d differ = ⊎_elim
      (λ before. ordered e f c d before)
      (λ after. ⊎_elim
      (λ same. absurd (let here : e ≡ f = sym c.2 ∙ get_or_default es c.0 e f c.1 ∙ ap (λ n. get_or es n f) (sym same)
      ∙ d.2 in
      both_ways (edge_eq e f) differ (subst (λ (g : Edge). edge_eq e g ≡ true) here (edge_eq-itself e))))
      (λ before. meet_in_ends_exchanged e f (ordered f e d c before)) (eq-or-lt_of_le after))
      (cases_lt c.0 d.0)
    where
      ordered : (e f : Edge) (c : Contains es e) (d : Contains es f) → c.0 < d.0 → MeetInEnds e f
      ordered e f c d before = subst (λ (g : Edge). MeetInEnds g f) (get_or_default es c.0 f e c.1 ∙ c.2)
          (subst (λ (g : Edge). MeetInEnds (get_or es c.0 f) g) d.2 (apart c.0 d.0 f before d.1))

pub apart_from_settled : (es : List Edge) → StandOnce es → IsSettledBy (λ e. e) es → AreApart es
apart_from_settled es once settled i j d l m =
    settled (get_or es i d) (get_or es j d) (Contains-get_or es i d (omega (arith, l, m))) (Contains-get_or es j d m)
    (once i j d l m)

-- in another order they meet in ends alone as well
apart_shuffled : (es fs : List Edge) → LeadForward es → IsPermutation es fs → AreApart es → AreApart fs
apart_shuffled es fs forward moved apart =
    let back = IsPermutation-sym es fs moved in
    apart_from_settled fs
    (pairs_shuffled edge_eq edge_eq-exchanged es fs moved (stand_once es forward apart))
    (λ e f c d differ. settled_apart es forward apart e f (Contains-permutation fs es e back c)
    (Contains-permutation fs es f back d) differ)

pub apart_alike : (es fs : List Edge) → LeadForward es → IsPermutation es fs → AreApart fs ↔ AreApart es
apart_alike es fs forward moved = (
  λ apart. apart_shuffled fs es (All-permutation (λ (e : Edge). point_lt e.a e.b ≡ true) es fs moved forward)
      (IsPermutation-sym es fs moved) apart,
  λ apart. apart_shuffled es fs forward moved apart,
)
