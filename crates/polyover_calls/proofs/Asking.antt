-- How asking ends, why it is refused, and that its answers are the only ones.
use Rattle.std.proofs.Common.{◌≡◌, ℕ, ℤ, List, [], ◌∷◌, map, get_or, inl, inr, refl, sym, ap, ◌∙◌, subst}
use Rattle.std.proofs.lemmas.List.{get_or-map, length-map}
use Rattle.std.proofs.lemmas.List.Elements.{All-nil}
use Rattle.overlay_geom.specs.Plane.{Point, Edge, in_plane, IsOn}
use Rattle.overlay_geom.specs.Points.{plain_points}
use Rattle.overlay_geom.specs.Resolved.{IsLongEdge}
use Rattle.overlay_relate.proofs.OneLocation.{one_location_by, one_list_of_answers}
use Rattle.overlay_relate.specs.Answers.{AnswersWhere}
use Rattle.overlay_relate.specs.Blocks.{IsBlockOf}
use Rattle.overlay_relate.specs.Locations.{IsLocatedBy}
use Rattle.overlay_relate.specs.declared.location.PointLocation.TheVariants.{Outside}
use Rattle.polyover_calls.specs.Arrays.{points_of, written_over}
use Rattle.polyover_calls.specs.Located.{number_of}
use Rattle.polyover_calls.specs.Prepared.{Parts, HaveRoom, AreLocatedIn, AreToldIn, AskingEnds, IsAskingRefused}
use Rattle.polyover_calls.specs.PreparedLaws.{OneAsking, AskingsAreOne, BareCanBeAsked}
use Rattle.polyover_calls.specs.Reading.{ArePoints, PointsHaveOwnFault}
use Rattle.polyover_calls.specs.Statuses.{status_of_fault}
use Rattle.polyover_calls.specs.declared.fault.Fault.{Fault}
use Rattle.polyover_calls.specs.declared.fault.Fault.TheVariants as fault
use Rattle.polyover_calls.specs.declared.status.Status.{Status}
use Rattle.polyover_calls.specs.declared.status.Status.TheVariants.{Done, TooSmall}

module _ {I : Type 0} (whole : I → ℤ) (limit : ℕ) (points : List I) (room : List ℕ) where
  pub points_refused : (f : Fault) → PointsHaveOwnFault whole limit points f →
      IsAskingRefused whole limit points room (status_of_fault f)
  points_refused fault.Memory faulty = absurd faulty
  points_refused fault.Ends faulty = inl (refl, faulty)
  points_refused fault.Range faulty = inr (inl (refl, faulty))

  pub no_room : ArePoints whole limit points → ¬ (HaveRoom points room) →
      IsAskingRefused whole limit points room TooSmall
  no_room are short = inr (inr (refl, (are, short)))

  -- ---- how it ends

  pub asked_ends : (p : Parts) (new : List ℕ) → ArePoints whole limit points → HaveRoom points room →
      AreLocatedIn whole p.edges points room new → AskingEnds whole limit p points room new Done
  asked_ends p new are has located = inl (refl, (are, (has, located)))

  pub unasked_ends : (p : Parts) (s : Status) → IsAskingRefused whole limit points room s →
      AskingEnds whole limit p points room room s
  unasked_ends p s refused = inr (refl, refused)

  -- ---- one status

  -- points that are told of are not refused
  told_or_refused : (s : Status) → ArePoints whole limit points → HaveRoom points room →
      ¬ (IsAskingRefused whole limit points room s)
  told_or_refused s are has (inl odd) = odd.1 are.even
  told_or_refused s are has (inr (inl far)) = far.1.1 are.within
  told_or_refused s are has (inr (inr short)) = short.1.1 has

  one_refusal : (s t : Status) → IsAskingRefused whole limit points room s → IsAskingRefused whole limit points room t →
      s ≡ t
  one_refusal s t (inl a) (inl b) = a.0 ∙ sym b.0
  one_refusal s t (inl a) (inr (inl b)) = absurd (a.1 b.1.0)
  one_refusal s t (inl a) (inr (inr b)) = absurd (a.1 b.1.0.even)
  one_refusal s t (inr (inl a)) (inl b) = absurd (b.1 a.1.0)
  one_refusal s t (inr (inl a)) (inr (inl b)) = a.0 ∙ sym b.0
  one_refusal s t (inr (inl a)) (inr (inr b)) = absurd (a.1.1 b.1.0.within)
  one_refusal s t (inr (inr a)) (inl b) = absurd (b.1 a.1.0.even)
  one_refusal s t (inr (inr a)) (inr (inl b)) = absurd (b.1.1 a.1.0.within)
  one_refusal s t (inr (inr a)) (inr (inr b)) = a.0 ∙ sym b.0

-- ---- one answer

one_told : (edges : List Edge) (points : List Point) (told others : List ℕ) → AreToldIn edges points told →
    AreToldIn edges points others → told ≡ others
one_told edges points told others a b = a.numbers
    ∙ ap (map number_of) (one_list_of_answers (λ q l. IsLocatedBy edges (in_plane q) l)
    (λ q. one_location_by edges (in_plane q)) points a.locations b.locations a.by_edges b.by_edges) ∙ sym b.numbers

module _ {I : Type 0} (whole : I → ℤ) (limit : ℕ) (points : List I) (old new newer : List ℕ) (s t : Status) where
  one_of_edges : (p q : Parts) → p.edges ≡ q.edges → AskingEnds whole limit p points old new s →
      AskingEnds whole limit q points old newer t → (s ≡ t) × (new ≡ newer)
  one_of_edges p q same (inl a) (inl b) =
      let first = a.1.1.1 in
      let second : AreLocatedIn whole p.edges points old newer =
      subst (λ es. AreLocatedIn whole es points old newer) (sym same) b.1.1.1 in (
        a.0 ∙ sym b.0,
        first.written ∙ ap (λ ns. written_over ns old) (one_told p.edges (plain_points whole (points_of points))
            first.numbers second.numbers first.tell second.tell) ∙ sym second.written,
      )
  one_of_edges p q same (inl a) (inr b) = absurd (told_or_refused whole limit points old t a.1.0 a.1.1.0 b.1)
  one_of_edges p q same (inr a) (inl b) = absurd (told_or_refused whole limit points old s b.1.0 b.1.1.0 a.1)
  one_of_edges p q same (inr a) (inr b) = (one_refusal whole limit points old s t a.1 b.1, a.0 ∙ sym b.0)

  one_asking : OneAsking whole limit points old new newer s t
  one_asking = record {
    same_edges = one_of_edges;
    same_arrangement = λ filled es p q first second. one_of_edges p q (first.are ∙ sym second.are);
  }

pub askings_are_one : {I : Type 0} (whole : I → ℤ) (limit : ℕ) → AskingsAreOne whole limit
askings_are_one whole limit points old new newer s t = one_asking whole limit points old new newer s t

-- ---- without parts

-- each point has the answer Outside, which is the only one
all_outside : (points : List Point) → AnswersWhere (IsLocatedBy []) points (map (λ p. Outside) points)
all_outside points = record {
  counted = length-map points (λ p. Outside);
  each = λ n d e lt. subst (IsLocatedBy [] (in_plane (get_or points n d)))
      (sym (get_or-map (λ p. Outside) points n d e lt))
      (All-nil (λ f. ¬ (IsOn f (in_plane (get_or points n d)))), refl);
}

all_zero : (points : List Point) → map number_of (map (λ p. Outside) points) ≡ map (λ p. 0) points
all_zero [] = refl
all_zero (p ∷ ps) = ap (λ ns. 0 ∷ ns) (all_zero ps)

pub bare_can_be_asked : BareCanBeAsked
bare_can_be_asked = record {
  can = λ limit. record {
    long = All-nil (IsLongEdge limit);
    blocks_of = All-nil (IsBlockOf []);
    groups_of = All-nil (IsBlockOf []);
  };
  outside = λ points told are. are.numbers
      ∙ ap (map number_of) (one_list_of_answers (λ q l. IsLocatedBy [] (in_plane q) l)
      (λ q. one_location_by [] (in_plane q)) points are.locations (map (λ p. Outside) points) are.by_edges
      (all_outside points)) ∙ all_zero points;
}
