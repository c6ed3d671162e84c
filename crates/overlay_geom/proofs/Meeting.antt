-- The tests of two edges tell whether they meet in ends alone.
use Rattle.std.proofs.Common.{◌≡◌, ◌⊎◌, inl, inr, Bool, true, false, not, refl}
use Rattle.std.specs.Bool.{Decides}
use Rattle.std.proofs.lemmas.Bool.Decides.{Decides-and, Decides-or, Decides-like, Decides-not, not_from_Decides}
use Rattle.overlay_geom.specs.Plane.{Point, Edge}
use Rattle.overlay_geom.specs.Settled.{MeetInEnds}
use Rattle.overlay_geom.specs.Placed.{IsAlong, IsAcross, do_overlap, share_end}
use Rattle.overlay_geom.proofs.Signs.{linear}
use Rattle.overlay_geom.proofs.PointOrder.{IsBefore, Decides-point_lt, by_order}
use Rattle.overlay_geom.proofs.Orders.{Decides-point_eq}
use Rattle.overlay_geom.proofs.OneLine.{meet_in_ends_exchanged, apart_meet_in_ends, along_exchanged}
use Rattle.overlay_geom.proofs.OneLine.{overlapping_do_not_meet_in_ends}
use Rattle.overlay_geom.proofs.Crossing.{IsEndpoint, sharing_meet_in_ends, crossing_do_not_meet_in_ends}

-- two collinear edges meet in ends alone exactly where they do not overlap
pub along_decides : (e f : Edge) → IsBefore e.a e.b → IsBefore f.a f.b → IsAlong e f →
    Decides (not (do_overlap e f)) (MeetInEnds e f)
along_decides e f e_forward f_forward along =
    Decides-like (not (do_overlap e f)) apart overlapping
    (Decides-not (do_overlap e f) (Decides-and _ _ (Decides-point_lt e.a f.b) (Decides-point_lt f.a e.b)))
  where
    apart : ¬ (IsBefore e.a f.b × IsBefore f.a e.b) → MeetInEnds e f
    apart none =
        by_order e.b f.a
        (λ before. apart_meet_in_ends e f e_forward f_forward before)
        (λ f_begins. by_order f.b e.a
        (λ after. meet_in_ends_exchanged e f (apart_meet_in_ends f e f_forward e_forward after))
        (λ e_begins. absurd (none (e_begins, f_begins))))

    overlapping : MeetInEnds e f → ¬ (IsBefore e.a f.b × IsBefore f.a e.b)
    overlapping h (e_begins, f_begins) = overlapping_do_not_meet_in_ends e f e_forward f_forward along e_begins f_begins
        h

-- an end of e is one of f exactly where a point is an end of both
pub Decides-share_end : (e f : Edge) → Decides (share_end e f) ((v : Point) × (IsEndpoint e v × IsEndpoint f v))
Decides-share_end e f =
    Decides-like (share_end e f) forth back
    (Decides-or _ _ (Decides-or _ _ (Decides-or _ _ (Decides-point_eq e.a f.a) (Decides-point_eq e.a f.b))
    (Decides-point_eq e.b f.a)) (Decides-point_eq e.b f.b))
  where
    forth : (((e.a ≡ f.a) ⊎ (e.a ≡ f.b)) ⊎ (e.b ≡ f.a)) ⊎ (e.b ≡ f.b) → (v : Point) × (IsEndpoint e v × IsEndpoint f v)
    forth (inl (inl (inl same))) = (e.a, (inl refl, inl same))
    forth (inl (inl (inr same))) = (e.a, (inl refl, inr same))
    forth (inl (inr same)) = (e.b, (inr refl, inl same))
    forth (inr same) = (e.b, (inr refl, inr same))

    by : (v : Point) → IsEndpoint e v → IsEndpoint f v → (((e.a ≡ f.a) ⊎ (e.a ≡ f.b)) ⊎ (e.b ≡ f.a)) ⊎ (e.b ≡ f.b)
    by v (inl of_e) (inl of_f) = inl (inl (inl (cc)))
    by v (inl of_e) (inr of_f) = inl (inl (inr (cc)))
    by v (inr of_e) (inl of_f) = inl (inr (cc))
    by v (inr of_e) (inr of_f) = inr (cc)

    back : (v : Point) × (IsEndpoint e v × IsEndpoint f v) → (((e.a ≡ f.a) ⊎ (e.a ≡ f.b)) ⊎ (e.b ≡ f.a)) ⊎ (e.b ≡ f.b)
    back (v, (of_e, of_f)) = by v of_e of_f

-- two edges that go across each other's lines meet in ends alone exactly where they share an end
pub across_decides : (e f : Edge) → IsAcross e f → IsAcross f e → Decides (share_end e f) (MeetInEnds e f)
across_decides e f across back =
    Decides-like (share_end e f)
    (λ shared. sharing_meet_in_ends e f shared.0 across shared.1.0 shared.1.1)
    meet
    (Decides-share_end e f)
  where
    meet : MeetInEnds e f → (v : Point) × (IsEndpoint e v × IsEndpoint f v)
    meet h = by (share_end e f) refl
      where
        by : (t : Bool) → share_end e f ≡ t → (v : Point) × (IsEndpoint e v × IsEndpoint f v)
        by true shared = (Decides-share_end e f).0 shared
        by false none = absurd (crossing_do_not_meet_in_ends e f across back
            (λ v of_e of_f. not_from_Decides (share_end e f) (Decides-share_end e f) none (v, (of_e, of_f))) h)

-- an edge that goes across another edge's line does not have it on its own line
pub across_not_along : (e f : Edge) → IsBefore f.a f.b → IsAcross e f → ¬ (IsAlong f e)
across_not_along e f forward across along = by across (along_exchanged f e forward along)
  where
    by : IsAcross e f → IsAlong e f → ⊥
    by (inl (low, high, less)) (at_a, at_b) = omega linear
    by (inr (low, high, less)) (at_a, at_b) = omega linear
