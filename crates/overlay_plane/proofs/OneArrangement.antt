-- The rounds that a solver takes leave the same pieces one after another, and end together: an arrangement takes none.
use Rattle.std.proofs.Common.{◌≡◌, inl, inr, ◌≤◌, ◌<◌, ◌^◌, true, false, List, [], ◌∷◌, ◌++◌, length, sym, subst}
use Rattle.std.proofs.Common.{◌∙◌, arith}
use Rattle.std.specs.Bool.{⊤}
use Rattle.std.specs.List.Sorted.{IsPermutation}
use Rattle.std.proofs.lemmas.List.Sorted.{All-permutation, Contains-permutation, IsPermutation-sym}
use Rattle.std.proofs.lemmas.List.Elements.{All-contains, All-head, All-tail, All-weaker}
use Rattle.overlay_geom.specs.Edges.{CountedEdge, ends_of, counts_nothing, weight}
use Rattle.overlay_geom.specs.Merged.{IsMerged, joined_edge}
use Rattle.overlay_geom.specs.Plane.{Point, PlanePoint, Step, point_lt, steps_through}
use Rattle.overlay_geom.specs.Settled.{IsSettled}
use Rattle.overlay_geom.specs.declared.solver.Solver.{Solver}
use Rattle.overlay_geom.specs.declared.solver.Solver.TheVariants.{Rounds, Snapping}
use Rattle.overlay_geom.proofs.MergedOnce.{IsMerged-unique}
use Rattle.overlay_geom.proofs.Merging.{JoinAlike, IsMerged-alike, IsMerged-from_alike}
use Rattle.overlay_geom.proofs.Shuffled.{alike_shuffled}
use Rattle.overlay_plane.specs.Arrangements.{IsReachedBy, LeaveLightPieces, WeighsTooMuch}
use Rattle.overlay_plane.specs.Cutting.{pieces_through, piece_along}
use Rattle.overlay_plane.specs.Determined.{RoundAs, OneArrangement, OneSnappedArrangement}
use Rattle.overlay_plane.specs.Determined.{OneSnappedArrangementOfShuffled, OneWholeArrangement}
use Rattle.overlay_plane.specs.Determined.{LightSnapsAreNotHeavy}
use Rattle.overlay_plane.specs.EdgeLists.{IsForwardBy}
use Rattle.overlay_plane.specs.Meetings.{MeetInWholePoints}
use Rattle.overlay_plane.specs.RoundLists.{AreEachRounds, IsSnapRound}
use Rattle.overlay_plane.specs.Rounds.{Round, IsRound, pieces_of, whole_cuts, after_rounds}
use Rattle.overlay_plane.proofs.AnyRounds.{IsAnyRound, any_round, whole_round}
use Rattle.overlay_plane.proofs.Entries.{all_of_entries, Contains-from_flat_map, Contains-from_map}
use Rattle.overlay_plane.proofs.ExactRounds.{no_second_round}
use Rattle.overlay_plane.proofs.LinksKept.{IsLong}
use Rattle.overlay_plane.proofs.NearChains.{long_forward}
use Rattle.overlay_plane.proofs.OneRound.{one_round, one_whole_round, one_snap}
use Rattle.overlay_plane.proofs.StepsAlong.{long_through}
use Rattle.overlay_plane.proofs.WholeCuts.{whole_meetings_merged}

-- ---- rounds of one kind

module _ (Is : List CountedEdge → Round → Type 0) (Fit : List CountedEdge → Type 0)
    (any : (old : List CountedEdge) (r : Round) → Is old r → IsAnyRound old r)
    (one : (old : List CountedEdge) (r s : Round) → Fit old → Is old r → Is old s → pieces_of r ≡ pieces_of s)
    (fits : (r : Round) → Fit (pieces_of r)) where
  -- an arrangement takes no round
  none_on_settled : (old new : List CountedEdge) (r : Round) → IsMerged old new → IsSettled new → ¬ (Is old r)
  none_on_settled old new r merged settled is =
      (any old r is).unsettled (subst IsSettled (IsMerged-unique old new r.edges merged (any old r is).merged) settled)

  -- so two arrangements by rounds of the kind are one
  pub one_reached : (old : List CountedEdge) (rounds others : List Round) (new newer : List CountedEdge) → Fit old →
      AreEachRounds Is old rounds → AreEachRounds Is old others → IsMerged (after_rounds old rounds) new →
      IsMerged (after_rounds old others) newer → IsSettled new → IsSettled newer → new ≡ newer
  one_reached old [] [] new newer fit are are' merged merged' settled settled' =
      IsMerged-unique old new newer merged merged'
  one_reached old [] (s ∷ others) new newer fit are are' merged merged' settled settled' =
      absurd (none_on_settled old new s merged settled are'.0)
  one_reached old (r ∷ rounds) [] new newer fit are are' merged merged' settled settled' =
      absurd (none_on_settled old newer r merged' settled' are.0)
  one_reached old (r ∷ rounds) (s ∷ others) new newer fit are are' merged merged' settled settled' =
      let same : pieces_of s ≡ pieces_of r = sym (one old r s fit are.0 are'.0) in
      one_reached (pieces_of r) rounds others new newer (fits r) are.1
      (subst (λ es. AreEachRounds Is es others) same are'.1) merged
      (subst (λ es. IsMerged (after_rounds es others) newer) same merged') settled settled'

-- ---- rounds that round alike

module _ (whole_at : PlanePoint → Point) where
  -- a cutting round that takes each point of the plane to this whole point
  abbrev IsRoundAs : List CountedEdge → Round → Type 0
  IsRoundAs old r = IsRound old r × ((p : PlanePoint) → r.whole_at p ≡ whole_at p)

  -- rounds that do so
  are_so : (old : List CountedEdge) (rounds : List Round) → AreEachRounds IsRound old rounds →
      RoundAs whole_at rounds → AreEachRounds IsRoundAs old rounds
  are_so old [] are so = tt
  are_so old (r ∷ rounds) are so = (
    (are.0, All-head (λ (r : Round). (p : PlanePoint) → r.whole_at p ≡ whole_at p) r rounds so),
    are_so (pieces_of r) rounds are.1
        (All-tail (λ (r : Round). (p : PlanePoint) → r.whole_at p ≡ whole_at p) r rounds so),
  )

pub one_arrangement : OneArrangement
one_arrangement whole_at rounds others old new newer so so' reached reached' =
    one_reached (IsRoundAs whole_at) (λ es. ⊤) (λ es r is. any_round Rounds es r is.0)
    (λ es r s fit a b. one_round es r s a.0 b.0 (λ p. a.1 p ∙ sym (b.1 p))) (λ r. tt) old rounds others new newer tt
    (are_so whole_at old rounds reached.cut so) (are_so whole_at old others reached'.cut so') reached.merged
    reached'.merged reached.settled reached'.settled

-- ---- snap rounding

-- each piece that a round leaves leads forward
pub pieces_forward : (r : Round) → IsForwardBy ends_of (pieces_of r)
pieces_forward r = all_of_entries (λ g. point_lt g.a g.b ≡ true) (pieces_of r) (λ g has.
    let from = Contains-from_flat_map (pieces_through (whole_cuts r)) r.edges g has in
    let e : CountedEdge = from.0 in
    let ss : List Step = steps_through e.a (whole_cuts r e ++ e.b ∷ []) in
    let along = Contains-from_map (piece_along e) ss g from.2 in
    subst (λ (h : CountedEdge). point_lt h.a h.b ≡ true) along.2 (long_forward along.0
    (All-contains IsLong ss along.0 (long_through e.a (whole_cuts r e ++ e.b ∷ [])) along.1)))

-- snap rounding takes one round
one_of_snaps : (old : List CountedEdge) (r s : Round) → IsForwardBy ends_of old → IsSnapRound old r →
    IsSnapRound old s → pieces_of r ≡ pieces_of s
one_of_snaps old r s forward (inl (whole, a)) (inl (whole', b)) = one_whole_round old r s whole a b
one_of_snaps old r s forward (inl (whole, a)) (inr (not_whole, b)) = absurd (not_whole
    (subst MeetInWholePoints (IsMerged-unique old r.edges s.edges a.merged b.merged) whole))
one_of_snaps old r s forward (inr (not_whole, a)) (inl (whole, b)) = absurd (not_whole
    (subst MeetInWholePoints (IsMerged-unique old s.edges r.edges b.merged a.merged) whole))
one_of_snaps old r s forward (inr (not_whole, a)) (inr (not_whole', b)) = one_snap old r s forward a b

pub one_snapped_arrangement : OneSnappedArrangement
one_snapped_arrangement rounds others old new newer forward reached reached' =
    one_reached IsSnapRound (IsForwardBy ends_of) (any_round Snapping) one_of_snaps pieces_forward old rounds others new
    newer forward reached.cut reached'.cut reached.merged reached'.merged reached.settled reached'.settled

-- ---- lists with the same edges in another order

-- what is merged from a list is merged from any that joins edges alike
merged_alike : (old other new : List CountedEdge) → JoinAlike old other → IsMerged old new → IsMerged other new
merged_alike old other new alike merged =
    IsMerged-from_alike other new merged.ascending (All-weaker (λ e. (e ≡ joined_edge old (ends_of e))
    × (counts_nothing e ≡ false)) (λ e. counts_nothing e ≡ false) (λ e at. at.1) new merged.joined)
    (record { at = λ e. (IsMerged-alike old new merged).at e ∙ sym (alike.at e) })

-- a snap round of the list is one of the other
snap_alike : (old other : List CountedEdge) (r : Round) → JoinAlike old other → IsSnapRound old r → IsSnapRound other r
snap_alike old other r alike (inl (whole, round)) = inl (
  whole,
  record {
    merged = merged_alike old other r.edges alike round.merged;
    unsettled = round.unsettled;
    cut = round.cut;
    rounding = round.rounding;
  },
)
snap_alike old other r alike (inr (not_whole, snap)) = inr (
  not_whole,
  record {
    merged = merged_alike old other r.edges alike snap.merged;
    unsettled = snap.unsettled;
    cut = snap.cut;
    rounding = snap.rounding;
  },
)

-- so what is reached from the list is reached from the other
reached_alike : (old other new : List CountedEdge) (rounds : List Round) → JoinAlike old other →
    IsReachedBy Snapping rounds old new → IsReachedBy Snapping rounds other new
reached_alike old other new [] alike reached = record {
  cut = tt;
  merged = merged_alike old other new alike reached.merged;
  settled = reached.settled;
}
reached_alike old other new (r ∷ rounds) alike reached = record {
  cut = (snap_alike old other r alike reached.cut.0, reached.cut.1);
  merged = reached.merged;
  settled = reached.settled;
}

pub one_arrangement_of_shuffled : OneSnappedArrangementOfShuffled
one_arrangement_of_shuffled rounds others old other new newer forward shuffled reached reached' =
    one_snapped_arrangement rounds others old new newer forward reached
    (reached_alike other old newer others (alike_shuffled other old (IsPermutation-sym old other shuffled)) reached')

-- ---- weights

-- a snap round of a list is one of the list in another order
snap_shuffled : (old other : List CountedEdge) (r : Round) → IsPermutation old other → IsSnapRound other r →
    IsSnapRound old r
snap_shuffled old other r shuffled =
    snap_alike other old r (alike_shuffled other old (IsPermutation-sym old other shuffled))

pub light_snaps_are_not_heavy : LightSnapsAreNotHeavy
light_snaps_are_not_heavy rounds old other new forward shuffled reached light heavy =
    by rounds heavy.rounds reached light heavy.some heavy.few heavy.cut heavy.heavy
  where
    by : (rs ss : List Round) → IsReachedBy Snapping rs old new → LeaveLightPieces rs → 1 ≤ length ss →
        length ss ≤ 1 → AreEachRounds IsSnapRound other ss → ¬ ((2 ^ 31) ≤ weight (after_rounds other ss))
    by rs [] reached light some few cut heavy = absurd (omega (arith, some))
    by rs (s ∷ next ∷ ss) reached light some few cut heavy = absurd (omega (arith, few))
    by [] (s ∷ []) reached light some few cut heavy =
        (any_round Snapping old s (snap_shuffled old other s shuffled cut.0)).unsettled
        (subst IsSettled (IsMerged-unique old new s.edges reached.merged
        (any_round Snapping old s (snap_shuffled old other s shuffled cut.0)).merged) reached.settled)
    by (r ∷ rs) (s ∷ []) reached light some few cut heavy =
        let same = one_of_snaps old r s forward reached.cut.0 (snap_shuffled old other s shuffled cut.0) in
        let small : weight (pieces_of s) < 2 ^ 31 = subst (λ (es : List CountedEdge). weight es < 2 ^ 31) same
        (All-head (λ (r : Round). weight (pieces_of r) < 2 ^ 31) r rs light) in
        omega (arith, small, heavy)

-- ---- edges that meet in whole points alone

-- what rounds reach from such edges, snap rounding reaches by them
pub snapped_where_whole : (solver : Solver) (rounds : List Round) (old new : List CountedEdge) →
    IsForwardBy ends_of old → MeetInWholePoints old → IsReachedBy solver rounds old new →
    IsReachedBy Snapping rounds old new
snapped_where_whole solver [] old new forward whole reached =
    record { cut = tt; merged = reached.merged; settled = reached.settled }
snapped_where_whole solver (r ∷ []) old new forward whole reached =
    let round = whole_round solver old r whole reached.cut.0 in
    record {
      cut = (inl (whole_meetings_merged old r.edges round.merged whole, round), tt);
      merged = reached.merged;
      settled = reached.settled;
    }
snapped_where_whole solver (r ∷ next ∷ rounds) old new forward whole reached =
    absurd (no_second_round solver old r next rounds forward whole reached.cut)

-- in another order they do so too
pub whole_shuffled : (old other : List CountedEdge) → IsPermutation old other → MeetInWholePoints old →
    MeetInWholePoints other
whole_shuffled old other shuffled whole e f p has_e has_f = whole e f p
    (Contains-permutation other old e (IsPermutation-sym old other shuffled) has_e)
    (Contains-permutation other old f (IsPermutation-sym old other shuffled) has_f)

pub one_whole_arrangement : OneWholeArrangement
one_whole_arrangement solver another rounds others old other new newer forward whole shuffled reached reached' =
    one_arrangement_of_shuffled rounds others old other new newer forward shuffled
    (snapped_where_whole solver rounds old new forward whole reached)
    (snapped_where_whole another others other newer
    (All-permutation (λ e. point_lt e.a e.b ≡ true) old other shuffled forward)
    (whole_shuffled old other shuffled whole) reached')
