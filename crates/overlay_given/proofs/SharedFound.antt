-- Where borders of subject and clip end at one place, the tests of the sides at the meeting points find it.
use Rattle.std.proofs.Common.{◌≡◌, ◌≢◌, ⊎_elim, inl, inr, cond, not, ◌||◌, ℕ, Bool, true, false, ℤ, List}
use Rattle.std.proofs.Common.{length, sym, subst}
use Rattle.std.proofs.lemmas.Bool.{and_parts, false≢true}
use Rattle.overlay_geom.specs.Edges.{CountedEdge, ends_of}
use Rattle.overlay_geom.specs.Placed.{IsAlong}
use Rattle.overlay_geom.specs.Plane.{PlanePoint, SamePlace, IsOn, IsEnd, in_plane}
use Rattle.overlay_geom.specs.Settled.{IsCommon}
use Rattle.overlay_geom.proofs.Cross.{cross_at_same, cross_at_first}
use Rattle.overlay_geom.proofs.OneLine.{along_exchanged}
use Rattle.overlay_geom.proofs.PointOrder.{IsBefore}
use Rattle.overlay_plane.specs.Balance.{HasBalancedCounts}
use Rattle.overlay_plane.specs.CutPoints.{are_along}
use Rattle.overlay_plane.specs.EdgeLists.{IsForwardBy}
use Rattle.overlay_plane.specs.Meetings.{IsMeetingPoint, MeetsAnother}
use Rattle.overlay_plane.specs.Rounds.{IsSmaller}
use Rattle.overlay_plane.proofs.CommonPoints.{only_unless_along, common_is_meeting, end_is_meeting, Decides-are_along}
use Rattle.overlay_plane.proofs.PlaceOrder.{on_same_place, start_up_to_place, place_up_to_end}
use Rattle.overlay_plane.proofs.SmallerPoints.{same_place-trans}
use Rattle.overlay_plane.proofs.WholeOnEdges.{at_itself, same_place_at, by_test}
use Rattle.overlay_plane.proofs.WholePlaces.{at_moved}
use Rattle.overlay_order.specs.Content.{IsAscending}
use Rattle.overlay_pairs.specs.Places.{IsAt}
use Rattle.overlay_pairs.proofs.Entries.{one_entry}
use Rattle.overlay_scaled.specs.Pieces.{IsPlaceOn}
use Rattle.overlay_scaled.specs.PlainContacts.{PassesToward, HasSharedPlace}
use Rattle.overlay_scaled.proofs.CrossedLines.{by_smaller}
use Rattle.overlay_exact.specs.AllMet.{IsMetBefore, AreMetByStarts}
use Rattle.overlay_exact.specs.Along.{Met}
use Rattle.overlay_exact.specs.PieceOrder.{IsUpTo}
use Rattle.overlay_exact.proofs.PiecesFollow.{before_in, pieces_follow}
use Rattle.overlay_exact.proofs.PlaneOrder.{flipped, smaller_elsewhere, smaller_from_same, smaller_to_same}
use Rattle.overlay_exact.proofs.PlaneOrder.{smaller_up_to, up_to_smaller, smaller_not_back, up_to_of_place}
use Rattle.overlay_exact.proofs.ToldMeetings.{other_place}
use Rattle.overlay_given.specs.Laws.{PlacesTellSharedPlaces}
use Rattle.overlay_given.specs.Places.{ArePlacesBy, place_passes, IsMetOn, AllBorderClip, SomeShare}
use Rattle.overlay_given.specs.Sides.{passing, sides_at, sides_pass}
use Rattle.overlay_given.specs.declared.sides.FilledSides.{FilledSides}
use Rattle.overlay_given.specs.declared.sides.SidesAtPlace.{SidesAtPlace}
use Rattle.overlay_given.specs.declared.sides.SideTest.{SideTest}
use Rattle.overlay_given.specs.declared.sides.SideTest.TheVariants.{SubjectBorder, ClipBorder}
use Rattle.overlay_given.proofs.AlikePieces.{alike_after, alike_before}
use Rattle.overlay_given.proofs.SharedPlaces.{Toward, toward_moved, place_of_toward, met_on, sides_on, met_at_one}
use Rattle.overlay_given.proofs.SharedPlaces.{Entry, entry, shared_of_found}

-- no sides border both alone
no_both : (sa sb : Bool) → cond sa (not sb) sb ≡ true → not (sa || sb) ≡ true → ⊥
no_both true sb t none = false≢true none
no_both false true t none = false≢true none
no_both false false t none = false≢true t

exclusive : (s : FilledSides) → sides_pass SubjectBorder s ≡ true → sides_pass ClipBorder s ≡ true → ⊥
exclusive s subj clip = no_both s.subj_above s.subj_below
    (and_parts (cond s.subj_above (not s.subj_below) s.subj_below) (not (s.clip_above || s.clip_below)) subj).0
    (and_parts (cond s.clip_above (not s.clip_below) s.clip_below) (not (s.subj_above || s.subj_below)) clip).1

-- a point up to another, which is up to it, is at its place
pub squeezed : (p q : PlanePoint) → IsUpTo p q → IsUpTo q p → SamePlace q p
squeezed p q up down = by_smaller q p (λ less. absurd (smaller_not_back q p less up)) (λ same. same)
    (λ more. absurd (smaller_not_back p q more down))

-- an order of two points is one of points at their places
moved_from : (p q r : PlanePoint) → SamePlace p q → IsUpTo p r → IsUpTo q r
moved_from p q r same (inl less) = inl (smaller_from_same q p r (flipped p q same) less)
moved_from p q r same (inr is) = inr (same_place-trans q p r (flipped p q same) is)

moved_to : (p q r : PlanePoint) → SamePlace q r → IsUpTo p q → IsUpTo p r
moved_to p q r same (inl less) = inl (smaller_to_same p q r less same)
moved_to p q r same (inr is) = inr (same_place-trans p q r is same)

module _ (filled : ℤ → Bool) (es : List CountedEdge) (starts : List ℕ) (ms : List Met) (places : List SidesAtPlace)
    (ascending : IsAscending es) (forward : IsForwardBy ends_of es) (by : AreMetByStarts es (length es) starts ms)
    (are : ArePlacesBy filled es (length es) starts ms places) (balanced : HasBalancedCounts es) where
  abbrev EntryAt : ℕ → ℕ → CountedEdge → PlanePoint → Type 0
  EntryAt = Entry filled es starts ms places ascending forward by are

  -- ---- what is found

  -- at a meeting point of an edge borders of both end, of its own pieces
  found_both : (i j : ℕ) (e : CountedEdge) (p : PlanePoint) → EntryAt i j e p → Toward SubjectBorder filled es e p →
      Toward ClipBorder filled es e p → SomeShare starts ms places
  found_both i j e p at subj clip = (
    i,
    record {
      k = at.k;
      met = at.met;
      sides = at.sides;
      on = at.on;
      subject = place_of_toward SubjectBorder filled es e at.met at.sides at.of p at.same subj;
      clip = inl (place_of_toward ClipBorder filled es e at.met at.sides at.of p at.same clip);
    },
  )

  -- at the only common point of two edges
  module _ (i j : ℕ) (e f : CountedEdge) (at_e : IsAt es i e) (at_f : IsAt es j f) (p : PlanePoint)
      (only : (q : PlanePoint) → IsCommon (ends_of f) (ends_of e) q → SamePlace q p)
      (clip : Toward ClipBorder filled es f p) where
    module _ (k : ℕ) (m : Met) (a : SidesAtPlace) (on : IsMetOn starts ms places j k m a) (other : m.other ≡ i) where
      met : IsMetBefore es (length es) j f m
      met = met_on filled es starts ms places ascending forward by are j k f m a at_f on

      is_e : met.edge ≡ e
      is_e = one_entry es i met.edge e (subst (λ n. IsAt es n met.edge) other met.at) at_e

      same : SamePlace (sides_on filled es starts ms places ascending forward by are j k f m a at_f on).place p
      same = same_place-trans (sides_on filled es starts ms places ascending forward by are j k f m a at_f on).place
          met.met.point p
          (met_at_one filled es starts ms places ascending forward by are j k f m a at_f on met.met.point
          met.met.place)
          (only met.met.point (
            met.met.meets.common.0,
            subst (λ (g : CountedEdge). IsOn (ends_of g) met.met.point) is_e met.met.meets.common.1,
          ))

      borders : place_passes ClipBorder a ≡ true
      borders = place_of_toward ClipBorder filled es f m a
          (sides_on filled es starts ms places ascending forward by are j k f m a at_f on) p same clip

    found_pair : j ≢ i → IsMeetingPoint (ends_of e) (ends_of f) p → Toward SubjectBorder filled es e p →
        SomeShare starts ms places
    found_pair apart meeting subj =
        let at = entry filled es starts ms places ascending forward by are i j e f p at_e at_f apart meeting in (
          i,
          record {
            k = at.k;
            met = at.met;
            sides = at.sides;
            on = at.on;
            subject = place_of_toward SubjectBorder filled es e at.met at.sides at.of p at.same subj;
            clip = inr (subst (λ n. AllBorderClip starts ms places n i) (sym at.other) borders);
          },
        )

  -- ---- a place within an edge

  inner : (i : ℕ) (e : CountedEdge) (p : PlanePoint) → IsAt es i e → IsPlaceOn es e p → IsSmaller (in_plane e.a) p →
      IsSmaller p (in_plane e.b) → (j : ℕ) × EntryAt i j e p
  inner i e p at place begun short = ⊎_elim
      (λ (end : IsEnd (ends_of e) p). absurd (no_end end))
      (λ (some : MeetsAnother es e p).
      let j = some.1.0 in
      let at_f : IsAt es j some.0 = (some.1.1, some.1.2) in (
        j,
        entry filled es starts ms places ascending forward by are i j e some.0 p at at_f
            (other_place es i e at j some.0 at_f some.2) some.3,
      ))
      place.stop
    where
      no_end : IsEnd (ends_of e) p → ⊥
      no_end (inl is) = smaller_elsewhere (in_plane e.a) p begun (same_place_at e.a (in_plane e.a) p (at_itself e.a) is)
      no_end (inr is) = smaller_elsewhere p (in_plane e.b) short (same_place_at e.b p (in_plane e.b) is (at_itself e.b))

  -- there the edge has, on each side, a piece with the sides of a piece of another edge along it
  module _ (test : SideTest) (i j : ℕ) (e f : CountedEdge) (along : IsAlong (ends_of e) (ends_of f)) (p q : PlanePoint)
      (at : EntryAt i j e p) (of_f : Toward test filled es f q) where
    leads : IsSmaller p (in_plane e.b) → SamePlace p of_f.from → Toward test filled es e p
    leads short same =
        let on = at.of.leads_on (smaller_from_same at.of.place p (in_plane e.b) at.same short) in
        let some = (pieces_follow es forward e).some at.of.place on.0 on.1 in
        record {
          from = at.of.place;
          to = on.0;
          inside = some.0;
          piece = on.1;
          within = some.1;
          at = inl (flipped at.of.place p at.same);
          passes = subst (λ x. sides_pass test x ≡ true)
              (sym (alike_after filled es forward balanced e f along at.of.place on.0 of_f.from of_f.to some.0
              of_f.inside on.1 some.1 of_f.piece of_f.within
              (same_place-trans at.of.place p of_f.from at.same same))) of_f.passes;
        }

    comes : IsSmaller (in_plane e.a) p → SamePlace p of_f.to → Toward test filled es e p
    comes begun same =
        let up = at.of.comes_up (smaller_to_same (in_plane e.a) p at.of.place begun (flipped at.of.place p at.same)) in
        let some = (pieces_follow es forward e).some up.0 at.of.place up.1 in
        record {
          from = up.0;
          to = at.of.place;
          inside = some.0;
          piece = up.1;
          within = some.1;
          at = inr (flipped at.of.place p at.same);
          passes = subst (λ x. sides_pass test x ≡ true)
              (sym (alike_before filled es forward balanced e f along up.0 at.of.place of_f.from of_f.to some.0
              of_f.inside up.1 some.1 of_f.piece of_f.within
              (same_place-trans at.of.place p of_f.to at.same same))) of_f.passes;
        }

  -- ---- two edges

  module _ (i j : ℕ) (e f : CountedEdge) (at_e : IsAt es i e) (at_f : IsAt es j f) (p : PlanePoint)
      (subj : Toward SubjectBorder filled es e p) (clip : Toward ClipBorder filled es f p) where
    before_e : IsBefore e.a e.b
    before_e = before_in es forward e subj.piece.entry

    before_f : IsBefore f.a f.b
    before_f = before_in es forward f clip.piece.entry

    on_e : IsOn (ends_of e) p
    on_e = ⊎_elim (λ here. on_same_place (ends_of e) before_e subj.from p (flipped p subj.from here) subj.piece.from.on)
        (λ here. on_same_place (ends_of e) before_e subj.to p (flipped p subj.to here) subj.piece.to.on) subj.at

    on_f : IsOn (ends_of f) p
    on_f = ⊎_elim (λ here. on_same_place (ends_of f) before_f clip.from p (flipped p clip.from here) clip.piece.from.on)
        (λ here. on_same_place (ends_of f) before_f clip.to p (flipped p clip.to here) clip.piece.to.on) clip.at

    -- one edge stands at one place
    same_edge : j ≡ i → e ≡ f
    same_edge same = one_entry es i e f at_e (subst (λ n. IsAt es n f) same at_f)

    -- the edges do not lie along one line
    found_across : ¬ (IsAlong (ends_of e) (ends_of f)) → SomeShare starts ms places
    found_across apart = found_pair i j e f at_e at_f p
        (λ q on. only_unless_along (ends_of e) (ends_of f) p q before_f apart (on_e, on_f) (on.1, on.0)) clip
        (λ same. apart (subst (λ (g : CountedEdge). IsAlong (ends_of e) (ends_of g)) (same_edge same)
        (cross_at_first e.a e.b, cross_at_same e.a e.b)))
        (common_is_meeting (ends_of e) (ends_of f) p before_f apart (on_e, on_f)) subj

    -- ---- along one line

    starts_e : IsUpTo (in_plane e.a) subj.from
    starts_e = ((pieces_follow es forward e).inside subj.from subj.to subj.piece).0

    ends_e : IsUpTo subj.to (in_plane e.b)
    ends_e = ((pieces_follow es forward e).inside subj.from subj.to subj.piece).1

    starts_f : IsUpTo (in_plane f.a) clip.from
    starts_f = ((pieces_follow es forward f).inside clip.from clip.to clip.piece).0

    ends_f : IsUpTo clip.to (in_plane f.b)
    ends_f = ((pieces_follow es forward f).inside clip.from clip.to clip.piece).1

    long_e : IsSmaller (in_plane e.a) (in_plane e.b)
    long_e = up_to_smaller (in_plane e.a) subj.from (in_plane e.b) starts_e
        (smaller_up_to subj.from subj.to (in_plane e.b) subj.piece.before ends_e)

    module _ (along : IsAlong (ends_of e) (ends_of f)) where
      back : IsAlong (ends_of f) (ends_of e)
      back = along_exchanged (ends_of e) (ends_of f) before_e along

      no_alike : sides_at filled es subj.inside ≡ sides_at filled es clip.inside → ⊥
      no_alike alike = exclusive (sides_at filled es clip.inside)
          (subst (λ x. sides_pass SubjectBorder x ≡ true) alike subj.passes) clip.passes

      -- the subject's border comes up to p, and the clip's leads on from there
      module _ (comes_e : SamePlace p subj.to) (leads_f : SamePlace p clip.from) where
        here_e : SamePlace subj.to p
        here_e = flipped p subj.to comes_e

        here_f : SamePlace clip.from p
        here_f = flipped p clip.from leads_f

        on_through_e : IsSmaller p (in_plane e.b) → SomeShare starts ms places
        on_through_e more =
            let short = smaller_from_same subj.to p (in_plane e.b) here_e more in
            let at = inner i e subj.to at_e subj.piece.to
            (up_to_smaller (in_plane e.a) subj.from subj.to starts_e subj.piece.before) short in
            found_both i at.0 e subj.to at.1 (toward_moved SubjectBorder filled es e p subj.to here_e subj)
            (leads ClipBorder i at.0 e f along subj.to p at.1 clip short
            (same_place-trans subj.to p clip.from here_e leads_f))

        on_through_f : IsSmaller (in_plane f.a) p → SomeShare starts ms places
        on_through_f more =
            let begun = smaller_to_same (in_plane f.a) p clip.from more leads_f in
            let at = inner j f clip.from at_f clip.piece.from begun
            (smaller_up_to clip.from clip.to (in_plane f.b) clip.piece.before ends_f) in
            found_both j at.0 f clip.from at.1
            (comes SubjectBorder j at.0 f e back clip.from p at.1 subj begun
            (same_place-trans clip.from p subj.to here_f comes_e))
            (toward_moved ClipBorder filled es f p clip.from here_f clip)

        end_to_start : SamePlace p (in_plane e.b) → SamePlace (in_plane f.a) p → SomeShare starts ms places
        end_to_start ended begun = found_pair i j e f at_e at_f p
            (λ q on. squeezed p q
            (moved_from (in_plane f.a) p q begun
            (up_to_of_place (in_plane f.a) q (start_up_to_place (ends_of f) before_f q on.0)))
            (moved_to q (in_plane e.b) p (flipped p (in_plane e.b) ended)
            (up_to_of_place q (in_plane e.b) (place_up_to_end (ends_of e) before_e q on.1))))
            clip
            (λ same. smaller_elsewhere (in_plane e.a) (in_plane e.b) long_e
            (same_place-trans (in_plane e.a) p (in_plane e.b)
            (subst (λ (g : CountedEdge). SamePlace (in_plane g.a) p) (sym (same_edge same)) begun) ended))
            (end_is_meeting (ends_of e) (ends_of f) p (on_e, on_f)
            (inl (inr (at_moved e.b (in_plane e.b) p (flipped p (in_plane e.b) ended) (at_itself e.b))))) subj

        up_and_on : SomeShare starts ms places
        up_and_on = by_smaller p (in_plane e.b) on_through_e
            (λ ended. by_smaller (in_plane f.a) p on_through_f (end_to_start ended)
            (λ less. absurd (smaller_not_back p (in_plane f.a) less
            (moved_to (in_plane f.a) clip.from p here_f starts_f))))
            (λ less. absurd (smaller_not_back (in_plane e.b) p less
            (moved_from subj.to p (in_plane e.b) here_e ends_e)))

      -- the clip's border comes up to p, and the subject's leads on from there
      module _ (leads_e : SamePlace p subj.from) (comes_f : SamePlace p clip.to) where
        from_e : SamePlace subj.from p
        from_e = flipped p subj.from leads_e

        to_f : SamePlace clip.to p
        to_f = flipped p clip.to comes_f

        back_through_e : IsSmaller (in_plane e.a) p → SomeShare starts ms places
        back_through_e more =
            let begun = smaller_to_same (in_plane e.a) p subj.from more leads_e in
            let at = inner i e subj.from at_e subj.piece.from begun
            (smaller_up_to subj.from subj.to (in_plane e.b) subj.piece.before ends_e) in
            found_both i at.0 e subj.from at.1 (toward_moved SubjectBorder filled es e p subj.from from_e subj)
            (comes ClipBorder i at.0 e f along subj.from p at.1 clip begun
            (same_place-trans subj.from p clip.to from_e comes_f))

        back_through_f : IsSmaller p (in_plane f.b) → SomeShare starts ms places
        back_through_f more =
            let short = smaller_from_same clip.to p (in_plane f.b) to_f more in
            let at = inner j f clip.to at_f clip.piece.to
            (up_to_smaller (in_plane f.a) clip.from clip.to starts_f clip.piece.before) short in
            found_both j at.0 f clip.to at.1
            (leads SubjectBorder j at.0 f e back clip.to p at.1 subj short
            (same_place-trans clip.to p subj.from to_f leads_e))
            (toward_moved ClipBorder filled es f p clip.to to_f clip)

        start_to_end : SamePlace (in_plane e.a) p → SamePlace p (in_plane f.b) → SomeShare starts ms places
        start_to_end begun ended = found_pair i j e f at_e at_f p
            (λ q on. squeezed p q
            (moved_from (in_plane e.a) p q begun
            (up_to_of_place (in_plane e.a) q (start_up_to_place (ends_of e) before_e q on.1)))
            (moved_to q (in_plane f.b) p (flipped p (in_plane f.b) ended)
            (up_to_of_place q (in_plane f.b) (place_up_to_end (ends_of f) before_f q on.0))))
            clip
            (λ same. smaller_elsewhere (in_plane e.a) (in_plane e.b) long_e
            (same_place-trans (in_plane e.a) p (in_plane e.b) begun
            (subst (λ (g : CountedEdge). SamePlace p (in_plane g.b)) (sym (same_edge same)) ended)))
            (end_is_meeting (ends_of e) (ends_of f) p (on_e, on_f)
            (inl (inl (at_moved e.a (in_plane e.a) p begun (at_itself e.a))))) subj

        on_and_up : SomeShare starts ms places
        on_and_up = by_smaller (in_plane e.a) p back_through_e
            (λ begun. by_smaller p (in_plane f.b) back_through_f (start_to_end begun)
            (λ less. absurd (smaller_not_back (in_plane f.b) p less (moved_from clip.to p (in_plane f.b) to_f ends_f))))
            (λ less. absurd (smaller_not_back p (in_plane e.a) less
            (moved_to (in_plane e.a) subj.from p from_e starts_e)))

      found_along : SomeShare starts ms places
      found_along = ⊎_elim
          (λ (leads_e : SamePlace p subj.from). ⊎_elim
          (λ (leads_f : SamePlace p clip.from). absurd (no_alike (alike_after filled es forward balanced e f along
          subj.from subj.to clip.from clip.to subj.inside clip.inside subj.piece subj.within clip.piece clip.within
          (same_place-trans subj.from p clip.from (flipped p subj.from leads_e) leads_f))))
          (λ (comes_f : SamePlace p clip.to). on_and_up leads_e comes_f) clip.at)
          (λ (comes_e : SamePlace p subj.to). ⊎_elim
          (λ (leads_f : SamePlace p clip.from). up_and_on comes_e leads_f)
          (λ (comes_f : SamePlace p clip.to). absurd (no_alike (alike_before filled es forward balanced e f along
          subj.from subj.to clip.from clip.to subj.inside clip.inside subj.piece subj.within clip.piece clip.within
          (same_place-trans subj.to p clip.to (flipped p subj.to comes_e) comes_f)))) clip.at)
          subj.at

    found_somewhere : SomeShare starts ms places
    found_somewhere = by_test (are_along (ends_of e) (ends_of f)) (Decides-are_along (ends_of e) (ends_of f))
        found_along found_across

  toward_on : (test : SideTest) (p : PlanePoint) (t : PassesToward (passing test) filled es p) →
      Toward test filled es t.edge p
  toward_on test p t = record {
    from = t.from;
    to = t.to;
    inside = t.inside;
    piece = t.piece;
    within = t.within;
    at = t.at;
    passes = t.passes;
  }

  found_of_shared : HasSharedPlace filled es → SomeShare starts ms places
  found_of_shared (p, subj, clip) = found_somewhere subj.piece.entry.0 clip.piece.entry.0 subj.edge clip.edge
      (subj.piece.entry.1, subj.piece.entry.2) (clip.piece.entry.1, clip.piece.entry.2) p
      (toward_on SubjectBorder p subj) (toward_on ClipBorder p clip)

pub places_tell_shared_places : PlacesTellSharedPlaces
places_tell_shared_places filled es starts ms places ascending forward balanced by are = (
  λ share. shared_of_found filled es starts ms places ascending forward by are share.0 share.1,
  found_of_shared filled es starts ms places ascending forward by are balanced,
)
