-- The sides at the meeting points tell whether borders of subject and clip end at one place.
use Rattle.std.proofs.Common.{◌≡◌, ◌≢◌, ◌⊎◌, ⊎_elim, inl, inr, ◌||◌, ℕ, ◌+◌, ◌-◌, ◌<◌, Bool, true, false, ℤ, List}
use Rattle.std.proofs.Common.{Contains, length, slice_range, refl, sym, subst, arith}
use Rattle.std.proofs.lemmas.Bool.{false≢true}
use Rattle.overlay_geom.specs.Edges.{CountedEdge, ends_of}
use Rattle.overlay_geom.specs.Plane.{PlanePoint, SamePlace}
use Rattle.overlay_plane.specs.EdgeLists.{IsForwardBy}
use Rattle.overlay_plane.specs.Meetings.{IsMeetingPoint}
use Rattle.overlay_plane.proofs.Entries.{Contains-from_any}
use Rattle.overlay_plane.proofs.SettledPieces.{meeting_exchanged}
use Rattle.overlay_plane.proofs.SmallerPoints.{same_place-trans}
use Rattle.overlay_order.specs.Content.{IsAscending}
use Rattle.overlay_pairs.specs.Places.{IsAt}
use Rattle.overlay_pairs.proofs.Entries.{one_entry}
use Rattle.overlay_scaled.specs.Pieces.{IsPiece, IsWithinPiece}
use Rattle.overlay_scaled.specs.PlainContacts.{PassesToward, border_clip, HasSharedPlace}
use Rattle.overlay_exact.specs.AllMet.{IsMetBefore, TellsOf, AreMetByStarts}
use Rattle.overlay_exact.specs.Along.{Met}
use Rattle.overlay_exact.specs.Parts.{LiesAt}
use Rattle.overlay_exact.specs.PlacesAlong.{AreMetIn}
use Rattle.overlay_exact.proofs.MetByStarts.{entry_at}
use Rattle.overlay_exact.proofs.PlacesTold.{same_at}
use Rattle.overlay_exact.proofs.PlaneOrder.{flipped}
use Rattle.overlay_given.specs.Places.{IsSidesToward, AreSidesAt, ArePlacesBy, place_passes, IsMetOn, AllBorderClip}
use Rattle.overlay_given.specs.Places.{SharesOn}
use Rattle.overlay_given.specs.Sides.{passing, sides_at, sides_pass}
use Rattle.overlay_given.specs.declared.sides.FilledSides.{FilledSides}
use Rattle.overlay_given.specs.declared.sides.SidesAtPlace.{SidesAtPlace}
use Rattle.overlay_given.specs.declared.sides.SideTest.{SideTest}
use Rattle.overlay_given.specs.declared.sides.SideTest.TheVariants.{SubjectBorder, ClipBorder}
use Rattle.overlay_given.proofs.Ranges.{at_of_range, in_range}

-- ---- one edge

-- a piece of e that begins or ends at this place passes the test
pub record Toward (test : SideTest) (filled : ℤ → Bool) (es : List CountedEdge) (e : CountedEdge)
    (place : PlanePoint) : Type 0 where
  pub from : PlanePoint
  pub to : PlanePoint
  pub inside : PlanePoint
  pub piece : IsPiece es e from to
  pub within : IsWithinPiece e from to inside
  pub at : SamePlace place from ⊎ SamePlace place to
  pub passes : sides_pass test (sides_at filled es inside) ≡ true

-- one of two passes
one_of : (a b : Bool) → a || b ≡ true → (a ≡ true) ⊎ (b ≡ true)
one_of true b t = inl refl
one_of false b t = inr t

first_of : (a b : Bool) → a ≡ true → a || b ≡ true
first_of true b t = refl
first_of false b t = absurd (false≢true t)

second_of : (a b : Bool) → b ≡ true → a || b ≡ true
second_of true b t = refl
second_of false b t = t

module _ (test : SideTest) (filled : ℤ → Bool) (es : List CountedEdge) (e : CountedEdge) where
  -- what ends at a point ends at its place
  abbrev pub toward_moved : (p q : PlanePoint) → SamePlace q p → Toward test filled es e p → Toward test filled es e q
  toward_moved p q same t = record {
    from = t.from;
    to = t.to;
    inside = t.inside;
    piece = t.piece;
    within = t.within;
    at = ⊎_elim (λ here. inl (same_place-trans q p t.from same here))
        (λ here. inr (same_place-trans q p t.to same here)) t.at;
    passes = t.passes;
  }

  toward_of_sides : (p : PlanePoint) (s : FilledSides) → IsSidesToward filled es e p s → sides_pass test s ≡ true →
      Toward test filled es e p
  toward_of_sides p s of t = record {
    from = of.from;
    to = of.to;
    inside = of.inside;
    piece = of.piece;
    within = of.within;
    at = of.at;
    passes = subst (λ x. sides_pass test x ≡ true) of.sides t;
  }

  module _ (m : Met) (a : SidesAtPlace) (sides : AreSidesAt filled es e m a) where
    -- the sides at a meeting point pass where those of a piece that ends there do
    pub toward_of_place : place_passes test a ≡ true → Toward test filled es e sides.place
    toward_of_place t = ⊎_elim (toward_of_sides sides.place a.before sides.before)
        (toward_of_sides sides.place a.after sides.after)
        (one_of (sides_pass test a.before) (sides_pass test a.after) t)

    pub place_of_toward : (p : PlanePoint) → SamePlace sides.place p → Toward test filled es e p →
        place_passes test a ≡ true
    place_of_toward p same t = ⊎_elim
        (λ (is : sides_at filled es t.inside ≡ a.before). first_of (sides_pass test a.before) (sides_pass test a.after)
        (subst (λ x. sides_pass test x ≡ true) is t.passes))
        (λ (is : sides_at filled es t.inside ≡ a.after). second_of (sides_pass test a.before) (sides_pass test a.after)
        (subst (λ x. sides_pass test x ≡ true) is t.passes))
        (sides.every t.from t.to t.inside t.piece t.within (toward_moved p sides.place same t).at)

-- ---- all edges

module _ (filled : ℤ → Bool) (es : List CountedEdge) (starts : List ℕ) (ms : List Met) (places : List SidesAtPlace)
    (ascending : IsAscending es) (forward : IsForwardBy ends_of es) (by : AreMetByStarts es (length es) starts ms)
    (are : ArePlacesBy filled es (length es) starts ms places) where
  -- the edge at place i meets another at m
  module _ (i k : ℕ) (e : CountedEdge) (m : Met) (a : SidesAtPlace) (at : IsAt es i e)
      (on : IsMetOn starts ms places i k m a) where
    pub met_on : IsMetBefore es (length es) i e m
    met_on =
        let of = by.of_each i on.start on.end e at on.start_at on.end_at in
        let here = in_range ms on.start on.end k m on.after on.before on.met in
        subst (IsMetBefore es (length es) i e) here.1 (of.all.each (k - on.start) m here.0)

    pub sides_on : AreSidesAt filled es e m a
    sides_on = are.each i on.start on.end k e m a at.0 at on.start_at on.end_at on.after on.before on.met on.sides

    -- the points of its part are at one place
    pub met_at_one : (p : PlanePoint) → LiesAt (ends_of e) m.part p → SamePlace sides_on.place p
    met_at_one p lies =
        let of = by.of_each i on.start on.end e at on.start_at on.end_at in
        let given : AreMetIn es i e (slice_range ms on.start on.end) = record {
          ascending = ascending;
          forward = forward;
          entry = at;
          met = of;
        } in
        same_at es i e (slice_range ms on.start on.end) given m.part m.part sides_on.place p met_on.met.part.positive
        met_on.met.part.positive sides_on.at lies refl

  -- a meeting point of two edges is told for each, with the sides there
  pub record Entry (i j : ℕ) (e : CountedEdge) (p : PlanePoint) : Type 0 where
    pub k : ℕ
    pub met : Met
    pub sides : SidesAtPlace
    pub on : IsMetOn starts ms places i k met sides
    pub other : met.other ≡ j
    pub of : AreSidesAt filled es e met sides
    pub same : SamePlace of.place p

  module _ (i j : ℕ) (e f : CountedEdge) (p : PlanePoint) (at : IsAt es i e) (at_f : IsAt es j f) (apart : j ≢ i)
      (meeting : IsMeetingPoint (ends_of e) (ends_of f) p) where
    s : (x : ℕ) × IsAt starts i x
    s = entry_at starts i (let count = by.count in let less = at.0 in omega (arith, count, less))

    t : (x : ℕ) × IsAt starts (i + 1) x
    t = entry_at starts (i + 1) (let count = by.count in let less = at.0 in omega (arith, count, less))

    found : (m : Met) × Contains (slice_range ms s.0 t.0) m × TellsOf e j p m
    found = Contains-from_any (TellsOf e j p) (slice_range ms s.0 t.0)
        ((by.of_each i s.0 t.0 e at s.1 t.1).all.every j f p at_f.0 apart at_f meeting)

    place : (s.0 + found.1.0 < t.0) × IsAt ms (s.0 + found.1.0) found.0
    place = at_of_range ms s.0 t.0 found.1.0 found.0 (found.1.1, found.1.2)

    same_count : length places ≡ length ms
    same_count = one_entry starts (length es) (length places) (length ms) are.last by.last

    side : (a : SidesAtPlace) × IsAt places (s.0 + found.1.0) a
    side = entry_at places (s.0 + found.1.0)
        (let same = same_count in let within = place.1.0 in omega (arith, same, within))

    on : IsMetOn starts ms places i (s.0 + found.1.0) found.0 side.0
    on = record {
      start = s.0;
      end = t.0;
      start_at = s.1;
      end_at = t.1;
      after = omega arith;
      before = place.0;
      met = place.1;
      sides = side.1;
    }

    pub entry : Entry i j e p
    entry = record {
      k = s.0 + found.1.0;
      met = found.0;
      sides = side.0;
      on = on;
      other = found.2.0;
      of = sides_on i (s.0 + found.1.0) e found.0 side.0 at on;
      same = met_at_one i (s.0 + found.1.0) e found.0 side.0 at on p found.2.1;
    }

  -- ---- what the tests find is so

  module _ (i : ℕ) (share : SharesOn starts ms places i) where
    within_edges : i < length es
    within_edges = let count = by.count in let less = share.on.end_at.0 in omega (arith, count, less)

    abbrev e_at : (e : CountedEdge) × IsAt es i e
    e_at = entry_at es i within_edges

    abbrev sides : AreSidesAt filled es e_at.0 share.met share.sides
    sides = sides_on i share.k e_at.0 share.met share.sides e_at.1 share.on

    passes_toward : (test : SideTest) (e : CountedEdge) (p : PlanePoint) → Toward test filled es e p →
        PassesToward (passing test) filled es p
    passes_toward test e p t = record {
      edge = e;
      from = t.from;
      to = t.to;
      inside = t.inside;
      piece = t.piece;
      within = t.within;
      at = t.at;
      passes = t.passes;
    }

    abbrev met : IsMetBefore es (length es) i e_at.0 share.met
    met = met_on i share.k e_at.0 share.met share.sides e_at.1 share.on

    -- the other edge's entry there
    back : Entry share.met.other i met.edge met.met.point
    back = entry share.met.other i met.edge e_at.0 met.met.point met.at e_at.1 (λ is. met.other (sym is))
        (meeting_exchanged (ends_of e_at.0) (ends_of met.edge) met.met.point met.met.meets)

    clip : PassesToward border_clip filled es sides.place
    clip = ⊎_elim
        (λ (here : place_passes ClipBorder share.sides ≡ true). passes_toward ClipBorder e_at.0 sides.place
        (toward_of_place ClipBorder filled es e_at.0 share.met share.sides sides here))
        (λ (all : AllBorderClip starts ms places share.met.other i). passes_toward ClipBorder met.edge sides.place
        (toward_moved ClipBorder filled es met.edge back.of.place sides.place
        (same_place-trans sides.place met.met.point back.of.place
        (met_at_one i share.k e_at.0 share.met share.sides e_at.1 share.on met.met.point met.met.place)
        (flipped back.of.place met.met.point back.same))
        (toward_of_place ClipBorder filled es met.edge back.met back.sides back.of
        (all back.k back.met back.sides back.on back.other))))
        share.clip

    pub shared_of_found : HasSharedPlace filled es
    shared_of_found = (
      sides.place,
      passes_toward SubjectBorder e_at.0 sides.place
          (toward_of_place SubjectBorder filled es e_at.0 share.met share.sides sides share.subject),
      clip,
    )
