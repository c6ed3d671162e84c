-- How shapes meet in the exact arrangement of a merged list, told by the list's plain points and pieces.
use Rattle.std.proofs.Common.{◌≡◌, ◌⊎◌, inl, inr, ⊎_elim, Bool, true, false, cond, not, ◌&&◌, ◌||◌, ℤ, pos, ◌+ℤ◌}
use Rattle.std.proofs.Common.{◌*ℤ◌}
use Rattle.std.proofs.Common.{List, Contains, refl, sym, ap, ◌∙◌, subst}
use Rattle.std.specs.List.{All}
use Rattle.std.proofs.lemmas.Bool.{and_parts, false≢true}
use Rattle.std.proofs.lemmas.List.Elements.{All-contains, All-map}
use lib.IntN.{+ℤ_idr, *ℤ_comm}
use Rattle.overlay_geom.specs.Edges.{CountedEdge, ends_of, all_ends, subj_of, clip_of, winding_by}
use Rattle.overlay_geom.specs.Merged.{IsMerged}
use Rattle.overlay_geom.specs.Plane.{Point, PlanePoint, Edge, SamePlace, IsOn, IsOff, IsAt, IsEnd, midpoint, in_plane}
use Rattle.overlay_geom.specs.Plane.{point_lt}
use Rattle.overlay_geom.proofs.Orders.{same_point}
use Rattle.overlay_geom.proofs.PointOrder.{IsBefore}
use Rattle.overlay_geom.proofs.Signs.{eq_of_mul-eq}
use Rattle.overlay_plane.specs.Balance.{HasBalancedCounts}
use Rattle.overlay_plane.specs.EdgeLists.{IsForwardBy}
use Rattle.overlay_plane.specs.EdgePredicates.{SomeEdge, HasSharedEnd, EndsAt, EdgesTell}
use Rattle.overlay_plane.specs.Predicates.{fills_at, fills_above, fills_below, Intersects, InteriorsIntersect}
use Rattle.overlay_plane.specs.Predicates.{IsFillable}
use Rattle.overlay_plane.proofs.ChainStops.{IsLink}
use Rattle.overlay_plane.proofs.EdgesTell.{edges_tell_predicates}
use Rattle.overlay_plane.proofs.WholeCuts.{CutsWhole, stops}
use Rattle.overlay_plane.proofs.WholeOnEdges.{forward_from_test}
use Rattle.overlay_plane.proofs.WholePlaces.{at_moved}
use Rattle.overlay_scaled.specs.ExactArrangements.{IsExactArrangement, ArrangesExactly}
use Rattle.overlay_scaled.specs.Pieces.{IsPiece, IsWithinPiece}
use Rattle.overlay_scaled.specs.PlainContacts.{fills_over, passes_at, fill_both, fill_one, border_subject, border_clip}
use Rattle.overlay_scaled.specs.PlainContacts.{PassesToward, HasSharedPlace, PlainPointsTellContacts, ExactContacts}
use Rattle.overlay_scaled.specs.PlainPoints.{IsPlain, SomePlain}
use Rattle.overlay_scaled.specs.Scaled.{scaled_edge, IsTimes}
use Rattle.overlay_scaled.specs.Through.{winding_over}
use Rattle.overlay_scaled.proofs.ExactArrangements.{arranges, link_of, whole_cut}
use Rattle.overlay_scaled.proofs.Middles.{middle_on, middle_no_end, from_start, to_end}
use Rattle.overlay_scaled.proofs.Pieces.{pieces_are_plain, piece_of_link, link_between, is_link, on_link}
use Rattle.overlay_scaled.proofs.Pieces.{inside_link, from_at, to_at}
use Rattle.overlay_scaled.proofs.PlainPoints.{from_scaled, has_scaled, no_meeting}
use Rattle.overlay_scaled.proofs.PlainRules.{by_subj, by_clip, subj_at, clip_at, subj_over, clip_over, above_edge}
use Rattle.overlay_scaled.proofs.PlainRules.{below_edge, plain_under, no_end_at_plain, edge_or_none}
use Rattle.overlay_scaled.proofs.SameLinks.{same_link, on_of_link}
use Rattle.overlay_scaled.proofs.ScaledMeetings.{place_forth, smaller_back}
use Rattle.overlay_scaled.proofs.ScaledPoints.{further, is_further, nearer, is_nearer, lies_alike}
use Rattle.overlay_scaled.proofs.ThroughRounds.{through_none}

-- a test of four fillings
abbrev Test : Type 0
Test = Bool → Bool → Bool → Bool → Bool

-- equal fillings pass alike
same_test : (test : Test) (a b c d a' b' c' d' : Bool) → a ≡ a' → b ≡ b' → c ≡ c' → d ≡ d' → test a b c d ≡ test a' b'
    c' d'
same_test test a b c d a' b' c' d' p q r s = λ i. test (p i) (q i) (r i) (s i)

module _ (filled : ℤ → Bool) (n : ℤ) (content es new : List CountedEdge) (merged : IsMerged content es)
    (forward : IsForwardBy ends_of es) (balanced : HasBalancedCounts es) (none : filled (pos 0) ≡ false)
    (arranged : IsExactArrangement n es new) where
  exact : ArrangesExactly n es new
  exact = arranges n es new forward arranged balanced

  fillable : IsFillable filled new
  fillable = record { planar = exact.planar; balanced = exact.balanced; none = none }

  told : EdgesTell filled new
  told = edges_tell_predicates filled new fillable

  h : CutsWhole arranged.round
  h = whole_cut n es new forward arranged

  module _ (test : Test) where
    -- the test of an edge of the arrangement
    abbrev passes_edge : CountedEdge → Bool
    passes_edge g = test (fills_above filled new subj_of g) (fills_below filled new subj_of g)
        (fills_above filled new clip_of g) (fills_below filled new clip_of g)

    -- it is that of a plain point
    same_passes : (e : CountedEdge) (p q : PlanePoint) → IsTimes n p q → IsPlain es e p → (g : CountedEdge) →
        Contains new g → IsOn (ends_of g) q → ¬ (IsEnd (ends_of g) q) → passes_at test filled es p ≡ passes_edge g
    same_passes e p q at plain g has on no_end =
        same_test test (fills_over filled es subj_of p) (fills_at filled es subj_of p) (fills_over filled es clip_of p)
        (fills_at filled es clip_of p) (fills_above filled new subj_of g) (fills_below filled new subj_of g)
        (fills_above filled new clip_of g) (fills_below filled new clip_of g)
        (ap filled (sym (subj_over n content es new merged forward balanced arranged e p q at plain)
        ∙ above_edge n content es new merged forward balanced arranged g has q on no_end subj_of
        (by_subj n content es new merged forward balanced arranged)))
        (ap filled (sym (subj_at n content es new merged forward balanced arranged e p q at plain)
        ∙ below_edge n content es new merged forward balanced arranged g has q on no_end subj_of
        (by_subj n content es new merged forward balanced arranged)))
        (ap filled (sym (clip_over n content es new merged forward balanced arranged e p q at plain)
        ∙ above_edge n content es new merged forward balanced arranged g has q on no_end clip_of
        (by_clip n content es new merged forward balanced arranged)))
        (ap filled (sym (clip_at n content es new merged forward balanced arranged e p q at plain)
        ∙ below_edge n content es new merged forward balanced arranged g has q on no_end clip_of
        (by_clip n content es new merged forward balanced arranged)))

    -- ---- the middle of an edge of the arrangement

    module _ (g : CountedEdge) (has : Contains new g) where
      abbrev q : PlanePoint
      q = midpoint (ends_of g)

      abbrev p : PlanePoint
      p = nearer n arranged.scale q

      at : IsTimes n p q
      at = is_nearer n arranged.scale q

      before : IsBefore g.a g.b
      before = forward_from_test (ends_of g) (All-contains (λ f. point_lt f.a f.b ≡ true) new g exact.planar.forward
          has)

      under : (e : CountedEdge) × IsPlain es e p
      under = plain_under n content es new merged forward balanced arranged g has q (middle_on (ends_of g) before)
          (middle_no_end (ends_of g) before) p at

      passes_middle : passes_at test filled es p ≡ passes_edge g
      passes_middle = same_passes under.0 p q at under.1 g has (middle_on (ends_of g) before)
          (middle_no_end (ends_of g) before)

      pub plain_of_edge : passes_edge g ≡ true → SomePlain (passes_at test filled es) es
      plain_of_edge t = (under.0, p, under.1, passes_middle ∙ t)

      -- a piece that passes ends where the edge does
      link : (e : CountedEdge) × Contains arranged.round.edges e × IsLink (stops arranged.round e) (ends_of g)
      link = link_of n es new forward arranged g has

      from : (e : CountedEdge) × Contains es e × (scaled_edge n e ≡ link.0)
      from = from_scaled n content es new merged forward arranged link.0 link.1

      piece : IsPiece es from.0 (nearer n arranged.scale (in_plane g.a)) (nearer n arranged.scale (in_plane g.b))
      piece = piece_of_link n content es new merged forward arranged from.0 from.1 (ends_of g)
          (subst (λ (x : CountedEdge). IsLink (stops arranged.round x) (ends_of g)) (sym from.2) link.2)

      within : IsWithinPiece from.0 (nearer n arranged.scale (in_plane g.a)) (nearer n arranged.scale (in_plane g.b)) p
      within = record {
        on = ((lies_alike n arranged.scale p q at).on from.0).1
            (subst (λ (x : CountedEdge). IsOn (ends_of x) q) (sym from.2)
            (on_of_link arranged.round h link.0 link.1 (ends_of g) link.2 q (middle_on (ends_of g) before)));
        after = smaller_back n arranged.scale (nearer n arranged.scale (in_plane g.a)) (in_plane g.a) p q
            (is_nearer n arranged.scale (in_plane g.a)) at (from_start (ends_of g) before);
        before = smaller_back n arranged.scale p q (nearer n arranged.scale (in_plane g.b)) (in_plane g.b) at
            (is_nearer n arranged.scale (in_plane g.b)) (to_end (ends_of g) before);
      }

      pub toward_end : passes_edge g ≡ true → (v : Point) → EndsAt v g →
          PassesToward test filled es (nearer n arranged.scale (in_plane v))
      toward_end t v ends = record {
        edge = from.0;
        from = nearer n arranged.scale (in_plane g.a);
        to = nearer n arranged.scale (in_plane g.b);
        inside = p;
        piece = piece;
        within = within;
        at = ⊎_elim
            (λ is. inl (subst (λ w. SamePlace (nearer n arranged.scale (in_plane v)) (nearer n arranged.scale
            (in_plane w))) (sym is) (refl, refl)))
            (λ is. inr (subst (λ w. SamePlace (nearer n arranged.scale (in_plane v)) (nearer n arranged.scale
            (in_plane w))) (sym is) (refl, refl))) ends;
        passes = same_passes from.0 p q at (pieces_are_plain es from.0 (nearer n arranged.scale (in_plane g.a))
            (nearer n arranged.scale (in_plane g.b)) p piece within) g has (middle_on (ends_of g) before)
            (middle_no_end (ends_of g) before) ∙ t;
      }

    -- ---- a plain point that passes

    -- the test of a point off all edges, whose two sides are one
    abbrev passes_off : PlanePoint → Bool
    passes_off s = test (fills_at filled new subj_of s) (fills_at filled new subj_of s) (fills_at filled new clip_of s)
        (fills_at filled new clip_of s)

    module _ (e : CountedEdge) (p : PlanePoint) (plain : IsPlain es e p) where
      abbrev s : PlanePoint
      s = further n p

      off_edges : All (λ g. ¬ (IsOn (ends_of g) s)) new → passes_at test filled es p ≡ passes_off s
      off_edges off = same_test test (fills_over filled es subj_of p) (fills_at filled es subj_of p)
          (fills_over filled es clip_of p) (fills_at filled es clip_of p) (fills_at filled new subj_of s)
          (fills_at filled new subj_of s) (fills_at filled new clip_of s) (fills_at filled new clip_of s)
          (ap filled (sym (subj_over n content es new merged forward balanced arranged e p s (is_further n p) plain)
          ∙ level subj_of))
          (ap filled (sym (subj_at n content es new merged forward balanced arranged e p s (is_further n p) plain)))
          (ap filled (sym (clip_over n content es new merged forward balanced arranged e p s (is_further n p) plain)
          ∙ level clip_of))
          (ap filled (sym (clip_at n content es new merged forward balanced arranged e p s (is_further n p) plain)))
        where
          level : (count : CountedEdge → ℤ) → winding_over count new s ≡ winding_by count new s
          level count = ap (λ z. winding_by count new s +ℤ z) (through_none new exact.planar s count
              (λ g c. All-contains (λ g. ¬ (IsOn (ends_of g) s)) new g off c)) ∙ +ℤ_idr (winding_by count new s)

      -- an edge through the point n times as far passes, or the point passes
      pub edge_of_plain : {P : Type 0} → passes_at test filled es p ≡ true →
          ((g : CountedEdge) → Contains new g → IsOn (ends_of g) s → ¬ (IsEnd (ends_of g) s) →
          passes_edge g ≡ true → P) → (IsOff (all_ends new) s → passes_off s ≡ true → P) → P
      edge_of_plain t at_edge at_none = ⊎_elim
          (λ off. at_none (All-map (λ f. ¬ (IsOn f s)) ends_of new off) (sym (off_edges off) ∙ t))
          (λ some.
          let no_end = no_end_at_plain n content es new merged forward balanced arranged e p s (is_further n p) plain
          some.0 some.1 in
          at_edge some.0 some.1 some.2 no_end (sym (same_passes e p s (is_further n p) plain some.0 some.1 some.2
          no_end) ∙ t))
          (edge_or_none n content es new merged forward balanced arranged s)

    -- where no point off all edges passes, a piece that passes toward a place has an edge that passes and ends there
    module _ (never : (s : PlanePoint) → ¬ (passes_off s ≡ true)) (place : PlanePoint)
        (toward : PassesToward test filled es place) where
      abbrev large : CountedEdge
      large = scaled_edge n toward.edge

      has_large : Contains arranged.round.edges large
      has_large = has_scaled n content es new merged forward arranged toward.edge toward.piece.entry

      abbrev between : Edge
      between = link_between n content es new merged forward arranged toward.edge toward.piece.entry toward.from
          toward.to toward.piece

      plain : IsPlain es toward.edge toward.inside
      plain = pieces_are_plain es toward.edge toward.from toward.to toward.inside toward.piece toward.within

      same_edge : (g : CountedEdge) → Contains new g → IsOn (ends_of g) (further n toward.inside) →
          ends_of g ≡ between
      same_edge g has on =
          let link = link_of n es new forward arranged g has in
          sym (same_link arranged.round h large link.0 between (ends_of g) (further n toward.inside) has_large link.1
          (λ other. no_meeting n content es new merged forward arranged toward.edge toward.inside
          (further n toward.inside) (is_further n toward.inside) plain link.0 link.1 other (further n toward.inside)
          (refl, refl))
          (is_link n content es new merged forward arranged toward.edge toward.piece.entry toward.from toward.to
          toward.piece) link.2
          (on_link n content es new merged forward arranged toward.edge toward.piece.entry toward.from toward.to
          toward.piece toward.inside (further n toward.inside) (is_further n toward.inside) toward.within) on
          (inside_link n content es new merged forward arranged toward.edge toward.piece.entry toward.from toward.to
          toward.piece toward.inside (further n toward.inside) (is_further n toward.inside) toward.within))

      -- the end of the link that is n times as far as the place
      link_end_at : (v : Point) × ((v ≡ between.a) ⊎ (v ≡ between.b)) × IsAt v (further n place)
      link_end_at = ⊎_elim
          (λ same. (
            between.a,
            inl refl,
            at_moved between.a (further n toward.from) (further n place)
                (place_forth n arranged.scale toward.from (further n toward.from) place (further n place)
                (is_further n toward.from) (is_further n place) (sym same.0, sym same.1))
                (from_at n content es new merged forward arranged toward.edge toward.piece.entry toward.from toward.to
                toward.piece),
          ))
          (λ same. (
            between.b,
            inr refl,
            at_moved between.b (further n toward.to) (further n place)
                (place_forth n arranged.scale toward.to (further n toward.to) place (further n place)
                (is_further n toward.to) (is_further n place) (sym same.0, sym same.1))
                (to_at n content es new merged forward arranged toward.edge toward.piece.entry toward.from toward.to
                toward.piece),
          ))
          toward.at

      pub edge_toward : (g : CountedEdge) × Contains new g × (passes_edge g ≡ true)
          × ((v : Point) × EndsAt v g × IsAt v (further n place))
      edge_toward = edge_of_plain toward.edge toward.inside plain toward.passes
          (λ g has on no_end t. (
            g,
            has,
            t,
            (
              link_end_at.0,
              ⊎_elim (λ is. inl (ap (λ (k : Edge). k.a) (same_edge g has on) ∙ sym is))
                  (λ is. inr (ap (λ (k : Edge). k.b) (same_edge g has on) ∙ sym is)) link_end_at.1,
              link_end_at.2,
            ),
          ))
          (λ off t. absurd (never (further n toward.inside) t))

  -- ---- the relations

  abbrev Meets : Type 0
  Meets = SomePlain (passes_at fill_both filled es) es ⊎ HasSharedPlace filled es

  no_border : (a b : Bool) → cond a (not a) a && b ≡ true → ⊥
  no_border true b t = false≢true t
  no_border false b t = false≢true t

  -- two whole points at one place are equal
  one_whole : (v w : Point) (p : PlanePoint) → IsAt v p → IsAt w p → v ≡ w
  one_whole v w p at_v at_w = same_point v w (cancel v.x w.x (sym at_v.0 ∙ at_w.0))
      (cancel v.y w.y (sym at_v.1 ∙ at_w.1))
    where
      cancel : (a b : ℤ) → a *ℤ p.d ≡ b *ℤ p.d → a ≡ b
      cancel a b same = eq_of_mul-eq p.d a b p.positive (*ℤ_comm p.d a ∙ same ∙ *ℤ_comm b p.d)

  shared_forth : HasSharedEnd filled new → HasSharedPlace filled es
  shared_forth end = (
    nearer n arranged.scale (in_plane end.end),
    toward_end border_subject end.of_subj end.subj_entry end.subj_border end.end end.subj_at,
    toward_end border_clip end.of_clip end.clip_entry end.clip_border end.end end.clip_at,
  )

  shared_back : HasSharedPlace filled es → HasSharedEnd filled new
  shared_back (place, subj, clip) =
      let s = edge_toward border_subject (λ s. no_border (fills_at filled new subj_of s)
      (not (fills_at filled new clip_of s || fills_at filled new clip_of s))) place subj in
      let k = edge_toward border_clip (λ s. no_border (fills_at filled new clip_of s)
      (not (fills_at filled new subj_of s || fills_at filled new subj_of s))) place clip in
      record {
        end = s.3.0;
        of_subj = s.0;
        of_clip = k.0;
        subj_entry = s.1;
        clip_entry = k.1;
        subj_at = s.3.1;
        clip_at = subst (λ (v : Point). EndsAt v k.0) (one_whole k.3.0 s.3.0 (further n place) k.3.2 s.3.2) k.3.1;
        subj_border = s.2;
        clip_border = k.2;
      }

  meets_forth : Intersects filled new → Meets
  meets_forth meets = ⊎_elim (λ some. inl (plain_of_edge fill_both some.0 some.1 some.2))
      (λ end. inr (shared_forth end)) (told.intersects.0 meets)

  -- both fill a point off all edges that passes
  one : (a : Bool) → a || a ≡ true → a ≡ true
  one true t = refl
  one false t = t

  abbrev BothFill : PlanePoint → Type 0
  BothFill s = (fills_at filled new subj_of s ≡ true) × (fills_at filled new clip_of s ≡ true)

  both_fill : (s : PlanePoint) → passes_off fill_both s ≡ true → BothFill s
  both_fill s off =
      let parts = and_parts (fills_at filled new subj_of s || fills_at filled new subj_of s)
      (fills_at filled new clip_of s || fills_at filled new clip_of s) off in
      (one (fills_at filled new subj_of s) parts.0, one (fills_at filled new clip_of s) parts.1)

  plain_meets : SomePlain (passes_at fill_both filled es) es → Intersects filled new
  plain_meets (e, p, plain, t) = edge_of_plain fill_both e p plain t
      (λ g has on no_end passes. told.intersects.1 (inl (g, has, passes)))
      (λ away off. let fill = both_fill (further n p) off in (further n p, inl fill.0, inl fill.1))

  meets_back : Meets → Intersects filled new
  meets_back meets = ⊎_elim plain_meets (λ end. told.intersects.1 (inr (shared_back end))) meets

  common_forth : SomeEdge (passes_edge fill_one) new → SomePlain (passes_at fill_one filled es) es
  common_forth some = plain_of_edge fill_one some.0 some.1 some.2

  common_back : SomePlain (passes_at fill_one filled es) es → InteriorsIntersect filled new
  common_back (e, p, plain, t) = edge_of_plain fill_one e p plain t
      (λ g has on no_end passes. told.interiors_intersect.1 (g, has, passes))
      (λ away off.
      let parts = and_parts (fills_at filled new subj_of (further n p)) (fills_at filled new clip_of (further n p))
      (one (fills_at filled new subj_of (further n p) && fills_at filled new clip_of (further n p)) off) in
      (further n p, away, parts.0, parts.1))

  pub tells : PlainPointsTellContacts filled es new
  tells = record {
    intersects = (meets_forth, meets_back);
    touches = (
      λ h. (meets_forth h.0, λ some. h.1 (common_back some)),
      λ h. (meets_back h.0, λ inner. h.1 (common_forth (told.interiors_intersect.0 inner))),
    );
    point_intersects = (
      λ h. let at = told.point_intersects.0 h in
          (shared_forth at.0, λ some. at.1 (edge_from_plain some)),
      λ h. told.point_intersects.1 (shared_back h.0, λ some. h.1 (plain_of_edge fill_both some.0 some.1 some.2)),
    );
  }
    where
      both_of_one : (sa sb ca cb : Bool) → fill_one sa sb ca cb ≡ true → fill_both sa sb ca cb ≡ true
      both_of_one true true true cb t = refl
      both_of_one true true false cb t = t
      both_of_one true false true cb t = refl
      both_of_one true false false cb t = absurd (false≢true t)
      both_of_one false true true cb t = refl
      both_of_one false true false cb t = t
      both_of_one false false ca cb t = absurd (false≢true t)

      edge_from_inner : InteriorsIntersect filled new → SomeEdge (passes_edge fill_both) new
      edge_from_inner inner =
          let some = told.interiors_intersect.0 inner in (
            some.0,
            some.1,
            both_of_one (fills_above filled new subj_of some.0) (fills_below filled new subj_of some.0)
                (fills_above filled new clip_of some.0) (fills_below filled new clip_of some.0) some.2,
          )

      edge_from_plain : SomePlain (passes_at fill_both filled es) es → SomeEdge (passes_edge fill_both) new
      edge_from_plain (e, p, plain, t) = edge_of_plain fill_both e p plain t
          (λ g has on no_end passes. (g, has, passes))
          (λ away off. let fill = both_fill (further n p) off in
          edge_from_inner (further n p, away, fill.0, fill.1))

pub exact_contacts : ExactContacts
exact_contacts filled n content es new merged forward balanced none arranged =
    tells filled n content es new merged forward balanced none arranged
