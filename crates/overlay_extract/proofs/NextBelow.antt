-- A look-up below an anchor finds the walk with the next filled-above edge, or that no edge is below.
use Rattle.std.proofs.Common.{◌≡◌, ◌⊎◌, inl, inr, ⊎_elim, ℕ, Bool, true, false, ◌&&◌, pos, ◌*ℤ◌, ◌<ℤ◌, int_lt, int_le}
use Rattle.std.proofs.Common.{List, length, take, drop, Contains, Option, None, Some, refl, sym, ap, ap₂, ◌∙◌}
use Rattle.std.proofs.Common.{subst, arith}
use Rattle.std.specs.List.{All, filter, slice_get}
use Rattle.std.proofs.lemmas.Bool.{and_parts, false_from_ne_true}
use Rattle.std.proofs.lemmas.Int.{ints}
use Rattle.std.proofs.lemmas.List.{take-append-drop}
use Rattle.std.proofs.lemmas.List.Elements.{All-contains, Contains-append_left, Contains-append_cases, Contains-get_or}
use Rattle.overlay_geom.specs.Plane.{Step, Edge, edge_of, edge_eq, point_lt}
use Rattle.overlay_geom.specs.Settled.{IsSettledBy, MeetInEnds}
use Rattle.overlay_plane.specs.Heights.{covers, is_under}
use Rattle.overlay_plane.specs.Contours.{is_filled_above, IsContour, all_steps}
use Rattle.overlay_plane.specs.Anchors.{IsAnchor, is_below_anchor, is_lower_at}
use Rattle.overlay_plane.specs.Binding.{filled_above_edges, all_filled_above, IsNextWalk, HasNoneBelow}
use Rattle.overlay_plane.specs.Turn.{Hand}
use Rattle.overlay_plane.proofs.Anchors.{anchor_step}
use Rattle.overlay_plane.proofs.BelowAnchors.{below_an_anchor_is_under}
use Rattle.overlay_plane.proofs.ContourSteps.{contour_long}
use Rattle.overlay_plane.proofs.Entries.{Contains-filter, Contains-from_filter, Contains-from_map, Contains-flat_map}
use Rattle.overlay_plane.proofs.LongSteps.{long_leads_forward}
use Rattle.overlay_plane.proofs.LowerEdges.{lower_at_is_under}
use Rattle.overlay_plane.proofs.Tests.{lt_from_test, test_from_lt, le_from_test}
use Rattle.overlay_plane.proofs.Under.{under_irreflexive, under_asymmetric}
use Rattle.overlay_scan.specs.Scan.{Entry, Sweep, live_at, IsOver, AreLive, MeetsOthers, entry_below, value_or}
use Rattle.overlay_scan.specs.Scan.{value_below}
use Rattle.overlay_scan.specs.Laws.{IsGreatestBelow}
use Rattle.overlay_scan.proofs.LastEntries.{no_last, look_up_gives_the_greatest}
use Rattle.overlay_extract.specs.Parents.{IsSwept}
use Rattle.overlay_extract.specs.WalkEntries.{IsFilledEntry, AreFilledEntries}
use Rattle.overlay_extract.proofs.HoleEntries.{Contains-at}

module _ (filled : Hand) (walks : List (List Step)) (contours : All IsContour walks)
    (settled : IsSettledBy edge_of (all_steps walks)) where
  -- an edge of a walk: that of a step, which leads forward
  pub record IsWalked (e : Edge) : Type 0 where
    pub step : Step
    pub among : Contains (all_steps walks) step
    pub is : edge_of step ≡ e
    pub forward : point_lt e.a e.b ≡ true

  -- the edge of a walk's step is one
  pub walked : (w : List Step) → Contains walks w → (s : Step) → Contains w s → (e : Edge) → edge_of s ≡ e → IsWalked e
  walked w at s c e is = record {
    step = s;
    among = Contains-flat_map (λ v. v) walks w s at c;
    is = is;
    forward = subst (λ (f : Edge). point_lt f.a f.b ≡ true) is
        (long_leads_forward s (contour_long w (All-contains IsContour walks w contours at) s c));
  }

  -- a filled-above edge of a walk is one
  pub filled_walked : (f : Entry ℕ) → IsFilledEntry filled walks f → IsWalked f.edge
  filled_walked f are_filled =
      let found = Contains-from_map edge_of (filter (is_filled_above filled) are_filled.walk) f.edge are_filled.has in
      walked are_filled.walk (Contains-at walks f.value are_filled.walk are_filled.at) found.0
      (Contains-from_filter (is_filled_above filled) are_filled.walk found.0 found.1).0 f.edge found.2

  -- an anchor is one
  pub anchor_walked : (w : List Step) → Contains walks w → (e : Edge) → IsAnchor w e → IsWalked e
  anchor_walked w at e anchor = let own = anchor_step w e anchor in walked w at own.0 own.1 e own.2

  -- two of them meet in ends alone, if they are not one
  pub walked_meet : (e f : Edge) → IsWalked e → IsWalked f → edge_eq e f ≡ false → MeetInEnds e f
  walked_meet e f of_e of_f differ = subst (λ g. MeetInEnds g f) of_e.is (subst (MeetInEnds (edge_of of_e.step)) of_f.is
      (settled of_e.step of_f.step of_e.among of_f.among (ap₂ edge_eq of_e.is of_f.is ∙ differ)))

  one_or_meet : (e f : Edge) → IsWalked e → IsWalked f → (edge_eq e f ≡ true) ⊎ MeetInEnds e f
  one_or_meet e f of_e of_f = by (edge_eq e f) refl
    where
      by : (t : Bool) → edge_eq e f ≡ t → (edge_eq e f ≡ true) ⊎ MeetInEnds e f
      by true same = inl same
      by false differ = inr (walked_meet e f of_e of_f differ)

  module _ (fs : List (Entry ℕ)) (are_filled : AreFilledEntries filled walks fs) (limit : ℕ) (hole : List Step)
      (kept : Contains walks hole) (e : Edge)
      (anchor : IsAnchor hole e) (upright : covers e e.a.x (pos 1) ≡ true) (n : ℕ) (s : Sweep ℕ)
      (swept : IsSwept limit e.a.x (take n fs) s)
      (rest : All (λ f. e.a.x <ℤ f.edge.a.x) (drop n fs)) where
    -- the live entries
    abbrev live : List (Entry ℕ)
    live = live_at e.a.x s.entries

    -- are among all
    listed : (f : Entry ℕ) → Contains live f → Contains fs f
    listed f c = subst (λ gs. Contains gs f) (take-append-drop n fs)
        (Contains-append_left (take n fs) (drop n fs) f (swept.from f c))

    own : (f : Entry ℕ) → Contains live f → IsFilledEntry filled walks f
    own f c = All-contains (IsFilledEntry filled walks) fs f are_filled.from (listed f c)

    -- a live edge of a walk meets the anchor in ends alone
    pub meets_anchor : MeetsOthers e live
    meets_anchor = λ i d h differ. walked_meet e _ (anchor_walked hole kept e anchor)
        (filled_walked _ (All-contains (IsFilledEntry filled walks) fs _ are_filled.from
        (listed _ (Contains-get_or live i d h)))) differ

    -- all entries over the x-coordinate are live
    covering : (f : Entry ℕ) → Contains fs f → covers f.edge e.a.x (pos 1) ≡ true → Contains live f
    covering f c over = ⊎_elim
        (λ early. swept.all f (Contains-filter (λ h. int_lt e.a.x h.edge.b.x) (take n fs) f early lasts))
        (λ late. absurd (let start = All-contains (λ h. e.a.x <ℤ h.edge.a.x) (drop n fs) f rest late in
        let begun = le_from_test (f.edge.a.x *ℤ pos 1) e.a.x parts.0 in omega (arith, ints)))
        (Contains-append_cases (take n fs) (drop n fs) f (subst (λ gs. Contains gs f) (sym (take-append-drop n fs)) c))
      where
        parts : (int_le (f.edge.a.x *ℤ pos 1) e.a.x ≡ true) × (int_lt e.a.x (f.edge.b.x *ℤ pos 1) ≡ true)
        parts = and_parts (int_le (f.edge.a.x *ℤ pos 1) e.a.x) (int_lt e.a.x (f.edge.b.x *ℤ pos 1)) over

        lasts : int_lt e.a.x f.edge.b.x ≡ true
        lasts = let end = lt_from_test e.a.x (f.edge.b.x *ℤ pos 1) parts.1 in
            test_from_lt e.a.x f.edge.b.x (omega (arith, ints))

    -- below the anchor is over its x-coordinate, and under it
    below_is : (f : Edge) → IsWalked f → is_below_anchor e f ≡ covers f e.a.x (pos 1) && is_under f e e.a.x (pos 1)
    below_is f of_f =
        let of_e = anchor_walked hole kept e anchor in
        below_an_anchor_is_under e f of_e.forward of_f.forward (one_or_meet e f of_e of_f) upright

    -- an edge below the anchor is that of a live entry below it
    live_below : (f : Edge) → Contains (all_filled_above filled walks) f → is_below_anchor e f ≡ true →
        (g : Entry ℕ) × Contains live g × (g.edge ≡ f) × (is_below_anchor e g.edge ≡ true)
    live_below f c below =
        let found = Contains-from_map (λ (g : Entry ℕ). g.edge) fs f (are_filled.all f c) in
        let of_g = filled_walked found.0 (All-contains (IsFilledEntry filled walks) fs found.0 are_filled.from
        found.1) in
        let there = ap (is_below_anchor e) found.2 ∙ below in
        let parts = and_parts (covers (found.0).edge e.a.x (pos 1)) (is_under (found.0).edge e e.a.x (pos 1))
        (sym (below_is (found.0).edge of_g) ∙ there) in
        (found.0, covering found.0 found.1 parts.0, found.2, there)

    -- the next walk, with this index, and the anchor
    pub record FindsWalk (value : ℕ) : Type 0 where
      pub next : List Step
      pub at : slice_get walks value ≡ Some next
      pub is_next : IsNextWalk filled walks hole next
      pub anchor_is : is_next.anchor ≡ e

    -- it finds nothing, or the next walk
    abbrev pub Finds : ℕ → Type 0
    Finds value = ((value ≡ length walks) × HasNoneBelow filled walks hole) ⊎ FindsWalk value

    module _ (are_live : AreLive limit e.a.x live) where
      -- a live entry covers the x-coordinate
      over_it : (f : Entry ℕ) → Contains live f → covers f.edge e.a.x (pos 1) ≡ true
      over_it f c = (All-contains (λ h. IsOver limit e.a.x h.edge) live f are_live.over c).over

      -- the greatest live entry below the anchor is the next below
      next_found : (f : Entry ℕ) → IsGreatestBelow e e.a.x live f → FindsWalk f.value
      next_found f great = record {
        next = (own f great.entry).walk;
        at = (own f great.entry).at;
        is_next = record {
          anchor = e;
          anchored = anchor;
          edge = f.edge;
          next_below = record {
            among = Contains-flat_map (filled_above_edges filled) walks (own f great.entry).walk f.edge there
                (own f great.entry).has;
            below = great.below;
            greatest = no_greater;
          };
          kept = there;
          has = (own f great.entry).has;
        };
        anchor_is = refl;
      }
        where
          there : Contains walks (own f great.entry).walk
          there = Contains-at walks f.value (own f great.entry).walk (own f great.entry).at

          not_under : (g : Entry ℕ) → (g ≡ f) ⊎ (is_under g.edge f.edge e.a.x (pos 1) ≡ true) →
              is_under f.edge g.edge e.a.x (pos 1) ≡ false
          not_under g (inl same) = subst (λ (h : Entry ℕ). is_under f.edge h.edge e.a.x (pos 1) ≡ false) (sym same)
              (under_irreflexive f.edge e.a.x (pos 1))
          not_under g (inr under) = under_asymmetric g.edge f.edge e.a.x (pos 1) under

          no_greater : (g : Edge) → Contains (all_filled_above filled walks) g → is_below_anchor e g ≡ true →
              is_lower_at e.a.x f.edge g ≡ false
          no_greater g c below =
              let found = live_below g c below in
              let k = found.0 in
              subst (λ h. is_lower_at e.a.x f.edge h ≡ false) found.2
              (lower_at_is_under f.edge k.edge (one_or_meet f.edge k.edge (filled_walked f (own f great.entry))
              (filled_walked k (own k found.1))) e.a.x
              (over_it f great.entry) (over_it k found.1) ∙ not_under k (great.greatest k found.1 found.3))

      -- the look-up finds nothing, or the next walk
      pub look_up : (none : ℕ) → none ≡ length walks → Finds (value_below none e live)
      look_up none past = by (entry_below e live) refl
        where
          nothing : entry_below e live ≡ None → (f : Edge) → Contains (all_filled_above filled walks) f →
              is_below_anchor e f ≡ false
          nothing is f c = false_from_ne_true (is_below_anchor e f) (λ below.
              let found = live_below f c below in
              no_last (filter (λ h. is_below_anchor e h.edge) live) found.0
              (Contains-filter (λ h. is_below_anchor e h.edge) live found.0 found.1 found.3) is)

          by : (o : Option (Entry ℕ)) → entry_below e live ≡ o → Finds (value_or none o)
          by None is = inl (past, record { anchor = e; anchored = anchor; none = nothing is })
          by (Some f) is = inr (next_found f (look_up_gives_the_greatest ℕ live e e.a.x are_live.order f is))
