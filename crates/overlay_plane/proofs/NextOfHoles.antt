-- Of the filled-above edges below an anchor there is a greatest, so each hole has a next walk.
use Rattle.std.proofs.Common.{◌≡◌, Bool, true, false, ◌&&◌, ℤ, pos, List, Contains, refl, ◌∙◌, sym}
use Rattle.std.proofs.lemmas.Bool.{both_ways, and_from, and_parts, false_from_ne_true}
use Rattle.overlay_geom.specs.Plane.{Step, Edge}
use Rattle.overlay_geom.specs.Edges.{CountedEdge}
use Rattle.overlay_plane.specs.Heights.{covers, is_under}
use Rattle.overlay_plane.specs.Anchors.{IsAnchor, is_below_anchor, is_lower_at, IsNextBelow}
use Rattle.overlay_plane.specs.Binding.{is_hole, filled_above_edges, all_filled_above, AreCutFrom, IsNextWalk}
use Rattle.overlay_plane.specs.Binding.{HolesHaveNext}
use Rattle.overlay_plane.specs.Turn.{Hand}
use Rattle.overlay_plane.proofs.Anchors.{anchors_exist}
use Rattle.overlay_plane.proofs.BelowHoles.{below_is, below_cut_hole}
use Rattle.overlay_plane.proofs.Entries.{Contains-from_flat_map}
use Rattle.overlay_plane.proofs.LowerEdges.{lower_at_is_under}
use Rattle.overlay_plane.proofs.FilledEdges.{selected_follow}
use Rattle.overlay_plane.proofs.Nearest.{IsNearest, nearest}
use Rattle.overlay_plane.proofs.RuledWalks.{FollowRule, above_listed, one_or_meet}
use Rattle.overlay_plane.proofs.WalksApart.{own_walk, have_selected}
use Rattle.overlay_plane.proofs.Under.{under_irreflexive, under_transitive}

-- both edges cover the x-coordinate, and the second is under the first
abbrev is_over : ℤ → Edge → Edge → Bool
is_over x f g = (covers f x (pos 1) && covers g x (pos 1)) && is_under g f x (pos 1)

-- no edge is over itself
never_over : (x : ℤ) (f : Edge) → is_over x f f ≡ false
never_over x f = false_from_ne_true (is_over x f f)
    (λ over. both_ways (is_under f f x (pos 1)) (under_irreflexive f x (pos 1))
    (and_parts (covers f x (pos 1) && covers f x (pos 1)) (is_under f f x (pos 1)) over).1)

-- the order of edges over an x-coordinate is transitive
over_transitive : (x : ℤ) (f g h : Edge) → is_over x f g ≡ true → is_over x g h ≡ true → is_over x f h ≡ true
over_transitive x f g h fg gh =
    let first = and_parts (covers f x (pos 1) && covers g x (pos 1)) (is_under g f x (pos 1)) fg in
    let second = and_parts (covers g x (pos 1) && covers h x (pos 1)) (is_under h g x (pos 1)) gh in
    let early = and_parts (covers f x (pos 1)) (covers g x (pos 1)) first.0 in
    let late = and_parts (covers g x (pos 1)) (covers h x (pos 1)) second.0 in
    and_from (covers f x (pos 1) && covers h x (pos 1)) (is_under h f x (pos 1))
    (and_from (covers f x (pos 1)) (covers h x (pos 1)) early.0 late.1)
    (under_transitive h g f x (pos 1) (record { lt = tt }) late.1 late.0 early.0 second.1 first.1)

module _ (holds : ℤ → ℤ → Bool) (subj clip : CountedEdge → ℤ) (es : List CountedEdge) (filled : Hand)
    (walks : List (List Step))
    (cut : AreCutFrom holds subj clip es filled walks) (hole : List Step) (at : Contains walks hole) (anchor : Edge)
    (anchored : IsAnchor hole anchor) where
  follow : FollowRule holds subj clip es filled walks
  follow = selected_follow holds subj clip es filled walks (have_selected holds subj clip es filled walks cut)

  -- an edge below the anchor covers its x-coordinate
  below_covers : (g : Edge) → Contains (all_filled_above filled walks) g → is_below_anchor anchor g ≡ true →
      covers g anchor.a.x (pos 1) ≡ true
  below_covers g c below = (and_parts (covers g anchor.a.x (pos 1)) (is_under g anchor anchor.a.x (pos 1))
      (sym (below_is holds subj clip es filled walks follow hole at anchor anchored g
      (above_listed holds subj clip es filled walks follow g c)) ∙ below)).0

  -- where some edge is below, one is the greatest
  next_below : (g : Edge) → Contains (all_filled_above filled walks) g → is_below_anchor anchor g ≡ true →
      (f : Edge) × IsNextBelow (all_filled_above filled walks) anchor f
  next_below g c below = (found.0, record { among = found.1.among; below = found.1.passed; greatest = greatest })
    where
      found : (f : Edge) × IsNearest (is_below_anchor anchor) (is_over anchor.a.x) (all_filled_above filled walks) f
      found = nearest (is_below_anchor anchor) (is_over anchor.a.x) (never_over anchor.a.x) (over_transitive anchor.a.x)
          (all_filled_above filled walks) g c below

      over_found : covers found.0 anchor.a.x (pos 1) ≡ true
      over_found = below_covers found.0 found.1.among found.1.passed

      greatest : (h : Edge) → Contains (all_filled_above filled walks) h → is_below_anchor anchor h ≡ true →
          is_lower_at anchor.a.x found.0 h ≡ false
      greatest h d low = lower_at_is_under found.0 h
          (one_or_meet holds subj clip es filled walks follow found.0 h
          (above_listed holds subj clip es filled walks follow found.0 found.1.among)
          (above_listed holds subj clip es filled walks follow h d)) anchor.a.x over_found (below_covers h d low)
          ∙ false_from_ne_true (is_under found.0 h anchor.a.x (pos 1))
          (λ under. both_ways (is_over anchor.a.x h found.0) (found.1.first h d low)
          (and_from (covers h anchor.a.x (pos 1) && covers found.0 anchor.a.x (pos 1))
          (is_under found.0 h anchor.a.x (pos 1))
          (and_from (covers h anchor.a.x (pos 1)) (covers found.0 anchor.a.x (pos 1)) (below_covers h d low) over_found)
          under))

  -- a hole has a next walk, by each of its anchors
  pub next_of_hole : is_hole filled hole ≡ true → (next : List Step) × (n : IsNextWalk filled walks hole next)
      × (n.anchor ≡ anchor)
  next_of_hole is =
      let some = below_cut_hole holds subj clip es filled walks cut hole at anchor anchored is in
      let greatest = next_below some.0 some.1 some.2 in
      let walk = Contains-from_flat_map (filled_above_edges filled) walks greatest.0 greatest.1.among in (
        walk.0,
        record {
          anchor = anchor;
          anchored = anchored;
          edge = greatest.0;
          next_below = greatest.1;
          kept = walk.1;
          has = walk.2;
        },
        refl,
      )

-- each hole has a next filled-above edge below it
pub holes_have_next : HolesHaveNext
holes_have_next holds subj clip es filled walks cut hole at is =
    let anchor = anchors_exist hole (own_walk holds subj clip es filled walks cut hole at).contour in
    let next = next_of_hole holds subj clip es filled walks cut hole at anchor.0 anchor.1 is in
    (next.0, next.1)
