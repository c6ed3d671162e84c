-- The edges determine the shapes of an overlay, the contours in one list, and the links of shapes.
use Rattle.std.proofs.Common.{◌≡◌, ℕ, Bool, true, false, List, map, Option, refl, sym, ap, subst, ◌∙◌}
use Rattle.std.proofs.lemmas.Bool.{both_ways}
use Rattle.std.specs.Prelude.{Contains}
use Rattle.std.specs.List.{AllZip}
use Rattle.std.proofs.lemmas.List.Elements.{All-contains, All-map}
use Rattle.overlay_geom.specs.Plane.{Point, points_of}
use Rattle.overlay_geom.specs.Edges.{CountedEdge, subj_of, clip_of}
use Rattle.overlay_geom.specs.Thinned.{IsKeptOrThinned}
use Rattle.overlay_plane.specs.Alternates.{Alternates}
use Rattle.overlay_plane.specs.BoundContours.{AreShapesFound, contours_bound, shapes_bound, walks_in}
use Rattle.overlay_plane.specs.Islands.{ChildLink, IsLink, AreLinks, link_lt}
use Rattle.overlay_plane.specs.Regions.{IsRuled}
use Rattle.overlay_plane.specs.RoledContours.{Contour, group_contours_from, IsCutBy}
use Rattle.overlay_plane.specs.ShapeWindings.{points_of_shapes, AreKeptOrThinned}
use Rattle.overlay_plane.specs.Thinning.{HasNoSpikes}
use Rattle.overlay_plane.specs.Turn.{Hand}
use Rattle.overlay_plane.proofs.CutWindings.{selected_alternate}
use Rattle.overlay_plane.proofs.EdgeOrder.{distinct_from_ascending}
use Rattle.overlay_plane.proofs.Entries.{all_of_entries}
use Rattle.overlay_plane.proofs.KeptContours.{kept_contours_can_be_bound}
use Rattle.overlay_plane.proofs.LeadOn.{arranged_lead_on}
use Rattle.overlay_plane.proofs.NoSpikes.{kept_without, shapes_without, one_shown, one_shown_in_shapes}
use Rattle.overlay_order.proofs.RuledContents.{none_of_zero}
use Rattle.overlay_extract.specs.Determined.{AreArrangedWithBalance, OneResult, OneListOfContours, OneListOfLinks}
use Rattle.overlay_extract.specs.Results.{Asked, region_asked, filled_asked, selected_of, is_kept}
use Rattle.overlay_extract.specs.Results.{IsResult, IsContoursResult}
use Rattle.overlay_extract.proofs.LinkOrder.{link_lt-order}
use Rattle.overlay_extract.proofs.OneBound.{one_bound}
use Rattle.overlay_extract.proofs.OneCut.{one_cut_by}
use Rattle.overlay_extract.proofs.SameAscending.{same_ascending}

-- an arrangement is a ruled list
pub ruled_of : (q : Asked) (es : List CountedEdge) → AreArrangedWithBalance es →
    IsRuled (region_asked q) subj_of clip_of es
ruled_of q es are =
    let reached = are.arranged.reached in
    let balanced = are.arranged.balanced are.balanced in
    record {
      planar = record {
        forward = arranged_lead_on are.old es are.arranged.rounds reached.merged are.forward;
        settled = reached.settled;
        distinct = distinct_from_ascending es reached.merged.ascending;
      };
      subj_balanced = balanced.subj;
      clip_balanced = balanced.clip;
      none = none_of_zero q.fill q.rule;
    }

module _ (q : Asked) (es : List CountedEdge) (are : AreArrangedWithBalance es) where
  -- its selected steps alternate
  alternate : Alternates (selected_of q es)
  alternate = selected_alternate (region_asked q) subj_of clip_of es (ruled_of q es are) (filled_asked q)

  -- the contours that they are cut into are one list, and so are the shapes to which these are bound
  pub cut_alike : (grouped : Bool) (contours others : List Contour) →
      IsCutBy grouped (filled_asked q) (is_kept q) (selected_of q es) contours →
      IsCutBy grouped (filled_asked q) (is_kept q) (selected_of q es) others → contours ≡ others
  cut_alike = one_cut_by (filled_asked q) (is_kept q) (selected_of q es) alternate

  pub bound_alike : (grouped : Bool) (contours others : List Contour) →
      IsCutBy grouped (filled_asked q) (is_kept q) (selected_of q es) contours →
      IsCutBy grouped (filled_asked q) (is_kept q) (selected_of q es) others → (shapes found : List (Option ℕ)) →
      AreShapesFound (filled_asked q) contours shapes → AreShapesFound (filled_asked q) others found →
      shapes_bound (contours_bound contours shapes) ≡ shapes_bound (contours_bound others found)
  bound_alike grouped contours others cut cut' shapes found are_found are_found' =
      one_bound (filled_asked q) contours
      (kept_contours_can_be_bound (region_asked q) subj_of clip_of es (filled_asked q) grouped (is_kept q) contours
      (record { ruled = ruled_of q es are; cut = cut }))
      shapes found are_found (subst (λ cs. AreShapesFound (filled_asked q) cs found) (sym same) are_found')
      ∙ ap (λ cs. shapes_bound (contours_bound cs found)) same
    where
      same : contours ≡ others
      same = cut_alike grouped contours others cut cut'

  module _ (first second : List (List (List Point))) (a : IsResult q es first) (b : IsResult q es second) where
    -- that of two results
    pub same_bound :
        shapes_bound (contours_bound a.contours a.shapes) ≡ shapes_bound (contours_bound b.contours b.shapes)
    same_bound = bound_alike q.ogc a.contours b.contours a.cut b.cut a.shapes b.shapes a.found b.found

    pub same_result : first ≡ second
    same_result = one_shown_in_shapes q.preserve_output_collinear given first second
        (shapes_without (region_asked q) subj_of clip_of es (filled_asked q) q.ogc (is_kept q) a.contours
        (record { ruled = ruled_of q es are; cut = a.cut }) a.shapes a.found) a.shown
        (subst (λ ss. AreKeptOrThinned q.preserve_output_collinear (points_of_shapes ss) second) (sym same_bound)
        b.shown)
      where
        given : List (List (List Point))
        given = points_of_shapes (shapes_bound (contours_bound a.contours a.shapes))

  module _ (first second : List (List Point)) (a : IsContoursResult q es first) (b : IsContoursResult q es second) where
    -- likewise of contours in one list
    same_list : a.contours ≡ b.contours
    same_list = cut_alike false a.contours b.contours a.cut b.cut

    pub same_contours : first ≡ second
    same_contours = one_shown q.preserve_output_collinear (map points_of (walks_in a.contours)) first second
        (All-map HasNoSpikes points_of (walks_in a.contours)
        (kept_without (region_asked q) subj_of clip_of es (filled_asked q) false (is_kept q) a.contours
        (record { ruled = ruled_of q es are; cut = a.cut }))) a.shown
        (subst (λ cs. AllZip (IsKeptOrThinned q.preserve_output_collinear) (map points_of (walks_in cs)) second)
        (sym same_list) b.shown)

pub one_result : OneResult
one_result = same_result

pub one_list_of_contours : OneListOfContours
one_list_of_contours = same_contours

-- ---- links

-- the order of links is transitive
before_on : (k l m : ChildLink) → link_lt k l ≡ true → link_lt l m ≡ true → link_lt k m ≡ true
before_on k l m kl lm = by (link_lt k m) refl
  where
    by : (t : Bool) → link_lt k m ≡ t → link_lt k m ≡ true
    by true e = e
    by false e = absurd (both_ways (link_lt k l) (link_lt-order.chain k m l e (link_lt-order.one_way l m lm)) kl)

-- exactly the links of contours, in order, are one list
links_once : (filled : Hand) (contours : List Contour) (links others : List ChildLink) →
    AreLinks filled contours links → AreLinks filled contours others → links ≡ others
links_once filled contours links others a b =
    same_ascending (λ k l. link_lt k l ≡ true)
    (λ k itself. both_ways (link_lt k k) (link_lt-order.one_way k k itself) itself)
    before_on links others a.ascending b.ascending
    (all_of_entries (Contains others) links (λ l c. b.every l (All-contains (IsLink filled contours) links l a.are c)))
    (all_of_entries (Contains links) others (λ l c. a.every l (All-contains (IsLink filled contours) others l b.are c)))

pub one_list_of_links : OneListOfLinks
one_list_of_links q es are first second links others a b =
    links_once (filled_asked q)
    (group_contours_from 0 (shapes_bound (contours_bound a.is_result.contours a.is_result.shapes))) links others
    a.are_links (subst (λ ss. AreLinks (filled_asked q) (group_contours_from 0 ss) others)
    (sym (same_bound q es are first second a.is_result b.is_result)) b.are_links)
