-- The contours that edges with data show are determined by the edges, as those of points are; and each step has the
-- filled sides and the data of its one edge.
use Rattle.std.proofs.Common.{◌≡◌, ⊎_elim, Bool, true, false, cond, List, [], ◌∷◌, Contains, refl, sym, ap, ap₂}
use Rattle.std.proofs.Common.{◌∙◌, subst}
use Rattle.std.specs.Prelude.{MatchBool}
use Rattle.std.specs.List.{AllZip}
use Rattle.std.proofs.lemmas.Bool.{both_ways}
use Rattle.overlay_geom.specs.Edges.{CountedEdge, ends_of}
use Rattle.overlay_geom.specs.Plane.{Step, edge_eq, is_forward}
use Rattle.overlay_geom.specs.Rules.{fill_bits}
use Rattle.overlay_geom.specs.declared.fill_rule.FillRule.{FillRule}
use Rattle.overlay_geom.proofs.Orders.{edge_eq-itself}
use Rattle.overlay_plane.specs.BoundContours.{contours_bound, shapes_bound}
use Rattle.overlay_plane.specs.Carried.{Carried, edges_in}
use Rattle.overlay_plane.proofs.Entries.{Contains-map}
use Rattle.overlay_plane.proofs.LaterEntries.{Contains-cases, Each, Each-from_all_pairs}
use Rattle.overlay_order.specs.declared.data.CountWithData.{CountWithData}
use Rattle.overlay_extract.proofs.OneOverlay.{ruled_of, bound_alike}
use Rattle.overlay_vector.specs.DataVectors.{DataVector}
use Rattle.overlay_vector.specs.OneVectorShapes.{HasOneReverse}
use Rattle.overlay_vector.specs.OneVectorShapes.{VectorShapesShowOneList, OneListOfVectorShapes}
use Rattle.overlay_vector.specs.SideFills.{turned_fill}
use Rattle.overlay_vector.specs.VectorShapes.{step_along, IsVectorAlong, IsVectorContour, AreVectorContours}

-- ---- one list of walks

walks_alike : {D : Type 0} (reverses : D → D → Type 0) (eq : D → D → Bool) → VectorShapesShowOneList reverses eq
walks_alike reverses eq q xs are first second a b = record {
  shapes = shapes_bound (contours_bound a.contours a.shapes);
  shown = a.shown;
  shown_too = subst (λ ss. AreVectorContours reverses eq q.fill q.preserve_output_collinear xs ss second)
      (sym (bound_alike q (edges_in xs) are false a.contours b.contours a.cut b.cut a.shapes b.shapes a.found b.found))
      b.shown;
}

-- ---- one edge for each step

-- two edges with different ends
abbrev Differ : CountedEdge → CountedEdge → Type 0
Differ e f = edge_eq (ends_of e) (ends_of f) ≡ false

not_different : (e f : CountedEdge) → ends_of e ≡ ends_of f → ¬ (Differ e f)
not_different e f same differ = both_ways (edge_eq (ends_of e) (ends_of f)) differ
    (subst (λ g. edge_eq (ends_of e) g ≡ true) same (edge_eq-itself (ends_of e)))

module _ {C : Type 0} where
  -- what has the same ends is one
  one_carried : (xs : List (Carried C)) → Each Differ (edges_in xs) → (x y : Carried C) → Contains xs x →
      Contains xs y → ends_of x.edge ≡ ends_of y.edge → x ≡ y
  one_carried [] each x y c d same = elim c.1 [ ]
  one_carried (z ∷ zs) each x y c d same = ⊎_elim
      (λ is_x. ⊎_elim (λ is_y. sym is_x ∙ is_y)
      (λ later. absurd (not_different z.edge y.edge (ap (λ (w : Carried C). ends_of w.edge) is_x ∙ same)
      (each.0 y.edge (Contains-map (λ (w : Carried C). w.edge) zs y later))))
      (Contains-cases z zs y d))
      (λ later_x. ⊎_elim
      (λ is_y. absurd (not_different z.edge x.edge (ap (λ (w : Carried C). ends_of w.edge) is_y ∙ sym same)
      (each.0 x.edge (Contains-map (λ (w : Carried C). w.edge) zs x later_x))))
      (λ later_y. one_carried zs each.1 x y later_x later_y same)
      (Contains-cases z zs y d))
      (Contains-cases z zs x c)

module _ {D : Type 0} (reverses : D → D → Type 0) (eq : D → D → Bool) (one_reverse : HasOneReverse reverses)
    (rule : FillRule) (xs : List (Carried (CountWithData D))) (each : Each Differ (edges_in xs)) where
  -- so a step has one edge with data
  one_along : (s : Step) (v w : DataVector D) → IsVectorAlong reverses rule xs s v →
      IsVectorAlong reverses rule xs s w → v ≡ w
  one_along s v w a b = λ i. record {
    a = (same_ends i).from;
    b = (same_ends i).to;
    fill = same_fill i;
    data_of = same_data i;
  }
    where
      same_ends : step_along v ≡ step_along w
      same_ends = a.walks ∙ sym b.walks

      same : a.entry ≡ b.entry
      same = one_carried xs each a.entry b.entry a.among b.among (a.ends ∙ sym b.ends)

      same_fill : v.fill ≡ w.fill
      same_fill = a.fill ∙ ap (λ (x : Carried (CountWithData D)). cond (is_forward s)
          (fill_bits rule (edges_in xs) x.edge) (turned_fill (fill_bits rule (edges_in xs) x.edge))) same
          ∙ sym b.fill

      by : (t : Bool) → MatchBool t (v.data_of ≡ a.entry.carries.edge_data)
          (reverses a.entry.carries.edge_data v.data_of) →
          MatchBool t (w.data_of ≡ b.entry.carries.edge_data) (reverses b.entry.carries.edge_data w.data_of) →
          v.data_of ≡ w.data_of
      by true is is' = is ∙ ap (λ (x : Carried (CountWithData D)). x.carries.edge_data) same ∙ sym is'
      by false back back' = one_reverse a.entry.carries.edge_data v.data_of w.data_of back
          (subst (λ (x : Carried (CountWithData D)). reverses x.carries.edge_data w.data_of) (sym same) back')

      same_data : v.data_of ≡ w.data_of
      same_data = by (is_forward s) a.carries b.carries

  -- and a walk one list of them
  one_list_along : (walk : List Step) (vs ws : List (DataVector D)) → AllZip (IsVectorAlong reverses rule xs) walk vs →
      AllZip (IsVectorAlong reverses rule xs) walk ws → vs ≡ ws
  one_list_along [] [] [] a b = refl
  one_list_along [] [] (w ∷ ws) a b = absurd b
  one_list_along [] (v ∷ vs) ws a b = absurd a
  one_list_along (s ∷ ss) [] ws a b = absurd a
  one_list_along (s ∷ ss) (v ∷ vs) [] a b = absurd b
  one_list_along (s ∷ ss) (v ∷ vs) (w ∷ ws) a b = ap₂ (λ x y. x ∷ y) (one_along s v w a.0 b.0)
      (one_list_along ss vs ws a.1 b.1)

  one_contour : (walk : List Step) (v w : List (DataVector D)) → IsVectorContour reverses eq rule true xs walk v →
      IsVectorContour reverses eq rule true xs walk w → v ≡ w
  one_contour walk v w a b = a.shown ∙ one_list_along walk a.vectors b.vectors a.along b.along ∙ sym b.shown

  one_shape : (walks : List (List Step)) (vs ws : List (List (DataVector D))) →
      AllZip (IsVectorContour reverses eq rule true xs) walks vs →
      AllZip (IsVectorContour reverses eq rule true xs) walks ws → vs ≡ ws
  one_shape [] [] [] a b = refl
  one_shape [] [] (w ∷ ws) a b = absurd b
  one_shape [] (v ∷ vs) ws a b = absurd a
  one_shape (s ∷ ss) [] ws a b = absurd a
  one_shape (s ∷ ss) (v ∷ vs) [] a b = absurd b
  one_shape (s ∷ ss) (v ∷ vs) (w ∷ ws) a b = ap₂ (λ x y. x ∷ y) (one_contour s v w a.0 b.0)
      (one_shape ss vs ws a.1 b.1)

  all_shapes : (shapes : List (List (List Step))) (vs ws : List (List (List (DataVector D)))) →
      AreVectorContours reverses eq rule true xs shapes vs → AreVectorContours reverses eq rule true xs shapes ws →
      vs ≡ ws
  all_shapes [] [] [] a b = refl
  all_shapes [] [] (w ∷ ws) a b = absurd b
  all_shapes [] (v ∷ vs) ws a b = absurd a
  all_shapes (s ∷ ss) [] ws a b = absurd a
  all_shapes (s ∷ ss) (v ∷ vs) [] a b = absurd b
  all_shapes (s ∷ ss) (v ∷ vs) (w ∷ ws) a b = ap₂ (λ x y. x ∷ y) (one_shape s v w a.0 b.0)
      (all_shapes ss vs ws a.1 b.1)

-- ---- the laws

pub vector_shapes_show_one_list : {D : Type 0} (reverses : D → D → Type 0) (eq : D → D → Bool) →
    VectorShapesShowOneList reverses eq
vector_shapes_show_one_list reverses eq = walks_alike reverses eq

pub one_list_of_vector_shapes : {D : Type 0} (reverses : D → D → Type 0) (eq : D → D → Bool) →
    OneListOfVectorShapes reverses eq
one_list_of_vector_shapes reverses eq one_reverse q xs are first second keep a b =
    let show = walks_alike reverses eq q xs are first second a b in
    all_shapes reverses eq one_reverse q.fill xs
    (Each-from_all_pairs Differ (edges_in xs) (ruled_of q (edges_in xs) are).planar.distinct) show.shapes first second
    (subst (λ k. AreVectorContours reverses eq q.fill k xs show.shapes first) keep show.shown)
    (subst (λ k. AreVectorContours reverses eq q.fill k xs show.shapes second) keep show.shown_too)
