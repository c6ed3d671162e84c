-- Two answers to the same arguments are one, and so are the arrays into which they are put.
use Rattle.std.proofs.Common.{◌≡◌, ℕ, ℤ, List, [], ◌∷◌, length, map, refl, sym, ap, ap₂, subst, ◌∙◌, arith}
use Rattle.std.specs.List.{flat_map}
use Rattle.std.specs.Int.{Width}
use Rattle.overlay_extract.specs.Results.{asked}
use Rattle.overlay_geom.specs.Plane.{Point}
use Rattle.overlay_geom.specs.declared.solver.Solver.{Solver}
use Rattle.overlay_geom.specs.declared.solver.Solver.TheVariants.{Snapping}
use Rattle.overlay_geom.proofs.Entries.{same_head, same_tail}
use Rattle.overlay_plane.specs.Islands.{ChildLink}
use Rattle.overlay_order.specs.Vectors.{Vector}
use Rattle.overlay_string.specs.OneShot.{AreClippedOfPaths}
use Rattle.overlay_string.proofs.OneAnswer.{one_clip_of_strings, one_slicing_along_strings}
use Rattle.overlay_tiles.proofs.OneGrid.{one_tiling_of_paths}
use Rattle.i_overlay.specs.Simplified.{IsSimplifiedAlone}
use Rattle.i_overlay.proofs.OneAnswer.{one_list_of_edges, one_simplification}
use Rattle.i_overlay.proofs.OneAnswer.{one_list_of_relations}
use Rattle.polyover_calls.specs.Arrays.{coordinates_of, ends_of}
use Rattle.polyover_calls.specs.Asked.{rule_of, fill_of, solver_of, options_of, keeps_given}
use Rattle.polyover_calls.specs.Clipped.{AreClips, clip_rule_of}
use Rattle.polyover_calls.specs.Given.{Contours, paths_given, paths_of}
use Rattle.polyover_calls.specs.Held.{AreHeld, shape_arrays}
use Rattle.polyover_calls.specs.Kept.{IsResultAsAdded, IsHierarchyAsAdded}
use Rattle.polyover_calls.specs.Lines.{shape_and_lines}
use Rattle.polyover_calls.specs.Hierarchies.{IsLinkedOverlay}
use Rattle.polyover_calls.specs.Linked.{LinkedFlat, AreFlatLinked, ArePutLinked, link_at}
use Rattle.polyover_calls.specs.Listed.{EdgeArrays, AreEdgesIn, AreListed, AreEdgesPut, ends_of_vector}
use Rattle.polyover_calls.specs.OneAnswer.{OneOverlay, OneLinkedOverlay, OneListing, OneSimplificationOfArrays}
use Rattle.polyover_calls.specs.OneAnswer.{OneSlicingOfArrays, OneTilingOfArrays, OneClipOfArrays, OneRelating}
use Rattle.polyover_calls.specs.Overlays.{IsOverlay}
use Rattle.polyover_calls.specs.Related.{bits_of}
use Rattle.polyover_calls.specs.Simplified.{IsSimplification}
use Rattle.polyover_calls.specs.Sliced.{AreSlices}
use Rattle.polyover_calls.specs.Tiled.{AreTilesOfContours}
use Rattle.polyover_calls.specs.Written.{Flat, IsFlat, AreFlattened, ArePut}
use Rattle.polyover_calls.specs.WrittenPaths.{FlatPaths, AreFlatPaths, ArePathsFlattened, ArePathsPut}
use Rattle.polyover_calls.specs.declared.clip_options.ClipOptions.{ClipOptions}
use Rattle.polyover_calls.specs.declared.links.Link.{Link}
use Rattle.polyover_calls.specs.declared.numbers.OptionNumbers.{OptionNumbers}
use Rattle.polyover_calls.proofs.Kept.{one_result_as_added, one_hierarchy_as_added}
use Rattle.polyover_calls.proofs.OnePacking.{one_packing, one_packing_of_shapes}
use Rattle.polyover_calls.proofs.OnePut.{one_put}

-- the solver with the number 0
snapping : (n : ℕ) → n ≡ 0 → solver_of n ≡ Snapping
snapping n none = ap solver_of none

-- links in arrays that are the same links are the same arrays
pub same_links : (ks ls : List Link) → map link_at ks ≡ map link_at ls → ks ≡ ls
same_links [] [] same = refl
same_links [] (l ∷ ls) same = absurd (let e = ap length same in omega arith)
same_links (k ∷ ks) [] same = absurd (let e = ap length same in omega arith)
same_links (k ∷ ks) (l ∷ ls) same =
    let first = same_head (link_at k) (link_at l) (map link_at ks) (map link_at ls) same in
    ap₂ (λ x xs. x ∷ xs) (same_link first)
    (same_links ks ls (same_tail (link_at k) (link_at l) (map link_at ks) (map link_at ls) same))
  where
    same_link : link_at k ≡ link_at l → k ≡ l
    same_link e i = record {
      parent_shape = (e i).parent_shape;
      parent_contour = (e i).parent_contour;
      child_shape = (e i).child_shape;
    }

-- bits that tell one list of relations are one
pub one_relating : {I : Type 0} (whole : I → ℤ) (limit : ℕ) → OneRelating whole limit
one_relating whole limit fill subject clip first second a b =
    a.bits ∙ ap bits_of (one_list_of_relations (fill_of fill) (paths_given whole subject clip)
    (paths_given whole clip subject) a.relations b.relations a.hold b.hold) ∙ sym b.bits

module _ {I : Type 0} (whole : I → ℤ) (limit : ℕ) (one : (x y : I) → whole x ≡ whole y → x ≡ y) where
  -- ---- arrays

  -- the same shapes stand in the same arrays
  pub one_flat : (shapes others : List (List (List Point))) (flat other : Flat I) → shapes ≡ others →
      AreFlattened whole shapes flat → AreFlattened whole others other → flat ≡ other
  one_flat shapes others flat other same a b =
      let packed = one_packing_of_shapes whole one a.points b.points a.contours b.contours a.ranges b.ranges a.packed
      b.packed (a.these ∙ same ∙ sym b.these) in
      arrays (a.coordinates ∙ ap coordinates_of packed.0 ∙ sym b.coordinates)
      (a.contour_ends ∙ ap ends_of packed.1 ∙ sym b.contour_ends)
      (a.shape_ends ∙ ap ends_of packed.2 ∙ sym b.shape_ends)
    where
      arrays : flat.coordinates ≡ other.coordinates → flat.contour_ends ≡ other.contour_ends →
          flat.shape_ends ≡ other.shape_ends → flat ≡ other
      arrays c d e i = record { coordinates = c i; contour_ends = d i; shape_ends = e i }

  -- so do the same paths
  one_flat_of_paths : (paths others : List (List Point)) (flat other : FlatPaths I) → paths ≡ others →
      ArePathsFlattened whole paths flat → ArePathsFlattened whole others other → flat ≡ other
  one_flat_of_paths paths others flat other same a b =
      let packed = one_packing whole one a.points b.points a.ranges b.ranges a.packed b.packed
      (a.these ∙ same ∙ sym b.these) in
      arrays (a.coordinates ∙ ap coordinates_of packed.0 ∙ sym b.coordinates)
      (a.ends ∙ ap ends_of packed.1 ∙ sym b.ends)
    where
      arrays : flat.coordinates ≡ other.coordinates → flat.ends ≡ other.ends → flat ≡ other
      arrays c d i = record { coordinates = c i; ends = d i }

  -- and the same edges
  same_coordinates : (cs ds : List I) → map whole cs ≡ map whole ds → cs ≡ ds
  same_coordinates [] [] same = refl
  same_coordinates [] (d ∷ ds) same = absurd (let e = ap length same in omega arith)
  same_coordinates (c ∷ cs) [] same = absurd (let e = ap length same in omega arith)
  same_coordinates (c ∷ cs) (d ∷ ds) same =
      ap₂ (λ x xs. x ∷ xs) (one c d (same_head (whole c) (whole d) (map whole cs) (map whole ds) same))
      (same_coordinates cs ds (same_tail (whole c) (whole d) (map whole cs) (map whole ds) same))

  pub one_flat_of_edges : (vectors others : List Vector) (flat other : EdgeArrays I) → vectors ≡ others →
      AreListed whole vectors flat → AreListed whole others other → flat ≡ other
  one_flat_of_edges vectors others flat other same a b =
      arrays (same_coordinates flat.coordinates other.coordinates
      (a.coordinates ∙ ap (flat_map ends_of_vector) same ∙ sym b.coordinates))
      (a.fills ∙ ap (map (λ v. v.fill)) same ∙ sym b.fills)
    where
      arrays : flat.coordinates ≡ other.coordinates → flat.fills ≡ other.fills → flat ≡ other
      arrays c d i = record { coordinates = c i; fills = d i }

  -- ---- answers

  pub same_edges : (fill : ℕ) (subject clip : Contours I) (f g : EdgeArrays I) →
      AreEdgesIn whole limit fill 0 subject clip f → AreEdgesIn whole limit fill 0 subject clip g → f ≡ g
  same_edges fill subject clip f g a b = one_flat_of_edges a.vectors b.vectors f g
      (one_list_of_edges (fill_of fill) (paths_given whole subject clip) a.vectors b.vectors a.answer b.answer)
      a.listed b.listed

  pub same_clip : (fill : ℕ) (options : ClipOptions) (shape lines : Contours I) (f g : FlatPaths I) →
      options.solver ≡ 0 → AreFlatPaths (AreClips whole limit fill options shape lines) whole f →
      AreFlatPaths (AreClips whole limit fill options shape lines) whole g → f ≡ g
  same_clip fill options shape lines f g snaps a b =
      let rule = clip_rule_of options in
      let by : (paths : List (List Point)) → AreClippedOfPaths (solver_of options.solver) (fill_of fill) rule
      (shape_and_lines whole shape lines) paths → AreClippedOfPaths Snapping (fill_of fill) rule
      (shape_and_lines whole shape lines) paths = λ paths. subst (λ v. AreClippedOfPaths v (fill_of fill) rule
      (shape_and_lines whole shape lines) paths) (snapping options.solver snaps) in
      one_flat_of_paths a.paths b.paths f g
      (one_clip_of_strings (fill_of fill) rule (paths_of whole shape) (paths_of whole lines) a.paths b.paths
      (by a.paths a.answer.clipped) (by b.paths b.answer.clipped)) a.flattened b.flattened

  -- ---- calls

  pub one_listing : OneListing whole limit
  one_listing fill subject clip old new newer s t a b =
      let same = same_edges fill subject clip a.answer b.answer a.right b.right in
      one_put _ _ _ new newer s t (subst (λ f. AreEdgesPut f old new s) same a.put) b.put

  pub one_clip : OneClipOfArrays whole limit
  one_clip fill options shape lines old new newer s t snaps a b =
      let same = same_clip fill options shape lines a.answer b.answer snaps a.right b.right in
      one_put _ _ _ new newer s t (subst (λ f. ArePathsPut f old new s) same a.put) b.put

  module _ (width : Width) where
    pub same_slices : (fill : ℕ) (subject lines : Contours I) (f g : Flat I) →
        IsFlat (AreSlices whole limit width fill 0 subject lines) whole f →
        IsFlat (AreSlices whole limit width fill 0 subject lines) whole g → f ≡ g
    same_slices fill subject lines f g a b = one_flat a.shapes b.shapes f g
        (one_slicing_along_strings width (fill_of fill) (paths_of whole subject) (paths_of whole lines) a.shapes
        b.shapes a.answer.sliced b.answer.sliced) a.flattened b.flattened

    pub one_slicing : OneSlicingOfArrays whole limit width
    one_slicing fill subject lines old new newer s t a b =
        let same = same_slices fill subject lines a.answer b.answer a.right b.right in
        one_put _ _ _ new newer s t (subst (λ f. ArePut f old new s) same a.put) b.put

    pub same_tiles : (fill : ℕ) (wide high : ℤ) (subject : Contours I) (f g : Flat I) →
        IsFlat (AreTilesOfContours whole limit width fill 0 wide high subject) whole f →
        IsFlat (AreTilesOfContours whole limit width fill 0 wide high subject) whole g → f ≡ g
    same_tiles fill wide high subject f g a b = one_flat a.shapes b.shapes f g
        (one_tiling_of_paths one_slicing_along_strings width (fill_of fill) wide high (paths_of whole subject) a.shapes
        b.shapes a.answer.tiles b.answer.tiles) a.flattened b.flattened

    pub one_tiling : OneTilingOfArrays whole limit width
    one_tiling fill wide high subject old new newer s t a b =
        let same = same_tiles fill wide high subject a.answer b.answer a.right b.right in
        let first = subst (λ f. AreHeld shape_arrays f old new s) same a.put in
        (first.0 ∙ sym b.put.0, first.1 ∙ sym b.put.1)

    module _ {U : Type 0} (natural : U → ℕ) where
      pub same_overlay : (rule fill : ℕ) (options : OptionNumbers U) (subject clip : Contours I) (f g : Flat I) →
          options.solver ≡ 0 →
          IsFlat (IsOverlay whole limit width natural rule fill options subject clip) whole f →
          IsFlat (IsOverlay whole limit width natural rule fill options subject clip) whole g → f ≡ g
      same_overlay rule fill options subject clip f g snaps a b =
          let q = asked width natural (fill_of fill) (rule_of rule) (options_of options) in
          let paths = paths_given whole subject clip in
          let keep = keeps_given options in
          let by : (shapes : List (List (List Point))) →
          IsResultAsAdded keep (solver_of options.solver) q paths shapes →
          IsResultAsAdded keep Snapping q paths shapes = λ shapes. subst (λ v. IsResultAsAdded keep v q paths shapes)
          (snapping options.solver snaps) in
          one_flat a.shapes b.shapes f g (one_result_as_added keep q paths a.shapes b.shapes
          (by a.shapes a.answer.is_result) (by b.shapes b.answer.is_result)) a.flattened b.flattened

      pub same_simplification : (fill : ℕ) (options : OptionNumbers U) (given : Contours I) (f g : Flat I) →
          options.solver ≡ 0 → IsFlat (IsSimplification whole limit width natural fill options given) whole f →
          IsFlat (IsSimplification whole limit width natural fill options given) whole g → f ≡ g
      same_simplification fill options given f g snaps a b =
          let q = asked width natural (fill_of fill) (rule_of 0) (options_of options) in
          let paths = paths_of whole given in
          let keep = keeps_given options in
          let by : (shapes : List (List (List Point))) →
          IsSimplifiedAlone (solver_of options.solver) q keep paths shapes → IsSimplifiedAlone Snapping q keep paths
          shapes = λ shapes. subst
          (λ v. IsSimplifiedAlone v q keep paths shapes) (snapping options.solver snaps) in
          one_flat a.shapes b.shapes f g (one_simplification q keep paths a.shapes b.shapes
          (by a.shapes a.answer.simplified) (by b.shapes b.answer.simplified)) a.flattened b.flattened

      pub same_hierarchy : (rule fill : ℕ) (options : OptionNumbers U) (subject clip : Contours I)
          (f g : LinkedFlat I) → options.solver ≡ 0 →
          AreFlatLinked (IsLinkedOverlay whole limit width natural rule fill options subject clip) whole f →
          AreFlatLinked (IsLinkedOverlay whole limit width natural rule fill options subject clip) whole g → f ≡ g
      same_hierarchy rule fill options subject clip f g snaps a b =
          let q = asked width natural (fill_of fill) (rule_of rule) (options_of options) in
          let paths = paths_given whole subject clip in
          let keep = keeps_given options in
          let by : (shapes : List (List (List Point))) (links : List ChildLink) →
          IsHierarchyAsAdded keep (solver_of options.solver) q paths shapes links →
          IsHierarchyAsAdded keep Snapping q paths shapes links = λ shapes links. subst
          (λ v. IsHierarchyAsAdded keep v q paths shapes links) (snapping options.solver snaps) in
          let both = one_hierarchy_as_added keep q paths a.shapes b.shapes (map link_at f.links) (map link_at g.links)
          (by a.shapes (map link_at f.links) a.answer.is_hierarchy)
          (by b.shapes (map link_at g.links) b.answer.is_hierarchy) in
          let flat = one_flat a.shapes b.shapes f.shapes g.shapes both.0 a.flattened b.flattened in
          let links = same_links f.links g.links both.1 in
          λ i. record { shapes = flat i; links = links i }

      pub one_overlay : OneOverlay whole limit width natural
      one_overlay rule fill options subject clip old new newer s t snaps a b =
          let same = same_overlay rule fill options subject clip a.answer b.answer snaps a.right b.right in
          one_put _ _ _ new newer s t (subst (λ f. ArePut f old new s) same a.put) b.put

      pub one_simplification_of_arrays : OneSimplificationOfArrays whole limit width natural
      one_simplification_of_arrays fill options given old new newer s t snaps a b =
          let same = same_simplification fill options given a.answer b.answer snaps a.right b.right in
          one_put _ _ _ new newer s t (subst (λ f. ArePut f old new s) same a.put) b.put

      pub one_linked_overlay : OneLinkedOverlay whole limit width natural
      one_linked_overlay rule fill options subject clip old new newer s t snaps a b =
          let same = same_hierarchy rule fill options subject clip a.answer b.answer snaps a.right b.right in
          one_put _ _ _ new newer s t (subst (λ f. ArePutLinked f old new s) same a.put) b.put
