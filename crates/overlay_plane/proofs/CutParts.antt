-- The contours that are kept of a cut, in groups or without, are some of contours that take each step once.
use Rattle.std.proofs.Common.{◌≡◌, ⊎_elim, Bool, true, false, cond, List, [], ◌∷◌, ◌++◌, All, filter}
use Rattle.std.proofs.Common.{sym, ap, ◌∙◌, subst}
use Rattle.std.specs.List.{flat_map}
use Rattle.std.specs.List.Sorted.{IsPermutation}
use Rattle.std.proofs.lemmas.List.Elements.{All-contains, Contains-append_cases}
use Rattle.overlay_geom.specs.Plane.{Step}
use Rattle.overlay_plane.specs.Turn.{Hand}
use Rattle.overlay_plane.specs.Alternates.{Alternates}
use Rattle.overlay_plane.specs.BesideOrbits.{HasEachOnce}
use Rattle.overlay_plane.specs.Contours.{alternating, outline_or_hole_hand, all_steps, IsContour}
use Rattle.overlay_plane.specs.Binding.{walks_of}
use Rattle.overlay_plane.specs.RoledContours.{Contour, kept_group, IsCut, IsCutInGroups, IsCutBy}
use Rattle.overlay_plane.specs.BoundContours.{walks_in}
use Rattle.overlay_plane.specs.KeptContours.{KeepsAll}
use Rattle.overlay_plane.proofs.ClosedWalks.{cuts_are_contours}
use Rattle.overlay_plane.proofs.CutWalks.{cuts_take_each_once}
use Rattle.overlay_plane.proofs.Entries.{all_of_entries}
use Rattle.overlay_plane.proofs.GroupedCuts.{all_walks_take_each_once, outline_group_contour, other_contour}
use Rattle.overlay_plane.proofs.GroupedWalks.{kept_walks, grouped_walks, all_walks_kept}
use Rattle.overlay_plane.proofs.PartsOfLists.{IsPart, nothing, taken, part-none, part-filter, part-append}
use Rattle.overlay_plane.proofs.RoledShapes.{walks_from}
use Rattle.overlay_plane.proofs.SplitLists.{filter-same, filter-all}

-- the walks are some of contours that take each step once; all of them, where the test keeps each contour
pub record IsPartOfCut (steps : List Step) (keeps : List Step → Bool) (walks : List (List Step)) : Type 0 where
  pub all : List (List Step)
  pub each_once : IsPermutation steps (all_steps all)
  pub contours : All IsContour all
  pub part : IsPart walks all
  pub whole : KeepsAll keeps → walks ≡ all

-- some of the walks of a group are kept, or none
kept_part : (keeps : List Step → Bool) (inside : List (List (List Step))) →
    IsPart (walks_of (flat_map (kept_group keeps) inside)) (walks_of inside)
kept_part keeps [] = nothing
kept_part keeps ([] ∷ gs) = kept_part keeps gs
kept_part keeps ((o ∷ hs) ∷ gs) = by (keeps o) (kept_part keeps gs)
  where
    kept : List (List Step)
    kept = walks_of (flat_map (kept_group keeps) gs)

    by : (t : Bool) → IsPart kept (walks_of gs) →
        IsPart (walks_of (cond t ((o ∷ filter keeps hs) ∷ []) [] ++ flat_map (kept_group keeps) gs))
        ((o ∷ hs) ++ walks_of gs)
    by true rest = taken (part-append (filter keeps hs) hs kept (walks_of gs) (part-filter keeps hs) rest)
    by false rest = part-append [] (o ∷ hs) kept (walks_of gs) (part-none (o ∷ hs)) rest

module _ (steps : List Step) (alternates : Alternates steps) (once : HasEachOnce steps) (filled : Hand)
    (keeps : List Step → Bool) (contours : List Contour) where
  -- without groups
  part_of_cut : IsCut filled keeps steps contours → IsPartOfCut steps keeps (walks_in contours)
  part_of_cut cut = record {
    all = cut.walks;
    each_once = cuts_take_each_once (outline_or_hole_hand filled) steps (alternating alternates) once cut.walks cut.cut;
    contours = are_contours;
    part = subst (λ ws. IsPart ws cut.walks) (sym walks) (part-filter keeps cut.walks);
    whole = λ all. walks ∙ filter-same keeps (λ w. true) cut.walks
        (λ w c. all w (All-contains IsContour cut.walks w are_contours c)) ∙ filter-all cut.walks;
  }
    where
      are_contours : All IsContour cut.walks
      are_contours = cuts_are_contours (outline_or_hole_hand filled) steps alternates cut.walks cut.cut

      walks : walks_in contours ≡ filter keeps cut.walks
      walks = ap (λ cs. walks_in cs) cut.are ∙ walks_from filled 0 (filter keeps cut.walks)

  -- with groups
  part_of_groups : IsCutInGroups filled keeps steps contours → IsPartOfCut steps keeps (walks_in contours)
  part_of_groups cut = record {
    all = walks_of cut.inside ++ cut.others;
    each_once = all_walks_take_each_once steps alternates filled keeps contours cut once;
    contours = all_of_entries IsContour (walks_of cut.inside ++ cut.others) (λ w c. ⊎_elim
        (λ of_group. outline_group_contour steps alternates filled keeps contours cut w of_group)
        (λ other. other_contour steps alternates filled keeps contours cut w other)
        (Contains-append_cases (walks_of cut.inside) cut.others w c));
    part = subst (λ ws. IsPart ws (walks_of cut.inside ++ cut.others)) (sym walks)
        (part-append (walks_of (flat_map (kept_group keeps) cut.inside)) (walks_of cut.inside)
        (filter keeps cut.others) cut.others (kept_part keeps cut.inside) (part-filter keeps cut.others));
    whole = λ all. walks ∙ all_walks_kept keeps cut.inside cut.others
        (λ w c. all w (outline_group_contour steps alternates filled keeps contours cut w c))
        (λ w c. all w (other_contour steps alternates filled keeps contours cut w c));
  }
    where
      walks : walks_in contours ≡ kept_walks keeps cut.inside cut.others
      walks = ap (λ cs. walks_in cs) cut.are ∙ grouped_walks keeps cut.inside cut.others

  -- by the option
  pub part_by : (in_groups : Bool) → IsCutBy in_groups filled keeps steps contours →
      IsPartOfCut steps keeps (walks_in contours)
  part_by true cut = part_of_groups cut
  part_by false cut = part_of_cut cut
