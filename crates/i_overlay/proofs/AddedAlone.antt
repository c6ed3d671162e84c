-- What the paths of a subject add to nothing, and when that is refused.
use Rattle.std.proofs.Common.{◌≡◌, ◌⊎◌, inl, inr, ℕ, ◌<◌, ◌^◌, Bool, true, false, List, [], ◌∷◌, is_err, map, refl, sym}
use Rattle.std.proofs.Common.{ap, subst, ◌∙◌}
use Rattle.std.proofs.lemmas.Bool.{false≢true}
use Rattle.std.proofs.lemmas.Result.{on_ok_weaker}
use Rattle.std.specs.Prelude.{Result, Ok, Err, OnOk, IfErr}
use Rattle.overlay_geom.specs.Counts.{Counts}
use Rattle.overlay_geom.specs.Plane.{Point, steps_of}
use Rattle.overlay_geom.specs.Edges.{CountedEdge, subject_edge, weight}
use Rattle.overlay_geom.specs.declared.error.OverlayError.{OverlayError}
use Rattle.overlay_geom.specs.declared.error.OverlayError.TheVariants.{Memory, NotSettled, TooManyEdges, Failed}
use Rattle.overlay_geom.specs.declared.solver.Solver.{Solver}
use Rattle.overlay_geom.specs.declared.options.ShapeType.TheVariants.{Subject}
use Rattle.overlay_order.specs.Content.{IsContent, edge_for}
use Rattle.overlay_order.specs.Counts.{boolean_counts}
use Rattle.overlay_order.specs.declared.data.CountWithData.{CountWithData}
use Rattle.overlay_graph.specs.Arranged.{MayRefuseSplitting}
use Rattle.overlay_plane.specs.Carried.{Carried, edges_in}
use Rattle.overlay_builder.specs.GivenPaths.{GivenPath, added_paths, paths_for}
use Rattle.overlay_builder.specs.Held.{Held, AnswersQuery, nothing_held, plain_held}
use Rattle.overlay_builder.specs.Passing.{passing_without_data}
use Rattle.overlay_builder.specs.PathLists.{AddsAsAsked, StopsAtPath, carried_weight, path_as, paths_as}
use Rattle.overlay_builder.specs.PathLists.{HoldsPaths, SomePathWeighsTooMuch, WouldWeighTooMuch}
use Rattle.overlay_builder.specs.PathLists.AddsPaths.{no_path, path_and_others}
use Rattle.overlay_builder.specs.Paths.{AddsPath, IsTakenAs, contour_kind, passed_edge}
use Rattle.overlay_builder.specs.declared.path.PathKind.{PathKind}
use Rattle.overlay_builder.specs.declared.path.StepCounts.{StepCounts}
use Rattle.overlay_builder.proofs.AddedContours.{dataless_pass_once, contour_added, contour_too_heavy, contours_added}
use Rattle.overlay_builder.proofs.Balanced.{same_edges, as_subject}
use Rattle.overlay_builder.proofs.LeftOut.{thinned_whole}
use Rattle.i_overlay.specs.Alone.{AnswersAlone, IsArrangedAlone, MayRefuseAlone}
use Rattle.i_overlay.specs.Simple.{subject_edges}

-- the counts that an edge carries
abbrev pub counts_of : CountWithData (Unit {0}) → Counts
counts_of k = boolean_counts k.count

-- ---- one path

module _ (keep : Bool) (ps : List Point) (es : List CountedEdge)
    (adds : AddsPath (contour_kind keep) (edge_for Subject) ps [] es) where
  -- it is all that is held
  pub held_alone : weight es < 2 ^ 31 → HoldsPaths (added_paths keep (paths_for Subject (ps ∷ []))) es
  held_alone light = record { added = path_and_others adds no_path; light = light }

-- where it may be taken whole, it is
pub whole_content : (keep : Bool) (ps : List Point) (es : List CountedEdge) →
    AddsPath (contour_kind keep) (edge_for Subject) ps [] es → IsTakenAs (contour_kind keep) ps ps →
    es ≡ subject_edges ps
whole_content true ps es adds whole = adds.content
    ∙ ap (λ qs. map (edge_for Subject) (steps_of qs)) adds.is_taken
    ∙ sym (same_edges subject_edge (edge_for Subject) as_subject (steps_of ps))
whole_content false ps es adds whole = adds.content
    ∙ ap (λ qs. map (edge_for Subject) (steps_of qs)) (thinned_whole ps adds.taken adds.is_taken whole)
    ∙ sym (same_edges subject_edge (edge_for Subject) as_subject (steps_of ps))

-- ---- refusals

module _ (keep : Bool) (solver : Solver) (paths : List GivenPath) where
  -- splitting the edges of the paths may be refused
  pub refused_to_split : (content : List CountedEdge) (e : OverlayError) → HoldsPaths (added_paths keep paths) content →
      MayRefuseSplitting solver content e → MayRefuseAlone keep solver paths e
  refused_to_split content Memory holds may = tt
  refused_to_split content NotSettled holds may = record { content = content; holds = holds; refused = may }
  refused_to_split content TooManyEdges holds may = inr (record { content = content; holds = holds; refused = may })
  refused_to_split content Failed holds may = may

  -- of a builder that has not failed
  pub query_refused : {V : Type 0} (limit : ℕ) (old new : Held CountedEdge) (e : OverlayError) →
      HoldsPaths (added_paths keep paths) old.edges → old.failed ≡ false →
      AnswersQuery {V = V} limit solver old new (Err e) →
      MayRefuseAlone keep solver paths e
  query_refused {V} limit old new e holds ready h = by h.err
    where
      by : ((e ≡ Failed) ⊎ MayRefuseSplitting solver old.edges e) → MayRefuseAlone keep solver paths e
      by (inl same) = absurd (false≢true (sym ready ∙ h.failed.0 (ap {B = Result V OverlayError} (λ x. Err x) same)))
      by (inr may) = refused_to_split old.edges e holds may

  -- adding them may be
  pub adding_refused : (es : List CountedEdge) (e : OverlayError) →
      StopsAtPath weight (added_paths keep paths) [] es e → MayRefuseAlone keep solver paths e
  adding_refused es Memory stops = tt
  adding_refused es NotSettled stops = absurd stops.refused
  adding_refused es TooManyEdges stops = inl (es, stops)
  adding_refused es Failed stops = stops.refused

-- one path
pub one_refused : (keep : Bool) (solver : Solver) (ps : List Point) (e : OverlayError) → ¬ (e ≡ Failed) →
    ¬ (e ≡ NotSettled) →
    (e ≡ TooManyEdges → SomePathWeighsTooMuch (added_paths keep (paths_for Subject (ps ∷ [])))) →
    MayRefuseAlone keep solver (paths_for Subject (ps ∷ [])) e
one_refused keep solver ps Memory unfailed settled heavy = tt
one_refused keep solver ps NotSettled unfailed settled heavy = absurd (settled refl)
one_refused keep solver ps TooManyEdges unfailed settled heavy = inl (heavy refl)
one_refused keep solver ps Failed unfailed settled heavy = unfailed refl

-- ---- and where it is remembered whether they were

module _ {V : Type 0} (limit : ℕ) (solver : Solver) (keep : Bool) (paths : List GivenPath)
    (mid new : Held CountedEdge) where
  pub answers_alone : (r : Result V OverlayError) → OnOk r (IsArrangedAlone keep solver paths mid.edges) →
      OnOk r (IsContent limit mid.edges) → IfErr r (MayRefuseAlone keep solver paths) → new.edges ≡ mid.edges →
      new.failed ≡ is_err r → AnswersAlone limit solver keep paths new r
  answers_alone (Ok v) arranged content refused edges failed = record {
    usable = failed;
    arranged = subst (IsArrangedAlone keep solver paths) (sym edges) arranged;
    content = subst (IsContent limit) (sym edges) content;
    fails = tt;
    err = tt;
  }
  answers_alone (Err e) arranged content refused edges failed = record {
    usable = tt;
    arranged = tt;
    content = tt;
    fails = failed;
    err = refused;
  }

-- ---- by the core of a builder that holds nothing

module _ (keep : Bool) (kind : PathKind) (kind_is : kind ≡ contour_kind keep)
    (pass : StepCounts (CountWithData (Unit {0}))) (pass_is : pass ≡ passing_without_data Subject)
    (old : Held (Carried (CountWithData (Unit {0})))) (nothing : old ≡ nothing_held) where
  -- several paths
  module _ {V : Type 0} (paths : List (List Point)) (new : Held (Carried (CountWithData (Unit {0}))))
      (r : Result V OverlayError)
      (adds : AddsAsAsked carried_weight (paths_as kind (passed_edge counts_of pass) paths) old new r) where
    plainly : AddsAsAsked weight (added_paths keep (paths_for Subject paths)) nothing_held (plain_held new) r
    plainly = subst (λ h. AddsAsAsked weight (added_paths keep (paths_for Subject paths)) (plain_held h)
        (plain_held new) r) nothing
        (contours_added keep Subject counts_of kind pass kind_is (dataless_pass_once Subject pass pass_is) paths old
        new r adds)

    -- it has not failed afterwards
    pub still_usable : new.failed ≡ false
    still_usable = plainly.kept

    -- after an answer it holds them
    pub paths_held : OnOk r (HoldsPaths (added_paths keep (paths_for Subject paths)) (edges_in new.edges))
    paths_held = on_ok_weaker r (λ added. record { added = added; light = plainly.light }) plainly.ok

    -- and a refusal is one of them
    pub paths_refused : (solver : Solver) → IfErr r (MayRefuseAlone keep solver (paths_for Subject paths))
    paths_refused solver = by r plainly
      where
        by : (r : Result V OverlayError) →
            AddsAsAsked weight (added_paths keep (paths_for Subject paths)) nothing_held (plain_held new) r →
            IfErr r (MayRefuseAlone keep solver (paths_for Subject paths))
        by (Ok v) h = tt
        by (Err e) h = either h.err
          where
            either : ((e ≡ Failed) ⊎ StopsAtPath weight (added_paths keep (paths_for Subject paths)) []
                (edges_in new.edges) e) → MayRefuseAlone keep solver (paths_for Subject paths) e
            either (inl same) = absurd (false≢true (h.failed.0 (ap {B = Result V OverlayError} (λ x. Err x) same)))
            either (inr stops) = adding_refused keep solver (paths_for Subject paths) (edges_in new.edges) e stops

  -- one path
  module _ (ps : List Point) where
    pub path_added : (new : Held (Carried (CountWithData (Unit {0})))) →
        AddsPath kind (passed_edge counts_of pass) ps old.edges new.edges →
        AddsPath (contour_kind keep) (edge_for Subject) ps [] (edges_in new.edges)
    path_added new adds = subst (λ h. AddsPath (contour_kind keep) (edge_for Subject) ps (edges_in h.edges)
        (edges_in new.edges)) nothing
        (contour_added keep Subject counts_of kind pass kind_is (dataless_pass_once Subject pass pass_is) ps old.edges
        new.edges adds)

    pub path_too_heavy : WouldWeighTooMuch carried_weight (path_as kind (passed_edge counts_of pass) ps) old.edges →
        SomePathWeighsTooMuch (added_paths keep (paths_for Subject (ps ∷ [])))
    path_too_heavy heavy =
        let too_heavy : WouldWeighTooMuch weight (path_as (contour_kind keep) (edge_for Subject) ps) [] =
        subst (λ h. WouldWeighTooMuch weight (path_as (contour_kind keep) (edge_for Subject) ps) (edges_in h.edges))
        nothing
        (contour_too_heavy keep Subject counts_of kind pass kind_is (dataless_pass_once Subject pass pass_is) ps
        old.edges heavy) in (
          [],
          record {
            path = path_as (contour_kind keep) (edge_for Subject) ps;
            added = record { before = []; after = []; parts = refl; added = no_path };
            refused = too_heavy;
          },
        )
