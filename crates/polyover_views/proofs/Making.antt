-- How making a graph ends.
use Rattle.std.proofs.Common.{◌≡◌, ◌≤◌, ◌<◌, ◌⊎◌, ℕ, Bool, ℤ, List, [], map, inl, inr, refl, sym, ap, ap₂, subst}
use Rattle.overlay_builder.specs.GivenPaths.{subject_and_clip}
use Rattle.overlay_geom.specs.Edges.{CountedEdge}
use Rattle.overlay_geom.specs.Plane.{Point}
use Rattle.overlay_geom.specs.declared.error.OverlayError.{OverlayError}
use Rattle.overlay_geom.specs.declared.solver.Solver.{Solver}
use Rattle.overlay_graph.specs.Graphs.{IsArrangement}
use Rattle.overlay_order.specs.Content.{plain_edges}
use Rattle.overlay_plane.specs.Balance.{HasBalancedCounts}
use Rattle.i_overlay.specs.Alone.{IsArrangedAlone, MayRefuseAlone}
use Rattle.polyover_calls.specs.Asked.{solver_of}
use Rattle.polyover_calls.specs.Given.{Contours, paths_of, paths_given, AreGiven, AreUnread}
use Rattle.polyover_calls.specs.Statuses.{code_of, status_of_fault, status_of_error}
use Rattle.polyover_calls.specs.declared.fault.Fault.{Fault}
use Rattle.polyover_calls.specs.declared.status.Status.{Status}
use Rattle.polyover_calls.specs.declared.status.Status.TheVariants.{Done, Memory}
use Rattle.polyover_calls.proofs.Refusals.{unread, without_memory, unanswered}
use Rattle.polyover_views.specs.Held.{BooleanEdge, HeldArrangement, CanBeAsked, counts_in, keeps_points, plain_graph}
use Rattle.polyover_views.specs.Made.{AreMakingNumbers, IsGraphOf, IsMadeSo, IsMakingRefused, IsUnknownMaking}
use Rattle.polyover_views.specs.Made.{MakingEnds}
use Rattle.polyover_views.proofs.Bare.{bare_can_be_asked}

module _ {I : Type 0} (whole : I → ℤ) (limit fill solver keep_given : ℕ) (subject clip : Contours I) where
  abbrev may : OverlayError → Type 0
  may = MayRefuseAlone (keeps_points keep_given) (solver_of solver) (paths_given whole subject clip)

  -- ---- refusals

  pub contours_unread : (f : Fault) → fill < 4 → solver < 2 → keep_given < 2 → AreUnread whole limit subject clip f →
      IsMakingRefused whole limit fill solver keep_given subject clip (status_of_fault f)
  contours_unread f known_fill known few = unread whole limit (IsUnknownMaking fill solver keep_given)
      (AreMakingNumbers fill solver keep_given) subject clip may tt f (known_fill, (known, few))

  pub memory_refused : (s : Status) → fill < 4 → solver < 2 → keep_given < 2 → AreGiven whole limit subject →
      AreGiven whole limit clip → s ≡ Memory → IsMakingRefused whole limit fill solver keep_given subject clip s
  memory_refused s known_fill known few = without_memory whole limit (IsUnknownMaking fill solver keep_given)
      (AreMakingNumbers fill solver keep_given) subject clip may tt s (known_fill, (known, few))

  pub making_refused : (e : OverlayError) (t : Solver) (b : Bool) (p q : List (List Point)) → fill < 4 → solver < 2 →
      keep_given < 2 → AreGiven whole limit subject → AreGiven whole limit clip → t ≡ solver_of solver →
      b ≡ keeps_points keep_given → p ≡ paths_of whole subject → q ≡ paths_of whole clip →
      MayRefuseAlone b t (subject_and_clip p q) e →
      IsMakingRefused whole limit fill solver keep_given subject clip (status_of_error e)
  making_refused e t b p q known_fill known few s c same_t same_b same_p same_q refused =
      unanswered whole limit (IsUnknownMaking fill solver keep_given) (AreMakingNumbers fill solver keep_given) subject
      clip may (λ failed. failed) e (known_fill, (known, few)) s c
      (subst (λ y. MayRefuseAlone (keeps_points keep_given) y (paths_given whole subject clip) e) same_t
      (subst (λ y. MayRefuseAlone y t (paths_given whole subject clip) e) same_b
      (subst (λ paths. MayRefuseAlone b t paths e) (ap₂ subject_and_clip same_p same_q) refused)))

  -- ---- graphs

  -- edges in memory that stays are those that were there
  pub made_ends : {E : Type 0} (edge : E → BooleanEdge I) (edges held : List E) →
      IsGraphOf whole limit fill solver keep_given subject clip
      (plain_graph whole fill solver keep_given (map edge edges)) → held ≡ edges →
      MakingEnds whole limit fill solver keep_given subject clip
      (plain_graph whole fill solver keep_given (map edge held)) Done
  made_ends edge edges held is same = inl (record {
    answer = plain_graph whole fill solver keep_given (map edge edges);
    right = is;
    put = (refl, ap (λ es. plain_graph whole fill solver keep_given (map edge es)) same);
  })

  pub unmade_ends : {E : Type 0} (edge : E → BooleanEdge I) (held : List E) (s : Status) → held ≡ [] →
      IsMakingRefused whole limit fill solver keep_given subject clip s →
      MakingEnds whole limit fill solver keep_given subject clip (plain_graph whole 0 0 0 (map edge held)) s
  unmade_ends edge held s none refused = inr (ap (λ es. plain_graph whole 0 0 0 (map edge es)) none, refused)

  -- the graph of what is read
  pub graph_made : (t : Solver) (b : Bool) (p q : List (List Point)) (es : List CountedEdge)
      (edges : List (BooleanEdge I)) →
      fill < 4 → solver < 2 → keep_given < 2 → AreGiven whole limit subject → AreGiven whole limit clip →
      t ≡ solver_of solver → b ≡ keeps_points keep_given → p ≡ paths_of whole subject → q ≡ paths_of whole clip →
      IsArrangedAlone b t (subject_and_clip p q) es →
      IsArrangement limit es → HasBalancedCounts es → plain_edges whole counts_in edges ≡ es →
      IsGraphOf whole limit fill solver keep_given subject clip (plain_graph whole fill solver keep_given edges)
  graph_made t b p q es edges known_fill known few s c same_t same_b same_p same_q alone arranged balanced same =
      record {
        known = (known_fill, (known, few));
        subject_given = s;
        clip_given = c;
        filled_by = refl;
        split_by = refl;
        points_kept = refl;
        arranged = let held : List CountedEdge = plain_edges whole counts_in edges in
            subst (λ y. IsArrangedAlone (keeps_points keep_given) y (paths_given whole subject clip) held) same_t
            (subst (λ y. IsArrangedAlone y t (paths_given whole subject clip) held) same_b
            (subst (λ paths. IsArrangedAlone b t paths held) (ap₂ subject_and_clip same_p same_q)
            (subst (IsArrangedAlone b t (subject_and_clip p q)) (sym same) alone)));
        can_be_asked = record {
          known = known_fill;
          arranged = subst (IsArrangement limit) (sym same) arranged;
          balanced = subst HasBalancedCounts (sym same) balanced;
        };
      }

  -- what C is given
  pub handed_out : (g h : HeldArrangement) (s : Status) (code : ℕ) →
      MakingEnds whole limit fill solver keep_given subject clip g s → h ≡ g → code ≡ code_of s →
      IsMadeSo whole limit fill solver keep_given subject clip h code
  handed_out g h s code ends same told = record {
    status = s;
    ends = subst (λ x. MakingEnds whole limit fill solver keep_given subject clip x s) (sym same) ends;
    told = told;
    can_be_asked = subst (CanBeAsked limit) (sym same) (can ends);
  }
    where
      can : MakingEnds whole limit fill solver keep_given subject clip g s → CanBeAsked limit g
      can (inl is) = subst (CanBeAsked limit) (sym is.put.1) is.right.can_be_asked
      can (inr none) = subst (CanBeAsked limit) (sym none.0) (bare_can_be_asked limit)
