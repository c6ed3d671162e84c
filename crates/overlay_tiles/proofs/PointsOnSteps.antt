-- What holds of the points of a list holds of the steps through them, and the other way round.
use Rattle.std.proofs.Common.{◌≡◌, suc, take, drop, Bool, true, false, cond, List, [], ◌∷◌, ◌++◌, Contains, refl, sym}
use Rattle.std.proofs.Common.{◌∙◌, subst}
use Rattle.std.specs.List.{All}
use Rattle.std.proofs.lemmas.Bool.{false≢true}
use Rattle.std.proofs.lemmas.List.Elements.{All-nil, All-cons, All-head, All-tail, All-append, All-take, All-drop}
use Rattle.overlay_geom.specs.Plane.{Point, Step, Edge, point_eq, point_lt, is_forward, edge_of, steps_through}
use Rattle.overlay_geom.specs.Plane.{steps_of, path_steps}
use Rattle.overlay_geom.specs.Thinned.{IsThinned, thin, drop_one}
use Rattle.overlay_geom.proofs.Orders.{point_eq-same, point_eq-of_same}
use Rattle.overlay_plane.proofs.EdgesOfSteps.{edge_by}
use Rattle.overlay_plane.proofs.Entries.{All-first}
use Rattle.overlay_plane.proofs.LinksKept.{IsBetweenGood, good_through}
use Rattle.overlay_plane.proofs.LongSteps.{long_leads_forward}

module _ (P : Point → Type 0) where
  -- of a thinned list
  pub thinned_all : (ps qs : List Point) → IsThinned ps qs → All P ps → All P qs
  thinned_all ps _ (thin none) all = all
  thinned_all ps qs (drop_one k inside straight rest) all = thinned_all _ qs rest
      (All-append P (take k ps) (drop (suc k) ps) (All-take P k ps all) (All-drop P (suc k) ps all))

  -- of the steps of an open path and of a closed one
  pub on_path : (ps : List Point) → All P ps → All (IsBetweenGood P) (path_steps ps)
  on_path [] all = All-nil (IsBetweenGood P)
  on_path (p ∷ ps) all = good_through P p ps (All-head P p ps all) (All-tail P p ps all)

  pub on_contour : (ps : List Point) → All P ps → All (IsBetweenGood P) (steps_of ps)
  on_contour [] all = All-nil (IsBetweenGood P)
  on_contour (p ∷ ps) all = good_through P p (ps ++ p ∷ []) (All-head P p ps all)
      (All-append P ps (p ∷ []) (All-tail P p ps all) (All-cons P p [] (All-head P p ps all) (All-nil P)))

  -- of the edge of such a step, which leads forward
  pub record IsGoodEdge (e : Edge) : Type 0 where
    pub start : P e.a
    pub end : P e.b
    pub forward : point_lt e.a e.b ≡ true

  pub good_edge : (s : Step) → IsBetweenGood P s → IsGoodEdge (edge_of s)
  good_edge s good = record {
    start = by_start (is_forward s);
    end = by_end (is_forward s);
    forward = long_leads_forward s (λ same. false≢true (sym good.long ∙ point_eq-of_same s.from s.to same));
  }
    where
      by_start : (t : Bool) → P (edge_by t s).a
      by_start true = good.from
      by_start false = good.to

      by_end : (t : Bool) → P (edge_by t s).b
      by_end true = good.to
      by_end false = good.from

  -- ---- back from steps to points

  abbrev BothEnds : Step → Type 0
  BothEnds s = P s.from × P s.to

  module _ (u v : Point) (ss : List Step) where
    abbrev through : Bool → List Step
    through t = cond t [] (record { from = u; to = v } ∷ []) ++ ss

    -- from the point that the first step leaves to the next one, and to what follows
    next_point : (t : Bool) → point_eq u v ≡ t → P u → All BothEnds (through t) → P v × All BothEnds ss
    next_point true same at all = (subst P (point_eq-same u v same) at, all)
    next_point false other at all = (
      (All-head BothEnds (record { from = u; to = v }) ss all).1,
      All-tail BothEnds (record { from = u; to = v }) ss all,
    )

    -- and back to it
    first_point : (t : Bool) → point_eq u v ≡ t → (s : Step) → Contains (through t) s → All BothEnds (through t) →
        ((s : Step) → Contains ss s → All BothEnds ss → P v) → P u
    first_point true same s c all go = subst P (sym (point_eq-same u v same)) (go s c all)
    first_point false other s c all go = (All-head BothEnds (record { from = u; to = v }) ss all).0

  go_through : (u : Point) (vs : List Point) → P u → All BothEnds (steps_through u vs) → All P vs
  go_through u [] at all = All-nil P
  go_through u (v ∷ vs) at all =
      let next = next_point u v (steps_through v vs) (point_eq u v) refl at all in
      All-cons P v vs next.0 (go_through v vs next.0 next.1)

  -- where there is a step, the first one leaves the first point
  begins_there : (u : Point) (vs : List Point) (s : Step) → Contains (steps_through u vs) s →
      All BothEnds (steps_through u vs) → P u
  begins_there u [] s c all = absurd (elim c.1 [ ])
  begins_there u (v ∷ vs) s c all = first_point u v (steps_through v vs) (point_eq u v) refl s c all (begins_there v vs)

  -- what holds of both ends of the steps of a contour, of which there is one, holds of its points
  pub of_points : (ps : List Point) (s : Step) → Contains (steps_of ps) s → All BothEnds (steps_of ps) → All P ps
  of_points [] s c all = All-nil P
  of_points (p ∷ ps) s c all =
      let here = begins_there p (ps ++ p ∷ []) s c all in
      All-cons P p ps here (All-first P ps (p ∷ []) (go_through p (ps ++ p ∷ []) here all))
