-- Windings by the few edges that lead from a query's point: a sum for each.
use Rattle.std.proofs.Common.{◌≡◌, Bool, cond, ℤ, pos, ◌+ℤ◌, List, [], ◌∷◌, ◌++◌, map, get_or}
use Rattle.std.proofs.Common.{Contains, append_assoc, sym, ap, ◌∙◌, subst}
use Rattle.std.specs.Prelude.{Option, Some, None}
use Rattle.std.specs.List.{All}
use Rattle.std.proofs.lemmas.List.{map-append}
use Rattle.std.proofs.lemmas.List.Elements.{Contains-append_left, Contains-append_right, Contains-get_or}
use lib.IntN.{+ℤ_idr}
use Rattle.overlay_geom.specs.Edges.{CountedEdge, ends_of, subj_of}
use Rattle.overlay_geom.specs.Plane.{Point, Edge, in_plane}
use Rattle.overlay_geom.proofs.Signs.{linear}
use Rattle.overlay_located.specs.Few.{if_some}
use Rattle.overlay_sectors.specs.Sectors.{is_below_near}
use Rattle.overlay_located.specs.Tells.{near_sum}
use Rattle.overlay_sectors.specs.declared.flank.Flank.{Flank}
use Rattle.overlay_located.proofs.TellsMore.{near_append}

-- one edge
pub near_one : (h : Flank) (e : CountedEdge) (v : Point) (low : Edge → Bool) → near_sum h (e ∷ []) v low ≡
    cond (is_below_near h (ends_of e) (in_plane v) (low (ends_of e))) (subj_of e) (pos 0)
near_one h e v low = +ℤ_idr (cond (is_below_near h (ends_of e) (in_plane v) (low (ends_of e))) (subj_of e) (pos 0))

module _ {X : Type 0} (f : X → CountedEdge) (h : Flank) (o : Option X) (v : Point) (low : Edge → Bool) (z : ℤ) where
  -- no edge
  pub sum_of_none : o ≡ None → z ≡ z +ℤ near_sum h (map f (if_some o)) v low
  sum_of_none none = subst (λ (p : Option X). z ≡ z +ℤ near_sum h (map f (if_some p)) v low) (sym none) (sym (+ℤ_idr z))

  -- one edge, where a test tells whether it is below the sector
  pub sum_of_some : (x : X) (b : Bool) (y : ℤ) → o ≡ Some x →
      b ≡ is_below_near h (ends_of (f x)) (in_plane v) (low (ends_of (f x))) →
      y ≡ z +ℤ cond b (subj_of (f x)) (pos 0) → y ≡ z +ℤ near_sum h (map f (if_some o)) v low
  sum_of_some x b y is test told = subst (λ (p : Option X). y ≡ z +ℤ near_sum h (map f (if_some p)) v low) (sym is)
      (told ∙ ap (λ t. z +ℤ cond t (subj_of (f x)) (pos 0)) test ∙ ap (λ w. z +ℤ w) (sym (near_one h (f x) v low)))

-- mapped lists one after the other
pub mapped_parts : {X Y : Type 0} (f : X → Y) (ws us vs ts : List X) →
    map f (((ws ++ us) ++ vs) ++ ts) ≡ map f ws ++ (map f us ++ (map f vs ++ map f ts))
mapped_parts f ws us vs ts =
    ap (map f) (append_assoc (ws ++ us) vs ts ∙ append_assoc ws us (vs ++ ts))
    ∙ map-append f ws (us ++ (vs ++ ts))
    ∙ ap (λ ys. map f ws ++ ys) (map-append f us (vs ++ ts)
    ∙ ap (λ ys. map f us ++ ys) (map-append f vs ts))

-- sums of four lists; each is read once more before the next is added
pub near_parts : (h : Flank) (ws us vs ts es : List CountedEdge) (v : Point) (low : Edge → Bool)
    (z one two three all z_read one_read two_read three_read : ℤ) → es ≡ ws ++ (us ++ (vs ++ ts)) → z_read ≡ z →
    one_read ≡ one → two_read ≡ two → three_read ≡ three → one ≡ z_read +ℤ near_sum h ws v low →
    two ≡ one_read +ℤ near_sum h us v low → three ≡ two_read +ℤ near_sum h vs v low →
    all ≡ three_read +ℤ near_sum h ts v low → all ≡ z +ℤ near_sum h es v low
near_parts h ws us vs ts es v low z one two three all z_read one_read two_read three_read same z_is one_is two_is
    three_is is_one is_two is_three is_all =
    let a = near_append h ws (us ++ (vs ++ ts)) v low in
    let b = near_append h us (vs ++ ts) v low in
    let c = near_append h vs ts v low in
    let d = ap (λ (fs : List CountedEdge). near_sum h fs v low) same in
    omega linear

-- elements of the parts are elements of the whole
module _ {X : Type 0} (ws us vs ts es : List X) (is : es ≡ ws ++ (us ++ (vs ++ ts))) where
  in_whole : (xs : List X) → ((x : X) → Contains xs x → Contains (ws ++ (us ++ (vs ++ ts))) x) → All (Contains es) xs
  in_whole xs way i d lt = subst (λ (ys : List X). Contains ys (get_or xs i d)) (sym is)
      (way (get_or xs i d) (Contains-get_or xs i d lt))

  pub in_first : All (Contains es) ws
  in_first = in_whole ws (λ x at. Contains-append_left ws (us ++ (vs ++ ts)) x at)

  pub in_second : All (Contains es) us
  in_second = in_whole us (λ x at. Contains-append_right ws (us ++ (vs ++ ts)) x
      (Contains-append_left us (vs ++ ts) x at))

  pub in_third : All (Contains es) vs
  in_third = in_whole vs (λ x at. Contains-append_right ws (us ++ (vs ++ ts)) x
      (Contains-append_right us (vs ++ ts) x (Contains-append_left vs ts x at)))

  pub in_fourth : All (Contains es) ts
  in_fourth = in_whole ts (λ x at. Contains-append_right ws (us ++ (vs ++ ts)) x
      (Contains-append_right us (vs ++ ts) x (Contains-append_right vs ts x at)))
