-- The ends of the borders of two shapes share a point exactly where the shapes have a shared end.
use Rattle.std.proofs.Common.{◌≡◌, inl, inr, ⊎_elim, Bool, true, false, cond, List, [], ◌∷◌, map, Contains, refl, sym}
use Rattle.std.proofs.Common.{ap, ◌∙◌, subst}
use Rattle.std.specs.List.{flat_map}
use Rattle.std.proofs.lemmas.Bool.{false≢true}
use Rattle.overlay_geom.specs.Plane.{Point}
use Rattle.overlay_geom.specs.Edges.{CountedEdge, subj_of, clip_of}
use Rattle.overlay_geom.specs.Rules.{is_filled, fill_bits}
use Rattle.overlay_geom.specs.declared.fill_rule.FillRule.{FillRule}
use Rattle.overlay_plane.specs.EdgePredicates.{EndsAt, HasSharedEnd, is_border_of}
use Rattle.overlay_plane.proofs.Entries.{Contains-map, Contains-from_map, Contains-flat_map, Contains-from_flat_map}
use Rattle.overlay_plane.proofs.LaterEntries.{Contains-cases}
use Rattle.overlay_plane.proofs.Totals.{Contains-head, Contains-later}
use Rattle.overlay_order.specs.Vectors.{Vector, vector_of}
use Rattle.overlay_relate.specs.EdgeTests.{BorderEnd, is_subject_border, is_clip_border, two_ends, border_ends}
use Rattle.overlay_relate.specs.EdgeTests.{ShareAnEnd}
use Rattle.overlay_relate.proofs.BitsTell.{subject_border, clip_border, not_both}

module _ (rule : FillRule) (es : List CountedEdge) where
  abbrev vectors : List Vector
  vectors = map (vector_of rule es) es

  -- an end of an edge's two
  of_two : (e : CountedEdge) (t : Bool) (m : BorderEnd) → Contains (two_ends e.a e.b t) m →
      EndsAt m.point e × (m.of_subj ≡ t)
  of_two e t m c = ⊎_elim
      (λ is. (inl (ap (λ (n : BorderEnd). n.point) is), sym (ap (λ (n : BorderEnd). n.of_subj) is)))
      (λ later. ⊎_elim (λ is. (inr (ap (λ (n : BorderEnd). n.point) is), sym (ap (λ (n : BorderEnd). n.of_subj) is)))
      (λ none. elim none.1 [ ]) (Contains-cases (record { point = e.b; of_subj = t }) [] m later))
      (Contains-cases (record { point = e.a; of_subj = t }) (record { point = e.b; of_subj = t } ∷ []) m c)

  two_of : (e : CountedEdge) (t : Bool) (v : Point) → EndsAt v e →
      Contains (two_ends e.a e.b t) (record { point = v; of_subj = t })
  two_of e t v (inl a) = subst (λ (u : Point). Contains (two_ends e.a e.b t) (record { point = u; of_subj = t })) a
      (Contains-head (record { point = e.a; of_subj = t }) (record { point = e.b; of_subj = t } ∷ []))
  two_of e t v (inr b) = subst (λ (u : Point). Contains (two_ends e.a e.b t) (record { point = u; of_subj = t })) b
      (Contains-later (record { point = e.a; of_subj = t }) (record { point = e.b; of_subj = t } ∷ [])
      (record { point = e.b; of_subj = t })
      (Contains-head (record { point = e.b; of_subj = t }) []))

  -- an edge of which a shape alone fills one side alone, and which ends at the point
  abbrev IsOf : Bool → Point → CountedEdge → Type 0
  IsOf t v e = EndsAt v e × (cond t (is_border_of (is_filled rule) es subj_of clip_of e)
      (is_border_of (is_filled rule) es clip_of subj_of e) ≡ true)

  -- an end of a border is one of such an edge
  of_border : (e : CountedEdge) (m : BorderEnd) → Contains (border_ends (vector_of rule es e)) m →
      IsOf m.of_subj m.point e
  of_border e m c = by (is_subject_border (fill_bits rule es e)) (is_clip_border (fill_bits rule es e)) refl refl c
    where
      is : (t : Bool) → m.of_subj ≡ t → cond t (is_border_of (is_filled rule) es subj_of clip_of e)
          (is_border_of (is_filled rule) es clip_of subj_of e) ≡ true →
          cond m.of_subj (is_border_of (is_filled rule) es subj_of clip_of e)
          (is_border_of (is_filled rule) es clip_of subj_of e) ≡ true
      is t same border = subst (λ (u : Bool). cond u (is_border_of (is_filled rule) es subj_of clip_of e)
          (is_border_of (is_filled rule) es clip_of subj_of e) ≡ true) (sym same) border

      by : (s k : Bool) → is_subject_border (fill_bits rule es e) ≡ s → is_clip_border (fill_bits rule es e) ≡ k →
          Contains (cond s (two_ends e.a e.b true) (cond k (two_ends e.a e.b false) [])) m → IsOf m.of_subj m.point e
      by true k is_s is_k at = let two = of_two e true m at in
          (two.0, is true two.1 (sym (subject_border rule es e) ∙ is_s))
      by false true is_s is_k at = let two = of_two e false m at in
          (two.0, is false two.1 (sym (clip_border rule es e) ∙ is_k))
      by false false is_s is_k at = elim at.1 [ ]

  -- and each such edge gives its ends
  border_of : (e : CountedEdge) (t : Bool) (v : Point) → IsOf t v e → Contains (border_ends (vector_of rule es e))
      (record { point = v; of_subj = t })
  border_of e true v (at, border) = subst
      (λ (s : Bool). Contains (cond s (two_ends e.a e.b true)
      (cond (is_clip_border (fill_bits rule es e)) (two_ends e.a e.b false) [])) (record { point = v; of_subj = true }))
      (sym (subject_border rule es e ∙ border)) (two_of e true v at)
  border_of e false v (at, border) = by (is_subject_border (fill_bits rule es e)) refl
    where
      clip : is_clip_border (fill_bits rule es e) ≡ true
      clip = clip_border rule es e ∙ border

      by : (s : Bool) → is_subject_border (fill_bits rule es e) ≡ s →
          Contains (cond s (two_ends e.a e.b true)
          (cond (is_clip_border (fill_bits rule es e)) (two_ends e.a e.b false) []))
          (record { point = v; of_subj = false })
      by true is = absurd (false≢true (sym (not_both rule es e is) ∙ clip))
      by false is = subst (λ (k : Bool). Contains (cond k (two_ends e.a e.b false) [])
          (record { point = v; of_subj = false })) (sym clip) (two_of e false v at)

  -- an end among those of all edges
  found : (m : BorderEnd) → Contains (flat_map border_ends vectors) m →
      (e : CountedEdge) × Contains es e × IsOf m.of_subj m.point e
  found m c =
      let at = Contains-from_flat_map border_ends vectors m c in
      let from = Contains-from_map (vector_of rule es) es at.0 at.1 in
      (from.0, from.1, of_border from.0 m (subst (λ (v : Vector). Contains (border_ends v) m) (sym from.2) at.2))

  pub shared_from_share : (ms : List BorderEnd) →
      ((m : BorderEnd) → Contains ms m → Contains (flat_map border_ends vectors) m) → ShareAnEnd ms →
      HasSharedEnd (is_filled rule) es
  shared_from_share ms inside share =
      let subj = found share.subj (inside share.subj share.subj_among) in
      let clip = found share.clip (inside share.clip share.clip_among) in
      let is_subj = subst (λ (t : Bool). IsOf t share.subj.point subj.0) share.is_subj subj.2 in
      let is_clip = subst (λ (t : Bool). IsOf t share.clip.point clip.0) share.is_clip clip.2 in
      record {
        end = share.subj.point;
        of_subj = subj.0;
        of_clip = clip.0;
        subj_entry = subj.1;
        clip_entry = clip.1;
        subj_at = is_subj.0;
        clip_at = subst (λ (v : Point). EndsAt v clip.0) (sym share.same) is_clip.0;
        subj_border = is_subj.1;
        clip_border = is_clip.1;
      }

  pub share_from_shared : (ms : List BorderEnd) →
      ((m : BorderEnd) → Contains (flat_map border_ends vectors) m → Contains ms m) → HasSharedEnd (is_filled rule) es →
      ShareAnEnd ms
  share_from_shared ms inside shared = record {
    subj = record { point = shared.end; of_subj = true };
    clip = record { point = shared.end; of_subj = false };
    subj_among = inside (record { point = shared.end; of_subj = true })
        (among true shared.of_subj shared.subj_entry (shared.subj_at, shared.subj_border));
    clip_among = inside (record { point = shared.end; of_subj = false })
        (among false shared.of_clip shared.clip_entry (shared.clip_at, shared.clip_border));
    same = refl;
    is_subj = refl;
    is_clip = refl;
  }
    where
      among : (t : Bool) (e : CountedEdge) → Contains es e → IsOf t shared.end e →
          Contains (flat_map border_ends vectors) (record { point = shared.end; of_subj = t })
      among t e c is = Contains-flat_map border_ends vectors (vector_of rule es e)
          (record { point = shared.end; of_subj = t }) (Contains-map (vector_of rule es) es e c)
          (border_of e t shared.end is)
