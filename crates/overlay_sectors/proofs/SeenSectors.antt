-- Fillings found among sectors, sector by sector, and the location that all tell.
use Rattle.std.proofs.Common.{◌≡◌, ◌⊎◌, inl, inr, ⊎_elim, Bool, true, false, cond, not, ◌||◌, ℕ, ◌+◌, ◌<◌, ◌≤◌, ℤ}
use Rattle.std.proofs.Common.{List, Contains, length, refl, sym, ap, ◌∙◌, subst, arith}
use Rattle.std.specs.Prelude.{Option, Some, None}
use Rattle.std.specs.List.{All}
use Rattle.std.proofs.lemmas.Bool.{both_ways}
use Rattle.std.proofs.lemmas.List.Elements.{All-contains}
use Rattle.std.proofs.Math.Nat.{eq-or-lt_of_le}
use Rattle.overlay_geom.specs.Edges.{CountedEdge, ends_of}
use Rattle.overlay_geom.specs.Plane.{PlanePoint, Edge}
use Rattle.overlay_geom.proofs.Signs.{linear}
use Rattle.overlay_order.specs.Content.{IsHeld}
use Rattle.overlay_pairs.specs.Places.{IsAt}
use Rattle.overlay_pairs.proofs.Entries.{one_entry}
use Rattle.overlay_relate.proofs.ByEdge.{leads_right}
use Rattle.overlay_relate.specs.declared.location.PointLocation.TheVariants.{Inside, Boundary, Outside}
use Rattle.overlay_sectors.specs.Laws.{LeadRight, AreSectors, TellLocation}
use Rattle.overlay_sectors.specs.Located.{LiesIn}
use Rattle.overlay_sectors.specs.Sectors.{IsSector, fills_sector, leads_from}
use Rattle.overlay_sectors.specs.Seen.{location_of, has_seen, IsSeenOf, HasSeenLowest, IsSeenUpTo, AddsFilling}
use Rattle.overlay_sectors.specs.declared.flank.Flank.{Flank}
use Rattle.overlay_sectors.specs.declared.flank.Flank.TheVariants.{Left, Right}
use Rattle.overlay_sectors.specs.declared.seen.Seen.{Seen}
use Rattle.overlay_sectors.proofs.SectorsTell.{sectors_tell}

-- ---- one sector more

module _ (t : Bool) (old new : Seen) (adds : AddsFilling t old new) where
  -- it is found
  pub found : has_seen new t ≡ true
  found = by t adds
    where
      by : (u : Bool) → AddsFilling u old new → has_seen new u ≡ true
      by true more = more.filled
      by false more = more.empty

  -- and the others still are
  pub still : (u : Bool) → has_seen old u ≡ true → has_seen new u ≡ true
  still true h = adds.filled ∙ ap (λ b. t || b) h ∙ or_true t
    where
      or_true : (u : Bool) → (u || true) ≡ true
      or_true true = refl
      or_true false = refl
  still false h = adds.empty ∙ ap (λ b. not t || b) h ∙ or_true (not t)
    where
      or_true : (u : Bool) → (u || true) ≡ true
      or_true true = refl
      or_true false = refl

  -- no other is found
  pub only : (u : Bool) → has_seen new u ≡ true → (t ≡ u) ⊎ (has_seen old u ≡ true)
  only true h = by t (sym adds.filled ∙ h)
    where
      by : (u : Bool) → (u || old.filled) ≡ true → (u ≡ true) ⊎ (old.filled ≡ true)
      by true is = inl refl
      by false is = inr is
  only false h = by t (sym adds.empty ∙ h)
    where
      by : (u : Bool) → (not u || old.empty) ≡ true → (u ≡ false) ⊎ (old.empty ≡ true)
      by true is = inr is
      by false is = inl refl

module _ (filled : ℤ → Bool) (es : List CountedEdge) (p : PlanePoint) where
  -- what is found stays right
  pub seen_right : (h : Flank) (sector : Option Edge) → IsSector h es p sector → (old new : Seen) →
      AddsFilling (fills_sector filled h es p sector) old new → IsSeenOf filled es p old → IsSeenOf filled es p new
  seen_right h sector is old new adds right = record {
    some = λ t. ⊎_elim (λ fills. record { flank = h; sector = sector; is = is; fills = fills }) right.some
        (only (fills_sector filled h es p sector) old new adds true t);
    other = λ t. ⊎_elim (λ fills. record { flank = h; sector = sector; is = is; fills = fills }) right.other
        (only (fills_sector filled h es p sector) old new adds false t);
  }

  -- both lowest sectors
  pub seen_lowest : (none left both : Seen) → none ≡ record { filled = false; empty = false } →
      AddsFilling (fills_sector filled Left es p None) none left →
      AddsFilling (fills_sector filled Right es p None) left both → IsSeenUpTo filled es p 0 both
  seen_lowest none left both nothing first second = record {
    right = seen_right Right None tt left both second (seen_right Left None tt none left first (record {
      some = λ t. absurd (both_ways none.filled (ap (λ s. s.filled) nothing) t);
      other = λ t. absurd (both_ways none.empty (ap (λ s. s.empty) nothing) t);
    }));
    lowest = by;
    rays = λ h k e lt. absurd (omega (arith, lt));
  }
    where
      by : HasSeenLowest filled es p both
      by Left = still (fills_sector filled Right es p None) left both second (fills_sector filled Left es p None)
          (found (fills_sector filled Left es p None) none left first)
      by Right = found (fills_sector filled Right es p None) left both second

  -- ---- one edge more

  -- the sector next above the edge in this flank is found, if the edge leads from p
  pub record SeesEdge (h : Flank) (e : CountedEdge) (old new : Seen) : Type 0 where
    pub ray : leads_from h (ends_of e) p ≡ true →
        AddsFilling (fills_sector filled h es p (Some (ends_of e))) old new
    pub other : leads_from h (ends_of e) p ≡ false → new ≡ old

  module _ (h : Flank) (e : CountedEdge) (entry : Contains es e) (old new : Seen) (sees : SeesEdge h e old new) where
    edge_right : IsSeenOf filled es p old → IsSeenOf filled es p new
    edge_right right = by (leads_from h (ends_of e) p) refl
      where
        by : (t : Bool) → leads_from h (ends_of e) p ≡ t → IsSeenOf filled es p new
        by true leads = seen_right h (Some (ends_of e)) (e, entry, refl, leads) old new (sees.ray leads) right
        by false apart = subst (IsSeenOf filled es p) (sym (sees.other apart)) right

    edge_still : (u : Bool) → has_seen old u ≡ true → has_seen new u ≡ true
    edge_still u had = by (leads_from h (ends_of e) p) refl
      where
        by : (t : Bool) → leads_from h (ends_of e) p ≡ t → has_seen new u ≡ true
        by true leads = still (fills_sector filled h es p (Some (ends_of e))) old new (sees.ray leads) u had
        by false apart = subst (λ s. has_seen s u ≡ true) (sym (sees.other apart)) had

    edge_found : leads_from h (ends_of e) p ≡ true →
        has_seen new (fills_sector filled h es p (Some (ends_of e))) ≡ true
    edge_found leads = found (fills_sector filled h es p (Some (ends_of e))) old new (sees.ray leads)

  pub seen_more : (n : ℕ) (e : CountedEdge) → IsAt es n e → (old mid new : Seen) → SeesEdge Left e old mid →
      SeesEdge Right e mid new → IsSeenUpTo filled es p n old → IsSeenUpTo filled es p (n + 1) new
  seen_more n e at old mid new first second so_far = record {
    right = edge_right Right e entry mid new second (edge_right Left e entry old mid first so_far.right);
    lowest = λ h. both (fills_sector filled h es p None) (so_far.lowest h);
    rays = λ h k f lt f_at leads. ⊎_elim
        (λ (same : k ≡ n).
        subst (λ (g : CountedEdge). has_seen new (fills_sector filled h es p (Some (ends_of g))) ≡ true)
        (one_entry es n e f at (subst (λ (m : ℕ). IsAt es m f) same f_at))
        (here h (subst (λ (g : CountedEdge). leads_from h (ends_of g) p ≡ true)
        (sym (one_entry es n e f at (subst (λ (m : ℕ). IsAt es m f) same f_at))) leads)))
        (λ (before : k < n). both (fills_sector filled h es p (Some (ends_of f)))
        (so_far.rays h k f before f_at leads))
        (eq-or-lt_of_le {n = k} {m = n} (omega (arith, lt)));
  }
    where
      entry : Contains es e
      entry = (n, at.0, at.1)

      both : (u : Bool) → has_seen old u ≡ true → has_seen new u ≡ true
      both u had = edge_still Right e entry mid new second u (edge_still Left e entry old mid first u had)

      here : (h : Flank) → leads_from h (ends_of e) p ≡ true →
          has_seen new (fills_sector filled h es p (Some (ends_of e))) ≡ true
      here Left leads = edge_still Right e entry mid new second (fills_sector filled Left es p (Some (ends_of e)))
          (edge_found Left e entry old mid first leads)
      here Right leads = edge_found Right e entry mid new second leads

  -- ---- all

  module _ (s : Seen) (all : IsSeenUpTo filled es p (length es) s) where
    each_found : (h : Flank) (sector : Option Edge) → IsSector h es p sector →
        has_seen s (fills_sector filled h es p sector) ≡ true
    each_found h None is = all.lowest h
    each_found h (Some ray) (f, c, same, leads) =
        subst (λ (r : Edge). has_seen s (fills_sector filled h es p (Some r)) ≡ true) same
        (all.rays h c.0 f c.1 (c.1, c.2) (subst (λ (r : Edge). leads_from h r p ≡ true) (sym same) leads))

    -- where none with the other filling was found, all have this one
    all_filled : s.empty ≡ false → AreSectors filled es p true
    all_filled none h sector is = by (fills_sector filled h es p sector) (each_found h sector is)
      where
        by : (t : Bool) → has_seen s t ≡ true → t ≡ true
        by true had = refl
        by false had = absurd (both_ways s.empty none had)

    all_empty : s.filled ≡ false → AreSectors filled es p false
    all_empty none h sector is = by (fills_sector filled h es p sector) (each_found h sector is)
      where
        by : (t : Bool) → has_seen s t ≡ true → t ≡ false
        by true had = absurd (both_ways s.filled none had)
        by false had = refl

    pub located_by_seen : LeadRight es → LiesIn filled es p (location_of s)
    located_by_seen forward = by s.empty s.filled refl refl
      where
        tells : TellLocation filled es p
        tells = sectors_tell filled es p forward

        by : (e f : Bool) → s.empty ≡ e → s.filled ≡ f →
            LiesIn filled es p (cond e (cond f Boundary Outside) Inside)
        by false f none is = tells.inside (all_filled none)
        by true true some is = tells.boundary (all.right.some is) (all.right.other some)
        by true false some is = tells.outside (all_empty is)

-- a content leads to the right
pub content_leads_right : (limit : ℕ) (es : List CountedEdge) → All (IsHeld limit) es → LeadRight es
content_leads_right limit es held e c =
    let le = leads_right (ends_of e) (All-contains (IsHeld limit) es e held c).forward in
    omega linear

-- both lowest sectors, as they are added one by one
pub seen_lowest_by : (filled : ℤ → Bool) (es : List CountedEdge) (p : PlanePoint) (none left both : Seen) (s t : Bool) →
    none ≡ record { filled = false; empty = false } →
    s ≡ fills_sector filled Left es p None → t ≡ fills_sector filled Right es p None →
    left.filled ≡ (s || none.filled) → left.empty ≡ (not s || none.empty) →
    both.filled ≡ (t || left.filled) → both.empty ≡ (not t || left.empty) → IsSeenUpTo filled es p 0 both
seen_lowest_by filled es p none left both s t nothing is_s is_t one two three four =
    seen_lowest filled es p none left both nothing
    (subst (λ u. AddsFilling u none left) is_s (record { filled = one; empty = two }))
    (subst (λ u. AddsFilling u left both) is_t (record { filled = three; empty = four }))

-- what was found of more edges was found of fewer
pub seen_ended : (filled : ℤ → Bool) (es : List CountedEdge) (p : PlanePoint) (n m : ℕ) (s : Seen) → m ≤ n →
    IsSeenUpTo filled es p n s → IsSeenUpTo filled es p m s
seen_ended filled es p n m s le seen = record {
  right = seen.right;
  lowest = seen.lowest;
  rays = λ h k e lt. seen.rays h k e (omega (arith, lt, le));
}
