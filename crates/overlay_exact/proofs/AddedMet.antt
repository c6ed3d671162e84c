-- Meeting points of two edges added to a list: none, one or two.
use Rattle.std.proofs.Common.{◌≡◌, ◌⊎◌, inl, ℕ, List, [], ◌∷◌, ◌++◌, ⊎_elim, refl, sym, arith}
use Rattle.std.specs.List.{AllPairs}
use Rattle.std.proofs.lemmas.List.{append-nil, append_assoc}
use Rattle.std.proofs.lemmas.List.Elements.{All-nil, All-cons}
use Rattle.std.proofs.lemmas.List.Kept.{AllPairs-cons}
use Rattle.overlay_geom.specs.Plane.{PlanePoint, Edge}
use Rattle.overlay_geom.proofs.Entries.{Contains-head, Contains-later}
use Rattle.overlay_plane.specs.Meetings.{IsMeetingPoint}
use Rattle.overlay_plane.proofs.Entries.{any_of_entry}
use Rattle.overlay_exact.specs.Along.{Met, AreMetAt, AddsMet}
use Rattle.overlay_exact.specs.Parts.{Fraction, IsLess, LiesAt, ShareOneAt, IsPart}
use Rattle.overlay_exact.proofs.MovedParts.{lies_moved}

-- the single point that two edges share is a meeting point
pub met_at_shared : (e f : Edge) (s : Fraction) → IsPart s → ShareOneAt e f s → AreMetAt e f s
met_at_shared e f s part shared = record {
  part = part;
  point = shared.point;
  meets = record { common = shared.common; only_or_end = inl shared.alone };
  place = shared.place;
}

-- and each meeting point lies there
pub meetings_at_shared : (e f : Edge) (s : Fraction) → ShareOneAt e f s → (p : PlanePoint) → IsMeetingPoint e f p →
    LiesAt e s p
meetings_at_shared e f s shared p meeting = lies_moved e s shared.point p (shared.alone p meeting.common) shared.place

module _ (e f : Edge) (other : ℕ) (old : List Met) where
  abbrev Passes : Met → Type 0
  Passes m = (m.other ≡ other) × AreMetAt e f m.part

  abbrev Precedes : Met → Met → Type 0
  Precedes m n = IsLess m.part n.part

  no_pairs : AllPairs Precedes []
  no_pairs = λ i j d less within. absurd (omega arith)

  -- edges without meeting points
  pub adds_none : ((p : PlanePoint) → IsMeetingPoint e f p → ⊥) → AddsMet e f other old old
  adds_none none = record {
    added = [];
    after = sym (append-nil old);
    each = All-nil Passes;
    every = λ p meeting. absurd (none p meeting);
    once = no_pairs;
  }

  -- edges that meet at one part
  pub adds_one : (s : Fraction) → AreMetAt e f s → ((p : PlanePoint) → IsMeetingPoint e f p → LiesAt e s p) →
      AddsMet e f other old (old ++ record { part = s; other = other } ∷ [])
  adds_one s met lies =
      let m : Met = record { part = s; other = other } in
      record {
        added = m ∷ [];
        after = refl;
        each = All-cons Passes m [] (refl, met) (All-nil Passes);
        every = λ p meeting. any_of_entry (λ n. LiesAt e n.part p) (m ∷ []) m (Contains-head m []) (lies p meeting);
        once = AllPairs-cons Precedes m [] (All-nil (Precedes m)) no_pairs;
      }

  -- edges that meet at two
  pub adds_two : (s t : Fraction) → AreMetAt e f s → AreMetAt e f t →
      ((p : PlanePoint) → IsMeetingPoint e f p → LiesAt e s p ⊎ LiesAt e t p) → IsLess s t →
      AddsMet e f other old ((old ++ record { part = s; other = other } ∷ []) ++ record { part = t; other = other } ∷
      [])
  adds_two s t met_s met_t lies less =
      let m : Met = record { part = s; other = other } in
      let n : Met = record { part = t; other = other } in
      record {
        added = m ∷ n ∷ [];
        after = append_assoc old (m ∷ []) (n ∷ []);
        each = All-cons Passes m (n ∷ []) (refl, met_s) (All-cons Passes n [] (refl, met_t) (All-nil Passes));
        every = λ p meeting. ⊎_elim
            (λ at. any_of_entry (λ k. LiesAt e k.part p) (m ∷ n ∷ []) m (Contains-head m (n ∷ [])) at)
            (λ at. any_of_entry (λ k. LiesAt e k.part p) (m ∷ n ∷ []) n
            (Contains-later m (n ∷ []) n (Contains-head n [])) at)
            (lies p meeting);
        once = AllPairs-cons Precedes m (n ∷ []) (All-cons (Precedes m) n [] less (All-nil (Precedes m)))
            (AllPairs-cons Precedes n [] (All-nil (Precedes n)) no_pairs);
      }
