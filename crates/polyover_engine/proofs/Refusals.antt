-- A refusal of what an input asks for.
use Rattle.std.proofs.Common.{◌≡◌, ◌⊎◌, ℕ, List, Option, Some, None, IfSome, inl, inr, sym, subst, ◌∙◌}
use Rattle.overlay_geom.specs.declared.error.OverlayError.{OverlayError}
use Rattle.overlay_geom.specs.declared.error.OverlayError.TheVariants.{Failed}
use Rattle.polyover_text.specs.declared.query.Query.{Query}
use Rattle.polyover_text.specs.Grammar.{GivenFigures, Asks, AsksAt, input_lines}
use Rattle.polyover_text.specs.declared.query.Query.TheVariants.{Edges, Overlay, Hierarchy, Relate, ClipLines}
use Rattle.polyover_text.specs.declared.query.Query.TheVariants.{Slice, Tiles, Contains, Locate}
use Rattle.polyover_engine.specs.Answers.{MayRefuseQuery, AsksAboutPoints, AsksForMisfit}
use Rattle.polyover_engine.specs.Engine.{IsRefused, IsBadInput}
use Rattle.polyover_engine.specs.Subjects.{IsFirstUnresolved}

pub never_failed : (fs : GivenFigures) (query : Query) → MayRefuseQuery fs query Failed → ⊥
never_failed fs (Edges fill) h = h
never_failed fs (Overlay query) h = h
never_failed fs (Hierarchy query) h = h
never_failed fs (Relate fill) h = h
never_failed fs (ClipLines query) h = h
never_failed fs (Slice fill) h = h
never_failed fs (Tiles query) (inl h) = cc
never_failed fs (Tiles query) (inr (fits, h)) = h
never_failed fs Contains h = cc
never_failed fs Locate h = cc

-- what the query may be refused for, said of what was read, where the reader tells that
pub refused_read : (given : Option (List ℕ)) (bytes text : List ℕ) (fs : GivenFigures) (query : Query)
    (e : OverlayError)
    → IfSome given (λ b. bytes ≡ b) → text ≡ bytes → Asks (input_lines text) fs query → MayRefuseQuery fs query e
    → IfSome given (λ b. IsRefused b e)
refused_read None bytes text fs query e read same asks refused = tt
refused_read (Some b) bytes text fs query e read same asks refused = record {
  figures = fs;
  query = query;
  asks = subst (λ l. Asks (input_lines l) fs query) (same ∙ read) asks;
  refused = refused;
}

-- a contour that has to be resolved, and is not, or a grid that does not fit
pub bad_besides_read : (given : Option (List ℕ)) (bytes text : List ℕ) (fs : GivenFigures) (line : ℕ) (query : Query)
    (n : ℕ) → IfSome given (λ b. bytes ≡ b) → text ≡ bytes → AsksAt (input_lines text) fs line query
    → (AsksAboutPoints query × IsFirstUnresolved fs.contours n) ⊎ (AsksForMisfit fs query × (n ≡ line))
    → IfSome given (λ b. IsBadInput b n)
bad_besides_read None bytes text fs line query n read same asks h = tt
bad_besides_read (Some b) bytes text fs line query n read same asks (inl h) = inr (inl (record {
  figures = fs;
  query = query;
  asks = subst (λ l. Asks (input_lines l) fs query) (same ∙ read) asks.asks;
  asks_about_points = h.0;
  unresolved = h.1;
}))
bad_besides_read (Some b) bytes text fs line query n read same asks (inr h) = inr (inr (record {
  figures = fs;
  query = query;
  asks = subst (λ k. AsksAt (input_lines b) fs k query) (sym h.1)
      (subst (λ l. AsksAt (input_lines l) fs line query) (same ∙ read) asks);
  misfit = h.0;
}))
