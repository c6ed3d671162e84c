-- The options of a clip in a list of words, set one by one.
use Rattle.std.proofs.Common.{◌≡◌, ◌↔◌, true, false, [], ◌∷◌, codes, sym, subst, Option, Some, None}
use Rattle.std.proofs.Common.{MatchOption}
use Rattle.polyover_text.specs.declared.clip_options.KeptParts.{KeptParts}
use Rattle.polyover_text.specs.Grammar.{Word, Line, default_clip, SetClipOptions, none, invert, boundary}
use Rattle.polyover_text.specs.ClipOptions.{SetsClipOption, SetsNoClipOption}

-- what the words set is what the words left set from the options so far
pub record HaveSetClip (ws : Line) (so_far : KeptParts) (left : Line) : Type 0 where
  pub same : (o : KeptParts) → SetClipOptions default_clip ws o ↔ SetClipOptions so_far left o

pub one_more_set : (ws : Line) (old new : KeptParts) (left rest : Line) (w : Word) → HaveSetClip ws old left
    → left ≡ w ∷ rest → ((others : Line) → SetsClipOption old (w ∷ others) new others) → HaveSetClip ws new rest
one_more_set ws old new left rest w h next sets = record {
  same = λ o.
      let here = subst (λ l. SetClipOptions default_clip ws o ↔ SetClipOptions old l o) next (h.same o) in
      (λ all. (sets rest o).0 (here.0 all), λ others. here.1 ((sets rest o).1 others));
}

-- where no word is left, the options so far are those that the words set
pub all_set : (ws : Line) (options : KeptParts) (left : Line) → HaveSetClip ws options left → left ≡ [] →
    SetClipOptions default_clip ws options
all_set ws options left h ended = (h.same options).1 (subst (λ l. SetClipOptions options l options) (sym ended) none)

-- words that set no options are of no options
pub none_with_word : (ws : Line) (old : KeptParts) (left rest : Line) (w : Word) → HaveSetClip ws old left
    → left ≡ w ∷ rest → ((others : Line) → SetsNoClipOption old (w ∷ others)) → (o : KeptParts)
    → ¬ (SetClipOptions default_clip ws o)
none_with_word ws old left rest w h next nothing o all =
    nothing rest o (subst (λ l. SetClipOptions old l o) next ((h.same o).0 all))

-- ---- one option

after_invert : (old o : KeptParts) (ws : Line) → SetClipOptions old (codes "invert" ∷ ws) o
    → (old.invert ≡ false) × SetClipOptions (record old { invert = true }) ws o
after_invert old o ws (invert e h) = (e, h)

after_boundary : (old o : KeptParts) (ws : Line) → SetClipOptions old (codes "boundary" ∷ ws) o
    → (old.boundary_included ≡ false) × SetClipOptions (record old { boundary_included = true }) ws o
after_boundary old o ws (boundary e h) = (e, h)

pub inverted : (old : KeptParts) (w : Word) (o : Option KeptParts) → w ≡ codes "invert"
    → MatchOption o (old.invert ≡ true) (λ new. (old.invert ≡ false) × (new ≡ record old { invert = true }))
    → MatchOption o ((ws : Line) → SetsNoClipOption old (w ∷ ws))
    (λ new. (ws : Line) → SetsClipOption old (w ∷ ws) new ws)
inverted old w None named set =
    λ ws. subst (λ v. SetsNoClipOption old (v ∷ ws)) (sym named) (λ o h. let e = (after_invert old o ws h).0 in cc)
inverted old w (Some new) named h =
    λ ws. subst (λ v. SetsClipOption old (v ∷ ws) new ws) (sym named)
    (subst (λ v. SetsClipOption old (codes "invert" ∷ ws) v ws) (sym h.1)
    (λ o. (λ all. (after_invert old o ws all).1, λ others. invert h.0 others)))

pub boundary_kept : (old : KeptParts) (w : Word) (o : Option KeptParts) → w ≡ codes "boundary"
    → MatchOption o (old.boundary_included ≡ true)
    (λ new. (old.boundary_included ≡ false) × (new ≡ record old { boundary_included = true }))
    → MatchOption o ((ws : Line) → SetsNoClipOption old (w ∷ ws))
    (λ new. (ws : Line) → SetsClipOption old (w ∷ ws) new ws)
boundary_kept old w None named set =
    λ ws. subst (λ v. SetsNoClipOption old (v ∷ ws)) (sym named) (λ o h. let e = (after_boundary old o ws h).0 in cc)
boundary_kept old w (Some new) named h =
    λ ws. subst (λ v. SetsClipOption old (v ∷ ws) new ws) (sym named)
    (subst (λ v. SetsClipOption old (codes "boundary" ∷ ws) v ws) (sym h.1)
    (λ o. (λ all. (after_boundary old o ws all).1, λ others. boundary h.0 others)))
