-- Both wind round the region that is asked for.
use Rattle.std.proofs.Common.{Bool, ℤ, sym, ap₂, ◌∙◌}
use Rattle.overlay_geom.specs.Edges.{subj_of, clip_of}
use Rattle.overlay_geom.specs.Rules.{rules_hold}
use Rattle.overlay_plane.specs.ContourWindings.{wanted_winding}
use Rattle.overlay_walk.specs.Steps.{filled_hand}
use Rattle.overlay_extract.proofs.laws.same_region_same_windings.Goals as goal

pub returns : goal.returns
returns c = λ q r es left right alike none_q none_r first second p off.
    second.winds none_r p off
    ∙ sym (ap₂ (λ (holds : ℤ → ℤ → Bool) direction. wanted_winding holds subj_of clip_of (filled_hand direction) es p)
    (ap₂ rules_hold alike.fill alike.rule) alike.direction)
    ∙ sym (first.winds none_q p off)
