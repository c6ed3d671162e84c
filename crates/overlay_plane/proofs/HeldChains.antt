-- The chains of the edges from which an arrangement was reached hold: they keep their ends, stay near, and make its
-- counts and marks.
use Rattle.std.proofs.Common.{◌≡◌, true, false}
use Rattle.std.specs.List.{All}
use Rattle.std.proofs.lemmas.List.Elements.{All-weaker}
use Rattle.overlay_geom.specs.Plane.{point_lt}
use Rattle.overlay_geom.specs.Edges.{ends_of, subj_of, clip_of}
use Rattle.overlay_plane.specs.Arrangements.{ArrangementsHoldChains}
use Rattle.overlay_plane.specs.ChainLinks.{chain_through, IsNear, Leads, marks_along, marks_against}
use Rattle.overlay_plane.proofs.AnyRounds.{any_rounds}
use Rattle.overlay_plane.proofs.ChainCounts.{subj_goes_over, clip_goes_over, chains_make_counts}
use Rattle.overlay_plane.proofs.ChainMarks.{chains_make_marks}
use Rattle.overlay_plane.proofs.ChainWalks.{chain_keeps_ends}
use Rattle.overlay_plane.proofs.EdgeMarks.{marks-along, marks-against}
use Rattle.overlay_plane.proofs.NearChains.{chain_stays_near}

-- the law of the chains of an arrangement
pub arrangements_hold_chains : ArrangementsHoldChains
arrangements_hold_chains solver rounds k old new forward reached moved =
    let cut = any_rounds solver old rounds reached.cut in
    record {
      keep_ends = All-weaker (λ e. point_lt e.a e.b ≡ true) (λ e. Leads e.a (chain_through rounds e) e.b)
          (λ e runs. chain_keeps_ends rounds e) old forward;
      stay_near = All-weaker (λ e. point_lt e.a e.b ≡ true)
          (λ e. All (λ t. IsNear k (ends_of e) t.from × IsNear k (ends_of e) t.to) (chain_through rounds e))
          (chain_stays_near old rounds k cut moved) old forward;
      subj_counts = chains_make_counts subj_of subj_goes_over old rounds new cut reached.merged forward;
      clip_counts = chains_make_counts clip_of clip_goes_over old rounds new cut reached.merged forward;
      along_marks = chains_make_marks old rounds new cut reached.merged forward marks_along true marks-along;
      against_marks = chains_make_marks old rounds new cut reached.merged forward marks_against false marks-against;
    }
