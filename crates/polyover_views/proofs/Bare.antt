-- A graph without edges can be asked.
use Rattle.std.proofs.Common.{ℕ, arith}
use Rattle.std.proofs.lemmas.List.Elements.{All-nil}
use Rattle.overlay_order.specs.Content.{IsHeld}
use Rattle.overlay_plane.proofs.KeepingBalance.{joining_keeps_balance}
use Rattle.polyover_views.specs.Held.{CanBeAsked, no_graph}

pub bare_can_be_asked : (limit : ℕ) → CanBeAsked limit no_graph
bare_can_be_asked limit = record {
  known = omega arith;
  arranged = record {
    content = record { held = All-nil (IsHeld limit); light = omega arith };
    ascending = λ i j d before within. absurd (let h = within in omega arith);
    settled = λ x y in_list other different. absurd (let h = in_list.1 in omega arith);
  };
  balanced = joining_keeps_balance.none;
}
