-- A shape without parts can be asked.
use Rattle.std.proofs.Common.{ℕ, [], lit<}
use Rattle.std.proofs.lemmas.List.Elements.{All-nil}
use Rattle.overlay_order.specs.Content.{IsHeld}
use Rattle.overlay_sectors.specs.Blocks.{IsBlockOf}
use Rattle.polyover_located.specs.Held.{CanBeAsked, no_parts}

pub bare_can_be_asked : (limit : ℕ) → CanBeAsked limit no_parts
bare_can_be_asked limit = record {
  known = lit< tt;
  content = record { held = All-nil (IsHeld limit); light = lit< tt };
  blocked = record { blocks_of = All-nil (IsBlockOf []); groups_of = All-nil (IsBlockOf []) };
}
