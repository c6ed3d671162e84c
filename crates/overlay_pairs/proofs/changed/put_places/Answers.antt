-- One more number is put.
use Rattle.overlay_pairs.proofs.PutPlaces.{none_put}
use Rattle.overlay_pairs.proofs.changed.put_places.Goals as goal

pub loop-n-init : goal.loop-n-init
loop-n-init g c = none_put c.args.places.now c.args.near.now.items
