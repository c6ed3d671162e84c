-- The law is proved in proofs/PlainContacts.antt.
use Rattle.overlay_scaled.proofs.PlainContacts.{exact_contacts}
use Rattle.overlay_scaled.proofs.plain.exact_contacts.Goals as goal

pub returns : goal.returns
returns c = exact_contacts
