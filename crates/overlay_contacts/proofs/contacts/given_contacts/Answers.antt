-- The law is proved in proofs/GivenContacts.antt.
use Rattle.overlay_contacts.proofs.GivenContacts.{given_contacts}
use Rattle.overlay_contacts.proofs.contacts.given_contacts.Goals as goal

pub returns : goal.returns
returns c = given_contacts
