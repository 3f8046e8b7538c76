-- What storage sends: an answer to one place, or nothing.
use Rattle.std.specs.Prelude.{[], ◌∷◌, Bool, List, None, Option, Some, false, true}
use Rattle.lego_msg.specs.declared.body.Body.{Body}
use Rattle.lego_msg.specs.declared.body.Body.TheVariants.{Backup, ImageCopy, ImageDrop, ImageFree, PullImages, ResetImages}
use Rattle.lego_msg.specs.declared.message.Message.{Message}
use Rattle.lego_msg.specs.declared.place.Place.TheVariants as place
use Rattle.storage_monitor.specs.declared.reply.Reply.{Reply}

-- the messages by which a message is answered, with its number
abbrev pub sent : Message → Option Reply → List Message
sent m None = []
sent m (Some reply) = record { from = place.Storage; to = reply.to; op = m.op; body = reply.body } ∷ []

-- the rows of the table that are about images of pages
abbrev pub is_about_images : Body → Bool
is_about_images (Backup patches) = true
is_about_images (ImageDrop pid first pages) = true
is_about_images (ImageCopy parent child regions) = true
is_about_images (ImageFree pid) = true
is_about_images (PullImages pid region) = true
is_about_images (ResetImages pid region pages) = true
is_about_images other = false
