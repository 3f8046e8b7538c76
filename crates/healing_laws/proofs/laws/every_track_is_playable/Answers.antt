use Rattle.healing_laws.proofs.Playing.{every-track-is-playable}
use Rattle.healing_laws.proofs.laws.every_track_is_playable.Goals as goal

pub returns : goal.returns
returns c = every-track-is-playable
