-- Completions. An operation is complete where each target has answered since its last crash and no message of it is
-- pending; nothing else may come there, so its completion comes at the first such point.
use Rattle.std.specs.Prelude.{◌≡◌, ◌==◌, if◌then◌else◌, [], ◌∷◌, ℕ, List, None, Option, Some, false}
use Rattle.lego_base.specs.Keys.{is_of, without}
use Rattle.lego_base.specs.declared.ids.OpNo.{OpNo}
use Rattle.lego_base.specs.declared.records.HomeEntry.{HomeEntry}
use Rattle.lego_msg.specs.Maps.{home_key}
use Rattle.lego_msg.specs.Plain.{effect}
use Rattle.lego_msg.specs.ShownEvents.{with_line}
use Rattle.lego_msg.specs.Table.{answers}
use Rattle.lego_msg.specs.Track.{Caches, Track, again, healing_move, is_complete, last_line}
use Rattle.lego_msg.specs.declared.body.Body.{Body}
use Rattle.lego_msg.specs.declared.healing.Healing.{Healing}
use Rattle.lego_msg.specs.declared.healing.Move.{Move}
use Rattle.lego_msg.specs.declared.message.Message.{Message}
use Rattle.lego_msg.specs.declared.operation.Answer.{Answer}
use Rattle.lego_msg.specs.declared.operation.Open.{Open}
use Rattle.lego_msg.specs.declared.operation.Operation.{Operation}
use Rattle.lego_msg.specs.declared.operation.Operation.TheVariants.{Drops, Reads}
use Rattle.lego_msg.specs.declared.place.Place.{Place}
use Rattle.lego_msg.specs.declared.place.Place.TheVariants.{Manager, Memory, Processor, Storage}

-- the number of the operation that is complete, a move of healing first
abbrev pub done_or : List Message → Option Open → Option OpNo → Option OpNo
done_or pending None else_ = else_
done_or pending (Some o) else_ = if is_complete pending o then Some o.number else else_

abbrev pub first_done : Track → Option OpNo
first_done t = done_or t.net (healing_move t.healing) (done_or t.net t.current None)

pub record MayComplete (t : Track) (op : OpNo) : Type 0 where
  pub owed : t.owed ≡ []
  pub goes_on : t.stopped ≡ false
  pub complete : first_done t ≡ Some op

-- the caches once an operation of a place is complete: a read brings its last line in
abbrev pub brought_to : Place → ℕ → ℕ → Option (List ℕ) → Caches → Caches
brought_to (Processor cpu) pid line (Some bytes) caches = with_line cpu.0 pid line (Some bytes) caches
brought_to (Processor cpu) pid line None caches = caches
brought_to (Memory number) pid line bytes caches = caches
brought_to Storage pid line bytes caches = caches
brought_to Manager pid line bytes caches = caches

abbrev pub brought : Open → Operation → Caches → Caches
brought o (Reads pid line owner) caches = brought_to o.by pid.0 line.0 (last_line o.answers) caches
brought o other caches = caches

-- owners end with the drop of their space
abbrev pub owners_after : Operation → List HomeEntry → List HomeEntry
owners_after (Drops pid) owners = without home_key (is_of pid.0) owners
owners_after other owners = owners

abbrev pub finished : Track → Option Open → Track
finished t None = t
finished t (Some o) = record t {
  current = None;
  plain = effect o.operation t.plain;
  caches = brought o o.operation t.caches;
  owners = owners_after o.operation t.owners;
}

abbrev pub sent_again : Track → Option Open → Option Open
sent_again t None = None
sent_again t (Some o) = Some (again t.shape o)

abbrev pub first_answer : List Answer → Option Body
first_answer [] = None
first_answer (a ∷ answers) = Some a.body

-- a move of healing is complete: with the last one the healing ends, and the open operation is sent again
abbrev pub move_finished : Track → Healing → Open → List Move → Track
move_finished t h o [] = record t { healing = None; current = sent_again t t.current }
move_finished t h o (move ∷ moves) = record t { healing = Some (record h { current = None; got = first_answer o.answers }) }

abbrev pub completed_beside : Track → ℕ → Healing → Option Open → Track
completed_beside t number h None = finished t t.current
completed_beside t number h (Some o) = if o.number.0 == number then move_finished t h o h.moves else finished t t.current

abbrev pub completed : Track → ℕ → Option Healing → Track
completed t number None = finished t t.current
completed t number (Some h) = completed_beside t number h h.current
