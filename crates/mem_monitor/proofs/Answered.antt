-- A row that ends in an answer.
use Rattle.std.proofs.Common.{◌≡◌, ◌++◌, [], ◌∷◌, ◌∙◌, Err, List, Ok, Result, ap, cond, false, ltb, sym, true, length}
use Rattle.std.specs.Prelude.{OnOk}
use Rattle.std.proofs.lemmas.Bool.{le-leb, lt-leb, ltb-false, ltb-true}
use Rattle.lego_msg.specs.Places.{memory}
use Rattle.lego_msg.specs.State.{Mem}
use Rattle.lego_msg.specs.Table.{answers, reply, within_frames}
use Rattle.lego_msg.specs.declared.body.Body.{Body}
use Rattle.lego_msg.specs.declared.body.Body.TheVariants.{Refused}
use Rattle.lego_msg.specs.declared.message.Message.{Message}
use Rattle.lego_msg.specs.declared.place.Why.TheVariants.{Full}
use Rattle.mem_monitor.specs.Rows.{Row}

pub row_of : {T E : Type 0} (r : Result T E) (old new changed : Mem) (sent sent' : List Message) (m : Message) (body : Body) (row : Mem × List Message) → new ≡ changed → row ≡ answers changed m body → OnOk r (sent' ≡ sent ++ reply (memory new.id) m body ∷ []) → OnOk r (Row old new sent sent' row)
row_of (Ok value) old new changed sent sent' m body row is says said = (
  is ∙ sym (ap (λ (p : Mem × List Message). p.0) says),
  said ∙ ((λ i. sent ++ reply (memory (is i).id) m body ∷ []) ∙ sym (ap (λ (p : Mem × List Message). sent ++ p.1) says)),
)
row_of (Err error) old new changed sent sent' m body row is says said = tt

pub within_ok : (s changed : Mem) (m : Message) (body : Body) → false ≡ ltb s.frames (length changed.pages) → within_frames s changed m body ≡ answers changed m body
within_ok s changed m body few = λ i. cond (le-leb (length changed.pages) s.frames (ltb-false s.frames (length changed.pages) (sym few)) i) (answers changed m body) (answers s m (Refused Full))

pub within_full : (s changed : Mem) (m : Message) (body : Body) → true ≡ ltb s.frames (length changed.pages) → within_frames s changed m body ≡ answers s m (Refused Full)
within_full s changed m body many = λ i. cond (lt-leb (length changed.pages) s.frames (ltb-true s.frames (length changed.pages) (sym many)) i) (answers changed m body) (answers s m (Refused Full))
