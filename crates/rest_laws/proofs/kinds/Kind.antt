-- The rows of a kind: what each message of the open operation makes of the memory or the storage that gets it.
use Rattle.std.proofs.Common.{◌≡◌, ◌∙◌, ℕ, Option, Some, ap, false, subst, sym, true}
use Rattle.std.specs.List.{AllByRecursion}
use Rattle.lego_msg.specs.Deliveries.{MayDeliver}
use Rattle.lego_msg.specs.Operations.{asks_of, messages_of}
use Rattle.lego_msg.specs.Places.{is_issuer, memory}
use Rattle.lego_msg.specs.State.{Mem}
use Rattle.lego_msg.specs.Table.{handled, stored}
use Rattle.lego_msg.specs.Track.{Track, healing_move, memory_count}
use Rattle.lego_msg.specs.declared.body.Body.{Body}
use Rattle.lego_msg.specs.declared.message.Message.{Message}
use Rattle.lego_msg.specs.declared.operation.Open.{Open}
use Rattle.lego_msg.specs.declared.place.Place.{Place}
use Rattle.lego_rest.specs.Pending.{Among, AnAnswer, First, HandedOn, HandsOn, IsAway, IsNot, OfOpen, Reaction, Reacts}
use Rattle.lego_rest.specs.Rest.{Middle}
use Rattle.rest_laws.proofs.Delivered.{RowGives}
use Rattle.rest_laws.proofs.Filed.{FileGives}
use Rattle.rest_laws.proofs.Meeting.{Met, memory_same, met_open}
use Rattle.rest_laws.proofs.Opened.{all_among}
use Rattle.lego_msg.specs.declared.place.Place.TheVariants as place

-- storage meets a message of the open operation
pub record Reaches (lost : Option ℕ) (t : Track) (o : Open) (m : Message) : Type 0 where
  pub may : MayDeliver (record t { current = Some o }) m
  pub to : m.to ≡ place.Storage
  pub middle : Middle lost (record t { current = Some o })
  pub number : m.op.0 ≡ o.number.0
  pub away : IsAway lost m
  pub not_move : IsNot (healing_move t.healing) m.op.0

abbrev pub MemoryGives : Option ℕ → Track → Open → ℕ → Mem → Message → Type 0
MemoryGives lost t o k s m = Met lost t o k s m → RowGives lost t o k s (handled s m).0 (handled s m).1

abbrev pub StorageGives : Option ℕ → Track → Open → Message → Type 0
StorageGives lost t o m = Reaches lost t o m → FileGives lost t o (stored t.disk m).0 (stored t.disk m).1

pub record KindRows (lost : Option ℕ) (t : Track) (o : Open) : Type 0 where
  pub at_memory : (k : ℕ) (s : Mem) (m : Message) → OfOpen (memory_count t.shape) t.plain m o → MemoryGives lost t o k s m
  pub at_storage : (m : Message) → OfOpen (memory_count t.shape) t.plain m o → StorageGives lost t o m

-- FIRST MESSAGES, one by one
abbrev pub FirstGives : Option ℕ → Track → Open → Message → Type 0
FirstGives lost t o r = ((k : ℕ) (s : Mem) → MemoryGives lost t o k s r) × StorageGives lost t o r

pub storage_apart : (k : ℕ) → memory k ≡ place.Storage → ⊥
storage_apart k e = cc e

-- one to a memory, and one to storage
pub here : (lost : Option ℕ) (t : Track) (o : Open) (r : Message) (h : ℕ) → r.to ≡ memory h → ((s : Mem) → MemoryGives lost t o h s r) → FirstGives lost t o r
here lost t o r h to gives = (memories, λ reaches. absurd (storage_apart h (sym to ∙ reaches.to)))
  where
    memories : (k : ℕ) (s : Mem) → MemoryGives lost t o k s r
    memories k s met = subst (λ (j : ℕ). MemoryGives lost t o j s r) (memory_same h k (sym to ∙ met.to)) (gives s) met

pub there : (lost : Option ℕ) (t : Track) (o : Open) (r : Message) → r.to ≡ place.Storage → StorageGives lost t o r → FirstGives lost t o r
there lost t o r to gives = (λ k s met. absurd (storage_apart k (sym met.to ∙ to)), gives)

-- an answer goes to an issuer
pub no_answer_here : (lost : Option ℕ) (t : Track) (o : Open) (k : ℕ) (s : Mem) (m : Message) → Met lost t o k s m → m.to ≡ o.by → ⊥
no_answer_here lost t o k s m met to = let both : false ≡ true = ap is_issuer (sym met.to ∙ to) ∙ (met_open lost t o k s m met).by in cc both

pub no_answer_there : (lost : Option ℕ) (t : Track) (o : Open) (m : Message) → Reaches lost t o m → m.to ≡ o.by → ⊥
no_answer_there lost t o m reaches to = let both : false ≡ true = ap is_issuer (sym reaches.to ∙ to) ∙ reaches.middle.current.0.by in cc both

-- THE ROWS of a kind of which nothing is handed on, and whose issuer never reacts
pub rows_of : (lost : Option ℕ) (t : Track) (o : Open) → ((to : Place) (what : Body) → Reacts (memory_count t.shape) o.operation to what → ⊥) → ((m : Message) → HandsOn (memory_count t.shape) t.plain o.by o.operation m → ⊥) →
    AllByRecursion (FirstGives lost t o) (messages_of o.by o.number (asks_of (memory_count t.shape) o.operation)) → KindRows lost t o
rows_of lost t o unreacting unhanded gives = record { at_memory = memories; at_storage = storage }
  where
    each : (m : Message) → Among m (messages_of o.by o.number (asks_of (memory_count t.shape) o.operation)) → FirstGives lost t o m
    each m among = all_among (FirstGives lost t o) (messages_of o.by o.number (asks_of (memory_count t.shape) o.operation)) m among gives

    memories : (k : ℕ) (s : Mem) (m : Message) → OfOpen (memory_count t.shape) t.plain m o → MemoryGives lost t o k s m
    memories k s m (First among) = (each m among).0 k s
    memories k s m (Reaction from how) = absurd (unreacting m.to m.body how)
    memories k s m (HandedOn how) = absurd (unhanded m how)
    memories k s m (AnAnswer to target says) = λ met. absurd (no_answer_here lost t o k s m met to)

    storage : (m : Message) → OfOpen (memory_count t.shape) t.plain m o → StorageGives lost t o m
    storage m (First among) = (each m among).1
    storage m (Reaction from how) = absurd (unreacting m.to m.body how)
    storage m (HandedOn how) = absurd (unhanded m how)
    storage m (AnAnswer to target says) = λ reaches. absurd (no_answer_there lost t o m reaches to)
