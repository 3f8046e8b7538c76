-- The beginning is at rest; rest is a case of the relation of every moment, and that relation with nothing open is rest.
use Rattle.std.proofs.Common.{◌≡◌, ◌⊎◌, ◌+◌, ◌&&◌, [], ◌∷◌, ◌++◌, ◌∙◌, ℕ, Bool, List, None, Option, Some, ap, append-nil, arith, cond, eqb, false, inl, inr, length, refl, slice_get, subst, suc, sym, true, zero}
use Rattle.std.specs.List.{AllByRecursion}
use Rattle.lego_base.specs.declared.shape.Shape.{Shape}
use Rattle.lego_msg.specs.Marks.{Mark}
use Rattle.lego_msg.specs.Next.{fits}
use Rattle.lego_msg.specs.Places.{home_of, memory, secondary_of}
use Rattle.lego_msg.specs.State.{Mem, empty_mem}
use Rattle.lego_msg.specs.Track.{Track, empty_mems, healing_move, memory_count, start}
use Rattle.lego_msg.specs.declared.message.Message.{Message}
use Rattle.lego_msg.specs.declared.operation.Open.{Open}
use Rattle.lego_msg.specs.declared.place.Place.{Place}
use Rattle.lego_rest.specs.Answers.{all_pending, gave_answer, is_storage_true, is_writing, main_due, second_due}
use Rattle.lego_rest.specs.Fits.{BatchFits, BlockFits, MachineFits, MemFits, WaiterFits}
use Rattle.lego_rest.specs.Heals.{HealFits}
use Rattle.lego_rest.specs.Laws.{MiddleIsRest, RestIsMiddle, RestIsOfComponents}
use Rattle.lego_rest.specs.Parts.{Areas, Cell, Held, Home, Page, main_part, new_share, old_share, plain_with, second_part, share, sides_of}
use Rattle.lego_rest.specs.Pending.{MayPend}
use Rattle.lego_rest.specs.Rest.{AtRest, CurrentFits, MemHolds, MemRests, Middle}
use Rattle.lego_msg.specs.declared.place.Place.TheVariants as place

pub none_some : {X : Type 0} (x : X) → None ≡ Some x → ⊥
none_some x e = cc e

same_either : {X : Type 0} (b : Bool) (x : X) → cond b x x ≡ x
same_either true x = refl
same_either false x = refl

no_and : (b : Bool) → (b && false) ≡ false
no_and true = refl
no_and false = refl

never : (b : Bool) → b ≡ false → b ≡ true → ⊥
never true e f = cc e
never false e f = cc f

-- THE BEGINNING

-- each memory of the beginning is empty, and has its number
empty_at : (shape : Shape) (k : ℕ) (frames : List ℕ) (m : ℕ) (s : Mem) → slice_get (empty_mems shape k frames) m ≡ Some s → (id : ℕ) × (room : ℕ) × (id ≡ k + m) × (empty_mem id room shape.log shape.cache_blocks 0 ≡ s) × (slice_get frames m ≡ Some room)
empty_at shape k [] m s e = absurd (none_some s e)
empty_at shape k (room ∷ frames) zero s e = (k, room, omega arith, same e, refl)
  where
    same : {x y : Mem} → Some x ≡ Some y → x ≡ y
    same e = cc e
empty_at shape k (room ∷ frames) (suc m) s e =
    let there = empty_at shape (k + 1) frames m s e in
    (there.0, there.1, omega (arith, there.2), there.3, there.4)

empty_count : (shape : Shape) (k : ℕ) (frames : List ℕ) → length (empty_mems shape k frames) ≡ length frames
empty_count shape k [] = refl
empty_count shape k (room ∷ frames) = ap suc (empty_count shape (k + 1) frames)

empty_fits : (shape : Shape) (m id room : ℕ) → id ≡ m → slice_get shape.frames m ≡ Some room → MemFits shape m (empty_mem id room shape.log shape.cache_blocks 0)
empty_fits shape m id room e at = record {
  id = e;
  log_room = refl;
  cache_room = refl;
  main = record { homes = tt; areas = tt; lists = tt };
  spare = record { homes = tt; areas = tt; lists = tt };
  pages = record { rise = tt; whole = tt };
  frames = omega arith;
  machine = at;
  log = tt;
  room = omega arith;
}

module _ (shape : Shape) (due : List Mark) where
  nothing_shared : (m id room : ℕ) (c : Cell) → main_part (empty_mem id room shape.log shape.cache_blocks 0) c ≡ old_share (sides_of (start shape due)) m c
  nothing_shared m id room (Home pid region) = sym (same_either (eqb (home_of (memory_count shape) pid) m) None)
  nothing_shared m id room (Areas pid region) = refl
  nothing_shared m id room (Page pid vpn) = refl

  nothing_second : (m id room : ℕ) (c : Cell) → second_part [] [] m (empty_mem id room shape.log shape.cache_blocks 0) c ≡ old_share (sides_of (start shape due)) m c
  nothing_second m id room (Home pid region) = sym (same_either (eqb (home_of (memory_count shape) pid) m) None)
  nothing_second m id room (Areas pid region) = refl
  nothing_second m id room (Page pid vpn) = refl

  empty_rests : (m id room : ℕ) → MemRests (start shape due) m (empty_mem id room shape.log shape.cache_blocks 0)
  empty_rests m id room = record {
    part = nothing_shared m id room;
    batch = record {
      none = λ out. refl;
      once = λ out. absurd (omega (arith, out));
      within = omega arith;
      waits = λ some. absurd (omega (arith, some));
    };
    blocks = tt;
    log = tt;
  }

  pub start-rests : MachineFits shape → AtRest (start shape due)
  start-rests fits = record {
    owed = refl;
    closed = refl;
    healed = refl;
    goes_on = refl;
    machine = fits;
    count = empty_count shape 0 shape.frames;
    next = omega arith;
    plain = record {
      rise = tt;
      within = λ pid region o e. absurd (none_some o e);
      areas = λ pid region none. refl;
      pages = λ pid vpn none. refl;
      homes = λ pid region o e. absurd (none_some o e);
      mapped = λ pid vpn e. absurd (never false refl e);
      whole = λ pid vpn bytes e. absurd (none_some bytes e);
      lists = λ pid region. tt;
      numbers = λ file is. cc is;
    };
    forms = λ m s at.
        let there = empty_at shape 0 shape.frames m s at in
        subst (MemFits shape m) there.3 (empty_fits shape m there.0 there.1 (omega (arith, there.2)) there.4);
    memories = λ m s at.
        let there = empty_at shape 0 shape.frames m s at in
        subst (MemRests (start shape due) m) there.3 (empty_rests m there.0 there.1);
    seconds = λ m x below at c.
        let there = empty_at shape 0 shape.frames _ x at in
        subst (λ (x : Mem). second_part [] [] m x c ≡ old_share (sides_of (start shape due)) m c) there.3 (nothing_second m there.0 there.1 c);
    disk = record { files = refl; images = λ pid vpn none. refl; form = record { rise = tt; whole = tt } };
    pending = tt;
    waiting = λ m s at.
        let there = empty_at shape 0 shape.frames m s at in
        subst (λ (s : Mem). AllByRecursion (WaiterFits (memory_count shape) m 1 None None) s.drains) there.3 tt;
  }

-- NOTHING OPEN: nobody has answered, all that is pending is in the net, and the two sides are one

module _ (t : Track) (closed : t.current ≡ None) (healed : t.healing ≡ None) where
  no_answer : (p : Place) → gave_answer p (all_pending t) t.current ≡ false
  no_answer p = ap (gave_answer p (all_pending t)) closed

  none_due : (k : ℕ) (c : Cell) → second_due t k c ≡ false
  none_due k (Home pid region) = no_answer (memory k)
  none_due k (Areas pid region) = no_answer (memory k)
  none_due k (Page pid vpn) =
      ap (λ (o : Option Open). cond (is_writing o) (gave_answer (memory k) (all_pending t) o) (is_storage_true t.net t.healing o && gave_answer place.Storage (all_pending t) o)) closed
      ∙ no_and (is_storage_true t.net t.healing None)

  one_side : (m : ℕ) (c : Cell) → new_share (sides_of t) m c ≡ old_share (sides_of t) m c
  one_side m c = ap (λ (o : Option Open). share (memory_count t.shape) t.owners (plain_with o t.plain) m c) closed

  in_net : t.owed ≡ [] → all_pending t ≡ t.net
  in_net owed = ap (λ (ms : List Message). t.net ++ ms) owed ∙ append-nil t.net

  no_move : healing_move t.healing ≡ None
  no_move = ap healing_move healed

  same_files : (sides_of t).new.files ≡ t.plain.files
  same_files = ap (λ (o : Option Open). (plain_with o t.plain).files) closed

  -- REST IS A CASE

  mem_holds : (m : ℕ) (s : Mem) → t.owed ≡ [] → MemRests t m s → MemHolds t m s
  mem_holds m s owed r =
      let net : t.net ≡ all_pending t = sym (in_net owed) in
      record {
        part = record { either = λ c. inl (r.part c); told = λ c due. absurd (never (main_due t m c) (no_answer (memory m)) due) };
        batch = subst (λ (ms : List Message). BatchFits ms t.disk.images s) net r.batch;
        blocks = subst (λ (ms : List Message). AllByRecursion (BlockFits (memory_count t.shape) m t.disk.files ms) s.blocks) net r.blocks;
        log = r.log;
      }

  pub holds : AtRest t → Middle None t
  holds r =
      let net : t.net ≡ all_pending t = sym (in_net r.owed) in
      record {
        machine = r.machine;
        count = r.count;
        next = r.next;
        plain = r.plain;
        forms = r.forms;
        current = subst (CurrentFits t) (sym closed) tt;
        memories = λ m s up at. mem_holds m s r.owed (r.memories m s at);
        seconds = λ m x below up at. record {
          part = record {
            either = λ c. inl (r.seconds m x below at c);
            told = λ c due. absurd (never (second_due t (secondary_of (memory_count t.shape) m) c) (none_due (secondary_of (memory_count t.shape) m) c) due);
          };
        };
        disk = record {
          files = inl r.disk.files;
          told = λ has. absurd (never (gave_answer place.Storage (all_pending t) t.current) (no_answer place.Storage) has);
          images = r.disk.images;
          form = r.disk.form;
        };
        pending = subst (λ (p : List Message × Option Open × Option Open). AllByRecursion (MayPend None (memory_count t.shape) t.plain p.1 p.2 t.next) p.0) (λ i. (net i, sym closed i, sym no_move i)) r.pending;
        waiting = λ m s at. subst (λ (p : Option Open × Option Open). AllByRecursion (WaiterFits (memory_count t.shape) m t.next p.0 p.1) s.drains) (λ i. (sym closed i, sym no_move i)) (r.waiting m s at);
        healing = subst (HealFits None t) (sym healed) refl;
        idle = λ none quiet. r.owed;
      }

  -- AND BACK

  old_one : (m : ℕ) (c : Cell) (held : Held c) → (held ≡ old_share (sides_of t) m c) ⊎ (held ≡ new_share (sides_of t) m c) → held ≡ old_share (sides_of t) m c
  old_one m c held (inl e) = e
  old_one m c held (inr e) = e ∙ one_side m c

  old_files : (t.disk.files ≡ t.plain.files) ⊎ (t.disk.files ≡ (sides_of t).new.files) → t.disk.files ≡ t.plain.files
  old_files (inl e) = e
  old_files (inr e) = e ∙ same_files

  mem_rests : (m : ℕ) (s : Mem) → t.owed ≡ [] → MemHolds t m s → MemRests t m s
  mem_rests m s owed r = record {
    part = λ c. old_one m c (main_part s c) (r.part.either c);
    batch = subst (λ (ms : List Message). BatchFits ms t.disk.images s) (in_net owed) r.batch;
    blocks = subst (λ (ms : List Message). AllByRecursion (BlockFits (memory_count t.shape) m t.disk.files ms) s.blocks) (in_net owed) r.blocks;
    log = r.log;
  }

  pub rests : t.stopped ≡ false → Middle None t → AtRest t
  rests goes r =
      let owed : t.owed ≡ [] = r.idle closed healed in
      record {
        owed = owed;
        closed = closed;
        healed = healed;
        goes_on = goes;
        machine = r.machine;
        count = r.count;
        next = r.next;
        plain = r.plain;
        forms = r.forms;
        memories = λ m s at. mem_rests m s owed (r.memories m s tt at);
        seconds = λ m x below at c. old_one m c (second_part t.owners t.disk.images m x c) ((r.seconds m x below tt at).part.either c);
        disk = record { files = old_files r.disk.files; images = r.disk.images; form = r.disk.form };
        pending = subst (λ (p : List Message × Option Open × Option Open). AllByRecursion (MayPend None (memory_count t.shape) t.plain p.1 p.2 t.next) p.0) (λ i. (in_net owed i, closed i, no_move i)) r.pending;
        waiting = λ m s at. subst (λ (p : Option Open × Option Open). AllByRecursion (WaiterFits (memory_count t.shape) m t.next p.0 p.1) s.drains) (λ i. (closed i, no_move i)) (r.waiting m s at);
      }

pub rest-is-middle : RestIsMiddle
rest-is-middle t rest = holds t rest.closed rest.healed rest

pub middle-is-rest : MiddleIsRest
middle-is-rest t closed healed goes middle = rests t closed healed goes middle

-- REST IS OF THE COMPONENTS

pub rest-is-of-components : RestIsOfComponents
rest-is-of-components t due caches r = record {
  owed = r.owed;
  closed = r.closed;
  healed = r.healed;
  goes_on = r.goes_on;
  machine = r.machine;
  count = r.count;
  next = r.next;
  plain = r.plain;
  forms = r.forms;
  memories = λ m s at. let rest = r.memories m s at in record { part = rest.part; batch = rest.batch; blocks = rest.blocks; log = rest.log };
  seconds = r.seconds;
  disk = record { files = r.disk.files; images = r.disk.images; form = r.disk.form };
  pending = r.pending;
  waiting = r.waiting;
}
