-- A call hands on how the operation under it ended.
use Rattle.std.proofs.Common.{◌≡◌, ◌∙◌, ◌*◌, ◌%◌, [], ℕ, Bool, Err, List, None, Ok, Option, Result, Some, ap, cond, drop, false, subst, sym, take, true}
use Rattle.lego_base.specs.declared.ids.FileNo.{FileNo}
use Rattle.lego_base.specs.declared.ids.MemId.{MemId}
use Rattle.lego_base.specs.declared.records.Area.{Area}
use Rattle.lego_base.specs.declared.records.NameEntry.{NameEntry}
use Rattle.lego_base.specs.declared.stops.Halt.{Halt}
use Rattle.lego_base.specs.declared.perms.Perms.{Perms}
use Rattle.lego_msg.specs.Files.{Files, is_file_room}
use Rattle.lego_msg.specs.Plain.{Plain}
use Rattle.lego_msg.specs.Replies.{IsReply, made_reply}
use Rattle.lego_msg.specs.Table.{line_answer}
use Rattle.lego_msg.specs.Went.{Went}
use Rattle.lego_msg.specs.declared.body.Body.{Body}
use Rattle.lego_msg.specs.declared.body.Body.TheVariants.{AreasAre, Done, FileBytes, NameIs, Names, OwnerIs, Refused, SizeIs}
use Rattle.lego_msg.specs.declared.event.Event.{Event}
use Rattle.lego_msg.specs.declared.operation.Operation.{Operation}
use Rattle.lego_msg.specs.declared.place.Place.{Place}
use Rattle.protocol_engine.specs.Beyond.{Beyond}
use Rattle.cluster.specs.Answers.{IsLine, IsMade}
use Rattle.cluster.specs.Calls.{Calls, Serves, asked_at, served}
use Rattle.cluster.specs.Whole.{Whole, track_at}
use Rattle.lego_msg.specs.declared.place.Why.TheVariants as why

abbrev pub as_it_is : Body → Body
as_it_is body = body

abbrev pub error_of : {X : Type 0} → Halt → Result X Halt → Halt
error_of else_ (Err h) = h
error_of else_ (Ok x) = else_

module _ {W : Type 0} (told : W → Option (List Event)) (faults : W → ℕ) (w w' : W) (c d : Whole) (by : Place) (operation : Operation) where
  pub call_halts : {X : Type 0} (body : X → Body) (h : Halt) → Calls told faults w w' c d by operation as_it_is (Err h) → Calls told faults w w' c d by operation body (Err h)
  call_halts body h calls = record {
    serves = tt;
    turns = tt;
    halted = calls.halted;
    kept = λ k is. (ap (λ (r : Result Body Halt). Err (error_of h r)) (calls.kept k is).0, (calls.kept k is).1, (calls.kept k is).2);
    keeps = calls.keeps;
    goes = tt;
  }

  pub call_ends : {X : Type 0} (body : X → Body) (x : X) (told_ : Body) → told_ ≡ body x → Calls told faults w w' c d by operation as_it_is (Ok told_) → Calls told faults w w' c d by operation body (Ok x)
  call_ends body x told_ is calls = record {
    serves = subst (Serves told faults w w' c d by operation) is calls.serves;
    turns = calls.turns;
    halted = tt;
    kept = λ k at. absurd (no_error told_ k (calls.kept k at).0);
    keeps = tt;
    goes = calls.goes;
  }
    where
      no_error : (b : Body) (k : Halt) → Ok b ≡ Err k → ⊥
      no_error b k e = cc e

  -- an answer that says nothing
  pub call_done : {X : Type 0} (x : X) (told_ : Body) → ((g : Beyond) → served by operation told_ g ≡ served by operation Done g) → ((f : Plain) → IsReply f operation Done) → Calls told faults w w' c d by operation as_it_is (Ok told_) → Calls told faults w w' c d by operation (λ (done : X). Done) (Ok x)
  call_done x told_ same says calls = record {
    serves = record {
      went = λ g late may. subst (λ (b : Beyond). Went told faults w w' (asked_at c by operation g late) (track_at d b)) (same g) (calls.serves.went g late may);
      stands = calls.serves.stands;
      reply = λ f at. says f;
      logs = calls.serves.logs;
      shape = calls.serves.shape;
      owners = calls.serves.owners;
    };
    turns = calls.turns;
    halted = tt;
    kept = λ k at. absurd (no_error told_ k (calls.kept k at).0);
    keeps = tt;
    goes = calls.goes;
  }
    where
      no_error : (b : Body) (k : Halt) → Ok b ≡ Err k → ⊥
      no_error b k e = cc e

pub not_kept : (halt : Option Halt) (h : Halt) → halt ≡ None → halt ≡ Some h → ⊥
not_kept halt h none some = cc (sym none ∙ some)

-- WHAT ANSWERS SAY

abbrev owner_in_of : Body → Option MemId
owner_in_of (OwnerIs x) = x
owner_in_of other = None

pub same_owner_in : {x y : Option MemId} → OwnerIs x ≡ OwnerIs y → x ≡ y
same_owner_in e = ap owner_in_of e

abbrev areas_in_of : Body → List Area
areas_in_of (AreasAre x) = x
areas_in_of other = []

pub same_areas_in : {x y : List Area} → AreasAre x ≡ AreasAre y → x ≡ y
same_areas_in e = ap areas_in_of e

abbrev size_in_of : Body → ℕ
size_in_of (SizeIs x) = x
size_in_of other = 0

pub same_size_in : {x y : ℕ} → SizeIs x ≡ SizeIs y → x ≡ y
same_size_in e = ap size_in_of e

abbrev bytes_in_of : Body → List ℕ
bytes_in_of (FileBytes x) = x
bytes_in_of other = []

pub same_bytes_in : {x y : List ℕ} → FileBytes x ≡ FileBytes y → x ≡ y
same_bytes_in e = ap bytes_in_of e

abbrev name_in_of : Body → Option FileNo
name_in_of (NameIs x) = x
name_in_of other = None

pub same_name_in : {x y : Option FileNo} → NameIs x ≡ NameIs y → x ≡ y
same_name_in e = ap name_in_of e

abbrev names_in_of : Body → List NameEntry
names_in_of (Names x) = x
names_in_of other = []

pub same_names_in : {x y : List NameEntry} → Names x ≡ Names y → x ≡ y
same_names_in e = ap names_in_of e

pub is_line : (p : Option Perms) (page : List ℕ) (n : ℕ) (body : Body) → body ≡ line_answer p page n → IsLine body
is_line None page n body is = (None, is)
is_line (Some perms) page n body is = (Some (record { perms = perms; bytes = take 64 (drop (n % 64 * 64) page) }), is)

pub is_made : (file : Option FileNo) (f : Files) (body : Body) → body ≡ made_reply file f → IsMade body
is_made (Some file) f body is = (Some file, is)
is_made None f body is = by (is_file_room f) is
  where
    by : (b : Bool) → body ≡ cond b (NameIs (Some (record { 0 = f.next }))) (Refused why.NoRoom) → IsMade body
    by true is = (Some (record { 0 = f.next }), is)
    by false is = (None, is)
