-- A text that is read byte by byte.
use Rattle.std.proofs.Common.{◌≡◌, ℕ, suc, ◌+◌, ◌-◌, Bool, true, false, cond, eqb, refl, sym, ◌∙◌, ap, subst, List, [], ◌∷◌, ◌++◌, append_assoc, append-nil, Option, Some, None}
use Rattle.std.proofs.lemmas.Bool.{eqb-true}
use Rattle.lego_base.specs.Space.{Space, permits}
use Rattle.linux_model.specs.Effects.{Effect, Reads, Refused, CopyIn}
use Rattle.linux_model.specs.Held.{Held, held_after_all}
use Rattle.linux_model.specs.Paths.{Text, TextEnd, AtZero, Denied, Long, text_at, text_on}
use Rattle.call_machine.specs.Effects.{copied_in}
use Rattle.call_machine.specs.Lawful.{Lawful}
use Rattle.sys_paths.specs.Texts.{byte_at, told, told_by}
use Rattle.sys_paths.specs.declared.text.Text.TheVariants.{Whole, Denied as NotReadable, Long as TooLong}

-- ---- the first byte of a text

abbrev text_with : List Effect → List ℕ → TextEnd → Text
text_with reads bytes end = record { reads = reads; bytes = bytes; end = end }

abbrev one_copy : Bool → ℕ → ℕ → ℕ → List Effect
one_copy b pid at byte = cond b (Reads CopyIn pid at (byte ∷ []) ∷ []) (Refused CopyIn pid at 1 ∷ [])

copy_still : (b : Bool) (pid at byte : ℕ) (h : Held) → held_after_all (one_copy b pid at byte) h ≡ h
copy_still true pid at byte h = refl
copy_still false pid at byte h = refl

first_denied : (b c : Bool) (pid at byte : ℕ) (more : ℕ → Text) → cond b (Some byte) None ≡ None → text_on b c pid at byte more ≡ text_with (one_copy b pid at byte) [] Denied
first_denied true c pid at byte more e = cc e
first_denied false c pid at byte more e = refl

abbrev unwrap : ℕ → Option ℕ → ℕ
unwrap x None = x
unwrap x (Some y) = y

first_zero : (b c : Bool) (pid at byte x : ℕ) (more : ℕ → Text) → cond b (Some byte) None ≡ Some x → eqb byte 0 ≡ c → x ≡ 0 → text_on b c pid at byte more ≡ text_with (one_copy b pid at byte) [] AtZero
first_zero true true pid at byte x more e test is = refl
first_zero true false pid at byte x more e test is =
    let zero : byte ≡ 0 = ap (unwrap 0) e ∙ is in
    let no : true ≡ false = ap (λ (n : ℕ). eqb n 0) (sym zero) ∙ test in
    cc no
first_zero false c pid at byte x more e test is = cc e

first_more : (b c : Bool) (pid at byte x : ℕ) (more : ℕ → Text) → cond b (Some byte) None ≡ Some x → eqb byte 0 ≡ c → (x ≡ 0 → ⊥) → text_on b c pid at byte more ≡ text_with (one_copy b pid at byte ++ (more (at + 1)).reads) (x ∷ (more (at + 1)).bytes) (more (at + 1)).end
first_more true true pid at byte x more e test isn't = absurd (isn't (sym (ap (unwrap 0) e) ∙ eqb-true byte 0 test))
first_more true false pid at byte x more e test isn't = λ i. text_with (one_copy true pid at byte ++ (more (at + 1)).reads) (ap (unwrap 0) e i ∷ (more (at + 1)).bytes) (more (at + 1)).end
first_more false c pid at byte x more e test isn't = cc e

-- ---- the loop

-- what is still to be read, after what was read, is the text
pub record Reading {X : Type 0} (held : X → Held) (does : X → X → List Effect → Type 0) (a b : X) (pid address most at left : ℕ) (bytes : List ℕ) : Type 0 where
  pub done : List Effect
  pub did : does a b done
  pub reads : (text_at pid ((held a).space pid) most address).reads ≡ done ++ (text_at pid ((held a).space pid) left at).reads
  pub told_bytes : (text_at pid ((held a).space pid) most address).bytes ≡ bytes ++ (text_at pid ((held a).space pid) left at).bytes
  pub told_end : (text_at pid ((held a).space pid) most address).end ≡ (text_at pid ((held a).space pid) left at).end
  pub still : held b ≡ held a

module _ {X : Type 0} (held : X → Held) (does stops : X → X → List Effect → Type 0) (laws : Lawful held does stops) (pid address most : ℕ) (a : X) where
  abbrev space : Space
  space = (held a).space pid

  abbrev whole : Text
  whole = text_at pid space most address

  pub begins : Reading held does a a pid address most address most []
  begins = record { done = []; did = laws.none a; reads = refl; told_bytes = refl; told_end = refl; still = refl }

  module _ (b : X) (at left : ℕ) (bytes : List ℕ) (some : left ≡ suc (left - 1)) (r : Reading held does a b pid address most at left bytes) where
    abbrev rest : ℕ → Text
    rest next = text_at pid space (left - 1) next

    -- the reading of this byte and of what follows
    here : text_at pid space left at ≡ text_on (permits space 1 at 1) (eqb (space.byte at) 0) pid at (space.byte at) rest
    here = ap (λ (n : ℕ). text_at pid space n at) some

    copy : (c : X) → does b c (copied_in ((held b).space pid) pid at 1) → does a c (r.done ++ copied_in space pid at 1)
    copy c d = laws.both a b c r.done (copied_in space pid at 1) r.did (subst (λ (h : Held). does b c (copied_in (h.space pid) pid at 1)) r.still d)

    byte_is : (o : Option ℕ) → o ≡ byte_at ((held b).space pid) at → byte_at space at ≡ o
    byte_is o e = sym (e ∙ ap (λ (h : Held). byte_at (h.space pid) at) r.still)

    ended : (t : Text) → text_at pid space left at ≡ t → (c : X) → t.reads ≡ copied_in space pid at 1 → does b c (copied_in ((held b).space pid) pid at 1) → does a c whole.reads
    ended t is c same d = subst (does a c) (sym (r.reads ∙ ap (λ (t : Text). r.done ++ t.reads) is ∙ ap (λ (es : List Effect). r.done ++ es) same)) (copy c d)

    told_is : (t : Text) → text_at pid space left at ≡ t → told whole ≡ told_by t.end (bytes ++ t.bytes)
    told_is t is = λ i. told_by ((r.told_end ∙ ap (λ (t : Text). t.end) is) i) ((r.told_bytes ∙ ap (λ (t : Text). bytes ++ t.bytes) is) i)

    pub denied : (c : X) → does b c (copied_in ((held b).space pid) pid at 1) → None ≡ byte_at ((held b).space pid) at → does a c whole.reads × (NotReadable ≡ told whole)
    denied c d e =
        let is = here ∙ first_denied (permits space 1 at 1) (eqb (space.byte at) 0) pid at (space.byte at) rest (byte_is None e) in
        (ended _ is c refl d, sym (told_is _ is))

    pub closed : (c : X) (x : ℕ) → does b c (copied_in ((held b).space pid) pid at 1) → Some x ≡ byte_at ((held b).space pid) at → x ≡ 0 → does a c whole.reads × (Whole bytes ≡ told whole)
    closed c x d e ends =
        let is = here ∙ first_zero (permits space 1 at 1) (eqb (space.byte at) 0) pid at (space.byte at) x rest (byte_is (Some x) e) refl ends in
        (ended _ is c refl d, ap Whole (sym (append-nil bytes)) ∙ sym (told_is _ is))

    pub goes_on : (c : X) (x : ℕ) → does b c (copied_in ((held b).space pid) pid at 1) → Some x ≡ byte_at ((held b).space pid) at → (x ≡ 0 → ⊥) → Reading held does a c pid address most (at + 1) (left - 1) (bytes ++ x ∷ [])
    goes_on c x d e isn't =
        let is = here ∙ first_more (permits space 1 at 1) (eqb (space.byte at) 0) pid at (space.byte at) x rest (byte_is (Some x) e) refl isn't in
        record {
          done = r.done ++ copied_in space pid at 1;
          did = copy c d;
          reads = r.reads ∙ ap (λ (t : Text). r.done ++ t.reads) is ∙ sym (append_assoc r.done (copied_in space pid at 1) (rest (at + 1)).reads);
          told_bytes = r.told_bytes ∙ ap (λ (t : Text). bytes ++ t.bytes) is ∙ sym (append_assoc bytes (x ∷ []) (rest (at + 1)).bytes);
          told_end = r.told_end ∙ ap (λ (t : Text). t.end) is;
          still = laws.holds b c (copied_in ((held b).space pid) pid at 1) d ∙ copy_still (permits ((held b).space pid) 1 at 1) pid at (((held b).space pid).byte at) (held b) ∙ r.still;
        }

    pub stopped : (c : X) → stops b c (copied_in ((held b).space pid) pid at 1) → stops a c whole.reads
    stopped c s =
        let t = text_on (permits space 1 at 1) (eqb (space.byte at) 0) pid at (space.byte at) rest in
        subst (stops a c) (sym (r.reads ∙ ap (λ (t : Text). r.done ++ t.reads) here))
        (laws.stops_then a b c r.done t.reads r.did (first_stops (permits space 1 at 1) (eqb (space.byte at) 0) refl (subst (λ (h : Held). stops b c (copied_in (h.space pid) pid at 1)) r.still s)))
      where
        first_stops : (v w : Bool) → permits space 1 at 1 ≡ v → stops b c (one_copy (permits space 1 at 1) pid at (space.byte at)) → stops b c (text_on v w pid at (space.byte at) rest).reads
        first_stops true true is f = subst (λ (v : Bool). stops b c (one_copy v pid at (space.byte at))) is f
        first_stops true false is f = laws.stops_front b c (one_copy true pid at (space.byte at)) (rest (at + 1)).reads (subst (λ (v : Bool). stops b c (one_copy v pid at (space.byte at))) is f)
        first_stops false w is f = subst (λ (v : Bool). stops b c (one_copy v pid at (space.byte at))) is f

    -- whatever was read so far
    pub begun : stops a b whole.reads
    begun = subst (stops a b) (sym r.reads) (laws.stops_then a b b r.done (text_at pid space left at).reads r.did (laws.stops_front b b [] (text_at pid space left at).reads (laws.not_begun b)))

  pub long : (b : X) (at left : ℕ) (bytes : List ℕ) → left ≡ 0 → Reading held does a b pid address most at left bytes → does a b whole.reads × (TooLong ≡ told whole)
  long b at left bytes none r =
      let is : text_at pid space left at ≡ text_with [] [] Long = ap (λ (n : ℕ). text_at pid space n at) none in (
        subst (does a b) (sym (r.reads ∙ ap (λ (t : Text). r.done ++ t.reads) is ∙ append-nil r.done)) r.did,
        sym (λ i. told_by ((r.told_end ∙ ap (λ (t : Text). t.end) is) i) ((r.told_bytes ∙ ap (λ (t : Text). bytes ++ t.bytes) is) i)),
      )
