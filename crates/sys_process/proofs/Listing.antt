-- A list of strings that is read address by address.
use Rattle.std.proofs.Common.{◌≡◌, ℕ, zero, suc, ◌+◌, ◌-◌, ◌≤◌, ◌<◌, Bool, true, false, cond, eqb, refl, sym, ◌∙◌, ap, subst, List, [], ◌∷◌, ◌++◌, append_assoc, append-nil, length, length-append, Option, Some, None, Ok, Err, arith}
use Rattle.std.proofs.lemmas.Bool.{eqb-true}
use Rattle.lego_base.specs.declared.sizes.TheConstants.{USER_END}
use Rattle.lego_base.specs.Space.{Space, permits, bytes_at, number_of}
use Rattle.space_rules.specs.Start.{closed, closed_all}
use Rattle.linux_model.specs.Limits.{E2BIG, EFAULT}
use Rattle.linux_model.specs.Effects.{Effect, Reads, Refused, CopyIn}
use Rattle.linux_model.specs.Held.{Held, held_after_all}
use Rattle.linux_model.specs.Paths.{Text, TextEnd, AtZero, Denied, Long, text_at, text_on}
use Rattle.linux_model.specs.ProcessCalls.{Strings, address_on, no_strings, reads_first, string_first, string_on, strings_at, with_string}
use Rattle.linux_model.proofs.Looking.{looking_is_still}
use Rattle.call_machine.specs.Effects.{copied_in}
use Rattle.call_machine.specs.Lawful.{Lawful}
use Rattle.call_machine.proofs.Rows.{held_asked}
use Rattle.call_machine.proofs.Stops.{stops_follow}
use Rattle.sys_paths.specs.Texts.{told_by, told as told_text}
use Rattle.sys_paths.specs.declared.text.Text.{Text as Told}
use Rattle.sys_paths.specs.declared.text.Text.TheVariants.{Whole, Denied as NotReadable, Long as TooLong}
use Rattle.sys_process.specs.Strings.{told, word_at, Counts, StringIs, EndIs}

-- ---- an address

abbrev one_copy : Bool → ℕ → ℕ → List ℕ → List Effect
one_copy b pid at bytes = cond b (Reads CopyIn pid at bytes ∷ []) (Refused CopyIn pid at 8 ∷ [])

copy_still : (b : Bool) (pid at : ℕ) (bytes : List ℕ) (h : Held) → held_after_all (one_copy b pid at bytes) h ≡ h
copy_still true pid at bytes h = refl
copy_still false pid at bytes h = refl

-- what follows an address, by how many more there may be
abbrev more_of : ℕ → Space → ℕ → ℕ → ℕ → ℕ → Strings
more_of pid space at room zero string = no_strings [] 0 room (Some E2BIG)
more_of pid space at room (suc left) string = with_string (text_at pid space room string) left room (λ room'. strings_at pid space left (at + 8) room')

strings_is : (pid : ℕ) (space : Space) (left at room : ℕ) → strings_at pid space left at room ≡ address_on (permits space 1 at 8) (eqb (number_of (bytes_at space at 8)) 0) pid space at left room (more_of pid space at room left)
strings_is pid space zero at room = refl
strings_is pid space (suc left) at room = refl

module _ (pid : ℕ) (space : Space) (at left room : ℕ) (more : ℕ → Strings) where
  abbrev address : ℕ
  address = number_of (bytes_at space at 8)

  abbrev copy : Bool → List Effect
  copy b = one_copy b pid at (bytes_at space at 8)

  denied_at : (b c : Bool) → cond b (Some address) None ≡ None → address_on b c pid space at left room more ≡ no_strings (copy b) left room (Some EFAULT)
  denied_at true c e = cc e
  denied_at false c e = refl

  end_at : (b c : Bool) (x : ℕ) → cond b (Some address) None ≡ Some x → eqb address 0 ≡ c → x ≡ 0 → address_on b c pid space at left room more ≡ no_strings (copy b) left room None
  end_at true true x e test is = refl
  end_at true false x e test is =
      let same : address ≡ x = cc e in
      let no : true ≡ false = ap (λ (n : ℕ). eqb n 0) (sym (same ∙ is)) ∙ test in
      cc no
  end_at false c x e test is = cc e

  on_at : (b c : Bool) (x : ℕ) → cond b (Some address) None ≡ Some x → eqb address 0 ≡ c → (x ≡ 0 → ⊥) → address_on b c pid space at left room more ≡ reads_first (copy b) (more x)
  on_at true true x e test isn't =
      let same : address ≡ x = cc e in
      absurd (isn't (sym same ∙ eqb-true address 0 test))
  on_at true false x e test isn't =
      let same : address ≡ x = cc e in
      ap (λ (n : ℕ). reads_first (copy true) (more n)) same
  on_at false c x e test isn't = cc e

-- ---- a string

-- a text that ends with 0 is shorter than it might be
shorter_on : (b c : Bool) (pid at byte most : ℕ) (more : ℕ → Text) → ((more (at + 1)).end ≡ AtZero → length (more (at + 1)).bytes < most) → (text_on b c pid at byte more).end ≡ AtZero → length (text_on b c pid at byte more).bytes < suc most
shorter_on false c pid at byte most more f e = cc e
shorter_on true true pid at byte most more f e = omega arith
shorter_on true false pid at byte most more f e =
    let h : length (more (at + 1)).bytes < most = f e in
    omega (arith, h)

shorter : (pid : ℕ) (space : Space) (most at : ℕ) → (text_at pid space most at).end ≡ AtZero → length (text_at pid space most at).bytes < most
shorter pid space zero at e = cc e
shorter pid space (suc most) at e = shorter_on (permits space 1 at 1) (eqb (space.byte at) 0) pid at (space.byte at) most (λ next. text_at pid space most next) (shorter pid space most (at + 1)) e

whole_ends : (end : TextEnd) (bytes string : List ℕ) → Whole string ≡ told_by end bytes → (end ≡ AtZero) × (bytes ≡ string)
whole_ends AtZero bytes string e =
    let same : string ≡ bytes = cc e in
    (refl, sym same)
whole_ends Denied bytes string e = cc e
whole_ends Long bytes string e = cc e

denied_ends : (end : TextEnd) (bytes : List ℕ) → NotReadable ≡ told_by end bytes → end ≡ Denied
denied_ends AtZero bytes e = cc e
denied_ends Denied bytes e = refl
denied_ends Long bytes e = cc e

long_ends : (end : TextEnd) (bytes : List ℕ) → TooLong ≡ told_by end bytes → end ≡ Long
long_ends AtZero bytes e = cc e
long_ends Denied bytes e = cc e
long_ends Long bytes e = refl

reads_both : (es fs : List Effect) (s : Strings) → reads_first es (reads_first fs s) ≡ reads_first (es ++ fs) s
reads_both es fs s = λ i. record s { reads = sym (append_assoc es fs s.reads) i }

-- ---- one item

module _ {X : Type 0} (held : X → Held) (does stops : X → X → List Effect → Type 0) (laws : Lawful held does stops) (pid left at room : ℕ) (a b : X) where
  abbrev space : Space
  space = (held a).space pid

  abbrev here : Strings
  here = strings_at pid space left at room

  abbrev first : List Effect
  first = copied_in space pid at 8

  pub address_stops : stops a b first → stops a b here.reads
  address_stops s = subst (λ (t : Strings). stops a b t.reads) (sym (strings_is pid space left at room)) (by (permits space 1 at 8) (eqb (number_of (bytes_at space at 8)) 0) refl)
    where
      by : (v w : Bool) → permits space 1 at 8 ≡ v → stops a b (address_on v w pid space at left room (more_of pid space at room left)).reads
      by true true is = subst (λ (v : Bool). stops a b (one_copy v pid at (bytes_at space at 8))) is s
      by true false is = laws.stops_front a b (one_copy true pid at (bytes_at space at 8)) (more_of pid space at room left (number_of (bytes_at space at 8))).reads (subst (λ (v : Bool). stops a b (one_copy v pid at (bytes_at space at 8))) is s)
      by false w is = subst (λ (v : Bool). stops a b (one_copy v pid at (bytes_at space at 8))) is s

  module _ (read : does a b first) where
    pub address_still : held b ≡ held a
    address_still = laws.holds a b first read ∙ copy_still (permits space 1 at 8) pid at (bytes_at space at 8) (held a)

    pub address_denied : None ≡ word_at space at → EndIs does a b pid space left at room (Some EFAULT)
    address_denied e = record {
      reads = first;
      did = read;
      left_over = left;
      is = strings_is pid space left at room ∙ denied_at pid space at left room (more_of pid space at room left) (permits space 1 at 8) (eqb (number_of (bytes_at space at 8)) 0) (sym e);
      all_left = λ none. refl;
    }

    pub address_ends : (x : ℕ) → Some x ≡ word_at space at → x ≡ 0 → EndIs does a b pid space left at room None
    address_ends x e ends = record {
      reads = first;
      did = read;
      left_over = left;
      is = strings_is pid space left at room ∙ end_at pid space at left room (more_of pid space at room left) (permits space 1 at 8) (eqb (number_of (bytes_at space at 8)) 0) x (sym e) refl ends;
      all_left = λ none. refl;
    }

    module _ (x : ℕ) (e : Some x ≡ word_at space at) (isn't : x ≡ 0 → ⊥) (n : ℕ) (some : left ≡ suc n) (low : at + 8 ≤ USER_END) (c : X) where
      abbrev text : Text
      text = text_at pid space room x

      abbrev rest : ℕ → Strings
      rest room' = strings_at pid space n (at + 8) room'

      goes_on : here ≡ reads_first first (string_on text.end text n room rest)
      goes_on =
          strings_is pid space left at room
          ∙ on_at pid space at left room (more_of pid space at room left) (permits space 1 at 8) (eqb (number_of (bytes_at space at 8)) 0) x (sym e) refl isn't
          ∙ ap (λ (m : ℕ). reads_first first (more_of pid space at room m x)) some

      its_text : (Q : X → X → List Effect → Type 0) → Q b c (text_at pid ((held b).space pid) room x).reads → Q b c text.reads
      its_text Q q = subst (λ (h : Held). Q b c (text_at pid (h.space pid) room x).reads) address_still q

      told_here : (t : Told) → t ≡ told_text (text_at pid ((held b).space pid) room x) → t ≡ told_text text
      told_here t f = f ∙ ap (λ (h : Held). told_text (text_at pid (h.space pid) room x)) address_still

      pub text_stops : stops b c (text_at pid ((held b).space pid) room x).reads → stops a c here.reads
      text_stops s = subst (λ (t : Strings). stops a c t.reads) (sym goes_on) (laws.stops_then a b c first (string_on text.end text n room rest).reads read (by text.end))
        where
          by : (end : TextEnd) → stops b c (string_on end text n room rest).reads
          by AtZero = laws.stops_front b c text.reads (rest (room - (length text.bytes + 1))).reads (its_text stops s)
          by Denied = its_text stops s
          by Long = its_text stops s

      module _ (got : does b c (text_at pid ((held b).space pid) room x).reads) where
        both : does a c (first ++ text.reads)
        both = laws.both a b c first text.reads read (its_text does got)

        pub text_still : held c ≡ held a
        text_still = held_asked held does stops laws b c text.reads (looking_is_still.text pid space room x) (its_text does got) ∙ address_still

        pub string_is : (string : List ℕ) → Whole string ≡ told_text (text_at pid ((held b).space pid) room x) → StringIs does a c pid space left at room string
        string_is string f =
            let ends = whole_ends text.end text.bytes string (told_here (Whole string) f) in
            let one : n ≡ left - 1 = omega (arith, some) in
            let short : length text.bytes < room = shorter pid space room x ends.0 in
            record {
              reads = first ++ text.reads;
              did = both;
              is =
                  goes_on
                  ∙ ap (λ (end : TextEnd). reads_first first (string_on end text n room rest)) ends.0
                  ∙ reads_both first text.reads (string_first text.bytes (rest (room - (length text.bytes + 1))))
                  ∙ λ i. reads_first (first ++ text.reads) (string_first (ends.1 i) (strings_at pid space (one i) (at + 8) (room - (length (ends.1 i) + 1))));
              some = omega (arith, some);
              low = low;
              within = subst (λ (bytes : List ℕ). length bytes < room) ends.1 short;
            }

        pub denied_is : NotReadable ≡ told_text (text_at pid ((held b).space pid) room x) → EndIs does a c pid space left at room (Some EFAULT)
        denied_is f = record {
          reads = first ++ text.reads;
          did = both;
          left_over = n;
          is = goes_on ∙ ap (λ (end : TextEnd). reads_first first (string_on end text n room rest)) (denied_ends text.end text.bytes (told_here NotReadable f));
          all_left = λ none. cc none;
        }

        pub long_is : TooLong ≡ told_text (text_at pid ((held b).space pid) room x) → EndIs does a c pid space left at room (Some E2BIG)
        long_is f = record {
          reads = first ++ text.reads;
          did = both;
          left_over = n;
          is = goes_on ∙ ap (λ (end : TextEnd). reads_first first (string_on end text n room rest)) (long_ends text.end text.bytes (told_here TooLong f));
          all_left = λ none. cc none;
        }

-- ---- the list

abbrev strings_before : List (List ℕ) → Strings → Strings
strings_before strings s = record s { strings = strings ++ s.strings }

closed_more : (strings : List (List ℕ)) (string : List ℕ) → length (closed_all (strings ++ string ∷ [])) ≡ length (closed_all strings) + (length string + 1)
closed_more [] string =
    let one : length (closed string ++ []) ≡ length (closed string) = ap length (append-nil (closed string)) in
    let two : length (closed string) ≡ length string + 1 = length-append string (0 ∷ []) in
    omega (arith, one, two)
closed_more (s ∷ strings) string =
    let whole : length (closed s ++ closed_all (strings ++ string ∷ [])) ≡ length (closed s) + length (closed_all (strings ++ string ∷ [])) = length-append (closed s) (closed_all (strings ++ string ∷ [])) in
    let part : length (closed s ++ closed_all strings) ≡ length (closed s) + length (closed_all strings) = length-append (closed s) (closed_all strings) in
    omega (arith, whole, part, closed_more strings string)

-- what is still to be read, after what was read, is the list
pub record Listing {X : Type 0} (held : X → Held) (does : X → X → List Effect → Type 0) (a b : X) (pid left0 address room0 : ℕ) (strings : List (List ℕ)) (left at room : ℕ) : Type 0 where
  pub done : List Effect
  pub did : does a b done
  pub is : strings_at pid ((held a).space pid) left0 address room0 ≡ reads_first done (strings_before strings (strings_at pid ((held a).space pid) left at room))
  pub still : held b ≡ held a
  pub addresses : length strings + left ≡ left0
  pub bytes : length (closed_all strings) + room ≡ room0

module _ {X : Type 0} (held : X → Held) (does stops : X → X → List Effect → Type 0) (laws : Lawful held does stops) (pid left0 address room0 : ℕ) (a : X) where
  abbrev whole : Strings
  whole = strings_at pid ((held a).space pid) left0 address room0

  pub begins : Listing held does a a pid left0 address room0 [] left0 address room0
  begins = record { done = []; did = laws.none a; is = refl; still = refl; addresses = omega arith; bytes = omega arith }

  module _ (b : X) (strings : List (List ℕ)) (left at room : ℕ) (r : Listing held does a b pid left0 address room0 strings left at room) (c : X) where
    abbrev place : X → Strings
    place x = strings_at pid ((held x).space pid) left at room

    same_place : place b ≡ place a
    same_place = ap (λ (h : Held). strings_at pid (h.space pid) left at room) r.still

    reads_are : whole.reads ≡ r.done ++ (place b).reads
    reads_are = ap (λ (s : Strings). s.reads) r.is ∙ ap (λ (s : Strings). r.done ++ s.reads) (sym same_place)

    pub item_stops : stops b c (place b).reads → stops a c whole.reads
    item_stops s = subst (stops a c) (sym reads_are) (laws.stops_then a b c r.done (place b).reads r.did s)

    pub next : (string : List ℕ) → held c ≡ held b → StringIs does b c pid ((held b).space pid) left at room string → Listing held does a c pid left0 address room0 (strings ++ string ∷ []) (left - 1) (at + 8) (room - (length string + 1))
    next string still q =
        let more : Strings = strings_at pid ((held a).space pid) (left - 1) (at + 8) (room - (length string + 1)) in
        let here : place a ≡ reads_first q.reads (string_first string more) = sym same_place ∙ q.is ∙ ap (λ (h : Held). reads_first q.reads (string_first string (strings_at pid (h.space pid) (left - 1) (at + 8) (room - (length string + 1))))) r.still in
        let one : length (strings ++ string ∷ []) ≡ length strings + 1 = length-append strings (string ∷ []) in
        record {
          done = r.done ++ q.reads;
          did = laws.both a b c r.done q.reads r.did q.did;
          is =
              r.is
              ∙ ap (λ (s : Strings). reads_first r.done (strings_before strings s)) here
              ∙ λ i. record more { reads = sym (append_assoc r.done q.reads more.reads) i; strings = sym (append_assoc strings (string ∷ []) more.strings) i };
          still = still ∙ r.still;
          addresses = omega (arith, one, r.addresses, q.some);
          bytes = omega (arith, closed_more strings string, r.bytes, q.within);
        }

    module _ (fault : Option ℕ) (q : EndIs does b c pid ((held b).space pid) left at room fault) where
      ended : whole ≡ reads_first r.done (strings_before strings (no_strings q.reads q.left_over room fault))
      ended = r.is ∙ ap (λ (s : Strings). reads_first r.done (strings_before strings s)) (sym same_place ∙ q.is)

      pub ended_did : does a c whole.reads
      ended_did = subst (does a c) (sym (ap (λ (s : Strings). s.reads) ended)) (laws.both a b c r.done q.reads r.did q.did)

    pub end_told : EndIs does b c pid ((held b).space pid) left at room None → Ok (record { strings = strings; left = left; room = room }) ≡ told whole
    end_told q = sym (ap told (ended None q) ∙ λ i. Ok (record { strings = append-nil strings i; left = q.all_left refl i; room = room }))

    pub fault_told : (errno : ℕ) → EndIs does b c pid ((held b).space pid) left at room (Some errno) → Err errno ≡ told whole
    fault_told errno q = sym (ap told (ended (Some errno) q))

    pub counts : Counts left0 room0 (record { strings = strings; left = left; room = room })
    counts = record { addresses = r.addresses; bytes = r.bytes }

    pub pushed_stops : (string : List ℕ) → StringIs does b c pid ((held b).space pid) left at room string → stops a c whole.reads
    pushed_stops string q =
        let more : Strings = string_first string (strings_at pid ((held b).space pid) (left - 1) (at + 8) (room - (length string + 1))) in
        item_stops (subst (stops b c) (sym (ap (λ (s : Strings). s.reads) q.is)) (laws.stops_front b c q.reads more.reads ((stops_follow held does stops laws).did b c q.reads q.did)))
