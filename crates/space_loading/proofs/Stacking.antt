-- The start stack, page by page.
use Rattle.std.proofs.Common.{◌≡◌, ℕ, suc, ◌+◌, ◌-◌, ◌%◌, ◌≤◌, ◌<◌, sym, ◌∙◌, ap, subst, List, [], ◌∷◌, ◌++◌, length, take, drop, append_assoc, drop-drop, IsSome, arith}
use Rattle.lego_base.specs.Space.{perms_of}
use Rattle.space_rules.specs.Mapped.{stack_page, stack_pages}
use Rattle.space_rules.specs.Standing.{IsWithinStack}
use Rattle.space_rules.specs.Pages.{pages_met}
use Rattle.linux_model.specs.Effects.{Effect, Fills}
use Rattle.linux_model.specs.Held.{Held}
use Rattle.linux_model.specs.Loading.{cut}
use Rattle.call_machine.specs.Lawful.{Lawful}
use Rattle.space_loading.proofs.Filling.{fill_maps_nothing}

-- the pages of the stack are mapped
abbrev pub Mapped : {X : Type 0} (held : X → Held) → X → ℕ → Type 0
Mapped held a pid = (page : ℕ) → stack_page ≤ page → page < stack_page + stack_pages → IsSome (perms_of ((held a).space pid).areas page)

-- what is left, starting at a byte
abbrev pub left : ℕ → ℕ → List ℕ → ℕ → List Effect
left pid sp bytes done = cut pid (pages_met (sp + done) (length bytes - done)) (sp + done) (drop done bytes)

-- the fills of the bytes before one were done
pub record Stacking {X : Type 0} (held : X → Held) (does : X → X → List Effect → Type 0) (a b : X) (pid sp : ℕ) (bytes : List ℕ) (done : ℕ) : Type 0 where
  pub effects : List Effect
  pub did : does a b effects
  pub whole : effects ++ left pid sp bytes done ≡ cut pid (pages_met sp (length bytes)) sp bytes
  pub within : done ≤ length bytes
  pub mapped : Mapped held b pid

module _ {X : Type 0} (held : X → Held) (does stops : X → X → List Effect → Type 0) (laws : Lawful held does stops) (pid sp : ℕ) (bytes : List ℕ) (within : IsWithinStack sp bytes) where
  abbrev room : ℕ → ℕ
  room done = 4096 - (sp + done) % 4096

  abbrev fill : ℕ → Effect
  fill done = Fills pid (sp + done) (take (room done) (drop done bytes))

  -- the same, as the code has it
  abbrev code_fill : ℕ → Effect
  code_fill done = Fills pid (sp + done) (take (done + room done - done) (drop done bytes))

  code_is : (done : ℕ) → code_fill done ∷ [] ≡ fill done ∷ []
  code_is done =
      let size : done + room done - done ≡ room done = omega arith in
      ap (λ (n : ℕ). Fills pid (sp + done) (take n (drop done bytes)) ∷ []) size

  -- the rest begins with a fill
  next_left : (done : ℕ) → done < length bytes → left pid sp bytes done ≡ fill done ∷ left pid sp bytes (done + room done)
  next_left done h =
      let ends : sp + length bytes ≡ 274877841408 = within.ends in
      let pages : pages_met (sp + done) (length bytes - done) ≡ suc (pages_met (sp + (done + room done)) (length bytes - (done + room done))) = omega (arith, h, ends) in
      let at : sp + done + room done ≡ sp + (done + room done) = omega arith in
      ap (λ (n : ℕ). cut pid n (sp + done) (drop done bytes)) pages
      ∙ (λ i. fill done ∷ cut pid (pages_met (sp + (done + room done)) (length bytes - (done + room done))) (at i) (drop-drop (room done) done bytes i))

  pub room_is : (done : ℕ) → done < length bytes → done + room done ≤ length bytes
  room_is done h =
      let ends : sp + length bytes ≡ 274877841408 = within.ends in
      omega (arith, h, ends)

  -- one page more
  pub goes_on : (a b c : X) (done : ℕ) → done < length bytes → Stacking held does a b pid sp bytes done → does b c (code_fill done ∷ []) → Stacking held does a c pid sp bytes (done + room done)
  goes_on a b c done h f code =
      let d : does b c (fill done ∷ []) = subst (does b c) (code_is done) code in record {
        effects = f.effects ++ fill done ∷ [];
        did = laws.both a b c f.effects (fill done ∷ []) f.did d;
        whole = append_assoc f.effects (fill done ∷ []) (left pid sp bytes (done + room done)) ∙ ap (λ (es : List Effect). f.effects ++ es) (sym (next_left done h)) ∙ f.whole;
        within = room_is done h;
        mapped = λ page low high. subst (λ (areas : _). IsSome (perms_of areas page)) (sym (ap (λ (h : Held). (h.space pid).areas) (laws.holds b c (fill done ∷ []) d) ∙ fill_maps_nothing pid _ _ (held b))) (f.mapped page low high);
      }

  -- a stop in a page
  pub stopped : (a b c : X) (done : ℕ) → done < length bytes → Stacking held does a b pid sp bytes done → stops b c (code_fill done ∷ []) → stops a c (cut pid (pages_met sp (length bytes)) sp bytes)
  stopped a b c done h f code =
      let s : stops b c (fill done ∷ []) = subst (stops b c) (code_is done) code in
      let all : f.effects ++ (fill done ∷ left pid sp bytes (done + room done)) ≡ cut pid (pages_met sp (length bytes)) sp bytes = ap (λ (es : List Effect). f.effects ++ es) (sym (next_left done h)) ∙ f.whole in
      subst (stops a c) all (laws.stops_then a b c f.effects (fill done ∷ left pid sp bytes (done + room done)) f.did (laws.stops_front b c (fill done ∷ []) (left pid sp bytes (done + room done)) s))
