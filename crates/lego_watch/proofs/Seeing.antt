-- What a watch in memory was shown: it added the event, or counted a fault.
use Rattle.std.proofs.Common.{◌≡◌, ◌≤◌, [], ◌∷◌, ◌++◌, ◌∙◌, ℕ, List, Option, Some, ap, append-nil, arith, refl, subst, sym}
use Rattle.lego_base.specs.Counts.{risen}
use Rattle.lego_msg.specs.Watching.{Shown}
use Rattle.lego_msg.specs.declared.event.Event.{Event}
use Rattle.lego_watch.specs.ListWatched.{Seen, next_call}

shown_added : (held : List Event) (e : Event) (n : ℕ) → n ≡ 0 → Shown (Some held) n (Some (held ++ e ∷ [])) n (e ∷ [])
shown_added held e n first = record {
  later = omega arith;
  all = λ calm. refl;
  some = (record { front = e ∷ []; rest = []; whole = refl }, refl);
  none = λ some. absurd (omega (arith, first, some));
}

shown_failed : (held : List Event) (e : Event) (n n' : ℕ) → n' ≡ risen n → n ≤ n' → Shown (Some held) n (Some held) n' (e ∷ [])
shown_failed held e n n' rose later = record {
  later = later;
  all = λ calm. absurd (omega (arith, rose, calm));
  some = (record { front = []; rest = e ∷ []; whole = refl }, ap Some (sym (append-nil held)));
  none = λ some. refl;
}

-- the same for a watch in memory: it counted a call, and then a fault, or it added the event
pub watch_failed : (s s1 s2 : Seen) (e : Event) → s1 ≡ record s { made = next_call s } → s2 ≡ record s1 { faults = risen s1.faults } → s1.faults ≤ s2.faults → Shown (Some s.held) s.faults (Some s2.held) s2.faults (e ∷ [])
watch_failed s s1 s2 e counted rose later =
    let held : s2.held ≡ s.held = ap (λ (s : Seen). s.held) rose ∙ ap (λ (s : Seen). s.held) counted in
    let before : s1.faults ≡ s.faults = ap (λ (s : Seen). s.faults) counted in
    let faults : s2.faults ≡ risen s.faults = ap (λ (s : Seen). s.faults) rose ∙ ap risen before in
    subst (λ (l : List Event). Shown (Some s.held) s.faults (Some l) s2.faults (e ∷ [])) (sym held)
    (shown_failed s.held e s.faults s2.faults faults (omega (arith, later, before)))

pub watch_added : (s s1 s2 : Seen) (e : Event) → s1 ≡ record s { made = next_call s } → s2 ≡ record s1 { held = s1.held ++ e ∷ [] } → s.faults ≡ 0 → Shown (Some s.held) s.faults (Some s2.held) s2.faults (e ∷ [])
watch_added s s1 s2 e counted grew first =
    let held : s2.held ≡ s.held ++ e ∷ [] = ap (λ (s : Seen). s.held) grew ∙ ap (λ (s : Seen). s.held ++ e ∷ []) counted in
    let faults : s2.faults ≡ s.faults = ap (λ (s : Seen). s.faults) grew ∙ ap (λ (s : Seen). s.faults) counted in
    subst (λ (p : List Event × ℕ). Shown (Some s.held) s.faults (Some p.0) p.1 (e ∷ [])) (λ i. (sym held i, sym faults i))
    (shown_added s.held e s.faults first)
