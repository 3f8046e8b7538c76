-- Fills, one after the other.
use Rattle.std.proofs.Common.{◌≡◌, ℕ, ◌+◌, refl, sym, ◌∙◌, ap, subst, eqb, List, [], ◌∷◌, ◌++◌, map, append_assoc, append-nil, Some, None, arith}
use Rattle.std.proofs.lemmas.Bool.{eq-eqb, cond-true}
use Rattle.lego_base.specs.Space.{Space, with_bytes, with_space}
use Rattle.elf_image.specs.declared.image.Segment.{Segment}
use Rattle.space_rules.specs.Mapped.{image_areas_of}
use Rattle.space_rules.specs.Pages.{filled_pages}
use Rattle.linux_model.specs.Effects.{Effect, Fills}
use Rattle.linux_model.specs.Held.{Held, held_after}
use Rattle.linux_model.specs.Loading.{load_fills, page_fill}
use Rattle.call_machine.specs.Lawful.{Lawful}
use Rattle.space_loading.specs.Pages.{next_page}
use Rattle.space_loading.proofs.Rising.{rest_from, rest_all, rest_none, rest_next, pages_rise}

-- the space of a process that was set
pub here : (spaces : ℕ → Space) (pid : ℕ) (space : Space) → with_space spaces pid space pid ≡ space
here spaces pid space = cond-true (eqb pid pid) space (spaces pid) (eq-eqb pid pid refl)

-- a fill changes no areas
pub fill_maps_nothing : (pid at : ℕ) (bytes : List ℕ) (h : Held) → ((held_after (Fills pid at bytes) h).space pid).areas ≡ (h.space pid).areas
fill_maps_nothing pid at bytes h = ap (λ (s : Space). s.areas) (here h.space pid (with_bytes (h.space pid) at bytes))

-- the fills of the pages below one were done
pub record Filling {X : Type 0} (held : X → Held) (does : X → X → List Effect → Type 0) (a b : X) (pid : ℕ) (segments : List Segment) (from : ℕ) : Type 0 where
  pub done : List Effect
  pub did : does a b done
  pub whole : done ++ map (page_fill pid segments) (rest_from from (filled_pages segments)) ≡ load_fills pid segments
  pub mapped : ((held b).space pid).areas ≡ image_areas_of segments

module _ {X : Type 0} (held : X → Held) (does stops : X → X → List Effect → Type 0) (laws : Lawful held does stops) (pid : ℕ) (segments : List Segment) where
  pub begins : (a : X) → ((held a).space pid).areas ≡ image_areas_of segments → Filling held does a a pid segments 0
  begins a mapped = record {
    done = [];
    did = laws.none a;
    whole = ap (map (page_fill pid segments)) (rest_all 0 0 (filled_pages segments) (omega arith) (pages_rise segments));
    mapped = mapped;
  }

  -- those from a page on
  abbrev rest : ℕ → List Effect
  rest from = map (page_fill pid segments) (rest_from from (filled_pages segments))

  next_rest : (from page : ℕ) → next_page from (filled_pages segments) ≡ Some page → rest from ≡ page_fill pid segments page ∷ rest (page + 1)
  next_rest from page e = ap (map (page_fill pid segments)) (rest_next from page 0 (filled_pages segments) (pages_rise segments) e)

  -- one page more
  pub goes_on : (a b c : X) (from page : ℕ) → Filling held does a b pid segments from → next_page from (filled_pages segments) ≡ Some page → does b c (page_fill pid segments page ∷ []) → Filling held does a c pid segments (page + 1)
  goes_on a b c from page f e d = record {
    done = f.done ++ page_fill pid segments page ∷ [];
    did = laws.both a b c f.done (page_fill pid segments page ∷ []) f.did d;
    whole = append_assoc f.done (page_fill pid segments page ∷ []) (rest (page + 1)) ∙ ap (λ (es : List Effect). f.done ++ es) (sym (next_rest from page e)) ∙ f.whole;
    mapped = ap (λ (h : Held). (h.space pid).areas) (laws.holds b c (page_fill pid segments page ∷ []) d) ∙ fill_maps_nothing pid _ _ (held b) ∙ f.mapped;
  }

  -- no page more
  pub ends : (a b : X) (from : ℕ) → Filling held does a b pid segments from → next_page from (filled_pages segments) ≡ None → does a b (load_fills pid segments)
  ends a b from f e =
      let all : f.done ≡ load_fills pid segments = sym (append-nil f.done) ∙ ap (λ (es : List Effect). f.done ++ es) (sym (ap (map (page_fill pid segments)) (rest_none from (filled_pages segments) e))) ∙ f.whole in
      subst (does a b) all f.did

  -- a stop in a page
  pub stopped : (a b c : X) (from page : ℕ) → Filling held does a b pid segments from → next_page from (filled_pages segments) ≡ Some page → stops b c (page_fill pid segments page ∷ []) → stops a c (load_fills pid segments)
  stopped a b c from page f e s =
      let all : f.done ++ (page_fill pid segments page ∷ rest (page + 1)) ≡ load_fills pid segments = ap (λ (es : List Effect). f.done ++ es) (sym (next_rest from page e)) ∙ f.whole in
      subst (stops a c) all (laws.stops_then a b c f.done (page_fill pid segments page ∷ rest (page + 1)) f.did (laws.stops_front b c (page_fill pid segments page ∷ []) (rest (page + 1)) s))
