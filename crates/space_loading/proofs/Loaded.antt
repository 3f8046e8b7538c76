-- A program that is loaded: its pages, its loads, its stack.
use Rattle.std.proofs.Common.{◌≡◌, ℕ, refl, sym, ◌∙◌, ap, subst, List, [], ◌∷◌, ◌++◌, map, length, IsSome, All}
use Rattle.lego_base.specs.declared.records.Area.{Area}
use Rattle.lego_base.specs.Space.{Space, perms_of}
use Rattle.elf_image.specs.declared.image.Segment.{Segment}
use Rattle.elf_image.specs.Image.{Program, IsBoundedSegment}
use Rattle.space_rules.specs.Mapped.{image_areas_of}
use Rattle.space_rules.specs.Start.{sp_of, stack_bytes}
use Rattle.space_rules.specs.Pages.{filled_pages, pages_met}
use Rattle.linux_model.specs.Effects.{Effect, Maps}
use Rattle.linux_model.specs.Held.{Held, held_after, held_after_all}
use Rattle.linux_model.specs.Loading.{cut, load_fills, loads_program, page_fill}
use Rattle.call_machine.specs.Lawful.{Lawful}
use Rattle.space_loading.proofs.Filling.{fill_maps_nothing, here}
use Rattle.space_loading.proofs.Parts.{stack_mapped}
use Rattle.space_loading.proofs.Stacking.{Mapped}

maps_areas : (pid : ℕ) (areas : List Area) (h : Held) → ((held_after (Maps pid areas) h).space pid).areas ≡ areas
maps_areas pid areas h = ap (λ (s : Space). s.areas) (here h.space pid (record (h.space pid) { areas = areas }))

fills_map_nothing : (pid : ℕ) (segments : List Segment) (pages : List ℕ) (h : Held) → ((held_after_all (map (page_fill pid segments) pages) h).space pid).areas ≡ (h.space pid).areas
fills_map_nothing pid segments [] h = refl
fills_map_nothing pid segments (page ∷ pages) h = fills_map_nothing pid segments pages (held_after (page_fill pid segments page) h) ∙ fill_maps_nothing pid _ _ h

module _ {X : Type 0} (held : X → Held) (does stops : X → X → List Effect → Type 0) (laws : Lawful held does stops) (pid : ℕ) (program : Program) where
  pub image_mapped : (a b : X) (areas : List Area) (segments : List Segment) → areas ≡ image_areas_of program.segments → segments ≡ program.segments → does a b (Maps pid areas ∷ []) → ((held b).space pid).areas ≡ image_areas_of segments
  image_mapped a b areas segments is same maps =
      ap (λ (h : Held). (h.space pid).areas) (laws.holds a b (Maps pid areas ∷ []) maps) ∙ maps_areas pid areas (held a) ∙ is ∙ ap image_areas_of (sym same)

  pub stack_there : (a b : X) (segments : List Segment) → All IsBoundedSegment segments → ((held a).space pid).areas ≡ image_areas_of segments → does a b (load_fills pid segments) → Mapped held b pid
  stack_there a b segments all mapped fills page low high =
      let same : ((held b).space pid).areas ≡ image_areas_of segments = ap (λ (h : Held). (h.space pid).areas) (laws.holds a b (load_fills pid segments) fills) ∙ fills_map_nothing pid segments (filled_pages segments) (held a) ∙ mapped in
      subst (λ (areas : List Area). IsSome (perms_of areas page)) (sym same) (stack_mapped segments page all low high)

  module _ (args env : List (List ℕ)) (areas : List Area) (segments : List Segment) (sp : ℕ) (bytes : List ℕ) (is : areas ≡ image_areas_of program.segments) (same : segments ≡ program.segments) (at : sp ≡ sp_of args env) (stack : bytes ≡ stack_bytes args env program.entry) where
    abbrev fills : List Effect
    fills = cut pid (pages_met sp (length bytes)) sp bytes

    whole : Maps pid areas ∷ (load_fills pid segments ++ fills) ≡ loads_program pid program args env
    whole = λ i. Maps pid (is i) ∷ (load_fills pid (same i) ++ cut pid (pages_met (at i) (length (stack i))) (at i) (stack i))

    pub loaded : (a b c d : X) → does a b (Maps pid areas ∷ []) → does b c (load_fills pid segments) → does c d fills → does a d (loads_program pid program args env)
    loaded a b c d maps loads stacks = subst (does a d) whole (laws.both a b d (Maps pid areas ∷ []) (load_fills pid segments ++ fills) maps (laws.both b c d (load_fills pid segments) fills loads stacks))

    pub stopped_mapping : (a b : X) → stops a b (Maps pid areas ∷ []) → stops a b (loads_program pid program args env)
    stopped_mapping a b s = subst (stops a b) whole (laws.stops_front a b (Maps pid areas ∷ []) (load_fills pid segments ++ fills) s)

    pub stopped_loading : (a b c : X) → does a b (Maps pid areas ∷ []) → stops b c (load_fills pid segments) → stops a c (loads_program pid program args env)
    stopped_loading a b c maps s = subst (stops a c) whole (laws.stops_then a b c (Maps pid areas ∷ []) (load_fills pid segments ++ fills) maps (laws.stops_front b c (load_fills pid segments) fills s))

    pub stopped_stacking : (a b c d : X) → does a b (Maps pid areas ∷ []) → does b c (load_fills pid segments) → stops c d fills → stops a d (loads_program pid program args env)
    stopped_stacking a b c d maps loads s = subst (stops a d) whole (laws.stops_then a b d (Maps pid areas ∷ []) (load_fills pid segments ++ fills) maps (laws.stops_then b c d (load_fills pid segments) fills loads s))
