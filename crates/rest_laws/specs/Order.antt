-- Laws of order: lists that rise by their keys still rise after they changed.
use Rattle.std.specs.Prelude.{Bool, List}
use Rattle.lego_base.specs.Keys.{Key, Rises, put, without}
use Rattle.lego_base.specs.declared.records.PageImage.{PageImage}
use Rattle.lego_msg.specs.Maps.{page_key}

abbrev pub PutRises : Type 0
PutRises = (x : PageImage) (pages : List PageImage) → Rises page_key pages →
    Rises page_key (put page_key x pages)

abbrev pub WithoutRises : Type 0
WithoutRises = (test : Key → Bool) (pages : List PageImage) → Rises page_key pages →
    Rises page_key (without page_key test pages)
