-- The plain map at rest is a function of what the components hold.
use Rattle.std.specs.Prelude.{◌≡◌}
use Rattle.lego_msg.specs.Track.{Track}
use Rattle.lego_rest.specs.Rest.{AtRest}

-- the same components
pub record SameComponents (t t' : Track) : Type 0 where
  pub shape : t'.shape ≡ t.shape
  pub mems : t'.mems ≡ t.mems
  pub disk : t'.disk ≡ t.disk
  pub owners : t'.owners ≡ t.owners

abbrev pub PlainIsOfComponents : Type 0
PlainIsOfComponents = (t t' : Track) → AtRest t → AtRest t' → SameComponents t t' → t'.plain ≡ t.plain
