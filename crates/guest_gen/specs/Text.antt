-- The text of a generated program's description: compact JSON of the fields that it names, by name.
use Rattle.std.specs.Prelude.{ℕ, List, map, codes}
use Rattle.serde_json.specs.Data.{Data, number, unsigned, string, array, object, member, no_members}
use Rattle.serde_json.specs.View.{items_of}
use Rattle.serde_json.specs.Written.{compact_text}
use Rattle.desc_read.specs.declared.plan.Plan.{Plan}

abbrev pub numbers : List ℕ → Data
numbers list = array (items_of (map (λ n. number (unsigned n)) list))

-- in the order of their names
abbrev pub data_of : Plan → Data
data_of plan = object
    (member (codes "archive") (string plan.archive)
    (member (codes "deliveries") (numbers plan.shape.deliveries)
    (member (codes "frames") (numbers plan.shape.frames)
    (member (codes "init") (string plan.init)
    (member (codes "placement") (numbers (map (λ memory. memory.0) plan.shape.placement))
    (member (codes "report") (string plan.report)
    (member (codes "turns") (numbers plan.turns)
    (member (codes "version") (number (unsigned 1))
    no_members))))))))

unfoldable pub text_of : Plan → List ℕ
text_of plan = compact_text (data_of plan)
