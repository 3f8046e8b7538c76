-- A past that ends with a touch, or with a removal.
use Rattle.std.proofs.lemmas.Bool.{lt-leb}
use Rattle.std.proofs.Common.{◌≡◌, ◌<◌, ◌&&◌, [], ◌∷◌, ◌++◌, ◌∙◌, ℕ, List, None, Option, Some, ap, nat_le, not, refl, true}
use Rattle.std.proofs.lemmas.Bool.{cond-true, eq-eqb, lt-leb}
use Rattle.cache_tags.specs.CacheRule.{Past, Removed, Touched, is_uncrowded, since_after, since_touch}
use Rattle.cache_tags.specs.Laws.{RemovedIsGone, TouchedIsThere}
use Rattle.lego_base.specs.Keys.{Key, same_key}

since_last : (x : Key) (past : List Past) (e : Past) (so : Option (List Past)) → since_touch x (past ++ e ∷ []) so ≡ since_after x e (since_touch x past so)
since_last x [] e so = refl
since_last x (f ∷ past) e so = since_last x past e (since_after x f so)

same_self : (x : Key) → same_key x x ≡ true
same_self x = λ i. eq-eqb x.pid x.pid refl i && eq-eqb x.number x.number refl i

touched : (x : Key) (so : Option (List Past)) → since_after x (Touched x) so ≡ Some []
touched x None = cond-true (same_key x x) (Some []) None (same_self x)
touched x (Some past) = cond-true (same_key x x) (Some []) (Some (past ++ Touched x ∷ [])) (same_self x)

removed : (x : Key) (so : Option (List Past)) → since_after x (Removed x) so ≡ None
removed x None = refl
removed x (Some past) = cond-true (same_key x x) None (Some (past ++ Removed x ∷ [])) (same_self x)

room : (ways : ℕ) → 0 < ways → not (nat_le ways 0) ≡ true
room ways some = ap not (lt-leb ways 0 some)

pub touched-is-there : TouchedIsThere
touched-is-there c past x some = ap (is_uncrowded c x) (since_last x past (Touched x) None ∙ touched x (since_touch x past None)) ∙ room c.ways some

pub removed-is-gone : RemovedIsGone
removed-is-gone c past x = ap (is_uncrowded c x) (since_last x past (Removed x) None ∙ removed x (since_touch x past None))
