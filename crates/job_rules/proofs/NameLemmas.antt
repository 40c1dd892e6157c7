-- Tables of names.
use Rattle.std.proofs.Common.{◌≡◌, ℕ, cond, List, [], ◌∷◌, ◌++◌, map, Some, refl, ap, ◌∙◌}
use Rattle.std.proofs.lemmas.List.{map-append}
use Rattle.std.specs.Map as map
use Rattle.std.specs.Str.{bytes_eq}
use denote.Ref.{Bor}
use Rattle.job_rules.specs.declared.names.Named.{Named}
use Rattle.job_rules.specs.Known.{Known, lookup, seen}

-- a table of borrowed names finds what the list of names finds
pub lookup_view : (name : List ℕ) (entries : List (Bor (List ℕ) × Named)) → lookup name (map seen entries) ≡ map.lookup (λ k. bytes_eq name k.now) entries
lookup_view name [] = refl
lookup_view name (e ∷ entries) = ap (cond (bytes_eq name e.0.now) (Some e.1)) (lookup_view name entries)

-- a new entry is seen as the new last name
pub insert_view : (old new : List (Bor (List ℕ) × Named)) (known : Known) (name : Bor (List ℕ)) (named : Named) → map seen old ≡ known → new ≡ old ++ (name, named) ∷ [] → map seen new ≡ known ++ (name.now, named) ∷ []
insert_view old new known name named is added = ap (map seen) added ∙ map-append seen old ((name, named) ∷ []) ∙ ap (λ k. k ++ (name.now, named) ∷ []) is
