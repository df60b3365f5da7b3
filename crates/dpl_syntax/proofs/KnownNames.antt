-- Looking a name up.
use Rattle.std.proofs.Common.{◌≡◌, Bool, true, false, ◌||◌, cond, List, [], ◌∷◌, map, Option, Some, refl, ap, ◌∙◌}
use Rattle.std.specs.Prelude.{is_some}
use Rattle.std.specs.List.{list_any}
use Rattle.std.specs.Map.{lookup}

some_cond : {X : Type 0} (b : Bool) (x : X) (o : Option X) → is_some (cond b (Some x) o) ≡ b || is_some o
some_cond true x o = refl
some_cond false x o = refl

pub found_any : {K N X : Type 0} (name : K → N) (p : K → Bool) (q : N → Bool) → ((k : K) → p k ≡ q (name k)) → (es : List (K × X))
    → is_some (lookup p es) ≡ list_any q (map (λ (e : K × X). name e.0) es)
found_any name p q same [] = refl
found_any name p q same (e ∷ es) =
    some_cond (p e.0) e.1 (lookup p es) ∙ ap (λ (b : Bool). b || is_some (lookup p es)) (same e.0) ∙ ap (λ (b : Bool). q (name e.0) || b) (found_any name p q same es)
