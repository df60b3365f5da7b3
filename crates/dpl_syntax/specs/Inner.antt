-- Records that stand between the first record of an element and its ENDEL.
use Rattle.std.specs.Prelude.{◌≡◌, ℕ, Bool, true, not, ◌==◌, ◌&&◌, List, [], ◌∷◌}
use Rattle.dpl_spec_format.specs.Kinds as kinds
use Rattle.dpl_spec_format.specs.Records.{Record}

abbrev pub is_inner : ℕ → Bool
is_inner k =
    not (kinds.begins_element k)
    && (not (k == kinds.endel) && (not (k == kinds.bgnstr) && (not (k == kinds.endstr) && (not (k == kinds.strname) && not (k == kinds.endlib)))))

abbrev pub AreInner : List Record → Type 0
AreInner [] = Unit {0}
AreInner (r ∷ rs) = (is_inner r.kind ≡ true) × AreInner rs
