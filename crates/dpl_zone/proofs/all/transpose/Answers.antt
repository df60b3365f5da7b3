use Rattle.std.proofs.Common.{◌≡◌, ℕ, ◌+◌, ◌≤◌, ◌<◌, List, ◌++◌, length, get_or, set, map, take, drop, ap, ◌∙◌, append-nil, rules}
use Rattle.std.proofs.lemmas.List.{take_all, drop_all}
use Rattle.std.proofs.lemmas.List.Edits.{map_over_more}
use Rattle.dpl_spec_split.specs.declared.Rect.{Rect}
use Rattle.dpl_spec_split.specs.declared.Zone.{Zone}
use Rattle.dpl_spec_split.specs.Zones.{transposed_rect}
use Rattle.dpl_zone.specs.Layers.{transposed_zone}
use Rattle.dpl_zone.proofs.all.transpose.Goals as goal

-- one more zone transposed where it stands
transposed-next : (old zones : List Zone) (i : ℕ) (r t : Zone) → i < length old → zones ≡ map transposed_zone (take i old) ++ drop i old
    → r ≡ get_or zones i r → t ≡ transposed_zone r → set zones i t ≡ map transposed_zone (take (i + 1) old) ++ drop (i + 1) old
transposed-next old zones i r t i_in so_far r_is t_is = ap (set zones i) t_is ∙ map_over_more transposed_zone old zones i r i_in so_far r_is

transposed-all : (old zones : List Zone) (i : ℕ) → length old ≤ i → zones ≡ map transposed_zone (take i old) ++ drop i old → zones ≡ map transposed_zone old
transposed-all old zones i all so_far = so_far ∙ (ap (λ (l : List Zone). map transposed_zone l ++ drop i old) (take_all i old all)
    ∙ (ap (λ (l : List Zone). map transposed_zone old ++ l) (drop_all i old all) ∙ append-nil (map transposed_zone old)))

transposed-at : (old zones : List Zone) (i : ℕ) (z : Zone) (r : Rect) → i < length old → zones ≡ map transposed_zone (take i old) ++ drop i old → z ≡ get_or zones i z → r ≡ transposed_rect z.rect
    → set zones i (record { rect = r; feature = z.feature }) ≡ map transposed_zone (take (i + 1) old) ++ drop (i + 1) old
transposed-at old zones i z r i_in so_far z_is is =
    transposed-next old zones i z _ i_in so_far z_is (ap (λ (t : Rect). let w : Zone = record { rect = t; feature = z.feature } in w) is)

pub loop-i-preserved : goal.loop-i-preserved
loop-i-preserved c = transposed-at c.args.zones.now.items c.loop-i.zones.items c.loop-i.i c.index.result.now c.transposed.result (search rules) c.loop-i.invariant c.index.ensures c.transposed.ensures

pub returns : goal.returns
returns c = transposed-all c.args.zones.now.items c.loop-i.zones.items c.loop-i.i (search rules) c.loop-i.invariant
