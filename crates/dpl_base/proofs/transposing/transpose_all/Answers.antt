use Rattle.std.proofs.Common.{◌≡◌, ℕ, ◌+◌, ◌≤◌, ◌<◌, List, ◌++◌, length, get_or, set, map, take, drop, ap, ◌∙◌, append-nil, rules}
use Rattle.std.proofs.lemmas.List.{take_all, drop_all}
use Rattle.std.proofs.lemmas.List.Edits.{map_over_more}
use Rattle.dpl_spec_split.specs.declared.Rect.{Rect}
use Rattle.dpl_spec_split.specs.Zones.{transposed_rect}
use Rattle.dpl_base.proofs.transposing.transpose_all.Goals as goal

-- one more rectangle transposed where it stands
transposed-next : (old rects : List Rect) (i : ℕ) (r t : Rect) → i < length old → rects ≡ map transposed_rect (take i old) ++ drop i old
    → r ≡ get_or rects i r → t ≡ transposed_rect r → set rects i t ≡ map transposed_rect (take (i + 1) old) ++ drop (i + 1) old
transposed-next old rects i r t i_in so_far r_is t_is = ap (set rects i) t_is ∙ map_over_more transposed_rect old rects i r i_in so_far r_is

transposed-all : (old rects : List Rect) (i : ℕ) → length old ≤ i → rects ≡ map transposed_rect (take i old) ++ drop i old → rects ≡ map transposed_rect old
transposed-all old rects i all so_far = so_far ∙ (ap (λ l. map transposed_rect l ++ drop i old) (take_all i old all)
    ∙ (ap (λ l. map transposed_rect old ++ l) (drop_all i old all) ∙ append-nil (map transposed_rect old)))

pub loop-i-preserved : goal.loop-i-preserved
loop-i-preserved c = transposed-next c.args.rects.now c.loop-i.rects c.loop-i.i _ c.transposed.result (search rules) c.loop-i.invariant (search rules) c.transposed.ensures

pub returns : goal.returns
returns c = transposed-all c.args.rects.now c.loop-i.rects c.loop-i.i (search rules) c.loop-i.invariant
