use Rattle.std.proofs.Common.{◌∙◌, subst, List, rules}
use Rattle.std.specs.List.{All}
use Rattle.dpl_spec_split.specs.declared.Rect.{Rect}
use Rattle.dpl_spec_split.specs.Loops.{AreRectsWithin, farthest}
use Rattle.dpl_spec_split.specs.Squares.{Covers}
use Rattle.dpl_spec_split.proofs.SideLaws.{some_zones}
use Rattle.dpl_slabs.specs.Parts.{union_of}
use Rattle.dpl_cut.proofs.Cuts.{is_cut}
use Rattle.dpl_cut.proofs.Keys.{keys_within}
use Rattle.dpl_cut.proofs.cut_features.Goals as goal

pub returns-clause-cut : goal.returns-clause-cut
returns-clause-cut c = λ layer marks are fixed. (
  c.args.features,
  search rules,
  λ p completed. is_cut marks c.args.spacing c.args.overlap layer c.args.features c.args.marked.now c.in_ok-zones.zones.items p are
      c.in_ok-zones.ensures fixed (completed.zones ∙ c.in_ok-pieces.ensures.zones) (c.in_ok-pieces.ensures.pieces p completed),
)

pub returns-clause-keys : goal.returns-clause-keys
returns-clause-keys c = λ p key completed. keys_within c.requires.features.0 c.args.features c.in_ok-zones.zones.items p key
    c.requires.features.1
    (subst (λ (fs : List (List Rect)). All (AreRectsWithin farthest) fs) c.features.view_is c.features.invariant.within)
    (c.in_ok-pieces.ensures.pieces p completed)

pub bare_pieces-requires-clause-zones : goal.bare_pieces-requires-clause-zones
bare_pieces-requires-clause-zones c = (
  c.args.spacing,
  c.args.overlap,
  c.requires.overlap,
  some_zones c.args.spacing c.args.overlap (union_of c.args.features) c.args.features (Covers c.args.marked.now) c.in_ok-zones.zones.items c.in_ok-zones.ensures,
)
