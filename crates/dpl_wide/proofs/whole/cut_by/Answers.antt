use Rattle.std.proofs.Common.{◌∙◌, rules}
use Rattle.std.proofs.lemmas.Result.{IfOk-from_err}
use Rattle.dpl_spec_split.specs.Squares.{Covers}
use Rattle.dpl_spec_split.proofs.SideLaws.{some_zones}
use Rattle.dpl_slabs.specs.Parts.{union_of}
use Rattle.dpl_cut.proofs.Cuts.{is_cut}
use Rattle.dpl_cut.proofs.Keys.{keys_within}
use Rattle.dpl_wide.proofs.whole.cut_by.Goals as goal

pub bare_pieces_by-requires-clause-zones : goal.bare_pieces_by-requires-clause-zones
bare_pieces_by-requires-clause-zones g c κs within = (
  c.args.spacing,
  c.args.overlap,
  c.requires.overlap,
  some_zones c.args.spacing c.args.overlap (union_of c.in_ok-features.features) c.in_ok-features.features (Covers c.args.marked.now) c.in_ok-zones.zones.items c.in_ok-zones.ensures,
)

pub returns-clause-cut : goal.returns-clause-cut
returns-clause-cut g c = λ marks fixed. (
  c.in_ok-features.features,
  search rules,
  λ p completed. is_cut marks c.args.spacing c.args.overlap c.args.layer c.in_ok-features.features c.args.marked.now c.in_ok-zones.zones.items p c.in_ok-features.ensures
      c.in_ok-zones.ensures fixed (completed.zones ∙ c.in_ok-pieces.ensures.zones) (c.in_ok-pieces.ensures.pieces p completed),
)

pub returns-clause-keys : goal.returns-clause-keys
returns-clause-keys g c = λ p key completed. keys_within c.args.layer c.in_ok-features.features c.in_ok-zones.zones.items p key
    c.in_ok-features.ensures
    c.items.ensures.parts.within
    (c.in_ok-pieces.ensures.pieces p completed)

pub returns-in_err-features-clause-cut : goal.returns-in_err-features-clause-cut
returns-in_err-features-clause-cut g c = λ marks fixed. IfOk-from_err _ _ c.from_residual.ensures.0

pub returns-in_err-features-clause-keys : goal.returns-in_err-features-clause-keys
returns-in_err-features-clause-keys g c = IfOk-from_err _ _ c.from_residual.ensures.0

pub returns-in_err-zones-clause-cut : goal.returns-in_err-zones-clause-cut
returns-in_err-zones-clause-cut g c = λ marks fixed. IfOk-from_err _ _ c.from_residual-in_err-zones.ensures.0

pub returns-in_err-zones-clause-keys : goal.returns-in_err-zones-clause-keys
returns-in_err-zones-clause-keys g c = IfOk-from_err _ _ c.from_residual-in_err-zones.ensures.0

pub returns-in_err-pieces-clause-cut : goal.returns-in_err-pieces-clause-cut
returns-in_err-pieces-clause-cut g c = λ marks fixed. IfOk-from_err _ _ c.from_residual-in_err-pieces.ensures.0

pub returns-in_err-pieces-clause-keys : goal.returns-in_err-pieces-clause-keys
returns-in_err-pieces-clause-keys g c = IfOk-from_err _ _ c.from_residual-in_err-pieces.ensures.0
