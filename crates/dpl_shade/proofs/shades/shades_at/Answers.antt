use Rattle.dpl_shade.proofs.ShadingLaws.{shades-at, portion-rises}
use Rattle.dpl_shade.proofs.shades.shades_at.Goals as goal

pub slice_bounds-result-count : goal.slice_bounds-result-count
slice_bounds-result-count c = portion-rises c.args.found.now c.args.at.number _ _ c.requires.start c.requires.end

pub slice_bounds-result-start : goal.slice_bounds-result-start
slice_bounds-result-start c = portion-rises c.args.found.now c.args.at.number _ _ c.requires.start c.requires.end

pub returns : goal.returns
returns c = shades-at c.args.found.now c.args.at.number _ _ c.requires.start c.requires.end
