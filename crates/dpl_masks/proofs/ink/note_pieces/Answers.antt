use Rattle.std.proofs.Common.{◌≡◌, ℕ, ◌<◌, ◌∙◌, subst, refl, sym, false, length, map, get_or, arith}
use Rattle.std.proofs.lemmas.List.{get_or-map, get_or_default}
use Rattle.std.proofs.lemmas.Grind.{common_steps}
use Rattle.dpl_orient.specs.declared.mask.Mask.TheVariants.{A}
use Rattle.dpl_orient.specs.Masks.{is_second}
use Rattle.dpl_masks.specs.declared.ink.Ink.TheVariants.{Uncut}
use Rattle.dpl_masks.specs.Inks.{AreInksTo}
use Rattle.dpl_masks.proofs.InkLaws.{inked-more}
use Rattle.dpl_masks.proofs.ink.note_pieces.Goals as goal

pub loop-k-preserved : goal.loop-k-preserved
loop-k-preserved c =
    let k_in : c.loop-k.k < length c.args.owners.now = omega arith in
    let each = c.requires.each in
    let colour_in : c.loop-k.k < length c.args.colours.now = omega (arith, each, k_in) in
    let same = c.loop-k.invariant.each in
    let below = c.requires.known c.loop-k.k 0 k_in in
    let f_in : get_or c.args.owners.now c.loop-k.k 0 < length c.loop-k.inks.items = omega (arith, below, same) in
    let ink : get_or c.loop-k.inks.items (get_or c.args.owners.now c.loop-k.k 0) Uncut ≡ c.index.result.now = get_or_default
    c.loop-k.inks.items _ Uncut c.index.result.now f_in ∙ sym c.index.ensures in
    record {
      each = grind (arith, common_steps);
      inked = λ wholes h.
          rw (c.inked.ensures, ← ink)
          (inked-more c.args.owners.now (map is_second c.args.colours.now) wholes c.loop-k.k _ c.loop-k.inks.items
          (get_or c.args.owners.now c.loop-k.k 0) _ refl f_in (get_or-map is_second c.args.colours.now c.loop-k.k A false colour_in)
          (c.loop-k.invariant.inked wholes h));
    }

pub returns : goal.returns
returns c = λ wholes h.
    let all : c.loop-k.k ≡ length c.args.owners.now = omega arith in
    subst (λ (n : ℕ). AreInksTo n (length c.args.inks.now.items) c.args.owners.now
    (map is_second c.args.colours.now) wholes c.loop-k.inks.items) all (c.loop-k.invariant.inked wholes h)
