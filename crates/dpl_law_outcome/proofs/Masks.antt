-- The masks of a layer are right.
use Rattle.std.proofs.Common.{◌≡◌, ℕ, Bool, List, [], ◌∷◌, map, refl, sym, ap, subst}
use Rattle.dpl_spec_split.specs.declared.Spacing.{Spacing}
use Rattle.dpl_spec_split.specs.declared.Rect.{Rect}
use Rattle.dpl_spec_split.specs.declared.Zone.{Zone}
use Rattle.dpl_spec_split.specs.Squares.{Covers}
use Rattle.dpl_spec_split.proofs.ComponentLaws.{components-unique}
use Rattle.std.specs.Prelude.{Option}
use Rattle.dpl_spec_split.specs.Marks.{Marks}
use Rattle.dpl_cert.specs.declared.cert.StitchLine.{StitchLine}
use Rattle.dpl_law_split.specs.Masks.{KeepsApart, OverlapAt, rect_at, rects_of}
use Rattle.dpl_law_split.proofs.Cover.{cover}
use Rattle.dpl_law_split.proofs.Apart.{far-on-a, far-on-b}
use Rattle.dpl_law_split.proofs.Overlap.{overlap-at}
use Rattle.dpl_law_split.proofs.Lettering.{lettered, sound}
use Rattle.dpl_answer.specs.Flat.{Painted, Paints, IsFlat}
use Rattle.dpl_law_verdict.specs.Own.{stitch_line}
use Rattle.dpl_law_outcome.specs.Laws.{AreRight}

rects-same : (zones : List Zone) (sides : List (ℕ × ℕ)) (ks : List ℕ) → rects_of zones ks ≡ map (λ (s : StitchLine). s.rect) (map (stitch_line zones sides) ks)
rects-same zones sides [] = refl
rects-same zones sides (k ∷ ks) = ap (λ rs. rect_at zones k ∷ rs) (rects-same zones sides ks)

pub painted-right : (fewer : Bool) (marks : Option Marks) (spacing : Spacing) (overlap : ℕ) (layer : List Rect) (p : Painted)
    → IsFlat fewer marks spacing overlap layer (Paints p) → AreRight spacing layer p
painted-right fewer marks spacing overlap layer p (c, is_c, a) =
    let m = a.masks in
    let masks = lettered fewer marks spacing c m a.are_masks in
    let apart = sound fewer marks spacing c m a.are_masks a.even in
    subst (λ q. AreRight spacing layer q) (sym a.is) (record {
      cover = cover marks spacing overlap (Covers layer) c m is_c masks;
      apart = λ features are. let same = components-unique (Covers layer) c.features features is_c.features are in
          subst (λ fs. KeepsApart spacing fs m.a × KeepsApart spacing fs m.b) same (
            far-on-a marks spacing overlap (Covers layer) c m is_c masks apart,
            far-on-b marks spacing overlap (Covers layer) c m is_c masks apart,
          );
      overlap = subst (λ rs. OverlapAt rs m.a m.b) (rects-same c.zones c.sides m.stitches) (overlap-at marks spacing overlap (Covers layer) c m is_c masks);
    })
