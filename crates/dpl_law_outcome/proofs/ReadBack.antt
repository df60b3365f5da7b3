-- A file of two masks, read back, holds just the two masks.
use Rattle.std.proofs.Common.{◌≡◌, ◌≢◌, ℕ, ◌<◌, List, [], ◌∷◌, ◌++◌, refl, sym, subst, ap, ◌∙◌, append_assoc}
use Rattle.std.specs.Prelude.{◌↔◌}
use Rattle.std.specs.List.{Contains}
use Rattle.std.proofs.lemmas.List.Elements.{All-contains}
use Rattle.dpl_spec_split.specs.declared.Rect.{Rect}
use Rattle.dpl_spec_split.specs.Slabs.{IsSolid}
use Rattle.dpl_spec_format.specs.Tree.{Library, Structure, frame_of}
use Rattle.dpl_spec_format.specs.Layout.{Holds}
use Rattle.dpl_masks.specs.Bytes.{boundary_bytes, boundaries_bytes, closing_bytes, file_bytes}
use Rattle.dpl_layer.specs.Reading.{frame_bytes}
use Rattle.dpl_law_outcome.specs.ReadBack.{AreMasksOf, IsMask}
use Rattle.dpl_law_outcome.proofs.Layers.{Shape, IsGoodShape, on_layer, shapes_of, both_shapes, layer-is, top-is, bodies-both, first-mask, second-mask, all-shapes}
use Rattle.dpl_law_outcome.proofs.Boundaries.{shapes_bytes}
use Rattle.dpl_law_outcome.proofs.Whole.{library_made, top_made, file-holds}
use Rattle.dpl_law_outcome.proofs.Fronts.{front-whole}

mask-bytes : (layer : ℕ) (rs : List Rect) → shapes_bytes (shapes_of layer rs) ≡ boundaries_bytes layer rs
mask-bytes layer [] = refl
mask-bytes layer (r ∷ rs) = ap (λ x. boundary_bytes layer r ++ x) (mask-bytes layer rs)

bytes-append : (ss ts : List Shape) → shapes_bytes (ss ++ ts) ≡ shapes_bytes ss ++ shapes_bytes ts
bytes-append [] ts = refl
bytes-append (s ∷ ss) ts = ap (λ x. boundary_bytes s.layer s.rect ++ x) (bytes-append ss ts)
    ∙ sym (append_assoc (boundary_bytes s.layer s.rect) (shapes_bytes ss) (shapes_bytes ts))

-- the bytes of both masks and of the end
both-bytes : (la lb : ℕ) (a b : List Rect) → shapes_bytes (both_shapes la lb a b) ++ closing_bytes ≡ boundaries_bytes la a ++ (boundaries_bytes lb b ++ closing_bytes)
both-bytes la lb a b =
    ap (λ x. x ++ closing_bytes) (bytes-append (shapes_of la a) (shapes_of lb b))
    ∙ append_assoc (shapes_bytes (shapes_of la a)) (shapes_bytes (shapes_of lb b)) closing_bytes
    ∙ (λ i. mask-bytes la a i ++ (mask-bytes lb b i ++ closing_bytes))

good : (slabs : List Rect) (layer : ℕ) (r : Rect) → IsMask slabs → Contains slabs r → IsGoodShape (on_layer layer r)
good slabs layer r mask r_in = record { solid = All-contains IsSolid slabs r mask.canonical.solid r_in; near = mask.within r r_in }

both-ways : {A B C : Type 0} → A ↔ B → B ↔ C → A ↔ C
both-ways p q = (λ x. q.0 (p.0 x), λ z. p.1 (q.1 z))

pub read-back : (bytes : List ℕ) (lib : Library) (s : Structure) (la lb : ℕ) (a b : List Rect) → Holds bytes lib
    → Contains lib.structures s → la ≢ lb → la < 65536 → lb < 65536 → IsMask a → IsMask b
    → AreMasksOf (file_bytes (frame_bytes (frame_of lib s)) la lb a b) la lb a b
read-back bytes lib s la lb a b held s_in apart la_in lb_in a_is b_is =
    let f = front-whole bytes lib s held s_in in
    let shapes : List Shape = both_shapes la lb a b in
    let fits : (t : Shape) → Contains shapes t → t.layer < 65536 = all-shapes (λ t. t.layer < 65536) la lb a b (λ r r_in. la_in) (λ r r_in. lb_in) in
    let fine : (t : Shape) → Contains shapes t → IsGoodShape t = all-shapes IsGoodShape la lb a b (λ r r_in. good a la r a_is r_in) (λ r r_in. good b lb r b_is r_in) in
    let read : Library = library_made lib.header lib.bgnlib lib.libname lib.units s.bgnstr s.strname f.header.0 f.bgnlib.0 f.libname.0
    f.units.0 f.bgnstr.0 f.strname.0 f.header.1 f.bgnlib.1 f.libname.1 f.units.1 f.bgnstr.1 f.strname.1 f.strname.2 shapes fits in
    let top : Structure = top_made lib.header lib.bgnlib lib.libname lib.units s.bgnstr s.strname f.header.0 f.bgnlib.0 f.libname.0
    f.units.0 f.bgnstr.0 f.strname.0 f.header.1 f.bgnlib.1 f.libname.1 f.units.1 f.bgnstr.1 f.strname.1 f.strname.2 shapes fits in
    let holds = file-holds lib.header lib.bgnlib lib.libname lib.units s.bgnstr s.strname f.header.0 f.bgnlib.0 f.libname.0 f.units.0
    f.bgnstr.0 f.strname.0 f.header.1 f.bgnlib.1 f.libname.1 f.units.1 f.bgnstr.1 f.strname.1 f.strname.2 shapes fits in
    record {
      lib = read;
      holds = subst (λ x. Holds (frame_bytes (frame_of lib s) ++ x) read) (both-bytes la lb a b) holds;
      top = top;
      one = refl;
      found = top-is read top refl _ shapes refl;
      only = bodies-both _ la lb a b;
      first = λ p. both-ways (layer-is read _ shapes fine refl la p) (first-mask la lb a b p apart);
      second = λ p. both-ways (layer-is read _ shapes fine refl lb p) (second-mask la lb a b p apart);
    }
