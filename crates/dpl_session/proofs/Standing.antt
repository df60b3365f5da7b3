-- What a session keeps, and which tiles of another layer aren't among that.
use Rattle.std.proofs.Common.{◌≡◌, ◌∙◌, ◌<◌, ◌≤◌, ℕ, inl, inr, List, [], length, subst, sym, ap, arith}
use Rattle.std.specs.Prelude.{None}
use Rattle.std.specs.List.{All}
use Rattle.std.proofs.lemmas.List.Elements.{All-contains}
use Rattle.dpl_spec_split.specs.declared.Pt.{Pt}
use Rattle.dpl_spec_split.specs.declared.Rect.{Rect}
use Rattle.dpl_spec_split.specs.declared.Spacing.{Spacing}
use Rattle.dpl_spec_split.specs.Squares.{Covers, Has}
use Rattle.dpl_spec_split.specs.Decomposition.{Cut, IsCut}
use Rattle.dpl_spec_split.specs.Pieces.{Conflict, IsOwner}
use Rattle.dpl_slabs.specs.Parts.{union_of}
use Rattle.dpl_piece.proofs.CornerLaws.{zip-at, zip-length}
use Rattle.dpl_piece.specs.Cutting.{CutPieces}
use Rattle.dpl_piece.specs.View.{IsMarkedSet, cut_view}
use Rattle.dpl_tile.specs.Tiles.{IsDoubled, cell_at}
use Rattle.dpl_tile.proofs.CellLaws.{one-cell}
use Rattle.dpl_tile.proofs.TileLaws.{doubled-some}
use Rattle.dpl_session.specs.declared.tile.Tile.{Tile}
use Rattle.dpl_session.specs.declared.verdict.Verdict.{Verdict}
use Rattle.dpl_session.specs.declared.window.Window.{Window}
use Rattle.dpl_session.specs.Answered.{Decides}
use Rattle.dpl_session.specs.Clean.{IsClean, IsDirty}
use Rattle.dpl_session.specs.Kept.{AreCells, AreTilesOf, IsFreshIn, IsStanding, IsTileOf}
use Rattle.dpl_session.specs.Tiles.{IsCell, IsTile, grid, window}
use Rattle.dpl_session.specs.Windows.{AreWhole, IsWindowOf}
use Rattle.dpl_session.proofs.Cleaned.{same_rest, same_window}
use Rattle.dpl_session.proofs.Conflicting.{own_window}

-- the squares of pieces are squares of the layer
pub piece_square : (spacing : Spacing) (overlap : ℕ) (layer : List Rect) (c : Cut) → IsCut None spacing overlap (Covers layer) c → (p : Pt) → union_of c.pieces p → Covers layer p
piece_square spacing overlap layer c is p h = ((is.pieces.components.together p).0 h).0

pub whole_pieces : (spacing : Spacing) (overlap : ℕ) (layer : List Rect) (c : Cut) → IsCut None spacing overlap (Covers layer) c → AreWhole c.pieces
whole_pieces spacing overlap layer c is = (layer, c.zones, is.pieces.components)

pub owners_few : (spacing : Spacing) (overlap : ℕ) (layer : List Rect) (c : Cut) (n : ℕ) → IsCut None spacing overlap (Covers layer) c → length c.features ≡ n
    → All (λ k. k < n) c.owners
owners_few spacing overlap layer c n is many k d k_in =
    let long = zip-length (IsOwner c.features) c.pieces c.owners is.pieces.owned in
    let own = zip-at (IsOwner c.features) c.pieces c.owners k [] d is.pieces.owned (omega (arith, k_in, long)) in
    let here = own.0 in
    omega (arith, here, many)

no_square : (p : Pt) → Covers [] p → ⊥
no_square p (k, r, l, is, has) = omega (arith, l)

pub none_marked : (set : List Rect) → set ≡ [] → IsMarkedSet set None
none_marked set is = subst (λ s. IsMarkedSet s None) (sym is) (λ p. (λ h. absurd (no_square p h), λ h. elim h [ inl a ↦ absurd a | inr b ↦ absurd b ]))

module _ (spacing : Spacing) (overlap : ℕ) (layer after : List Rect) (side other : ℕ) (c : CutPieces) (verdict : Verdict) (tiles : List Tile)
    (old : IsStanding layer spacing overlap side c verdict tiles)
    (cell : Rect) (new : IsFreshIn spacing overlap after tiles other cell) where
  unclean : side ≡ other → IsClean (window spacing.rule cell) (Covers layer) c.zones (Covers after) new.cut.zones → ⊥
  unclean same clean =
      let (features, cut) = old.cut in
      let w = window spacing.rule cell in
      let (at, (p, p_in, has)) = new.fresh.0 in
      let rest = (new.of.pieces.components.together p).0 p_in in
      let (there, inside) = (same_rest w (Covers layer) c.zones (Covers after) new.cut.zones clean p).1 (rest, own_window spacing.rule cell p has) in
      let (t, t_in, t_is) = old.full cell (subst (λ s. IsCell s cell) (sym same) at, (p, (cut.pieces.components.together p).1 there, has)) in
      let (names, x_of) = All-contains (IsTileOf spacing.rule c.parts c.owners) tiles t old.of t_in in
      let x : Window = record { slabs = t.slabs; names = names; labels = t.labels } in
      let mine : IsWindowOf c.parts c.owners w x = subst (λ r. IsWindowOf c.parts c.owners (window spacing.rule r) x) t_is x_of in
      let (slabs, labels) = same_window spacing overlap layer after (cut_view features c) new.cut cut new.of w x new.fresh.1.now mine new.fresh.1.of clean in
      new.fresh.1.missing (t, t_in, t_is, slabs, labels)

  pub dirty : IsDirty spacing overlap layer side after other cell
  dirty = record {
    is = (new.fresh.0.0, (new.fresh.0.1.0, piece_square spacing overlap after new.cut new.of new.fresh.0.1.0 new.fresh.0.1.1, new.fresh.0.1.2));
    first = cut_view old.cut.0 c;
    second = new.cut;
    first_of = old.cut.1;
    second_of = new.of;
    changed = unclean;
  }

-- what is made of a layer's tiles and cells
pub standing : (layer : List Rect) (spacing : Spacing) (overlap tile side : ℕ) (features : List (List Rect)) (c : CutPieces) (verdict : Verdict) (cells : List Rect)
    (tiles : List Tile) (edges : List (ℕ × ℕ))
    → spacing.corner ≤ spacing.rule → 1 ≤ overlap → 1 ≤ tile → IsDoubled tile side → IsCut None spacing overlap (Covers layer) (cut_view features c) → AreCells (Covers layer) side cells
    → AreTilesOf spacing c.parts c.owners cells tiles edges → Decides (Conflict spacing c.parts c.owners) (length c.parts) c.sides verdict
    → IsStanding layer spacing overlap side c verdict tiles
standing layer spacing overlap tile side features c verdict cells tiles edges corner some wide doubled cut laid are decided = record {
  corner = corner;
  some = some;
  wide = doubled-some tile side wide doubled;
  cut = (features, cut);
  decided = decided;
  kept = are.kept;
  of = are.of;
  full = λ cell ((e, is), (p, p_in, has)). (
      let (own, own_in, inside) = laid.full p (piece_square spacing overlap layer (cut_view features c) cut p p_in) in
      let (f, f_is) = All-contains (IsCell side) cells own laid.each own_in in
      let places = one-cell (grid side) e f p (doubled-some tile side wide doubled) (subst (λ r. Has r p) is has) (subst (λ r. Has r p) f_is inside) in
      let same : cell ≡ own = is ∙ (ap (cell_at (grid side)) places ∙ sym f_is) in
      let (t, t_in, t_is) = are.full own own_in (p, p_in, inside) in
      (t, t_in, t_is ∙ sym same));
}

-- a tile whose window isn't as any kept one is one of the layer
pub tile_of : (spacing : Spacing) (overlap : ℕ) (layer : List Rect) (tiles : List Tile) (side : ℕ) (cell : Rect) → IsFreshIn spacing overlap layer tiles side cell
    → IsTile side (Covers layer) cell
tile_of spacing overlap layer tiles side cell
    new = (new.fresh.0.0, (new.fresh.0.1.0, piece_square spacing overlap layer new.cut new.of new.fresh.0.1.0 new.fresh.0.1.1, new.fresh.0.1.2))
