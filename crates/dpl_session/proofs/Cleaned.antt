-- A clean window has the same slabs and labels in both layers.
use Rattle.std.proofs.Common.{◌≡◌, ◌∙◌, ◌<◌, ◌≤◌, ℕ, List, [], length, get_or, subst, sym, ap, arith}
use Rattle.std.specs.Prelude.{◌↔◌, None, pos}
use Rattle.std.proofs.lemmas.Int.{ints}
use Rattle.std.proofs.lemmas.List.{ext_get_or, get_or_default}
use Rattle.dpl_spec_split.specs.declared.Pt.{Pt}
use Rattle.dpl_spec_split.specs.declared.Rect.{Rect}
use Rattle.dpl_spec_split.specs.declared.Spacing.{Spacing}
use Rattle.dpl_spec_split.specs.declared.Zone.{Zone}
use Rattle.dpl_spec_split.specs.Squares.{Region, Covers, Has, SameSquares}
use Rattle.dpl_spec_split.specs.Slabs.{IsCanonical}
use Rattle.dpl_spec_split.specs.Components.{Linked}
use Rattle.dpl_spec_split.specs.Zones.{part_at}
use Rattle.dpl_spec_split.specs.Pieces.{IsOwner, without}
use Rattle.dpl_spec_split.specs.Decomposition.{Cut, IsCut}
use Rattle.dpl_spec_split.proofs.ComponentLaws.{Linked-trans, Linked-sym}
use Rattle.dpl_spec_split.proofs.SquareLaws.{SameSquares-sym, SameSquares-trans}
use Rattle.dpl_spec_split.proofs.WholeLaws.{part-unique, slabs-unique}
use Rattle.dpl_piece.proofs.CornerLaws.{zip-at}
use Rattle.dpl_slabs.specs.Parts.{union_of}
use Rattle.dpl_session.specs.declared.window.Window.{Window}
use Rattle.dpl_session.specs.Clean.{IsClean}
use Rattle.dpl_session.specs.Windows.{IsFirstWith, IsWindowOf, owner_at, slab_at, within}

pub same_rest : (w : Rect) (a : Region) (zones : List Zone) (b : Region) (others : List Zone) → IsClean w a zones b others
    → SameSquares (within w (without a zones)) (within w (without b others))
same_rest w a zones b others clean p = (
  λ ((in_a, clear), has). (((clean.squares p has).0 in_a, λ z. clear ((clean.zoned p has in_a).1 z)), has),
  λ ((in_b, clear), has). (let in_a = (clean.squares p has).1 in_b in ((in_a, λ z. clear ((clean.zoned p has in_a).0 z)), has)),
)

within_same : (w : Rect) (a b : Region) → SameSquares a b → SameSquares (within w a) (within w b)
within_same w a b same p = (λ (x, has). ((same p).0 x, has), λ (x, has). ((same p).1 x, has))

-- the lower left square of slab i
corner_of : (rs : List Rect) (i : ℕ) → IsCanonical rs → i < length rs → (p : Pt) × slab_at rs i p
corner_of rs i canonical i_in =
    let d : Rect = record { x0 = pos 0; y0 = pos 0; x1 = pos 0; y1 = pos 0 } in
    let r = get_or rs i d in
    let solid = canonical.solid i d i_in in
    let wide = solid.wide in
    let tall = solid.tall in
    (record { x = r.x0; y = r.y0 }, (r, i_in, get_or_default rs i r d i_in, record { left = omega (arith, ints); right = wide; low = omega (arith, ints); high = tall }))

pub slab_covers : (rs : List Rect) (i : ℕ) (p : Pt) → slab_at rs i p → Covers rs p
slab_covers rs i p (r, i_in, is, has) = (i, r, i_in, is, has)

-- two pieces have one owner exactly where their squares share a feature
pub owners_linked : (spacing : Spacing) (overlap : ℕ) (layer : Region) (c : Cut) → IsCut None spacing overlap layer c → (a b : ℕ) (p q : Pt) → a < length c.pieces → b < length c.pieces
    → part_at c.pieces a p → part_at c.pieces b q → (get_or c.owners a 0 ≡ get_or c.owners b 0) ↔ Linked layer p q
owners_linked spacing overlap layer c cut a b p q a_in b_in in_a in_b =
    let mine = zip-at (IsOwner c.features) c.pieces c.owners a [] 0 cut.pieces.owned a_in in
    let theirs = zip-at (IsOwner c.features) c.pieces c.owners b [] 0 cut.pieces.owned b_in in
    let whole = cut.features.whole (get_or c.owners a 0) [] mine.0 in
    let other = cut.features.whole (get_or c.owners b 0) [] theirs.0 in
    let to_p : Linked layer whole.0 p = (whole.2 p).0 (mine.1 p in_a) in
    let to_q : Linked layer other.0 q = (other.2 q).0 (theirs.1 q in_b) in (
      λ same. (
          let in_one : part_at c.features (get_or c.owners a 0) q = subst (λ n. part_at c.features n q) (sym same) (theirs.1 q in_b) in
          Linked-trans layer (Linked-sym layer to_p) ((whole.2 q).0 in_one)),
      λ linked. part-unique layer c.features (get_or c.owners a 0) (get_or c.owners b 0) q cut.features mine.0 theirs.0
          ((whole.2 q).1 (Linked-trans layer to_p linked)) (theirs.1 q in_b),
    )

same_first : (f g : ℕ → ℕ) (n i k l : ℕ) → i < n → ((j : ℕ) → j < n → (f j ≡ f i) ↔ (g j ≡ g i)) → IsFirstWith f i k → IsFirstWith g i l → k ≡ l
same_first f g n i k l i_in same a b =
    let k_up = a.upto in
    let l_up = b.upto in
    let below : l ≤ k = b.first k ((same k (omega (arith, k_up, i_in))).0 a.same) in
    let above : k ≤ l = a.first l ((same l (omega (arith, l_up, i_in))).1 b.same) in
    omega (arith, below, above)

module _ (spacing : Spacing) (overlap : ℕ) (before after : List Rect) (c d : Cut) (c_is : IsCut None spacing overlap (Covers before) c)
    (d_is : IsCut None spacing overlap (Covers after) d)
    (w : Rect) (x y : Window) (x_of : IsWindowOf c.pieces c.owners w x) (y_of : IsWindowOf d.pieces d.owners w y)
    (clean : IsClean w (Covers before) c.zones (Covers after) d.zones) where
  same_slabs : x.slabs ≡ y.slabs
  same_slabs =
      let mine : SameSquares (within w (union_of c.pieces)) (within w (without (Covers before) c.zones)) = within_same w _ _ c_is.pieces.components.together in
      let theirs : SameSquares (within w (union_of d.pieces)) (within w (without (Covers after) d.zones)) = within_same w _ _ d_is.pieces.components.together in
      let across : SameSquares (within w (union_of c.pieces)) (within w (union_of d.pieces)) = SameSquares-trans _ _ _ mine
      (SameSquares-trans _ _ _ (same_rest w (Covers before) c.zones (Covers after) d.zones clean) (SameSquares-sym _ _ theirs)) in
      slabs-unique (within w (union_of d.pieces)) x.slabs y.slabs (record { canonical = x_of.slabs.canonical; covers = SameSquares-trans _ _ _ x_of.slabs.covers across }) y_of.slabs

  same_owners : (i j : ℕ) → i < length x.slabs → j < length x.slabs → (owner_at c.owners x.names j ≡ owner_at c.owners x.names i) ↔
      (owner_at d.owners y.names j ≡ owner_at d.owners y.names i)
  same_owners i j i_in j_in =
      let (p, p_in) = corner_of x.slabs j x_of.slabs.canonical j_in in
      let (q, q_in) = corner_of x.slabs i x_of.slabs.canonical i_in in
      let p_there : slab_at y.slabs j p = subst (λ s. slab_at s j p) same_slabs p_in in
      let q_there : slab_at y.slabs i q = subst (λ s. slab_at s i q) same_slabs q_in in
      let i_there : i < length y.slabs = subst (λ (s : List Rect). i < length s) same_slabs i_in in
      let j_there : j < length y.slabs = subst (λ (s : List Rect). j < length s) same_slabs j_in in
      let p_w : Has w p = ((x_of.slabs.covers p).0 (slab_covers x.slabs j p p_in)).1 in
      let q_w : Has w q = ((x_of.slabs.covers q).0 (slab_covers x.slabs i q q_in)).1 in
      let mine = owners_linked spacing overlap (Covers before) c c_is (get_or x.names j 0) (get_or x.names i 0) p q (x_of.names.known j j_in)
      (x_of.names.known i i_in) (x_of.names.lies j p p_in) (x_of.names.lies i q q_in) in
      let theirs = owners_linked spacing overlap (Covers after) d d_is (get_or y.names j 0) (get_or y.names i 0) p q (y_of.names.known j j_there)
      (y_of.names.known i i_there) (y_of.names.lies j p p_there) (y_of.names.lies i q q_there) in
      let across = clean.features p q p_w q_w in
      (λ e. theirs.1 (across.0 (mine.0 e)), λ e. mine.1 (across.1 (theirs.0 e)))

  same_labels : x.labels ≡ y.labels
  same_labels =
      let many : length x.labels ≡ length y.labels = x_of.labels.each ∙ (ap length same_slabs ∙ sym y_of.labels.each) in
      ext_get_or 0 x.labels y.labels many (λ i i_in. (
      let here : i < length x.slabs = subst (λ n. i < n) x_of.labels.each i_in in
      let there : i < length y.slabs = subst (λ (s : List Rect). i < length s) same_slabs here in
      same_first (owner_at c.owners x.names) (owner_at d.owners y.names) (length x.slabs) i (get_or x.labels i 0) (get_or y.labels i 0) here (λ j j_in. same_owners i j here j_in)
      (x_of.labels.first i here) (y_of.labels.first i there)))

  pub same_window : (x.slabs ≡ y.slabs) × (x.labels ≡ y.labels)
  same_window = (same_slabs, same_labels)
